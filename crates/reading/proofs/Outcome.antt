-- A scan is a refusal of the header or of the walk, or the walk's numbers. Assumes nothing.
use mathlib.Core.Path.{◌≡◌, sym, ap, ◌∙◌}
use mathlib.Core.Bool.{Bool, true, false}
use mathlib.Core.List.{List}
use Prim.Native.Nat.{ℕ, ◌+◌, ◌≤◌}
use native.Mathlib.Nat.{zero-add}
use lib.Dec.{leb, eqb}
use lib.ListN.{length}
use Rattle.base.specs.Lists.{flat}
use Rattle.fields.specs.Field.{field}
use Rattle.refusal.specs.declared.Refusal.{Refusal}
use Rattle.refusal.specs.First.{accept}
use Rattle.text.specs.declared.Feature.{Feature}
use Rattle.text.specs.Response.{bytes}
use Rattle.text.specs.Reading.{number_at, stated_length, stated_profile, header_rule, walk, walked, read_fault, taken, wholes, last_number}
use Rattle.refusal.proofs.First.{or_else_none, or_else_fault, unless_none, unless_fault}
use Rattle.text.proofs.Walk.{header_rule_zero, wholes_refused, wholes_accepted}
use Rattle.text.proofs.Received.{reading_fault, reading_none}
use Rattle.reading.specs.declared.Walk.{Walk}
use Rattle.reading.specs.declared.Walk.TheVariants.{Refused, Whole}
use Rattle.reading.specs.declared.Scanned.{Scanned}
use Rattle.reading.specs.declared.ScanJudged.{ScanJudged}
use Rattle.reading.specs.Scan.{scanned}
use Rattle.reading.specs.declared.Stop.{Stop}
use Rattle.reading.specs.Stop.{nowhere, feature_at, standing, stop_place, stopped}
use Rattle.reading.specs.Judged.{odd_in}
use Rattle.reading.specs.inner.Tally.{refusal, tally}
use Rattle.reading.proofs.Tally.{last_start, tally_refused, tally_whole}

-- an accepted header leaves room for the walk
pub scan_room : (limit rt received stated : ℕ) (r : Refusal) → r ≡ header_rule limit rt received stated → r.number ≡ 0
    → (8 ≤ received) × (received ≤ 65534)
scan_room limit rt received stated r q k =
    let f = header_rule_zero limit rt received stated (rw (← q) k) in
    (f.eight, f.most)

abbrev scanned_as : Scanned → ℕ → ScanJudged
scanned_as a n = record { scan = a; odd = n }

pub both_scanned : {a b : Scanned} {n m : ℕ} → a ≡ b → n ≡ m → scanned_as a n ≡ scanned_as b m
both_scanned p q = λ i. record { scan = p i; odd = q i }

module _ (limit rt sfn : ℕ) (s : List ℕ) where
  scanned_fault : (r : Refusal) → r ≡ read_fault limit rt sfn s → (r.number ≡ 0 → ⊥) → refusal r ≡ scanned limit rt sfn s
  unfolding scanned refusal last_number
  scanned_fault r q k =
      let f : (read_fault limit rt sfn s).number ≡ 0 → ⊥ = rw (← q) k in
      rw (q, reading_fault limit rt sfn s f, wholes_refused limit rt sfn s f)

  none_odd : (r : Refusal) → r ≡ read_fault limit rt sfn s → (r.number ≡ 0 → ⊥) → 0 ≡ odd_in (wholes limit rt sfn s)
  unfolding odd_in
  none_odd r q k = sym (ap odd_in (wholes_refused limit rt sfn s (rw (← q) k)))

  -- what the code has at hand: the header judged, then the walk
  module _ (stated : ℕ) (r : Refusal) (t : stated ≡ field 4 s 0) (q : r ≡ header_rule limit rt (length s) stated) where
    header_is : r ≡ header_rule limit rt (length s) (stated_length s)
    unfolding stated_length
    header_is = rw (← t) q

    pub scan_header : (r.number ≡ 0 → ⊥) → refusal r ≡ scanned limit rt sfn s
    unfolding read_fault
    scan_header k = scanned_fault r (header_is ∙ sym (or_else_fault _ _ (rw (← header_is) k))) k

    pub stop_header : (r.number ≡ 0 → ⊥) → nowhere ≡ stopped limit rt sfn s
    unfolding stopped
    stop_header k = sym (unless_fault (header_rule limit rt (length s) (stated_length s)) (λ r. nowhere) _ (rw (← header_is) k))

    pub odd_header : (r.number ≡ 0 → ⊥) → 0 ≡ odd_in (wholes limit rt sfn s)
    unfolding read_fault
    odd_header k = none_odd r (header_is ∙ sym (or_else_fault _ _ (rw (← header_is) k))) k

    module _ (k : r.number ≡ 0) (w : Walk) (v : w ≡ tally 0 8 0 (walk (length s) rt sfn (stated + 4) s sfn 8)) where
      walk_is : w ≡ tally 0 8 0 (walked rt sfn s)
      unfolding stated_length walked
      walk_is = rw (← t) v

      fault_is : (walked rt sfn s).fault ≡ read_fault limit rt sfn s
      unfolding read_fault
      fault_is = sym (or_else_none (header_rule limit rt (length s) (stated_length s)) (walked rt sfn s).fault (rw (← header_is) k))

      pub scan_walk : (f : Refusal) (at : ℕ) → w ≡ Refused f at → refusal f ≡ scanned limit rt sfn s
      scan_walk f at h = let g = tally_refused 0 8 0 (walked rt sfn s) f at (sym h ∙ walk_is) in scanned_fault f (g.0 ∙ fault_is) (rw g.0 g.1)

      -- where it stops: at a refusal, or behind the last
      stop_there : (at : ℕ) → at ≡ 8 + length (flat bytes (walked rt sfn s).found) → standing s at ≡ stopped limit rt sfn s
      unfolding stopped stop_place
      stop_there at e = rw e (sym (unless_none (header_rule limit rt (length s) (stated_length s)) (λ r. nowhere) _ (rw (← header_is) k)))

      pub stop_walk : (f : Refusal) (at : ℕ) → w ≡ Refused f at → standing s at ≡ stopped limit rt sfn s
      stop_walk f at h = stop_there at (tally_refused 0 8 0 (walked rt sfn s) f at (sym h ∙ walk_is)).2

      pub stop_taken : (count end : ℕ) (last : Feature) → w ≡ Whole count end last → standing s end ≡ stopped limit rt sfn s
      stop_taken count end last h = stop_there end (tally_whole 0 8 0 (walked rt sfn s) count end last (sym h ∙ walk_is)).2

      -- what is read where nothing is refused
      abbrev scan_of : (profile count end : ℕ) → Feature → Scanned
      scan_of p count end last = record {
        reading = record {
          refusal = accept;
          profile = record { 0 = p };
          data_length = stated;
          count = count;
          end = end;
          complete = eqb (length s) (stated + 4);
        };
        last = last;
      }

      pub scan_taken : (count end : ℕ) (last : Feature) → w ≡ Whole count end last → (p : ℕ) → p ≡ field 2 s 6
          → scan_of p count end last ≡ scanned limit rt sfn s
      unfolding scanned taken stated_length stated_profile
      scan_taken count end last h p m =
          let f = tally_whole 0 8 0 (walked rt sfn s) count end last (sym h ∙ walk_is) in
          let g : (read_fault limit rt sfn s).number ≡ 0 = rw (← fault_is) f.0 in
          rw (reading_none limit rt sfn s g, wholes_accepted limit rt sfn s g, f.1, f.2, f.3, last_start, m, t, zero-add)

      -- how many have odd flags, where the walk found n
      pub odd_walk : (f : Refusal) (at : ℕ) → w ≡ Refused f at → 0 ≡ odd_in (wholes limit rt sfn s)
      odd_walk f at h = let g = tally_refused 0 8 0 (walked rt sfn s) f at (sym h ∙ walk_is) in none_odd f (g.0 ∙ fault_is) (rw g.0 g.1)

      pub odd_taken : (n : ℕ) → n ≡ odd_in (walk (length s) rt sfn (stated + 4) s sfn 8).found → (count end : ℕ) (last : Feature) → w ≡ Whole count end last
          → n ≡ odd_in (wholes limit rt sfn s)
      unfolding stated_length walked
      odd_taken n o count end last h =
          let f = tally_whole 0 8 0 (walked rt sfn s) count end last (sym h ∙ walk_is) in
          let g : (read_fault limit rt sfn s).number ≡ 0 = rw (← fault_is) f.0 in
          let e : n ≡ odd_in (walked rt sfn s).found = rw (← t) o in
          e ∙ sym (ap odd_in (wholes_accepted limit rt sfn s g))

      pub judged_taken : (n : ℕ) → n ≡ odd_in (walk (length s) rt sfn (stated + 4) s sfn 8).found → (count end : ℕ) (last : Feature) → w ≡ Whole count end last → (p : ℕ)
          → p ≡ field 2 s 6
          → scanned_as (scan_of p count end last) n ≡ scanned_as (scanned limit rt sfn s) (odd_in (wholes limit rt sfn s))
      judged_taken n o count end last h p m = both_scanned (scan_taken count end last h p m) (odd_taken n o count end last h)

-- ---- the feature at a place where a walk stopped, by its two cases

module _ (s : List ℕ) (at : ℕ) (r : Bool) (e : r ≡ leb (at + 4) (length s)) where
  pub stand_none : r ≡ false → ◌≡◌ {A = Stop} record { at = at; feature = record { 0 = 0 } } (standing s at)
  unfolding standing feature_at
  stand_none t = ap (λ (b : Bool). record { at = at; feature = record { 0 = elim b [ true ↦ number_at s at | false ↦ 0 ] } }) (sym t ∙ e)

  pub stand_there : (f : Feature) → r ≡ true → f.0 ≡ number_at s at → ◌≡◌ {A = Stop} record { at = at; feature = f } (standing s at)
  unfolding standing feature_at
  stand_there f t q =
      ap (λ (n : ℕ). record { at = at; feature = record { 0 = n } }) q
      ∙ ap (λ (b : Bool). record { at = at; feature = record { 0 = elim b [ true ↦ number_at s at | false ↦ 0 ] } }) (sym t ∙ e)
