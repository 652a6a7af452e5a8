-- That no response of a sweep is left out, and that the drive is still the same, can be told by Data Length: it counts all that the drive has from the start of the command on,
-- however much of it is sent. So in a sweep of one sheet the Data Length of the next response is that of the one before less the bytes collected from it, and Data Length and the
-- bytes collected before it add up to the same number in every round; and the first response has feature 0 first. What is refused on these grounds was never sent by one box from
-- one sheet. `reply m w` is what the drive m sends for the next command of the record w. Assumes nothing.
use mathlib.Core.Path.{◌≡◌, refl, sym, ap, ◌∙◌}
use mathlib.Core.Logic.{⊎_elim}
use mathlib.Core.Bool.{Bool, true, false}
use mathlib.Core.List.{List, [], ◌∷◌}
use Prim.Native.Nat.{ℕ, ◌+◌, ◌-◌, ◌≤◌, ◌<◌}
use native.Mathlib.Omega.{arith}
use lib.Dec.{leb}
use lib.ListN.{length, length-append}
use Rattle.base.specs.Lists.{flat, keep, Bytes}
use Rattle.base.proofs.Compare.{le_or_lt}
use Rattle.base.proofs.Promise.{Promised, promises, by}
use Rattle.fields.specs.Field.{field}
use Rattle.refusal.specs.declared.Refusal.{Refusal}
use Rattle.text.specs.Drive.{Desc, Drive, Sound}
use Rattle.text.specs.Response.{bytes, feature0, wants, selected, data_length, full, sent, most}
use Rattle.text.specs.Reading.{Walked, stated_length, wholes, last_number}
use Rattle.text.specs.Packing.{size, whole}
use Rattle.text.proofs.Selection.{selected_zero}
use Rattle.text.proofs.Packing.{whole_rest}
use Rattle.text.proofs.Own.{stated_length_sent, walked_sent, wholes_sent, complete_none, cut_some}
use Rattle.layout.specs.Layout.{Sheet}
use Rattle.sheet.specs.Check.{Accepted}
use Rattle.sheet.specs.Meaning.{meaning}
use Rattle.sheet.proofs.Meaning.{meaning_fine}
use Rattle.sweep.specs.declared.Sweep.{Sweep}
use Rattle.sweep.specs.Sweep.{cut, wholes_of, take_fault, advanced, step, Turn, turn, taking, stepped}
use Rattle.sweep.proofs.Cases.{Taken, taken_facts, stepped_none, step_refusal}
use Rattle.sweep.specs.contracts.Sweep.take as sweep_take
use Rattle.sweep.specs.contracts.take_response as take_response
use Rattle.bench.specs.Bench.{reply}
use Rattle.bench.specs.Swept.{room}
use Rattle.bench.proofs.Round.{fits, left, gain, later, cut_yes}
use Rattle.bench.proofs.Rounds.{selected_bytes}
use Rattle.demands.proofs.Named.{named}

-- ---- one response and the next

module _ {m : Drive} (good : Sound m) (rt a f : ℕ) (two : rt < 2) (eight : 8 ≤ a) where
  -- Data Length is 4 and the bytes of all that is wanted from the start on
  stated : (b : ℕ) → 8 ≤ b → (t : ℕ) → field 4 (sent rt t b m) 0 ≡ 4 + length (flat bytes (selected rt t m))
  unfolding stated_length data_length
  stated b e t = stated_length_sent good rt t b e

  -- of the response to the next command, whatever its allocation length: less by what was collected
  pub next_less : 0 < length (fits m rt a f) → (b : ℕ) → 8 ≤ b
      → field 4 (sent rt (later m rt a f) b m) 0 + gain m rt a f ≡ field 4 (sent rt f a m) 0
  next_less h b e = omega (arith, stated b e (later m rt a f), stated a eight f, selected_bytes good rt a f two h)

-- The same of what a reading of the response finds.
pub data_length_next : (s : Sheet) → Bytes s.bytes → Accepted s → (rt a f b : ℕ) → rt < 2 → 8 ≤ a → 8 ≤ b
    → 0 < length (wholes (most a) rt f (sent rt f a (meaning s)))
    → field 4 (sent rt (last_number (wholes (most a) rt f (sent rt f a (meaning s))) + 1) b (meaning s)) 0 + length (flat bytes (wholes (most a) rt f (sent rt f a (meaning s))))
    ≡ field 4 (sent rt f a (meaning s)) 0
data_length_next s y accepted rt a f b two eight e h =
    let good = (meaning_fine s y accepted).sound in
    let q : wholes (most a) rt f (sent rt f a (meaning s)) ≡ fits (meaning s) rt a f = wholes_sent good rt f a eight (most a) (omega arith) (omega arith) in
    rw q (next_less good rt a f two eight (rw q at h) b e)

-- ---- the record

-- the first of what fits is the first of all
number_of_first : List Desc → ℕ
number_of_first [] = 0
number_of_first (d ∷ ds) = d.number

head_zero : (room : ℕ) (x : Desc) (xs : List Desc) → x.number ≡ 0 → (d : Desc) (ds : List Desc) → whole room (x ∷ xs) ≡ d ∷ ds → d.number ≡ 0
unfolding whole number_of_first
head_zero room x xs z d ds = go (leb (size x) room)
  where
    go : (b : Bool) → elim b [ true ↦ x ∷ whole (room - size x) xs | false ↦ [] ] ≡ d ∷ ds → d.number ≡ 0
    go true q = sym (ap number_of_first q) ∙ z
    go false q = absurd (omega (arith, ap length q))

module _ {m : Drive} (good : Sound m) (w : Sweep) (out : List ℕ) (fine : (take_fault w (reply m w) (length out)).number ≡ 0) where
  facts : Taken w (reply m w) (length out)
  facts = taken_facts w (reply m w) (length out) fine

  found : wholes_of w (reply m w) ≡ fits m w.rt w.allocation w.next.0
  unfolding wholes_of
  found = ap (λ (x : Walked). x.found) (walked_sent good w.rt w.next.0 w.allocation facts.eight)

  -- a response that is taken and cut leaves a record with the same sum
  pub sum_stays : cut (reply m w) ≡ true
      → field 4 (reply m (stepped w (reply m w) out).step.sweep) 0 + (stepped w (reply m w) out).step.sweep.collected ≡ field 4 (reply m w) 0 + w.collected
  unfolding taking advanced
  sum_stays c =
      let h : 0 < length (fits m w.rt w.allocation w.next.0) = rw found at (facts.some c) in
      rw (stepped_none w (reply m w) out fine, c, found)
      (omega (arith, next_less good w.rt w.allocation w.next.0 facts.kind facts.eight h w.allocation facts.eight))

  -- the first response has a whole descriptor, and first that of feature 0
  pub first_some : w.next.0 ≡ 0 → 0 < length (wholes_of w (reply m w))
  first_some z = ⊎_elim
      (λ (h : length (full w.rt w.next.0 m) ≤ most w.allocation).
      rw found (omega (
        arith,
        ap length (complete_none w.rt w.next.0 w.allocation m facts.eight h),
        ap length (whole_rest (room w.allocation) (selected w.rt w.next.0 m)),
        length-append (fits m w.rt w.allocation w.next.0) (left m w.rt w.allocation w.next.0),
        ap length (ap (λ (f : ℕ). selected w.rt f m) z ∙ selected_zero w.rt m),
      )))
      (λ (h : most w.allocation < length (full w.rt w.next.0 m)).
      facts.some (cut_yes good w.rt w.allocation w.next.0 facts.eight (cut_some w.rt w.next.0 w.allocation m facts.eight h)))
      (le_or_lt (length (full w.rt w.next.0 m)) (most w.allocation))

  pub first_zero : w.next.0 ≡ 0 → (d : Desc) (ds : List Desc) → wholes_of w (reply m w) ≡ d ∷ ds → d.number ≡ 0
  unfolding feature0
  first_zero z d ds e =
      let q : selected w.rt w.next.0 m ≡ feature0 m.profiles ∷ keep (wants w.rt 0) m.features = ap (λ (f : ℕ). selected w.rt f m) z ∙ selected_zero w.rt m in
      head_zero (room w.allocation) (feature0 m.profiles) (keep (wants w.rt 0) m.features) refl d ds
      (ap (whole (room w.allocation)) (sym q) ∙ sym found ∙ e)

-- ---- the code: of the turn t that the record w makes with the response s

pub record Follows (m : Drive) (w : Sweep) (s : List ℕ) (t : Turn) : Type 0 where
  -- if the drive m sent it for the record's next command, and it was taken and is cut, then what m sends next has a Data Length, bytes 0 to 3, that with the bytes collected by then
  -- gives the same sum as before
  pub sum : s ≡ reply m w → t.step.refusal.number ≡ 0 → cut s ≡ true → field 4 (reply m t.step.sweep) 0 + t.step.sweep.collected ≡ field 4 s 0 + w.collected
  -- if it was the first, it has a whole descriptor, and first that of feature 0
  pub some : s ≡ reply m w → t.step.refusal.number ≡ 0 → w.next.0 ≡ 0 → 0 < length (wholes_of w s)
  pub zero : s ≡ reply m w → t.step.refusal.number ≡ 0 → w.next.0 ≡ 0 → (d : Desc) (ds : List Desc) → wholes_of w s ≡ d ∷ ds → d.number ≡ 0

pub follows : {m : Drive} → Sound m → (w : Sweep) (s out : List ℕ) → Follows m w s (stepped w s out)
follows {m} good w s out = record {
  sum = λ e n c. rw e (sum_stays good w out (accepted e n) (rw e at c));
  some = λ e n z. rw e (first_some good w out (accepted e n) z);
  zero = λ e n z d ds q. first_zero good w out (accepted e n) z d ds (rw e at q);
}
  where
    accepted : s ≡ reply m w → (stepped w s out).step.refusal.number ≡ 0 → (take_fault w (reply m w) (length out)).number ≡ 0
    accepted e n = ap (λ (s : List ℕ). (take_fault w s (length out)).number) (sym e) ∙ ap (λ (r : Refusal). r.number) (sym (step_refusal w s out)) ∙ n

-- Of `Sweep::take` and `take_response`, with a sheet that is accepted: a driver, or `gcf join`, that refuses a response on these grounds never refuses what one box sends from one sheet.
pub take_follows : (sheet : Sheet) → Bytes sheet.bytes → Accepted sheet → Promised sweep_take.ended (λ M 𝓤 𝓛. sweep_take.clauses 𝓛) (λ M 𝓤 𝓛. sweep_take.spec 𝓛)
    (named (λ _ self response out r _ _ out'. Follows (meaning sheet) self response.now (turn r out')))
take_follows sheet y accepted x = promises x.𝓤 (λ o. by (Follows (meaning sheet) _ _) (follows (meaning_fine sheet y accepted).sound _ _ _))

pub take_response_follows : (sheet : Sheet) → Bytes sheet.bytes → Accepted sheet → Promised take_response.ended (λ M 𝓤 𝓛. take_response.clauses 𝓛) (λ M 𝓤 𝓛. take_response.spec 𝓛)
    (named (λ _ «record» response out r record' _ out'. Follows (meaning sheet) «record».now response.now (turn (step r record') out')))
take_response_follows sheet y accepted x = promises x.𝓤 (λ o. by (Follows (meaning sheet) _ _) (follows (meaning_fine sheet y accepted).sound _ _ _))
