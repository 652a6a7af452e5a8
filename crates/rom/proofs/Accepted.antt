-- From an accepted image: what the engine finds is what the drive that the image describes sends. Assumes nothing.
use mathlib.Core.Path.{◌≡◌, refl, sym, ap, ap₂, ◌∙◌}
use mathlib.Core.Bool.{Bool, true, false, ◌&&◌}
use mathlib.Core.List.{List, [], ◌∷◌, ◌++◌, append_assoc, append-nil}
use Prim.Native.Nat.{ℕ, zero, suc, ◌+◌, ◌-◌, ◌≤◌, ◌<◌}
use native.Mathlib.Omega.{arith}
use lib.Dec.{leb, eqb}
use lib.ListN.{length, take, drop, length-append, length-drop}
use lib.Seq.{take_all, take-nil, drop-length}
use borrow.Author.Tests.{le-leb, lt-leb, leb-true, leb-false, eqb-true, eqb-false, eq-eqb, ne_eqb}
use Rattle.base.specs.Lists.{flat, keep, All, Bytes}
use Rattle.base.proofs.Lists.{keep_yes, keep_no, keep_every, keep_both, take_more, all_map}
use Rattle.fields.specs.Field.{spell}
use Rattle.fields.proofs.Laws.{spell_field}
use Rattle.refusal.specs.declared.Refusal.{Refusal}
use Rattle.refusal.specs.First.{accept, unless}
use Rattle.refusal.proofs.First.{if_plain, or_else_accept}
use Rattle.lent.specs.Maker.{refusing, makes}
use Rattle.lent.proofs.Maker.{makes_after}
use Rattle.command.specs.Command.{command_fault, rt_of, sfn_of, allocation_of}
use Rattle.text.specs.Drive.{Desc, Asc}
use Rattle.text.specs.Flags.{current}
use Rattle.text.specs.Response.{bytes, wants, selected, current_profile, header, data_length, full, most, sent}
use Rattle.text.specs.Reading.{stated_length, stated_profile, number_at, flags_at, length_at, desc_at}
use Rattle.text.proofs.Again.{bytes_desc_at}
use Rattle.text.proofs.Received.{Stand, length_desc_at, stand_flat, wholes_stand, wholes_asc}
use Rattle.text.proofs.Selection.{asc_above}
use Rattle.reading.specs.Places.{descs, next_at}
use Rattle.reading.proofs.At.{next_is}
use Rattle.reading.proofs.Places.{wholes_end}
use Rattle.reading.proofs.Rest.{keep_above}
use Rattle.capture.specs.Capture.{captured, capture_fault}
use Rattle.capture.proofs.Describes.{described, captured_all, spell_nought}
use Rattle.rom.specs.Rom.{image_answered}
use Rattle.rom.specs.Image.{image_full, image_requested, image_commanded}
use Rattle.rom.specs.inner.Standing.{first_at, from_at, agrees, standing, currents, one_at, wanted_at, wanted, less_passed, head_of}
use Rattle.rom.proofs.Seek.{seek_here, seek_past, seek_none}
use Rattle.rom.proofs.Runs.{currents_on, currents_off, currents_none}

-- from a number on; current
abbrev from_number : ℕ → Desc → Bool
from_number sfn d = leb sfn d.number

abbrev is_current : Desc → Bool
is_current d = eqb (current d.flags) 1

abbrev is_number : ℕ → Desc → Bool
is_number sfn d = eqb d.number sfn

module _ (i : List ℕ) (b : Bytes i) where
  -- ds stand from a place to the end of the image
  record Tail (at : ℕ) (ds : List Desc) : Type 0 where
    stand : Stand i at ds
    to_end : at + length (flat bytes ds) ≡ length i

  -- all that stands from the place on
  tail_flat : {at : ℕ} {ds : List Desc} → Tail at ds → drop at i ≡ flat bytes ds
  tail_flat {at} {ds} t =
      sym (stand_flat i at ds b t.stand ∙ take_all (length (flat bytes ds)) (drop at i) (omega (arith, length-drop at i, t.to_end)))

  -- the first of them, and the others
  module _ {at : ℕ} {d : Desc} {ds : List Desc} (t : Tail at (d ∷ ds)) where
    size_here : length (flat bytes (d ∷ ds)) ≡ 4 + length_at i at + length (flat bytes ds)
    unfolding flat
    size_here = omega (arith, length-append (bytes d) (flat bytes ds), ap (λ (x : Desc). length (bytes x)) t.stand.0, length_desc_at i at t.stand.1)

    tail_here : at < length i
    tail_here = omega (arith, t.to_end, size_here)

    tail_next : Tail (next_at i at) ds
    tail_next =
        let n : next_at i at ≡ at + 4 + length_at i at = next_is i at (next_at i at) tail_here refl in
        rw n (record { stand = t.stand.2; to_end = omega (arith, t.to_end, size_here) })

    tail_bytes : bytes d ≡ standing i at
    tail_bytes = ap bytes t.stand.0 ∙ bytes_desc_at i at b t.stand.1

    tail_number : d.number ≡ number_at i at
    unfolding desc_at
    tail_number = ap (λ (x : Desc). x.number) t.stand.0

    tail_flags : d.flags ≡ flags_at i at
    unfolding desc_at
    tail_flags = ap (λ (x : Desc). x.flags) t.stand.0

  -- ---- the walk to the first wanted one

  record Found (sfn p : ℕ) (es : List Desc) : Type 0 where
    lo : ℕ
    tail : Tail p es
    asc : Asc lo es
    above : All (λ (d : Desc). from_number sfn d ≡ true) es

  seek_tail : (sfn lo at : ℕ) (ds : List Desc) → Asc lo ds → Tail at ds → Found sfn (first_at (from_at sfn i) i at) (keep (from_number sfn) ds)
  unfolding keep flat
  seek_tail sfn lo at [] a t =
      let e : at ≡ length i = omega (arith, t.to_end) in
      rw (seek_none (from_at sfn i) i at (omega arith) ∙ sym e) (record { lo = lo; tail = t; asc = tt; above = tt })
  seek_tail sfn lo at (d ∷ ds) a t = go (leb sfn (number_at i at)) refl (seek_tail sfn (1 + d.number) (next_at i at) ds a.1 (tail_next t))
    where
      go : (x : Bool) → leb sfn (number_at i at) ≡ x → Found sfn (first_at (from_at sfn i) i (next_at i at)) (keep (from_number sfn) ds)
          → Found sfn (first_at (from_at sfn i) i at) (keep (from_number sfn) (d ∷ ds))
      go true e r =
          let l : sfn ≤ d.number = omega (arith, leb-true sfn (number_at i at) e, tail_number t) in
          let q : All (λ (x : Desc). from_number sfn x ≡ true) (d ∷ ds) =
          (le-leb sfn d.number l, all_map (λ (x : Desc). 1 + d.number ≤ x.number) (λ (x : Desc). from_number sfn x ≡ true) (λ x k. le-leb sfn x.number (omega arith)) ds (asc_above (1 + d.number) ds a.1)) in
          rw (seek_here (from_at sfn i) i at (tail_here t) e, keep_every (from_number sfn) (d ∷ ds) q) (record { lo = lo; tail = t; asc = a; above = q })
      go false e r =
          rw (seek_past (from_at sfn i) i at (tail_here t) e, keep_no (from_number sfn) d ds (lt-leb sfn d.number (omega (arith, leb-false sfn (number_at i at) e, tail_number t)))) r

  -- ---- the current ones

  currents_tail : (at : ℕ) (ds : List Desc) → Tail at ds → currents i at ≡ flat bytes (keep is_current ds)
  unfolding keep flat agrees
  currents_tail at [] t = currents_none i at (omega (arith, t.to_end))
  currents_tail at (d ∷ ds) t = go (is_current d) refl (currents_tail (next_at i at) ds (tail_next t))
    where
      go : (x : Bool) → is_current d ≡ x → currents i (next_at i at) ≡ flat bytes (keep is_current ds) → currents i at ≡ flat bytes (keep is_current (d ∷ ds))
      go true e r =
          currents_on i at (tail_here t) (ap (λ (f : ℕ). eqb (current f) 1) (sym (tail_flags t)) ∙ e)
          ∙ ap₂ (λ (x y : List ℕ). x ++ y) (sym (tail_bytes t)) r
          ∙ sym (ap (flat bytes) (keep_yes is_current d ds e))
      go false e r =
          currents_off i at (tail_here t) (ap (λ (f : ℕ). eqb (current f) 1) (sym (tail_flags t)) ∙ e)
          ∙ r
          ∙ sym (ap (flat bytes) (keep_no is_current d ds e))

  -- ---- what is wanted, where the first one numbered sfn or higher is found

  module _ (sfn p : ℕ) (es : List Desc) (f : Found sfn p es) where
    -- RT 0
    wanted_all : wanted_at 0 sfn i p ≡ flat bytes es
    unfolding wanted_at one_at
    wanted_all = tail_flat f.tail

    -- RT 1
    wanted_current : wanted_at 1 sfn i p ≡ flat bytes (keep is_current es)
    unfolding wanted_at
    wanted_current = currents_tail p es f.tail

  -- RT 2
  two : (rt sfn p : ℕ) → wanted_at (suc (suc rt)) sfn i p ≡ elim (eqb (number_at i p) sfn) [ true ↦ standing i p | false ↦ [] ]
  unfolding wanted_at one_at
  two rt sfn p = rw (ne_eqb (suc (suc rt)) 1 (λ z. omega arith), wanted_at, ne_eqb (suc (suc rt)) 0 (λ z. omega arith), one_at)

  wanted_number : (rt sfn p : ℕ) (es : List Desc) → Found sfn p es → wanted_at (suc (suc rt)) sfn i p ≡ flat bytes (keep (is_number sfn) es)
  unfolding keep flat
  wanted_number rt sfn p [] f =
      let p-end : p ≡ length i = omega (arith, f.tail.to_end) in
      let e : standing i p ≡ [] = rw (ap (λ (k : ℕ). drop k i) p-end ∙ drop-length i) (take-nil (4 + length_at i p)) in
      two rt sfn p ∙ go (eqb (number_at i p) sfn) e
    where
      go : (x : Bool) → standing i p ≡ [] → ◌≡◌ {A = List ℕ} (elim x [ true ↦ standing i p | false ↦ [] ]) []
      go true e = e
      go false e = refl
  wanted_number rt sfn p (d ∷ es) f = two rt sfn p ∙ go (eqb (number_at i p) sfn) refl
    where
      go : (x : Bool) → eqb (number_at i p) sfn ≡ x → elim x [ true ↦ standing i p | false ↦ [] ] ≡ flat bytes (keep (is_number sfn) (d ∷ es))
      go true e =
          let n : d.number ≡ sfn = tail_number f.tail ∙ eqb-true _ _ e in
          sym (
          ap (flat bytes) (keep_yes (is_number sfn) d es (eq-eqb d.number sfn n) ∙ ap (λ (xs : List Desc). d ∷ xs) (keep_above sfn (1 + d.number) es (omega arith) f.asc.1))
          ∙ append-nil (bytes d) ∙ tail_bytes f.tail
          )
      go false e =
          let l : sfn ≤ d.number = leb-true sfn d.number f.above.0 in
          let k : d.number ≡ sfn → ⊥ = λ z. eqb-false _ _ e (sym (tail_number f.tail) ∙ z) in
          sym (ap (flat bytes) (keep_no (is_number sfn) d es (ne_eqb d.number sfn k) ∙ keep_above sfn (1 + d.number) es (omega arith) f.asc.1))

-- ---- from an accepted image

-- a command's refusal has no place
command_plain : (c : List ℕ) → (command_fault c).place ≡ 0
unfolding command_fault
command_plain c = if_plain _ _ _ (if_plain _ _ _ (if_plain _ _ _ refl))

keep_less : (t : Desc → Bool) (ds : List Desc) → length (flat bytes (keep t ds)) ≤ length (flat bytes ds)
unfolding keep flat
keep_less t [] = omega arith
keep_less t (d ∷ ds) = go (t d) refl (keep_less t ds)
  where
    go : (x : Bool) → t d ≡ x → length (flat bytes (keep t ds)) ≤ length (flat bytes ds) → length (flat bytes (keep t (d ∷ ds))) ≤ length (bytes d ++ flat bytes ds)
    go true e r = rw (keep_yes t d ds e) (omega (arith, length-append (bytes d) (flat bytes (keep t ds)), length-append (bytes d) (flat bytes ds)))
    go false e r = rw (keep_no t d ds e) (omega (arith, length-append (bytes d) (flat bytes ds)))

-- one numbered sfn is numbered sfn or higher
number_from : (sfn : ℕ) (d : Desc) → is_number sfn d ≡ (from_number sfn d && is_number sfn d)
number_from sfn d = go (is_number sfn d) refl
  where
    go : (x : Bool) → is_number sfn d ≡ x → is_number sfn d ≡ (from_number sfn d && is_number sfn d)
    go true e = let n : d.number ≡ sfn = eqb-true d.number sfn e in rw (e, le-leb sfn d.number (omega arith)) refl
    go false e = rw e (never (from_number sfn d))
      where
        never : (y : Bool) → false ≡ (y && false)
        never true = refl
        never false = refl

module _ (i : List ℕ) (b : Bytes i) (ok : (capture_fault i).number ≡ 0) where
  found : (sfn : ℕ) → Found i b sfn (first_at (from_at sfn i) i 8) (keep (from_number sfn) (descs i))
  found sfn =
      let c = (described i ok).holds in
      seek_tail i b sfn 0 8 (descs i) (wholes_asc 65534 0 0 i) (record { stand = wholes_stand 65534 0 0 i; to_end = wholes_end 0 0 i 65534 c.read c.complete })

  wanted_kept : (rt sfn : ℕ) → wanted rt sfn i ≡ flat bytes (keep (wants rt sfn) (descs i))
  unfolding wanted wants
  wanted_kept zero sfn = wanted_all i b sfn _ _ (found sfn)
  wanted_kept (suc zero) sfn = wanted_current i b sfn _ _ (found sfn) ∙ ap (flat bytes) (keep_both is_current (from_number sfn) (wants 1 sfn) (λ d. refl) (descs i))
  wanted_kept (suc (suc rt)) sfn = wanted_number i b rt sfn _ _ (found sfn) ∙ ap (flat bytes) (keep_both (is_number sfn) (from_number sfn) (wants (suc (suc rt)) sfn) (number_from sfn) (descs i))

  wanted_selected : (rt sfn : ℕ) → wanted rt sfn i ≡ flat bytes (selected rt sfn (captured (descs i)))
  unfolding selected
  wanted_selected rt sfn = wanted_kept rt sfn ∙ ap (λ (ds : List Desc). flat bytes (keep (wants rt sfn) ds)) (sym (captured_all i b ok))

  -- what is wanted leaves room for the header
  wanted_room : (rt sfn : ℕ) → 8 + length (wanted rt sfn i) ≤ length i
  wanted_room rt sfn =
      let c = (described i ok).holds in
      omega (arith, ap length (wanted_kept rt sfn), keep_less (wants rt sfn) (descs i), wholes_end 0 0 i 65534 c.read c.complete)

  header_is : (size : ℕ) → 8 + size ≤ length i → head_of i size ≡ header (4 + size) (current_profile (captured (descs i)).profiles)
  unfolding head_of less_passed header stated_length stated_profile captured
  header_is size room =
      let c = (described i ok).holds in
      let n : stated_length i - (length i - (8 + size)) ≡ 4 + size = omega (arith, c.complete) in
      let y : 0 ∷ 0 ∷ [] ≡ take 2 (drop 4 i) = spell_nought ∙ ap (spell 2) (sym c.spare) ∙ spell_field 2 i 4 b (omega arith) in
      let w : spell 2 (stated_profile i) ≡ take 2 (drop 6 i) = spell_field 2 i 6 b (omega arith) in
      rw (n, c.found, ← c.current, ← take_more i 4 2 2, ← y, ← w) (sym (append_assoc (spell 4 (4 + size)) (0 ∷ 0 ∷ []) (spell 2 (stated_profile i))))

  image_full_here : (rt sfn : ℕ) → image_full i rt sfn ≡ full rt sfn (captured (descs i))
  unfolding image_full full data_length
  image_full_here rt sfn =
      ap (λ (h : List ℕ). h ++ wanted rt sfn i) (header_is (length (wanted rt sfn i)) (wanted_room rt sfn))
      ∙ rw (wanted_selected rt sfn) refl

  requested_is : (rt sfn a : ℕ) (d : List ℕ) → image_requested i rt sfn a d ≡ makes accept 12 (sent rt sfn a (captured (descs i))) d
  unfolding image_requested sent
  requested_is rt sfn a d = ap (λ (xs : List ℕ). makes accept 12 (take (most a) xs) d) (image_full_here rt sfn)

  pub image_accepted : (c d : List ℕ) → image_commanded i c d ≡ makes (command_fault c) 12 (sent (rt_of c) (sfn_of c) (allocation_of c) (captured (descs i))) d
  unfolding image_commanded
  image_accepted c d =
      let xs : List ℕ = sent (rt_of c) (sfn_of c) (allocation_of c) (captured (descs i)) in
      ap (unless (command_fault c) (refusing d)) (requested_is (rt_of c) (sfn_of c) (allocation_of c) d)
      ∙ sym (makes_after (command_fault c) accept 12 xs d)
      ∙ ap (λ (r : Refusal). makes r 12 xs d) (or_else_accept (command_fault c) (command_plain c))

-- ---- the checked entry

-- the image's refusal, or what the command is answered
pub answered_after : (i c d : List ℕ)
    → image_answered i c d ≡ unless (capture_fault i) (refusing d) (makes (command_fault c) 12 (sent (rt_of c) (sfn_of c) (allocation_of c) (captured (descs i))) d)
unfolding image_answered
answered_after i c d = makes_after (capture_fault i) (command_fault c) 12 (sent (rt_of c) (sfn_of c) (allocation_of c) (captured (descs i))) d
