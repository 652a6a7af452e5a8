-- From an accepted sheet the response found by index is the full response. Assumes nothing.
use mathlib.Core.Path.{◌≡◌, refl, sym, ap, ◌∙◌}
use mathlib.Core.Bool.{Bool, true, false}
use mathlib.Core.List.{List, ◌++◌, append_assoc}
use Prim.Native.Nat.{ℕ, ◌+◌, ◌-◌, ◌%◌, ◌^◌}
use native.Mathlib.Nat.{mod-eq_of_lt}
use native.Mathlib.Omega.{arith}
use lib.Dec.{eqb}
use lib.ListN.{length, length-append}
use borrow.Author.Tests.{eqb-true, eqb-false}
use Rattle.base.specs.Lists.{flat, keep, Bytes}
use Rattle.text.specs.Response.{bytes, wants, selected, data_length, full}
use Rattle.text.proofs.Selection.{selected_zero, selected_above}
use Rattle.text.proofs.Sizes.{length_full, full_low}
use Rattle.layout.specs.Layout.{Sheet, feature_count}
use Rattle.sheet.specs.Check.{Accepted}
use Rattle.sheet.specs.Facts.{Facts}
use Rattle.sheet.specs.Meaning.{meaning}
use Rattle.sheet.proofs.Accepted.{facts}
use Rattle.sheet.proofs.Meaning.{meaning_fine}
use Rattle.responder.specs.inner.Index.{wanted_end, pieces, zero_part, taken_from, taken_to, taken_size, plan_of, full_bytes}
use Rattle.sheet.proofs.Bisection.{First, first_from_law}
use Rattle.responder.proofs.Zero.{zero_bytes_law, current_from}
use Rattle.responder.proofs.Chosen.{chosen_ordered, chosen_within, chosen}
use Rattle.responder.proofs.Sizes.{entries_size_here, zero_size_law}

-- feature 0 where it is sent, and the features that a request takes
selected_parts : (s : Sheet) (rt sfn : ℕ) → Bytes s.bytes → Accepted s
    → flat bytes (selected rt sfn (meaning s)) ≡ zero_part s.bytes sfn ++ flat bytes (keep (wants rt sfn) (meaning s).features)
unfolding zero_part flat
selected_parts s rt sfn b e = go (eqb sfn 0) refl
  where
    go : (t : Bool) → eqb sfn 0 ≡ t → flat bytes (selected rt sfn (meaning s)) ≡ zero_part s.bytes sfn ++ flat bytes (keep (wants rt sfn) (meaning s).features)
    go true c =
        let z : sfn ≡ 0 = eqb-true sfn 0 c in
        rw (c, zero_part, zero_bytes_law s b e, z) (ap (flat bytes) (selected_zero rt (meaning s)))
    go false c =
        let n : sfn ≡ 0 → ⊥ = eqb-false sfn 0 c in
        rw (c, zero_part) (ap (flat bytes) (selected_above rt sfn (meaning s) (omega arith)))

module _ (s : Sheet) (rt sfn : ℕ) (b : Bytes s.bytes) (e : Accepted s) where
  abbrev from : ℕ
  from = taken_from s sfn

  abbrev to : ℕ
  to = taken_to s rt sfn

  first : First s (feature_count s) sfn from
  unfolding taken_from
  first = first_from_law s (feature_count s) sfn

  last : to ≡ wanted_end rt s (feature_count s) sfn from
  unfolding taken_to
  last = refl

  -- what stands behind the header
  found_parts : flat bytes (selected rt sfn (meaning s)) ≡ zero_part s.bytes sfn ++ pieces rt s from (to - from)
  found_parts = selected_parts s rt sfn b e ∙ ap (λ (r : List ℕ). zero_part s.bytes sfn ++ r) (sym (chosen (facts s b e) rt first last))

  found_size_law : length (flat bytes (selected rt sfn (meaning s))) ≡ taken_size s rt sfn
  unfolding taken_size
  found_size_law =
      let f : Facts s = facts s b e in
      omega (
        arith,
        ap length found_parts,
        length-append (zero_part s.bytes sfn) (pieces rt s from (to - from)),
        zero_size_law s sfn b e,
        entries_size_here f rt from to (chosen_ordered f rt first last) (chosen_within f rt first last),
      )

  pub found_length : length (full rt sfn (meaning s)) ≡ 8 + taken_size s rt sfn
  found_length = omega (arith, length_full rt sfn (meaning s), found_size_law)

  -- Data Length takes four bytes
  found_low : (taken_size s rt sfn + 4) % 2 ^ 32 ≡ 4 + length (flat bytes (selected rt sfn (meaning s)))
  found_low = mod-eq_of_lt (omega (arith, found_length, full_low (meaning_fine s b e).sound rt sfn)) ∙ omega (arith, found_size_law)

  pub found_full : full_bytes s (plan_of s rt sfn from (taken_size s rt sfn)) ≡ full rt sfn (meaning s)
  unfolding plan_of taken_to full full_bytes data_length
  found_full = rw (found_low, found_parts, current_from, append_assoc)
