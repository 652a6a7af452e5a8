-- No listing is longer than 245,736 bytes, so memory of that length holds any of them whole. Assumes nothing.
use mathlib.Core.Path.{◌≡◌, refl}
use mathlib.Core.Bool.{Bool, true, false}
use mathlib.Core.List.{List, [], ◌∷◌}
use Prim.Native.Nat.{ℕ, zero, suc, ◌+◌, ◌*◌, ◌≤◌, ◌<◌}
use native.Mathlib.Omega.{arith}
use lib.ListN.{length, take, drop, length-append}
use lib.Seq.{take-append_seam}
use lib.Dec.{eqb}
use Rattle.base.specs.Lists.{flat, All, Bytes}
use Rattle.base.proofs.Lists.{all_map, length_flat_le}
use Rattle.lent.specs.Wrote.{Wrote}
use Rattle.lent.proofs.Laws.{front}
use Rattle.text.specs.Flags.{version}
use Rattle.text.specs.Drive.{Desc, Good}
use Rattle.text.specs.Response.{bytes}
use Rattle.text.specs.Reading.{stated_profile, stated_length, stated_end, walked, read_fault}
use Rattle.text.proofs.Sizes.{length_bytes}
use Rattle.text.proofs.Walk.{HeaderFine, read_fault_header}
use Rattle.text.proofs.Again.{walked_good, walked_inside}
use Rattle.listing.specs.Digits.{hex4}
use Rattle.listing.specs.Listing.{words, marks, first_line, line_of, desc_line, ending_line, refused_line, accepted, listing}
use Rattle.listing.proofs.Decimal.{length_decimal}
use Rattle.listing.proofs.Numbers.{read_fault_most}
use Rattle.listing.proofs.Outcome.{listing_fault, listing_none}

length_word : (w v : List ℕ) (ws : List (List ℕ)) → length (words (w ∷ v ∷ ws)) ≡ length w + 1 + length (words (v ∷ ws))
unfolding words
length_word w v ws = simp length-append

length_last : (w : List ℕ) → length (words (w ∷ [])) ≡ length w + 1
unfolding words
length_last w = simp length-append

length_hex4 : (n : ℕ) → length (hex4 n) ≡ 4
unfolding hex4
length_hex4 n = refl

length_marks : (flags : ℕ) → length (marks flags) ≡ 2
unfolding marks
length_marks flags = refl

first_most : (profile received count : ℕ) → received < 100000 → count < 100000 → length (first_line profile received count) ≤ 17
unfolding first_line
first_most profile received count h l =
    simp (length_word, length_last, length_hex4) (omega (arith, length_decimal 4 received h, length_decimal 4 count l))

line_most : (number flags len : ℕ) → len < 1000 → length (line_of number flags len) ≤ 15
unfolding line_of
line_most number flags len h =
    simp (length_word, length_last, length_hex4, length_marks) (omega (arith, length_decimal 1 (version flags) (omega arith), length_decimal 2 len h))

last_most : (complete : Bool) → length (ending_line complete) ≤ 4
unfolding ending_line
last_most true = omega arith
last_most false = omega arith

refused_most : (number : ℕ) → number ≤ 20 → length (refused_line number) ≤ 11
unfolding refused_line
refused_most number h = simp (length_word, length_last) (omega (arith, length_decimal 1 number (omega arith)))

lines_most : (ds : List Desc) → All Good ds → length (flat desc_line ds) ≤ 15 * length ds
unfolding desc_line
lines_most ds g =
    length_flat_le desc_line 15 ds (all_map Good (λ (d : Desc). length (desc_line d) ≤ 15) (λ d h. line_most d.number d.flags (length d.body) (omega (arith, h.short))) ds g)

count_four : (ds : List Desc) → 4 * length ds ≤ length (flat bytes ds)
unfolding flat
count_four [] = omega arith
count_four (d ∷ ds) = omega (arith, length-append (bytes d) (flat bytes ds), length_bytes d, count_four ds)

module _ (s : List ℕ) (b : Bytes s) where
  accepted_most : (read_fault 65534 0 0 s).number ≡ 0 → length (accepted s (walked 0 0 s).found) ≤ 245736
  unfolding accepted
  accepted_most e =
      let h : HeaderFine 65534 0 (length s) (stated_length s) = read_fault_header 65534 0 0 s e in
      let ds : List Desc = (walked 0 0 s).found in
      let n : 4 * length ds ≤ length (flat bytes ds) = count_four ds in
      let i : 8 + length (flat bytes ds) ≤ length s = walked_inside 0 0 s h.eight in
      simp length-append
      (omega (
        arith,
        h.most,
        first_most (stated_profile s) (length s) (length ds) (omega (arith, h.most)) (omega (arith, h.most)),
        lines_most ds (walked_good 0 0 s b),
        last_most (eqb (length s) (stated_end s)),
      ))

  pub listing_most : length (listing s) ≤ 245736
  listing_most = go (read_fault 65534 0 0 s).number refl
    where
      go : (n : ℕ) → (read_fault 65534 0 0 s).number ≡ n → length (listing s) ≤ 245736
      go zero e = rw (listing_none s e) (accepted_most e)
      go (suc n) e =
          rw (listing_fault s (λ z. omega arith)) (omega (arith, refused_most (read_fault 65534 0 0 s).number (read_fault_most 65534 0 0 s)))

  -- what was written into memory of that length or more is the listing
  pub listing_whole : (d e : List ℕ) (r : ℕ) → 245736 ≤ length d → Wrote d 0 (listing s) r e → take r e ≡ listing s
  listing_whole d e r h w =
      let m : length (listing s) ≤ 245736 = listing_most in
      let n : r ≡ length (listing s) = omega (arith, w.next) in
      rw (n, front w (omega arith)) (take-append_seam (listing s) (drop (length (listing s)) d))
