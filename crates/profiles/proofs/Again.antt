-- From bytes to listed profiles and back: a list that is not refused is what its profiles are written as, and the bytes of profiles list them. Assumes nothing.
use mathlib.Core.Bool.{Bool, true, false}
use mathlib.Core.Path.{◌≡◌, refl, sym, ap, ◌∙◌}
use mathlib.Core.List.{List, [], ◌∷◌, ◌++◌, append_assoc}
use Prim.Native.Nat.{ℕ, zero, suc, ◌+◌, ◌*◌, ◌/◌, ◌%◌, ◌≤◌, ◌<◌}
use native.Mathlib.Nat.{zero-add, add_assoc, div-add-mod}
use native.Mathlib.Omega.{arith}
use lib.Dec.{eqb}
use lib.ListN.{length, take, drop, get_or}
use lib.Seq.{take_all, length-take-le}
use Rattle.base.specs.Lists.{each, flat, All, Bytes}
use Rattle.base.proofs.Lists.{all_get_d, each_get_d, drop_flat, drop_behind, take_two, take_more, take_row}
use Rattle.fields.specs.Field.{field, spell}
use Rattle.fields.proofs.Laws.{length_spell, spell_field, field_here, byte_here}
use Rattle.refusal.specs.First.{accept}
use Rattle.text.specs.Drive.{Listed, bit, profile_bytes}
use Rattle.text.proofs.Profiles.{length_profiles}
use Rattle.profiles.specs.Profiles.{profile_number, profile_current, profile_last, listed, profiles_of, records_fault, Kept, Distinct}
use Rattle.profiles.proofs.Kept.{kept_accept, distinct_above, distinct_differs}

-- ---- a list that is not refused

bit_back : (c : ℕ) → c ≤ 1 → bit (eqb (c % 2) 1) ≡ c
bit_back zero l = refl
bit_back (suc zero) l = refl
bit_back (suc (suc c)) l = absurd (omega arith)

module _ {b : List ℕ} (bs : Bytes b) where
  record_back : (i : ℕ) → 4 * i + 4 ≤ length b → Kept b i → profile_bytes (listed b i) ≡ take 4 (drop (4 * i) b)
  unfolding profile_bytes listed profile_number profile_current profile_last
  record_back i l f =
      let x : spell 2 (profile_number b i) ≡ take 2 (drop (4 * i) b) = spell_field 2 b (4 * i) bs (omega arith) in
      let y : bit (eqb (profile_current b i % 2) 1) ∷ 0 ∷ [] ≡ take 2 (drop (4 * i + 2) b) =
      ap (λ (k : ℕ). k ∷ 0 ∷ []) (bit_back (profile_current b i) f.one)
      ∙ ap (λ (k : ℕ). profile_current b i ∷ k ∷ []) (sym f.nought)
      ∙ ap (λ (k : ℕ). profile_current b i ∷ get_or b k 0 ∷ []) (sym (add_assoc (4 * i) 2 1))
      ∙ take_two b (4 * i + 2) (omega arith) in
      rw (x, y, take_more b (4 * i) 2 2)

  records_back : (i k : ℕ) → 4 * (i + k) ≤ length b → ((j : ℕ) → j < i + k → Kept b j) → flat profile_bytes (each (listed b) i k) ≡ take (4 * k) (drop (4 * i) b)
  unfolding flat each
  records_back i zero l f = refl
  records_back i (suc k) l f =
      rw (records_back (suc i) k (omega arith) (λ j m. f j (omega arith)), record_back i (omega arith) (f i (omega arith))) (rw (zero-add (4 * i), zero-add (4 * suc i)) at (take_row b 0 4 i k))

-- its profiles are written as it stands
pub profiles_back : (b : List ℕ) → Bytes b → length b % 4 ≡ 0 → ((i : ℕ) → i < length b / 4 → Kept b i) → flat profile_bytes (profiles_of b) ≡ b
unfolding profiles_of
profiles_back b bs four h =
    let n : ℕ = length b / 4 in
    let l : length b ≡ 4 * n = omega (arith, div-add-mod (length b) 4) in
    records_back bs 0 n (omega arith) (λ j m. h j (omega arith)) ∙ take_all (4 * n) b (omega arith)

-- ---- the bytes of profiles

abbrev no_listed : Listed
no_listed = record { number = 0; on = false }

bit_le : (b : Bool) → bit b ≤ 1
bit_le true = omega arith
bit_le false = omega arith

on_back : (b : Bool) → eqb (bit b % 2) 1 ≡ b
on_back true = refl
on_back false = refl

-- the fields of a record where a profile was written
record Reads (b : List ℕ) (at : ℕ) (p : Listed) : Type 0 where
  number_is : field 2 b at ≡ p.number
  current_is : get_or b (at + 2) 0 ≡ bit p.on
  last_is : get_or b (at + 3) 0 ≡ 0

record_reads : (b : List ℕ) (at : ℕ) (p : Listed) (rest : List ℕ) → drop at b ≡ profile_bytes p ++ rest → p.number < 65536 → Reads b at p
unfolding profile_bytes
record_reads b at p rest e l =
    let x : drop at b ≡ spell 2 p.number ++ (bit p.on ∷ 0 ∷ rest) = e ∙ simp append_assoc in
    let y : drop (at + 2) b ≡ bit p.on ∷ 0 ∷ rest = drop_behind b at (spell 2 p.number) _ 2 x (length_spell 2 p.number) in
    let z : drop (at + 3) b ≡ 0 ∷ rest = ap (λ (k : ℕ). drop k b) (sym (add_assoc at 2 1)) ∙ drop_behind b (at + 2) (bit p.on ∷ []) _ 1 y refl in
    record {
      number_is = field_here b at 2 p.number _ x l;
      current_is = byte_here b (at + 2) _ _ y;
      last_is = byte_here b (at + 3) _ _ z;
    }

module _ (ps : List Listed) (low : All (λ (p : Listed). p.number < 65536) ps) where
  abbrev written : List ℕ
  written = flat profile_bytes ps

  count_is : length written / 4 ≡ length ps
  count_is = omega (arith, length_profiles ps)

  reads : (i : ℕ) → i < length ps → Reads written (4 * i) (get_or ps i no_listed)
  reads i l =
      let e : length (flat profile_bytes (take i ps)) ≡ 4 * i = length_profiles (take i ps) ∙ ap (λ (k : ℕ). 4 * k) (length-take-le i ps (omega arith)) in
      record_reads written (4 * i) (get_or ps i no_listed) (flat profile_bytes (drop (suc i) ps)) (rw e at (drop_flat profile_bytes ps no_listed i l))
      (all_get_d (λ (p : Listed). p.number < 65536) ps no_listed low i l)

  -- they list the profiles
  pub profiles_written : profiles_of written ≡ ps
  unfolding profiles_of listed profile_number profile_current
  profiles_written = each_get_d (listed written) ps no_listed (length written / 4) (sym count_is) (λ i l.
      let h : i < length ps = omega (arith, count_is) in
      let n : profile_number written i ≡ (get_or ps i no_listed).number = (reads i h).number_is in
      let o : eqb (profile_current written i % 2) 1 ≡ (get_or ps i no_listed).on = ap (λ (k : ℕ). eqb (k % 2) 1) (reads i h).current_is ∙ on_back (get_or ps i no_listed).on in
      λ k. record { number = n k; on = o k })

  -- and are not refused where the numbers are not 0 and differ
  pub kept_written : Distinct ps → (i : ℕ) → i < length written / 4 → Kept written i
  unfolding profile_number profile_current profile_last
  kept_written d i l =
      let h : i < length ps = omega (arith, count_is) in
      record {
        above = omega (arith, (reads i h).number_is, distinct_above ps no_listed d i h);
        new = λ j k e. distinct_differs ps no_listed d i j k h (sym (reads j (omega arith)).number_is ∙ e ∙ (reads i h).number_is);
        one = omega (arith, (reads i h).current_is, bit_le (get_or ps i no_listed).on);
        nought = (reads i h).last_is;
      }

  pub written_accept : Distinct ps → records_fault written ≡ accept
  written_accept d = kept_accept written (kept_written d)
