-- The drive with a medium in it: a sheet can describe it, and what went in before makes no difference. Assumes nothing.
use mathlib.Core.Path.{◌≡◌, refl, sym, ap, ap₂, ◌∙◌}
use mathlib.Core.Bool.{Bool, true, false, ◌||◌}
use mathlib.Core.List.{List, [], ◌∷◌, map}
use Prim.Native.Nat.{ℕ, ◌+◌, ◌*◌, ◌/◌, ◌%◌, ◌≤◌, ◌<◌}
use native.Mathlib.Nat.{mul-add-div_right, div-eq_of_lt, mul-add-mod_self_right, mod-eq_of_lt, div-div-eq-div-mul, div-add-mod', add-zero}
use native.Mathlib.Omega.{arith}
use borrow.Author.Tests.{eq-eqb}
use lib.Dec.{eqb}
use lib.ListN.{length-map}
use Rattle.base.specs.Lists.{All}
use Rattle.refusal.specs.declared.Refusal.{Refusal}
use Rattle.refusal.specs.First.{refuse}
use Rattle.text.specs.Flags.{reserved, version, persistent, current}
use Rattle.text.specs.Drive.{Desc, Listed, Drive, Good, Asc, bit}
use Rattle.text.proofs.FlagsRule.{Flagged, flags_good, flags_accept}
use Rattle.profiles.specs.Profiles.{Distinct}
use Rattle.sheet.specs.Check.{flags_rule}
use Rattle.sheet.specs.Meaning.{Fine}
use Rattle.load.specs.Load.{is_in, flags_with, feature_with, profile_with, drive_with, feature_numbers, profile_numbers}

pub bit_low : (t : Bool) → bit t ≤ 1
bit_low true = omega arith
bit_low false = omega arith

-- ---- the flags

half_of : (q b : ℕ) → b ≤ 1 → (q * 2 + b) / 2 ≡ q
half_of q b h = mul-add-div_right (omega arith) q b ∙ ap (λ (k : ℕ). q + k) (div-eq_of_lt (omega arith)) ∙ add-zero q

module _ (on : Bool) (f : ℕ) where
  pub with_half : flags_with on f / 2 ≡ f / 2
  unfolding flags_with
  with_half = half_of (f / 2) (bit (eqb (persistent f) 1 || on)) (bit_low (eqb (persistent f) 1 || on))

  -- all bits but Current stay
  pub with_persistent : persistent (flags_with on f) ≡ persistent f
  with_persistent = ap (λ (k : ℕ). k % 2) with_half

  pub with_version : version (flags_with on f) ≡ version f
  with_version =
      ap (λ (k : ℕ). k % 16) (sym (div-div-eq-div-mul (flags_with on f) 2 2) ∙ ap (λ (k : ℕ). k / 2) with_half ∙ div-div-eq-div-mul f 2 2)

  pub with_reserved : reserved (flags_with on f) ≡ reserved f
  with_reserved = sym (div-div-eq-div-mul (flags_with on f) 2 32) ∙ ap (λ (k : ℕ). k / 32) with_half ∙ div-div-eq-div-mul f 2 32

  -- Current is set where it is Persistent or listed
  pub with_current : current (flags_with on f) ≡ bit (eqb (persistent f) 1 || on)
  unfolding flags_with
  with_current =
      mul-add-mod_self_right (f / 2) 2 (bit (eqb (persistent f) 1 || on)) ∙ mod-eq_of_lt (omega (arith, bit_low (eqb (persistent f) 1 || on)))

  pub with_low : f < 256 → flags_with on f < 256
  unfolding flags_with
  with_low h = omega (arith, div-add-mod' f 2, bit_low (eqb (persistent f) 1 || on))

  pub with_legal : (flags_rule f).number ≡ 0 → (flags_rule (flags_with on f)).number ≡ 0
  unfolding flags_rule
  with_legal e =
      let g : Flagged f = flags_good (refuse 5) (refuse 44) f (λ z. omega arith) (λ z. omega arith) e in
      ap (λ (r : Refusal). r.number) (flags_accept (refuse 5) (refuse 44) (flags_with on f) record {
        reserved_zero = with_reserved ∙ g.reserved_zero;
        current_too = λ p. with_current ∙ ap (λ (t : Bool). bit (t || on)) (eq-eqb (persistent f) 1 (sym with_persistent ∙ p));
      })

pub with_again : (a b : Bool) (f : ℕ) → flags_with b (flags_with a f) ≡ flags_with b f
unfolding flags_with
with_again a b f = ap₂ (λ (h p : ℕ). h * 2 + bit (eqb p 1 || b)) (with_half a f) (with_persistent a f)

-- ---- lists, element by element

over_map : {A B : Type 0} (P : A → Type 0) (Q : B → Type 0) (g : A → B) → ((x : A) → P x → Q (g x)) → (xs : List A) → All P xs → All Q (map g xs)
over_map P Q g h [] a = tt
over_map P Q g h (x ∷ xs) a = (h x a.0, over_map P Q g h xs a.1)

map_twice : {A B C : Type 0} (g : B → C) (f : A → B) (k : A → C) → ((x : A) → g (f x) ≡ k x) → (xs : List A) → map g (map f xs) ≡ map k xs
map_twice g f k h [] = refl
map_twice g f k h (x ∷ xs) = λ z. h x z ∷ map_twice g f k h xs z

-- ---- the drive

module _ (fs ps : List ℕ) where
  asc_with : (lo : ℕ) (ds : List Desc) → Asc lo ds → Asc lo (map (feature_with fs) ds)
  unfolding feature_with
  asc_with lo [] h = tt
  asc_with lo (d ∷ ds) h = (h.0, asc_with (1 + d.number) ds h.1)

  distinct_with : (ls : List Listed) → Distinct ls → Distinct (map (profile_with ps) ls)
  unfolding profile_with
  distinct_with [] h = tt
  distinct_with (l ∷ ls) h = (
    h.0,
    over_map (λ (q : Listed). q.number ≡ l.number → ⊥) (λ (q : Listed). q.number ≡ l.number → ⊥) (profile_with ps) (λ q n. n) ls h.1,
    distinct_with ls h.2,
  )

  pub with_fine : (m : Drive) → Fine m → Fine (drive_with fs ps m)
  unfolding drive_with feature_with profile_with
  with_fine m f = record {
    sound = record {
      few = omega (arith, length-map m.profiles (profile_with ps), f.sound.few);
      profiles_low = over_map (λ (p : Listed). p.number < 65536) (λ (p : Listed). p.number < 65536) (profile_with ps) (λ p h. h) m.profiles f.sound.profiles_low;
      ascending = asc_with 1 m.features f.sound.ascending;
      good = over_map Good Good (feature_with fs)
          (λ d g. record { number_low = g.number_low; flags_low = with_low (is_in fs d.number) d.flags g.flags_low; four = g.four; short = g.short; bytes = g.bytes })
          m.features f.sound.good;
    };
    distinct = distinct_with m.profiles f.distinct;
    legal = over_map (λ (d : Desc). (flags_rule d.flags).number ≡ 0) (λ (d : Desc). (flags_rule d.flags).number ≡ 0) (feature_with fs) (λ d e. with_legal (is_in fs d.number) d.flags e) m.features f.legal;
  }

  -- it has the same numbers
  pub with_features : (m : Drive) → feature_numbers (drive_with fs ps m) ≡ feature_numbers m
  unfolding drive_with feature_with
  with_features m = map_twice (λ (d : Desc). d.number) (feature_with fs) (λ (d : Desc). d.number) (λ d. refl) m.features

  pub with_profiles : (m : Drive) → profile_numbers (drive_with fs ps m) ≡ profile_numbers m
  unfolding drive_with profile_with
  with_profiles m = map_twice (λ (p : Listed). p.number) (profile_with ps) (λ (p : Listed). p.number) (λ p. refl) m.profiles

-- another medium: only the last one counts
pub with_last : (fs ps fs' ps' : List ℕ) (m : Drive) → drive_with fs' ps' (drive_with fs ps m) ≡ drive_with fs' ps' m
unfolding drive_with feature_with profile_with
with_last fs ps fs' ps' m = λ z. record {
  profiles = map_twice (profile_with ps') (profile_with ps) (profile_with ps') (λ p. refl) m.profiles z;
  features = map_twice (feature_with fs') (feature_with fs) (feature_with fs')
      (λ d. λ k. record { number = d.number; flags = with_again (is_in fs d.number) (is_in fs' d.number) d.flags k; body = d.body })
      m.features z;
}
