-- The profiles: their bytes, feature 0 made from them, and the current one. Assumes nothing.
use mathlib.Core.Path.{◌≡◌, refl, ap, ◌∙◌}
use mathlib.Core.Logic.{◌⊎◌, inl, inr}
use mathlib.Core.Bool.{Bool, true, false}
use mathlib.Core.List.{List, [], ◌∷◌, ◌++◌}
use Prim.Native.Nat.{◌*◌, ◌≤◌, ◌<◌}
use native.Mathlib.Omega.{arith}
use lib.ListN.{length, length-append}
use Rattle.base.specs.Lists.{flat, All, Bytes}
use Rattle.base.proofs.Lists.{bytes_one, bytes_append, bytes_flat, length_flat, all_of}
use Rattle.fields.specs.Field.{spell}
use Rattle.fields.proofs.Laws.{length_spell, bytes_spell}
use Rattle.text.specs.Drive.{Listed, Good, bit, profile_bytes}
use Rattle.text.specs.Response.{feature0, current_profile}

-- ---- their bytes

pub length_profile_bytes : (p : Listed) → length (profile_bytes p) ≡ 4
unfolding profile_bytes
length_profile_bytes p = omega (arith, length-append (spell 2 p.number) (bit p.on ∷ 0 ∷ []), length_spell 2 p.number)

pub length_profiles : (ps : List Listed) → length (flat profile_bytes ps) ≡ 4 * length ps
length_profiles = length_flat profile_bytes 4 length_profile_bytes

bit_low : (b : Bool) → bit b < 256
bit_low true = omega arith
bit_low false = omega arith

pub bytes_profile_bytes : (p : Listed) → Bytes (profile_bytes p)
unfolding profile_bytes
bytes_profile_bytes p =
    bytes_append (spell 2 p.number) (bit p.on ∷ 0 ∷ []) (bytes_spell 2 p.number)
    (bytes_append (bit p.on ∷ []) (0 ∷ []) (bytes_one (bit p.on) (bit_low p.on)) (bytes_one 0 (omega arith)))

pub bytes_profiles : (ps : List Listed) → Bytes (flat profile_bytes ps)
bytes_profiles ps = bytes_flat profile_bytes ps (all_of (λ (p : Listed). Bytes (profile_bytes p)) bytes_profile_bytes ps)

-- ---- feature 0

pub feature0_good : (ps : List Listed) → length ps ≤ 63 → Good (feature0 ps)
unfolding feature0
feature0_good ps h = record {
  number_low = omega arith;
  flags_low = omega arith;
  four = omega (arith, length_profiles ps);
  short = omega (arith, length_profiles ps);
  bytes = bytes_profiles ps;
}

-- ---- the current profile

abbrev pub Off : List Listed → Type 0
Off = All (λ (p : Listed). p.on ≡ false)

pub current_on : (p : Listed) (ps : List Listed) → p.on ≡ true → current_profile (p ∷ ps) ≡ p.number
unfolding current_profile
current_on p ps e = rw (e, current_profile)

pub current_off : (p : Listed) (ps : List Listed) → p.on ≡ false → current_profile (p ∷ ps) ≡ current_profile ps
unfolding current_profile
current_off p ps e = rw (e, current_profile)

-- none is on
pub current_none : (ps : List Listed) → Off ps → current_profile ps ≡ 0
unfolding current_profile
current_none [] a = refl
current_none (p ∷ ps) a = current_off p ps a.0 ∙ current_none ps a.1

-- profiles with a first one that is on
pub record FirstOn (ps : List Listed) : Type 0 where
  pub before : List Listed
  pub chosen : Listed
  pub after : List Listed
  pub parts : ps ≡ before ++ chosen ∷ after
  pub off : Off before
  pub on : chosen.on ≡ true
  pub is : current_profile ps ≡ chosen.number

pub current_cases : (ps : List Listed) → (Off ps × (current_profile ps ≡ 0)) ⊎ FirstOn ps
unfolding current_profile
current_cases [] = inl (tt, refl)
current_cases (p ∷ ps) = go p.on refl (current_cases ps)
  where
    go : (b : Bool) → p.on ≡ b → (Off ps × (current_profile ps ≡ 0)) ⊎ FirstOn ps → (Off (p ∷ ps) × (current_profile (p ∷ ps) ≡ 0)) ⊎ FirstOn (p ∷ ps)
    go true e r = inr record { before = []; chosen = p; after = ps; parts = refl; off = tt; on = e; is = current_on p ps e }
    go false e (inl r) = inl ((e, r.0), current_off p ps e ∙ r.1)
    go false e (inr r) = inr record {
      before = p ∷ r.before;
      chosen = r.chosen;
      after = r.after;
      parts = ap (λ (l : List Listed). p ∷ l) r.parts;
      off = (e, r.off);
      on = r.on;
      is = current_off p ps e ∙ r.is;
    }

-- it takes two bytes
pub current_low : (ps : List Listed) → All (λ (p : Listed). p.number < 65536) ps → current_profile ps < 65536
unfolding current_profile
current_low [] a = omega arith
current_low (p ∷ ps) a = go p.on refl (current_low ps a.1)
  where
    go : (b : Bool) → p.on ≡ b → current_profile ps < 65536 → current_profile (p ∷ ps) < 65536
    go true e h = rw (current_on p ps e) a.0
    go false e h = rw (current_off p ps e) h
