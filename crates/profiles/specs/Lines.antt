-- What the place of a refusal tells of a list of profiles and of entries. Assumes nothing: these are definitions.
use Rattle.std.specs.Prelude.{◌≡◌, true, ◌⊎◌, List, ℕ, ◌<◌}
use Rattle.refusal.specs.declared.Refusal.{Refusal}
use Rattle.refusal.specs.Lines.{of_entry, RightPlace, Names}
use Rattle.profiles.specs.Profiles.{profile_number, profile_current, profile_last, Kept}

-- a record before record i has its number
pub record Repeats (b : List ℕ) (i : ℕ) : Type 0 where
  pub earlier : ℕ
  pub is_earlier : earlier < i
  pub same_number : profile_number b earlier ≡ profile_number b i

-- what a record is that is refused
abbrev pub Spoilt : List ℕ → ℕ → Type 0
Spoilt b i = (profile_number b i ≡ 0) ⊎ (Repeats b i ⊎ ((1 < profile_current b i) ⊎ (profile_last b i ≡ 0 → ⊥)))

-- the place of the refusal r, where b lists p profiles and `rule i` is what is refused of entry i of n
pub record Located (b : List ℕ) (p : ℕ) (rule : ℕ → Refusal) (n : ℕ) (r : Refusal) : Type 0 where
  -- it is 0 exactly where the number has none
  pub right_place : RightPlace r
  -- with 3 it is that of the first profile that is not kept
  pub profile_named : r.number ≡ 3 → Names (Spoilt b) (Kept b) p r.place
  -- with the others that have one it is that of the first entry of which anything is refused, which is this number; then all profiles are kept
  pub entry_named : of_entry r.number ≡ true → Names (λ i. (rule i).number ≡ r.number) (λ i. (rule i).number ≡ 0) n r.place
  pub all_kept : of_entry r.number ≡ true → (i : ℕ) → i < p → Kept b i
