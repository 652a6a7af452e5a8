-- How far a copy has come. Assumes nothing: these are definitions.
use Rattle.std.specs.Prelude.{◌≡◌, List, ℕ, length, take}

-- The buffer e is as long as s and agrees with it up to index i.
pub record Same (s : List ℕ) (i : ℕ) (e : List ℕ) : Type 0 where
  pub sized : length e ≡ length s
  pub front : take i e ≡ take i s
