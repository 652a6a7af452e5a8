-- Between which numbers profiles lie. Assumes nothing: these are definitions.
use Rattle.std.specs.Prelude.{List, ℕ, ◌≤◌, ◌<◌}
use Rattle.profiles.specs.Profiles.{profile_number}

-- the numbers of the first n records of b lie from low to high
pub record Within (low high : ℕ) (b : List ℕ) (n : ℕ) : Type 0 where
  pub above : (j : ℕ) → j < n → low ≤ profile_number b j
  pub below : (j : ℕ) → j < n → profile_number b j ≤ high
