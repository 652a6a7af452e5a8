-- A sheet that has its contents. Assumes nothing: these are definitions.
use Rattle.std.specs.Prelude.{◌≡◌, List, ℕ, ◌≤◌, length}
use Rattle.layout.specs.Layout.{features, profiles_behind}

-- it counts n features, and has all their entries
abbrev pub Room : List ℕ → ℕ → Type 0
Room b n = (n ≡ features b) × (profiles_behind n ≤ length b)
