-- Narrowing a list of descriptors, as a driver does it by hand. Assumes nothing: these are definitions.
use Rattle.std.specs.Prelude.{List, ℕ, leb, ltb, eqb}
use Rattle.base.specs.Lists.{keep}
use Rattle.text.specs.Flags.{current}
use Rattle.text.specs.Drive.{Desc}

-- from s: those numbered s or higher
unfoldable pub kept_from : (s : ℕ) → List Desc → List Desc
kept_from s ds = keep (λ (d : Desc). leb s d.number) ds

-- those numbered below s
unfoldable pub kept_below : (s : ℕ) → List Desc → List Desc
kept_below s ds = keep (λ (d : Desc). ltb d.number s) ds

-- current only: those with Current set
unfoldable pub kept_current : List Desc → List Desc
kept_current ds = keep (λ (d : Desc). eqb (current d.flags) 1) ds

-- the one numbered f, or none
unfoldable pub kept_one : (f : ℕ) → List Desc → List Desc
kept_one f ds = keep (λ (d : Desc). eqb d.number f) ds
