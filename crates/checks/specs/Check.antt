-- What the check of the descriptors finds. Assumes nothing: these are definitions.
use Rattle.std.specs.Prelude.{Bool, not, List, ℕ, zero, suc, eqb}
use Rattle.refusal.specs.declared.Refusal.{Refusal}
use Rattle.refusal.specs.First.{refuse, accept, ◌if◌else◌}
use Rattle.text.specs.Drive.{Desc}
use Rattle.checks.specs.declared.Finding.{Finding}
use Rattle.base.specs.Pick.{pick}
use Rattle.checks.specs.Rules.{desc_fault}
use Rattle.reading.specs.Places.{descs, reported}
use Rattle.reading.specs.Completed.{complete_fault}

infixr 20 ◌or_next◌
-- a number and a feature
abbrev pub finding : Refusal → ℕ → Finding
finding r f = record { refusal = r; feature = record { 0 = f } }

-- a where it has a number, else b
unfoldable pub ◌or_next◌ : Finding → Finding → Finding
a or_next b = elim a.refusal.number [ zero ↦ b | suc k ↦ a ]

-- the first descriptor with a fault
unfoldable pub first_finding : (removable : Bool) → List Desc → Finding
first_finding removable ds =
    pick (λ d. not (eqb (desc_fault removable d).number 0)) (λ d. finding (desc_fault removable d) d.number) (finding accept 0) ds

-- 30: feature 0 or 1 missing. Then each descriptor in order
unfoldable pub checked_all : List Desc → Finding
checked_all ds =
    finding (refuse 30 if not (reported 0 ds) else accept) 0 or_next
    finding (refuse 30 if not (reported 1 ds) else accept) 1 or_next
    first_finding (reported 3 ds) ds

unfoldable pub checked : List ℕ → Finding
checked s = finding (complete_fault s) 0 or_next checked_all (descs s)
