-- Which numbers an import can give: a capture's, and 42. Assumes nothing.
use mathlib.Core.List.{List}
use Prim.Native.Nat.{ℕ}
use Rattle.lent.proofs.Maker.{makes_number}
use Rattle.capture.specs.Capture.{capture_fault}
use Rattle.refusal.specs.First.{refuse}
use Rattle.refusal.proofs.Numbers.{if_holds, or_else_holds}
use Rattle.capture.proofs.Numbers.{capture_is}
use Rattle.import.specs.Import.{sheet_from, imported}

pub imported_is : (P : ℕ → Type 0) → P 0 → P 14 → P 15 → P 16 → P 17 → P 18 → P 20 → P 29 → P 41 → P 3 → P 5 → P 44 → P 42 → (r d : List ℕ) → P (imported r d).made.refusal.number
unfolding imported
imported_is P p0 p14 p15 p16 p17 p18 p20 p29 p41 p3 p5 p44 p42 r d =
    rw (makes_number (capture_fault r) 42 (sheet_from r).bytes d)
    (or_else_holds P (capture_fault r) _ (capture_is P p0 p14 p15 p16 p17 p18 p20 p29 p41 p3 p5 p44 r) (if_holds P (refuse 42) _ _ p42 p0))
