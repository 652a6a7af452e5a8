-- The answers of an import case by case: refused, written. Assumes nothing.
use mathlib.Core.Path.{◌≡◌}
use mathlib.Core.List.{List}
use Prim.Native.Nat.{ℕ, ◌≤◌, ◌<◌}
use native.Mathlib.Omega.{arith}
use lib.ListN.{length}
use Rattle.refusal.specs.First.{refuse}
use Rattle.lent.specs.Maker.{refusing, making}
use Rattle.lent.proofs.Maker.{makes_fault, makes_short, makes_made, makes_zero}
use Rattle.capture.specs.Capture.{capture_fault}
use Rattle.import.specs.Import.{sheet_from, imported}

module _ (r d : List ℕ) where
  pub imported_fault : ((capture_fault r).number ≡ 0 → ⊥) → imported r d ≡ refusing d (capture_fault r)
  unfolding imported
  imported_fault h = makes_fault (capture_fault r) 42 (sheet_from r).bytes d h

  pub imported_short : (capture_fault r).number ≡ 0 → length d < length (sheet_from r).bytes → imported r d ≡ refusing d (refuse 42)
  unfolding imported
  imported_short e h = makes_short (capture_fault r) 42 (sheet_from r).bytes d e (λ z. omega arith) h

  pub imported_written : (capture_fault r).number ≡ 0 → length (sheet_from r).bytes ≤ length d → imported r d ≡ making (sheet_from r).bytes d
  unfolding imported
  imported_written e h = makes_made (capture_fault r) 42 (sheet_from r).bytes d e h

  -- what the number 0 says
  pub imported_zero : (imported r d).made.refusal.number ≡ 0 → ((capture_fault r).number ≡ 0) × (length (sheet_from r).bytes ≤ length d)
  unfolding imported
  imported_zero e = makes_zero (capture_fault r) 41 (sheet_from r).bytes d e
