-- `sheet::late` meets its contract.
use mathlib.Core.Path.{sym}
use native.Mathlib.Omega.{arith}
use borrow.Author.Tests.{lt-ltb, le-ltb}
use Rattle.sheet.proofs.late.Goals as goal

pub returns-then-number-before : goal.returns-then-number-before
returns-then-number-before c = (sym (le-ltb _ _ c.if-number-before.true), omega arith)

pub returns : goal.returns
returns c = (sym (lt-ltb _ _ c.if-number-before.false), omega arith)
