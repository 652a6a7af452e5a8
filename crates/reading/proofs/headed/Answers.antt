-- `reading::headed` meets its contract, by its cases.
use native.Mathlib.Omega.{arith}
use lib.ListN.{length}
use Prim.Native.Nat.{◌+◌}
use borrow.Author.Tests.{le-leb, lt-leb}
use Rattle.reading.proofs.headed.Goals as goal

pub returns-then-s-lt4 : goal.returns-then-s-lt4
returns-then-s-lt4 c = let a = c.args in rw (lt-leb (a.at + 4) (length a.s.now) (omega arith))

pub returns-then-s-at : goal.returns-then-s-at
returns-then-s-at c = let a = c.args in rw (lt-leb (a.at + 4) (length a.s.now) (omega arith))

pub returns : goal.returns
returns c = let a = c.args in rw (le-leb (a.at + 4) (length a.s.now) (omega arith))
