-- `reading::odd` meets its contract: 1 for odd flags, 0 for others.
use native.Mathlib.Omega.{arith}
use Rattle.reading.proofs.Flagged.{odd_yes, odd_no}
use Rattle.reading.proofs.odd.Goals as goal

pub returns-then-odd : goal.returns-then-odd
returns-then-odd c = (search odd_yes, omega arith)

pub returns : goal.returns
returns c = (search odd_no, omega arith)
