-- `hex_text::walk` meets its contract: the loop has put the bytes passed, and carries what is left to spell. Assumes nothing.
use native.Mathlib.Omega.{arith}
use Rattle.hex_text.proofs.Going.{going_start, going_length, going_fits, going_fault, going_more, going_end}
use Rattle.hex_text.proofs.walk.Goals as goal

pub loop-i-init : goal.loop-i-init
loop-i-init c = search going_start

pub shape_of-out-then-x : goal.shape_of-out-then-x
shape_of-out-then-x c = going_length c.loop-i.invariant

pub returns-then-x : goal.returns-then-x
returns-then-x c = search going_fault

pub overflow_add-count : goal.overflow_add-count
overflow_add-count c = omega (arith, going_fits c.loop-i.invariant _ _ c.loop-i-test.true c.put_some-count.ensures)

pub loop-i-preserved : goal.loop-i-preserved
loop-i-preserved c = search going_more

pub shape_of-out : goal.shape_of-out
shape_of-out c = going_length c.loop-i.invariant

pub returns : goal.returns
returns c = search going_end
