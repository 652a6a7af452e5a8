-- `hex_text::walk` meets its contract: the loop has put the bytes passed, and carries what is left to spell. Assumes nothing.
use Prim.Native.Nat.{◌-◌}
use lib.ListN.{length}
use Rattle.hex_text.proofs.Going.{Going}
use Rattle.hex_text.proofs.walk.Given as goal

abbrev pub invariant-loop-i : goal.invariant-loop-i
invariant-loop-i l = Going l.text l.initial.out l.q l.count l.i l.out

abbrev pub decreases-loop-i : goal.decreases-loop-i
decreases-loop-i l = length l.text - l.i
