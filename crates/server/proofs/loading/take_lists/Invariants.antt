-- `server::loading::take_lists` counts numbers that are there: the loop stays within the list. Assumes nothing.
use Rattle.std.proofs.Common.{◌-◌, ◌≤◌, length}
use Rattle.server.proofs.loading.take_lists.Given as goal

abbrev pub invariant-loop-i : goal.invariant-loop-i
invariant-loop-i l = l.i ≤ length l.lists

abbrev pub decreases-loop-i : goal.decreases-loop-i
decreases-loop-i l = length l.lists - l.i
