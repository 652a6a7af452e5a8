-- `server::loading::lacking` ends within its list. Assumes nothing.
use Rattle.std.proofs.Common.{◌-◌, length}
use Rattle.server.proofs.loading.lacking.Given as goal

abbrev pub decreases-loop-i : goal.decreases-loop-i
decreases-loop-i l = length l.list - l.i
