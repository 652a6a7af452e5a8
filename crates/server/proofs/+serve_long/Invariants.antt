-- `server::serve_long` ends: the measure is how many times more it serves. Assumes nothing.
use Rattle.server.proofs.+serve_long.Given as goal

abbrev pub decreases-serve_long : goal.decreases-serve_long
decreases-serve_long l = l.again
