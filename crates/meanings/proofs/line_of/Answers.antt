-- `meanings::line_of` meets its contract: one more line is passed.
use native.Mathlib.Omega.{arith}
use Rattle.meanings.proofs.Laws.{behind_step}
use Rattle.meanings.proofs.line_of.Goals as goal

pub loop-passed-preserved : goal.loop-passed-preserved
loop-passed-preserved c = behind_step _ _ _ c.loop-passed.passed c.args.lines (omega arith) c.behind_line-rest.ensures c.loop-passed.invariant
