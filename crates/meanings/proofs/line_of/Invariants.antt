-- `meanings::line_of` meets its contract: the loop carries what is left behind the lines that were passed.
use mathlib.Core.Path.{◌≡◌}
use Prim.Native.Nat.{◌-◌}
use Rattle.meanings.specs.Lines.{behind_lines}
use Rattle.meanings.proofs.line_of.Given as goal

abbrev pub invariant-loop-passed : goal.invariant-loop-passed
invariant-loop-passed l = behind_lines l.rest (l.lines - l.passed) ≡ behind_lines l.s l.lines
