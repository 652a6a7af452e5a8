-- `profiles::two` meets its contract: each byte stands for itself.
use native.Mathlib.Omega.{arith}
use Rattle.profiles.proofs.two.Goals as goal

pub returns : goal.returns
returns c = (omega arith, omega arith)
