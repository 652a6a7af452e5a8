-- `judge::highest` meets its contract: the loop carries what is left of the list and the highest so far.
use mathlib.Core.Path.{ap}
use Prim.Native.Nat.{ℕ}
use native.Mathlib.Omega.{arith}
use Rattle.base.specs.Lists.{each}
use Rattle.profiles.specs.Profiles.{listed, profiles_of}
use Rattle.judge.specs.Boxes.{highest}
use Rattle.judge.proofs.Boxes.{highest_go, highest_end}
use Rattle.judge.proofs.highest.Goals as goal

pub loop-i-init : goal.loop-i-init
unfolding profiles_of
loop-i-init c = (omega arith, ap (λ (k : ℕ). highest c.args.every (each (listed c.args.b.now) 0 k) 0) (omega arith))

pub loop-i-preserved : goal.loop-i-preserved
loop-i-preserved c = (omega arith, search highest_go)

pub returns : goal.returns
returns c = search highest_end
