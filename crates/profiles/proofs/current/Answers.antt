-- `profiles::current` meets its contract: the loop carries what is left of the search.
use Prim.Native.Nat.{ℕ}
use mathlib.Core.Path.{ap}
use native.Mathlib.Omega.{arith}
use Rattle.base.specs.Lists.{each}
use Rattle.text.specs.Response.{current_profile}
use Rattle.profiles.specs.Profiles.{listed, profiles_of}
use Rattle.profiles.proofs.Loops.{current_stop, current_go, current_none}
use Rattle.profiles.proofs.current.Goals as goal

pub loop-i-init : goal.loop-i-init
unfolding profiles_of
loop-i-init c = (omega arith, ap (λ (k : ℕ). current_profile (each (listed c.args.b.now) 0 k)) (omega arith))

pub returns-then-inside-eq1 : goal.returns-then-inside-eq1
returns-then-inside-eq1 c = search current_stop

pub loop-i-preserved : goal.loop-i-preserved
loop-i-preserved c = (omega arith, search current_go)

pub returns : goal.returns
returns c = search current_none
