-- `load::set_profiles` meets its contract: the loop carries the records that are set.
use Prim.Native.Nat.{ℕ, ◌+◌, ◌-◌, ◌*◌, ◌≤◌}
use mathlib.Core.Path.{◌≡◌}
use Rattle.text.specs.Drive.{bit}
use Rattle.profiles.specs.Profiles.{profile_number}
use Rattle.load.specs.Load.{is_in}
use Rattle.load.specs.inner.Patch.{patched}
use Rattle.load.proofs.set_profiles.Given as goal

abbrev pub invariant-loop-i : goal.invariant-loop-i
invariant-loop-i l = (l.i ≤ l.n) × (l.out ≡ patched (λ (k : ℕ). l.at + 4 * k + 2) (λ (k : ℕ). bit (is_in l.list (profile_number l.b k))) l.i l.initial.out)

abbrev pub decreases-loop-i : goal.decreases-loop-i
decreases-loop-i l = l.n - l.i
