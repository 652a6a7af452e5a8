-- `sense::is_kind` meets its contract.
use mathlib.Core.List.{List}
use mathlib.Core.Path.{ap, ◌∙◌}
use Prim.Native.Nat.{ℕ}
use Rattle.sense.specs.Sense.{same}
use Rattle.sense.proofs.is_kind.Goals as goal

pub returns : goal.returns
returns c = c.is_same.ensures ∙ ap (λ (xs : List ℕ). same xs c.args.s.now) c.bytes_of-bytes.ensures
