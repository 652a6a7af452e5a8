-- How far entries were written that fit. Assumes nothing: these are definitions.
use Rattle.std.specs.Prelude.{List, ℕ, ◌-◌, ◌≤◌}
use Rattle.layout.specs.Layout.{Sheet}
use Rattle.lent.specs.Wrote.{Wrote}
use Rattle.responder.specs.inner.Index.{pieces}
use Rattle.responder.specs.declared.Progress.{Progress}

-- Into the buffer d from index `at` the entries from one on were written, as far as p says and not past `to`; e is the buffer afterwards.
pub record Fitted (rt : ℕ) (s : Sheet) (from to : ℕ) (d : List ℕ) (at : ℕ) (p : Progress) (e : List ℕ) : Type 0 where
  pub ordered : from ≤ p.i
  pub within : p.i - from ≤ to - from
  pub wrote : Wrote d at (pieces rt s from (p.i - from)) p.next e
