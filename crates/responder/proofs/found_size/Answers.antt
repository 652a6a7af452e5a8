-- `responder::found_size` meets its contract, by the two cases of an entry.
use mathlib.Core.Path.{◌≡◌, sym}
use mathlib.Core.Bool.{true, false}
use native.Mathlib.Omega.{arith}
use Rattle.responder.specs.inner.Index.{skips}
use Rattle.responder.proofs.Laws.{found_size_none, found_size_some}
use Rattle.responder.proofs.found_size.Goals as goal

pub returns-then-skipped : goal.returns-then-skipped
returns-then-skipped c = let a = c.args in
    let e : skips a.rt a.flags.0 ≡ true = cc in
    (sym (found_size_none a.rt a.flags.0 a.len e), omega arith)

pub returns : goal.returns
returns c = let a = c.args in
    let e : skips a.rt a.flags.0 ≡ false = cc in
    let k = found_size_some a.rt a.flags.0 a.len e in
    (omega arith, omega arith)
