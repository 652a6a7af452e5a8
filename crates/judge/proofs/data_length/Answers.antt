-- `judge::data_length` meets its contract: the size that the box finds, and four.
use Prim.Native.Nat.{◌+◌, ◌<◌}
use native.Mathlib.Omega.{arith}
use Rattle.base.specs.Lists.{Bytes}
use Rattle.layout.specs.Layout.{stored}
use Rattle.judge.proofs.Boxes.{size_length, size_low}
use borrow.Author.Rules.{rules}
use Rattle.judge.proofs.data_length.Goals as goal

pub overflow_add-result : goal.overflow_add-result
overflow_add-result c = let l : 4 + c.size-size.result < 4294967296 = size_low (stored c.args.lay c.args.s.now) (λ i. omega (arith, c.type_inv.s i)) c.requires _ _ _ c.size-size.ensures in search rules

pub overflow_cast-result : goal.overflow_cast-result
overflow_cast-result c = let l : 4 + c.size-size.result < 4294967296 = size_low (stored c.args.lay c.args.s.now) (λ i. omega (arith, c.type_inv.s i)) c.requires _ _ _ c.size-size.ensures in search rules

pub returns : goal.returns
returns c = let a = c.args in
    let y : Bytes a.s.now = λ i. omega (arith, c.type_inv.s i) in
    size_length (stored a.lay a.s.now) y c.requires a.rt a.sfn.0 c.size-size.result c.size-size.ensures
