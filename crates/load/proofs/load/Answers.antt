-- `load::load` meets its contract: the refusal, 53, or the sheet as the medium leaves it.
use mathlib.Core.Path.{refl}
use native.Mathlib.Omega.{arith}
use lib.ListN.{length, length-take}
use Rattle.layout.specs.Layout.{stored}
use Rattle.load.proofs.Put.{refused_first, refused_short, has_room, all_written}
use Rattle.load.proofs.load.Goals as goal

pub returns-then-fault-ne0 : goal.returns-then-fault-ne0
returns-then-fault-ne0 c = let a = c.args in
    refused_first a.features.now a.profiles.now (stored a.lay a.s.now) a.out.now (λ i. (c.type_inv.s i).fits) c.fault-fault.ensures c.if-fault-ne0.true c.refused.ensures

pub returns-then-out-count : goal.returns-then-out-count
returns-then-out-count c = let a = c.args in
    refused_short a.features.now a.profiles.now (stored a.lay a.s.now) a.out.now (λ i. (c.type_inv.s i).fits) c.fault-fault.ensures c.if-fault-ne0.false c.if-out-count.true c.refused-then-out-count.ensures

pub slice_bounds-put_loaded-end-2 : goal.slice_bounds-put_loaded-end-2
slice_bounds-put_loaded-end-2 c = let a = c.args in
    omega (arith, length-take (length a.s.now) a.out.now)

pub put_loaded-requires : goal.put_loaded-requires
put_loaded-requires c = let a = c.args in (
  has_room a.features.now a.profiles.now (stored a.lay a.s.now) a.out.now (λ i. (c.type_inv.s i).fits) c.fault-fault.ensures c.if-fault-ne0.false,
  omega (arith, length-take (length a.s.now) a.out.now),
)

pub returns : goal.returns
returns c = let early = c in
    let a = early.args in
    all_written a.features.now a.profiles.now (stored a.lay a.s.now) a.out.now (λ i. (early.type_inv.s i).fits) c.fault-fault.ensures c.if-fault-ne0.false c.if-out-count.false c.put_loaded.ensures refl c.written.ensures
