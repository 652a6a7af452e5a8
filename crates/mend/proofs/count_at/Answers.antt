-- `mend::count_at` meets its contract: the change of the flags, and those of the body.
use native.Mathlib.Omega.{arith}
use Rattle.mend.proofs.Made.{seen_by, count_clean, count_dirty}
use Rattle.mend.proofs.count_at.Goals as goal

pub returns-then-is_dirty : goal.returns-then-is_dirty
returns-then-is_dirty c = let y = c in
    let z = y in
    count_dirty (seen_by z.number_in-f.ensures z.flags_in-flags.ensures z.body_at-body.ensures.holds z.row_of-row.ensures y.is_barred.ensures y.flags_mended.ensures) (λ i. omega (arith, z.type_inv.s i)) z.requires _ y.differs-one.ensures _ c.is_dirty.ensures c.if-is_dirty.true _ c.plan_of.ensures _ c.count_body.ensures

pub returns : goal.returns
returns c = let y = c in
    let z = y in
    count_clean (seen_by z.number_in-f.ensures z.flags_in-flags.ensures z.body_at-body.ensures.holds z.row_of-row.ensures y.is_barred.ensures y.flags_mended.ensures) (λ i. omega (arith, z.type_inv.s i)) z.requires _ y.differs-one.ensures _ c.is_dirty.ensures c.if-is_dirty.false
