-- `mend::fix_at` meets its contract: the flags put over those that stand there, and the body, if there is something to mend in it.
use native.Mathlib.Omega.{arith}
use Rattle.mend.proofs.Fixing.{fixes_length}
use Rattle.mend.proofs.Made.{seen_by, place_length}
use Rattle.mend.proofs.Walking.{fixed_clean, fixed_dirty}
use Rattle.mend.proofs.fix_at.Goals as goal

pub overflow_add-at : goal.overflow_add-at
overflow_add-at c = let p = c.requires in omega (arith, p.whole, p.short)

pub fix-next-requires : goal.fix-next-requires
fix-next-requires c = let p = c.requires in
    (omega (arith, p.whole, p.room), omega (arith, p.whole, p.short))

pub overflow_add-at-then-is_dirty : goal.overflow_add-at-then-is_dirty
overflow_add-at-then-is_dirty c = let early = c in
    let p = early.requires in omega (arith, p.whole, p.short)

pub fix_body-requires : goal.fix_body-requires
fix_body-requires c = let early = c in
    let p = early.requires in
    let n = place_length _ _ _ p.whole early.body_at-body.ensures.holds in
    (omega (arith, p.whole, p.room, n, fixes_length early.fix-next.ensures), omega (arith, p.whole, p.short, n))

pub returns-then-is_dirty : goal.returns-then-is_dirty
returns-then-is_dirty c = let early = c in
    let y = early in
    let z = y in
    fixed_dirty (seen_by z.number_in-f.ensures z.flags_in-flags.ensures z.body_at-body.ensures.holds z.row_of-row.ensures y.is_barred.ensures y.flags_mended.ensures) (λ i. omega (arith, z.type_inv.s i)) z.requires y.fix-next.ensures _ early.is_dirty.ensures c.if-is_dirty.true _ c.plan_of.ensures c.fix_body.ensures

pub returns : goal.returns
returns c = let y = c in
    let z = y in
    fixed_clean (seen_by z.number_in-f.ensures z.flags_in-flags.ensures z.body_at-body.ensures.holds z.row_of-row.ensures y.is_barred.ensures y.flags_mended.ensures) (λ i. omega (arith, z.type_inv.s i)) z.requires y.fix-next.ensures _ c.is_dirty.ensures c.if-is_dirty.false
