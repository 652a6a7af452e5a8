-- `layout::put_head` meets its contract: in rows the head stands in one piece, in columns it is gathered.
use mathlib.Core.Path.{◌≡◌}
use Prim.Native.Nat.{◌+◌, ◌-◌}
use native.Mathlib.Omega.{arith}
use lib.ListN.{take, drop}
use Rattle.layout.specs.Layout.{stored}
use Rattle.layout.specs.Contents.{entry_of, head_bytes}
use Rattle.layout.proofs.Laws.{fields_inside}
use Rattle.layout.proofs.Heads.{row_inside, head_in_row, head_gathered}
use Rattle.layout.proofs.put_head.Goals as goal

pub overflow_add-end : goal.overflow_add-end
overflow_add-end c = let a = c.args in let p = c.requires in omega (arith, (fields_inside a.nth.lay a.nth.n a.nth.i p.1).number, p.0.1)

pub slice_bounds-place4-end : goal.slice_bounds-place4-end
slice_bounds-place4-end c = let a = c.args in
    let p = c.requires in
    omega (arith, row_inside a.nth.lay a.nth.n a.nth.i c.in-Rows.is p.1, p.0.1)

pub gathered-head-requires : goal.gathered-head-requires
gathered-head-requires c = let a = c.args in
    let p = c.requires in (
      omega (arith, (fields_inside a.nth.lay a.nth.n a.nth.i p.1).number, p.0.1),
      omega (arith, (fields_inside a.nth.lay a.nth.n a.nth.i p.1).flags, p.0.1),
      omega (arith, (fields_inside a.nth.lay a.nth.n a.nth.i p.1).length, p.0.1),
    )

pub returns-in-Rows : goal.returns-in-Rows
returns-in-Rows c = let a = c.args in
    let p = c.requires in
    let m : c.number_place-number.result + 4 - c.number_place-number.result ≡ 4 = omega arith in
    let e : take (c.number_place-number.result + 4 - c.number_place-number.result) (drop c.number_place-number.result a.s.now) ≡ head_bytes (entry_of (stored a.nth.lay a.s.now) a.nth.i) =
    rw (m, c.number_place-number.ensures) (head_in_row a.nth.lay a.s.now a.nth.n a.nth.i c.in-Rows.is (λ j. (c.type_inv.s j).fits) p.0 p.1) in
    rw (← e) c.place4.ensures

pub returns-in-Columns : goal.returns-in-Columns
returns-in-Columns c = let o = c in
    let a = o.args in
    let p = o.requires in
    let e : c.gathered-head.result ≡ head_bytes (entry_of (stored a.nth.lay a.s.now) a.nth.i) =
    cc (head_gathered a.nth.lay a.s.now a.nth.n a.nth.i (λ j. (o.type_inv.s j).fits) p.0 p.1) in
    rw (← e) c.place4-in-Columns.ensures
