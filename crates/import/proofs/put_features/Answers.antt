-- `import::put_features` meets its contract: what the buffer holds in the end is told by what it holds at each turn.
use mathlib.Core.Path.{refl, ◌∙◌}
use native.Mathlib.Omega.{arith}
use Rattle.lent.proofs.Laws.{kept}
use Rattle.import.proofs.Beside.{passed_start, here_whole, here_entry, here_body, passed_more, passed_end}
use Rattle.import.proofs.put_features.Goals as goal

pub loop-place-init : goal.loop-place-init
loop-place-init c = (passed_start c.requires, refl)

pub length_in-len-requires : goal.length_in-len-requires
length_in-len-requires c = omega (arith, here_whole c.loop-place.invariant.0 c.loop-place-test.true)

pub overflow_cast-next : goal.overflow_cast-next
overflow_cast-next c = omega (arith, c.loop-place.invariant.0.fits.low)

pub put_entry-entry-requires : goal.put_entry-entry-requires
put_entry-entry-requires c = (here_whole c.loop-place.invariant.0 c.loop-place-test.true, here_entry c.loop-place.invariant.0 c.loop-place-test.true)

pub put_body-next-requires : goal.put_body-next-requires
put_body-next-requires c = let l = c.length_in-len.ensures in (
  l,
  omega (arith, l, here_whole c.loop-place.invariant.0 c.loop-place-test.true),
  omega (arith, l, here_body c.loop-place.invariant.0 c.loop-place-test.true c.put_entry-entry.ensures),
)

pub overflow_add-place : goal.overflow_add-place
overflow_add-place c = omega (arith, c.length_in-len.ensures, here_whole c.loop-place.invariant.0 c.loop-place-test.true)

pub overflow_add-place-in-loop-place : goal.overflow_add-place-in-loop-place
overflow_add-place-in-loop-place c = omega (arith, c.length_in-len.ensures, here_whole c.loop-place.invariant.0 c.loop-place-test.true)

pub loop-place-preserved : goal.loop-place-preserved
loop-place-preserved c = (
  passed_more c.loop-place.invariant.0 c.loop-place-test.true c.put_entry-entry.ensures c.put_body-next.ensures (omega (arith, c.length_in-len.ensures)),
  kept c.put_body-next.ensures ∙ kept c.put_entry-entry.ensures ∙ c.loop-place.invariant.1,
)

pub shape_of-sheet : goal.shape_of-sheet
shape_of-sheet c = c.loop-place.invariant.1

pub returns : goal.returns
returns c = let z = passed_end c.loop-place.invariant.0 c.loop-place-test.false in
    record { next = z.0; holds = z.1 }
