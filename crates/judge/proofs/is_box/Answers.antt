-- `judge::is_box` meets its contract: the bytes that the box sends, compared.
use mathlib.Core.Path.{sym, ap, ◌∙◌}
use mathlib.Core.List.{List}
use Prim.Native.Nat.{ℕ}
use lib.Seq.{length-take-le}
use Rattle.layout.specs.Layout.{stored}
use Rattle.sheet.specs.Meaning.{meaning}
use Rattle.judge.specs.declared.Stated.{Stated}
use Rattle.judge.specs.Boxes.{sent_by}
use Rattle.judge.specs.Verdict.{compared, is_right}
use Rattle.judge.proofs.is_box.Goals as goal

pub slice_bounds-compared-end-2 : goal.slice_bounds-compared-end-2
slice_bounds-compared-end-2 c = sym (length-take-le _ _ c.put_box-count.ensures.0)

pub returns : goal.returns
returns c = let a = c.args in
    let p = c.put_box-count.ensures in (
      p.1,
      c.is_right.ensures
          ∙ ap is_right (c.compared.ensures ∙ ap (λ (l : List ℕ). compared l a.response.now) (p.2 ∙ ap (λ (b : Stated). sent_by b a.c.allocation (meaning (stored a.lay a.s.now))) c.box_of-b.ensures)),
    )
