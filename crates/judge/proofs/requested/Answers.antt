-- `judge::requested` meets its contract: what is due is compared with what came, and where they differ the mistakes are tried.
use mathlib.Core.Path.{◌≡◌, refl, sym, ap, ◌∙◌}
use Prim.Native.Nat.{ℕ}
use lib.Seq.{length-take-le}
use Rattle.text.specs.Response.{sent}
use Rattle.layout.specs.Layout.{stored}
use Rattle.sheet.specs.Meaning.{meaning}
use Rattle.judge.specs.declared.Mistake.{Mistake}
use Rattle.judge.specs.declared.Verdict.{Verdict}
use Rattle.judge.specs.declared.Verdict.TheVariants.{Exact, Padded, Short, Wrong, Answered, Refused}
use Rattle.judge.specs.Verdict.{because, alone}
use Rattle.judge.proofs.Search.{requested_as, requested_wrong}
use Rattle.judge.proofs.requested.Goals as goal

-- a mistake changes no verdict but one
stood : (v : Verdict) (w : Mistake) → ((k : ℕ) (o : Mistake) → v ≡ Wrong k o → ⊥) → because v w ≡ v
unfolding because
stood Exact w h = refl
stood (Padded k) w h = refl
stood (Short k) w h = refl
stood (Wrong k o) w h = absurd (h k o refl)
stood (Answered r) w h = refl
stood (Refused r) w h = refl

pub slice_bounds-compared-end-2 : goal.slice_bounds-compared-end-2
slice_bounds-compared-end-2 c = sym (length-take-le _ _ c.put_due-count.ensures.0)

pub returns-in-Wrong : goal.returns-in-Wrong
returns-in-Wrong c = let f = c in
    let d = f in
    let a = d.args in
    let p = d.put_due-count.ensures in
    let e = c.explained-why.ensures in
    requested_wrong a.c.rt a.c.sfn.0 a.c.allocation (meaning (stored a.lay a.s.now)) a.response.now a.scratch.now _ p.2 _ f.compared-found.ensures _
    (c.put_due.ensures.3 ∙ ap (λ (n : ℕ). alone (sent a.c.rt a.c.sfn.0 a.c.allocation (meaning (stored a.lay a.s.now))) n) (e.0 ∙ p.1)) _ _ _ f.in-Wrong.is e.1

pub returns-in_default : goal.returns-in_default
returns-in_default c = let d = c in
    let a = d.args in
    let p = d.put_due-count.ensures in
    requested_as a.c.rt a.c.sfn.0 a.c.allocation (meaning (stored a.lay a.s.now)) a.response.now a.scratch.now _ p.2 _ c.compared-found.ensures _ p.3 _ _ refl (stood _ _ c.in_default.not-Wrong)
