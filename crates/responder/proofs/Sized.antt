-- Sending what a plan takes: the two ways that it ends, and that with the request's own number it is the box's answer. Assumes nothing.
use mathlib.Core.Path.{◌≡◌, refl, sym, ap, ◌∙◌}
use mathlib.Core.List.{List, ◌++◌}
use Prim.Native.Nat.{ℕ, ◌≤◌, ◌<◌}
use native.Mathlib.Omega.{arith}
use lib.ListN.{length, take, drop, length-take}
use borrow.Author.Tests.{lt-ltb, le-ltb}
use Rattle.lent.specs.Wrote.{Wrote}
use Rattle.lent.specs.declared.Made.{Made}
use Rattle.lent.specs.Maker.{outcome, refused, written, refusing, making}
use Rattle.lent.proofs.Laws.{cut}
use Rattle.lent.proofs.Maker.{written_making, refused_unless}
use Rattle.refusal.specs.First.{refuse, accept}
use Rattle.refusal.proofs.First.{if_true, if_false, unless_none}
use Rattle.layout.specs.Layout.{Sheet}
use Rattle.responder.specs.declared.Plan.{Plan}
use Rattle.responder.specs.inner.Index.{taken_from, taken_size, plan_of, full_bytes, limit}
use Rattle.responder.specs.Trusting.{trusting}
use Rattle.responder.specs.Sized.{sized}

module _ (s : Sheet) (rt sfn a from size : ℕ) (d : List ℕ) (n : ℕ) (is : n ≡ limit a size) where
  pub sized_short : length d < n → (m : Made) → m ≡ refused (refuse 12) → outcome m d ≡ sized s rt sfn a from size d
  unfolding sized
  sized_short h m e =
      rw (← is, lt-ltb (length d) n h, if_true) (refused_unless (making (take n (full_bytes s (plan_of s rt sfn from size))) d) e refl (λ z. omega arith))

  pub sized_sent : (p : Plan) (count : ℕ) (e : List ℕ) (m : Made) → p ≡ plan_of s rt sfn from size → n ≤ length d → Wrote (take n d) 0 (full_bytes s p) count e → m ≡ written count
      → outcome m (e ++ drop n d) ≡ sized s rt sfn a from size d
  unfolding sized
  sized_sent p count e m is-plan room w made =
      let xs = take n (full_bytes s (plan_of s rt sfn from size)) in
      rw (← is, le-ltb (length d) n room, if_false)
      (ap (λ (k : Made). outcome k (e ++ drop n d)) made
      ∙ written_making (omega (arith, length-take n (full_bytes s (plan_of s rt sfn from size)))) (cut room (rw is-plan at w)) ∙ sym (unless_none accept (refusing d) (making xs d) refl))

-- told the request's own numbers
pub sized_trusting : (s : Sheet) (rt sfn a : ℕ) (d : List ℕ) → sized s rt sfn a (taken_from s sfn) (taken_size s rt sfn) d ≡ trusting s rt sfn a d
unfolding trusting
sized_trusting s rt sfn a d = refl
