-- A walk over entries as far as they fit, turn by turn: the same over rows and over columns. Assumes nothing.
use mathlib.Core.Path.{◌≡◌}
use mathlib.Core.Bool.{Bool, true, false}
use mathlib.Core.List.{List}
use Prim.Native.Nat.{ℕ, ◌+◌, ◌≤◌, ◌<◌}
use native.Mathlib.Omega.{arith}
use lib.ListN.{length}
use Rattle.lent.specs.Wrote.{Wrote}
use Rattle.lent.proofs.Laws.{nothing, then, kept, inside}
use Rattle.layout.specs.Layout.{Sheet}
use Rattle.responder.specs.inner.Index.{piece, going}
use Rattle.responder.specs.inner.Fitted.{Fitted}
use Rattle.responder.proofs.Laws.{pieces_start, pieces_more, one_on, stopping, going_on}

-- what a turn of the walk stands on: the entries before i are written, and the next descriptor starts inside the buffer
abbrev pub Walked : (rt : ℕ) (s : Sheet) (from to : ℕ) (d : List ℕ) (at : ℕ) (e : List ℕ) (next i : ℕ) → Type 0
Walked rt s from to d at e next i = Fitted rt s from to d at (record { i = i; next = next }) e × (next ≤ length e)

module _ (rt : ℕ) (s : Sheet) (from to : ℕ) where
  pub fitted_none : (d : List ℕ) (at : ℕ) → Fitted rt s from to d at (record { i = from; next = at }) d
  fitted_none d at = record { ordered = omega arith; within = omega arith; wrote = rw pieces_start (nothing d at) }

  pub walked_none : (d : List ℕ) (at : ℕ) → at ≤ length d → Walked rt s from to d at d at from
  walked_none d at h = (fitted_none d at, h)

  module _ {d e f : List ℕ} {at i next q : ℕ} (h : Walked rt s from to d at e next i) (stops : Bool) (w : Wrote e next (going stops (piece rt s i)) q f) where
    abbrev v : Fitted rt s from to d at (record { i = i; next = next }) e
    v = h.0

    pub walked_kept : length f ≡ length d
    walked_kept = kept (then v.wrote w)

    pub walked_stop : stops ≡ true → Fitted rt s from to d at (record { i = i; next = q }) f
    walked_stop t = record { ordered = v.ordered; within = v.within; wrote = stopping stops (piece rt s i) v.wrote w t }

    pub walked_more : stops ≡ false → i < to → Walked rt s from to d at f q (i + 1)
    walked_more t l =
        let o = one_on v.ordered l in
        (record { ordered = o.0; within = o.1; wrote = rw (pieces_more rt s from i v.ordered) (going_on stops (piece rt s i) v.wrote w t) }, inside w h.1)
