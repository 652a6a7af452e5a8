-- The search for a place, turn by turn. Assumes nothing.
use mathlib.Core.Path.{◌≡◌, sym, ap, ◌∙◌}
use mathlib.Core.Bool.{Bool, true, false}
use mathlib.Core.List.{List}
use Prim.Native.Nat.{ℕ, ◌≤◌, ◌<◌}
use lib.ListN.{length}
use borrow.Author.Tests.{le-leb, lt-leb}
use Rattle.text.specs.Reading.{number_at, flags_at}
use Rattle.reading.specs.Places.{next_at}
use Rattle.reading.proofs.Places.{from_step, from_end}
use Rattle.rom.specs.inner.Standing.{seek_in, first_at, from_at, agrees, current_at}

module _ (test : ℕ → Bool) (i : List ℕ) (at : ℕ) where
  pub seek_here : at < length i → test at ≡ true → first_at test i at ≡ at
  unfolding seek_in
  seek_here h t = rw (from_step i at h, seek_in, t)

  pub seek_past : at < length i → test at ≡ false → first_at test i at ≡ first_at test i (next_at i at)
  unfolding seek_in
  seek_past h t = rw (from_step i at h, seek_in, t)

  pub seek_none : length i ≤ at → first_at test i at ≡ length i
  unfolding seek_in
  seek_none h = rw (from_end i at h, seek_in)

-- where the answer is w, at each turn of the loop
module _ (test : ℕ → Bool) (i : List ℕ) (w at : ℕ) (e : w ≡ first_at test i at) where
  seek_found : at < length i → test at ≡ true → at ≡ w
  seek_found h t = sym (e ∙ seek_here test i at h t)

  seek_go : (next : ℕ) → at < length i → test at ≡ false → next ≡ next_at i at → w ≡ first_at test i next
  seek_go next h t n = e ∙ seek_past test i at h t ∙ ap (first_at test i) (sym n)

  pub seek_end : length i ≤ at → length i ≡ w
  seek_end h = sym (e ∙ seek_none test i at h)

module _ (sfn : ℕ) (i : List ℕ) (w at : ℕ) (e : w ≡ first_at (from_at sfn i) i at) (h : at < length i) (n : ℕ) (p : n ≡ number_at i at) where
  pub from_found : sfn ≤ n → at ≡ w
  from_found l = seek_found (from_at sfn i) i w at e h (rw (← p) (le-leb sfn n l))

  pub from_go : (next : ℕ) → n < sfn → next ≡ next_at i at → w ≡ first_at (from_at sfn i) i next
  from_go next l q = seek_go (from_at sfn i) i w at e next h (rw (← p) (lt-leb sfn n l)) q

module _ (on : Bool) (i : List ℕ) (w at : ℕ) (e : w ≡ first_at (current_at on i) i at) (h : at < length i) (f : ℕ) (p : f ≡ flags_at i at) (b : Bool) (q : b ≡ agrees on f) where
  pub with_found : b ≡ true → at ≡ w
  with_found t = seek_found (current_at on i) i w at e h (rw (← p) (sym q ∙ t))

  pub with_go : (next : ℕ) → b ≡ false → next ≡ next_at i at → w ≡ first_at (current_at on i) i next
  with_go next t n = seek_go (current_at on i) i w at e next h (rw (← p) (sym q ∙ t)) n
