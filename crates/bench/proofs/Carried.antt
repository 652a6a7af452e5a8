-- What the loop over the rounds carries along: the first entry that is left, how many bytes are left to be sent, and how many of the response buffer can
-- be dirty. Assumes nothing.
use mathlib.Core.Path.{◌≡◌, refl, sym, ap, ◌∙◌}
use mathlib.Core.Bool.{true, false}
use mathlib.Core.List.{List, [], ◌∷◌, ◌++◌}
use Prim.Native.Nat.{ℕ, zero, suc, ◌+◌, ◌-◌, ◌≤◌, ◌<◌}
use native.Mathlib.Omega.{arith}
use lib.ListN.{length, take, drop, replicate, length-take, drop_of_length-le, replicate-append-replicate}
use borrow.Author.Tests.{not-false}
use Rattle.base.specs.Lists.{flat, Bytes}
use Rattle.text.specs.Drive.{Drive, Sound}
use Rattle.text.specs.Response.{bytes, selected}
use Rattle.text.specs.Reading.{stated_profile, Walked, last_number}
use Rattle.text.proofs.Sizes.{length_full}
use Rattle.text.proofs.Own.{walked_sent}
use Rattle.text.proofs.Packing.{whole_rest, flat_parts}
use Rattle.text.proofs.Selection.{selected_asc}
use Rattle.text.proofs.Next.{last_from_law}
use Rattle.layout.specs.Layout.{Sheet, feature_count}
use Rattle.sheet.specs.Check.{Accepted}
use Rattle.sheet.specs.Meaning.{meaning}
use Rattle.sheet.specs.inner.Search.{next_from}
use Rattle.sheet.proofs.Accepted as accepted
use Rattle.sheet.proofs.Passing.{next_first}
use Rattle.responder.specs.inner.Index.{taken_from, taken_size}
use Rattle.responder.proofs.Full.{found_length}
use Rattle.sweep.specs.declared.Sweep.{Sweep}
use Rattle.sweep.specs.Sweep.{cut, wholes_of, advanced, Turn, taking}
use Rattle.sweep.proofs.Cases.{Taken, taken_facts, stepped_none}
use Rattle.bench.specs.Bench.{State, zeros, reply, filled, round_fault, rounded}
use Rattle.bench.specs.Swept.{room}
use Rattle.bench.specs.inner.Loop.{wanted_size, Clean}
use Rattle.bench.proofs.Run.{length_filled}
use Rattle.bench.proofs.Turns.{taken}
use Rattle.bench.proofs.Round.{fits, left, gain, later}
use Rattle.bench.proofs.Rounds.{selected_bytes}

-- ---- what can be dirty

drop_zeros : (k n : ℕ) → drop k (replicate {A = ℕ} n 0) ≡ replicate (n - k) 0
drop_zeros zero n = ap (λ (i : ℕ). replicate {A = ℕ} i 0) {x = n} {y = n - zero} (omega arith)
drop_zeros (suc k) zero = ap (λ (i : ℕ). replicate {A = ℕ} i 0) {x = zero} {y = zero - suc k} (omega arith)
drop_zeros (suc k) (suc n) = drop_zeros k n ∙ ap (λ (i : ℕ). replicate {A = ℕ} i 0) {x = n - k} {y = suc n - suc k} (omega arith)

drop_behind : (xs : List ℕ) (l n : ℕ) → length xs ≤ n → n ≤ l → drop n (xs ++ drop (length xs) (replicate l 0)) ≡ replicate (l - n) 0
drop_behind [] l n h k = drop_zeros n l
drop_behind (x ∷ xs) zero n h k = absurd (omega arith)
drop_behind (x ∷ xs) (suc l) zero h k = absurd (omega arith)
drop_behind (x ∷ xs) (suc l) (suc n) h k = drop_behind xs l n (omega arith) (omega arith) ∙ ap (λ (i : ℕ). replicate {A = ℕ} i 0) {x = l - n} {y = suc l - suc n} (omega arith)

-- all of it
pub clean_all : (d : List ℕ) → Clean (length d) d
clean_all d = record {
  within = omega arith;
  zero = drop_of_length-le d {i = length d} (omega arith) ∙ ap (λ (i : ℕ). replicate {A = ℕ} i 0) {x = zero} {y = length d - length d} (omega arith);
}

-- after an answer of at most n bytes
pub clean_filled : (xs d : List ℕ) (n : ℕ) → length xs ≤ n → n ≤ length d → Clean n (filled xs d)
unfolding filled zeros
clean_filled xs d n h k = record {
  within = omega (arith, length_filled xs d (omega arith));
  zero = drop_behind xs (length d) n h k ∙ ap (λ (i : ℕ). replicate {A = ℕ} (i - n) 0) (sym (length_filled xs d (omega arith)));
}

-- the part that can be dirty is set to zero: then all is
pub clean_cleared : {n : ℕ} {d e : List ℕ} → Clean n d → e ≡ replicate (length (take n d)) 0 → e ++ drop n d ≡ replicate (length d) 0
clean_cleared {n} {d} c q =
    let l : length (take n d) + (length d - n) ≡ length d = omega (arith, length-take n d, c.within) in
    rw (q, c.zero) (replicate-append-replicate {A = ℕ} (length (take n d)) (length d - n) 0 ∙ ap (λ (i : ℕ). replicate {A = ℕ} i 0) l)

-- ---- how many bytes are left

pub taken_wanted : (s : Sheet) (b : Bytes s.bytes) (ok : Accepted s) (w : Sweep) → wanted_size (meaning s) w ≡ taken_size s w.rt w.next.0
taken_wanted s b ok w = omega (arith, length_full w.rt w.next.0 (meaning s), found_length s w.rt w.next.0 b ok)

-- ---- the first entry that is left

-- on from that of an earlier start
pub first_left : (s : Sheet) (b : Bytes s.bytes) (ok : Accepted s) {start next n from r : ℕ} → n ≡ feature_count s → from ≡ taken_from s start → start ≤ next → r ≡ next_from s n next from → r ≡ taken_from s next
unfolding taken_from
first_left s b ok q e h p = next_first (accepted.facts s b ok) e h (rw (← q) p)

-- ---- from round to round

-- what goes along beside where a sweep stands
pub record Carried (m : Drive) (w : State) (left dirty : ℕ) : Type 0 where
  pub size : w.sweep.ended ≡ false → left ≡ wanted_size m w.sweep
  pub clean : Clean dirty w.buffers.response

-- a round that nothing refuses takes what fits of them
module _ {m : Drive} (good : Sound m) (w : State) (f : (round_fault m w).number ≡ 0) where
  abbrev rt : ℕ
  rt = w.sweep.rt

  abbrev a : ℕ
  a = w.sweep.allocation

  abbrev next : ℕ
  next = w.sweep.next.0

  facts : Taken w.sweep (reply m w.sweep) (length w.buffers.collected)
  facts = taken_facts w.sweep (reply m w.sweep) (length w.buffers.collected) (taken m w f)

  found : wholes_of w.sweep (reply m w.sweep) ≡ fits m rt a next
  unfolding wholes_of
  found = ap (λ (x : Walked). x.found) (walked_sent good rt next a facts.eight)

  moves : (rounded m w).sweep ≡ advanced w.sweep record { 0 = stated_profile (reply m w.sweep) } (cut (reply m w.sweep)) (last_number (fits m rt a next)) (w.sweep.collected + gain m rt a next)
  unfolding rounded taking
  moves = ap (λ (t : Turn). t.step.sweep) (stepped_none w.sweep (reply m w.sweep) w.buffers.collected (taken m w f)) ∙ rw found refl

  gains : (rounded m w).sweep.collected ≡ w.sweep.collected + gain m rt a next
  unfolding advanced
  gains = ap (λ (v : Sweep). v.collected) moves

  pub round_gains : w.sweep.collected ≤ (rounded m w).sweep.collected
  round_gains = omega (arith, gains)

  pub round_within : (rounded m w).sweep.collected - w.sweep.collected ≤ wanted_size m w.sweep
  round_within = omega (arith, gains, flat_parts (room a) (selected rt next m))

  -- no start is lower than the one before
  pub round_forward : (rounded m w).sweep.ended ≡ false → w.sweep.next.0 ≤ (rounded m w).sweep.next.0
  unfolding advanced
  round_forward e =
      let c : cut (reply m w.sweep) ≡ true = not-false (cut (reply m w.sweep)) (sym (ap (λ (v : Sweep). v.ended) moves) ∙ e) in
      let h : 0 < length (fits m rt a next) = rw found at (facts.some c) in
      let n : (rounded m w).sweep.next.0 ≡ later m rt a next = rw (moves, c, advanced) in
      omega (arith, n, last_from_law next (fits m rt a next) (left m rt a next) h (rw (whole_rest (room a) (selected rt next m)) (selected_asc good rt next)))

  -- and the rest is left for the next start
  pub round_leaves : (rounded m w).sweep.ended ≡ false → wanted_size m w.sweep - ((rounded m w).sweep.collected - w.sweep.collected) ≡ wanted_size m (rounded m w).sweep
  unfolding advanced
  round_leaves e =
      let c : cut (reply m w.sweep) ≡ true = not-false (cut (reply m w.sweep)) (sym (ap (λ (v : Sweep). v.ended) moves) ∙ e) in
      let h : 0 < length (fits m rt a next) = rw found at (facts.some c) in
      let n : wanted_size m (rounded m w).sweep ≡ length (flat bytes (selected rt (later m rt a next) m)) = rw (moves, c, advanced) in
      omega (arith, n, gains, selected_bytes good rt a next facts.kind h)
