-- The laws of `Wrote`. Assumes nothing.
use mathlib.Core.Path.{◌≡◌, refl, sym, ap, ◌∙◌}
use mathlib.Core.List.{List, [], ◌∷◌, ◌++◌, append_assoc, append-nil}
use Prim.Native.Nat.{ℕ, ◌+◌, ◌-◌, ◌≤◌, ◌<◌, min}
use native.Mathlib.Nat.{zero-add}
use native.Mathlib.Decide.{dec_le}
use native.Mathlib.Omega.{arith}
use lib.ListN.{length, set, take, drop, replicate, length-append, length-take, length-replicate, take-append-drop, drop_of_length-le, replicate-append-replicate}
use lib.Seq.{sets, length-sets, sets-eq, length-take-le, take-length, take-append_seam, drop-drop}
use Rattle.lent.specs.Wrote.{Wrote}
use Rattle.lent.proofs.Sets.{sets_out, sets_room, sets_append, sets_left}

-- ---- a single writing

-- where nothing is to be written nothing changes
pub nothing : (d : List ℕ) (at : ℕ) → Wrote d at [] at d
nothing d at = record { next = omega arith; holds = refl }

-- from the end on nothing is written
pub nowhere : (d : List ℕ) (at : ℕ) (xs : List ℕ) → length d ≤ at → Wrote d at xs at d
nowhere d at xs h = record { next = omega arith; holds = sym (sets_out d at xs h) }

-- what has no room counts for nothing
pub room : {d b e : List ℕ} {at r : ℕ} (xs : List ℕ) → b ≡ take (length d - at) xs → Wrote d at b r e → Wrote d at xs r e
room {d} {b} {e} {at} {r} xs h w = record {
  next = omega (arith, w.next, ap length h, length-take (length d - at) xs);
  holds = w.holds ∙ ap (sets d at) h ∙ sets_room d at xs (length d - at) (omega arith);
}

-- and all of something is all that it has
pub all : {d e : List ℕ} {at r : ℕ} (xs : List ℕ) → Wrote d at (take (length xs) xs) r e → Wrote d at xs r e
all {d} {e} {at} {r} xs w = rw (← take-length xs) w

-- a single element that has room
pub stored : (d : List ℕ) (at x : ℕ) → at < length d → Wrote d at (x ∷ []) (at + 1) (set d at x)
stored d at x h = record { next = omega arith; holds = refl }

-- a block b that has room, as a copy into the part of d that it fills leaves it
copied : (d b e : List ℕ) (at : ℕ) → at + length b ≤ length d → e ≡ b
    → Wrote d at b (at + length b) (take at d ++ (e ++ drop (at + length b - at) (drop at d)))
copied d b e at h k =
    let n : at + length b - at ≡ length b = omega arith in
    record { next = omega arith; holds = rw (k, n, drop-drop, sets-eq b d at h) (sym (append_assoc (take at d) b (drop (at + length b) d))) }

-- the same of a block of n
pub copied_all : (n : ℕ) (d b e : List ℕ) (at : ℕ) → length b ≡ n → at + n ≤ length d → e ≡ b
    → Wrote d at b (at + n) (take at d ++ (e ++ drop (at + n - at) (drop at d)))
copied_all n d b e at l h k = rw (← l) (copied d b e at (omega (arith, l, h)) k)

-- four stores over four elements
pub four_set : (d : List ℕ) (a b c e : ℕ) → length d ≡ 4 → set (set (set (set d 0 a) 1 b) 2 c) 3 e ≡ a ∷ b ∷ c ∷ e ∷ []
four_set (x ∷ y ∷ z ∷ w ∷ []) a b c e h = refl
four_set [] a b c e h = absurd (omega arith)
four_set (x ∷ []) a b c e h = absurd (omega arith)
four_set (x ∷ y ∷ []) a b c e h = absurd (omega arith)
four_set (x ∷ y ∷ z ∷ []) a b c e h = absurd (omega arith)
four_set (x ∷ y ∷ z ∷ w ∷ v ∷ d) a b c e h = absurd (omega arith)

-- what is written, said otherwise
pub written_as : {d e : List ℕ} {at r : ℕ} {xs ys : List ℕ} → xs ≡ ys → Wrote d at xs r e → Wrote d at ys r e
written_as h w = rw (← h) w

-- ---- what a writing leaves

-- the buffer keeps its length
pub kept : {d e : List ℕ} {at r : ℕ} {xs : List ℕ} → Wrote d at xs r e → length e ≡ length d
kept {d} {e} {at} {r} {xs} w = ap length w.holds ∙ length-sets d at xs

-- what is written from inside the buffer ends inside it
pub inside : {d e : List ℕ} {at r : ℕ} {xs : List ℕ} → Wrote d at xs r e → at ≤ length d → r ≤ length e
inside w h = omega (arith, w.next, kept w)

-- where all has room: what stood before it, what was written, and what stood behind it
pub placed : {d e : List ℕ} {at r : ℕ} {xs : List ℕ} → Wrote d at xs r e → at + length xs ≤ length d → e ≡ take at d ++ xs ++ drop (at + length xs) d
placed {d} {e} {at} {r} {xs} w h = w.holds ∙ sets-eq xs d at h

-- the same from index 0 on
pub front : {d e : List ℕ} {r : ℕ} {xs : List ℕ} → Wrote d 0 xs r e → length xs ≤ length d → e ≡ xs ++ drop (length xs) d
front {d} {e} {r} {xs} w h = rw zero-add at (placed w (omega arith))

-- where room is left, all was written
pub room_left : {d e : List ℕ} {r : ℕ} {xs : List ℕ} → Wrote d 0 xs r e → r < length d → (r ≡ length xs) × (take r e ≡ xs)
room_left {d} {e} {r} {xs} w h =
    let n : r ≡ length xs = omega (arith, w.next) in
    (n, rw (n, front w (omega arith)) (take-append_seam xs (drop (length xs) d)))

-- two outcomes of one writing are the same
pub same : {d e f : List ℕ} {at r q : ℕ} {xs : List ℕ} → Wrote d at xs r e → Wrote d at xs q f → (r ≡ q) × (e ≡ f)
same v w = (v.next ∙ sym w.next, v.holds ∙ sym w.holds)

-- ---- writings together

-- one writing after another
pub then : {d e f : List ℕ} {at r q : ℕ} {xs ys : List ℕ} → Wrote d at xs r e → Wrote e r ys q f → Wrote d at (xs ++ ys) q f
then {d} {e} {f} {at} {r} {q} {xs} {ys} v w =
    let k : length e ≡ length d = kept v in
    let behind : sets e r ys ≡ sets e (at + length xs) ys =
    elim (dec_le (length xs) (length d - at)) [
      | yes h ↦ ap (λ (i : ℕ). sets e i ys) (omega (arith, v.next))
      | no h ↦ sets_out e r ys (omega (arith, v.next)) ∙ sym (sets_out e (at + length xs) ys (omega arith))
    ] in
    record {
      next = omega (arith, length-append xs ys, v.next, w.next);
      holds = w.holds ∙ behind ∙ ap (λ (l : List ℕ). sets l (at + length xs) ys) v.holds ∙ sym (sets_append d at xs ys);
    }

-- a writing of xs into the lent front of d is a writing into d of as much of xs as has room there
pub cut : {d e : List ℕ} {r limit : ℕ} {xs : List ℕ} → limit ≤ length d → Wrote (take limit d) 0 xs r e → Wrote d 0 (take limit xs) r (e ++ drop limit d)
cut {d} {e} {r} {limit} {xs} h w =
    let n : length (take limit d) ≡ limit = length-take-le limit d h in
    let k : length (take limit xs) ≡ min limit (length xs) = length-take limit xs in
    record {
      next = omega (arith, w.next);
      holds =
          ap (λ (z : List ℕ). z ++ drop limit d) (w.holds ∙ sym (sets_room (take limit d) 0 xs limit (omega arith)))
          ∙ sym (sets_left (take limit d) (drop limit d) 0 (take limit xs) (omega arith))
          ∙ ap (λ (z : List ℕ). sets z 0 (take limit xs)) (take-append-drop limit d);
    }

-- ---- setting to one value

-- one more of them
pub filled_more : {d e : List ℕ} {i : ℕ} (x : ℕ) → Wrote d 0 (replicate i x) i e → i < length e → Wrote d 0 (replicate (i + 1) x) (i + 1) (set e i x)
filled_more {d} {e} {i} x w h = rw (← replicate-append-replicate i 1 x) (then w (stored e i x h))

-- the same where the index is said otherwise
pub filled_at : {d e : List ℕ} {i j : ℕ} (x : ℕ) → Wrote d 0 (replicate i x) i e → j ≡ i → i < length e → Wrote d 0 (replicate (i + 1) x) (i + 1) (set e j x)
filled_at {d} {e} {i} {j} x w q h = rw q (filled_more x w h)

-- no room is left: all of them
pub filled_whole : {d e : List ℕ} {i : ℕ} (x : ℕ) → Wrote d 0 (replicate i x) i e → length e ≤ i → e ≡ replicate (length d) x
filled_whole {d} {e} {i} x w h =
    let n : length (replicate i x) ≡ i = length-replicate i x in
    let k : i ≡ length d = omega (arith, w.next, kept w) in
    front w (omega arith) ∙ rw (drop_of_length-le d {i = length (replicate i x)} (omega arith), append-nil, k)
