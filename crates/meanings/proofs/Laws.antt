-- The lines of a text, from one line end to the next. Assumes nothing.
use mathlib.Core.Path.{◌≡◌, refl, sym, ap, ◌∙◌}
use mathlib.Core.Bool.{Bool, true, false}
use mathlib.Core.List.{List, [], ◌∷◌}
use Prim.Native.Nat.{ℕ, suc, ◌+◌, ◌-◌, ◌≤◌, ◌<◌}
use native.Mathlib.Omega.{arith}
use lib.Dec.{eqb}
use borrow.Author.Tests.{eq-eqb, lt-ltb, le-ltb}
use Rattle.std.proofs.lemmas.List.Sums.{position_or_len_is}
use lib.ListN.{length, get_or, take, drop, length-drop, drop_of_length-le}
use lib.Seq.{take_all}
use Rattle.std.specs.Prelude.{Some, None}
use Rattle.std.specs.List.{position, position_or_len}
use Rattle.std.proofs.lemmas.Grind.{common_steps}
use Rattle.meanings.specs.Lines.{is_end, lines_left, behind_lines, up_to_end, text_line}

pub behind_none : (s : List ℕ) → behind_lines s 0 ≡ s
unfolding behind_lines
behind_none [] = refl
behind_none (x ∷ s) = refl

pub behind_ends : (n x : ℕ) (s : List ℕ) → eqb x 10 ≡ true → behind_lines (x ∷ s) (suc n) ≡ behind_lines s n
unfolding behind_lines lines_left
behind_ends n x s e = rw (e, behind_lines, lines_left) (ap (behind_lines s) (omega arith))

pub behind_goes : (n x : ℕ) (s : List ℕ) → eqb x 10 ≡ false → behind_lines (x ∷ s) (suc n) ≡ behind_lines s (suc n)
unfolding behind_lines lines_left
behind_goes n x s e = rw (e, behind_lines, lines_left)

-- more lines are passed one by one
behind_more : (s : List ℕ) (n : ℕ) → behind_lines s (suc n) ≡ behind_lines (behind_lines s 1) n
unfolding behind_lines
behind_more [] n = refl
behind_more (x ∷ s) n = go (eqb x 10) refl (behind_more s n)
  where
    go : (t : Bool) → eqb x 10 ≡ t → behind_lines s (suc n) ≡ behind_lines (behind_lines s 1) n → behind_lines (x ∷ s) (suc n) ≡ behind_lines (behind_lines (x ∷ s) 1) n
    go true e i = behind_ends n x s e ∙ ap (λ (l : List ℕ). behind_lines l n) (sym (behind_ends 0 x s e ∙ behind_none s))
    go false e i = behind_goes n x s e ∙ i ∙ ap (λ (l : List ℕ). behind_lines l n) (sym (behind_goes 0 x s e))

-- a walk that has passed i of n lines passes one more
pub behind_step : (l r t : List ℕ) (i n : ℕ) → i < n → t ≡ behind_lines r 1 → behind_lines r (n - i) ≡ l → behind_lines t (n - (i + 1)) ≡ l
behind_step l r t i n h e w =
    let m : n - i ≡ suc (n - (i + 1)) = omega arith in
    ap (λ (q : List ℕ). behind_lines q (n - (i + 1))) e ∙ sym (behind_more r (n - (i + 1))) ∙ sym (ap (behind_lines r) m) ∙ w

-- ---- where the first line end is

pub position_found : (s : List ℕ) (k : ℕ) → ((j : ℕ) → j < k → eqb (get_or s j 0) 10 ≡ false) → k < length s → get_or s k 0 ≡ 10 → Some k ≡ position is_end s
position_found s k none h e =
    let t : eqb (get_or s k 0) 10 ≡ true = eq-eqb (get_or s k 0) 10 e in
    let f : position_or_len is_end s ≡ k = position_or_len_is is_end s k 0 (omega arith) none (λ _. t) in
    rw (f, lt-ltb k (length s) h)

pub position_missing : (s : List ℕ) → ((j : ℕ) → j < length s → eqb (get_or s j 0) 10 ≡ false) → None ≡ position is_end s
position_missing s none =
    let f : position_or_len is_end s ≡ length s = position_or_len_is is_end s (length s) 0 (omega arith) none (λ h. absurd (omega arith)) in
    rw (f, le-ltb (length s) (length s) (omega arith))

first_ends : (x : ℕ) (s : List ℕ) → eqb x 10 ≡ true → position_or_len is_end (x ∷ s) ≡ 0
first_ends x s e = rw e

first_goes : (x : ℕ) (s : List ℕ) → eqb x 10 ≡ false → position_or_len is_end (x ∷ s) ≡ suc (position_or_len is_end s)
first_goes x s e = grind (arith, common_steps)

upto_take : (s : List ℕ) → take (position_or_len is_end s) s ≡ up_to_end s
unfolding up_to_end
upto_take [] = refl
upto_take (x ∷ s) = go (eqb x 10) refl (upto_take s)
  where
    go : (t : Bool) → eqb x 10 ≡ t → take (position_or_len is_end s) s ≡ up_to_end s → take (position_or_len is_end (x ∷ s)) (x ∷ s) ≡ up_to_end (x ∷ s)
    go true e i = rw (first_ends x s e, e, up_to_end)
    go false e i = rw (first_goes x s e, e, up_to_end) (ap (λ (l : List ℕ). x ∷ l) i)

behind_drop : (s : List ℕ) → drop (suc (position_or_len is_end s)) s ≡ behind_lines s 1
unfolding behind_lines
behind_drop [] = refl
behind_drop (x ∷ s) = go (eqb x 10) refl (behind_drop s)
  where
    go : (t : Bool) → eqb x 10 ≡ t → drop (suc (position_or_len is_end s)) s ≡ behind_lines s 1 → drop (suc (position_or_len is_end (x ∷ s))) (x ∷ s) ≡ behind_lines (x ∷ s) 1
    go true e i = ap (λ (k : ℕ). drop (suc k) (x ∷ s)) (first_ends x s e) ∙ sym (behind_ends 0 x s e ∙ behind_none s)
    go false e i = ap (λ (k : ℕ). drop (suc k) (x ∷ s)) (first_goes x s e) ∙ i ∙ sym (behind_goes 0 x s e)

first_found : (s : List ℕ) (k : ℕ) → position is_end s ≡ Some k → (k ≡ position_or_len is_end s) × (k < length s)
first_found s k e = grind (arith, common_steps)

first_missing : (s : List ℕ) → position is_end s ≡ None → length s ≤ position_or_len is_end s
first_missing s e = grind (arith, common_steps)

-- what the code takes, where it is found and where it is not
pub upto_found : (s : List ℕ) (k : ℕ) → position is_end s ≡ Some k → take k s ≡ up_to_end s
upto_found s k e = rw (first_found s k e).0 (upto_take s)

pub upto_all : (s : List ℕ) → position is_end s ≡ None → s ≡ up_to_end s
upto_all s e = sym (take_all _ s (first_missing s e)) ∙ upto_take s

pub behind_found : (s : List ℕ) (k : ℕ) → position is_end s ≡ Some k → take (length s - (k + 1)) (drop (k + 1) s) ≡ behind_lines s 1
behind_found s k e =
    let n : k + 1 ≡ suc (position_or_len is_end s) = omega (arith, (first_found s k e).0) in
    take_all _ (drop (k + 1) s) (omega (arith, length-drop (k + 1) s)) ∙ rw n (behind_drop s)

pub behind_all : (s : List ℕ) → position is_end s ≡ None → take (length s - length s) (drop (length s) s) ≡ behind_lines s 1
behind_all s e =
    let m = first_missing s e in
    take_all _ (drop (length s) s) (omega (arith, length-drop (length s) s)) ∙ drop_of_length-le s {i = length s} (omega arith) ∙ sym (drop_of_length-le s {i = suc (position_or_len is_end s)} (omega (arith, m))) ∙ behind_drop s

-- ---- the line

pub line_is : (s rest : List ℕ) (lines : ℕ) → behind_lines rest 0 ≡ behind_lines s lines → up_to_end rest ≡ text_line lines s
unfolding text_line
line_is s rest lines e = ap up_to_end (sym (behind_none rest) ∙ e)
