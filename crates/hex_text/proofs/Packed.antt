-- What `xxd -p` prints of any bytes is spelt back. Assumes nothing.
use mathlib.Core.Path.{◌≡◌, refl, sym, ap, subst}
use mathlib.Core.Bool.{Bool, true, false}
use mathlib.Core.List.{List, [], ◌∷◌, ◌++◌}
use Prim.Native.Nat.{ℕ, zero, suc, ◌≤◌}
use native.Mathlib.Omega.{arith}
use Rattle.base.specs.Lists.{Bytes}
use Rattle.hex_text.specs.declared.Class.TheVariants.{Digit}
use Rattle.hex_text.specs.declared.State.{State}
use Rattle.hex_text.specs.Chars.{choose, value, is_a, past}
use Rattle.hex_text.specs.Front.{fresh, opened}
use Rattle.hex_text.specs.Text.{spelled}
use Rattle.hex_text.specs.Printed.{pair, packed_in, packed}
use Rattle.hex_text.proofs.Coming.{From, from_start, from_in, from_next, past_stop, Comes, stay, one_on, Reaches, reaches, whole}
use Rattle.hex_text.proofs.Digits.{step_newline, pair_comes, pair_next, past_pair, pair_solid}
use Rattle.hex_text.proofs.Fronts.{Ends, ends_line, opened_plain, no_end, opened_end}

module _ {s : List ℕ} where
  -- where the line ends
  packed_ends : (room : ℕ) (bs : List ℕ) → Bytes bs → {i : ℕ} → From s i (packed_in room bs) → Ends s (past Digit s i)
  unfolding packed_in is_a value choose
  packed_ends room [] k f = subst (Ends s) (sym (past_stop f Digit refl)) (ends_line f)
  packed_ends zero (b ∷ bs) k f = subst (Ends s) (sym (past_stop f Digit refl)) (ends_line f)
  packed_ends (suc room) (b ∷ bs) k f =
      subst (Ends s) (sym (past_pair (k 0) f)) (packed_ends room bs (λ j. k (suc j)) (pair_next (k 0) f))

  opened_packed : (started : Bool) (room b : ℕ) (bs : List ℕ) → Bytes (b ∷ bs) → {i : ℕ} → From s i (pair b ++ packed_in room bs) → opened false started s i ≡ fresh i 0 false started
  opened_packed started room b bs k {i} f =
      let d = subst (Ends s) (sym (past_pair (k 0) f)) (packed_ends room bs (λ j. k (suc j)) (pair_next (k 0) f)) in
      opened_plain false started i (past Digit s i) (pair_solid (k 0) f) refl d (no_end s i _ _)

  packed_reaches : (room : ℕ) (bs : List ℕ) → Bytes bs → {i from : ℕ} (started : Bool) → from ≤ i → From s i (packed_in room bs) → Reaches s i (fresh from 0 false started) bs
  unfolding packed_in
  packed_reaches room [] k {i} {from} started n f =
      let e = step_newline (fresh from 0 false started) n f refl in
      let o = opened_end false started (from_next f) in
      record { last = suc i; state = opened false started s (suc i); comes = one_on (from_in f) e; ended = from_next f; half = ap (λ (q : State). q.half) o }
  packed_reaches zero (b ∷ bs) k {i} {from} started n f =
      let e = step_newline (fresh from 0 false started) n f refl in
      let g = from_next f in
      let o = opened_packed started 29 b bs k g in
      let c : Comes s i (fresh from 0 false started) [] (suc i) (fresh (suc i) 0 false started) = subst (λ (q : State). Comes s i (fresh from 0 false started) [] (suc i) q) o (one_on (from_in f) e) in
      let m : suc i ≤ suc i = omega arith in
      let r = packed_reaches 29 bs (λ j. k (suc j)) {i = suc (suc (suc i))} {from = suc i} true (omega arith) (pair_next (k 0) g) in
      reaches c (reaches (pair_comes m refl (k 0) g) r)
  packed_reaches (suc room) (b ∷ bs) k {i} {from} started n f =
      let r = packed_reaches room bs (λ j. k (suc j)) {i = suc (suc i)} {from = from} true (omega arith) (pair_next (k 0) f) in
      reaches (pair_comes {q = fresh from 0 false started} n refl (k 0) f) r

pub packed_spelled : (bs : List ℕ) → Bytes bs → spelled (packed bs) ≡ record { bytes = bs; line = 0 }
unfolding packed packed_in
packed_spelled [] k =
    let f = from_start [] in
    whole (record { last = 0; state = opened false false [] 0; comes = stay 0 (opened false false [] 0); ended = f; half = ap (λ (q : State). q.half) (opened_end false false f) })
packed_spelled (b ∷ bs) k =
    let s = packed_in 30 (b ∷ bs) in
    let f = from_start s in
    let o = opened_packed false 29 b bs k f in
    whole (subst (λ (q : State). Reaches s 0 q (b ∷ bs)) (sym o) (packed_reaches 30 (b ∷ bs) k false (omega arith) f))
