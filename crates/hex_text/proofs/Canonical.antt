-- What `hexdump -v -C` prints of any bytes is spelt back. Assumes nothing.
use mathlib.Core.Path.{◌≡◌, refl, subst}
use mathlib.Core.Bool.{Bool, true, false}
use mathlib.Core.List.{List, [], ◌∷◌, ◌++◌, append_assoc, map}
use Prim.Native.Nat.{ℕ, zero, suc, ◌+◌, ◌-◌, ◌≤◌}
use native.Mathlib.Omega.{arith}
use lib.ListN.{length, replicate}
use Rattle.base.specs.Lists.{Bytes}
use Rattle.base.proofs.Lists.{all_append}
use Rattle.hex_text.specs.declared.Class.TheVariants.{Inner}
use Rattle.hex_text.specs.Chars.{choose, value, blank, is_a, past}
use Rattle.hex_text.specs.Front.{width}
use Rattle.hex_text.specs.Steps.{on, bar, between, other, char, step}
use Rattle.hex_text.specs.Text.{spelled}
use Rattle.hex_text.specs.Printed.{Lined, pair, digits8, dotted, lines_of, spaced, canon_line, canonical}
use Rattle.hex_text.proofs.Coming.{From, from_start, from_next, Comes, then, reaches, whole}
use Rattle.hex_text.proofs.Digits.{step_char, pair_comes, pair_next}
use Rattle.hex_text.proofs.Fronts.{word8, up6, opened_offset}
use Rattle.hex_text.proofs.Rows.{lined_blanks, lined_dotted, lined8, Run, dumping, blank_comes, blank_last, skip_comes, Row, row_none, row_more, line_front, line_end, text_end, last_line, Next, Line, lines_reach}

-- the bytes behind a line's first
spaced_row : {s : List ℕ} (room : ℕ) (bs r : List ℕ) → Bytes bs → {i from : ℕ} → from ≤ i → From s i (spaced room bs ++ r) → Row s i (dumping from 3 3 true) bs r
unfolding spaced
spaced_row room [] r k n f = row_none f
spaced_row zero (b ∷ bs) r k {i} {from} n f =
    let g = from_next f in
    let h = from_next g in
    let m : from ≤ suc i = omega arith in
    let o : from ≤ suc (suc i) = omega arith in
    let w = spaced_row 7 bs r (λ j. k (suc j)) {i = suc (suc (suc (suc i)))} {from = from} (omega arith) (pair_next (k 0) h) in
    row_more (omega arith) (then (blank_comes n f 3 3 (omega arith)) (then (blank_comes m g 3 2 (omega arith)) (pair_comes {q = dumping from 3 1 true} o refl (k 0) h))) w
spaced_row (suc room) (b ∷ bs) r k {i} {from} n f =
    let g = from_next f in
    let m : from ≤ suc i = omega arith in
    let w = spaced_row room bs r (λ j. k (suc j)) {i = suc (suc (suc i))} {from = from} (omega arith) (pair_next (k 0) g) in
    row_more (omega arith) (then (blank_comes n f 3 3 (omega arith)) (pair_comes {q = dumping from 3 2 true} m refl (k 0) g)) w

bar_step : {s : List ℕ} {i from : ℕ} {r : List ℕ} → from ≤ i → From s i (124 ∷ r) → step (dumping from 3 1 true) s i ≡ on (dumping (past Inner s i) 3 1 true)
unfolding char other between bar value blank choose
bar_step {s} {i} {from} n f = step_char (dumping from 3 1 true) n f

-- a third blank, or the bar, ends the bytes
skip_rest : {s : List ℕ} {i from : ℕ} (m : ℕ) (v r : List ℕ) → Lined v → from ≤ i → From s i ((replicate m 32 ++ (124 ∷ v)) ++ (10 ∷ r))
    → (u : Run s (suc i) r) × Comes s i (dumping from 3 1 true) [] u.last (dumping u.last 3 1 true)
unfolding is_a
skip_rest zero v r a n f = skip_comes 124 v r (refl, a) f (bar_step n f)
skip_rest (suc m) v r a n f =
    skip_comes 32 (replicate m 32 ++ (124 ∷ v)) r (refl, all_append (λ (c : ℕ). is_a Inner c ≡ true) (replicate m 32) (124 ∷ v) (lined_blanks m) (refl, a)) f (blank_last n f 3)

lined_shown : (bs : List ℕ) → Lined (map dotted bs ++ (124 ∷ []))
unfolding is_a
lined_shown bs = all_append (λ (c : ℕ). is_a Inner c ≡ true) (map dotted bs) (124 ∷ []) (lined_dotted bs) (refl, tt)

canon_line_law : {s : List ℕ} (dump started : Bool) (n : ℕ) → Line s canon_line dump started n
unfolding canon_line is_a blank value width choose
canon_line_law {s} dump started n b bs r cs k i f next =
    let m = 46 - length (spaced 7 bs) in
    let a = map dotted (b ∷ bs) ++ (124 ∷ []) in
    let w = replicate m 32 ++ (124 ∷ a) in
    let t = (spaced 7 bs ++ (32 ∷ 32 ∷ w)) ++ (10 ∷ r) in
    let v = word8 n (32 ∷ 32 ∷ (pair b ++ t)) f in
    let j = up6 (suc (suc i)) in
    let e = suc (suc j) in
    let o = opened_offset dump started {c = 32} {b = b} {r = t} (omega arith) refl refl (k 0) v in
    let g : From s e (pair b ++ t) = from_next (from_next v.rest) in
    let h : From s (suc (suc e)) (spaced 7 bs ++ (32 ∷ 32 ∷ (w ++ (10 ∷ r)))) = subst (From s (suc (suc e))) (append_assoc (spaced 7 bs) (32 ∷ 32 ∷ w) (10 ∷ r)) (pair_next (k 0) g) in
    let x = spaced_row 7 bs (32 ∷ 32 ∷ (w ++ (10 ∷ r))) (λ p. k (suc p)) {i = suc (suc e)} {from = e} (omega arith) h in
    let p : e ≤ x.last = omega (arith, x.after) in
    let q : e ≤ suc x.last = omega arith in
    let l : e ≤ suc (suc x.last) = omega arith in
    let y = skip_rest m a r (lined_shown (b ∷ bs)) l (from_next (from_next x.rest)) in
    let z : i + 10 ≡ e = omega arith in
    let d : y.0.last ≤ y.0.last = omega arith in
    line_front dump started 10 z o (k 0) g
    (reaches x.comes (reaches (blank_comes p x.rest 3 3 (omega arith)) (reaches (blank_comes q (from_next x.rest) 3 2 (omega arith)) (reaches y.1 (line_end d y.0.rest next)))))

canon_end : {s : List ℕ} (n : ℕ) → Next s (digits8 n ++ (10 ∷ [])) []
canon_end n j f = last_line (digits8 n) (lined8 n) f (word8 n (10 ∷ []) f) (omega arith)

pub canonical_spelled : (bs : List ℕ) → Bytes bs → spelled (canonical bs) ≡ record { bytes = bs; line = 0 }
unfolding canonical
canonical_spelled [] k = whole (text_end false false 0 (from_start []))
canonical_spelled (b ∷ bs) k =
    let n = length (b ∷ bs) in
    let end = digits8 n ++ (10 ∷ []) in
    whole (lines_reach canon_line end (canon_line_law true true) (canon_end n) n 0 (b ∷ bs) k (omega arith) false false (canon_line_law false false 0) (λ z. absurd (omega arith)) 0 (from_start (lines_of canon_line end n 0 (b ∷ bs))))
