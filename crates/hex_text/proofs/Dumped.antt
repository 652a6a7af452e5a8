-- What `xxd` prints of any bytes is spelt back. Assumes nothing.
use mathlib.Core.Path.{◌≡◌, refl, subst}
use mathlib.Core.Bool.{Bool, true, false}
use mathlib.Core.List.{List, [], ◌∷◌, ◌++◌, append_assoc, map}
use Prim.Native.Nat.{ℕ, suc, ◌+◌, ◌-◌, ◌≤◌}
use native.Mathlib.Omega.{arith}
use lib.ListN.{length, replicate}
use Rattle.base.specs.Lists.{Bytes}
use Rattle.base.proofs.Lists.{all_append}
use Rattle.hex_text.specs.declared.Class.TheVariants.{Inner}
use Rattle.hex_text.specs.Chars.{choose, value, blank, is_a}
use Rattle.hex_text.specs.Front.{width}
use Rattle.hex_text.specs.Text.{spelled}
use Rattle.hex_text.specs.Printed.{Lined, pair, dotted, lines_of, grouped, dump_line, dumped}
use Rattle.hex_text.proofs.Coming.{From, from_start, from_next, then, reaches, whole}
use Rattle.hex_text.proofs.Digits.{pair_comes, pair_next}
use Rattle.hex_text.proofs.Fronts.{word8, up6, opened_offset}
use Rattle.hex_text.proofs.Rows.{lined_blanks, lined_dotted, dumping, blank_comes, blank_last, skip_comes, Row, row_none, row_more, line_front, line_end, text_end, Line, lines_reach}

-- the bytes behind a line's first
grouped_row : {s : List ℕ} (gap : Bool) (bs r : List ℕ) → Bytes bs → {i from : ℕ} → from ≤ i → From s i (grouped gap bs ++ r) → Row s i (dumping from 2 2 true) bs r
unfolding grouped
grouped_row gap [] r k n f = row_none f
grouped_row false (b ∷ bs) r k {i} {from} n f =
    let w = grouped_row true bs r (λ j. k (suc j)) {i = suc (suc i)} {from = from} (omega arith) (pair_next (k 0) f) in
    row_more (omega arith) (pair_comes {q = dumping from 2 2 true} n refl (k 0) f) w
grouped_row true (b ∷ bs) r k {i} {from} n f =
    let g = from_next f in
    let m : from ≤ suc i = omega arith in
    let w = grouped_row false bs r (λ j. k (suc j)) {i = suc (suc (suc i))} {from = from} (omega arith) (pair_next (k 0) g) in
    row_more (omega arith) (then (blank_comes n f 2 2 (omega arith)) (pair_comes {q = dumping from 2 1 true} m refl (k 0) g)) w

lined_tail : (m : ℕ) (bs : List ℕ) → Lined (32 ∷ (replicate m 32 ++ map dotted bs))
unfolding is_a
lined_tail m bs = (refl, all_append (λ (c : ℕ). is_a Inner c ≡ true) (replicate m 32) (map dotted bs) (lined_blanks m) (lined_dotted bs))

dump_line_law : {s : List ℕ} (dump started : Bool) (n : ℕ) → Line s dump_line dump started n
unfolding dump_line is_a blank value width choose
dump_line_law {s} dump started n b bs r cs k i f next =
    let m = 37 - length (grouped false bs) in
    let w = replicate m 32 ++ map dotted (b ∷ bs) in
    let t = (grouped false bs ++ (32 ∷ 32 ∷ w)) ++ (10 ∷ r) in
    let v = word8 n (58 ∷ 32 ∷ (pair b ++ t)) f in
    let j = up6 (suc (suc i)) in
    let e = suc (suc j) in
    let o = opened_offset dump started {c = 58} {b = b} {r = t} (omega arith) refl refl (k 0) v in
    let g : From s e (pair b ++ t) = from_next (from_next v.rest) in
    let h : From s (suc (suc e)) (grouped false bs ++ (32 ∷ 32 ∷ (w ++ (10 ∷ r)))) = subst (From s (suc (suc e))) (append_assoc (grouped false bs) (32 ∷ 32 ∷ w) (10 ∷ r)) (pair_next (k 0) g) in
    let x = grouped_row false bs (32 ∷ 32 ∷ (w ++ (10 ∷ r))) (λ p. k (suc p)) {i = suc (suc e)} {from = e} (omega arith) h in
    let p : e ≤ x.last = omega (arith, x.after) in
    let q : e ≤ suc x.last = omega arith in
    let y = skip_comes 32 w r (lined_tail m (b ∷ bs)) (from_next x.rest) (blank_last q (from_next x.rest) 2) in
    let z : i + 10 ≡ e = omega arith in
    let d : y.0.last ≤ y.0.last = omega arith in
    line_front dump started 10 z o (k 0) g
    (reaches x.comes (reaches (blank_comes p x.rest 2 2 (omega arith)) (reaches y.1 (line_end d y.0.rest next))))

pub dumped_spelled : (bs : List ℕ) → Bytes bs → spelled (dumped bs) ≡ record { bytes = bs; line = 0 }
unfolding dumped
dumped_spelled bs k =
    whole (lines_reach dump_line [] (dump_line_law true true) (text_end true true) (length bs) 0 bs k (omega arith) false false (dump_line_law false false 0) (λ z. text_end false false) 0 (from_start (lines_of dump_line [] (length bs) 0 bs)))
