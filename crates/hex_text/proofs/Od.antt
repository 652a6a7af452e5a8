-- What `od -v -A x -t x1` prints of any bytes is spelt back, if there is one. Assumes nothing.
use borrow.Author.Tests.{le-leb}
use mathlib.Core.Path.{◌≡◌, refl, ◌∙◌}
use mathlib.Core.Bool.{Bool, true, false}
use mathlib.Core.List.{List, [], ◌∷◌, ◌++◌}
use Prim.Native.Nat.{ℕ, suc, ◌+◌, ◌≤◌, ◌<◌}
use native.Mathlib.Omega.{arith}
use lib.Dec.{leb}
use lib.ListN.{length}
use Rattle.base.specs.Lists.{Bytes}
use Rattle.hex_text.specs.declared.Class.TheVariants.{Zero}
use Rattle.hex_text.specs.Chars.{choose, value, is_a, past}
use Rattle.hex_text.specs.Front.{fresh, opened}
use Rattle.hex_text.specs.Text.{spelled}
use Rattle.hex_text.specs.Printed.{figure, pair, digits6, lines_of, single, od_line, od_printed}
use Rattle.hex_text.proofs.Cases.{choose_true}
use Rattle.hex_text.proofs.Coming.{From, from_start, from_next, past_stop, past_one, then, reaches, whole}
use Rattle.hex_text.proofs.Digits.{pair_comes, pair_next}
use Rattle.hex_text.proofs.Fronts.{Word, word6, up6, opened_six}
use Rattle.hex_text.proofs.Rows.{lined6, dumping, blank_comes, Row, row_none, row_more, line_front, line_end, last_line, Next, Line, lines_reach}

-- the bytes behind a line's first
single_row : {s : List ℕ} (bs r : List ℕ) → Bytes bs → {i from : ℕ} → from ≤ i → From s i (single bs ++ r) → Row s i (dumping from 3 3 true) bs r
unfolding single
single_row [] r k n f = row_none f
single_row (b ∷ bs) r k {i} {from} n f =
    let g = from_next f in
    let m : from ≤ suc i = omega arith in
    let w = single_row bs r (λ j. k (suc j)) {i = suc (suc (suc i))} {from = from} (omega arith) (pair_next (k 0) g) in
    row_more (omega arith) (then (blank_comes n f 3 3 (omega arith)) (pair_comes {q = dumping from 3 2 true} m refl (k 0) g)) w

-- six digits are an offset where one came before, or where they are 0
abbrev Offset : (s : List ℕ) (dump : Bool) (i : ℕ) → Type 0
Offset s dump i = choose dump true (leb (up6 i) (past Zero s i)) ≡ true

zeros : {s : List ℕ} (i : ℕ) (r : List ℕ) → From s i (digits6 0 ++ (32 ∷ r)) → Offset s false i
unfolding is_a figure choose
zeros {s} i r f =
    let f₁ = from_next f in
    let f₂ = from_next f₁ in
    let f₃ = from_next f₂ in
    let f₄ = from_next f₃ in
    let f₅ = from_next f₄ in
    let z : past Zero s i ≡ up6 i =
    past_one f Zero refl ∙ past_one f₁ Zero refl ∙ past_one f₂ Zero refl ∙ past_one f₃ Zero refl ∙ past_one f₄ Zero refl ∙ past_one f₅ Zero refl ∙ past_stop (from_next f₅) Zero refl in
    le-leb (up6 i) (past Zero s i) (omega arith)

-- behind a line's first byte stands a blank, or the line ends
opened_od : {s : List ℕ} (dump started : Bool) {i b : ℕ} (bs r : List ℕ) → b < 256 → Offset s dump i → Word s i (up6 i) (32 ∷ (pair b ++ (single bs ++ (10 ∷ r))))
    → opened dump started s i ≡ fresh (suc (up6 i)) 3 true started
unfolding single is_a value choose
opened_od dump started {i} [] r k o w = opened_six dump started {c = 10} (omega arith) k refl o w
opened_od dump started {i} (x ∷ bs) r k o w = opened_six dump started {c = 32} (omega arith) k refl o w

od_line_law : {s : List ℕ} (dump started : Bool) (n : ℕ) → ((i : ℕ) (r : List ℕ) → From s i (digits6 n ++ (32 ∷ r)) → Offset s dump i) → Line s od_line dump started n
unfolding od_line
od_line_law {s} dump started n offset b bs r cs k i f next =
    let t = single bs ++ (10 ∷ r) in
    let v = word6 n (32 ∷ (pair b ++ t)) f in
    let e = suc (up6 i) in
    let o = opened_od dump started bs r (k 0) (offset i (pair b ++ t) f) v in
    let g : From s e (pair b ++ t) = from_next v.rest in
    let x = single_row bs (10 ∷ r) (λ p. k (suc p)) {i = suc (suc e)} {from = e} (omega arith) (pair_next (k 0) g) in
    let p : e ≤ x.last = omega (arith, x.after) in
    let z : i + 7 ≡ e = omega arith in
    line_front dump started 7 z o (k 0) g (reaches x.comes (line_end p x.rest next))

od_end : {s : List ℕ} (n : ℕ) → Next s (digits6 n ++ (10 ∷ [])) []
od_end n j f = last_line (digits6 n) (lined6 n) f (word6 n (10 ∷ []) f) (omega arith)

pub od_spelled : (b : ℕ) (bs : List ℕ) → Bytes (b ∷ bs) → spelled (od_printed (b ∷ bs)) ≡ record { bytes = b ∷ bs; line = 0 }
unfolding od_printed
od_spelled b bs k =
    let n = length (b ∷ bs) in
    let end = digits6 n ++ (10 ∷ []) in
    whole (lines_reach od_line end (λ m. od_line_law true true m (λ i r f. choose_true _ _)) (od_end n) n 0 (b ∷ bs) k (omega arith) false false (od_line_law false false 0 zeros) (λ z. absurd (omega arith)) 0 (from_start (lines_of od_line end n 0 (b ∷ bs))))
