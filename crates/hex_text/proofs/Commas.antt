-- What `xxd -i` prints of any bytes is spelt back. Assumes nothing.
use mathlib.Core.Path.{◌≡◌, refl, sym, ap, subst, ◌∙◌}
use mathlib.Core.Bool.{Bool, true, false}
use mathlib.Core.List.{List, [], ◌∷◌, ◌++◌}
use Prim.Native.Nat.{ℕ, zero, suc, ◌+◌, ◌-◌, ◌≤◌, ◌<◌}
use native.Mathlib.Omega.{arith}
use lib.Dec.{eqb, ltb}
use lib.ListN.{length}
use Rattle.base.specs.Lists.{Bytes}
use Rattle.hex_text.specs.declared.Class.TheVariants.{Blank, Digit, Solid}
use Rattle.hex_text.specs.declared.State.{State}
use Rattle.hex_text.specs.Chars.{choose, at, value, blank, parts, is_a, past}
use Rattle.hex_text.specs.Front.{is_said, is_words, fresh, opened_at, opened}
use Rattle.hex_text.specs.Steps.{halved, digit, prefix, space, between, other, char}
use Rattle.hex_text.specs.Text.{spelled}
use Rattle.hex_text.specs.Printed.{Lined, in_c, comma_in, commas, unsigned, file_in_c}
use Rattle.hex_text.proofs.Cases.{choose_yes, choose_no}
use Rattle.hex_text.proofs.Coming.{From, from_start, from_in, from_at, from_next, past_stop, past_one, Comes, then, one_on, Reaches, reaches, whole}
use Rattle.hex_text.proofs.Digits.{step_char, step_newline, pair_comes, pair_next}
use Rattle.hex_text.proofs.Fronts.{no_offset, no_six, no_end}
use Rattle.hex_text.proofs.Rows.{run, pass, text_end}

-- a line without an offset
abbrev plain : (from : ℕ) (started : Bool) → State
plain from started = fresh from 0 false started

module _ {s : List ℕ} {i from : ℕ} {r : List ℕ} (started : Bool) (n : from ≤ i) where
  comma_comes : From s i (44 ∷ r) → Comes s i (plain from started) [] (suc i) (plain from started)
  unfolding char other between value blank choose
  comma_comes f = one_on (from_in f) (step_char (plain from started) n f)

  gap_comes : From s i (32 ∷ r) → Comes s i (plain from started) [] (suc i) (plain from started)
  unfolding char other between space value blank choose
  gap_comes f = one_on (from_in f) (step_char (plain from started) n f)

  zero_comes : From s i (48 ∷ r) → Comes s i (plain from started) [] (suc i) (halved (plain from started) 0)
  unfolding char digit value choose
  zero_comes f = one_on (from_in f) (step_char (plain from started) n f)

  x_comes : From s i (120 ∷ r) → Comes s i (halved (plain from started) 0) [] (suc i) (plain from started)
  unfolding char other prefix value choose
  x_comes f = one_on (from_in f) (step_char (halved (plain from started) 0) n f)

-- a byte
byte_comes : {s : List ℕ} {i from b : ℕ} {r : List ℕ} (started : Bool) → from ≤ i → b < 256 → From s i (in_c b ++ r) → Comes s i (plain from started) (b ∷ []) (suc (suc (suc (suc i)))) (plain from true)
byte_comes {s} {i} {from} started n k f =
    let g = from_next f in
    let h = from_next g in
    let m : from ≤ suc i = omega arith in
    let o : from ≤ suc (suc i) = omega arith in
    then (zero_comes started n f) (then (x_comes started m g) (pair_comes {q = plain from started} o refl k h))

-- two blanks and `0x` start a line
opened_comma : {s : List ℕ} {i : ℕ} {r : List ℕ} (started : Bool) → From s i (32 ∷ 32 ∷ 48 ∷ 120 ∷ r) → opened false started s i ≡ plain i started
unfolding opened opened_at is_words parts is_a value blank choose
opened_comma {s} {i} {r} started f =
    let a = suc (suc i) in
    let b = suc a in
    let g = from_next (from_next f) in
    let h = from_next g in
    let x : past Blank s i ≡ a = past_one f Blank refl ∙ past_one (from_next f) Blank refl ∙ past_stop g Blank refl in
    let y : past Digit s a ≡ b = past_one g Digit refl ∙ past_stop h Digit refl in
    let z : past Blank s b ≡ b = past_stop h Blank refl in
    let p : parts (at s b) ≡ false = ap parts (from_at h) in
    let d : ltb (value (at s a)) 10 ≡ true = ap (λ (c : ℕ). ltb (value c) 10) (from_at g) in
    let w : is_words started s a b ≡ false = choose_no _ _ _ p ∙ choose_yes _ _ _ d in
    ap (λ (j : ℕ). opened_at false started s i j (past Digit s j) (past Blank s (past Digit s j))) x
    ∙ ap (λ (j : ℕ). opened_at false started s i a j (past Blank s j)) y ∙ ap (λ (j : ℕ). opened_at false started s i a b j) z
    ∙ choose_no _ _ _ (no_offset s a b) ∙ choose_no _ _ _ (no_six false s a b) ∙ choose_no _ _ _ (no_end s a b b) ∙ choose_no _ _ _ w

-- what comes behind the bytes
abbrev Next : (s end : List ℕ) → Type 0
Next s end = (j : ℕ) → From s j end → Reaches s j (opened false true s j) []

-- a line's front and its first byte
front_reaches : {s : List ℕ} (started : Bool) {i b : ℕ} {r bs : List ℕ} → b < 256 → From s i (32 ∷ 32 ∷ (in_c b ++ r)) → Reaches s (suc (suc (suc (suc (suc (suc i)))))) (plain i true) bs
    → Reaches s i (opened false started s i) (b ∷ bs)
front_reaches {s} started {i} {b} {r} {bs} k f w =
    let g = from_next f in
    let n : i ≤ i = omega arith in
    let m : i ≤ suc i = omega arith in
    let o : i ≤ suc (suc i) = omega arith in
    subst (λ (q : State). Reaches s i q (b ∷ bs)) (sym (opened_comma started f)) (reaches (gap_comes started n f) (reaches (gap_comes started m g) (reaches (byte_comes started o k (from_next g)) w)))

-- the text behind that byte
front_next : {s : List ℕ} {i b : ℕ} {r : List ℕ} → b < 256 → From s i (32 ∷ 32 ∷ (in_c b ++ r)) → From s (suc (suc (suc (suc (suc (suc i)))))) r
front_next k f = pair_next k (from_next (from_next (from_next (from_next f))))

commas_reach : {s : List ℕ} (end : List ℕ) → Next s end → (room : ℕ) (bs : List ℕ) → Bytes bs → {i from : ℕ} → from ≤ i → From s i (comma_in end room bs) → Reaches s i (plain from true) bs
unfolding comma_in
commas_reach {s} end next room [] k {i} {from} n f = reaches (one_on (from_in f) (step_newline (plain from true) n f refl)) (next (suc i) (from_next f))
commas_reach {s} end next zero (b ∷ bs) k {i} {from} n f =
    let g = from_next f in
    let h = from_next g in
    let m : from ≤ suc i = omega arith in
    let j = suc (suc i) in
    let w = commas_reach end next 11 bs (λ x. k (suc x)) {i = suc (suc (suc (suc (suc (suc j)))))} {from = j} (omega arith) (front_next (k 0) h) in
    reaches (comma_comes true n f) (reaches (one_on (from_in g) (step_newline (plain from true) m g refl)) (front_reaches true (k 0) h w))
commas_reach {s} end next (suc room) (b ∷ bs) k {i} {from} n f =
    let g = from_next f in
    let c = from_next g in
    let m : from ≤ suc i = omega arith in
    let o : from ≤ suc (suc i) = omega arith in
    let w = commas_reach end next room bs (λ x. k (suc x)) {i = suc (suc (suc (suc (suc (suc i)))))} {from = from} (omega arith) (pair_next (k 0) (from_next (from_next c))) in
    reaches (comma_comes true n f) (reaches (gap_comes true m g) (reaches (byte_comes true o (k 0) c) w))

-- a line's bytes and those behind it
bytes_reach : {s : List ℕ} (end : List ℕ) → Next s end → (started : Bool) (b : ℕ) (bs : List ℕ) → Bytes (b ∷ bs) → (i : ℕ) → From s i (32 ∷ 32 ∷ (in_c b ++ comma_in end 11 bs)) → Reaches s i (opened false started s i) (b ∷ bs)
bytes_reach {s} end next started b bs k i f =
    front_reaches started (k 0) f (commas_reach end next 11 bs (λ x. k (suc x)) {i = suc (suc (suc (suc (suc (suc i)))))} {from = i} (omega arith) (front_next (k 0) f))

pub commas_spelled : (bs : List ℕ) → Bytes bs → spelled (commas bs) ≡ record { bytes = bs; line = 0 }
unfolding commas
commas_spelled [] k = whole (text_end false false 0 (from_start []))
commas_spelled (b ∷ bs) k =
    let s : List ℕ = 32 ∷ 32 ∷ (in_c b ++ comma_in [] 11 bs) in
    whole (bytes_reach {s = s} [] (text_end false true) false b bs k 0 (from_start s))

-- ---- words around the bytes

-- a line that is words: it begins with c, and what comes behind its newline
words_reach : {s : List ℕ} (started : Bool) {i : ℕ} (c : ℕ) (w r bs : List ℕ) → is_a Blank c ≡ false → value c ≡ 16 → parts c ≡ false → Lined (c ∷ w) → From s i (c ∷ (w ++ (10 ∷ r)))
    → is_said started s i ≡ true → ((j : ℕ) → From s j r → Reaches s j (opened false started s j) bs) → Reaches s i (opened false started s i) bs
unfolding opened opened_at is_words is_a
words_reach {s} started {i} c w r bs y v p a f said next =
    let u = run (c ∷ w) r a f in
    let x : past Blank s i ≡ i = past_stop f Blank y in
    let d : past Digit s i ≡ i = past_stop f Digit (ap (λ (n : ℕ). ltb n 16) v) in
    let t : is_words started s i i ≡ true =
    choose_no _ _ _ (ap parts (from_at f) ∙ p) ∙ choose_no _ _ _ (ap (λ (n : ℕ). ltb (value n) 10) (from_at f) ∙ ap (λ (n : ℕ). ltb n 10) v) ∙ said in
    let o : opened false started s i ≡ plain u.last started =
    ap (λ (j : ℕ). opened_at false started s i j (past Digit s j) (past Blank s (past Digit s j))) x
    ∙ ap (λ (j : ℕ). opened_at false started s i i j (past Blank s j)) d ∙ ap (λ (j : ℕ). opened_at false started s i i i j) x
    ∙ choose_no _ _ _ (no_offset s i i) ∙ choose_no _ _ _ (no_six false s i i) ∙ choose_no _ _ _ (no_end s i i i) ∙ choose_yes _ _ _ t
    ∙ ap (λ (j : ℕ). plain j started) u.behind in
    let n : u.last ≤ u.last = omega arith in
    let l : u.last ≤ length s = omega (arith, u.rest.within) in
    let z : i + (u.last - i) ≡ u.last = omega (arith, u.after) in
    subst (λ (q : State). Reaches s i q bs) (sym o)
    (reaches (pass {s = s} {q = plain u.last started} (u.last - i) z n l)
    (reaches (one_on (from_in u.rest) (step_newline (plain u.last started) n u.rest refl)) (next (suc u.last) (from_next u.rest))))

-- `unsigned`: in front of the bytes a blank stands behind the word, behind them it is known by its letter
unsigned_said : {s : List ℕ} (started : Bool) {i : ℕ} {r : List ℕ} → From s i (unsigned ++ r) → is_said started s i ≡ true
unfolding is_said is_a blank choose
unsigned_said true f = ap (λ (c : ℕ). choose (eqb c 125) true (eqb c 117)) (from_at f)
unsigned_said {s} false {i} f =
    let f₁ = from_next f in
    let f₂ = from_next f₁ in
    let f₃ = from_next f₂ in
    let f₄ = from_next f₃ in
    let f₅ = from_next f₄ in
    let f₆ = from_next f₅ in
    let f₇ = from_next f₆ in
    let f₈ = from_next f₇ in
    let e : past Solid s i ≡ suc (suc (suc (suc (suc (suc (suc (suc i))))))) =
    past_one f Solid refl ∙ past_one f₁ Solid refl ∙ past_one f₂ Solid refl ∙ past_one f₃ Solid refl ∙ past_one f₄ Solid refl ∙ past_one f₅ Solid refl ∙ past_one f₆ Solid refl
    ∙ past_one f₇ Solid refl ∙ past_stop f₈ Solid refl in
    ap (λ (j : ℕ). blank (at s j)) e ∙ ap blank (from_at f₈)

brace_said : {s : List ℕ} {i : ℕ} {r : List ℕ} → From s i (125 ∷ r) → is_said true s i ≡ true
unfolding is_said choose
brace_said f = ap (λ (c : ℕ). choose (eqb c 125) true (eqb c 117)) (from_at f)

unsigned_reach : {s : List ℕ} (started : Bool) {i : ℕ} (w r bs : List ℕ) → Lined w → From s i (unsigned ++ (w ++ (10 ∷ r)))
    → ((j : ℕ) → From s j r → Reaches s j (opened false started s j) bs) → Reaches s i (opened false started s i) bs
unfolding is_a value parts blank choose
unsigned_reach started w r bs a f next =
    words_reach started 117 (110 ∷ 115 ∷ 105 ∷ 103 ∷ 110 ∷ 101 ∷ 100 ∷ 32 ∷ w) r bs refl refl refl (refl, (refl, (refl, (refl, (refl, (refl, (refl, (refl, (refl, a))))))))) f (unsigned_said started f) next

brace_reach : {s : List ℕ} {i : ℕ} (r : List ℕ) → From s i (125 ∷ 59 ∷ 10 ∷ r) → Next s r → Reaches s i (opened false true s i) []
unfolding is_a value parts blank choose
brace_reach r f next = words_reach true 125 (59 ∷ []) r [] refl refl refl (refl, (refl, tt)) f (brace_said f) next

pub file_spelled : (name count : List ℕ) → Lined name → Lined count → (b : ℕ) (bs : List ℕ) → Bytes (b ∷ bs) → spelled (file_in_c name count b bs) ≡ record { bytes = b ∷ bs; line = 0 }
unfolding file_in_c
file_spelled name count x y b bs k =
    let last = unsigned ++ (count ++ (10 ∷ [])) in
    let end : List ℕ = 125 ∷ 59 ∷ 10 ∷ last in
    let t : List ℕ = 32 ∷ 32 ∷ (in_c b ++ comma_in end 11 bs) in
    let s : List ℕ = unsigned ++ (name ++ (10 ∷ t)) in
    whole (unsigned_reach {s = s} false name t (b ∷ bs) x (from_start s)
    (bytes_reach end (λ j f. brace_reach last f (λ i g. unsigned_reach true count [] [] y g (text_end false true))) false b bs k))
