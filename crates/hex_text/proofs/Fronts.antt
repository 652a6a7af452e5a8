-- The fronts of lines that tools print: digits alone, an offset before bytes, the offset of the end. Assumes nothing.
use borrow.Author.Tests.{le-leb, lt-leb, eq-eqb, ne_eqb}
use mathlib.Core.Path.{◌≡◌, refl, ap, ◌∙◌}
use mathlib.Core.Bool.{Bool, true, false}
use mathlib.Core.List.{List, [], ◌∷◌, ◌++◌}
use Prim.Native.Nat.{ℕ, suc, ◌+◌, ◌/◌, ◌%◌, ◌<◌}
use native.Mathlib.Omega.{arith}
use lib.Dec.{eqb, ltb, leb}
use Rattle.hex_text.specs.declared.Class.TheVariants.{Blank, Digit, Zero, Inner}
use Rattle.hex_text.specs.Chars.{choose, at, value, blank, parts, is_a, past}
use Rattle.hex_text.specs.Front.{is_offset, is_six, is_end, is_words, fresh, width, opened_at, opened}
use Rattle.hex_text.specs.Printed.{pair, digits6, digits8}
use Rattle.hex_text.proofs.Cases.{choose_true, choose_false, choose_yes, choose_no}
use Rattle.hex_text.proofs.Coming.{From, from_at, from_next, past_stop, past_one, end_at, past_end}
use Rattle.hex_text.proofs.Digits.{is_digit, high, pair_next, past_pair, pair_solid}

pub either : {A : Type 0} (b : Bool) (x y z : A) → x ≡ z → y ≡ z → choose b x y ≡ z
either true x y z e f = choose_true x y ∙ e
either false x y z e f = choose_false x y ∙ f

-- a line that ends at index j
pub record Ends (s : List ℕ) (j : ℕ) : Type 0 where
  pub here : at s j ≡ 10
  pub still : past Blank s j ≡ j

module _ {s : List ℕ} {i : ℕ} where
  pub ends_line : {r : List ℕ} → From s i (10 ∷ r) → Ends s i
  unfolding is_a blank choose
  ends_line f = record { here = from_at f; still = past_stop f Blank refl }

  ends_text : From s i [] → Ends s i
  ends_text f = record { here = end_at f; still = past_end f Blank }

-- a line that starts with a word of digits, from i to b, and blanks behind it to e
opened_word : (dump started : Bool) (s : List ℕ) (i b e : ℕ) → past Blank s i ≡ i → past Digit s i ≡ b → past Blank s b ≡ e → opened dump started s i ≡ opened_at dump started s i i b e
unfolding opened
opened_word dump started s i b e k d l =
    ap (λ (a : ℕ). opened_at dump started s i a (past Digit s a) (past Blank s (past Digit s a))) k
    ∙ ap (λ (x : ℕ). opened_at dump started s i i x (past Blank s x)) d ∙ ap (λ (x : ℕ). opened_at dump started s i i b x) l

-- ---- a word with nothing behind it

pub no_offset : (s : List ℕ) (a b : ℕ) → is_offset s a b b ≡ false
unfolding is_offset
no_offset s a b = either (leb b a) _ _ _ refl (choose_yes _ _ _ (le-leb b b (omega arith)))

pub no_six : (dump : Bool) (s : List ℕ) (a b : ℕ) → is_six dump s a b b ≡ false
unfolding is_six
no_six dump s a b = either (eqb b (a + 6)) _ _ _ (choose_no _ _ _ (ne_eqb b (b + 1) (λ z. omega arith))) refl

newline_parts : parts 10 ≡ true
unfolding parts blank choose
newline_parts = refl

module _ (dump started : Bool) {s : List ℕ} (i b : ℕ) (k : past Blank s i ≡ i) (d : past Digit s i ≡ b) (n : Ends s b) where
  -- bytes
  pub opened_plain : is_end dump s i b b ≡ false → opened dump started s i ≡ fresh i 0 dump started
  unfolding opened_at is_words
  opened_plain e =
      let p : parts (at s b) ≡ true = ap parts n.here ∙ newline_parts in
      let w : is_words started s i b ≡ false = choose_yes _ _ _ p in
      opened_word dump started s i b b k d n.still ∙ choose_no _ _ _ (no_offset s i b) ∙ choose_no _ _ _ (no_six dump s i b) ∙ choose_no _ _ _ e ∙ choose_no _ _ _ w

  -- the offset of the end
  pub opened_last : dump ≡ true → i < b → opened dump started s i ≡ fresh (past Inner s i) 0 dump started
  unfolding opened_at is_end
  opened_last y h =
      let e : is_end dump s i b b ≡ true = choose_yes _ _ _ y ∙ choose_no _ _ _ (lt-leb b i h) ∙ eq-eqb (at s b) 10 n.here in
      opened_word dump started s i b b k d n.still ∙ choose_no _ _ _ (no_offset s i b) ∙ choose_no _ _ _ (no_six dump s i b) ∙ choose_yes _ _ _ e

-- no offset came before
pub no_end : (s : List ℕ) (a b e : ℕ) → is_end false s a b e ≡ false
unfolding is_end
no_end s a b e = choose_false _ _

-- the end of the text
pub opened_end : (dump started : Bool) {s : List ℕ} {i : ℕ} → From s i [] → opened dump started s i ≡ fresh i 0 dump started
unfolding is_end
opened_end dump started {s} {i} f =
    opened_plain dump started i i (past_end f Blank) (past_end f Digit) (ends_text f) (either dump _ _ _ (choose_yes _ _ _ (le-leb i i (omega arith))) refl)

-- ---- an offset before bytes

-- digits stand from i to j, and then r
pub record Word (s : List ℕ) (i j : ℕ) (r : List ℕ) : Type 0 where
  pub solid : past Blank s i ≡ i
  pub digits : past Digit s i ≡ past Digit s j
  pub rest : From s j r

abbrev pub up6 : ℕ → ℕ
up6 i = suc (suc (suc (suc (suc (suc i)))))

pub word6 : {s : List ℕ} {i : ℕ} (n : ℕ) (r : List ℕ) → From s i (digits6 n ++ r) → Word s i (up6 i) r
word6 n r f =
    let x : n / 65536 % 256 < 256 = omega arith in
    let y : n / 256 % 256 < 256 = omega arith in
    let z : n % 256 < 256 = omega arith in
    let g = pair_next x f in
    let h = pair_next y g in
    record { solid = pair_solid x f; digits = past_pair x f ∙ past_pair y g ∙ past_pair z h; rest = pair_next z h }

pub word8 : {s : List ℕ} {i : ℕ} (n : ℕ) (r : List ℕ) → From s i (digits8 n ++ r) → Word s i (up6 (suc (suc i))) r
word8 n r f =
    let x : n / 16777216 % 256 < 256 = omega arith in
    let w = word6 n r (pair_next x f) in
    record { solid = pair_solid x f; digits = past_pair x f ∙ w.digits; rest = w.rest }

-- a blank or colon c, a blank and a byte behind it
pub opened_offset : (dump started : Bool) {s : List ℕ} {i j c b : ℕ} {r : List ℕ} → i < j → is_a Blank c ≡ true → is_a Digit c ≡ false → b < 256
    → Word s i j (c ∷ 32 ∷ (pair b ++ r)) → opened dump started s i ≡ fresh (suc (suc j)) (width c) true started
unfolding opened_at is_offset is_a blank choose
opened_offset dump started {s} {i} {j} {c} {b} {r} h y z k w =
    let e = suc (suc j) in
    let f = w.rest in
    let g = from_next (from_next f) in
    let l : past Blank s j ≡ e = past_one f Blank y ∙ past_one (from_next f) Blank refl ∙ pair_solid k g in
    let v : ltb (value (at s e)) 16 ≡ true = ap (λ (x : ℕ). ltb (value x) 16) (from_at g) ∙ is_digit (b / 16) (high b k) in
    let o : is_offset s i j e ≡ true = choose_no _ _ _ (lt-leb j i (omega arith)) ∙ choose_no _ _ _ (lt-leb e j (omega arith)) ∙ choose_no _ _ _ (lt-leb e (j + 1) (omega arith)) ∙ v in
    opened_word dump started s i j e w.solid (w.digits ∙ past_stop f Digit z) l ∙ choose_yes _ _ _ o ∙ ap (λ (x : ℕ). fresh e (width x) true started) (from_at f)

-- one blank, a byte and no digit c behind it
pub opened_six : (dump started : Bool) {s : List ℕ} {i j b c : ℕ} {r : List ℕ} → j ≡ i + 6 → b < 256 → is_a Digit c ≡ false → choose dump true (leb j (past Zero s i)) ≡ true
    → Word s i j (32 ∷ (pair b ++ (c ∷ r))) → opened dump started s i ≡ fresh (suc j) 3 true started
unfolding opened_at is_offset is_six is_a blank value choose
opened_six dump started {s} {i} {j} {b} {c} {r} h k y z w =
    let e = suc j in
    let f = w.rest in
    let g = from_next f in
    let l : past Blank s j ≡ e = past_one f Blank refl ∙ pair_solid k g in
    let t : past Digit s e ≡ e + 2 = past_pair k g ∙ past_stop (pair_next k g) Digit y ∙ omega arith in
    let o : is_offset s i j e ≡ false = choose_no _ _ _ (lt-leb j i (omega arith)) ∙ choose_no _ _ _ (lt-leb e j (omega arith)) ∙ choose_yes _ _ _ (le-leb e (j + 1) (omega arith)) in
    let x : is_six dump s i j e ≡ true =
    choose_yes _ _ _ (eq-eqb j (i + 6) h) ∙ choose_yes _ _ _ (eq-eqb e (j + 1) (omega arith)) ∙ choose_yes _ _ _ (eq-eqb (past Digit s e) (e + 2) t) ∙ z in
    opened_word dump started s i j e w.solid (w.digits ∙ past_stop f Digit refl) l ∙ choose_no _ _ _ o ∙ choose_yes _ _ _ x
