-- Lines with an offset: their bytes, what is skipped, one line after the other. Assumes nothing.
use borrow.Author.Tests.{lt-ltb, le-ltb, ne_eqb}
use mathlib.Core.Path.{◌≡◌, refl, sym, ap, subst, ◌∙◌}
use mathlib.Core.Bool.{Bool, true, not}
use mathlib.Core.List.{List, [], ◌∷◌, ◌++◌, map}
use Prim.Native.Nat.{ℕ, zero, suc, ◌+◌, ◌-◌, ◌/◌, ◌%◌, ◌≤◌, ◌<◌}
use native.Mathlib.Omega.{arith}
use native.Mathlib.Decide.{dec_lt}
use lib.Dec.{eqb}
use lib.ListN.{length, take, drop, replicate, length-drop, take-append-drop}
use Rattle.base.specs.Lists.{Bytes}
use Rattle.base.proofs.Lists.{bytes_take, bytes_drop}
use Rattle.hex_text.specs.declared.Class.TheVariants.{Inner}
use Rattle.hex_text.specs.declared.State.{State}
use Rattle.hex_text.specs.Chars.{choose, value, blank, is_a, past}
use Rattle.hex_text.specs.Front.{fresh, opened}
use Rattle.hex_text.specs.Steps.{on, space, between, other, char, step}
use Rattle.hex_text.specs.Printed.{figure, pair, Lined, digits6, digits8, dotted, lines_of}
use Rattle.hex_text.proofs.Cases.{choose_yes, choose_no}
use Rattle.hex_text.proofs.Coming.{From, from_in, from_next, past_stop, past_one, Comes, stay, then, one_on, Reaches, reaches}
use Rattle.hex_text.proofs.Digits.{figured, high, low, step_char, step_newline, pair_comes}
use Rattle.hex_text.proofs.Fronts.{ends_line, opened_end, opened_last, Word}

-- ---- what is skipped

step_pass : (s : List ℕ) (i : ℕ) (q : State) → i < q.from → step q s i ≡ on q
unfolding step
step_pass s i q h = choose_yes _ _ _ (lt-ltb i q.from h)

pub pass : {s : List ℕ} {q : State} (m : ℕ) {i j : ℕ} → i + m ≡ j → j ≤ q.from → j ≤ length s → Comes s i q [] j q
pass {s} {q} zero {i} {j} e h l =
    let z : i ≡ j = omega arith in
    subst (λ (k : ℕ). Comes s i q [] k q) z (stay i q)
pass {s} {q} (suc m) {i} {j} e h l =
    let z : suc i + m ≡ j = omega arith in
    let t : i < length s = omega arith in
    let u : i < q.from = omega arith in
    then (one_on t (step_pass s i q u)) (pass m z h l)

-- characters without a newline, from i to the one behind them
pub record Run (s : List ℕ) (i : ℕ) (r : List ℕ) : Type 0 where
  pub last : ℕ
  pub rest : From s last (10 ∷ r)
  pub behind : past Inner s i ≡ last
  pub after : i ≤ last

pub run : {s : List ℕ} {i : ℕ} (w r : List ℕ) → Lined w → From s i (w ++ (10 ∷ r)) → Run s i r
unfolding is_a
run {s} {i} [] r a f = record { last = i; rest = f; behind = past_stop f Inner refl; after = omega arith }
run {s} {i} (c ∷ w) r a f =
    let u = run w r a.1 (from_next f) in
    record { last = u.last; rest = u.rest; behind = past_one f Inner a.0 ∙ u.behind; after = omega (arith, u.after) }

pub lined_blanks : (m : ℕ) → Lined (replicate m 32)
unfolding is_a
lined_blanks zero = tt
lined_blanks (suc m) = (refl, lined_blanks m)

dotted_inner : (b : ℕ) → is_a Inner (dotted b) ≡ true
unfolding is_a dotted
dotted_inner b =
    elim (dec_lt b 32) [
      | yes h ↦ ap (λ (c : ℕ). not (eqb c 10)) (choose_yes _ _ _ (lt-ltb b 32 h))
      | no h ↦
          elim (dec_lt b 127) [
            | yes k ↦
                ap (λ (c : ℕ). not (eqb c 10)) (choose_no _ _ _ (le-ltb b 32 (omega arith)) ∙ choose_yes _ _ _ (lt-ltb b 127 k))
                ∙ ap not (ne_eqb b 10 (λ z. omega arith))
            | no k ↦ ap (λ (c : ℕ). not (eqb c 10)) (choose_no _ _ _ (le-ltb b 32 (omega arith)) ∙ choose_no _ _ _ (le-ltb b 127 (omega arith)))
          ]
    ]

pub lined_dotted : (bs : List ℕ) → Lined (map dotted bs)
lined_dotted [] = tt
lined_dotted (b ∷ bs) = (dotted_inner b, lined_dotted bs)

figure_inner : (v : ℕ) → v < 16 → is_a Inner (figure v) ≡ true
unfolding is_a
figure_inner v h = ap not (figured v h).inner

pair_inner : (b : ℕ) (w : List ℕ) → b < 256 → Lined w → Lined (pair b ++ w)
pair_inner b w h a = (figure_inner (b / 16) (high b h), (figure_inner (b % 16) (low b), a))

pub lined6 : (n : ℕ) → Lined (digits6 n)
lined6 n = pair_inner (n / 65536 % 256) (pair (n / 256 % 256) ++ pair (n % 256)) (omega arith) (pair_inner (n / 256 % 256) (pair (n % 256)) (omega arith) (pair_inner (n % 256) [] (omega arith) tt))

pub lined8 : (n : ℕ) → Lined (digits8 n)
lined8 n = pair_inner (n / 16777216 % 256) (digits6 n) (omega arith) (lined6 n)

-- ---- the bytes of a line

abbrev pub dumping : (from wide left : ℕ) (started : Bool) → State
dumping from wide left started = record { from = from; wide = wide; left = left; half = 16; dump = true; started = started }

module _ {s : List ℕ} {i from : ℕ} {r : List ℕ} (n : from ≤ i) (f : From s i (32 ∷ r)) (wide : ℕ) where
  blank_step : (left : ℕ) → step (dumping from wide left true) s i ≡ space (dumping from wide left true) s i
  unfolding char other between value blank choose
  blank_step left = step_char (dumping from wide left true) n f

  -- a blank that is not the last
  pub blank_comes : (left : ℕ) → 2 ≤ left → Comes s i (dumping from wide left true) [] (suc i) (dumping from wide (left - 1) true)
  unfolding space
  blank_comes left h =
      one_on (from_in f) (blank_step left ∙ choose_no _ _ _ (ne_eqb left 0 (λ z. omega arith)) ∙ choose_no _ _ _ (ne_eqb left 1 (λ z. omega arith)))

  pub blank_last : step (dumping from wide 1 true) s i ≡ on (dumping (past Inner s i) wide 1 true)
  unfolding space choose
  blank_last = blank_step 1

-- the character c at i ends the line's bytes
pub skip_comes : {s : List ℕ} {i from wide : ℕ} (c : ℕ) (w r : List ℕ) → Lined (c ∷ w) → From s i (c ∷ (w ++ (10 ∷ r)))
    → step (dumping from wide 1 true) s i ≡ on (dumping (past Inner s i) wide 1 true) → (u : Run s (suc i) r) × Comes s i (dumping from wide 1 true) [] u.last (dumping u.last wide 1 true)
skip_comes {s} {i} {from} {wide} c w r a f e =
    let u = run w r a.1 (from_next f) in
    let l : past Inner s i ≡ u.last = past_one f Inner a.0 ∙ u.behind in
    let o = subst (λ (j : ℕ). Comes s i (dumping from wide 1 true) [] (suc i) (dumping j wide 1 true)) l (one_on (from_in f) e) in
    let z : suc i + (u.last - suc i) ≡ u.last = omega (arith, u.after) in
    let t : u.last ≤ length s = omega (arith, u.rest.within) in
    (u, then o (pass (u.last - suc i) z (omega arith) t))

-- bytes, behind which r stands, and a state that is the same behind each
pub record Row (s : List ℕ) (i : ℕ) (q : State) (bs r : List ℕ) : Type 0 where
  pub last : ℕ
  pub comes : Comes s i q bs last q
  pub rest : From s last r
  pub after : i ≤ last

pub row_none : {s : List ℕ} {i : ℕ} {q : State} {r : List ℕ} → From s i r → Row s i q [] r
row_none {s} {i} {q} f = record { last = i; comes = stay i q; rest = f; after = omega arith }

pub row_more : {s : List ℕ} {i j : ℕ} {q : State} {bs cs r : List ℕ} → i ≤ j → Comes s i q bs j q → Row s j q cs r → Row s i q (bs ++ cs) r
row_more h c w = record { last = w.last; comes = then c w.comes; rest = w.rest; after = omega (arith, w.after) }

-- ---- lines

-- the front of a line and its first byte
pub line_front : {s : List ℕ} (dump started : Bool) {i e wide b : ℕ} {t cs : List ℕ} (m : ℕ) → i + m ≡ e → opened dump started s i ≡ fresh e wide true started → b < 256 → From s e (pair b ++ t)
    → Reaches s (suc (suc e)) (dumping e wide wide true) cs → Reaches s i (opened dump started s i) (b ∷ cs)
line_front {s} dump started {i} {e} {wide} {b} {t} {cs} m h o k g next =
    let d : e ≤ e = omega arith in
    let l : e ≤ length s = omega (arith, g.within) in
    subst (λ (q : State). Reaches s i q (b ∷ cs)) (sym o)
    (reaches (pass {s = s} {q = dumping e wide 0 started} m h d l) (reaches (pair_comes {q = dumping e wide 0 started} d refl k g) next))

-- what comes behind a line
abbrev pub Next : (s r cs : List ℕ) → Type 0
Next s r cs = (j : ℕ) → From s j r → Reaches s j (opened true true s j) cs

pub line_end : {s : List ℕ} {i from wide left : ℕ} {r cs : List ℕ} → from ≤ i → From s i (10 ∷ r) → Next s r cs → Reaches s i (dumping from wide left true) cs
line_end {s} {i} {from} {wide} {left} n f next =
    reaches (one_on (from_in f) (step_newline (dumping from wide left true) n f refl)) (next (suc i) (from_next f))

pub text_end : {s : List ℕ} (dump started : Bool) (i : ℕ) → From s i [] → Reaches s i (opened dump started s i) []
text_end {s} dump started i f =
    record { last = i; state = opened dump started s i; comes = stay i (opened dump started s i); ended = f; half = ap (λ (q : State). q.half) (opened_end dump started f) }

-- the offset of the end
pub last_line : {s : List ℕ} {i j : ℕ} (w : List ℕ) → Lined w → From s i (w ++ (10 ∷ [])) → Word s i j (10 ∷ []) → i < j → Reaches s i (opened true true s i) []
unfolding is_a value choose
last_line {s} {i} {j} w a f v h =
    let u = run w [] a f in
    let o = opened_last true true i j v.solid (v.digits ∙ past_stop v.rest _ refl) (ends_line v.rest) refl h ∙ ap (λ (x : ℕ). fresh x 0 true true) u.behind in
    let z : i + (u.last - i) ≡ u.last = omega (arith, u.after) in
    let l : u.last ≤ length s = omega (arith, u.rest.within) in
    let d : u.last ≤ u.last = omega arith in
    subst (λ (q : State). Reaches s i q []) (sym o)
    (reaches (pass {s = s} {q = dumping u.last 0 0 true} (u.last - i) z d l) (line_end {wide = 0} {left = 0} d u.rest (text_end true true)))

-- a line at offset n of a tool, and what comes behind it
abbrev pub Line : (s : List ℕ) (line : (n b : ℕ) → List ℕ → List ℕ) (dump started : Bool) (n : ℕ) → Type 0
Line s line dump started n =
    (b : ℕ) (bs r cs : List ℕ) → Bytes (b ∷ bs) → (i : ℕ) → From s i (line n b bs ++ (10 ∷ r)) → Next s r cs → Reaches s i (opened dump started s i) ((b ∷ bs) ++ cs)

bytes_first : (b : ℕ) (bs : List ℕ) → Bytes (b ∷ bs) → Bytes (b ∷ take 15 bs)
bytes_first b bs y zero = y 0
bytes_first b bs y (suc j) = bytes_take 15 bs (λ p. y (suc p)) j

module _ {s : List ℕ} (line : (n b : ℕ) → List ℕ → List ℕ) (end : List ℕ) (each : (n : ℕ) → Line s line true true n) (ending : Next s end []) where
  pub lines_reach : (k n : ℕ) (bs : List ℕ) → Bytes bs → length bs ≤ k → (dump started : Bool) → Line s line dump started n
      → (length bs ≡ 0 → (i : ℕ) → From s i end → Reaches s i (opened dump started s i) []) → (i : ℕ) → From s i (lines_of line end k n bs) → Reaches s i (opened dump started s i) bs
  unfolding lines_of
  lines_reach zero n [] y l dump started first last i f = last refl i f
  lines_reach zero n (b ∷ bs) y l dump started first last i f = absurd (omega arith)
  lines_reach (suc k) n [] y l dump started first last i f = last refl i f
  lines_reach (suc k) n (b ∷ bs) y l dump started first last i f =
      let t : Bytes bs = λ j. y (suc j) in
      let e : length (drop 15 bs) ≤ k = omega (arith, length-drop 15 bs) in
      subst (λ (z : List ℕ). Reaches s i (opened dump started s i) (b ∷ z)) (take-append-drop 15 bs)
      (first b (take 15 bs) (lines_of line end k (n + 16) (drop 15 bs)) (drop 15 bs) (bytes_first b bs y) i f
      (lines_reach k (n + 16) (drop 15 bs) (bytes_drop 15 bs t) e true true (each (n + 16)) (λ z. ending)))
