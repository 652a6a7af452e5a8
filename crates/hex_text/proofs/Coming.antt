-- A text from an index on, and what a walk spells on its way from one index to another. Assumes nothing.
use borrow.Author.Tests.{lt-ltb, le-ltb}
use mathlib.Core.Path.{◌≡◌, refl, sym, ap, ◌∙◌}
use mathlib.Core.Bool.{true, false}
use mathlib.Core.List.{List, [], ◌∷◌, ◌++◌, append_assoc, append-nil}
use Prim.Native.Nat.{ℕ, suc, ◌+◌, ◌-◌, ◌≤◌, ◌<◌}
use native.Mathlib.Numerals.{add-one}
use native.Mathlib.Omega.{arith}
use lib.ListN.{length, drop, get_or}
use lib.Seq.{drop-cons}
use Rattle.hex_text.specs.declared.Class.{Class}
use Rattle.hex_text.specs.declared.State.{State}
use Rattle.hex_text.specs.declared.Effect.{Effect}
use Rattle.hex_text.specs.Chars.{at, is_a, past}
use Rattle.hex_text.specs.Front.{opened}
use Rattle.hex_text.specs.Steps.{step}
use Rattle.hex_text.specs.Text.{Spelling, some, taken, spelling, spelled}
use Rattle.hex_text.proofs.Cases.{choose_yes, choose_no}
use Rattle.hex_text.proofs.Runs.{past_here, past_next, past_out}
use Rattle.hex_text.proofs.Puts.{ended_whole}

-- from index i on the text s is r
pub record From (s : List ℕ) (i : ℕ) (r : List ℕ) : Type 0 where
  pub rest : drop i s ≡ r
  pub within : i + length r ≡ length s

pub from_start : (s : List ℕ) → From s 0 s
from_start s = record { rest = refl; within = omega arith }

module _ {s : List ℕ} {i c : ℕ} {r : List ℕ} (f : From s i (c ∷ r)) where
  pub from_in : i < length s
  from_in = omega (arith, f.within)

  split : get_or s i 0 ∷ drop (suc i) s ≡ c ∷ r
  split = sym (drop-cons s i 0 from_in) ∙ f.rest

  pub from_at : at s i ≡ c
  unfolding at
  from_at = choose_yes _ _ _ (lt-ltb i (length s) from_in) ∙ cc split

  pub from_next : From s (suc i) r
  from_next = record { rest = cc split; within = omega (arith, f.within) }

  -- the characters of a class
  pub past_stop : (k : Class) → is_a k c ≡ false → past k s i ≡ i
  past_stop k e = past_here k s i from_in (ap (is_a k) from_at ∙ e)

  pub past_one : (k : Class) → is_a k c ≡ true → past k s i ≡ past k s (suc i)
  past_one k e = past_next k s i from_in (ap (is_a k) from_at ∙ e) ∙ ap (past k s) (add-one i)

-- the text is at its end
module _ {s : List ℕ} {i : ℕ} (f : From s i []) where
  pub end_at : at s i ≡ 10
  unfolding at
  end_at = choose_no _ _ _ (le-ltb i (length s) (omega (arith, f.within)))

  pub past_end : (k : Class) → past k s i ≡ i
  past_end k = past_out k s i (omega (arith, f.within))

-- ---- the walk

-- the bytes before a spelling
abbrev pub more : List ℕ → Spelling → Spelling
more bs x = record { bytes = bs ++ x.bytes; line = x.line }

-- over the text s from index i and the state q the walk comes to index j and the state p, and spells bs
pub record Comes (s : List ℕ) (i : ℕ) (q : State) (bs : List ℕ) (j : ℕ) (p : State) : Type 0 where
  pub same : spelling (length s - i) q s i ≡ more bs (spelling (length s - j) p s j)

module _ {s : List ℕ} where
  pub stay : (i : ℕ) (q : State) → Comes s i q [] i q
  stay i q = record { same = refl }

  pub then : {i j k : ℕ} {q p o : State} {bs cs : List ℕ} → Comes s i q bs j p → Comes s j p cs k o → Comes s i q (bs ++ cs) k o
  then {i} {j} {k} {q} {p} {o} {bs} {cs} c d =
      record { same = c.same ∙ ap (more bs) d.same ∙ ap (λ (l : List ℕ). record { bytes = l; line = (spelling (length s - k) o s k).line }) (sym (append_assoc bs cs _)) }

  -- one character
  one : {i : ℕ} {q : State} (x : Effect) → i < length s → step q s i ≡ x → x.fault ≡ false → Comes s i q (some x.spells x.byte) (suc i) x.state
  unfolding spelling taken
  one {i} {q} x h e z =
      let n : length s - i ≡ suc (length s - suc i) = omega arith in
      record { same = rw (n, e) (choose_no x.fault _ _ z) }

  pub one_on : {i : ℕ} {q p : State} → i < length s → step q s i ≡ record { fault = false; spells = false; byte = 0; state = p } → Comes s i q [] (suc i) p
  unfolding some
  one_on h e = one _ h e refl

  pub one_byte : {i b : ℕ} {q p : State} → i < length s → step q s i ≡ record { fault = false; spells = true; byte = b; state = p } → Comes s i q (b ∷ []) (suc i) p
  unfolding some
  one_byte h e = one _ h e refl

-- the walk comes to the end of the text, with no half of a byte, and spells bs
pub record Reaches (s : List ℕ) (i : ℕ) (q : State) (bs : List ℕ) : Type 0 where
  pub last : ℕ
  pub state : State
  pub comes : Comes s i q bs last state
  pub ended : From s last []
  pub half : state.half ≡ 16

module _ {s : List ℕ} where
  pub reaches : {i j : ℕ} {q p : State} {bs cs : List ℕ} → Comes s i q bs j p → Reaches s j p cs → Reaches s i q (bs ++ cs)
  reaches c r = record { last = r.last; state = r.state; comes = then c r.comes; ended = r.ended; half = r.half }

  -- the whole text
  pub whole : {bs : List ℕ} → Reaches s 0 (opened false false s 0) bs → spelled s ≡ record { bytes = bs; line = 0 }
  unfolding spelled spelling
  whole {bs} r =
      let q = opened false false s 0 in
      let m : length s ≡ length s - 0 = omega arith in
      let n : length s - r.last ≡ 0 = omega (arith, r.ended.within) in
      let h : 16 ≤ r.state.half = omega (arith, r.half) in
      ap (λ (k : ℕ). spelling k q s 0) m ∙ r.comes.same ∙ ap (λ (k : ℕ). more bs (spelling k r.state s r.last)) n
      ∙ ap (more bs) (ended_whole r.state s r.last h) ∙ ap (λ (l : List ℕ). record { bytes = l; line = 0 }) (append-nil bs)
