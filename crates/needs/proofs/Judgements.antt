-- Which case of a judgement it is, that the lines of every column ascend, and that a judgement is known by what it says. Assumes nothing.
use borrow.Author.Tests.{eq-eqb, ne_eqb}
use mathlib.Core.Path.{◌≡◌, refl, sym, ap, ◌∙◌}
use mathlib.Core.Bool.{Bool, true, false, not, true≢false}
use mathlib.Core.List.{List, [], ◌∷◌}
use Prim.Native.Nat.{ℕ, zero, suc}
use native.Mathlib.Omega.{arith}
use lib.Dec.{eqb}
use lib.ListN.{length}
use Rattle.base.specs.Lists.{All}
use Rattle.base.specs.Pick.{pick}
use Rattle.base.proofs.Pick.{pick_here, pick_past}
use Rattle.refusal.specs.declared.Refusal.{Refusal}
use Rattle.refusal.specs.First.{refuse, accept, unless, ◌if◌else◌, ◌or_else◌}
use Rattle.refusal.proofs.First.{if_true, if_false, or_else_none, or_else_fault, or_else_zero, unless_none, unless_fault, call_none, call_fault}
use Rattle.reading.specs.Places.{descs}
use Rattle.reading.specs.Completed.{complete_fault}
use Rattle.needs.specs.declared.Wrong.{Wrong}
use Rattle.needs.specs.declared.Wrong.TheVariants.{Absent, TooShort, BitClear, NotCurrent, TooLong}
use Rattle.needs.specs.declared.Judgement.{Judgement}
use Rattle.needs.specs.declared.Judgement.TheVariants.{Conforms, Broken, Refused}
use Rattle.needs.specs.declared.table.Column.{Column}
use Rattle.needs.specs.Required.{required, columns, column_of, no_column, has_table, marked}
use Rattle.needs.specs.Judge.{Said, said, wrong_number, lowest, judge_fault, judged}
use Rattle.needs.specs.inner.Refused.{column_fault}
use Rattle.needs.specs.inner.Walk.{ascends}
use Rattle.needs.proofs.Rules.{every_all}

-- ---- the columns

-- what holds of each column, and of none, holds of a profile's
pub column_all : (P : Column → Type 0) → P no_column → All P columns → (p : ℕ) → P (column_of p)
unfolding column_of pick
column_all P none all p = go columns all
  where
    is : Column → Bool
    is c = eqb c.0.0 p

    go : (cs : List Column) → All P cs → P (pick is (λ c. c) no_column cs)
    go [] a = none
    go (c ∷ cs) a = here (is c) refl (go cs a.1)
      where
        here : (t : Bool) → is c ≡ t → P (pick is (λ c. c) no_column cs) → P (pick is (λ c. c) no_column (c ∷ cs))
        here true t more = rw (pick_here is (λ c. c) no_column c cs t) a.0
        here false t more = rw (pick_past is (λ c. c) no_column c cs t) more

-- the lines that stand in a column ascend: one computed test over all of them
pub column_ascends : (p : ℕ) → ascends (column_of p).1 required ≡ true
unfolding required columns marked
column_ascends p =
    column_all (λ c. ascends c.1 required ≡ true) refl (every_all (λ (c : Column). ascends c.1 required) columns refl) p

-- ---- which case

-- what refuses, by the reading's refusal x and a column
module _ (s : List ℕ) (c : Column) (x : Refusal) (e : x ≡ complete_fault s) where
  pub fault_input : (x.number ≡ 0 → ⊥) → x ≡ column_fault c s
  fault_input k = e ∙ sym (or_else_fault (complete_fault s) _ (call_fault x _ e k))

  pub fault_table : x.number ≡ 0 → c.1 ≡ 0 → refuse 40 ≡ column_fault c s
  fault_table k h = sym (or_else_none (complete_fault s) _ (call_none x _ e k) ∙ rw (eq-eqb c.1 0 h) (if_true _ _))

  pub fault_none : x.number ≡ 0 → (c.1 ≡ 0 → ⊥) → accept ≡ column_fault c s
  fault_none k h = sym (or_else_none (complete_fault s) _ (call_none x _ e k) ∙ rw (ne_eqb c.1 0 h) (if_false _ _))

-- and back: where nothing refuses, the response is complete
pub fault_complete : (s : List ℕ) (c : Column) (r : Refusal) → r ≡ column_fault c s → r.number ≡ 0 → (complete_fault s).number ≡ 0
fault_complete s c r e k = (or_else_zero (complete_fault s) _ (sym (ap (λ (x : Refusal). x.number) e) ∙ k)).0

-- of a judgement that gives `next` where nothing is refused
module _ (p : ℕ) (s : List ℕ) (next : Said) where
  abbrev answer : Said
  answer = unless (judge_fault p s) (λ (r : Refusal). said (Refused r)) next

  refused_is : (r : Refusal) → r ≡ judge_fault p s → (r.number ≡ 0 → ⊥) → said (Refused r) ≡ answer
  refused_is r e k = rw e (sym (unless_fault (judge_fault p s) _ _ (rw (← e) k)))

  pub judge_input : (r : Refusal) → r ≡ complete_fault s → (r.number ≡ 0 → ⊥) → said (Refused r) ≡ answer
  unfolding judge_fault
  judge_input r e k =
      refused_is r (e ∙ sym (or_else_fault (complete_fault s) _ (λ z. k (ap (λ (x : Refusal). x.number) e ∙ z)))) k

  -- with the profile's column at hand
  module _ (r : Refusal) (c : Column) (q : c ≡ column_of p) (e : r ≡ column_fault c s) where
    fault_is : r ≡ judge_fault p s
    unfolding judge_fault has_table
    fault_is = e ∙ ap (λ (b : Bool). complete_fault s or_else refuse 40 if b else accept) (sym (not_twice _) ∙ ap (λ (d : Column). not (not (eqb d.1 0))) q)
      where
        not_twice : (b : Bool) → not (not b) ≡ b
        not_twice true = refl
        not_twice false = refl

    pub judge_refused : (r.number ≡ 0 → ⊥) → said (Refused r) ≡ answer
    judge_refused k = refused_is r fault_is k

    pub judge_passed : r.number ≡ 0 → next ≡ answer
    judge_passed k = sym (unless_none (judge_fault p s) _ _ (rw (← fault_is) k))

-- the lowest that breaks the column is the answer
pub judge_lowest : (p : ℕ) (s : List ℕ) (r : Refusal) (c : Column) → c ≡ column_of p → r ≡ column_fault c s → r.number ≡ 0
    → (x : Said) → x ≡ lowest c (descs s) → x ≡ judged p s
unfolding judged
judge_lowest p s r c q e k x l = l ∙ ap (λ (d : Column). lowest d (descs s)) q ∙ judge_passed p s _ r c q e k

-- ---- a judgement is known by what it says

pub wrong_injective : (a b : Wrong) → wrong_number a ≡ wrong_number b → a ≡ b
wrong_injective a b e = sym (back_is a) ∙ ap back e ∙ back_is b
  where
    back : ℕ → Wrong
    back zero = Absent
    back (suc zero) = Absent
    back (suc (suc zero)) = TooShort
    back (suc (suc (suc zero))) = BitClear
    back (suc (suc (suc (suc zero)))) = NotCurrent
    back (suc (suc (suc (suc (suc n))))) = TooLong

    back_is : (w : Wrong) → back (wrong_number w) ≡ w
    back_is Absent = refl
    back_is TooShort = refl
    back_is BitClear = refl
    back_is NotCurrent = refl
    back_is TooLong = refl

pub said_injective : (a b : Judgement) → said a ≡ said b → a ≡ b
said_injective Conforms Conforms e = refl
said_injective Conforms (Broken g v) e = absurd (true≢false (ap (λ (x : Said). x.conforms) e))
said_injective Conforms (Refused q) e = absurd (true≢false (ap (λ (x : Said). x.conforms) e))
said_injective (Broken f u) Conforms e = absurd (true≢false (sym (ap (λ (x : Said). x.conforms) e)))
said_injective (Broken f u) (Broken g v) e =
    let m : (f.0 ∷ []) ≡ (g.0 ∷ []) = ap (λ (x : Said). x.feature) e in
    let h : f.0 ≡ g.0 = cc in
    let w : u ≡ v = wrong_injective u v (ap (λ (x : Said). x.wrong) e) in
    λ i. Broken (record { 0 = h i }) (w i)
said_injective (Broken f u) (Refused q) e = absurd (omega (arith, ap (λ (x : Said). length x.feature) e))
said_injective (Refused r) Conforms e = absurd (true≢false (sym (ap (λ (x : Said). x.conforms) e)))
said_injective (Refused r) (Broken g v) e = absurd (omega (arith, ap (λ (x : Said). length x.feature) e))
said_injective (Refused r) (Refused q) e = ap Refused (ap (λ (x : Said). x.refusal) e)
