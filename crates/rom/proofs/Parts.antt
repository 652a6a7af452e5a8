-- The parts of an answer: what is wanted as one piece, and the header. Assumes nothing.
use mathlib.Core.Path.{◌≡◌, sym, ap, subst, ◌∙◌}
use mathlib.Core.Bool.{Bool, true, false, not}
use mathlib.Core.List.{List, []}
use Prim.Native.Nat.{ℕ, ◌+◌, ◌≤◌}
use native.Mathlib.Omega.{arith}
use lib.Dec.{eqb}
use lib.ListN.{length, take, drop, length-append, length-take, length-drop}
use lib.Seq.{take_all}
use denote.Ref.{Bor}
use borrow.Author.Tests.{eq-eqb, ne_eqb}
use Rattle.fields.specs.Part.{PartOf}
use Rattle.fields.specs.Field.{spell}
use Rattle.fields.proofs.Laws.{length_spell}
use Rattle.text.specs.Flags.{current}
use Rattle.text.specs.Reading.{stated_length, number_at, length_at}
use Rattle.rom.specs.inner.Standing.{agrees, standing, currents, one_at, wanted_at, less_passed, head_of}

module _ (on b : Bool) (f : ℕ) (e : b ≡ eqb (current f) 1) where
  pub agrees_yes : on ≡ true → b ≡ agrees on f
  unfolding agrees
  agrees_yes h = e ∙ rw (h, agrees)

  pub agrees_no : on ≡ false → not b ≡ agrees on f
  unfolding agrees
  agrees_no h = ap not e ∙ rw (h, agrees)

-- ---- one piece

module _ (rt sfn : ℕ) (s r : Bor (List ℕ)) (at : ℕ) where
  one : (xs : List ℕ) → PartOf s at xs r → xs ≡ one_at rt sfn s.now at → PartOf s at (one_at rt sfn s.now at) r
  one xs p e = subst (λ (ys : List ℕ). PartOf s at ys r) e p

  pub one_all : rt ≡ 0 → PartOf s at (take (length s.now) (drop at s.now)) r → PartOf s at (one_at rt sfn s.now at) r
  unfolding one_at
  one_all h p = one _ p (take_all (length s.now) (drop at s.now) (omega (arith, length-drop at s.now)) ∙ sym (rw (eq-eqb rt 0 h, one_at)))

  module _ (n : ℕ) (q : n ≡ number_at s.now at) (k : rt ≡ 0 → ⊥) where
    pub one_other : (n ≡ sfn → ⊥) → PartOf s at (take 0 (drop at s.now)) r → PartOf s at (one_at rt sfn s.now at) r
    unfolding one_at
    one_other h p = one _ p (sym (rw (ne_eqb rt 0 k, one_at, ← q, ne_eqb n sfn h)))

    pub one_it : (len : ℕ) → n ≡ sfn → len ≡ length_at s.now at → PartOf s at (take (4 + len) (drop at s.now)) r → PartOf s at (one_at rt sfn s.now at) r
    unfolding one_at
    one_it len h l p = one _ p (rw (ne_eqb rt 0 k, one_at, ← q, eq-eqb n sfn h, l))

pub one_most : (rt sfn : ℕ) (i : List ℕ) (at : ℕ) → length (one_at rt sfn i at) ≤ length i
unfolding one_at
one_most rt sfn i at = go (eqb rt 0) (eqb (number_at i at) sfn)
  where
    go : (a b : Bool) → length {A = ℕ} (elim a [ true ↦ drop at i | false ↦ elim b [ true ↦ standing i at | false ↦ [] ] ]) ≤ length i
    go true b = omega (arith, length-drop at i)
    go false true = omega (arith, length-take (4 + length_at i at) (drop at i), length-drop at i)
    go false false = omega arith

-- ---- what is wanted

module _ (rt sfn : ℕ) (i : List ℕ) (at : ℕ) where
  pub wanted_currents : rt ≡ 1 → currents i at ≡ wanted_at rt sfn i at
  unfolding wanted_at
  wanted_currents h = sym (rw (eq-eqb rt 1 h, wanted_at))

  pub wanted_one : (rt ≡ 1 → ⊥) → one_at rt sfn i at ≡ wanted_at rt sfn i at
  unfolding wanted_at
  wanted_one h = sym (rw (ne_eqb rt 1 h, wanted_at))

-- ---- the header

pub head_length : (i : List ℕ) (size : ℕ) → length (head_of i size) ≡ 4 + length (take 4 (drop 4 i))
unfolding head_of
head_length i size = omega (
  arith,
  length-append (spell 4 (less_passed (stated_length i) (length i) size)) (take 4 (drop 4 i)),
  length_spell 4 (less_passed (stated_length i) (length i) size),
)
