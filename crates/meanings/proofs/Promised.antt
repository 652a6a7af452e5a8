-- What the sentences are: each number that is given has one, and no other has any; it has at most 129 characters, all of them printed. Assumes nothing.
use mathlib.Core.Path.{◌≡◌, refl, sym, ap, subst, ◌∙◌}
use mathlib.Core.Logic.{◌⊎◌, inl, inr, ⊎_elim}
use mathlib.Core.Bool.{Bool, true, false, ◌&&◌}
use mathlib.Core.List.{List, [], ◌∷◌}
use Prim.Native.Nat.{ℕ, ◌≤◌, ◌<◌}
use native.Mathlib.Omega.{arith}
use lib.Dec.{leb, eqb}
use lib.ListN.{length, get_or-eq_default}
use borrow.Author.Tests.{leb-true, ne_eqb}
use Rattle.base.proofs.Bits.{below, below_all}
use Rattle.base.proofs.Compare.{le_or_lt}
use Rattle.meanings.specs.Meanings.{sentences, sentence}

-- every character is printed
unfoldable pub printed : List ℕ → Bool
printed [] = true
printed (x ∷ s) = (leb 32 x && leb x 126) && printed s

-- s is what is said of a number
pub record Says (number : ℕ) (s : List ℕ) : Type 0 where
  pub short : length s ≤ 129
  pub plain : printed s ≡ true
  pub said : number < 56 → (number ≡ 38 → ⊥) → (number ≡ 43 → ⊥) → 1 ≤ length s
  pub withdrawn : (number ≡ 38) ⊎ (number ≡ 43) → s ≡ []
  pub other : 56 ≤ number → s ≡ []

-- of each number below 56, by computation
abbrev is_short : ℕ → Bool
is_short n = leb (length (sentence n)) 129

abbrev is_plain : ℕ → Bool
is_plain n = printed (sentence n)

abbrev is_said : ℕ → Bool
is_said n = elim (eqb n 38) [ true ↦ true | false ↦ elim (eqb n 43) [ true ↦ true | false ↦ leb 1 (length (sentence n)) ] ]

all_short : below is_short 56 ≡ true
unfolding sentence sentences
all_short = refl

all_plain : below is_plain 56 ≡ true
unfolding sentence sentences printed
all_plain = refl

all_said : below is_said 56 ≡ true
unfolding sentence sentences
all_said = refl

-- no other has any
none_other : (n : ℕ) → 56 ≤ n → sentence n ≡ []
unfolding sentence sentences
none_other n h = get_or-eq_default sentences [] {n = n} h

below_or_none : (P : List ℕ → Type 0) → P [] → (n : ℕ) → (n < 56 → P (sentence n)) → P (sentence n)
below_or_none P none n some = ⊎_elim (λ h. subst P (sym (none_other n h)) none) some (le_or_lt 56 n)

said_so : (n : ℕ) → n < 56 → (n ≡ 38 → ⊥) → (n ≡ 43 → ⊥) → 1 ≤ length (sentence n)
said_so n h a b = leb-true 1 (length (sentence n)) (sym (rw (ne_eqb n 38 a, ne_eqb n 43 b, is_said)) ∙ below_all is_said 56 all_said n h)

withdrawn_none : (n : ℕ) → (n ≡ 38) ⊎ (n ≡ 43) → sentence n ≡ []
unfolding sentence sentences
withdrawn_none n (inl e) = ap sentence e
withdrawn_none n (inr e) = ap sentence e

pub says_so : (n : ℕ) → Says n (sentence n)
unfolding printed
says_so n = record {
  short = below_or_none (λ (s : List ℕ). length s ≤ 129) (omega arith) n (λ h. leb-true _ 129 (below_all is_short 56 all_short n h));
  plain = below_or_none (λ (s : List ℕ). printed s ≡ true) refl n (λ h. below_all is_plain 56 all_plain n h);
  said = said_so n;
  withdrawn = withdrawn_none n;
  other = none_other n;
}
