-- The order of rules, said of a number: it is that of the first rule that is broken, where each rule is said in words of its own. A definition that gives
-- another number, or looks at its rules in another order, does not have it. Assumes nothing.
use mathlib.Core.Path.{◌≡◌, refl}
use mathlib.Core.Bool.{Bool, true, false}
use Prim.Native.Nat.{ℕ, zero, suc}
use native.Mathlib.Omega.{arith}
use Rattle.refusal.specs.declared.Refusal.{Refusal}
use Rattle.refusal.specs.First.{refuse, accept, ◌if◌else◌, pick_zero, ◌or_else◌}
use Rattle.refusal.proofs.First.{or_else_none, or_else_fault}

-- k is n where the rule is broken; where it holds, the next rules decide
pub data Rule (n : ℕ) (holds : Type 0) (next : ℕ → Type 0) (k : ℕ) : Type 0 where
  broken : k ≡ n → (holds → ⊥) → Rule n holds next k
  kept : holds → next k → Rule n holds next k

-- k is the number that another check gives, where it gives one; else the next rules decide
abbrev pub Given : (given : ℕ) (next : ℕ → Type 0) → ℕ → Type 0
Given given next k = Rule given (given ≡ 0) next k

-- no rule is broken
abbrev pub None : ℕ → Type 0
None k = k ≡ 0

-- ---- a verdict has the order

module _ {holds : Type 0} {next : ℕ → Type 0} where
  -- a test, then the rest
  pub rule_if : (n : ℕ) (b : Bool) (y : Refusal) → (b ≡ false → holds) → (b ≡ true → holds → ⊥) → next y.number → Rule n holds next (refuse n if b else y).number
  unfolding ◌if◌else◌
  rule_if n true y f g h = broken refl (g refl)
  rule_if n false y f g h = kept (f refl) h

  -- two tests for one number
  pub rule_two : (n : ℕ) (a b : Bool) (y : Refusal) → (a ≡ false → b ≡ false → holds) → (a ≡ true → holds → ⊥) → (b ≡ true → holds → ⊥) → next y.number
      → Rule n holds next (refuse n if a else refuse n if b else y).number
  unfolding ◌if◌else◌
  rule_two n true b y f g g' h = broken refl (g refl)
  rule_two n false true y f g g' h = broken refl (g' refl)
  rule_two n false false y f g g' h = kept (f refl refl) h

  -- a test at the front of what comes before z, and the last of them
  pub rule_first : (n : ℕ) (b : Bool) (y z : Refusal) → (b ≡ false → holds) → (b ≡ true → holds → ⊥) → next (y or_else z).number
      → Rule (suc n) holds next ((refuse (suc n) if b else y) or_else z).number
  unfolding ◌if◌else◌ ◌or_else◌ pick_zero
  rule_first n true y z f g h = broken refl (g refl)
  rule_first n false y z f g h = kept (f refl) h

  pub rule_last : (n : ℕ) (b : Bool) (z : Refusal) → (b ≡ false → holds) → (b ≡ true → holds → ⊥) → next z.number
      → Rule (suc n) holds next ((refuse (suc n) if b else accept) or_else z).number
  unfolding ◌or_else◌ pick_zero
  rule_last n b z f g h = rule_first n b accept z f g h

  -- a check that gives one number, then the rest
  pub rule_or_else : (n : ℕ) (a b : Refusal) → (a.number ≡ 0 → holds) → ((a.number ≡ 0 → ⊥) → (a.number ≡ n) × (holds → ⊥)) → next b.number
      → Rule n holds next (a or_else b).number
  rule_or_else n a b f g h = go a.number refl
    where
      go : (m : ℕ) → a.number ≡ m → Rule n holds next (a or_else b).number
      go zero e = rw (or_else_none a b e) (kept (f e) h)
      go (suc m) e = let x = g (λ z. omega arith) in rw (or_else_fault a b (λ z. omega arith)) (broken x.0 x.1)

-- another check, then the rest
pub given_first : {next : ℕ → Type 0} (a b : Refusal) → next b.number → Given a.number next (a or_else b).number
given_first a b h = rule_or_else a.number a b (λ e. e) (λ k. (refl, k)) h
