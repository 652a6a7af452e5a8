-- What it is that a function's own contract decides every outcome. Assumes nothing.
use mathlib.Core.Path.{◌≡◌, refl, sym, ◌∙◌}
use Prim.Native.Nat.{ℕ}
use seplogic.Ra.Ura.{Ura}
use base.Logic.{SProp, ent, emp, id⊢}
use prog.Memory.{Memory}
use prog.Routine.{Routine}
use types.Logic.{Logic}
use contract.Monad.{Fun, conj, conj_l, conj_r, fact, fact_i, fact_use}
use contract.Lifetimes.{Lfts}
use denote.Ref.{Bor}
use denote.Triple.Entry.{Args, Res}
use denote.Triple.Spec.{Spec}
use denote.Triple.Clauses.{Ended, Clauses, ClausesAt, Lasts, at_exit, closing}

-- `Rattle.CRATE.proofs.FN.clauses`: the function's `requires` and `ensures`, as the toolchain reads them and states the function's theorem
abbrev pub Contract : Ended → Type 2
Contract T = (M : Type 1) (𝓤 : Ura M) (𝓛 : Logic 𝓤) → (Memory → SProp 𝓤) → (Routine → Fun 𝓤) → Clauses 𝓤 T

-- `Rattle.CRATE.proofs.FN.spec`: the contract of the function's theorem
abbrev pub Stated : Ended → Type 2
Stated T = (M : Type 1) (𝓤 : Ura M) (𝓛 : Logic 𝓤) → (Memory → SProp 𝓤) → (Routine → Fun 𝓤) → Spec 𝓤 T.signature

-- a call: in any model of the logic, at any lifetimes and arguments
pub record Call (T : Ended) (c : Contract T) : Type 2 where
  pub M : Type 1
  pub 𝓤 : Ura M
  pub 𝓛 : Logic 𝓤
  pub mem : Memory → SProp 𝓤
  pub run : Routine → Fun 𝓤
  pub κs : Lfts T.signature.lifetimes
  pub args : Args T.signature κs
  pub ghost : (c M 𝓤 𝓛 mem run κs args).ghost

module _ (T : Ended) (c : Contract T) (x : Call T c) where
  abbrev at : ClausesAt x.𝓤 T x.κs
  at = c x.M x.𝓤 x.𝓛 x.mem x.run x.κs x.args

  -- an outcome of it: the result, and what stands at exit behind each `&mut`
  abbrev pub Outcome : Type 0
  Outcome = Res T.signature x.κs × Lasts T x.κs x.args

  abbrev pub asked : SProp x.𝓤
  asked = at.requires x.ghost

  abbrev pub allowed : Outcome → SProp x.𝓤
  allowed o = at.ensures x.ghost o.0 (at_exit T x.κs x.args o.1)

-- all that a program has of a reference: where it points and what stands there. Beside these it has only its ghost name, which no program sees
abbrev pub seen : {X : Type 0} → Bor X → (ℕ × ℕ) × X
seen r = (r.ref_ptr, r.now)

-- The contract s of the function's theorem is made of the clauses c, nothing is asked of the caller, and two outcomes that are allowed are the same. `see` is what a program has of a result: all of it, or of a reference what is `seen`
abbrev pub DecidedAs : (T : Ended) (c : Contract T) → Stated T → {S : Lfts T.signature.lifetimes → Type 0} → ((κs : Lfts T.signature.lifetimes) → Res T.signature κs → S κs) → Type 2
DecidedAs T c s see =
    (x : Call T c) →
    (closing x.𝓛 T (c x.M x.𝓤 x.𝓛 x.mem x.run) ≡ s x.M x.𝓤 x.𝓛 x.mem x.run)
    × ent x.𝓤 (emp x.𝓤) (asked T c x)
    × ((o o' : Outcome T c x) → ent x.𝓤 (conj x.𝓤 (allowed T c x o) (allowed T c x o')) (fact x.𝓤 ((see x.κs o.0 ≡ see x.κs o'.0) × (o.1 ≡ o'.1))))

abbrev pub Decided : (T : Ended) → Contract T → Stated T → Type 2
Decided T c s = DecidedAs T c s (λ κs r. r)

-- ---- how it is shown: where there is no `requires`, and the `ensures` is one fact φ of the outcome, from φ of both to χ, that they are the same
pub decides : {M : Type 1} (𝓤 : Ura M) {O : Type 0} {φ : O → Type 0} {χ : O → O → Type 0} {C : Type 2} {s : C} → ((o o' : O) → φ o → φ o' → χ o o') → (s ≡ s) × ent 𝓤 (emp 𝓤) (emp 𝓤) × ((o o' : O) → ent 𝓤 (conj 𝓤 (fact 𝓤 (φ o)) (fact 𝓤 (φ o'))) (fact 𝓤 (χ o o')))
decides 𝓤 {O} {φ} {χ} f = (
  refl,
  id⊢ 𝓤 (emp 𝓤),
  λ o o'.
      fact_use 𝓤 (φ o) (conj_l 𝓤 (fact 𝓤 (φ o)) (fact 𝓤 (φ o'))) (λ p.
      fact_use 𝓤 (φ o') (conj_r 𝓤 (fact 𝓤 (φ o)) (fact 𝓤 (φ o'))) (λ q.
      fact_i 𝓤 (χ o o') (conj 𝓤 (fact 𝓤 (φ o)) (fact 𝓤 (φ o'))) (f o o' p q))),
)

pub joined : {A : Type 0} {x y z : A} → x ≡ z → y ≡ z → x ≡ y
joined p q = p ∙ sym q

infixr 20 ◌&◌
pub ◌&◌ : {A B : Type 0} {x x' : A} {y y' : B} → x ≡ x' → y ≡ y' → ◌≡◌ {A = A × B} (x, y) (x', y')
(p & q) i = (p i, q i)
