-- A statement about a call by names: it binds one for each argument in the order of the function's head, one for the result, and one for what stands at exit behind
-- each argument. Assumes nothing: these are definitions.
use mathlib.Core.List.{List, [], ◌∷◌}
use Prim.Native.Nat.{ℕ}
use contract.Lifetimes.{Lfts}
use denote.RattleType.{RattleType, Denots}
use denote.Exit.{Last}
use denote.Signature.{Slot, types_at}
use base.Logic.{ent}
use contract.Monad.{conj, fact}
use denote.Triple.Entry.{Args, Res}
use denote.Triple.End.{Kepts, Fins}
use denote.Triple.Clauses.{Ended}
use Rattle.base.proofs.Decided.{Contract, Call, Outcome, allowed}
use Rattle.base.proofs.Promise.{beside}

-- a function of values of the types Ts, one after the other, and its value at all of them
abbrev pub Over : (Ts : List RattleType) → (Denots Ts → Type 1) → Type 1
Over [] R = R tt
Over (T ∷ Ts) R = (v : T.Denot) → Over Ts (λ vs. R (v, vs))

abbrev over : (Ts : List RattleType) (R : Denots Ts → Type 1) → Over Ts R → (vs : Denots Ts) → R vs
over [] R f vs = f
over (T ∷ Ts) R f vs = over Ts (λ us. R (vs.0, us)) (f vs.0) vs.1

-- the same of what stands at exit behind each argument
module _ {n : ℕ} (κs : Lfts n) where
  abbrev pub Behind : (ss : List (Slot n)) (ks : Kepts ss) → Denots (types_at ss κs) → Type 1
  Behind [] ks a = Type 0
  Behind (s ∷ ss) ks a = Last ((s.row κs).exit ks.0) a.0 → Behind ss ks.1 a.1

  abbrev behind : (ss : List (Slot n)) (ks : Kepts ss) (a : Denots (types_at ss κs)) → Behind ss ks a → Fins κs ss ks a → Type 0
  behind [] ks a f ws = f
  behind (s ∷ ss) ks a f ws = behind ss ks.1 a.1 (f ws.0) ws.1

-- a property of a result and of what stands behind the arguments a at exit
abbrev pub Ending : (T : Ended) (κs : Lfts T.signature.lifetimes) → Denots (types_at T.signature.params κs) → Type 1
Ending T κs a = Res T.signature κs → Behind κs T.signature.params T.kept a

module _ {T : Ended} {c : Contract T} where
  -- what is asked of a call
  abbrev pub met : ((κs : Lfts T.signature.lifetimes) → Over (types_at T.signature.params κs) (λ a. Type 0)) → Call T c → Type 0
  met f x = over (types_at T.signature.params x.κs) (λ a. Type 0) (f x.κs) x.args

  -- what is said of a call and its outcome
  abbrev pub named : ((κs : Lfts T.signature.lifetimes) → Over (types_at T.signature.params κs) (Ending T κs)) → (x : Call T c) → Outcome T c x → Type 0
  named f x o = behind x.κs T.signature.params T.kept x.args (over (types_at T.signature.params x.κs) (Ending T x.κs) (f x.κs) x.args o.0) o.1

  -- the same, where a theorem speaks of several calls
  abbrev pub saying : (x : Call T c) → Outcome T c x → ((κs : Lfts T.signature.lifetimes) → Over (types_at T.signature.params κs) (Ending T κs)) → Type 0
  saying x o f = named f x o

-- ---- calls in one model of the logic, so one beside the other

-- φ holds of every two outcomes that a call of one function and a call of another allow
abbrev pub Both : (T : Ended) (c : Contract T) (T₂ : Ended) (c₂ : Contract T₂) → ((x : Call T c) → Outcome T c x → (y : Call T₂ c₂) → Outcome T₂ c₂ y → Type 0) → Type 2
Both T c T₂ c₂ φ =
    (x : Call T c) (κs : Lfts T₂.signature.lifetimes) (args : Args T₂.signature κs) (g : (c₂ x.M x.𝓤 x.𝓛 x.mem x.run κs args).ghost)
    (o : Outcome T c x) (p : Outcome T₂ c₂ (beside x κs args g))
    → ent x.𝓤 (conj x.𝓤 (allowed T c x o) (allowed T₂ c₂ (beside x κs args g) p)) (fact x.𝓤 (φ x o (beside x κs args g) p))

-- and of every three that calls of three functions allow
abbrev pub AllThree : (T : Ended) (c : Contract T) (T₂ : Ended) (c₂ : Contract T₂) (T₃ : Ended) (c₃ : Contract T₃)
    → ((x : Call T c) → Outcome T c x → (y : Call T₂ c₂) → Outcome T₂ c₂ y → (z : Call T₃ c₃) → Outcome T₃ c₃ z → Type 0) → Type 2
AllThree T c T₂ c₂ T₃ c₃ φ =
    (x : Call T c) (κs : Lfts T₂.signature.lifetimes) (args : Args T₂.signature κs) (g : (c₂ x.M x.𝓤 x.𝓛 x.mem x.run κs args).ghost)
    (κs₂ : Lfts T₃.signature.lifetimes) (args₂ : Args T₃.signature κs₂) (g₂ : (c₃ x.M x.𝓤 x.𝓛 x.mem x.run κs₂ args₂).ghost)
    (o : Outcome T c x) (p : Outcome T₂ c₂ (beside x κs args g)) (q : Outcome T₃ c₃ (beside x κs₂ args₂ g₂))
    → ent x.𝓤 (conj x.𝓤 (allowed T c x o) (conj x.𝓤 (allowed T₂ c₂ (beside x κs args g) p) (allowed T₃ c₃ (beside x κs₂ args₂ g₂) q)))
    (fact x.𝓤 (φ x o (beside x κs args g) p (beside x κs₂ args₂ g₂) q))
