-- The first refusal wins. Number 0 is no refusal. Assumes nothing: these are definitions.
use Rattle.std.specs.Prelude.{Bool, true, false, ℕ, zero, suc}
use Rattle.refusal.specs.declared.Refusal.{Refusal}

infixr 20 ◌if◌else◌
infixr 20 ◌or_else◌
-- the refusal with this number, which has no place
abbrev pub refuse : ℕ → Refusal
refuse k = record { number = k; place = 0 }

abbrev pub accept : Refusal
accept = refuse 0

-- a refusal at a place; what refuses nothing has none
unfoldable pub placed : Refusal → (place : ℕ) → Refusal
placed r place = elim r.number [ zero ↦ accept | suc k ↦ record { number = suc k; place = place } ]

-- x where the test holds, else y
unfoldable pub ◌if◌else◌ : {A : Type 0} → A → Bool → A → A
x if true else y = x
x if false else y = y

-- b where a number is 0, else a
unfoldable pub pick_zero : ℕ → Refusal → Refusal → Refusal
pick_zero zero a b = b
pick_zero (suc k) a b = a

-- a where it refuses, else b
unfoldable pub ◌or_else◌ : Refusal → Refusal → Refusal
a or_else b = pick_zero a.number a b

-- the first refusal of f at i, i + 1, .., k indices
unfoldable pub first_of : (ℕ → Refusal) → ℕ → ℕ → Refusal
first_of f i zero = accept
first_of f i (suc k) = f i or_else first_of f (suc i) k

-- x where r is no refusal, else what `refused` makes of r
unfoldable pub unless : {A : Type 0} → Refusal → (refused : Refusal → A) → A → A
unless r refused x = elim r.number [ zero ↦ x | suc e ↦ refused r ]
