-- Numbers as text: the codes of their digits. Assumes nothing: these are definitions.
use Rattle.std.specs.Prelude.{true, false, List, [], ◌∷◌, ◌++◌, ℕ, zero, suc, ◌+◌, ◌/◌, ◌%◌, ltb}

-- a digit below 16: `0` to `9`, then `A` to `F`
unfoldable pub digit : ℕ → ℕ
digit d = elim (ltb d 10) [ true ↦ 48 + d | false ↦ 55 + d ]

-- four hex digits
unfoldable pub hex4 : ℕ → List ℕ
hex4 n = digit (n / 4096 % 16) ∷ digit (n / 256 % 16) ∷ digit (n / 16 % 16) ∷ digit (n % 16) ∷ []

-- the decimal digits of n, no zero in front, at most k + 1 of them
unfoldable pub decimal_of : (k n : ℕ) → List ℕ
decimal_of zero n = digit n ∷ []
decimal_of (suc k) n = elim (ltb n 10) [ true ↦ digit n ∷ [] | false ↦ decimal_of k (n / 10) ++ (digit (n % 10) ∷ []) ]

-- all of them: n has at most n + 1
unfoldable pub decimal : ℕ → List ℕ
decimal n = decimal_of n n
