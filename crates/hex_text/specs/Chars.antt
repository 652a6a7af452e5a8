-- The characters of a text in hexadecimal, by their codes. Assumes nothing: these are definitions.
use Rattle.std.specs.Prelude.{Bool, true, false, not, List, ℕ, zero, suc, ◌+◌, ◌-◌, eqb, ltb, length, get_or}
use Rattle.hex_text.specs.declared.Class.{Class}
use Rattle.hex_text.specs.declared.Class.TheVariants.{Blank, Digit, Zero, Solid, Inner}

-- the first where the test holds, else the second
unfoldable pub choose : {A : Type 0} → Bool → A → A → A
choose true x y = x
choose false x y = y

-- the character at an index: behind the end of the text a line ends
unfoldable pub at : List ℕ → ℕ → ℕ
at s i = choose (ltb i (length s)) (get_or s i 0) 10

-- the value of a hexadecimal digit, large or small; 16 for any other character
unfoldable pub value : ℕ → ℕ
value c =
    choose (ltb c 48) 16 (choose (ltb c 58) (c - 48)
    (choose (ltb c 65) 16 (choose (ltb c 71) (c - 55)
    (choose (ltb c 97) 16 (choose (ltb c 103) (c - 87) 16)))))

-- a space, a tab, a return before a newline, a colon
unfoldable pub blank : ℕ → Bool
blank c = choose (eqb c 32) true (choose (eqb c 9) true (choose (eqb c 13) true (eqb c 58)))

-- what stands behind a byte: a blank, a newline, a comma
unfoldable pub parts : ℕ → Bool
parts c = choose (blank c) true (choose (eqb c 10) true (eqb c 44))

-- a class of characters: blanks; hexadecimal digits; the digit 0; neither blank nor newline; no newline
unfoldable pub is_a : Class → ℕ → Bool
is_a Blank c = blank c
is_a Digit c = ltb (value c) 16
is_a Zero c = eqb c 48
is_a Solid c = choose (blank c) false (not (eqb c 10))
is_a Inner c = not (eqb c 10)

-- the index behind the characters of a class that stand from index i on, of n characters
unfoldable pub past_of : Class → List ℕ → (n i : ℕ) → ℕ
past_of k s zero i = i
past_of k s (suc n) i = choose (is_a k (at s i)) (past_of k s n (suc i)) i

unfoldable pub past : Class → List ℕ → ℕ → ℕ
past k s i = past_of k s (length s - i) i

-- a newline ends one line, any other character none
unfoldable pub ends : ℕ → ℕ
ends c = choose (eqb c 10) 1 0

-- the line that index i stands in, counted from 1
unfoldable pub line_at : List ℕ → ℕ → ℕ
line_at s zero = 1
line_at s (suc i) = line_at s i + ends (at s i)
