-- What the front of a line says of it. Assumes nothing: these are definitions.
use Rattle.std.specs.Prelude.{Bool, true, false, List, ℕ, ◌+◌, eqb, ltb, leb}
use Rattle.hex_text.specs.declared.Class.TheVariants.{Blank, Digit, Zero, Solid, Inner}
use Rattle.hex_text.specs.declared.State.{State}
use Rattle.hex_text.specs.Chars.{choose, at, value, blank, parts, past}

-- Of a line that starts at index i: its first word of digits stands from a to b, and blanks behind it to e.

-- an offset: a word of digits, two blanks or more, a digit. `00000010: 0010 ..`, `00000010  00 10 ..`, ` 10     00 10 ..`
unfoldable pub is_offset : List ℕ → (a b e : ℕ) → Bool
is_offset s a b e = choose (leb b a) false (choose (leb e b) false (choose (leb e (b + 1)) false (ltb (value (at s e)) 16)))

-- an offset as `od -A x -t x1` prints it: six digits, one blank, a word of two digits. `000010 00 10 ..`. Where no offset came before, its digits are 0, else such words are bytes
unfoldable pub is_six : (dump : Bool) → List ℕ → (a b e : ℕ) → Bool
is_six dump s a b e =
    choose (eqb b (a + 6)) (choose (eqb e (b + 1)) (choose (eqb (past Digit s e) (e + 2)) (choose dump true (leb b (past Zero s a))) false) false) false

-- the offset of the end, alone in its line, as `hexdump` prints it. Where no offset came before, such a word is bytes
unfoldable pub is_end : (dump : Bool) → List ℕ → (a b e : ℕ) → Bool
is_end dump s a b e = choose dump (choose (leb b a) false (eqb (at s e) 10)) false

-- words are skipped: in front of the first byte two or more, as "Received 44 bytes of data:"; behind it what C has there, `}` and `unsigned`
unfoldable pub is_said : (started : Bool) → List ℕ → (a : ℕ) → Bool
is_said started s a = choose started (choose (eqb (at s a) 125) true (eqb (at s a) 117)) (blank (at s (past Solid s a)))

-- they start with no decimal digit, and not with hexadecimal digits alone
unfoldable pub is_words : (started : Bool) → List ℕ → (a b : ℕ) → Bool
is_words started s a b = choose (parts (at s b)) false (choose (ltb (value (at s a)) 10) false (is_said started s a))

-- where the bytes of a line start, and how many blanks behind a byte end them: behind an offset with a colon two, behind another three, else no number of them
abbrev pub fresh : (from wide : ℕ) (dump started : Bool) → State
fresh from wide dump started = record { from = from; wide = wide; left = 0; half = 16; dump = dump; started = started }

-- two behind a colon
unfoldable pub width : ℕ → ℕ
width c = choose (eqb c 58) 2 3

unfoldable pub opened_at : (dump started : Bool) → List ℕ → (i a b e : ℕ) → State
opened_at dump started s i a b e =
    choose (is_offset s a b e) (fresh e (width (at s b)) true started)
    (choose (is_six dump s a b e) (fresh e 3 true started)
    (choose (is_end dump s a b e) (fresh (past Inner s i) 0 dump started)
    (choose (is_words started s a b) (fresh (past Inner s i) 0 dump started)
    (fresh i 0 dump started))))

unfoldable pub opened : (dump started : Bool) → List ℕ → ℕ → State
opened dump started s i =
    opened_at dump started s i (past Blank s i) (past Digit s (past Blank s i)) (past Blank s (past Digit s (past Blank s i)))
