-- What one character does. Assumes nothing: these are definitions.
use Rattle.std.specs.Prelude.{true, false, List, ℕ, ◌+◌, ◌-◌, ◌*◌, eqb, ltb}
use Rattle.hex_text.specs.declared.Class.TheVariants.{Inner}
use Rattle.hex_text.specs.declared.State.{State}
use Rattle.hex_text.specs.declared.Effect.{Effect}
use Rattle.hex_text.specs.Chars.{choose, at, value, blank, past}
use Rattle.hex_text.specs.Front.{opened}

-- no byte is spelt
abbrev pub on : State → Effect
on q = record { fault = false; spells = false; byte = 0; state = q }

-- the line is none
abbrev pub broken : State → Effect
broken q = record { fault = true; spells = false; byte = 0; state = q }

-- what is left of the line is skipped
abbrev pub skipping : State → (to : ℕ) → State
skipping q to = record { from = to; wide = q.wide; left = q.left; half = q.half; dump = q.dump; started = q.started }

-- so many blanks may come before the line's bytes end; 0: any number
abbrev pub leaving : State → (blanks : ℕ) → State
leaving q k = record { from = q.from; wide = q.wide; left = k; half = q.half; dump = q.dump; started = q.started }

-- a byte's first digit is v; 16: none
abbrev pub halved : State → (v : ℕ) → State
halved q v = record { from = q.from; wide = q.wide; left = q.left; half = v; dump = q.dump; started = q.started }

-- behind a byte
abbrev pub behind : State → State
behind q = record { from = q.from; wide = q.wide; left = q.wide; half = 16; dump = q.dump; started = true }

-- a digit v: a byte's second, or its first
unfoldable pub digit : State → (v : ℕ) → Effect
digit q v =
    choose (ltb q.half 16) (record { fault = false; spells = true; byte = q.half * 16 + v; state = behind q }) (on (halved q v))

-- behind a byte's first digit: `0x` spells nothing
unfoldable pub prefix : State → (c : ℕ) → Effect
prefix q c = choose (eqb q.half 0) (choose (eqb c 120) (on (halved q 16)) (choose (eqb c 88) (on (halved q 16)) (broken q))) (broken q)

-- a blank: the last that is left ends the line's bytes
unfoldable pub space : State → List ℕ → ℕ → Effect
space q s i = choose (eqb q.left 0) (on q) (choose (eqb q.left 1) (on (skipping q (past Inner s i))) (on (leaving q (q.left - 1))))

-- the bar before the characters that `hexdump` prints behind the bytes
unfoldable pub bar : State → List ℕ → ℕ → Effect
bar q s i = choose (eqb q.wide 3) (on (skipping q (past Inner s i))) (broken q)

-- between bytes: a blank, a comma, that bar
unfoldable pub between : State → (c : ℕ) → List ℕ → ℕ → Effect
between q c s i =
    choose (blank c) (space q s i) (choose (eqb c 44) (on q) (choose (eqb c 124) (bar q s i) (broken q)))

-- a newline: half a byte is none, else the next line starts
unfoldable pub newline : State → List ℕ → ℕ → Effect
newline q s i = choose (ltb q.half 16) (broken q) (on (opened q.dump q.started s i))

-- a character that is no digit
unfoldable pub other : State → (c : ℕ) → List ℕ → ℕ → Effect
other q c s i = choose (ltb q.half 16) (prefix q c) (between q c s i)

-- a character c
unfoldable pub char : State → (c : ℕ) → List ℕ → ℕ → Effect
char q c s i = choose (eqb c 10) (newline q s (i + 1)) (choose (ltb (value c) 16) (digit q (value c)) (other q c s i))

-- the character at index i; what stands before the line's bytes is skipped
unfoldable pub step : State → List ℕ → ℕ → Effect
step q s i = choose (ltb i q.from) (on q) (char q (at s i) s i)
