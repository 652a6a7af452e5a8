-- A walk over a sheet's entries beside a list of numbers, both ascending: how many of the list are met. Assumes nothing: these are definitions.
use Rattle.std.specs.Prelude.{Bool, List, ℕ, zero, suc, ◌+◌, ◌<◌, eqb, get_or}
use Rattle.text.specs.Drive.{bit}
use Rattle.layout.specs.Layout.{Sheet, number, flags}
use Rattle.load.specs.Load.{flags_with}

-- the number n is the one of the list that comes next where j are met; behind the list's end that is 0, which no entry has
abbrev pub meets : (fs : List ℕ) (j n : ℕ) → Bool
meets fs j n = eqb n (get_or fs j 0)

-- how many the first i entries meet
unfoldable pub met : (s : Sheet) (fs : List ℕ) (i : ℕ) → ℕ
met s fs zero = 0
met s fs (suc i) = met s fs i + bit (meets fs (met s fs i) (number s i))

-- no entry has the number 0
abbrev pub Above : Sheet → (n : ℕ) → Type 0
Above s n = (i : ℕ) → i < n → 0 < number s i

-- the flags of entry i, as the walk finds them
unfoldable pub flags_met : (s : Sheet) (fs : List ℕ) (i : ℕ) → ℕ
flags_met s fs i = flags_with (meets fs (met s fs i) (number s i)) (flags s i)
