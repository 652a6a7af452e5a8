-- The search for an entry of a sheet by its number. Assumes nothing: these are definitions.
use Rattle.std.specs.Prelude.{true, false, ◌&&◌, ℕ, zero, suc, ◌+◌, ◌-◌, ◌/◌, ltb}
use Rattle.layout.specs.Layout.{Sheet, number}
use Rattle.sheet.specs.declared.Range.{Range}

-- the middle of a range of entries, and the half where the first one with a number of sfn or more is, if the numbers ascend
abbrev pub middle : (low high : ℕ) → ℕ
middle low high = low + (high - low) / 2

unfoldable pub half : (s : Sheet) (sfn low high : ℕ) → Range
half s sfn low high = elim (ltb (number s (middle low high)) sfn) [ true ↦ record { low = middle low high + 1; high = high } | false ↦ record { low = low; high = middle low high } ]

-- where a range ends up that is halved until it is empty, k times at most
unfoldable pub closing : (k : ℕ) (s : Sheet) (sfn low high : ℕ) → ℕ
closing zero s sfn low high = low
closing (suc k) s sfn low high = elim (ltb low high) [ true ↦ closing k s sfn (half s sfn low high).low (half s sfn low high).high | false ↦ low ]

-- by bisection, the first of n entries with a number of sfn or more, n if there is none
unfoldable pub first_from : (s : Sheet) (n sfn : ℕ) → ℕ
first_from s n sfn = closing n s sfn 0 n

-- on from entry i, the first of n entries with a number of sfn or more: k one by one, and by bisection behind them
unfoldable pub passing : (k : ℕ) (s : Sheet) (n sfn i : ℕ) → ℕ
passing zero s n sfn i = closing (n - i) s sfn i n
passing (suc k) s n sfn i = elim (ltb i n && ltb (number s i) sfn) [ true ↦ passing k s n sfn (i + 1) | false ↦ i ]

-- so with eight
unfoldable pub next_from : (s : Sheet) (n sfn from : ℕ) → ℕ
next_from s n sfn from = passing 8 s n sfn from
