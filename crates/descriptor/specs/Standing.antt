-- What stands at a place of received bytes. Assumes nothing: these are definitions.
use Rattle.std.specs.Prelude.{true, false, List, ℕ, ◌+◌, leb, length}
use Rattle.text.specs.Reading.{number_at, flags_at, length_at}
use Rattle.descriptor.specs.declared.Standing.{Standing}

unfoldable pub nothing_stands : Standing
nothing_stands = record { whole = false; number = record { 0 = 0 }; flags = record { 0 = 0 }; body = 0; len = 0; next = 0 }

-- a whole descriptor: number, flags, the place of its body, Additional Length, the place behind it
unfoldable pub whole_at : (s : List ℕ) (at : ℕ) → Standing
whole_at s at = record {
  whole = true;
  number = record { 0 = number_at s at };
  flags = record { 0 = flags_at s at };
  body = at + 4;
  len = length_at s at;
  next = at + 4 + length_at s at;
}

-- it stands there where its four header bytes were received, and as many behind them as Additional Length says
unfoldable pub stands_at : (s : List ℕ) (at : ℕ) → Standing
stands_at s at =
    elim (leb (at + 4) (length s)) [
      | true ↦ elim (leb (at + 4 + length_at s at) (length s)) [ true ↦ whole_at s at | false ↦ nothing_stands ]
      | false ↦ nothing_stands
    ]
