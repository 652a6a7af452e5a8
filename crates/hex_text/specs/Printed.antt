-- What `xxd -p`, `xxd -i`, `xxd`, `hexdump -v -C` and `od -v -A x -t x1` print of a byte string, below 4 GB and with `od` below 16 MB, where offsets get longer (xxd 2022-01-14,
-- util-linux 2.38, coreutils 9.1). Assumes nothing: these are definitions.
use Rattle.std.specs.Prelude.{◌≡◌, Bool, true, false, List, [], ◌∷◌, ◌++◌, map, ℕ, zero, suc, ◌+◌, ◌-◌, ◌/◌, ◌%◌, ltb, length, take, drop, replicate}
use Rattle.base.specs.Lists.{All}
use Rattle.hex_text.specs.declared.Class.TheVariants.{Inner}
use Rattle.hex_text.specs.Chars.{choose, is_a}

-- a digit below 16: `0` to `9`, then `a` to `f`
unfoldable pub figure : ℕ → ℕ
figure v = choose (ltb v 10) (48 + v) (87 + v)

-- a byte: two digits, the higher one first
abbrev pub pair : ℕ → List ℕ
pair b = figure (b / 16) ∷ figure (b % 16) ∷ []

-- no newline is in it
abbrev pub Lined : List ℕ → Type 0
Lined w = All (λ (c : ℕ). is_a Inner c ≡ true) w

-- ---- `xxd -p`

-- lines of 30 bytes, the first of so many, each with a newline behind it
unfoldable pub packed_in : (room : ℕ) → List ℕ → List ℕ
packed_in room [] = 10 ∷ []
packed_in zero (b ∷ bs) = 10 ∷ (pair b ++ packed_in 29 bs)
packed_in (suc room) (b ∷ bs) = pair b ++ packed_in room bs

-- of no bytes nothing is printed
unfoldable pub packed : List ℕ → List ℕ
packed [] = []
packed (b ∷ bs) = packed_in 30 (b ∷ bs)

-- ---- `xxd -i`: `  0x46, 0x0a, 0xff`

-- a byte as C has it
abbrev pub in_c : ℕ → List ℕ
in_c b = 48 ∷ 120 ∷ pair b

-- behind a byte: lines of twelve, the first has room for so many more, and an end behind them
unfoldable pub comma_in : (end : List ℕ) (room : ℕ) → List ℕ → List ℕ
comma_in end room [] = 10 ∷ end
comma_in end zero (b ∷ bs) = 44 ∷ 10 ∷ 32 ∷ 32 ∷ (in_c b ++ comma_in end 11 bs)
comma_in end (suc room) (b ∷ bs) = 44 ∷ 32 ∷ (in_c b ++ comma_in end room bs)

-- of standard input
unfoldable pub commas : List ℕ → List ℕ
commas [] = []
commas (b ∷ bs) = 32 ∷ 32 ∷ (in_c b ++ comma_in [] 11 bs)

-- of a file with bytes: `unsigned` and what stands behind it, the bytes, `};`, and `unsigned` again
abbrev pub unsigned : List ℕ
unsigned = 117 ∷ 110 ∷ 115 ∷ 105 ∷ 103 ∷ 110 ∷ 101 ∷ 100 ∷ 32 ∷ []

unfoldable pub file_in_c : (name count : List ℕ) (b : ℕ) → List ℕ → List ℕ
file_in_c name count b bs =
    unsigned ++ (name ++ (10 ∷ 32 ∷ 32 ∷ (in_c b ++ comma_in (125 ∷ 59 ∷ 10 ∷ (unsigned ++ (count ++ (10 ∷ [])))) 11 bs)))

-- ---- lines of 16 bytes with an offset

-- the digits of an offset, six or eight
abbrev pub digits6 : ℕ → List ℕ
digits6 n = pair (n / 65536 % 256) ++ (pair (n / 256 % 256) ++ pair (n % 256))

abbrev pub digits8 : ℕ → List ℕ
digits8 n = pair (n / 16777216 % 256) ++ digits6 n

-- the lines from offset n on, k at most, of a byte and 15 more each, and an end behind them
unfoldable pub lines_of : (line : (n b : ℕ) → List ℕ → List ℕ) (end : List ℕ) (k n : ℕ) → List ℕ → List ℕ
lines_of line end zero n bs = end
lines_of line end (suc k) n [] = end
lines_of line end (suc k) n (b ∷ bs) = line n b (take 15 bs) ++ (10 ∷ lines_of line end k (n + 16) (drop 15 bs))

-- a byte as a character: a dot for what is not printed
unfoldable pub dotted : ℕ → ℕ
dotted b = choose (ltb b 32) 46 (choose (ltb b 127) b 46)

-- ---- `xxd`: `00000010: 4154 494f 4e                             ATION`

-- the bytes behind a line's first: a blank before each second one
unfoldable pub grouped : (gap : Bool) → List ℕ → List ℕ
grouped gap [] = []
grouped false (b ∷ bs) = pair b ++ grouped true bs
grouped true (b ∷ bs) = 32 ∷ (pair b ++ grouped false bs)

-- the offset, a colon, a blank, the bytes, two blanks and those that fill 39 columns, the characters
unfoldable pub dump_line : (n b : ℕ) → List ℕ → List ℕ
dump_line n b bs =
    digits8 n ++ (58 ∷ 32 ∷ (pair b ++ (grouped false bs ++ (32 ∷ 32 ∷ (replicate (37 - length (grouped false bs)) 32 ++ map dotted (b ∷ bs))))))

unfoldable pub dumped : List ℕ → List ℕ
dumped bs = lines_of dump_line [] (length bs) 0 bs

-- ---- `hexdump -v -C`: `00000010  41 54 49 4f 4e                                    |ATION|`

-- the bytes behind a line's first: a blank before each, two before the ninth of a line; room is what is left of eight
unfoldable pub spaced : (room : ℕ) → List ℕ → List ℕ
spaced room [] = []
spaced zero (b ∷ bs) = 32 ∷ 32 ∷ (pair b ++ spaced 7 bs)
spaced (suc room) (b ∷ bs) = 32 ∷ (pair b ++ spaced room bs)

-- the offset, two blanks, the bytes, two blanks and those that fill 48 columns, the characters between bars
unfoldable pub canon_line : (n b : ℕ) → List ℕ → List ℕ
canon_line n b bs =
    digits8 n ++ (32 ∷ 32 ∷ (pair b ++ (spaced 7 bs ++ (32 ∷ 32 ∷ (replicate (46 - length (spaced 7 bs)) 32 ++ (124 ∷ (map dotted (b ∷ bs) ++ (124 ∷ []))))))))

-- behind the lines the offset of the end; of no bytes nothing is printed
unfoldable pub canonical : List ℕ → List ℕ
canonical [] = []
canonical (b ∷ bs) = lines_of canon_line (digits8 (length (b ∷ bs)) ++ (10 ∷ [])) (length (b ∷ bs)) 0 (b ∷ bs)

-- ---- `od -v -A x -t x1`: `000010 41 54 49 4f 4e`

-- the bytes behind a line's first: a blank before each
unfoldable pub single : List ℕ → List ℕ
single [] = []
single (b ∷ bs) = 32 ∷ (pair b ++ single bs)

unfoldable pub od_line : (n b : ℕ) → List ℕ → List ℕ
od_line n b bs = digits6 n ++ (32 ∷ (pair b ++ single bs))

-- behind the lines the offset of the end, of no bytes too
unfoldable pub od_printed : List ℕ → List ℕ
od_printed bs = lines_of od_line (digits6 (length bs) ++ (10 ∷ [])) (length bs) 0 bs
