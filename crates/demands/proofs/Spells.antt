-- Hexadecimal text: "which bytes a text spells; anything else gets a message with its line". `spelled` is what a text spells (crates/hex/specs/Text.antt). Assumes nothing.
use borrow.Author.Tests.{lt-ltb, le-ltb, eq-eqb, ne_eqb}
use mathlib.Core.Path.{◌≡◌, refl, sym, ap, ◌∙◌}
use mathlib.Core.List.{List, [], ◌∷◌, ◌++◌}
use Prim.Native.Nat.{ℕ, zero, suc, ◌≤◌, ◌<◌}
use native.Mathlib.Omega.{arith}
use lib.Dec.{ltb}
use lib.ListN.{length, drop}
use Rattle.base.specs.Lists.{Bytes}
use Rattle.hex_text.specs.Chars.{choose, at, value, blank, parts, is_a, past_of, past, ends, line_at}
use Rattle.hex_text.specs.Front.{is_offset, is_six, is_end, is_said, is_words, width, opened_at, opened}
use Rattle.hex_text.specs.Steps.{digit, prefix, space, bar, between, newline, other, char, step}
use Rattle.hex_text.specs.Text.{Spelling, some, ended, taken, spelling, Outcome, outcome, spelled, given}
use Rattle.hex_text.specs.Printed.{figure, Lined, packed_in, packed, comma_in, commas, file_in_c, lines_of, dotted, grouped, dump_line, dumped, spaced, canon_line, canonical, single, od_line, od_printed}
use Rattle.hex_text.proofs.Cases.{choose_yes, choose_no}
use Rattle.hex_text.proofs.Packed.{packed_spelled}
use Rattle.hex_text.proofs.Commas.{commas_spelled, file_spelled}
use Rattle.hex_text.proofs.Dumped.{dumped_spelled}
use Rattle.hex_text.proofs.Canonical.{canonical_spelled}
use Rattle.hex_text.proofs.Od.{od_spelled}
use Rattle.meanings.specs.Codes.{codes}

-- the outcome o of a text that spells bs, with the buffer d: no line is wrong, the count is that of the bytes, and they stand at the front where there is room
pub record Back (bs d : List ℕ) (o : Outcome) : Type 0 where
  pub line : o.told.line ≡ 0
  pub count : o.told.count ≡ length bs
  pub made : length bs ≤ length d → o.buffer ≡ bs ++ drop (length bs) d

-- the outcome o of the text s and the buffer d: the first line that is none, and then the count 0 and nothing changed; else the count of the bytes, which stand at the
-- front where there is room, and nothing changed where there is none. What `xxd -p`, `xxd -i`, `xxd`, `hexdump -v -C` and `od -v -A x -t x1`
-- print of any bytes (crates/hex/specs/Printed.antt) is spelt back; of `od` and of `xxd -i` with a file, where there are bytes
pub record Spells (s d : List ℕ) (o : Outcome) : Type 0 where
  pub line : o.told.line ≡ (spelled s).line
  pub none : ((spelled s).line ≡ 0 → ⊥) → (o.told.count ≡ 0) × (o.buffer ≡ d)
  pub count : (spelled s).line ≡ 0 → o.told.count ≡ length (spelled s).bytes
  pub short : (spelled s).line ≡ 0 → length d < length (spelled s).bytes → o.buffer ≡ d
  pub made : (spelled s).line ≡ 0 → length (spelled s).bytes ≤ length d → o.buffer ≡ (spelled s).bytes ++ drop (length (spelled s).bytes) d
  pub packed_back : (bs : List ℕ) → Bytes bs → s ≡ packed bs → Back bs d o
  pub commas_back : (bs : List ℕ) → Bytes bs → s ≡ commas bs → Back bs d o
  pub file_back : (name count : List ℕ) → Lined name → Lined count → (b : ℕ) (bs : List ℕ) → Bytes (b ∷ bs) → s ≡ file_in_c name count b bs → Back (b ∷ bs) d o
  pub dumped_back : (bs : List ℕ) → Bytes bs → s ≡ dumped bs → Back bs d o
  pub canonical_back : (bs : List ℕ) → Bytes bs → s ≡ canonical bs → Back bs d o
  pub od_back : (b : ℕ) (bs : List ℕ) → Bytes (b ∷ bs) → s ≡ od_printed (b ∷ bs) → Back (b ∷ bs) d o

-- a text that spells bs
spelt_back : (s d bs : List ℕ) → spelled s ≡ record { bytes = bs; line = 0 } → Back bs d (given (spelled s) d)
unfolding given
spelt_back s d bs e =
    let t = ap (λ (x : Spelling). given x d) e ∙ choose_yes _ _ _ (eq-eqb 0 0 refl) in
    record {
      line = ap (λ (o : Outcome). o.told.line) t;
      count = ap (λ (o : Outcome). o.told.count) t;
      made = λ h. ap (λ (o : Outcome). o.buffer) t ∙ choose_no _ _ _ (le-ltb (length d) (length bs) h);
    }

pub spells : (s d : List ℕ) → Spells s d (given (spelled s) d)
unfolding given
spells s d = record {
  line = told_line (spelled s).line refl;
  none = λ h. (ap (λ (o : Outcome). o.told.count) (wrong h), ap (λ (o : Outcome). o.buffer) (wrong h));
  count = λ z. ap (λ (o : Outcome). o.told.count) (right z);
  short = λ z h. ap (λ (o : Outcome). o.buffer) (right z) ∙ choose_yes _ _ _ (lt-ltb (length d) (length (spelled s).bytes) h);
  made = λ z h. ap (λ (o : Outcome). o.buffer) (right z) ∙ choose_no _ _ _ (le-ltb (length d) (length (spelled s).bytes) h);
  packed_back = λ bs y x. spelt_back s d bs (ap spelled x ∙ packed_spelled bs y);
  commas_back = λ bs y x. spelt_back s d bs (ap spelled x ∙ commas_spelled bs y);
  file_back = λ name count u v b bs y x. spelt_back s d (b ∷ bs) (ap spelled x ∙ file_spelled name count u v b bs y);
  dumped_back = λ bs y x. spelt_back s d bs (ap spelled x ∙ dumped_spelled bs y);
  canonical_back = λ bs y x. spelt_back s d bs (ap spelled x ∙ canonical_spelled bs y);
  od_back = λ b bs y x. spelt_back s d (b ∷ bs) (ap spelled x ∙ od_spelled b bs y);
}
  where
    right : (spelled s).line ≡ 0 → given (spelled s) d ≡ outcome (record { line = 0; count = length (spelled s).bytes }) (choose (ltb (length d) (length (spelled s).bytes)) d ((spelled s).bytes ++ drop (length (spelled s).bytes) d))
    right e = choose_yes _ _ _ (eq-eqb (spelled s).line 0 e)

    wrong : ((spelled s).line ≡ 0 → ⊥) → given (spelled s) d ≡ outcome (record { line = (spelled s).line; count = 0 }) d
    wrong h = choose_no _ _ _ (ne_eqb (spelled s).line 0 h)

    told_line : (n : ℕ) → (spelled s).line ≡ n → (given (spelled s) d).told.line ≡ (spelled s).line
    told_line zero e = ap (λ (o : Outcome). o.told.line) (right e) ∙ sym e
    told_line (suc n) e = ap (λ (o : Outcome). o.told.line) (wrong (λ z. omega arith))

-- Texts, character by character: "46 0a" and "FF" on two lines are three bytes, the first digit of each the higher one; in "46" and "4z" on two lines the second
-- spells none, in "465" half a byte is left. In "000000 46 0a" and "000002", as `od` prints them, the offsets are no bytes, and in "000001 46" the first word is.
pub spelledE :
    ((spelled (52 ∷ 54 ∷ 32 ∷ 48 ∷ 97 ∷ 10 ∷ 70 ∷ 70 ∷ [])).bytes ≡ 0x46 ∷ 0x0A ∷ 0xFF ∷ [])
    × ((spelled (52 ∷ 54 ∷ 32 ∷ 48 ∷ 97 ∷ 10 ∷ 70 ∷ 70 ∷ [])).line ≡ 0)
    × ((spelled (52 ∷ 54 ∷ 10 ∷ 52 ∷ 122 ∷ [])).line ≡ 2)
    × ((spelled (52 ∷ 54 ∷ 53 ∷ [])).line ≡ 1)
    × ((spelled (48 ∷ 48 ∷ 48 ∷ 48 ∷ 48 ∷ 48 ∷ 32 ∷ 52 ∷ 54 ∷ 32 ∷ 48 ∷ 97 ∷ 10 ∷ 48 ∷ 48 ∷ 48 ∷ 48 ∷ 48 ∷ 50 ∷ [])).bytes ≡ 0x46 ∷ 0x0A ∷ [])
    × ((spelled (48 ∷ 48 ∷ 48 ∷ 48 ∷ 48 ∷ 49 ∷ 32 ∷ 52 ∷ 54 ∷ [])).bytes ≡ 0 ∷ 0 ∷ 1 ∷ 0x46 ∷ [])
unfolding some ended taken spelling spelled digit prefix space bar between newline other char step is_offset is_six is_end is_said is_words width opened_at opened choose at value blank parts is_a past_of past ends line_at
spelledE = (refl, refl, refl, refl, refl, refl)

-- What the tools print of 21 bytes, and `xxd -p` of 31, copied from a terminal; of no bytes `od` and `xxd -i` of a file alone print something: the one spells three bytes as a text, of the other
-- line 2 spells none
abbrev sample : List ℕ
sample = 0x46 ∷ 10 ∷ 0xFF ∷ 0 ∷ codes "GET CONFIGURATION"

-- two lines, and what stands behind them
abbrev two : (a b : List ℕ) → List ℕ → List ℕ
two a b r = a ++ (10 ∷ (b ++ (10 ∷ r)))

pub printedE :
    (packed sample ≡ codes "460aff0047455420434f4e46494755524154494f4e" ++ (10 ∷ []))
    × (packed (codes "It is 30 bytes that a line has.") ≡ two (codes "497420697320333020627974657320746861742061206c696e6520686173") (codes "2e") [])
    × (commas sample ≡ two (codes "  0x46, 0x0a, 0xff, 0x00, 0x47, 0x45, 0x54, 0x20, 0x43, 0x4f, 0x4e, 0x46,") (codes "  0x49, 0x47, 0x55, 0x52, 0x41, 0x54, 0x49, 0x4f, 0x4e") [])
    × (file_in_c (codes "char a_bin[] = {") (codes "int a_bin_len = 2;") 0x46 (10 ∷ [])
    ≡ two (codes "unsigned char a_bin[] = {") (codes "  0x46, 0x0a") (two (codes "};") (codes "unsigned int a_bin_len = 2;") []))
    × (dumped sample ≡ two (codes "00000000: 460a ff00 4745 5420 434f 4e46 4947 5552  F...GET CONFIGUR") (codes "00000010: 4154 494f 4e                             ATION") [])
    × (canonical sample
    ≡ two (codes "00000000  46 0a ff 00 47 45 54 20  43 4f 4e 46 49 47 55 52  |F...GET CONFIGUR|") (codes "00000010  41 54 49 4f 4e                                    |ATION|") (codes "00000015" ++ (10 ∷ [])))
    × (od_printed sample ≡ two (codes "000000 46 0a ff 00 47 45 54 20 43 4f 4e 46 49 47 55 52") (codes "000010 41 54 49 4f 4e") (codes "000015" ++ (10 ∷ [])))
    × (packed [] ++ commas [] ++ dumped [] ++ canonical [] ≡ [])
    × (od_printed [] ≡ codes "000000" ++ (10 ∷ []))
    × ((spelled (od_printed [])).bytes ≡ 0 ∷ 0 ∷ 0 ∷ [])
    × ((spelled (two (codes "unsigned char e[] = {") (codes "};") (codes "unsigned int e_len = 0;"))).line ≡ 2)
unfolding figure packed_in packed comma_in commas file_in_c lines_of dotted grouped dump_line dumped spaced canon_line canonical single od_line od_printed some ended taken spelling spelled digit prefix space bar between newline other char step is_offset is_six is_end is_said is_words width opened_at opened choose at value blank parts is_a past_of past ends line_at
printedE = (refl, refl, refl, refl, refl, refl, refl, refl, refl, refl, refl)
