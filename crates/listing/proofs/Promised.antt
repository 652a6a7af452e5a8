-- What a listing says, read back word by word: the text gives back profile, counts, and of each descriptor number, flags, Version and length, all of it in
-- plain numbers. It stands in this crate so that code, definition and laws that are changed together are refused by it. Assumes nothing.
use mathlib.Core.Path.{◌≡◌, refl, sym, ap, subst, ◌∙◌}
use mathlib.Core.Logic.{⊎_elim}
use mathlib.Core.Bool.{Bool, true, false}
use mathlib.Core.List.{List, [], ◌∷◌, ◌++◌, map, append_assoc, append-nil}
use Prim.Native.Nat.{ℕ, zero, suc, ◌+◌, ◌-◌, ◌*◌, ◌/◌, ◌%◌, ◌≤◌, ◌<◌}
use native.Mathlib.Nat.{mod-lt}
use native.Mathlib.Omega.{arith}
use lib.Dec.{ltb, eqb}
use lib.ListN.{length, get_or}
use borrow.Author.Tests.{lt-ltb, le-ltb, eq-eqb, ne_eqb}
use Rattle.base.specs.Lists.{flat, All, Bytes}
use Rattle.base.proofs.Compare.{le_or_lt}
use Rattle.fields.specs.Field.{field}
use Rattle.fields.proofs.Laws.{field_lt}
use Rattle.text.specs.Drive.{Desc, Good}
use Rattle.text.specs.Reading.{stated_length, stated_profile, stated_end, walked, read_fault}
use Rattle.text.proofs.Walk.{wholes_accepted}
use Rattle.text.proofs.Again.{walked_good}
use Rattle.reading.specs.Places.{descs}
use Rattle.listing.specs.Digits.{digit, hex4, decimal}
use Rattle.listing.specs.Listing.{words, mark, marks, first_line, line_of, desc_line, ending_line, refused_line, accepted, listing}
use Rattle.listing.proofs.Decimal.{digit_low, digit_high, spelt, spelt_decimal, decimal_induct}
use Rattle.listing.proofs.Outcome.{listing_fault, listing_none}

-- ---- how a text is read

-- what stands before the first character c, and what stands behind it
unfoldable pub before : (c : ℕ) → List ℕ → List ℕ
before c [] = []
before c (x ∷ xs) = elim (eqb x c) [ true ↦ [] | false ↦ x ∷ before c xs ]

unfoldable pub behind : (c : ℕ) → List ℕ → List ℕ
behind c [] = []
behind c (x ∷ xs) = elim (eqb x c) [ true ↦ xs | false ↦ behind c xs ]

-- the value of a hex digit, `0` to `9` or `A` to `F`, and the number that hex digits spell behind the number n
unfoldable pub value : ℕ → ℕ
value x = elim (ltb x 58) [ true ↦ x - 48 | false ↦ x - 55 ]

abbrev pub spelt_hex : ℕ → List ℕ → ℕ
spelt_hex n [] = n
spelt_hex n (x ∷ xs) = spelt_hex (n * 16 + value x) xs

-- a flag: 1 for its letter, 0 for `-`, and 2 for anything else
unfoldable pub flag_of : (letter : ℕ) → ℕ → ℕ
flag_of letter x = elim (eqb x letter) [ true ↦ 1 | false ↦ elim (eqb x 45) [ true ↦ 0 | false ↦ 2 ] ]

-- what a line says of a descriptor, and what there is to say
pub record Shown : Type 0 where
  pub digits : ℕ
  pub number : ℕ
  pub persistent : ℕ
  pub current : ℕ
  pub version : ℕ
  pub length : ℕ

-- words end with a space, the last of a line with a newline
unfoldable pub line_read : List ℕ → Shown
line_read t = record {
  digits = length (before 32 t);
  number = spelt_hex 0 (before 32 t);
  persistent = flag_of 80 (get_or (before 32 (behind 32 t)) 0 0);
  current = flag_of 67 (get_or (before 32 (behind 32 t)) 1 0);
  version = spelt 0 (before 32 (behind 32 (behind 32 t)));
  length = spelt 0 (before 10 (behind 32 (behind 32 (behind 32 t))));
}

-- flags are bits 7-6 reserved, 5-2 Version, 1 Persistent, 0 Current
abbrev pub shown_of : Desc → Shown
shown_of d = record { digits = 4; number = d.number; persistent = d.flags / 2 % 2; current = d.flags % 2; version = d.flags / 4 % 16; length = length d.body }

-- k lines, and what follows them
abbrev pub lines_read : (k : ℕ) → List ℕ → List Shown
lines_read zero t = []
lines_read (suc k) t = line_read t ∷ lines_read k (behind 10 t)

abbrev pub lines_behind : (k : ℕ) → List ℕ → List ℕ
lines_behind zero t = t
lines_behind (suc k) t = lines_behind k (behind 10 t)

-- ---- what is promised of the text t of the response s

-- an accepted response with the whole descriptors ds: the first line, a line for each of these, then `cut` or nothing
pub record Told (s : List ℕ) (ds : List Desc) (t : List ℕ) : Type 0 where
  pub four : length (before 32 t) ≡ 4
  pub profile : spelt_hex 0 (before 32 t) ≡ field 2 s 6
  pub received : spelt 0 (before 32 (behind 32 t)) ≡ length s
  pub count : spelt 0 (before 10 (behind 32 (behind 32 t))) ≡ length ds
  pub lines : lines_read (length ds) (behind 10 t) ≡ map shown_of ds
  pub complete : length s ≡ field 4 s 0 + 4 → lines_behind (length ds) (behind 10 t) ≡ []
  pub cut : (length s ≡ field 4 s 0 + 4 → ⊥) → lines_behind (length ds) (behind 10 t) ≡ 99 ∷ 117 ∷ 116 ∷ 10 ∷ []

-- a refused one: `refused`, the number, and no more
pub record Refused (n : ℕ) (t : List ℕ) : Type 0 where
  pub word : before 32 t ≡ 114 ∷ 101 ∷ 102 ∷ 117 ∷ 115 ∷ 101 ∷ 100 ∷ []
  pub number : spelt 0 (before 10 (behind 32 t)) ≡ n
  pub end : behind 10 t ≡ []

pub record Tells (s t : List ℕ) : Type 0 where
  pub refuses : ((read_fault 65534 0 0 s).number ≡ 0 → ⊥) → Refused (read_fault 65534 0 0 s).number t
  pub tells : Bytes s → (read_fault 65534 0 0 s).number ≡ 0 → Told s (descs s) t

-- ---- words, taken off a text

-- a word has neither a space nor a newline
Solid : List ℕ → Type 0
Solid w = All (λ (x : ℕ). 32 < x) w

module _ (c : ℕ) (low : c ≤ 32) (t : List ℕ) where
  before_word : (w : List ℕ) → Solid w → before c (w ++ (c ∷ t)) ≡ w
  unfolding before Solid
  before_word [] a = rw (eq-eqb c c refl, before)
  before_word (x ∷ w) a = rw (ne_eqb x c (λ e. absurd (omega (arith, a.0))), before) (ap (λ (v : List ℕ). x ∷ v) (before_word w a.1))

  behind_word : (w : List ℕ) → Solid w → behind c (w ++ (c ∷ t)) ≡ t
  unfolding behind Solid
  behind_word [] a = rw (eq-eqb c c refl, behind)
  behind_word (x ∷ w) a = rw (ne_eqb x c (λ e. absurd (omega (arith, a.0))), behind) (behind_word w a.1)

-- a line goes on behind a space
past_word : (w t : List ℕ) → Solid w → behind 10 (w ++ (32 ∷ t)) ≡ behind 10 t
unfolding behind Solid
past_word [] t a = refl
past_word (x ∷ w) t a = rw (ne_eqb x 10 (λ e. absurd (omega (arith, a.0))), behind) (past_word w t a.1)

words_more : (w v : List ℕ) (ws : List (List ℕ)) (t : List ℕ) → words (w ∷ v ∷ ws) ++ t ≡ w ++ (32 ∷ (words (v ∷ ws) ++ t))
unfolding words
words_more w v ws t = append_assoc (w ++ (32 ∷ [])) (words (v ∷ ws)) t ∙ append_assoc w (32 ∷ []) (words (v ∷ ws) ++ t)

words_last : (w t : List ℕ) → words (w ∷ []) ++ t ≡ w ++ (10 ∷ t)
unfolding words
words_last w t = append_assoc w (10 ∷ []) t

-- the first word of a line, the words behind it, and the text behind the line
module _ (w v : List ℕ) (ws : List (List ℕ)) (t : List ℕ) (a : Solid w) where
  word_first : before 32 (words (w ∷ v ∷ ws) ++ t) ≡ w
  word_first = ap (before 32) (words_more w v ws t) ∙ before_word 32 (omega arith) _ w a

  word_next : behind 32 (words (w ∷ v ∷ ws) ++ t) ≡ words (v ∷ ws) ++ t
  word_next = ap (behind 32) (words_more w v ws t) ∙ behind_word 32 (omega arith) _ w a

  word_line : behind 10 (words (w ∷ v ∷ ws) ++ t) ≡ behind 10 (words (v ∷ ws) ++ t)
  word_line = ap (behind 10) (words_more w v ws t) ∙ past_word w _ a

module _ (w t : List ℕ) (a : Solid w) where
  last_first : before 10 (words (w ∷ []) ++ t) ≡ w
  last_first = ap (before 10) (words_last w t) ∙ before_word 10 (omega arith) t w a

  last_line : behind 10 (words (w ∷ []) ++ t) ≡ t
  last_line = ap (behind 10) (words_last w t) ∙ behind_word 10 (omega arith) t w a

-- ---- the words of numbers and flags

digit_solid : (d : ℕ) → 32 < digit d
unfolding digit
digit_solid d = go (ltb d 10)
  where
    go : (b : Bool) → 32 < elim b [ true ↦ 48 + d | false ↦ 55 + d ]
    go true = omega arith
    go false = omega arith

value_low : (x : ℕ) → x < 58 → value x ≡ x - 48
unfolding value
value_low x h = rw (lt-ltb x 58 h, value)

value_high : (x : ℕ) → 58 ≤ x → value x ≡ x - 55
unfolding value
value_high x h = rw (le-ltb x 58 h, value)

digit_value : (d : ℕ) → d < 16 → value (digit d) ≡ d
digit_value d h = ⊎_elim
    (λ (l : 10 ≤ d). ap value (digit_high d l) ∙ value_high (55 + d) (omega arith) ∙ omega arith)
    (λ (l : d < 10). ap value (digit_low d l) ∙ value_low (48 + d) (omega arith) ∙ omega arith)
    (le_or_lt 10 d)

hex_solid : (n : ℕ) → Solid (hex4 n)
unfolding hex4 Solid
hex_solid n = (digit_solid _, (digit_solid _, (digit_solid _, (digit_solid _, tt))))

hex_spelt : (n : ℕ) → n < 65536 → spelt_hex 0 (hex4 n) ≡ n
unfolding hex4
hex_spelt n h =
    let a : n / 4096 % 16 * 16 + n / 256 % 16 ≡ n / 256 = omega arith in
    let b : n / 256 * 16 + n / 16 % 16 ≡ n / 16 = omega arith in
    let c : n / 16 * 16 + n % 16 ≡ n = omega arith in
    rw (digit_value (n / 4096 % 16) (mod-lt _ (omega arith)), digit_value (n / 256 % 16) (mod-lt _ (omega arith)), digit_value (n / 16 % 16) (mod-lt _ (omega arith)), digit_value (n % 16) (mod-lt _ (omega arith)))
    (omega (arith, a, b, c))

solid_append : (v w : List ℕ) → Solid v → Solid w → Solid (v ++ w)
unfolding Solid
solid_append [] w a b = b
solid_append (x ∷ v) w a b = (a.0, solid_append v w a.1 b)

decimal_solid : (n : ℕ) → Solid (decimal n)
unfolding Solid
decimal_solid n = decimal_induct (λ m cs. Solid cs)
    (λ m h. (digit_solid m, tt))
    (λ m h a. solid_append (decimal (m / 10)) (digit (m % 10) ∷ []) a (digit_solid (m % 10), tt))
    n n (omega arith)

mark_solid : (letter : ℕ) (b : Bool) → 32 < letter → 32 < mark letter b
unfolding mark
mark_solid letter true h = h
mark_solid letter false h = omega arith

marks_solid : (f : ℕ) → Solid (marks f)
unfolding marks Solid
marks_solid f = (mark_solid 80 _ (omega arith), (mark_solid 67 _ (omega arith), tt))

mark_read : (letter v : ℕ) → 45 < letter → v < 2 → flag_of letter (mark letter (eqb v 1)) ≡ v
unfolding flag_of mark
mark_read letter zero h l = rw (ne_eqb 45 letter (λ e. absurd (omega arith)), flag_of)
mark_read letter (suc zero) h l = rw (eq-eqb letter letter refl, flag_of)
mark_read letter (suc (suc v)) h l = absurd (omega arith)

-- ---- a line

-- the words of a line, and what stands behind it
module _ (a b c e t : List ℕ) (p : Solid a) (q : Solid b) (r : Solid c) (s : Solid e) where
  abbrev text : List ℕ
  text = words (a ∷ b ∷ c ∷ e ∷ []) ++ t

  behind_one : behind 32 text ≡ words (b ∷ c ∷ e ∷ []) ++ t
  behind_one = word_next a b (c ∷ e ∷ []) t p

  behind_two : behind 32 (behind 32 text) ≡ words (c ∷ e ∷ []) ++ t
  behind_two = ap (behind 32) behind_one ∙ word_next b c (e ∷ []) t q

  word_one : before 32 text ≡ a
  word_one = word_first a b (c ∷ e ∷ []) t p

  word_two : before 32 (behind 32 text) ≡ b
  word_two = ap (before 32) behind_one ∙ word_first b c (e ∷ []) t q

  word_three : before 32 (behind 32 (behind 32 text)) ≡ c
  word_three = ap (before 32) behind_two ∙ word_first c e [] t r

  word_four : before 10 (behind 32 (behind 32 (behind 32 text))) ≡ e
  word_four = ap (λ (x : List ℕ). before 10 (behind 32 x)) behind_two ∙ ap (before 10) (word_next c e [] t r) ∙ last_first e t s

  line_end : behind 10 text ≡ t
  line_end = word_line a b (c ∷ e ∷ []) t p ∙ word_line b c (e ∷ []) t q ∙ word_line c e [] t r ∙ last_line e t s

module _ (d : Desc) (low : d.number < 65536) (t : List ℕ) where
  digits_read : length (before 32 (desc_line d ++ t)) ≡ 4
  unfolding desc_line line_of hex4
  digits_read = ap length (word_one _ _ _ _ t (hex_solid _) (marks_solid _) (decimal_solid _) (decimal_solid _))

  number_read : spelt_hex 0 (before 32 (desc_line d ++ t)) ≡ d.number
  unfolding desc_line line_of
  number_read = ap (spelt_hex 0) (word_one _ _ _ _ t (hex_solid _) (marks_solid _) (decimal_solid _) (decimal_solid _)) ∙ hex_spelt d.number low

  flags_read : before 32 (behind 32 (desc_line d ++ t)) ≡ marks d.flags
  unfolding desc_line line_of
  flags_read = word_two _ _ _ _ t (hex_solid _) (marks_solid _) (decimal_solid _) (decimal_solid _)

  persistent_read : flag_of 80 (get_or (before 32 (behind 32 (desc_line d ++ t))) 0 0) ≡ d.flags / 2 % 2
  unfolding marks
  persistent_read = ap (λ (w : List ℕ). flag_of 80 (get_or w 0 0)) flags_read ∙ mark_read 80 (d.flags / 2 % 2) (omega arith) (mod-lt _ (omega arith))

  current_read : flag_of 67 (get_or (before 32 (behind 32 (desc_line d ++ t))) 1 0) ≡ d.flags % 2
  unfolding marks
  current_read = ap (λ (w : List ℕ). flag_of 67 (get_or w 1 0)) flags_read ∙ mark_read 67 (d.flags % 2) (omega arith) (mod-lt _ (omega arith))

  version_read : spelt 0 (before 32 (behind 32 (behind 32 (desc_line d ++ t)))) ≡ d.flags / 4 % 16
  unfolding desc_line line_of
  version_read = ap (spelt 0) (word_three _ _ _ _ t (hex_solid _) (marks_solid _) (decimal_solid _) (decimal_solid _)) ∙ spelt_decimal (d.flags / 4 % 16)

  length_read : spelt 0 (before 10 (behind 32 (behind 32 (behind 32 (desc_line d ++ t))))) ≡ length d.body
  unfolding desc_line line_of
  length_read = ap (spelt 0) (word_four _ _ _ _ t (hex_solid _) (marks_solid _) (decimal_solid _) (decimal_solid _)) ∙ spelt_decimal (length d.body)

  line_read_here : line_read (desc_line d ++ t) ≡ shown_of d
  unfolding line_read
  line_read_here = λ i. record {
    digits = digits_read i;
    number = number_read i;
    persistent = persistent_read i;
    current = current_read i;
    version = version_read i;
    length = length_read i;
  }

  line_behind : behind 10 (desc_line d ++ t) ≡ t
  unfolding desc_line line_of
  line_behind = line_end _ _ _ _ t (hex_solid _) (marks_solid _) (decimal_solid _) (decimal_solid _)

-- ---- all lines

module _ (t : List ℕ) where
  lines_read_here : (ds : List Desc) → All Good ds → lines_read (length ds) (flat desc_line ds ++ t) ≡ map shown_of ds
  unfolding flat
  lines_read_here [] g = refl
  lines_read_here (d ∷ ds) g =
      let q : (desc_line d ++ flat desc_line ds) ++ t ≡ desc_line d ++ (flat desc_line ds ++ t) = append_assoc (desc_line d) (flat desc_line ds) t in
      let x : behind 10 ((desc_line d ++ flat desc_line ds) ++ t) ≡ flat desc_line ds ++ t = ap (behind 10) q ∙ line_behind d g.0.number_low _ in
      λ i. (ap line_read q ∙ line_read_here d g.0.number_low _) i ∷ (ap (lines_read (length ds)) x ∙ lines_read_here ds g.1) i

  lines_behind_here : (ds : List Desc) → All Good ds → lines_behind (length ds) (flat desc_line ds ++ t) ≡ t
  unfolding flat
  lines_behind_here [] g = refl
  lines_behind_here (d ∷ ds) g =
      ap (λ (x : List ℕ). lines_behind (length ds) (behind 10 x)) (append_assoc (desc_line d) (flat desc_line ds) t)
      ∙ ap (lines_behind (length ds)) (line_behind d g.0.number_low _)
      ∙ lines_behind_here ds g.1

-- ---- a listing

module _ (profile received count : ℕ) (t : List ℕ) where
  abbrev u : List ℕ
  u = hex4 profile

  abbrev v : List ℕ
  v = decimal received

  abbrev w : List ℕ
  w = decimal count

  first_words : behind 32 (words (u ∷ v ∷ w ∷ []) ++ t) ≡ words (v ∷ w ∷ []) ++ t
  first_words = word_next u v (w ∷ []) t (hex_solid _)

  first_last : behind 32 (behind 32 (words (u ∷ v ∷ w ∷ []) ++ t)) ≡ words (w ∷ []) ++ t
  first_last = ap (behind 32) first_words ∙ word_next v w [] t (decimal_solid _)

  first_behind : behind 10 (words (u ∷ v ∷ w ∷ []) ++ t) ≡ t
  first_behind = word_line u v (w ∷ []) t (hex_solid _) ∙ word_line v w [] t (decimal_solid _) ∙ last_line w t (decimal_solid _)

module _ (s : List ℕ) where
  fault_told : (n : ℕ) → Refused n (refused_line n)
  unfolding refused_line Solid
  fault_told n =
      let q : List ℕ = 114 ∷ 101 ∷ 102 ∷ 117 ∷ 115 ∷ 101 ∷ 100 ∷ [] in
      let a : Solid q = (omega arith, (omega arith, (omega arith, (omega arith, (omega arith, (omega arith, (omega arith, tt))))))) in
      let x : words (q ∷ decimal n ∷ []) ++ [] ≡ words (q ∷ decimal n ∷ []) = append-nil _ in
      record {
        word = ap (before 32) (sym x) ∙ word_first q (decimal n) [] [] a;
        number = ap (λ (y : List ℕ). spelt 0 (before 10 (behind 32 y))) (sym x) ∙ ap (λ (y : List ℕ). spelt 0 (before 10 y)) (word_next q (decimal n) [] [] a)
            ∙ ap (spelt 0) (last_first (decimal n) [] (decimal_solid n)) ∙ spelt_decimal n;
        end = ap (behind 10) (sym x) ∙ word_line q (decimal n) [] [] a ∙ last_line (decimal n) [] (decimal_solid n);
      }

  last_complete : length s ≡ field 4 s 0 + 4 → ending_line (eqb (length s) (stated_end s)) ≡ []
  unfolding stated_length ending_line
  last_complete e = rw (eq-eqb (length s) (field 4 s 0 + 4) e)

  last_cut : (length s ≡ field 4 s 0 + 4 → ⊥) → ending_line (eqb (length s) (stated_end s)) ≡ 99 ∷ 117 ∷ 116 ∷ 10 ∷ []
  unfolding stated_length ending_line
  last_cut h = rw (ne_eqb (length s) (field 4 s 0 + 4) h)

  told : Bytes s → (ds : List Desc) → All Good ds → Told s ds (accepted s ds)
  unfolding accepted first_line stated_profile hex4
  told b ds g =
      let p : ℕ = field 2 s 6 in
      let l : List ℕ = ending_line (eqb (length s) (stated_end s)) in
      let y : List ℕ = flat desc_line ds ++ l in
      let f : List ℕ = words (hex4 p ∷ decimal (length s) ∷ decimal (length ds) ∷ []) in
      let x : (f ++ flat desc_line ds) ++ l ≡ f ++ y = append_assoc f (flat desc_line ds) l in
      let z : behind 10 (f ++ y) ≡ y = first_behind p (length s) (length ds) y in
      subst (Told s ds) (sym x) record {
        four = ap length (word_first (hex4 p) (decimal (length s)) (decimal (length ds) ∷ []) y (hex_solid p));
        profile = ap (spelt_hex 0) (word_first (hex4 p) (decimal (length s)) (decimal (length ds) ∷ []) y (hex_solid p)) ∙ hex_spelt p (field_lt 2 s 6 b);
        received = ap (λ (k : List ℕ). spelt 0 (before 32 k)) (first_words p (length s) (length ds) y)
            ∙ ap (spelt 0) (word_first (decimal (length s)) (decimal (length ds)) [] y (decimal_solid _)) ∙ spelt_decimal (length s);
        count = ap (λ (k : List ℕ). spelt 0 (before 10 k)) (first_last p (length s) (length ds) y)
            ∙ ap (spelt 0) (last_first (decimal (length ds)) y (decimal_solid _)) ∙ spelt_decimal (length ds);
        lines = ap (lines_read (length ds)) z ∙ lines_read_here l ds g;
        complete = λ e. ap (lines_behind (length ds)) z ∙ lines_behind_here l ds g ∙ last_complete e;
        cut = λ h. ap (lines_behind (length ds)) z ∙ lines_behind_here l ds g ∙ last_cut h;
      }

pub tells : (s : List ℕ) → Tells s (listing s)
tells s = record {
  refuses = λ k. rw (listing_fault s k) (fault_told s (read_fault 65534 0 0 s).number);
  tells = λ b e.
      rw (listing_none s e)
      (subst (λ (ds : List Desc). Told s ds (accepted s (walked 0 0 s).found)) (sym (wholes_accepted 65534 0 0 s e)) (told s b (walked 0 0 s).found (walked_good 0 0 s b)));
}
