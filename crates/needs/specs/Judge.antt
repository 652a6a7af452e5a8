-- Whether a response has what a profile requires. Assumes nothing: these are definitions.
use Rattle.std.specs.Prelude.{Bool, true, false, not, ◌&&◌, List, [], ◌∷◌, ℕ, zero, suc, ltb, eqb, length, get_or}
use Rattle.std.specs.Int.Bits.{bit_and}
use Rattle.base.specs.Pick.{pick}
use Rattle.refusal.specs.declared.Refusal.{Refusal}
use Rattle.refusal.specs.First.{refuse, accept, ◌if◌else◌, ◌or_else◌, unless}
use Rattle.text.specs.Drive.{Desc}
use Rattle.reading.specs.Places.{descs}
use Rattle.reading.specs.Completed.{complete_fault}
use Rattle.needs.specs.declared.Wrong.{Wrong}
use Rattle.needs.specs.declared.Wrong.TheVariants.{Absent, TooShort, BitClear, NotCurrent, TooLong}
use Rattle.needs.specs.declared.Judgement.{Judgement}
use Rattle.needs.specs.declared.Judgement.TheVariants.{Conforms, Broken, Refused}
use Rattle.needs.specs.declared.table.Column.{Column}
use Rattle.needs.specs.declared.table.Need.{Need}
use Rattle.needs.specs.Required.{required, marked, column_of, has_table}

-- ---- the answer

-- the number of each thing that can be wrong with a feature; 0 is nothing
abbrev pub wrong_number : Wrong → ℕ
wrong_number Absent = 1
wrong_number TooShort = 2
wrong_number BitClear = 3
wrong_number NotCurrent = 4
wrong_number TooLong = 5

-- what a judgement says: the refusal or none, whether the response conforms, the feature that breaks the profile where one is named, and what is wrong with it
pub record Said : Type 0 where
  pub refusal : Refusal
  pub conforms : Bool
  pub feature : List ℕ
  pub wrong : ℕ

abbrev pub says : Refusal → Bool → List ℕ → ℕ → Said
says r c f w = record { refusal = r; conforms = c; feature = f; wrong = w }

abbrev pub says_conforms : Said
says_conforms = says accept true [] 0

abbrev pub says_broken : (feature wrong : ℕ) → Said
says_broken f w = says accept false (f ∷ []) w

-- each case of the answer
abbrev pub said : Judgement → Said
said Conforms = says_conforms
said (Broken f w) = says_broken f.0 (wrong_number w)
said (Refused r) = says r false [] 0

-- ---- the rule

-- a descriptor is longer than a body may be
unfoldable pub is_too_long : (longest : ℕ) → Desc → Bool
is_too_long longest d = ltb longest (length d.body)

-- what is wrong with flags and a body of len bytes, with this byte at the line's place, by what the line asks. 2: shorter. 3: a bit not set. 4: not current.
-- 5: longer than a body may be
unfoldable pub line_wrong : Need → (longest flags len byte : ℕ) → ℕ
line_wrong n longest flags len byte =
    2 if ltb len n.2 else
    3 if not (eqb (bit_and byte n.4) n.4) else
    4 if not (eqb (bit_and flags n.5) n.5) else
    5 if ltb longest len else
    0

unfoldable pub desc_wrong : Need → (longest : ℕ) → Desc → ℕ
desc_wrong n longest d = line_wrong n longest d.flags (length d.body) (get_or d.body n.3 0)

-- the line of a column that names a feature, and the descriptor that has its number, where there is one
unfoldable pub line_of : (mark feature : ℕ) → List Need → List Need
line_of m f ns = pick (λ n. marked m n && eqb n.1.0 f) (λ n. n ∷ []) [] ns

unfoldable pub desc_of : (feature : ℕ) → List Desc → List Desc
desc_of f ds = pick (λ d. eqb d.number f) (λ d. d ∷ []) [] ds

-- what is wrong by this line with this descriptor. 1: needed, and not there. A descriptor that is not needed may only be too long
unfoldable pub wrong_of : (longest : ℕ) → (line : List Need) (desc : List Desc) → ℕ
wrong_of longest [] [] = 0
wrong_of longest [] (d ∷ ds) = 5 if is_too_long longest d else 0
wrong_of longest (n ∷ ns) [] = 1
wrong_of longest (n ∷ ns) (d ∷ ds) = desc_wrong n longest d

-- what is wrong with a feature, by the lines of a table
unfoldable pub wrong_in : List Need → Column → List Desc → (feature : ℕ) → ℕ
wrong_in ns c ds f = wrong_of c.2 (line_of c.1 f ns) (desc_of f ds)

-- the lowest of k feature numbers from f on with which something is wrong, where w tells what
unfoldable pub lowest_from : (ℕ → ℕ) → (f k : ℕ) → Said
lowest_from w f zero = says_conforms
lowest_from w f (suc k) = elim (w f) [ zero ↦ lowest_from w (suc f) k | suc e ↦ says_broken f (suc e) ]

-- of all numbers of two bytes, the lowest that breaks a column of a table
unfoldable pub lowest_in : List Need → Column → List Desc → Said
lowest_in ns c ds = lowest_from (wrong_in ns c ds) 0 65536

unfoldable pub lowest : Column → List Desc → Said
lowest c ds = lowest_in required c ds

-- what refuses a judgement: the reading's numbers, 29, then 40: no table for the profile
unfoldable pub judge_fault : (profile : ℕ) → List ℕ → Refusal
judge_fault p s =
    complete_fault s or_else
    refuse 40 if not (has_table p) else
    accept

unfoldable pub judged : (profile : ℕ) → List ℕ → Said
judged p s = unless (judge_fault p s) (λ r. said (Refused r)) (lowest (column_of p) (descs s))
