-- The verdict on a recorded response. Assumes nothing: these are definitions.
use Rattle.std.specs.Prelude.{Bool, true, false, ◌&&◌, List, [], ◌∷◌, ◌++◌, ℕ, suc, ◌-◌, eqb, ltb, length, drop, replicate}
use Rattle.base.specs.Pick.{pick}
use Rattle.refusal.specs.declared.Refusal.{Refusal}
use Rattle.refusal.specs.First.{refuse, accept, ◌if◌else◌, unless}
use Rattle.command.specs.Command.{command_fault, rt_of, sfn_of, allocation_of}
use Rattle.text.specs.Drive.{Drive}
use Rattle.text.specs.Response.{sent, most}
use Rattle.layout.specs.Layout.{Sheet}
use Rattle.sheet.specs.Check.{verdict}
use Rattle.sheet.specs.Meaning.{meaning}
use Rattle.judge.specs.Boxes.{sent_with, mistakes}
use Rattle.judge.specs.declared.Mistake.{Mistake}
use Rattle.judge.specs.declared.Mistake.TheVariants.{Unexplained}
use Rattle.judge.specs.declared.Verdict.{Verdict}
use Rattle.judge.specs.declared.Verdict.TheVariants.{Exact, Padded, Short, Wrong, Answered, Refused}

-- ---- two byte strings

-- how many bytes at the front are the same
unfoldable pub common : List ℕ → List ℕ → ℕ
common [] ys = 0
common (x ∷ xs) [] = 0
common (x ∷ xs) (y ∷ ys) = elim (eqb x y) [ true ↦ suc (common xs ys) | false ↦ 0 ]

-- nothing but zeros
unfoldable pub all_zero : List ℕ → Bool
all_zero [] = true
all_zero (x ∷ xs) = eqb x 0 && all_zero xs

-- the bytes x where `due` are due: at the first byte that is not the same, k, x differs or ends; or they are all the same, and x ends there or goes on, with zeros or not
unfoldable pub met : (k : ℕ) (due x : List ℕ) → Verdict
met k due x =
    (Wrong k Unexplained if ltb k (length x) else Short k) if ltb k (length due) else
    (Padded k if all_zero (drop k x) else Wrong k Unexplained) if ltb k (length x) else
    Exact

unfoldable pub compared : (due x : List ℕ) → Verdict
compared due x = met (common due x) due x

-- the bytes are those due, with zeros behind them or not
unfoldable pub is_right : Verdict → Bool
is_right Exact = true
is_right (Padded k) = true
is_right (Short k) = false
is_right (Wrong k w) = false
is_right (Answered r) = false
is_right (Refused r) = false

-- ---- what explains them

-- the first mistake whose box sends these bytes
unfoldable pub explained : (rt sfn a : ℕ) → Drive → (x : List ℕ) → Mistake
explained rt sfn a m x = pick (λ w. is_right (compared (sent_with w rt sfn a m) x)) (λ w. w) Unexplained mistakes

unfoldable pub because : Verdict → Mistake → Verdict
because Exact w = Exact
because (Padded k) w = Padded k
because (Short k) w = Short k
because (Wrong k v) w = Wrong k w
because (Answered r) w = Answered r
because (Refused r) w = Refused r

-- ---- the verdict

-- what is said, and the scratch buffer afterwards
pub record Judgement : Type 0 where
  pub said : Verdict
  pub scratch : List ℕ

abbrev pub judgement : Verdict → List ℕ → Judgement
judgement v d = record { said = v; scratch = d }

-- a command that is refused: the right box answers nothing
unfoldable pub unasked : Refusal → (x : List ℕ) → Verdict
unasked r [] = Exact
unasked r (x ∷ xs) = Answered r

-- the bytes xs in a buffer of n bytes, zeros behind them
unfoldable pub alone : (xs : List ℕ) (n : ℕ) → List ℕ
alone xs n = xs ++ replicate (n - length xs) 0

-- a request to the drive m: the scratch buffer has what is due, and zeros behind
unfoldable pub requested : (rt sfn a : ℕ) → Drive → (x d : List ℕ) → Judgement
requested rt sfn a m x d =
    judgement (because (compared (sent rt sfn a m) x) (explained rt sfn a m x)) (alone (sent rt sfn a m) (length d))

-- 12: a scratch buffer that is shorter than what any box may send for this allocation length
unfoldable pub room_fault : (a : ℕ) (d : List ℕ) → Refusal
room_fault a d = refuse 12 if ltb (length d) (most a) else accept

-- the sheet's refusal; the command's, where nothing may be answered; 12; else by what is due
unfoldable pub judged : (s : Sheet) (c x d : List ℕ) → Judgement
judged s c x d =
    unless (verdict s) (λ r. judgement (Refused r) d)
    (unless (command_fault c) (λ r. judgement (unasked r x) d)
    (unless (room_fault (allocation_of c) d) (λ r. judgement (Refused r) d)
    (requested (rt_of c) (sfn_of c) (allocation_of c) (meaning s) x d)))
