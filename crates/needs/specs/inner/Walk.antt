-- The one walk over the lines of a column and the descriptors of a response. Assumes nothing: these are definitions.
use Rattle.std.specs.Prelude.{Bool, true, false, not, ◌&&◌, ◌||◌, List, [], ◌∷◌, ℕ, zero, suc, ltb, eqb}
use Rattle.base.specs.Pick.{pick}
use Rattle.text.specs.Drive.{Desc}
use Rattle.text.specs.Reading.{desc_at}
use Rattle.reading.specs.Places.{next_at}
use Rattle.reading.specs.inner.Between.{from}
use Rattle.needs.specs.declared.table.Column.{Column}
use Rattle.needs.specs.declared.table.Need.{Need}
use Rattle.needs.specs.declared.walk.Fit.{Fit}
use Rattle.needs.specs.declared.walk.Fit.TheVariants.{Fits, Lacks}
use Rattle.needs.specs.declared.walk.Step.{Step}
use Rattle.needs.specs.declared.walk.Step.TheVariants.{On, Stop}
use Rattle.needs.specs.Required.{marked}
use Rattle.needs.specs.Judge.{Said, says_conforms, says_broken, wrong_number, is_too_long, desc_wrong}

-- the lines that stand in a column ascend
abbrev pub every : {A : Type 0} → (A → Bool) → List A → Bool
every test [] = true
every test (x ∷ xs) = test x && every test xs

abbrev pub under : (mark : ℕ) → Need → Need → Bool
under k m n = not (marked k m && marked k n) || ltb m.1.0 n.1.0

abbrev pub ascends : (mark : ℕ) → List Need → Bool
ascends k [] = true
ascends k (n ∷ ns) = every (under k n) ns && ascends k ns

-- what is wrong with a descriptor, as a number
abbrev pub fit_number : Fit → ℕ
fit_number Fits = 0
fit_number (Lacks w) = wrong_number w

-- a line asks for its feature only, and no body is too long
unfoldable pub asks_nothing : Need → (longest : ℕ) → Bool
asks_nothing n longest = eqb longest 255 && eqb n.2 0 && eqb n.4 0 && eqb n.5 0

-- behind a line: the descriptors that are left for the next one, or the feature that breaks the profile and what is wrong with it
pub data After : Type 0 where
  left : List Desc → After
  stops : (feature wrong : ℕ) → After

abbrev pub after : List ℕ → Step → After
after s (On at) = left (from s at)
after s (Stop f w) = stops f.0 (wrong_number w)

abbrev pub step_by : (feature wrong : ℕ) → List Desc → After
step_by f zero ds = left ds
step_by f (suc w) ds = stops f (suc w)

-- the step of a line where d, whose number is at hand, is the first descriptor that is not below its feature, and ds stand behind d
unfoldable pub step_at : Need → (longest number : ℕ) → Desc → List Desc → After
step_at n longest number d ds = elim (eqb number n.1.0) [ true ↦ step_by n.1.0 (desc_wrong n longest d) ds | false ↦ stops n.1.0 1 ]

-- at a place
abbrev pub step_here : Need → (longest number : ℕ) → List ℕ → (at : ℕ) → After
step_here n longest number s at = step_at n longest number (desc_at s at) (from s (next_at s at))

-- with all these descriptors left
unfoldable pub step_from : Need → (longest : ℕ) → List Desc → After
step_from n longest [] = stops n.1.0 1
step_from n longest (d ∷ ds) =
    elim (ltb d.number n.1.0) [
      | true ↦ elim (is_too_long longest d) [ true ↦ stops d.number 5 | false ↦ step_from n longest ds ]
      | false ↦ step_at n longest d.number d ds
    ]

-- a line that does not stand in the column passes none
unfoldable pub step_for : Column → Need → List Desc → After
step_for c n ds = elim (marked c.1 n) [ true ↦ step_from n c.2 ds | false ↦ left ds ]

-- behind the last line: the first descriptor that is too long
unfoldable pub first_long : (longest : ℕ) → List Desc → Said
first_long longest ds = pick (is_too_long longest) (λ d. says_broken d.number 5) says_conforms ds
