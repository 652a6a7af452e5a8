-- A list of profiles as bytes, four each: a sheet's profile part, and the body of feature 0. Assumes nothing: these are definitions.
use Rattle.std.specs.Prelude.{◌≡◌, Bool, true, false, not, List, [], ◌∷◌, ℕ, zero, suc, ◌+◌, ◌*◌, ◌/◌, ◌%◌, ◌≤◌, ◌<◌, min, ltb, eqb, length, get_or}
use Rattle.base.specs.Lists.{each, All}
use Rattle.fields.specs.Field.{field}
use Rattle.refusal.specs.declared.Refusal.{Refusal}
use Rattle.refusal.specs.First.{refuse, accept, ◌if◌else◌, first_of, placed}
use Rattle.text.specs.Drive.{Listed}

-- record i of the list b: number (2), a byte whose bit 0 is CurrentP, a last byte
unfoldable pub profile_number : List ℕ → ℕ → ℕ
profile_number b i = field 2 b (4 * i)

unfoldable pub profile_current : List ℕ → ℕ → ℕ
profile_current b i = get_or b (4 * i + 2) 0

unfoldable pub profile_last : List ℕ → ℕ → ℕ
profile_last b i = get_or b (4 * i + 3) 0

-- the profiles that b lists
unfoldable pub listed : List ℕ → ℕ → Listed
listed b i = record { number = profile_number b i; on = eqb (profile_current b i % 2) 1 }

unfoldable pub profiles_of : List ℕ → List Listed
profiles_of b = each (listed b) 0 (length b / 4)

-- whether one of k records from record i on has the number n
unfoldable pub lists : (n : ℕ) (b : List ℕ) (i k : ℕ) → Bool
lists n b i zero = false
lists n b i (suc k) = elim (eqb (profile_number b i) n) [ true ↦ true | false ↦ lists n b (suc i) k ]

-- 3: number 0 or listed before; current byte over 1; last byte not 0
unfoldable pub record_rule : (profile_number : ℕ) (before : Bool) (profile_current profile_last : ℕ) → Refusal
record_rule profile_number before profile_current profile_last =
    refuse 3 if eqb profile_number 0 else
    refuse 3 if before else
    refuse 3 if ltb 1 profile_current else
    refuse 3 if not (eqb profile_last 0) else
    accept

-- record i's refusal, at its place in the list, counted from 1
unfoldable pub record_fault : List ℕ → ℕ → Refusal
record_fault b i = placed (record_rule (profile_number b i) (lists (profile_number b i) b 0 i) (profile_current b i) (profile_last b i)) (suc i)

-- the first refusal of all records
unfoldable pub records_fault : List ℕ → Refusal
records_fault b = first_of (record_fault b) 0 (length b / 4)

-- a place is a sixteen-bit number: it stops at 65,535
unfoldable pub stopped : Refusal → Refusal
stopped r = record { number = r.number; place = min r.place 65535 }

-- what a record is that is not refused
pub record Kept (b : List ℕ) (i : ℕ) : Type 0 where
  pub above : 0 < profile_number b i
  pub new : (j : ℕ) → j < i → profile_number b j ≡ profile_number b i → ⊥
  pub one : profile_current b i ≤ 1
  pub nought : profile_last b i ≡ 0

-- the numbers of listed profiles are not 0 and differ
abbrev pub Distinct : List Listed → Type 0
Distinct [] = Unit {0}
Distinct (p ∷ ps) = (0 < p.number) × All (λ (q : Listed). q.number ≡ p.number → ⊥) ps × Distinct ps
