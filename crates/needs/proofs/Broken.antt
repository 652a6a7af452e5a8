-- Which profiles have a table, and what breaks one, said of every line of a column and every descriptor; `Promised.antt` says it in plain numbers. Assumes nothing: these are
-- definitions.
use mathlib.Core.Path.{◌≡◌}
use mathlib.Core.Logic.{◌⊎◌}
use mathlib.Core.Bool.{true}
use mathlib.Core.List.{List, [], ◌∷◌}
use Prim.Native.Nat.{ℕ, ◌≤◌, ◌<◌}
use lib.Bits.{bit_and}
use lib.ListN.{length, get_or}
use Rattle.text.specs.Drive.{Desc}
use Rattle.needs.specs.declared.Wrong.{Wrong}
use Rattle.needs.specs.declared.Wrong.TheVariants.{Absent, TooShort, BitClear, NotCurrent, TooLong}
use Rattle.needs.specs.declared.table.Column.{Column}
use Rattle.needs.specs.declared.table.Need.{Need}
use Rattle.needs.specs.Required.{required, marked}

-- the profiles that have a table; 0000h is the archive subset
abbrev pub tabled : List ℕ
tabled = 0xFFFF ∷ 0x0002 ∷ 0x0008 ∷ 0x0010 ∷ 0x0012 ∷ 0x0000 ∷ []

-- x is one of these
abbrev pub In : {A : Type 0} → A → List A → Type 0
In x [] = ⊥
In x (y ∷ ys) = (x ≡ y) ⊎ In x ys

-- a line that stands in the column and names the feature
pub record Asked (c : Column) (f : ℕ) (n : Need) : Type 0 where
  pub listed : In n required
  pub stands : marked c.1 n ≡ true
  pub names : n.1.0 ≡ f

-- a descriptor has all that a line asks for
pub record Gives (n : Need) (d : Desc) : Type 0 where
  pub names : d.number ≡ n.1.0
  pub enough : n.2 ≤ length d.body
  pub bits : bit_and (get_or d.body n.3 0) n.4 ≡ n.4
  pub flags : bit_and d.flags n.5 ≡ n.5

-- a line asks for the feature, and no descriptor has what it asks
pub record Unmet (c : Column) (ds : List Desc) (f : ℕ) : Type 0 where
  pub line : Need
  pub asked : Asked c f line
  pub unmet : (d : Desc) → In d ds → Gives line d → ⊥

-- a descriptor, needed or not, that is longer than the column lets any be
pub record Overlong (c : Column) (ds : List Desc) (f : ℕ) : Type 0 where
  pub desc : Desc
  pub reported : In desc ds
  pub names : desc.number ≡ f
  pub longer : c.2 < length desc.body

-- the feature breaks the profile
abbrev pub Breaks : (c : Column) (ds : List Desc) (f : ℕ) → Type 0
Breaks c ds f = Unmet c ds f ⊎ Overlong c ds f

-- the feature is reported, and P of the line that asks for it and of its descriptor
pub record Reported (c : Column) (ds : List Desc) (f : ℕ) (P : Need → Desc → Type 0) : Type 0 where
  pub line : Need
  pub asked : Asked c f line
  pub desc : Desc
  pub reported : In desc ds
  pub names : desc.number ≡ f
  pub is : P line desc

-- that this is wrong with the feature
abbrev pub Reason : (c : Column) (ds : List Desc) (f : ℕ) → Wrong → Type 0
Reason c ds f Absent = (d : Desc) → In d ds → d.number ≡ f → ⊥
Reason c ds f TooShort = Reported c ds f (λ n d. length d.body < n.2)
Reason c ds f BitClear = Reported c ds f (λ n d. bit_and (get_or d.body n.3 0) n.4 ≡ n.4 → ⊥)
Reason c ds f NotCurrent = Reported c ds f (λ n d. bit_and d.flags n.5 ≡ n.5 → ⊥)
Reason c ds f TooLong = Overlong c ds f
