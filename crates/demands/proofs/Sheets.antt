-- The check of a drive sheet, 0 exactly for the sheets that the format allows, and how long such a sheet can be. Assumes nothing.
use mathlib.Core.Path.{◌≡◌, refl, sym, subst}
use mathlib.Core.Bool.{Bool, true, false, ◌||◌}
use mathlib.Core.List.{List, [], ◌∷◌}
use Prim.Native.Nat.{ℕ, suc, ◌≤◌}
use lib.Dec.{eqb}
use Rattle.base.specs.Lists.{Bytes}
use Rattle.refusal.specs.declared.Refusal.{Refusal}
use Rattle.refusal.specs.First.{refuse, accept}
use Rattle.refusal.specs.Lines.{old}
use Rattle.refusal.proofs.First.{placed_number}
use Rattle.profiles.specs.Profiles.{records_fault}
use Rattle.layout.specs.declared.Layout.{Layout}
use Rattle.layout.specs.Layout.{Sheet, sheet_size, flags, profiles_part}
use Rattle.layout.proofs.Promised.{Laying, laying}
use Rattle.sheet.specs.Check.{entry_rule, entry_fault, counted, verdict, Accepted}
use Rattle.sheet.specs.Facts.{Facts}
use Rattle.sheet.specs.Lines.{LocatedIn, NoVersions, old_verdict}
use Rattle.sheet.specs.Meaning.{sheet_of}
use Rattle.sheet.proofs.Accepted.{facts, accept_of}
use Rattle.sheet.proofs.Build.{sheet_accepted, sheet_bytes_law}
use Rattle.sheet.proofs.Lines.{verdict_located, verdict_old}
use Rattle.sheet.proofs.Promised.{Grounds, grounds}
use Rattle.refusal.proofs.Numbers.{if_holds, or_else_holds, first_holds}
use Rattle.capture.proofs.Numbers.{rule_is, record_is}
use Rattle.sheet.proofs.Longest.{longest, longest_drive, longest_fine, longest_reached}

-- n is one of the numbers
unfoldable pub one_of : List ℕ → ℕ → Bool
one_of [] n = false
one_of (k ∷ ks) n = eqb n k || one_of ks n

-- the numbers that the check of a sheet gives; 43, which was for a Version, is withdrawn
abbrev pub sheet_numbers : List ℕ
sheet_numbers = 0 ∷ 1 ∷ 2 ∷ 3 ∷ 4 ∷ 5 ∷ 44 ∷ 6 ∷ 7 ∷ 8 ∷ []

-- what holds of each number of the rules holds of the number given
module _ (P : ℕ → Type 0) (p0 : P 0) (p1 : P 1) (p2 : P 2) (p3 : P 3) (p4 : P 4) (p5 : P 5) (p44 : P 44) (p6 : P 6) (p7 : P 7) (p8 : P 8) (s : Sheet) where
  entry_is : (i : ℕ) → P (entry_fault s i).number
  unfolding entry_fault entry_rule
  entry_is i =
      subst P (sym (placed_number _ (suc i)))
      (if_holds P (refuse 4) _ _ p4 (if_holds P (refuse 4) _ _ p4 (or_else_holds P _ _ (rule_is P p0 p5 p44 (flags s i)) (if_holds P (refuse 6) _ _ p6 (if_holds P (refuse 7) _ _ p7 p0)))))

  verdict_is : P (verdict s).number
  unfolding verdict counted records_fault
  verdict_is =
      if_holds P (refuse 1) _ _ p1 (if_holds P (refuse 1) _ _ p1 (if_holds P (refuse 2) _ _ p2
      (or_else_holds P _ _ (first_holds P _ p0 (record_is P p0 p3 (profiles_part s)) 0 _)
      (or_else_holds P _ _ (first_holds P _ p0 entry_is 0 _)
      (if_holds P (refuse 8) _ _ p8 p0)))))

verdict_numbers : (s : Sheet) → one_of sheet_numbers (verdict s).number ≡ true
unfolding one_of
verdict_numbers = verdict_is (λ n. one_of sheet_numbers n ≡ true) refl refl refl refl refl refl refl refl refl refl

-- Of the answer r to the sheet s: it is the first refusal in the paper's order, and none is given exactly where all that the format asks for holds. Its
-- number is one of ten, and in plain numbers each has its ground and its turn: `plain` speaks of the sheet's fields, and `places` says where in its bytes these
-- stand. Its place is that of the first profile or entry at fault, 0 where its number has none; where no entry has a Version above 0,
-- document 01's number is a function of its number.
pub record Checks (s : Sheet) (r : Refusal) : Type 0 where
  pub exact : r ≡ verdict s
  pub sound : r.number ≡ 0 → Bytes s.bytes → Facts s
  pub complete : Facts s → r ≡ accept
  pub numbers : one_of sheet_numbers r.number ≡ true
  pub located : LocatedIn s r
  pub old_number : NoVersions s → (old_verdict s).number ≡ old r.number
  pub plain : Grounds s r
  pub places : Laying s.bytes

pub checks : (s : Sheet) → Checks s (verdict s)
checks s = record {
  exact = refl;
  sound = λ e b. facts s b e;
  complete = accept_of s;
  numbers = verdict_numbers s;
  located = verdict_located s;
  old_number = verdict_old s;
  plain = grounds s;
  places = laying s.bytes;
}

-- In each layout an accepted sheet of 17,039,356 bytes, and none is longer.
pub record Longest : Type 0 where
  pub sheet : Layout → Sheet
  pub layout : (l : Layout) → (sheet l).layout ≡ l
  pub bytes : (l : Layout) → Bytes (sheet l).bytes
  pub accepted : (l : Layout) → Accepted (sheet l)
  pub long : (l : Layout) → sheet_size (sheet l) ≡ 17039356
  pub most : (s : Sheet) → Bytes s.bytes → Accepted s → sheet_size s ≤ 17039356

sheet_layout : (l : Layout) → (sheet_of l longest_drive).layout ≡ l
unfolding sheet_of
sheet_layout l = refl

pub longest_sheet : Longest
longest_sheet = record {
  sheet = λ l. sheet_of l longest_drive;
  layout = sheet_layout;
  bytes = λ l. sheet_bytes_law l longest_fine;
  accepted = λ l. sheet_accepted l longest_drive longest_fine;
  long = longest_reached;
  most = longest;
}
