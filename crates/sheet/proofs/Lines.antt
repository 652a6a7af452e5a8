-- The line of the sheet that the check's refusal names, and document 01's number for it. Assumes nothing.
use borrow.Author.Tests.{ltb-false}
use mathlib.Core.Path.{◌≡◌, refl, ap, ◌∙◌}
use Prim.Native.Nat.{ℕ, ◌*◌}
use native.Mathlib.Omega.{arith}
use lib.ListN.{length}
use Rattle.refusal.specs.declared.Refusal.{Refusal}
use Rattle.refusal.specs.First.{refuse, accept, ◌if◌else◌}
use Rattle.refusal.specs.Lines.{of_entry, has_place, old}
use Rattle.refusal.proofs.First.{or_else_none, placed_number}
use Rattle.refusal.proofs.Lines.{if_by, or_else_by, EntryOnly, accept_entry, if_entry, or_else_entry, Renumbered, if_old, or_else_old, first_old, same_old}
use Rattle.text.specs.Flags as text
use Rattle.profiles.specs.Profiles.{records_fault}
use Rattle.profiles.proofs.Lines.{records_not_entry, located_nowhere, located_profile, located_entry}
use Rattle.layout.specs.Layout.{Sheet, feature_count, profile_count, flags, profiles_part}
use Rattle.sheet.specs.Check.{flags_rule, entry_rule, entry_fault, counted, verdict}
use Rattle.sheet.specs.Lines.{entry_rule_at, LocatedIn, old_flags_rule, NoVersions, old_entry, old_verdict}
use Rattle.sheet.proofs.Accepted.{length_profiles_part}

-- ---- what is refused of an entry has an entry's number

pub flags_entry : (f : ℕ) → EntryOnly (flags_rule f)
unfolding flags_rule text.flags_giving of_entry
flags_entry f = or_else_entry _ _ (if_entry _ _ _ refl accept_entry) (if_entry _ _ _ refl accept_entry)

entry_only : (s : Sheet) (i : ℕ) → EntryOnly (entry_rule_at s i)
unfolding entry_rule_at entry_rule of_entry
entry_only s i = if_entry _ _ _ refl (if_entry _ _ _ refl (or_else_entry _ _ (flags_entry _) (if_entry _ _ _ refl (if_entry _ _ _ refl accept_entry))))

-- ---- the line named

-- The place is 0 exactly where the number has none; else it is that of the first profile or entry at fault.
pub verdict_located : (s : Sheet) → LocatedIn s (verdict s)
unfolding verdict counted entry_fault entry_rule_at of_entry has_place
verdict_located s =
    let plain = located_nowhere (profiles_part s) (profile_count s) (entry_rule_at s) (feature_count s) in
    if_by (LocatedIn s) _ _ _ (λ e. plain (refuse 1) refl refl)
    (λ e. if_by (LocatedIn s) _ _ _ (λ e. plain (refuse 1) refl refl)
    (λ room.
    let n : length (profiles_part s) ≡ 4 * profile_count s = length_profiles_part s (ltb-false _ _ room) in
    if_by (LocatedIn s) _ _ _ (λ e. plain (refuse 2) refl refl)
    (λ few. or_else_by (LocatedIn s) _ _ (λ k. located_profile _ _ _ _ k (omega arith))
    (λ none. or_else_by (LocatedIn s) _ _ (λ k. located_entry _ _ _ _ none (omega arith) (entry_only s) _ refl k)
    (λ e. if_by (LocatedIn s) _ _ _ (λ e. plain (refuse 8) refl refl) (λ e. plain (refuse 0) refl refl))))))

-- ---- document 01's number

two_old : (f : ℕ) → Renumbered (text.flags_giving (refuse 5) (refuse 5) f) (flags_rule f)
unfolding flags_rule text.flags_giving old
two_old f = or_else_old _ _ _ _ (if_old _ _ _ _ _ refl refl) (if_old _ _ _ _ _ refl refl)

pub flags_old : (f : ℕ) → text.version f ≡ 0 → Renumbered (old_flags_rule f) (flags_rule f)
unfolding old_flags_rule ◌if◌else◌
flags_old f e =
    let none : (refuse 5 if text.newer f else accept).number ≡ 0 = rw (e, ◌if◌else◌) refl in
    ap (λ (r : Refusal). r.number) (or_else_none (refuse 5 if text.newer f else accept) (text.flags_giving (refuse 5) (refuse 5) f) none)
    ∙ two_old f

entry_old : (s : Sheet) (i : ℕ) → text.version (flags s i) ≡ 0 → Renumbered (old_entry s i) (entry_fault s i)
unfolding old_entry entry_fault entry_rule old
entry_old s i e =
    rw (placed_number _ _)
    (if_old _ _ _ _ _ refl (if_old _ _ _ _ _ refl (or_else_old _ _ _ _ (flags_old _ e) (if_old _ _ _ _ _ refl (if_old _ _ _ _ _ refl refl)))))

-- Where there is no Version, the number of document 01's check is the old one of the number that is given.
pub verdict_old : (s : Sheet) → NoVersions s → (old_verdict s).number ≡ old (verdict s).number
unfolding old_verdict verdict counted old
verdict_old s v =
    if_old _ _ _ _ _ refl (if_old _ _ _ _ _ refl (if_old _ _ _ _ _ refl
    (or_else_old _ _ _ _ (same_old (records_fault (profiles_part s)) (records_not_entry (profiles_part s)))
    (or_else_old _ _ _ _ (first_old _ _ _ _ (λ i l h. entry_old s i (v i (omega arith))))
    (if_old _ _ _ _ _ refl refl)))))
