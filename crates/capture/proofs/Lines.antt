-- The profile or entry that a refusal of a capture names, and document 01's number for it. Assumes nothing.
use mathlib.Core.Path.{◌≡◌, refl, sym, ap, ap₂, ◌∙◌}
use mathlib.Core.List.{List, [], ◌∷◌}
use Prim.Native.Nat.{ℕ, suc, ◌+◌, ◌/◌}
use native.Mathlib.Numerals.{add-one}
use native.Mathlib.Omega.{arith}
use lib.ListN.{length}
use Rattle.base.specs.Lists.{All}
use Rattle.refusal.specs.declared.Refusal.{Refusal}
use Rattle.refusal.specs.First.{accept, pick_zero, ◌or_else◌, first_of, placed}
use Rattle.refusal.specs.Lines.{of_entry, has_place, old}
use Rattle.refusal.proofs.First.{if_plain, or_else_plain, placed_number}
use Rattle.refusal.proofs.Lines.{or_else_by, Nowhere, if_nowhere, or_else_nowhere, Renumbered, or_else_old, same_old, nowhere_old}
use Rattle.text.specs.Drive.{Desc}
use Rattle.text.specs.Flags as text
use Rattle.text.proofs.Walk.{read_fault_plain}
use Rattle.text.proofs.Lines.{read_nowhere}
use Rattle.profiles.specs.Profiles.{records_fault}
use Rattle.profiles.proofs.Kept.{length_profiles_of}
use Rattle.profiles.proofs.Lines.{records_not_entry, located_nowhere, located_profile, located_first}
use Rattle.sheet.specs.Check.{flags_rule}
use Rattle.sheet.proofs.Lines.{flags_entry, flags_old}
use Rattle.reading.specs.Places.{descs}
use Rattle.reading.specs.Completed.{complete_fault}
use Rattle.capture.specs.Capture.{captured, own_rule, flags_faults, sheet_rule, capture_fault, capture_of}
use Rattle.capture.specs.Lines.{list_body, flags_rule_at, LocatedAmong, NoVersionsAmong, old_flags, old_capture}
use Rattle.capture.proofs.Checked.{capture_refusal}

-- ---- what comes before the sheet's numbers has no place

complete_plain : (s : List ℕ) → (complete_fault s).place ≡ 0
unfolding complete_fault
complete_plain s = or_else_plain _ _ (read_fault_plain _ _ _ s) (if_plain _ _ _ refl)

complete_nowhere : (s : List ℕ) → Nowhere (complete_fault s)
unfolding complete_fault of_entry has_place
complete_nowhere s = or_else_nowhere _ _ (read_nowhere _ _ _ s) (if_nowhere _ _ _ refl refl)

own_plain : (s : List ℕ) (ws : List Desc) → (own_rule s ws).place ≡ 0
unfolding own_rule
own_plain s [] = refl
own_plain s (z ∷ ds) = if_plain _ _ _ (if_plain _ _ _ (if_plain _ _ _ (if_plain _ _ _ refl)))

own_nowhere : (s : List ℕ) (ws : List Desc) → Nowhere (own_rule s ws)
unfolding own_rule of_entry has_place
own_nowhere s [] = refl
own_nowhere s (z ∷ ds) = if_nowhere _ _ _ refl (if_nowhere _ _ _ refl (if_nowhere _ _ _ refl (if_nowhere _ _ _ refl refl)))

-- ---- the line named

-- the search over the features, by their index
flags_first : (es ds : List Desc) (i : ℕ) → ((j : ℕ) → flags_rule_at es (i + j) ≡ flags_rule_at ds j)
    → flags_faults (suc i) ds ≡ first_of (λ j. placed (flags_rule_at es j) (suc j)) i (length ds)
unfolding flags_faults first_of flags_rule_at
flags_first es [] i h = refl
flags_first es (d ∷ ds) i h =
    let here : flags_rule d.flags ≡ flags_rule_at es i = sym (h 0) ∙ ap (flags_rule_at es) (omega arith) in
    let next : flags_faults (suc i + 1) ds ≡ first_of (λ j. placed (flags_rule_at es j) (suc j)) (suc i) (length ds) =
    rw add-one (flags_first es ds (suc i) (λ j. ap (flags_rule_at es) (omega arith) ∙ h (suc j))) in
    ap₂ (λ (x y : Refusal). placed x (suc i) or_else y) here next

sheet_located : (ws : List Desc) → LocatedAmong ws (sheet_rule ws)
unfolding sheet_rule captured list_body flags_rule_at of_entry has_place
sheet_located [] = located_nowhere _ _ _ _ accept refl refl
sheet_located (z ∷ ds) =
    let n : length (captured (z ∷ ds)).profiles ≡ length z.body / 4 = length_profiles_of z.body in
    or_else_by (LocatedAmong (z ∷ ds)) (records_fault z.body) (flags_faults 1 ds)
    (λ k. located_profile _ _ _ _ k (omega arith))
    (λ none. located_first _ _ _ _ none (omega arith) (λ i. flags_entry _) _ (flags_first ds ds 0 (λ j. ap (flags_rule_at ds) (omega arith))))

-- The place is 0 exactly where the number has none; else it is that of the first profile or entry at fault.
pub capture_located : (s : List ℕ) → LocatedAmong (descs s) (capture_fault s)
unfolding capture_fault
capture_located s =
    let plain = located_nowhere (list_body (descs s)) (length (captured (descs s)).profiles) (flags_rule_at (captured (descs s)).features) (length (captured (descs s)).features) in
    or_else_by (LocatedAmong (descs s)) _ _ (λ k. plain _ (complete_plain s) (complete_nowhere s))
    (λ e. or_else_by (LocatedAmong (descs s)) _ _ (λ k. plain _ (own_plain s (descs s)) (own_nowhere s (descs s))) (λ e. sheet_located (descs s)))

-- So it is in the answer.
pub check_located : (s : List ℕ) → LocatedAmong (descs s) (capture_of s).refusal
check_located s = rw (capture_refusal s (capture_of s) refl) (capture_located s)

-- ---- document 01's number

old_flags_is : (k : ℕ) (ds : List Desc) → All (λ (d : Desc). text.version d.flags ≡ 0) ds → Renumbered (old_flags ds) (flags_faults k ds)
unfolding old_flags flags_faults old
old_flags_is k [] v = refl
old_flags_is k (d ∷ ds) v = or_else_old _ _ (placed (flags_rule d.flags) k) _ (rw (placed_number (flags_rule d.flags) k) (flags_old d.flags v.0)) (old_flags_is (k + 1) ds v.1)

old_sheet_is : (ws : List Desc) → NoVersionsAmong ws → Renumbered (records_fault (list_body ws) or_else old_flags (captured ws).features) (sheet_rule ws)
unfolding pick_zero ◌or_else◌ first_of old records_fault sheet_rule captured list_body old_flags
old_sheet_is [] v = refl
old_sheet_is (z ∷ ds) v =
    or_else_old (records_fault z.body) (old_flags ds) (records_fault z.body) (flags_faults 1 ds) (same_old (records_fault z.body) (records_not_entry z.body)) (old_flags_is 1 ds v)

-- Where there is no Version, the number with 5 for each fault of flags is the old one of the number that is given.
pub capture_old : (s : List ℕ) → NoVersionsAmong (descs s) → (old_capture s).number ≡ old (capture_fault s).number
unfolding old_capture capture_fault
capture_old s v =
    or_else_old _ _ _ _ (nowhere_old (complete_fault s) (complete_nowhere s))
    (or_else_old _ _ _ _ (nowhere_old (own_rule s (descs s)) (own_nowhere s (descs s))) (old_sheet_is (descs s) v))

pub check_old : (s : List ℕ) → NoVersionsAmong (descs s) → (old_capture s).number ≡ old (capture_of s).refusal.number
check_old s v = rw (capture_refusal s (capture_of s) refl) (capture_old s v)
