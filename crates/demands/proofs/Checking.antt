-- The check of a response's descriptors: what it finds, and what can be found in our own response. The
-- box's response to an accepted sheet, RT 0 from 0, sent whole, passes, or breaks a rule that a sheet can break: 30 (feature 0 or 1 missing), 31
-- (length), 32 (flags not both 1), 35 (Persistent with 0003h reported), 36 (reserved body bit), 37 (cue sheet). Never a reading's number, 29, 33, 34
-- or 39. Assumes nothing.
use borrow.Author.Tests.{le-leb, ne_eqb}
use mathlib.Core.Path.{◌≡◌, refl, sym, ap, subst, ◌∙◌}
use mathlib.Core.Logic.{◌⊎◌, inl, inr}
use mathlib.Core.Bool.{Bool, true, false, not}
use mathlib.Core.List.{List, [], ◌∷◌, ◌++◌, append_assoc}
use Prim.Native.Nat.{ℕ, zero, suc, ◌*◌, ◌/◌, ◌≤◌, ◌<◌}
use native.Mathlib.Omega.{arith}
use lib.ListN.{length, take, drop, get_or, length-take}
use Rattle.base.specs.Lists.{flat, All, Bytes}
use Rattle.base.proofs.Lists.{all_map, all_get_d, drop_flat}
use Rattle.fields.specs.Field.{field, spell}
use Rattle.fields.proofs.Laws.{field_here}
use Rattle.refusal.specs.declared.Refusal.{Refusal}
use Rattle.refusal.specs.First.{refuse, accept, ◌if◌else◌, pick_zero, ◌or_else◌, first_of}
use Rattle.text.specs.Flags.{newer, flags_giving}
use Rattle.text.specs.Drive.{Desc, Listed, Drive, Sound, bit, profile_bytes}
use Rattle.text.specs.Response.{feature0, all, selected, full, sent}
use Rattle.refusal.proofs.First.{or_else_none, or_else_fault, first_accept}
use Rattle.text.proofs.FlagsRule.{flags_good, flags_accept}
use Rattle.text.proofs.Profiles.{length_profiles}
use Rattle.text.proofs.Selection.{asc_above, all_asc, from_all}
use Rattle.text.proofs.Sizes.{length_full}
use Rattle.text.proofs.Packing.{length_flat_bytes, whole_every}
use Rattle.text.proofs.Sent.{sent_whole_here}
use Rattle.text.proofs.Own.{read_fault_sent, wholes_sent, complete_sent}
use Rattle.profiles.specs.Profiles.{Distinct}
use Rattle.layout.specs.Layout.{Sheet}
use Rattle.sheet.specs.Check as sheet
use Rattle.sheet.specs.Meaning.{meaning, Fine}
use Rattle.sheet.proofs.Meaning.{meaning_fine}
use Rattle.checks.specs.declared.Finding.{Finding}
use Rattle.legal.specs.declared.Row.{Row}
use Rattle.legal.specs.Legal.{row_of}
use Rattle.base.specs.Pick.{pick}
use Rattle.legal.specs.Bodies.{byte_of, reserved_rule, reserved_at, cue_rule}
use Rattle.checks.specs.Rules.{flags_fault, row_rule, profile_at, profiles_fault, body_fault, desc_fault}
use Rattle.reading.specs.Places.{descs, reported}
use Rattle.reading.specs.Completed.{complete_fault}
use Rattle.checks.specs.Check.{finding, first_finding, checked_all, checked}
use Rattle.checks.specs.Faultless.{Passes}
use Rattle.base.proofs.Bools.{not_yes, not_no}
use Rattle.refusal.proofs.Calls.{if_yes, if_no}
use Rattle.checks.proofs.Findings.{next_fault}
use Rattle.mend.proofs.Found.{next_is}
use Rattle.base.proofs.Pick.{pick_here, pick_past}
use Rattle.checks.proofs.Faultless.{passes_of, of_passes}
use Rattle.refusal.proofs.Numbers.{if_holds, or_else_holds}
use Rattle.demands.proofs.Sheets.{one_of}
use Rattle.checks.proofs.Found.{Found, found}

-- no fault, or one of the six
abbrev pub Findings : ℕ → Type 0
Findings k = (k ≡ 0) ⊎ ((k ≡ 30) ⊎ ((k ≡ 31) ⊎ ((k ≡ 32) ⊎ ((k ≡ 35) ⊎ ((k ≡ 36) ⊎ (k ≡ 37))))))

none : Findings 0
none = inl refl

-- ---- a search for the first refusal gives a number of one of its rules, or 0

if_of : (x y : Refusal) (b : Bool) → Findings x.number → Findings y.number → Findings (x if b else y).number
unfolding ◌if◌else◌
if_of x y true h k = h
if_of x y false h k = k

or_else_of : (a b : Refusal) → Findings a.number → Findings b.number → Findings (a or_else b).number
or_else_of a b h k = go a.number refl
  where
    go : (n : ℕ) → a.number ≡ n → Findings (a or_else b).number
    go zero e = rw (or_else_none a b e) k
    go (suc n) e = rw (or_else_fault a b (λ z. omega arith)) h

first_of_law : (f : ℕ → Refusal) → ((i : ℕ) → Findings (f i).number) → (i k : ℕ) → Findings (first_of f i k).number
unfolding first_of
first_of_law f h i zero = none
first_of_law f h i (suc k) = or_else_of (f i) (first_of f (suc i) k) (h i) (first_of_law f h (suc i) k)

pick_of : {A B : Type 0} (P : B → Type 0) (test : A → Bool) (found : A → B) (other : B) (xs : List A) → All (λ (x : A). P (found x)) xs → P other
    → P (pick test found other xs)
unfolding pick
pick_of P test found other [] a k = k
pick_of P test found other (x ∷ xs) a k = go (test x) refl (pick_of P test found other xs a.1 k)
  where
    go : (t : Bool) → test x ≡ t → P (pick test found other xs) → P (pick test found other (x ∷ xs))
    go true e r = rw (pick_here test found other x xs e) a.0
    go false e r = rw (pick_past test found other x xs e) r

-- ---- a descriptor without 33, 34 and 39

row_of_law : (row : Row) (removable : Bool) (number flags n len : ℕ) → Findings (row_rule row removable number flags n len).number
unfolding row_rule
row_of_law row removable number flags n len =
    if_of _ _ _ (inr (inr (inl refl))) (if_of _ _ _ (inr (inr (inr (inl refl)))) (if_of _ _ _ (inr (inr (inr (inr (inl refl))))) none))

reserved_of : (byte mask : ℕ) → Findings (reserved_rule byte mask).number
unfolding reserved_rule
reserved_of byte mask = if_of _ _ _ (inr (inr (inr (inr (inr (inl refl)))))) none

cue_of : (number byte4 cue : ℕ) → Findings (cue_rule number byte4 cue).number
unfolding cue_rule
cue_of number byte4 cue = if_of _ _ _ (inr (inr (inr (inr (inr (inr refl)))))) none

-- what a drive's descriptor gives to the check
record Own (d : Desc) : Type 0 where
  flagged : flags_fault d.flags ≡ accept
  numbered : profiles_fault d.number d.body ≡ accept

module _ (removable : Bool) (d : Desc) (o : Own d) where
  desc_of_here : Findings (desc_fault removable d).number
  unfolding desc_fault body_fault reserved_at
  desc_of_here =
      let row : Row = row_of d.number in
      or_else_of _ _ (rw o.flagged none)
      (or_else_of _ _ (row_of_law row removable d.number d.flags (byte_of d.body 7) (length d.body))
      (if_of _ _ _ none
      (or_else_of _ _ (first_of_law (reserved_at row d.body) (λ k. reserved_of _ _) 0 (length d.body))
      (or_else_of _ _ (cue_of d.number (byte_of d.body 4) (field 3 d.body 1))
      (rw o.numbered none)))))

all_of : (ds : List Desc) → All Own ds → Findings (checked_all ds).refusal.number
unfolding checked_all first_finding
all_of ds a =
    let core : (f : ℕ) → Findings (refuse 30 if not (reported f ds) else accept).number = λ f. if_of _ _ _ (inr (inl refl)) none in
    next_is Findings _ _ (core 0)
    (next_is Findings _ _ (core 1)
    (pick_of (λ (x : Finding). Findings x.refusal.number) _ _ (finding accept 0) ds
    (all_map Own (λ (d : Desc). Findings (desc_fault (reported 3 ds) d).number) (desc_of_here (reported 3 ds)) ds a)
    none))

-- ---- every descriptor of a drive is such a one

-- the sheet's rules 5 and 44 test what 33 and 34 test
flags_own : (f : ℕ) → (sheet.flags_rule f).number ≡ 0 → flags_fault f ≡ accept
unfolding flags_fault sheet.flags_rule
flags_own f e =
    flags_accept (refuse 33) (refuse 34) f (flags_good (refuse 5) (refuse 44) f (λ z. absurd (omega arith)) (λ z. absurd (omega arith)) e)

feature_own : (d : Desc) → 1 ≤ d.number → (sheet.flags_rule d.flags).number ≡ 0 → Own d
unfolding profiles_fault
feature_own d h e = record {
  flagged = flags_own d.flags e;
  numbered = if_yes _ _ _ (not_yes _ (ne_eqb d.number 0x0000 (λ z. omega arith)));
}

features_own : (ds : List Desc) → All (λ (d : Desc). 1 ≤ d.number) ds → All (λ (d : Desc). (sheet.flags_rule d.flags).number ≡ 0) ds → All Own ds
features_own [] a b = tt
features_own (d ∷ ds) a b = (feature_own d a.0 b.0, features_own ds a.1 b.1)

distinct_above : (ps : List Listed) → Distinct ps → All (λ (p : Listed). 0 < p.number) ps
distinct_above [] h = tt
distinct_above (p ∷ ps) h = (h.0, distinct_above ps h.2)

module _ (ps : List Listed) (above : All (λ (p : Listed). 0 < p.number) ps) (low : All (λ (p : Listed). p.number < 65536) ps) where
  -- profile i's number in the body of feature 0
  listed_here : (i : ℕ) → i < length ps → 0 < field 2 (flat profile_bytes ps) (4 * i)
  unfolding profile_bytes
  listed_here i l =
      let z : Listed = record { number = 0; on = false } in
      let p : Listed = get_or ps i z in
      let x : List ℕ = flat profile_bytes (drop (suc i) ps) in
      let n : length (flat profile_bytes (take i ps)) ≡ 4 * i = omega (arith, length_profiles (take i ps), length-take i ps) in
      let e : drop (4 * i) (flat profile_bytes ps) ≡ spell 2 p.number ++ ((bit p.on ∷ 0 ∷ []) ++ x) =
      ap (λ (k : ℕ). drop k (flat profile_bytes ps)) (sym n) ∙ drop_flat profile_bytes ps z i l ∙ append_assoc (spell 2 p.number) (bit p.on ∷ 0 ∷ []) x in
      let u : 0 < p.number = all_get_d (λ (p : Listed). 0 < p.number) ps z above i l in
      let v : p.number < 65536 = all_get_d (λ (p : Listed). p.number < 65536) ps z low i l in
      rw (field_here (flat profile_bytes ps) (4 * i) 2 p.number ((bit p.on ∷ 0 ∷ []) ++ x) e v) u

  zero_own : Own (feature0 ps)
  unfolding feature0 profiles_fault profile_at flags_fault flags_giving ◌if◌else◌ pick_zero ◌or_else◌
  zero_own = record {
    flagged = refl;
    numbered =
        first_accept (profile_at (flat profile_bytes ps)) 0 (length (flat profile_bytes ps) / 4)
        (λ j l m.
        let k : 0 < field 2 (flat profile_bytes ps) (4 * j) = listed_here j (omega (arith, length_profiles ps)) in
        ap (λ (r : Refusal). r.number) (if_no (refuse 39) accept _ (ne_eqb (field 2 (flat profile_bytes ps) (4 * j)) 0 (λ o. omega arith))));
  }

drive_own : {m : Drive} → Fine m → All Own (all m)
unfolding all
drive_own {m} g = (
  zero_own m.profiles (distinct_above m.profiles g.distinct) g.sound.profiles_low,
  features_own m.features (asc_above 1 m.features g.sound.ascending) g.legal,
)

-- ---- the response is read, and all descriptors with it

module _ {m : Drive} (good : Sound m) (h : length (full 0 0 m) ≤ 65534) where
  sent_full : sent 0 0 65534 m ≡ full 0 0 m
  sent_full = sent_whole_here 0 0 65534 m h h

  input_own : complete_fault (full 0 0 m) ≡ accept
  unfolding complete_fault
  input_own =
      rw (← sent_full)
      (or_else_none _ _ (ap (λ (r : Refusal). r.number) (read_fault_sent good 0 0 65534 (omega arith) 65534 (omega arith) (omega arith)))
      ∙ if_no _ _ _ (not_no _ (complete_sent good 0 0 65534 (omega arith) ∙ le-leb (length (full 0 0 m)) 65534 h)))

  selected_own : selected 0 0 m ≡ all m
  unfolding selected
  selected_own = from_all 0 (all m) (asc_above 0 (all m) (all_asc good))

  descs_own : descs (full 0 0 m) ≡ all m
  descs_own =
      ap descs (sym sent_full)
      ∙ wholes_sent good 0 0 65534 (omega arith) 65534 (omega arith) (omega arith)
      ∙ whole_every 65526 (selected 0 0 m) (omega (arith, length_full 0 0 m, length_flat_bytes (selected 0 0 m)))
      ∙ selected_own

-- ---- the theorem

pub own_findings : (s : Sheet) → Bytes s.bytes → sheet.Accepted s → length (full 0 0 (meaning s)) ≤ 65534 → Findings (checked (full 0 0 (meaning s))).refusal.number
unfolding checked
own_findings s b ok h =
    let m : Drive = meaning s in
    let good : Fine m = meaning_fine s b ok in
    next_is Findings _ _
    (rw (input_own good.sound h) none)
    (rw (descs_own good.sound h) (all_of (all m) (drive_own good)))

-- ---- a Version above 0

-- the flags, length and Persistent rules alone, whatever stands in the body
abbrev pub newer_numbers : List ℕ
newer_numbers = 0 ∷ 33 ∷ 34 ∷ 31 ∷ 32 ∷ 35 ∷ []

abbrev AsNewer : ℕ → Type 0
AsNewer n = one_of newer_numbers n ≡ true

pub newer_findings : (removable : Bool) (d : Desc) → newer d.flags ≡ true → one_of newer_numbers (desc_fault removable d).number ≡ true
unfolding desc_fault flags_fault flags_giving row_rule body_fault one_of
newer_findings removable d e =
    or_else_holds AsNewer _ _ (or_else_holds AsNewer _ _ (if_holds AsNewer (refuse 33) _ _ refl refl) (if_holds AsNewer (refuse 34) _ _ refl refl))
    (or_else_holds AsNewer _ _ (if_holds AsNewer (refuse 31) _ _ refl (if_holds AsNewer (refuse 32) _ _ refl (if_holds AsNewer (refuse 35) _ _ refl refl)))
    (subst AsNewer (sym (ap (λ (r : Refusal). r.number) (if_yes accept _ (newer d.flags) e))) refl))

-- ---- of an answer

-- Of what the check of the descriptors finds in the response s, f: a refused input's number, else the first fault in the paper's order; none exactly
-- where no rule is broken.
pub record Finds (s : List ℕ) (f : Finding) : Type 0 where
  pub exact : f ≡ checked s
  pub refuses : ((complete_fault s).number ≡ 0 → ⊥) → f ≡ finding (complete_fault s) 0
  pub sound : f.refusal.number ≡ 0 → Passes s
  pub complete : Passes s → f ≡ finding accept 0
  -- of a complete response: 30 first, then the first descriptor that breaks a rule, with the first rule that it breaks, in the paper's order and numbers
  pub order : (complete_fault s).number ≡ 0 → Found (descs s) f
  pub own : (t : Sheet) → Bytes t.bytes → sheet.Accepted t → length (full 0 0 (meaning t)) ≤ 65534 → s ≡ full 0 0 (meaning t) → Findings f.refusal.number

pub finds : (s : List ℕ) → Finds s (checked s)
unfolding checked
finds s = record {
  exact = refl;
  refuses = next_fault (finding (complete_fault s) 0) (checked_all (descs s));
  sound = passes_of s;
  complete = of_passes s;
  order = found s;
  own = λ t b ok l e. rw e (own_findings t b ok l);
}
