-- Which rule is the first that a response breaks, in the paper's order and its own numbers, and the table of lengths and body bits in numbers. It stands in
-- this crate so that code, definition and laws that are changed together are refused by it. Assumes nothing.
use borrow.Author.Tests.{eqb-true, eqb-false, eq-eqb, ne_eqb, not-true, not-false}
use mathlib.Core.Path.{◌≡◌, refl, sym, ap, subst, ◌∙◌}
use mathlib.Core.Logic.{◌⊎◌, inl, inr}
use mathlib.Core.Bool.{Bool, true, false, not, true≢false}
use mathlib.Core.List.{List, [], ◌∷◌, ◌++◌, map, append-nil, append_assoc}
use Prim.Native.Nat.{ℕ, zero, suc, ◌*◌, ◌/◌, ◌%◌, ◌≤◌, ◌<◌}
use native.Mathlib.Omega.{arith}
use lib.Bits.{bit_and}
use lib.Dec.{eqb}
use lib.ListN.{length, get_or}
use Rattle.base.specs.Lists.{All}
use Rattle.base.specs.Pick.{pick}
use Rattle.base.proofs.Lists.{all_append}
use Rattle.base.proofs.Pick.{pick_here, pick_past}
use Rattle.fields.specs.Field.{field, spell}
use Rattle.refusal.specs.declared.Refusal.{Refusal}
use Rattle.refusal.specs.First.{refuse, accept, ◌if◌else◌, pick_zero, ◌or_else◌, first_of, unless}
use Rattle.refusal.proofs.First.{or_else_assoc, or_else_none, or_else_fault, first_all, first_accept}
use Rattle.refusal.proofs.Order.{Rule, broken, kept, None, rule_first, rule_last, rule_or_else}
use Rattle.text.specs.Flags.{version, newer, flags_giving}
use Rattle.text.specs.Reading as text
use Rattle.text.specs.Drive.{Desc}
use Rattle.reading.specs.Places.{descs, reported}
use Rattle.reading.specs.Completed.{complete_fault}
use Rattle.checks.specs.declared.Finding.{Finding}
use Rattle.legal.specs.declared.Length.{Length}
use Rattle.legal.specs.declared.Length.TheVariants.{Any, Exactly, Counted}
use Rattle.legal.specs.declared.Row.{Row}
use Rattle.legal.specs.Legal.{mask_bytes, legal, other, row_of}
use Rattle.legal.specs.Bodies.{byte_of, is_too_short, is_too_long, wrong_length, mask_at, reserved_rule, reserved_at, cue_rule}
use Rattle.checks.specs.Rules.{flags_fault, flags_short, flags_barred, row_rule, profile_at, profiles_fault, body_fault, desc_fault}
use Rattle.checks.specs.Check.{finding, ◌or_next◌, first_finding, checked_all, checked}
use Rattle.checks.specs.Faultless.{AtLeast, AtMost, Passes}
use Rattle.base.proofs.Bools.{not_yes, not_no, and_true, and_false}
use Rattle.refusal.proofs.Calls.{if_yes, if_no}
use Rattle.checks.proofs.Findings.{next_none, core_missing, core_there}
use Rattle.checks.proofs.Faultless.{not_newer, of_version, length_good, length_accept, both_good, both_accept, free_good, free_accept, bits_good, bits_accept, cue_good, cue_accept, profiles_good, profiles_accept, passes_of}

-- ---- the table, in numbers

-- a row: the feature, whether Persistent is barred, and the bits that may be 1 in twelve bytes of its body
pub record Numbers : Type 0 where
  pub feature : ℕ
  pub length : Length
  pub barred : Bool
  pub bits : List ℕ

abbrev numbers_of : Row → Numbers
numbers_of r = record { feature = r.0.0; length = r.1; barred = r.3; bits = mask_bytes r.2 }

abbrev of4 : (feature : ℕ) → Length → Bool → (a b c d : ℕ) → Numbers
of4 f l p a b c d = record { feature = f; length = l; barred = p; bits = a ∷ b ∷ c ∷ d ∷ 0 ∷ 0 ∷ 0 ∷ 0 ∷ 0 ∷ 0 ∷ 0 ∷ 0 ∷ [] }

pub legal_numbers : map numbers_of legal ≡
    record { feature = 0x0000; length = Any; barred = false; bits = 0xFF ∷ 0xFF ∷ 1 ∷ 0 ∷ 0xFF ∷ 0xFF ∷ 1 ∷ 0 ∷ 0xFF ∷ 0xFF ∷ 1 ∷ 0 ∷ [] } ∷
    of4 0x0001 (Exactly 4) false 0xFF 0xFF 0xFF 0xFF ∷
    of4 0x0002 (Exactly 4) false 0x01 0 0 0 ∷
    of4 0x0003 (Exactly 4) false 0xED 0 0 0 ∷
    of4 0x001F (Exactly 0) true 0 0 0 0 ∷
    record { feature = 0x0020; length = Exactly 12; barred = true; bits = 0xFF ∷ 0xFF ∷ 0xFF ∷ 0xFF ∷ 0xFF ∷ 0xFF ∷ 0xFF ∷ 0xFF ∷ 0xFF ∷ 0xFF ∷ 1 ∷ 0 ∷ [] } ∷
    of4 0x0021 Counted true 0 0 0 0xFF ∷
    of4 0x0026 (Exactly 4) true 0xFF 0xFF 0xFF 0xFF ∷
    of4 0x002D (Exactly 4) true 0x07 0 0 0 ∷
    of4 0x002E (Exactly 4) true 0x3F 0xFF 0xFF 0xFF ∷
    of4 0x002F (Exactly 4) true 0x04 0 0 0 ∷ []
unfolding legal mask_bytes spell
legal_numbers = refl

-- ---- the first rule that a descriptor breaks

-- one element or more has P
abbrev pub Some : {A : Type 0} → (A → Type 0) → List A → Type 0
Some P [] = ⊥
Some P (x ∷ xs) = P x ⊎ Some P xs

abbrev pub Reports : ℕ → List Desc → Type 0
Reports f ds = Some (λ (d : Desc). d.number ≡ f) ds

-- the number k that is given for the descriptor d of the response with the descriptors ds, in the paper's order; each rule as it is kept. With a Version above 0
-- a body may be longer, and what stands in it is not looked at
abbrev pub Breaks : List Desc → Desc → ℕ → Type 0
Breaks ds d =
    Rule 33 (d.flags / 64 ≡ 0)
    (Rule 34 (d.flags / 2 % 2 ≡ 1 → d.flags % 2 ≡ 1)
    (Rule 31 (AtLeast (row_of d.number).1 d.body × (d.flags / 4 % 16 ≡ 0 → AtMost (row_of d.number).1 d.body))
    (Rule 32 (d.number ≤ 3 → (d.flags / 2 % 2 ≡ 1) × (d.flags % 2 ≡ 1))
    (Rule 35 ((row_of d.number).3 ≡ true → Reports 3 ds → d.flags / 2 % 2 ≡ 0)
    (Rule 36 (d.flags / 4 % 16 ≡ 0 → (k : ℕ) → k < length d.body
    → bit_and (get_or d.body k 0) (mask_at (row_of d.number).1 (row_of d.number).2 (byte_of d.body 7) k) ≡ get_or d.body k 0)
    (Rule 37 (d.flags / 4 % 16 ≡ 0 → d.number ≡ 0x002E → get_or d.body 0 0 / 32 % 2 ≡ 0 → field 3 d.body 1 ≡ 0)
    (Rule 39 (d.flags / 4 % 16 ≡ 0 → d.number ≡ 0x0000 → (i : ℕ) → i < length d.body / 4 → 0 < field 2 d.body (4 * i))
    None)))))))

-- what is found in a complete response with the descriptors ds: 30 with the lower feature that is missing; else the first descriptor that breaks a rule
pub data Found (ds : List Desc) (f : Finding) : Type 0 where
  no_list : f ≡ finding (refuse 30) 0 → (Reports 0 ds → ⊥) → Found ds f
  no_core : f ≡ finding (refuse 30) 1 → Reports 0 ds → (Reports 1 ds → ⊥) → Found ds f
  first : Reports 0 ds → Reports 1 ds → (xs : List Desc) (d : Desc) (ys : List Desc) → ds ≡ xs ++ d ∷ ys → All (λ (x : Desc). Breaks ds x 0) xs
      → (f.refusal.number ≡ 0 → ⊥) → Breaks ds d f.refusal.number → f.feature.0 ≡ d.number → Found ds f
  nothing : Reports 0 ds → Reports 1 ds → All (λ (d : Desc). Breaks ds d 0) ds → f ≡ finding accept 0 → Found ds f

-- ---- a feature is reported

module _ (f : ℕ) where
  reports_of : (ds : List Desc) → reported f ds ≡ true → Reports f ds
  unfolding reported pick
  reports_of [] e = absurd (true≢false (sym e))
  reports_of (d ∷ ds) e = go (eqb d.number f) refl (reports_of ds)
    where
      go : (b : Bool) → eqb d.number f ≡ b → (reported f ds ≡ true → Reports f ds) → Reports f (d ∷ ds)
      go true q h = inl (eqb-true _ _ q)
      go false q h = inr (h (sym (pick_past (λ (x : Desc). eqb x.number f) (λ x. true) false d ds q) ∙ e))

  of_reports : (ds : List Desc) → Reports f ds → reported f ds ≡ true
  unfolding reported
  of_reports [] x = elim x [ ]
  of_reports (d ∷ ds) (inl e) = pick_here (λ (x : Desc). eqb x.number f) (λ x. true) false d ds (eq-eqb _ _ e)
  of_reports (d ∷ ds) (inr h) = go (eqb d.number f) refl (of_reports ds h)
    where
      go : (b : Bool) → eqb d.number f ≡ b → reported f ds ≡ true → reported f (d ∷ ds) ≡ true
      go true q r = pick_here (λ (x : Desc). eqb x.number f) (λ x. true) false d ds q
      go false q r = pick_past (λ (x : Desc). eqb x.number f) (λ x. true) false d ds q ∙ r

  not_reports : (ds : List Desc) → reported f ds ≡ false → Reports f ds → ⊥
  not_reports ds e h = true≢false (sym (of_reports ds h) ∙ e)

-- ---- a rule's number

if_number : (n : ℕ) (b : Bool) → ((refuse n if b else accept).number ≡ 0) ⊎ ((refuse n if b else accept).number ≡ n)
unfolding ◌if◌else◌
if_number n true = inr refl
if_number n false = inl refl

-- of rules that give one number, the first gives it too
first_number : (n : ℕ) (f : ℕ → Refusal) → ((i : ℕ) → ((f i).number ≡ 0) ⊎ ((f i).number ≡ n)) → (i k : ℕ) → ((first_of f i k).number ≡ 0) ⊎ ((first_of f i k).number ≡ n)
unfolding first_of
first_number n f h i zero = inl refl
first_number n f h i (suc k) = go (f i).number refl (h i) (first_number n f h (suc i) k)
  where
    go : (m : ℕ) → (f i).number ≡ m → ((f i).number ≡ 0) ⊎ ((f i).number ≡ n) → ((first_of f (suc i) k).number ≡ 0) ⊎ ((first_of f (suc i) k).number ≡ n)
        → ((f i or_else first_of f (suc i) k).number ≡ 0) ⊎ ((f i or_else first_of f (suc i) k).number ≡ n)
    go zero e x r = rw (or_else_none (f i) (first_of f (suc i) k) e) r
    go (suc m) e x r = rw (or_else_fault (f i) (first_of f (suc i) k) (λ z. omega arith)) x

only_number : {k n : ℕ} → (k ≡ 0) ⊎ (k ≡ n) → (k ≡ 0 → ⊥) → k ≡ n
only_number (inl e) h = absurd (h e)
only_number (inr e) h = e

-- a check that gives one number, and nothing behind it
rule_only : (n : ℕ) (a : Refusal) {holds : Type 0} → (a.number ≡ 0 → holds) → ((a.number ≡ 0 → ⊥) → (a.number ≡ n) × (holds → ⊥)) → Rule n holds None a.number
rule_only n a {holds} f g = go a.number refl
  where
    go : (m : ℕ) → a.number ≡ m → Rule n holds None a.number
    go zero e = kept (f e) e
    go (suc m) e = let x = g (λ z. omega arith) in broken x.0 x.1

number_of : {r : Refusal} → r ≡ accept → r.number ≡ 0
number_of e = ap (λ (r : Refusal). r.number) e

-- ---- the definition's rules are these

module _ (ds : List Desc) (d : Desc) where
  abbrev row : Row
  row = row_of d.number

  abbrev Body : ℕ → Type 0
  Body =
      Rule 36 (d.flags / 4 % 16 ≡ 0 → (k : ℕ) → k < length d.body
      → bit_and (get_or d.body k 0) (mask_at (row_of d.number).1 (row_of d.number).2 (byte_of d.body 7) k) ≡ get_or d.body k 0)
      (Rule 37 (d.flags / 4 % 16 ≡ 0 → d.number ≡ 0x002E → get_or d.body 0 0 / 32 % 2 ≡ 0 → field 3 d.body 1 ≡ 0)
      (Rule 39 (d.flags / 4 % 16 ≡ 0 → d.number ≡ 0x0000 → (i : ℕ) → i < length d.body / 4 → 0 < field 2 d.body (4 * i))
      None))

  -- the body, where it is looked at
  module _ (v : version d.flags ≡ 0) where
    abbrev profiles : Refusal
    profiles = profiles_fault d.number d.body

    numbered : (profiles.number ≡ 0) ⊎ (profiles.number ≡ 39)
    unfolding profiles_fault profile_at ◌if◌else◌
    numbered = go (not (eqb d.number 0x0000))
      where
        go : (b : Bool) → ((accept if b else first_of (profile_at d.body) 0 (length d.body / 4)).number ≡ 0)
            ⊎ ((accept if b else first_of (profile_at d.body) 0 (length d.body / 4)).number ≡ 39)
        go true = inl refl
        go false = first_number 39 (profile_at d.body) (λ i. if_number 39 (eqb (field 2 d.body (4 * i)) 0)) 0 (length d.body / 4)

    looked_breaks : Body (first_of (reserved_at row d.body) 0 (length d.body) or_else cue_rule d.number (byte_of d.body 4) (field 3 d.body 1) or_else profiles).number
    unfolding reserved_at reserved_rule cue_rule
    looked_breaks =
        rule_or_else 36 _ _
        (λ e w k l. bits_good _ _ (first_all (reserved_at row d.body) (length d.body) e k l))
        (λ h. (
          only_number (first_number 36 (reserved_at row d.body) (λ i. if_number 36 _) 0 (length d.body)) h,
          λ g. h (number_of (first_accept (reserved_at row d.body) 0 (length d.body) (λ k l m. number_of (bits_accept _ _ (g v k (omega arith)))))),
        ))
        (rule_or_else 37 _ _
        (λ e w. cue_good d.number (byte_of d.body 4) (field 3 d.body 1) e)
        (λ h. (only_number (if_number 37 _) h, λ g. h (number_of (cue_accept d.number (byte_of d.body 4) (field 3 d.body 1) (g v)))))
        (rule_only 39 profiles
        (λ e w. profiles_good d.number d.body e)
        (λ h. (only_number numbered h, λ g. h (number_of (profiles_accept d.number d.body (g v)))))))

  body_breaks : Body (body_fault row d.number d.flags d.body).number
  unfolding body_fault
  body_breaks = go (newer d.flags) refl
    where
      go : (b : Bool) → newer d.flags ≡ b → Body (body_fault row d.number d.flags d.body).number
      go true e =
          let no : version d.flags ≡ 0 → ⊥ = λ v. true≢false (sym e ∙ not_newer d.flags v) in
          rw (if_yes accept _ (newer d.flags) e) (kept (λ v. absurd (no v)) (kept (λ v. absurd (no v)) (kept (λ v. absurd (no v)) refl)))
      go false e = rw (if_no accept _ (newer d.flags) e) (looked_breaks (of_version d.flags e))

  pub desc_breaks : Breaks ds d (desc_fault (reported 3 ds) d).number
  unfolding desc_fault flags_fault flags_giving row_rule
  desc_breaks =
      subst (λ (r : Refusal). Breaks ds d r.number) (sym (or_else_assoc _ _ _))
      (rule_last 32 _ _ (λ e. eqb-true _ _ (not-false _ e)) (λ e h. eqb-false _ _ (not-true _ e) h)
      (rule_last 33 _ _ (λ e p. eqb-true _ _ (not-false _ (and_false _ _ e (eq-eqb _ _ p))))
      (λ e h. let a = and_true _ _ e in eqb-false _ _ (not-true _ a.1) (h (eqb-true _ _ a.0)))
      (rule_first 30 _ _ _ (λ e. length_good row.1 d.flags d.body e) (λ e h. true≢false (sym e ∙ length_accept row.1 d.flags d.body h.0 h.1))
      (rule_first 31 _ _ _ (λ e. both_good d.number d.flags e) (λ e h. true≢false (sym e ∙ both_accept d.number d.flags h))
      (rule_last 34 _ _ (λ e b r. free_good row.3 (reported 3 ds) d.flags e b (of_reports 3 ds r))
      (λ e h. true≢false (sym e ∙ free_accept row.3 (reported 3 ds) d.flags (λ b r. h b (reports_of 3 ds r))))
      body_breaks)))))

-- ---- a response

module _ (ds : List Desc) where
  abbrev Keeps : Desc → Type 0
  Keeps d = Breaks ds d 0

  abbrev faulty : Desc → Bool
  faulty d = not (eqb (desc_fault (reported 3 ds) d).number 0)

  module _ (list : Reports 0 ds) (core : Reports 1 ds) where
    -- ys are left, and xs, which stand before them, break no rule
    first_found : (xs ys : List Desc) → ds ≡ xs ++ ys → All Keeps xs → Found ds (first_finding (reported 3 ds) ys)
    unfolding first_finding pick
    first_found xs [] e a = nothing list core (subst (All Keeps) (sym (e ∙ append-nil xs)) a) refl
    first_found xs (d ∷ ys) e a = go (desc_fault (reported 3 ds) d).number refl (λ k. first_found (xs ++ (d ∷ [])) ys (e ∙ sym (append_assoc xs (d ∷ []) ys)) (all_append Keeps xs (d ∷ []) a (k, tt)))
      where
        go : (n : ℕ) → (desc_fault (reported 3 ds) d).number ≡ n → (Keeps d → Found ds (first_finding (reported 3 ds) ys)) → Found ds (first_finding (reported 3 ds) (d ∷ ys))
        go zero q more =
            subst (Found ds) (sym (pick_past faulty (λ (x : Desc). finding (desc_fault (reported 3 ds) x) x.number) (finding accept 0) d ys (not_no _ (eq-eqb _ _ q))))
            (more (subst (Breaks ds d) q (desc_breaks ds d)))
        go (suc n) q more =
            let h : (desc_fault (reported 3 ds) d).number ≡ 0 → ⊥ = λ z. omega arith in
            subst (Found ds) (sym (pick_here faulty (λ (x : Desc). finding (desc_fault (reported 3 ds) x) x.number) (finding accept 0) d ys (not_yes _ (ne_eqb _ _ h))))
            (first list core xs d ys e a h (desc_breaks ds d) refl)

  all_found : Found ds (checked_all ds)
  unfolding checked_all
  all_found = zero_there (reported 0 ds) refl
    where
      one_there : Reports 0 ds → (b : Bool) → reported 1 ds ≡ b → Found ds (finding (refuse 30 if not (reported 1 ds) else accept) 1 or_next first_finding (reported 3 ds) ds)
      one_there h true e = subst (Found ds) (sym (core_there 1 _ _ e)) (first_found h (reports_of 1 ds e) [] ds refl tt)
      one_there h false e = no_core (core_missing 1 _ _ e) h (not_reports 1 ds e)

      zero_there : (b : Bool) → reported 0 ds ≡ b → Found ds (checked_all ds)
      zero_there true e = subst (Found ds) (sym (core_there 0 _ _ e)) (one_there (reports_of 0 ds e) (reported 1 ds) refl)
      zero_there false e = no_list (core_missing 0 _ _ e) (not_reports 0 ds e)

-- what is found in a response that is accepted and complete
pub found : (s : List ℕ) → (complete_fault s).number ≡ 0 → Found (descs s) (checked s)
unfolding checked
found s e = subst (Found (descs s)) (sym (next_none _ _ e)) (all_found (descs s))

-- ---- a response that passes: the recorder's of the paper, 44 bytes

unfoldable pub recorder : List ℕ
recorder =
    0x00 ∷ 0x00 ∷ 0x00 ∷ 0x28 ∷ 0x00 ∷ 0x00 ∷ 0x00 ∷ 0x12 ∷
    0x00 ∷ 0x00 ∷ 0x03 ∷ 0x08 ∷ 0x00 ∷ 0x12 ∷ 0x01 ∷ 0x00 ∷ 0x00 ∷ 0x10 ∷ 0x00 ∷ 0x00 ∷
    0x00 ∷ 0x01 ∷ 0x03 ∷ 0x04 ∷ 0x00 ∷ 0x00 ∷ 0x00 ∷ 0x02 ∷
    0x00 ∷ 0x03 ∷ 0x03 ∷ 0x04 ∷ 0x29 ∷ 0x00 ∷ 0x00 ∷ 0x00 ∷
    0x00 ∷ 0x1F ∷ 0x01 ∷ 0x00 ∷
    0x01 ∷ 0x05 ∷ 0x03 ∷ 0x00 ∷ []

pub recorder_passes : Passes recorder
unfolding recorder ◌if◌else◌ pick_zero ◌or_else◌ first_of unless field spell text.stated_length text.header_rule text.head_rule text.number_at text.flags_at text.length_at text.desc_at text.head_fault text.walk text.walked text.read_fault text.wholes complete_fault pick reported ◌or_next◌ first_finding checked_all checked flags_fault flags_giving is_too_short is_too_long wrong_length flags_short flags_barred row_rule mask_bytes legal other row_of mask_at reserved_rule reserved_at cue_rule profile_at profiles_fault body_fault desc_fault
recorder_passes = passes_of recorder refl
