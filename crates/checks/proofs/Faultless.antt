-- A response passes the check of its descriptors exactly when it has none of the faults. Assumes nothing.
use borrow.Author.Tests.{ltb-false, le-ltb, leb-true, le-leb, eqb-true, eqb-false, eq-eqb, ne_eqb, not-true, not-false}
use mathlib.Core.Path.{◌≡◌, refl, sym, ap, ◌∙◌}
use mathlib.Core.Bool.{Bool, true, false, not, ◌&&◌}
use mathlib.Core.List.{List, [], ◌∷◌}
use Prim.Native.Nat.{ℕ, ◌*◌, ◌/◌, ◌%◌, ◌≤◌, ◌<◌}
use native.Mathlib.Nat.{mod-lt}
use native.Mathlib.Omega.{arith}
use lib.Bits.{bit_and}
use lib.Dec.{eqb}
use lib.ListN.{length}
use Rattle.base.specs.Lists.{All}
use Rattle.base.proofs.Lists.{all_map}
use Rattle.fields.specs.Field.{field}
use Rattle.refusal.specs.declared.Refusal.{Refusal}
use Rattle.refusal.specs.First.{refuse, accept, ◌if◌else◌}
use Rattle.text.specs.Flags.{version, newer, persistent, current}
use Rattle.text.specs.Drive.{Desc}
use Rattle.text.proofs.FlagsRule.{flags_good, flags_accept}
use Rattle.refusal.proofs.First.{if_zero, or_else_zero, or_else_none, first_all, first_accept}
use Rattle.legal.specs.declared.Length.{Length}
use Rattle.legal.specs.declared.Length.TheVariants.{Any, Exactly, Counted}
use Rattle.checks.specs.declared.Finding.{Finding}
use Rattle.legal.specs.Legal.{row_of}
use Rattle.legal.specs.Bodies.{byte_of, is_too_short, is_too_long, wrong_length, reserved_rule, reserved_at, cue_rule}
use Rattle.checks.specs.Rules.{flags_fault, flags_short, flags_barred, row_rule, profile_at, profiles_fault, body_fault, desc_fault}
use Rattle.reading.specs.Places.{descs, reported}
use Rattle.checks.specs.Check.{finding, first_finding, checked_all, checked}
use Rattle.checks.specs.Faultless.{AtLeast, AtMost, Faultless, Passes}
use Rattle.base.proofs.Bools.{not_yes, not_no, and_false, false_and, and_true, true_and, or_false, false_or}
use Rattle.refusal.proofs.Calls.{if_yes, if_no}
use Rattle.base.proofs.Pick.{pick_here, pick_past, pick_never}
use Rattle.checks.proofs.Findings.{next_none, next_zero, core_there}

-- ---- a bit is 0 or 1

module _ (n : ℕ) where
  bit_low : n % 2 < 2
  bit_low = mod-lt n (omega arith)

  bit_zero : eqb (n % 2) 1 ≡ false → n % 2 ≡ 0
  bit_zero e = let k : n % 2 ≡ 1 → ⊥ = eqb-false _ _ e in omega (arith, bit_low)

-- ---- 31, 32 and 35

enough_is : (l : Length) (body : List ℕ) → (is_too_short l (byte_of body 7) (length body) ≡ false → AtLeast l body) × (AtLeast l body → is_too_short l (byte_of body 7) (length body) ≡ false)
unfolding is_too_short
enough_is Any body = (λ e. tt, λ h. refl)
enough_is (Exactly k) body = (ltb-false _ _, le-ltb _ _)
enough_is Counted body = (ltb-false _ _, le-ltb _ _)

no_more_is : (l : Length) (body : List ℕ) → (is_too_long l (byte_of body 7) (length body) ≡ false → AtMost l body) × (AtMost l body → is_too_long l (byte_of body 7) (length body) ≡ false)
unfolding is_too_long
no_more_is Any body = (λ e. tt, λ h. refl)
no_more_is (Exactly k) body = (ltb-false _ _, le-ltb _ _)
no_more_is Counted body = (ltb-false _ _, le-ltb _ _)

pub not_newer : (f : ℕ) → version f ≡ 0 → newer f ≡ false
not_newer f v = not_no _ (eq-eqb (version f) 0 v)

pub of_version : (f : ℕ) → newer f ≡ false → version f ≡ 0
of_version f e = eqb-true (version f) 0 (not-false _ e)

module _ (l : Length) (f : ℕ) (body : List ℕ) where
  pub length_good : wrong_length l f (byte_of body 7) (length body) ≡ false → AtLeast l body × (version f ≡ 0 → AtMost l body)
  unfolding wrong_length
  length_good e =
      let a = or_false _ _ e in
      ((enough_is l body).0 a.0, λ v. (no_more_is l body).0 (and_false _ _ a.1 (not_yes _ (not_newer f v))))

  pub length_accept : AtLeast l body → (version f ≡ 0 → AtMost l body) → wrong_length l f (byte_of body 7) (length body) ≡ false
  unfolding wrong_length
  length_accept h k = false_or _ _ ((enough_is l body).1 h) (false_and _ _ (λ n. (no_more_is l body).1 (k (of_version f (not-true _ n)))))

module _ (n f : ℕ) where
  pub both_good : flags_short n f ≡ false → n ≤ 0x0003 → (persistent f ≡ 1) × (current f ≡ 1)
  unfolding flags_short
  both_good e h =
      let a = and_true _ _ (not-false _ (and_false _ _ e (le-leb n 0x0003 h))) in
      (eqb-true _ _ a.0, eqb-true _ _ a.1)

  pub both_accept : (n ≤ 0x0003 → (persistent f ≡ 1) × (current f ≡ 1)) → flags_short n f ≡ false
  unfolding flags_short
  both_accept g =
      false_and _ _ (λ h. let a = g (leb-true n 0x0003 h) in not_no _ (true_and _ _ (eq-eqb _ _ a.0) (eq-eqb _ _ a.1)))

module _ (b r : Bool) (f : ℕ) where
  pub free_good : flags_barred b r f ≡ false → b ≡ true → r ≡ true → persistent f ≡ 0
  unfolding flags_barred
  free_good e h k = bit_zero (f / 2) (and_false (b && r) _ e (true_and b r h k))

  pub free_accept : (b ≡ true → r ≡ true → persistent f ≡ 0) → flags_barred b r f ≡ false
  unfolding flags_barred
  free_accept g =
      false_and (b && r) _
      (λ h.
      let a = and_true b r h in
      let z : persistent f ≡ 0 = g a.0 a.1 in
      ne_eqb (persistent f) 1 (λ o. absurd (omega arith)))

-- ---- 36, 37 and 39

module _ (byte mask : ℕ) where
  pub bits_good : (reserved_rule byte mask).number ≡ 0 → bit_and byte mask ≡ byte
  unfolding reserved_rule
  bits_good e = eqb-true _ _ (not-false _ (if_zero _ _ _ e).0)

  pub bits_accept : bit_and byte mask ≡ byte → reserved_rule byte mask ≡ accept
  unfolding reserved_rule
  bits_accept h = if_no _ _ _ (not_no _ (eq-eqb _ _ h))

module _ (number byte4 cue : ℕ) where
  pub cue_good : (cue_rule number byte4 cue).number ≡ 0 → number ≡ 0x002E → byte4 / 32 % 2 ≡ 0 → cue ≡ 0
  unfolding cue_rule
  cue_good e h k =
      eqb-true _ _ (not-false _ (and_false _ _ (if_zero _ _ _ e).0 (true_and _ _ (eq-eqb _ _ h) (eq-eqb _ _ k))))

  pub cue_accept : (number ≡ 0x002E → byte4 / 32 % 2 ≡ 0 → cue ≡ 0) → cue_rule number byte4 cue ≡ accept
  unfolding cue_rule
  cue_accept g =
      if_no _ _ _ (false_and _ _ (λ h. let a = and_true _ _ h in not_no _ (eq-eqb _ _ (g (eqb-true _ _ a.0) (eqb-true _ _ a.1)))))

module _ (number : ℕ) (body : List ℕ) where
  pub profiles_good : (profiles_fault number body).number ≡ 0 → number ≡ 0x0000 → (i : ℕ) → i < length body / 4 → 0 < field 2 body (4 * i)
  unfolding profiles_fault profile_at
  profiles_good e h i l =
      let a = first_all (profile_at body) (length body / 4) (ap (λ (r : Refusal). r.number) (sym (if_no _ _ _ (not_no _ (eq-eqb _ _ h)))) ∙ e) i l in
      let z : field 2 body (4 * i) ≡ 0 → ⊥ = eqb-false _ _ (if_zero _ _ _ a).0 in
      omega arith

  pub profiles_accept : (number ≡ 0x0000 → (i : ℕ) → i < length body / 4 → 0 < field 2 body (4 * i)) → profiles_fault number body ≡ accept
  unfolding profiles_fault profile_at
  profiles_accept g = go (eqb number 0x0000) refl
    where
      go : (t : Bool) → eqb number 0x0000 ≡ t → profiles_fault number body ≡ accept
      go false e = if_yes _ _ _ (not_yes _ e)
      go true e =
          if_no _ _ _ (not_no _ e)
          ∙ first_accept (profile_at body) 0 (length body / 4)
          (λ j l m.
          let z : 0 < field 2 body (4 * j) = g (eqb-true _ _ e) j (omega arith) in
          ap (λ (r : Refusal). r.number) (if_no (refuse 39) accept _ (ne_eqb (field 2 body (4 * j)) 0 (λ o. absurd (omega arith)))))

-- ---- what holds of a body where it is looked at

module _ (x : Refusal) (f : ℕ) where
  looked : (accept if newer f else x).number ≡ 0 → version f ≡ 0 → x.number ≡ 0
  looked e v = ap (λ (r : Refusal). r.number) (sym (if_no accept x (newer f) (not_newer f v))) ∙ e

  unlooked : (version f ≡ 0 → x ≡ accept) → (accept if newer f else x) ≡ accept
  unlooked h = go (newer f) refl
    where
      go : (t : Bool) → newer f ≡ t → (accept if newer f else x) ≡ accept
      go true e = if_yes accept x (newer f) e
      go false e = if_no accept x (newer f) e ∙ h (of_version f e)

-- ---- a descriptor

zero_of : {r : Refusal} → r ≡ accept → r.number ≡ 0
zero_of e = ap (λ (r : Refusal). r.number) e

module _ (removable : Bool) (d : Desc) where
  pub desc_good : (desc_fault removable d).number ≡ 0 → Faultless removable d
  unfolding desc_fault flags_fault row_rule body_fault reserved_at
  desc_good e =
      let a = or_else_zero _ _ e in
      let b = or_else_zero _ _ a.1 in
      let f = flags_good (refuse 33) (refuse 34) d.flags (λ z. absurd (omega arith)) (λ z. absurd (omega arith)) a.0 in
      let r = if_zero _ _ _ b.0 in
      let t = if_zero _ _ _ r.1 in
      let u = if_zero _ _ _ t.1 in
      let l = length_good (row_of d.number).1 d.flags d.body r.0 in
      record {
        reserved_zero = f.reserved_zero;
        current_too = f.current_too;
        enough = l.0;
        no_more = l.1;
        both = both_good d.number d.flags t.0;
        free = free_good (row_of d.number).3 removable d.flags u.0;
        clear = λ v k m.
            bits_good _ _ (first_all (reserved_at (row_of d.number) d.body) (length d.body) (or_else_zero _ _ (looked _ d.flags b.1 v)).0 k m);
        cue = λ v. cue_good d.number (byte_of d.body 4) (field 3 d.body 1) (or_else_zero _ _ (or_else_zero _ _ (looked _ d.flags b.1 v)).1).0;
        numbered = λ v. profiles_good d.number d.body (or_else_zero _ _ (or_else_zero _ _ (looked _ d.flags b.1 v)).1).1;
      }

  pub desc_accept : Faultless removable d → (desc_fault removable d).number ≡ 0
  unfolding desc_fault flags_fault row_rule body_fault reserved_at
  desc_accept g =
      let f = flags_accept (refuse 33) (refuse 34) d.flags (record { reserved_zero = g.reserved_zero; current_too = g.current_too }) in
      let l = length_accept (row_of d.number).1 d.flags d.body g.enough g.no_more in
      let b = both_accept d.number d.flags g.both in
      let p = free_accept (row_of d.number).3 removable d.flags g.free in
      zero_of
      (or_else_none _ _ (zero_of f)
      ∙ or_else_none _ _ (zero_of (if_no _ _ _ l ∙ if_no _ _ _ b ∙ if_no _ _ _ p))
      ∙ unlooked _ d.flags
      (λ v.
      let r = first_accept (reserved_at (row_of d.number) d.body) 0 (length d.body) (λ k i j. zero_of (bits_accept _ _ (g.clear v k (omega arith)))) in
      let c = cue_accept d.number (byte_of d.body 4) (field 3 d.body 1) (g.cue v) in
      or_else_none _ _ (zero_of r)
      ∙ or_else_none _ _ (zero_of c)
      ∙ profiles_accept d.number d.body (g.numbered v)))

-- ---- a response

module _ (removable : Bool) where
  abbrev faulty : Desc → Bool
  faulty d = not (eqb (desc_fault removable d).number 0)

  all_good : (ds : List Desc) → (first_finding removable ds).refusal.number ≡ 0 → All (Faultless removable) ds
  unfolding first_finding
  all_good [] e = tt
  all_good (d ∷ ds) e = go (eqb (desc_fault removable d).number 0) refl (all_good ds)
    where
      go : (t : Bool) → eqb (desc_fault removable d).number 0 ≡ t → ((first_finding removable ds).refusal.number ≡ 0 → All (Faultless removable) ds)
          → All (Faultless removable) (d ∷ ds)
      go true f more =
          (desc_good removable d (eqb-true _ _ f), more (ap (λ (x : Finding). x.refusal.number) (sym (pick_past faulty _ _ d ds (not_no _ f))) ∙ e))
      go false f more =
          absurd (eqb-false _ _ f (ap (λ (x : Finding). x.refusal.number) (sym (pick_here faulty _ _ d ds (not_yes _ f))) ∙ e))

  all_accept : (ds : List Desc) → All (Faultless removable) ds → first_finding removable ds ≡ finding accept 0
  unfolding first_finding
  all_accept ds g =
      pick_never faulty _ _ ds (all_map (Faultless removable) (λ d. faulty d ≡ false) (λ d h. not_no _ (eq-eqb _ _ (desc_accept removable d h))) ds g)

module _ (s : List ℕ) where
  pub passes_of : (checked s).refusal.number ≡ 0 → Passes s
  unfolding checked checked_all
  passes_of e =
      let a = next_zero _ _ e in
      let b = next_zero _ _ a.1 in
      let c = next_zero _ _ b.1 in
      record {
        input = a.0;
        list = not-false _ (if_zero _ _ _ b.0).0;
        core = not-false _ (if_zero _ _ _ c.0).0;
        each = all_good (reported 3 (descs s)) (descs s) c.1;
      }

  pub of_passes : Passes s → checked s ≡ finding accept 0
  unfolding checked checked_all
  of_passes g =
      next_none _ _ g.input
      ∙ core_there 0 _ _ g.list
      ∙ core_there 1 _ _ g.core
      ∙ all_accept (reported 3 (descs s)) (descs s) g.each
