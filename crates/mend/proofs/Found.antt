-- What the check of the descriptors can still find in a response that was mended: 30, 31 or 39. Assumes nothing.
use borrow.Author.Tests.{eq-eqb, ne_eqb, leb-true}
use mathlib.Core.Path.{◌≡◌, refl, sym, ap, subst, ◌∙◌}
use mathlib.Core.Logic.{⊎_elim}
use mathlib.Core.Bool.{Bool, true, false, not, ◌&&◌, true≢false}
use mathlib.Core.List.{List, [], ◌∷◌}
use Prim.Native.Nat.{ℕ, zero, suc, ◌/◌, ◌%◌, ◌≤◌, ◌<◌}
use native.Mathlib.Omega.{arith}
use lib.Dec.{leb, eqb}
use lib.ListN.{length, get_or, get_or-eq_default}
use Rattle.base.specs.Lists.{Bytes, All}
use Rattle.base.specs.Pick.{pick}
use Rattle.base.proofs.Pick.{pick_here, pick_past}
use Rattle.base.proofs.Compare.{le_or_lt}
use Rattle.fields.specs.Field.{field}
use Rattle.refusal.specs.declared.Refusal.{Refusal}
use Rattle.refusal.specs.First.{refuse, accept, ◌or_else◌, first_of}
use Rattle.refusal.proofs.First.{or_else_none, or_else_fault, first_accept}
use Rattle.refusal.proofs.Numbers.{if_holds, first_holds}
use Rattle.text.specs.Flags.{newer, persistent}
use Rattle.text.specs.Drive.{Desc, Good}
use Rattle.text.proofs.FlagsRule.{flags_quiet}
use Rattle.reading.specs.Places.{descs, reported}
use Rattle.reading.specs.Completed.{complete_fault}
use Rattle.checks.specs.declared.Finding.{Finding}
use Rattle.legal.specs.declared.Row.{Row}
use Rattle.legal.specs.Legal.{row_of}
use Rattle.legal.specs.Bodies.{byte_of, wrong_length, mask_at, reserved_at, cue_rule}
use Rattle.checks.specs.Rules.{flags_fault, flags_short, flags_barred, row_rule, profile_at, profiles_fault, body_fault, desc_fault}
use Rattle.checks.specs.Check.{finding, ◌or_next◌, first_finding, checked_all, checked}
use Rattle.base.proofs.Bools.{and_true, false_and, not_yes, not_no, true_and}
use Rattle.refusal.proofs.Calls.{if_yes, if_no}
use Rattle.checks.proofs.Findings.{next_none, next_fault}
use Rattle.legal.proofs.Words.{within}
use Rattle.mend.specs.Mended.{flags_mended, mended_flags, touched, uncued, mended_body, mended_desc, mended_descs, mended}
use Rattle.mend.proofs.Bits.{flags_free}
use Rattle.mend.proofs.Descs.{low_free, fixed, length_fixed, fixed_at, fixed_within, mask_again, uncued_again, byte_cleared}
use Rattle.mend.proofs.Again.{descs_good, flags_mended_here, body_touched, touched_again, mended_complete, mended_descs_here, reported_mended}

-- ---- what holds of each number of some rules holds of the number given

module _ (P : ℕ → Type 0) where
  pub next_is : (a b : Finding) → P a.refusal.number → P b.refusal.number → P (a or_next b).refusal.number
  next_is a b h l = go a.refusal.number refl
    where
      go : (n : ℕ) → a.refusal.number ≡ n → P (a or_next b).refusal.number
      go zero e = rw (next_none a b e) l
      go (suc n) e = rw (next_fault a b (λ z. omega arith)) h

zero_of : {r : Refusal} → r ≡ accept → r.number ≡ 0
zero_of e = ap (λ (r : Refusal). r.number) e

-- ---- a descriptor that was mended

module _ (removable : Bool) (d : Desc) (g : Good d) where
  abbrev f : ℕ
  f = d.number

  abbrev row : Row
  row = row_of f

  abbrev flags : ℕ
  flags = mended_flags row removable f d.flags

  abbrev body : List ℕ
  body = mended_body row f d.flags d.body

  -- no 33, no 34
  no_flags : flags_fault flags ≡ accept
  unfolding flags_fault
  no_flags =
      let m = flags_mended_here removable f d.flags g.flags_low in
      flags_quiet (refuse 33) (refuse 34) flags m.reserved_zero m.not_alone

  -- no 32
  no_short : flags_short f flags ≡ false
  unfolding flags_short
  no_short =
      false_and _ _ (λ e.
      let b = (flags_mended_here removable f d.flags g.flags_low).both_set e in
      not_no _ (true_and _ _ (eq-eqb _ _ b.0) (eq-eqb _ _ b.1)))

  -- no 35
  no_barred : flags_barred row.3 removable flags ≡ false
  unfolding flags_barred mended_flags
  no_barred =
      false_and (row.3 && removable) _ (λ e. ne_eqb (persistent flags) 1 (λ p. omega (arith, p, free e)))
    where
      high : (row.3 && removable) ≡ true → leb f 0x0003 ≡ false
      high e = go (leb f 0x0003) refl
        where
          go : (t : Bool) → leb f 0x0003 ≡ t → leb f 0x0003 ≡ false
          go true t = absurd (true≢false (sym (and_true _ _ e).0 ∙ low_free f (leb-true f 0x0003 t)))
          go false t = t

      free : (row.3 && removable) ≡ true → persistent flags ≡ 0
      free e =
          ap (λ (t : Bool). persistent (flags_mended t (row.3 && removable) d.flags)) (high e)
          ∙ ap (λ (t : Bool). persistent (flags_mended false t d.flags)) e
          ∙ flags_free d.flags g.flags_low

  -- with a Version above 0 it is not looked at
  bodies_newer : (P : ℕ → Type 0) → P 0 → newer flags ≡ true → P (body_fault row f flags body).number
  unfolding body_fault
  bodies_newer P p0 v = rw (if_yes accept _ (newer flags) v) p0

  -- a body of the right length, with Version 0, was mended
  module _ (v : newer flags ≡ false) (r : wrong_length row.1 flags (byte_of body 7) (length body) ≡ false) where
    mends : touched row d.flags d.body ≡ true
    unfolding touched
    mends =
        sym (touched_again f d.body g.bytes d.flags flags (flags_mended_here removable f d.flags g.flags_low).version_kept)
        ∙ true_and _ _ (not_yes _ v) (not_yes _ r)

    is_fixed : body ≡ fixed f d.body
    is_fixed = body_touched f d.body d.flags mends

    -- no 36
    no_reserved : first_of (reserved_at row (fixed f d.body)) 0 (length (fixed f d.body)) ≡ accept
    unfolding reserved_at
    no_reserved =
        first_accept (reserved_at row (fixed f d.body)) 0 (length (fixed f d.body))
        (λ k l m.
        zero_of (within (get_or (fixed f d.body) k 0) (mask_at row.1 row.2 (byte_of (fixed f d.body) 7) k)
        (rw (mask_again f d.body g.bytes k) (fixed_within f d.body g.bytes k (omega (arith, length_fixed f d.body))))))

    -- no 37
    cleared : (k : ℕ) → uncued f d.body k ≡ true → get_or (fixed f d.body) k 0 ≡ 0
    cleared k e =
        ⊎_elim (λ (l : length d.body ≤ k). get_or-eq_default (fixed f d.body) 0 (omega (arith, length_fixed f d.body)))
        (λ (l : k < length d.body). fixed_at f d.body k l ∙ byte_cleared f d.body k e) (le_or_lt (length d.body) k)

    no_cue : cue_rule f (byte_of (fixed f d.body) 4) (field 3 (fixed f d.body) 1) ≡ accept
    unfolding cue_rule uncued field
    no_cue =
        if_no _ _ _ (false_and _ _ (λ e.
        let off : (k : ℕ) → (leb 1 k && leb k 3) ≡ true → get_or (fixed f d.body) k 0 ≡ 0 =
        (λ k h. cleared k (sym (uncued_again f d.body g.bytes k) ∙ three (leb 1 k) (leb k 3) e h)) in
        not_no _ (eq-eqb (field 3 (fixed f d.body) 1) 0 (none (off 1 refl) (off 2 refl) (off 3 refl)))))
      where
        none : get_or (fixed f d.body) 1 0 ≡ 0 → get_or (fixed f d.body) 2 0 ≡ 0 → get_or (fixed f d.body) 3 0 ≡ 0 → field 3 (fixed f d.body) 1 ≡ 0
        none x y z = rw (field, x, y, z)

        three : (a b : Bool) → (eqb f 0x002E && eqb (byte_of (fixed f d.body) 4 / 32 % 2) 0) ≡ true → (a && b) ≡ true
            → (eqb f 0x002E && eqb (byte_of (fixed f d.body) 4 / 32 % 2) 0 && a && b) ≡ true
        three a b e h = let c = and_true a b h in true_and _ _ (true_and _ _ e c.0) c.1

    -- 39 at most
    body_left : body_fault row f flags body ≡ profiles_fault f (fixed f d.body)
    unfolding body_fault
    body_left =
        ap (body_fault row f flags) is_fixed ∙ if_no accept _ (newer flags) v ∙ or_else_none _ _ (zero_of no_reserved) ∙ or_else_none _ _ (zero_of no_cue)

    body_is : (P : ℕ → Type 0) → P 0 → P 39 → P (body_fault row f flags body).number
    unfolding profiles_fault profile_at
    body_is P p0 p39 =
        subst (λ (r : Refusal). P r.number) (sym body_left)
        (if_holds P accept _ _ p0 (first_holds P (profile_at (fixed f d.body)) p0 (λ j. if_holds P (refuse 39) _ _ p39 p0) 0 (length (fixed f d.body) / 4)))

  -- what is found in it
  pub desc_is : (P : ℕ → Type 0) → P 0 → P 31 → P 39 → P (desc_fault removable (mended_desc removable d)).number
  unfolding desc_fault mended_desc row_rule
  desc_is P p0 p31 p39 =
      subst (λ (r : Refusal). P r.number) (sym (or_else_none (flags_fault flags) rest (zero_of no_flags))) (go (wrong_length row.1 flags (byte_of body 7) (length body)) refl)
    where
      rule : Refusal
      rule = row_rule row removable f flags (byte_of body 7) (length body)

      rest : Refusal
      rest = rule or_else body_fault row f flags body

      looks : (t : Bool) → newer flags ≡ t → wrong_length row.1 flags (byte_of body 7) (length body) ≡ false → P (body_fault row f flags body).number
      looks true v r = bodies_newer P p0 v
      looks false v r = body_is v r P p0 p39

      go : (t : Bool) → wrong_length row.1 flags (byte_of body 7) (length body) ≡ t → P rest.number
      go true r =
          let e : rule ≡ refuse 31 = if_yes (refuse 31) _ _ r in
          subst (λ (x : Refusal). P x.number) (sym (or_else_fault rule (body_fault row f flags body) (λ z. omega (arith, z, ap (λ (x : Refusal). x.number) e)) ∙ e)) p31
      go false r =
          subst (λ (x : Refusal). P x.number) (sym (or_else_none rule (body_fault row f flags body) (zero_of (if_no _ _ _ r ∙ if_no _ _ _ no_short ∙ if_no _ _ _ no_barred))))
          (looks (newer flags) refl r)

-- ---- a response

module _ (P : ℕ → Type 0) (p0 : P 0) (p31 : P 31) (p39 : P 39) (removable : Bool) where
  abbrev faulty : Desc → Bool
  faulty d = not (eqb (desc_fault removable d).number 0)

  abbrev told : Desc → Finding
  told d = finding (desc_fault removable d) d.number

  firsts_are : (ds : List Desc) → All Good ds → P (first_finding removable (mended_descs removable ds)).refusal.number
  unfolding first_finding mended_descs pick
  firsts_are [] g = p0
  firsts_are (d ∷ ds) g = go (faulty (mended_desc removable d)) refl (firsts_are ds g.1)
    where
      go : (t : Bool) → faulty (mended_desc removable d) ≡ t → P (pick faulty told (finding accept 0) (mended_descs removable ds)).refusal.number
          → P (pick faulty told (finding accept 0) (mended_desc removable d ∷ mended_descs removable ds)).refusal.number
      go true e more = rw (pick_here faulty told (finding accept 0) (mended_desc removable d) (mended_descs removable ds) e) (desc_is removable d g.0 P p0 p31 p39)
      go false e more = rw (pick_past faulty told (finding accept 0) (mended_desc removable d) (mended_descs removable ds) e) more

-- AFTERWARDS THE CHECK CAN FIND ONLY 30, 31 OR 39
pub mended_found : (P : ℕ → Type 0) → P 0 → P 30 → P 31 → P 39 → (s : List ℕ) → Bytes s → (complete_fault s).number ≡ 0 → P (checked (mended s)).refusal.number
unfolding checked checked_all
mended_found P p0 p30 p31 p39 s bs c =
    next_is P _ _ (subst P (sym (mended_complete s bs c)) p0)
    (next_is P _ _ (if_holds P (refuse 30) _ _ p30 p0)
    (next_is P _ _ (if_holds P (refuse 30) _ _ p30 p0)
    (subst (λ (ds : List Desc). P (first_finding (reported 3 ds) ds).refusal.number) (sym (mended_descs_here s bs c))
    (subst (λ (r : Bool). P (first_finding r (mended_descs (reported 3 (descs s)) (descs s))).refusal.number) (sym (reported_mended (reported 3 (descs s)) 3 (descs s)))
    (firsts_are P p0 p31 p39 (reported 3 (descs s)) (descs s) (descs_good s bs))))))
