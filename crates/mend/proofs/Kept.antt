-- What the check accepts is not changed; a response that was mended is read as before; and what becomes of each descriptor, in the request's own terms. Assumes nothing.
use borrow.Author.Tests.{eqb-true, eq-eqb, leb-true, le-leb, lt-leb, not-true}
use mathlib.Core.Path.{◌≡◌, refl, sym, ap, ap₂, ◌∙◌}
use mathlib.Core.Bool.{Bool, true, false, not, ◌&&◌, ◌||◌, true≢false}
use mathlib.Core.List.{List, [], ◌∷◌, ◌++◌}
use Prim.Native.Nat.{ℕ, suc, ◌+◌, ◌*◌, ◌/◌, ◌%◌, ◌≤◌, ◌<◌}
use native.Mathlib.Omega.{arith}
use lib.Bits.{bit_and}
use lib.Dec.{leb, eqb}
use lib.ListN.{length, take, drop, get_or, length-drop, take-append-drop, get_or-append}
use lib.Seq.{take_all, take_at, get_or-take}
use Rattle.base.specs.Lists.{flat, All, Bytes}
use Rattle.base.proofs.Bits.{below, below_all}
use Rattle.fields.specs.Field.{field}
use Rattle.fields.proofs.Laws.{field_take}
use Rattle.refusal.specs.declared.Refusal.{Refusal}
use Rattle.refusal.specs.First.{accept}
use Rattle.refusal.proofs.First.{unless_none}
use Rattle.text.specs.Flags.{reserved, version, persistent, current, alone}
use Rattle.text.specs.Drive.{Desc, Good}
use Rattle.text.specs.Response.{bytes}
use Rattle.text.specs.Reading.{stated_length, stated_profile, taken, reading}
use Rattle.text.proofs.Walk.{wholes_accepted}
use Rattle.text.proofs.Received.{stand_flat, wholes_stand}
use Rattle.reading.specs.Places.{descs, reported}
use Rattle.reading.specs.Completed.{complete_fault}
use Rattle.reading.proofs.Completed.{complete_zero}
use Rattle.legal.specs.Legal.{row_of}
use Rattle.legal.specs.Bodies.{byte_of, mask_at}
use Rattle.checks.specs.Check.{checked}
use Rattle.checks.specs.Faultless.{AtLeast, AtMost, Faultless, Passes}
use Rattle.base.proofs.Bools.{and_true, true_and, false_and, not_yes, not_no}
use Rattle.checks.proofs.Faultless.{of_version, not_newer, length_good, length_accept, cue_accept, passes_of}
use Rattle.mend.specs.Mended.{flags_mended, mended_flags, touched, uncued, mended_body, mended_desc, mended_descs, mended}
use Rattle.mend.proofs.Bits.{are_both_in}
use Rattle.mend.proofs.Descs.{fixed_at, byte_cleared, byte_masked}
use Rattle.mend.proofs.Again.{descs_good, flags_mended_here, body_touched, body_left, length_body, length_mended, ends, stated_is, eight, mended_length, mended_complete, mended_descs_here}
use Rattle.mend.proofs.Made.{fixed_clean, cue_clear}

-- ---- flags that break no rule stay

abbrev free : Bool → ℕ → Bool
free true f = eqb (persistent f) 0
free false f = true

abbrev fine : (both barred : Bool) → ℕ → Bool
fine both barred f = eqb (reserved f) 0 && not (alone f) && are_both_in both f && free barred f

abbrev stays : (both barred : Bool) → ℕ → Bool
stays both barred f = not (fine both barred f) || eqb (flags_mended both barred f) f

stays_test : (both barred : Bool) → below (stays both barred) 256 ≡ true
unfolding flags_mended
stays_test true true = refl
stays_test true false = refl
stays_test false true = refl
stays_test false false = refl

implied : (a b : Bool) → (not a || b) ≡ true → a ≡ true → b ≡ true
implied true b e h = e
implied false b e h = absurd (true≢false (sym h))

both_in : (both : Bool) (f : ℕ) → (both ≡ true → (persistent f ≡ 1) × (current f ≡ 1)) → are_both_in both f ≡ true
both_in true f h = true_and _ _ (eq-eqb _ _ (h refl).0) (eq-eqb _ _ (h refl).1)
both_in false f h = refl

free_in : (barred : Bool) (f : ℕ) → (barred ≡ true → persistent f ≡ 0) → free barred f ≡ true
free_in true f h = eq-eqb _ _ (h refl)
free_in false f h = refl

not_alone : (f : ℕ) → (persistent f ≡ 1 → current f ≡ 1) → alone f ≡ false
not_alone f h = false_and _ _ (λ e. not_no _ (eq-eqb _ _ (h (eqb-true _ _ e))))

flags_kept : (both barred : Bool) (f : ℕ) → f < 256 → reserved f ≡ 0 → alone f ≡ false → (both ≡ true → (persistent f ≡ 1) × (current f ≡ 1)) → (barred ≡ true → persistent f ≡ 0)
    → flags_mended both barred f ≡ f
flags_kept both barred f l r a b c =
    eqb-true _ _ (implied (fine both barred f) _ (below_all (stays both barred) 256 (stays_test both barred) f l)
    (true_and _ _ (true_and _ _ (true_and _ _ (eq-eqb _ _ r) (not_yes _ a)) (both_in both f b)) (free_in barred f c)))

-- ---- a descriptor that breaks no rule stays

module _ (removable : Bool) (d : Desc) (g : Good d) (h : Faultless removable d) where
  kept_flags : mended_flags (row_of d.number) removable d.number d.flags ≡ d.flags
  unfolding mended_flags
  kept_flags =
      flags_kept (leb d.number 0x0003) ((row_of d.number).3 && removable) d.flags g.flags_low h.reserved_zero (not_alone d.flags h.current_too)
      (λ e. h.both (leb-true _ _ e))
      (λ e. let a = and_true _ _ e in h.free a.0 a.1)

  kept_body : mended_body (row_of d.number) d.number d.flags d.body ≡ d.body
  unfolding touched
  kept_body = go (touched (row_of d.number) d.flags d.body) refl
    where
      go : (t : Bool) → touched (row_of d.number) d.flags d.body ≡ t → mended_body (row_of d.number) d.number d.flags d.body ≡ d.body
      go true e =
          let v : version d.flags ≡ 0 = of_version d.flags (not-true _ (and_true _ _ e).0) in
          body_touched d.number d.body d.flags e
          ∙ fixed_clean d.number d.body (h.clear v)
          (cue_clear d.number d.body (ap (λ (r : Refusal). r.number) (cue_accept d.number (byte_of d.body 4) (field 3 d.body 1) (h.cue v))))
      go false e = body_left d.number d.body d.flags e

  kept_desc : mended_desc removable d ≡ d
  unfolding mended_desc
  kept_desc = λ i. record { number = d.number; flags = kept_flags i; body = kept_body i }

kept_descs : (removable : Bool) (ds : List Desc) → All Good ds → All (Faultless removable) ds → mended_descs removable ds ≡ ds
unfolding mended_descs
kept_descs removable [] g h = refl
kept_descs removable (d ∷ ds) g h = λ i. kept_desc removable d g.0 h.0 i ∷ kept_descs removable ds g.1 h.1 i

-- ---- a response

-- its header and its descriptors are all of it
all_of_it : (s : List ℕ) → Bytes s → (complete_fault s).number ≡ 0 → take 8 s ++ flat bytes (descs s) ≡ s
all_of_it s bs c =
    ap (λ (x : List ℕ). take 8 s ++ x)
    (stand_flat s 8 (descs s) bs (wholes_stand 65534 0 0 s) ∙ take_all (length (flat bytes (descs s))) (drop 8 s) (omega (arith, ends s bs c, length-drop 8 s)))
    ∙ take-append-drop 8 s

-- WHAT THE CHECK ACCEPTS IS NOT CHANGED
pub mended_kept : (s : List ℕ) → Bytes s → (checked s).refusal.number ≡ 0 → mended s ≡ s
unfolding mended
mended_kept s bs e =
    let p : Passes s = passes_of s e in
    ap (λ (ds : List Desc). take 8 s ++ flat bytes ds) (kept_descs (reported 3 (descs s)) (descs s) (descs_good s bs) p.each) ∙ all_of_it s bs p.input

pub count_is : (removable : Bool) (ds : List Desc) → length (mended_descs removable ds) ≡ length ds
unfolding mended_descs
count_is removable [] = refl
count_is removable (d ∷ ds) = ap suc (count_is removable ds)

-- IT IS READ AS BEFORE
module _ (s : List ℕ) (bs : Bytes s) (c : (complete_fault s).number ≡ 0) where
  pub profile_is : stated_profile (mended s) ≡ stated_profile s
  unfolding mended stated_profile
  profile_is =
      let x : List ℕ = flat bytes (mended_descs (reported 3 (descs s)) (descs s)) in
      sym (field_take 2 8 (take 8 s ++ x) 6 (omega arith)) ∙ ap (λ (h : List ℕ). field 2 h 6) (take_at (take 8 s) x 8 (eight s bs c)) ∙ field_take 2 8 s 6 (omega arith)

  length_is : stated_length (mended s) ≡ stated_length s
  unfolding mended
  length_is = stated_is s bs c (flat bytes (mended_descs (reported 3 (descs s)) (descs s)))

  as_read : (r : List ℕ) → (complete_fault r).number ≡ 0 → reading 65534 0 0 r ≡ taken r (descs r)
  unfolding reading
  as_read r z = unless_none _ _ _ (complete_zero r z).read ∙ ap (taken r) (sym (wholes_accepted 65534 0 0 r (complete_zero r z).read))

  pub mended_read : reading 65534 0 0 (mended s) ≡ reading 65534 0 0 s
  unfolding taken
  mended_read =
      as_read (mended s) (mended_complete s bs c) ∙ ap (taken (mended s)) (mended_descs_here s bs c)
      ∙ same (stated_profile (mended s)) (stated_length (mended s)) (length (mended s)) profile_is length_is (mended_length s bs c)
      ∙ sym (as_read s c)
    where
      same : (p l n : ℕ) → p ≡ stated_profile s → l ≡ stated_length s → n ≡ length s → record {
        refusal = accept;
        profile = record { 0 = p };
        data_length = l;
        count = length (mended_descs (reported 3 (descs s)) (descs s));
        end = 8 + length (flat bytes (mended_descs (reported 3 (descs s)) (descs s)));
        complete = eqb n (l + 4);
      } ≡ taken s (descs s)
      same p l n e f g = rw (e, f, g, count_is (reported 3 (descs s)) (descs s), length_mended (reported 3 (descs s)) (descs s))

-- ---- what becomes of a descriptor

-- 0004h and above: Current stays, Persistent stays where it may
abbrev keeps : Bool → ℕ → ℕ
keeps true f = 0
keeps false f = persistent f * current f

abbrev high_well : Bool → ℕ → Bool
high_well barred f = eqb (current (flags_mended false barred f)) (current f) && eqb (persistent (flags_mended false barred f)) (keeps barred f)

high_test : (barred : Bool) → below (high_well barred) 256 ≡ true
unfolding flags_mended
high_test true = refl
high_test false = refl

-- Of a descriptor d that became e
pub record Becomes (removable : Bool) (d e : Desc) : Type 0 where
  pub number : e.number ≡ d.number
  pub long : length e.body ≡ length d.body
  -- the Version stays, the reserved bits are 0
  pub version_stays : version e.flags ≡ version d.flags
  pub reserved_cleared : reserved e.flags ≡ 0
  -- 0000h to 0003h have both flags; above, Current stays, and Persistent stays with it, but for a feature that may not have it where 0003h is reported
  pub both : d.number ≤ 0x0003 → (persistent e.flags ≡ 1) × (current e.flags ≡ 1)
  pub current_stays : 0x0003 < d.number → current e.flags ≡ current d.flags
  pub persistent_stays : 0x0003 < d.number → ((row_of d.number).3 && removable) ≡ false → persistent e.flags ≡ persistent d.flags * current d.flags
  pub persistent_barred : 0x0003 < d.number → (row_of d.number).3 ≡ true → removable ≡ true → persistent e.flags ≡ 0
  -- a body with a Version above 0 stays, and so does one that is too short or too long
  pub newer_stays : (version d.flags ≡ 0 → ⊥) → e.body ≡ d.body
  pub wrong_stays : (AtLeast (row_of d.number).1 d.body × AtMost (row_of d.number).1 d.body → ⊥) → e.body ≡ d.body
  -- of any other every bit that may be 1 stays and none else, and of the cue sheet length none where SAO is 0
  pub bits : version d.flags ≡ 0 → AtLeast (row_of d.number).1 d.body → AtMost (row_of d.number).1 d.body → (k : ℕ) → k < length d.body
      → (d.number ≡ 0x002E → byte_of d.body 4 / 32 % 2 ≡ 0 → 1 ≤ k → k ≤ 3 → ⊥)
      → get_or e.body k 0 ≡ bit_and (get_or d.body k 0) (mask_at (row_of d.number).1 (row_of d.number).2 (byte_of d.body 7) k)
  pub cue : version d.flags ≡ 0 → AtLeast (row_of d.number).1 d.body → AtMost (row_of d.number).1 d.body → (k : ℕ) → k < length d.body
      → d.number ≡ 0x002E → byte_of d.body 4 / 32 % 2 ≡ 0 → 1 ≤ k → k ≤ 3 → get_or e.body k 0 ≡ 0

module _ (removable : Bool) (d : Desc) (g : Good d) where
  abbrev f : ℕ
  f = d.number

  high : 0x0003 < f → (barred : Bool) → ((row_of f).3 && removable) ≡ barred
      → (current (mended_flags (row_of f) removable f d.flags) ≡ current d.flags) × (persistent (mended_flags (row_of f) removable f d.flags) ≡ keeps barred d.flags)
  unfolding mended_flags
  high l barred e =
      let q : flags_mended (leb f 0x0003) ((row_of f).3 && removable) d.flags ≡ flags_mended false barred d.flags = ap₂ (λ (t u : Bool). flags_mended t u d.flags) (lt-leb f 0x0003 l) e in
      let a = and_true _ _ (below_all (high_well barred) 256 (high_test barred) d.flags g.flags_low) in
      (ap current q ∙ eqb-true _ _ a.0, ap persistent q ∙ eqb-true _ _ a.1)

  touches : version d.flags ≡ 0 → AtLeast (row_of f).1 d.body → AtMost (row_of f).1 d.body → touched (row_of f) d.flags d.body ≡ true
  unfolding touched
  touches v a b = true_and _ _ (not_yes _ (not_newer d.flags v)) (not_yes _ (length_accept (row_of f).1 d.flags d.body a (λ z. b)))

  untouched : (touched (row_of f) d.flags d.body ≡ true → ⊥) → mended_body (row_of f) f d.flags d.body ≡ d.body
  untouched h = go (touched (row_of f) d.flags d.body) refl
    where
      go : (t : Bool) → touched (row_of f) d.flags d.body ≡ t → mended_body (row_of f) f d.flags d.body ≡ d.body
      go true e = absurd (h e)
      go false e = body_left f d.body d.flags e

  why : touched (row_of f) d.flags d.body ≡ true → (version d.flags ≡ 0) × (AtLeast (row_of f).1 d.body) × (AtMost (row_of f).1 d.body)
  unfolding touched
  why e =
      let a = and_true _ _ e in
      let v = of_version d.flags (not-true _ a.0) in
      let l = length_good (row_of f).1 d.flags d.body (not-true _ a.1) in
      (v, l.0, l.1 v)

  no_uncued : (k : ℕ) → (f ≡ 0x002E → byte_of d.body 4 / 32 % 2 ≡ 0 → 1 ≤ k → k ≤ 3 → ⊥) → uncued f d.body k ≡ false
  unfolding uncued
  no_uncued k h = go (eqb f 0x002E && eqb (byte_of d.body 4 / 32 % 2) 0 && leb 1 k && leb k 3) refl
    where
      go : (t : Bool) → (eqb f 0x002E && eqb (byte_of d.body 4 / 32 % 2) 0 && leb 1 k && leb k 3) ≡ t → (eqb f 0x002E && eqb (byte_of d.body 4 / 32 % 2) 0 && leb 1 k && leb k 3) ≡ false
      go true e =
          let a = and_true _ _ e in
          let b = and_true _ _ a.0 in
          let c = and_true _ _ b.0 in
          absurd (h (eqb-true _ _ c.0) (eqb-true _ _ c.1) (leb-true _ _ b.1) (leb-true _ _ a.1))
      go false e = e

  is_uncued : (k : ℕ) → f ≡ 0x002E → byte_of d.body 4 / 32 % 2 ≡ 0 → 1 ≤ k → k ≤ 3 → uncued f d.body k ≡ true
  unfolding uncued
  is_uncued k n s l m = true_and _ _ (true_and _ _ (true_and _ _ (eq-eqb _ _ n) (eq-eqb _ _ s)) (le-leb _ _ l)) (le-leb _ _ m)

  pub becomes : Becomes removable d (mended_desc removable d)
  unfolding mended_desc
  becomes = record {
    number = refl;
    long = length_body f d.body d.flags;
    version_stays = (flags_mended_here removable f d.flags g.flags_low).version_kept;
    reserved_cleared = (flags_mended_here removable f d.flags g.flags_low).reserved_zero;
    both = λ l. (flags_mended_here removable f d.flags g.flags_low).both_set (le-leb _ _ l);
    current_stays = λ l. (high l ((row_of f).3 && removable) refl).0;
    persistent_stays = λ l e. (high l false e).1;
    persistent_barred = λ l a b. (high l true (true_and _ _ a b)).1;
    newer_stays = λ h. untouched (λ t. h (why t).0);
    wrong_stays = λ h. untouched (λ t. h ((why t).1, (why t).2));
    bits = λ v a b k l h.
        ap (λ (x : List ℕ). get_or x k 0) (body_touched f d.body d.flags (touches v a b)) ∙ fixed_at f d.body k l ∙ byte_masked f d.body k (no_uncued k h);
    cue = λ v a b k l n s m o.
        ap (λ (x : List ℕ). get_or x k 0) (body_touched f d.body d.flags (touches v a b)) ∙ fixed_at f d.body k l ∙ byte_cleared f d.body k (is_uncued k n s m o);
  }

-- P of each descriptor and the one that it became, which stand in the same order
abbrev pub Pairs : (Desc → Desc → Type 0) → List Desc → List Desc → Type 0
Pairs P [] [] = Unit {0}
Pairs P [] (e ∷ es) = ⊥
Pairs P (d ∷ ds) [] = ⊥
Pairs P (d ∷ ds) (e ∷ es) = P d e × Pairs P ds es

pub all_become : (removable : Bool) (ds : List Desc) → All Good ds → Pairs (Becomes removable) ds (mended_descs removable ds)
unfolding mended_descs
all_become removable [] g = tt
all_become removable (d ∷ ds) g = (becomes removable d g.0, all_become removable ds g.1)

pub header_stays : (s : List ℕ) → Bytes s → (complete_fault s).number ≡ 0 → (x : ℕ) → x < 8 → get_or (mended s) x 0 ≡ get_or s x 0
unfolding mended
header_stays s bs c x h =
    get_or-append (take 8 s) (flat bytes (mended_descs (reported 3 (descs s)) (descs s))) 0 x (omega (arith, eight s bs c)) ∙ get_or-take 8 s x 0 h
