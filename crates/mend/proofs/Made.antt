-- A descriptor as the code mends it: whether its body is dirty, its changes, and its bytes put over those that stand in the copy. Assumes nothing.
use borrow.Author.Tests.{eqb-true, leb-true, not-false}
use mathlib.Core.Path.{◌≡◌, refl, sym, ap, ap₂, subst, ◌∙◌}
use mathlib.Core.Bool.{Bool, true, false, not, ◌&&◌, ◌||◌, true≢false}
use mathlib.Core.List.{List, [], ◌∷◌, ◌++◌, append_assoc}
use Prim.Native.Nat.{ℕ, zero, suc, ◌+◌, ◌*◌, ◌/◌, ◌%◌, ◌≤◌, ◌<◌}
use native.Mathlib.Omega.{arith}
use lib.Bits.{bit_and}
use lib.Dec.{leb, eqb}
use lib.ListN.{length, get_or, drop, length-append, length-drop}
use lib.Seq.{ext_get_or, length-take-le}
use Rattle.base.specs.Lists.{Bytes}
use Rattle.base.proofs.Lists.{bytes_take, bytes_drop}
use Rattle.mend.specs.declared.Plan.{Plan}
use Rattle.fields.specs.Field.{field, spell}
use Rattle.fields.proofs.Laws.{length_spell}
use Rattle.refusal.specs.First.{first_of}
use Rattle.refusal.proofs.First.{if_zero, first_all}
use Rattle.text.specs.Flags.{newer}
use Rattle.text.specs.Drive.{Desc}
use Rattle.text.specs.Response.{bytes}
use Rattle.text.specs.Reading.{number_at, flags_at, length_at, desc_at}
use Rattle.legal.specs.declared.Row.{Row}
use Rattle.legal.specs.Legal.{row_of}
use Rattle.legal.specs.Bodies.{byte_of, wrong_length, mask_at, reserved_rule, reserved_at, cue_rule}
use Rattle.base.proofs.Bools.{and_true, true_and, and_false, or_false}
use Rattle.checks.proofs.Other.{row_other, any_bits_law, no_cue}
use Rattle.mend.specs.Mended.{flags_mended, mended_flags, touched, uncued, mended_byte, mended_body, mended_desc}
use Rattle.mend.specs.Changes.{Change, change_at, changes}
use Rattle.mend.specs.inner.Plan.{plan_of, planned, planned_body, dirty}
use Rattle.mend.proofs.Changes.{change_none, changes_append, changes_same, count_anywhere}
use Rattle.mend.proofs.Descs.{fixed, length_fixed, fixed_at, byte_cleared, byte_masked, uncued_other}
use Rattle.mend.proofs.Again.{body_touched, body_left, length_body}

-- ---- a body with nothing to mend

module _ (f : ℕ) (body : List ℕ) where
  abbrev mask : ℕ → ℕ
  mask k = mask_at (row_of f).1 (row_of f).2 (byte_of body 7) k

  -- every byte under its mask, and no cue sheet length where it may not be
  pub fixed_clean : ((k : ℕ) → k < length body → bit_and (get_or body k 0) (mask k) ≡ get_or body k 0) → ((k : ℕ) → uncued f body k ≡ true → get_or body k 0 ≡ 0) → fixed f body ≡ body
  fixed_clean h c = ext_get_or 0 (fixed f body) body (length_fixed f body) (λ k l. one k (rw (← length_fixed f body) l))
    where
      one : (k : ℕ) → k < length body → get_or (fixed f body) k 0 ≡ get_or body k 0
      one k l = fixed_at f body k l ∙ go (uncued f body k) refl
        where
          go : (t : Bool) → uncued f body k ≡ t → mended_byte (row_of f) f body k ≡ get_or body k 0
          go true e = byte_cleared f body k e ∙ sym (c k e)
          go false e = byte_masked f body k e ∙ h k l

  -- a feature that the table does not name
  fixed_other : Bytes body → (row_of f).0.0 ≡ 0xFFFF → fixed f body ≡ body
  fixed_other bs e =
      fixed_clean (λ k l. rw (row_other f e) (any_bits_law (get_or body k 0) k (get_or body 3 0) (bs k)))
      (λ k t. absurd (true≢false (sym t ∙ uncued_other f body k (no_cue f e))))

  -- neither 36 nor 37
  within_all : (first_of (reserved_at (row_of f) body) 0 (length body)).number ≡ 0 → (k : ℕ) → k < length body → bit_and (get_or body k 0) (mask k) ≡ get_or body k 0
  unfolding reserved_at reserved_rule
  within_all e k l = eqb-true _ _ (not-false _ (if_zero _ _ _ (first_all (reserved_at (row_of f) body) (length body) e k l)).0)

  pub cue_clear : (cue_rule f (get_or body 0 0) (field 3 body 1)).number ≡ 0 → (k : ℕ) → uncued f body k ≡ true → get_or body k 0 ≡ 0
  unfolding cue_rule uncued field
  cue_clear e k t =
      let off : Bool = eqb f 0x002E && eqb (byte_of body 4 / 32 % 2) 0 in
      let a = and_true (off && leb 1 k) (leb k 3) t in
      let b = and_true off (leb 1 k) a.0 in
      let z : field 3 body 1 ≡ 0 = eqb-true _ _ (not-false _ (and_false off (not (eqb (field 3 body 1) 0)) (if_zero _ _ _ e).0 b.0)) in
      three k (leb-true 1 k b.1) (leb-true k 3 a.1) z
    where
      three : (k : ℕ) → 1 ≤ k → k ≤ 3 → ((0 * 256 + get_or body (1 + 0) 0) * 256 + get_or body (1 + 1) 0) * 256 + get_or body (1 + 2) 0 ≡ 0 → get_or body k 0 ≡ 0
      three zero l m z = absurd (omega arith)
      three (suc zero) l m z = omega arith
      three (suc (suc zero)) l m z = omega arith
      three (suc (suc (suc zero))) l m z = omega arith
      three (suc (suc (suc (suc k)))) l m z = absurd (omega arith)

  module _ (flags : ℕ) where
    abbrev named : Bool
    named = not (eqb (row_of f).0.0 0xFFFF)

    abbrev plain : Bool
    plain = not (newer flags)

    abbrev right : Bool
    right = not (wrong_length (row_of f).1 flags (byte_of body 7) (length body))

    abbrev some36 : Bool
    some36 = not (eqb (first_of (reserved_at (row_of f) body) 0 (length body)).number 0)

    abbrev some37 : Bool
    some37 = not (eqb (cue_rule f (get_or body 0 0) (field 3 body 1)).number 0)

    pub clean_body : Bytes body → dirty (row_of f) f flags body ≡ false → mended_body (row_of f) f flags body ≡ body
    unfolding dirty touched
    clean_body bs e = go (touched (row_of f) flags body) refl
      where
        row_in : (t : Bool) → eqb (row_of f).0.0 0xFFFF ≡ t → touched (row_of f) flags body ≡ true → fixed f body ≡ body
        row_in true q h = fixed_other bs (eqb-true _ _ q)
        row_in false q h =
            let c = and_true plain right h in
            let n : (some36 || some37) ≡ false = and_false (named && plain && right) (some36 || some37) e (true_and (named && plain) right (true_and named plain (ap not q) c.0) c.1) in
            let a = or_false some36 some37 n in
            fixed_clean (within_all (eqb-true _ _ (not-false _ a.0))) (cue_clear (eqb-true _ _ (not-false _ a.1)))

        go : (t : Bool) → touched (row_of f) flags body ≡ t → mended_body (row_of f) f flags body ≡ body
        go true h = body_touched f body flags h ∙ row_in (eqb (row_of f).0.0 0xFFFF) refl h
        go false h = body_left f body flags h

    pub dirty_body : dirty (row_of f) f flags body ≡ true → planned_body (plan_of (row_of f) f body) body ≡ mended_body (row_of f) f flags body
    unfolding dirty touched planned_body planned mended_byte uncued
    dirty_body e =
        let a = and_true (named && plain && right) (some36 || some37) e in
        let b = and_true (named && plain) right a.0 in
        let c = and_true named plain b.0 in
        sym (body_touched f body flags (true_and plain right c.1 b.1))

-- ---- a descriptor

module _ (removable : Bool) (d : Desc) where
  abbrev f : ℕ
  f = d.number

  abbrev flags' : ℕ
  flags' = mended_flags (row_of f) removable f d.flags

  abbrev body' : List ℕ
  body' = mended_body (row_of f) f d.flags d.body

  same_size : length body' ≡ length d.body
  same_size = length_body f d.body d.flags

  -- its bytes: the number, the flags, Additional Length, the body
  pub bytes_apart : (e : Desc) → bytes e ≡ spell 2 e.number ++ (e.flags ∷ []) ++ (length e.body ∷ []) ++ e.body
  unfolding bytes
  bytes_apart e = ap (λ (x : List ℕ). x ++ e.body) (sym (append_assoc (spell 2 e.number) (e.flags ∷ []) (length e.body ∷ [])))

  -- how many of them change
  pub desc_count : length (changes 0 (bytes d) (bytes (mended_desc removable d))) ≡ length (change_at 0 d.flags flags') + length (changes 0 d.body body')
  unfolding mended_desc bytes changes
  desc_count =
      let a : List ℕ = spell 2 f in
      let la : length a ≡ 2 = length_spell 2 f in
      let h : List ℕ = a ++ (d.flags ∷ length d.body ∷ []) in
      let h' : List ℕ = a ++ (flags' ∷ length body' ∷ []) in
      let lh : length h ≡ 4 = omega (arith, length-append a (d.flags ∷ length d.body ∷ []), la) in
      let lh' : length h' ≡ 4 = omega (arith, length-append a (flags' ∷ length body' ∷ []), la) in
      let x : changes 0 h h' ≡ changes (0 + length a) (d.flags ∷ length d.body ∷ []) (flags' ∷ length body' ∷ []) =
      changes_append 0 a a (d.flags ∷ length d.body ∷ []) (flags' ∷ length body' ∷ []) refl ∙ ap (λ (cs : List Change). cs ++ changes (0 + length a) (d.flags ∷ length d.body ∷ []) (flags' ∷ length body' ∷ [])) (changes_same 0 a) in
      let y : length (changes 0 h h') ≡ length (change_at 0 d.flags flags') =
      ap length x ∙ count_anywhere (0 + length a) 0 (d.flags ∷ length d.body ∷ []) (flags' ∷ length body' ∷ []) ∙ two in
      ap length (changes_append 0 h h' d.body body' (lh ∙ sym lh'))
      ∙ length-append (changes 0 h h') (changes (0 + length h) d.body body')
      ∙ ap₂ ◌+◌ y (count_anywhere (0 + length h) 0 d.body body')
    where
      two : length (change_at 0 d.flags flags' ++ (change_at 1 (length d.body) (length body') ++ [])) ≡ length (change_at 0 d.flags flags')
      two = rw (change_none 1 (length d.body) (length body') (sym same_size)) (omega (arith, length-append (change_at 0 d.flags flags') []))

-- ---- a descriptor at a place, as it was read

pub place_length : (s : List ℕ) (at : ℕ) (b : List ℕ) → at + 4 + length_at s at ≤ length s → b ≡ (desc_at s at).body → length b ≡ length_at s at
unfolding desc_at
place_length s at b h e = ap length e ∙ length-take-le (length_at s at) (drop (at + 4) s) (omega (arith, length-drop (at + 4) s))

pub record Seen (removable : Bool) (s : List ℕ) (at fn fl : ℕ) (b : List ℕ) (row : Row) (g : ℕ) : Type 0 where
  pub number : fn ≡ number_at s at
  pub flags : fl ≡ flags_at s at
  pub body : b ≡ (desc_at s at).body
  pub row_is : row ≡ row_of fn
  pub mends : g ≡ flags_mended (leb fn 0x0003) (row.3 && removable) fl

-- by the calls that read it: its number, flags, body and row, whether Persistent is barred, and the flags mended
pub seen_by : {removable : Bool} {s : List ℕ} {at fn fl : ℕ} {b : List ℕ} {row : Row} {bar : Bool} {g : ℕ}
    → fn ≡ number_at s at → fl ≡ flags_at s at → b ≡ (desc_at s at).body → row ≡ row_of fn → bar ≡ (row.3 && removable) → g ≡ flags_mended (leb fn 0x0003) bar fl
    → Seen removable s at fn fl b row g
seen_by {fn = fn} {fl = fl} n f b r p g =
    record { number = n; flags = f; body = b; row_is = r; mends = g ∙ ap (λ (x : Bool). flags_mended (leb fn 0x0003) x fl) p }

module _ {removable : Bool} {s : List ℕ} {at fn fl : ℕ} {b : List ℕ} {row : Row} {g : ℕ} (v : Seen removable s at fn fl b row g) (bs : Bytes s) (whole : at + 4 + length_at s at ≤ length s) where
  abbrev pub seen : Desc
  seen = record { number = fn; flags = fl; body = b }

  pub seen_desc : seen ≡ desc_at s at
  unfolding desc_at
  seen_desc = λ i. record { number = v.number i; flags = v.flags i; body = v.body i }

  pub seen_length : length b ≡ length_at s at
  unfolding desc_at
  seen_length = ap length v.body ∙ length-take-le (length_at s at) (drop (at + 4) s) (omega (arith, length-drop (at + 4) s))

  pub seen_bytes : Bytes b
  unfolding desc_at
  seen_bytes = subst Bytes (sym v.body) (bytes_take (length_at s at) (drop (at + 4) s) (bytes_drop (at + 4) s bs))

  pub seen_flags : g ≡ mended_flags (row_of fn) removable fn fl
  unfolding mended_flags
  seen_flags = v.mends ∙ ap (λ (r : Row). flags_mended (leb fn 0x0003) (r.3 && removable) fl) v.row_is

  seen_count : length (changes 0 (bytes (desc_at s at)) (bytes (mended_desc removable (desc_at s at)))) ≡ length (change_at 0 fl g) + length (changes 0 b (mended_body (row_of fn) fn fl b))
  seen_count =
      ap (λ (x : Desc). length (changes 0 (bytes x) (bytes (mended_desc removable x)))) (sym seen_desc)
      ∙ desc_count removable seen
      ∙ ap (λ (x : ℕ). length (change_at 0 fl x) + length (changes 0 b (mended_body (row_of fn) fn fl b))) (sym seen_flags)

  module _ (one : ℕ) (o : (one ≡ length (change_at 0 fl g)) × (one ≤ 1)) (t : Bool) (q : t ≡ dirty row fn fl b) where
    pub count_clean : t ≡ false → (one ≡ length (changes 0 (bytes (desc_at s at)) (bytes (mended_desc removable (desc_at s at))))) × (one ≤ 4 + length_at s at)
    unfolding changes
    count_clean h =
        let c : mended_body (row_of fn) fn fl b ≡ b = clean_body fn b fl seen_bytes (ap (λ (r : Row). dirty r fn fl b) (sym v.row_is) ∙ sym q ∙ h) in
        let z : length (changes 0 b (mended_body (row_of fn) fn fl b)) ≡ 0 = ap (λ (x : List ℕ). length (changes 0 b x)) c ∙ ap length (changes_same 0 b) in
        (omega (arith, o.0, z, seen_count), omega (arith, o.1))

    pub count_dirty : t ≡ true → (p : Plan) → p ≡ plan_of row fn b → (n : ℕ) → (n ≡ length (changes 0 b (planned_body p b))) × (n ≤ length b)
        → (one + n ≡ length (changes 0 (bytes (desc_at s at)) (bytes (mended_desc removable (desc_at s at))))) × (one + n ≤ 4 + length_at s at)
    count_dirty h p e n m =
        let c : planned_body p b ≡ mended_body (row_of fn) fn fl b =
        ap (λ (x : Plan). planned_body x b) e ∙ ap (λ (r : Row). planned_body (plan_of r fn b) b) v.row_is ∙ dirty_body fn b fl (ap (λ (r : Row). dirty r fn fl b) (sym v.row_is) ∙ sym q ∙ h) in
        let z : n ≡ length (changes 0 b (mended_body (row_of fn) fn fl b)) = m.0 ∙ ap (λ (x : List ℕ). length (changes 0 b x)) c in
        (omega (arith, o.0, z, seen_count), omega (arith, o.1, m.1, seen_length))
