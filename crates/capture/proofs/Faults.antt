-- What is refused of a response, by the reading at hand and the places of its descriptors. Assumes nothing.
use mathlib.Core.Path.{◌≡◌, refl, sym, ap, ◌∙◌}
use mathlib.Core.Logic.{⊎_elim}
use mathlib.Core.Bool.{not}
use mathlib.Core.List.{List, [], ◌∷◌}
use Prim.Native.Nat.{ℕ, ◌+◌, ◌*◌, ◌≤◌, ◌<◌}
use native.Mathlib.Omega.{arith}
use lib.Dec.{eqb}
use lib.ListN.{length}
use Rattle.fields.specs.Field.{field}
use Rattle.refusal.specs.declared.Refusal.{Refusal}
use Rattle.text.specs.declared.Reading.{Reading}
use Rattle.refusal.specs.First.{refuse, accept, ◌if◌else◌, ◌or_else◌, placed}
use Rattle.text.specs.Drive.{Desc}
use Rattle.text.specs.Response.{current_profile}
use Rattle.text.specs.Reading.{stated_profile, number_at, flags_at, desc_at}
use Rattle.refusal.proofs.First.{or_else_none, or_else_fault, placed_number}
use Rattle.base.proofs.Compare.{le_or_lt}
use Rattle.reading.specs.Places.{next_at, descs}
use Rattle.reading.specs.Judged.{odd_flags, odd_in}
use Rattle.reading.proofs.Flagged.{odd_zero}
use Rattle.reading.specs.inner.Between.{from}
use Rattle.reading.proofs.At.{next_is, body_short}
use Rattle.reading.proofs.Places.{from_step, from_end, left_here, left_next, left_end}
use Rattle.profiles.specs.Profiles.{profiles_of, records_fault, stopped}
use Rattle.profiles.proofs.Stopped.{records_short}
use Rattle.reading.specs.Completed.{complete_fault, completed}
use Rattle.reading.proofs.Completed.{descs_from, complete_fault_here, complete_none, complete_zero}
use Rattle.text.proofs.Walk.{read_fault_header}
use Rattle.base.specs.Lists.{Bytes}
use Rattle.sheet.specs.Check.{flags_rule}
use Rattle.capture.specs.Capture.{own_rule, flags_faults, sheet_rule, capture_fault}
use Rattle.capture.specs.inner.Behind.{behind}

number_is : {r a : Refusal} → r ≡ a → r.number ≡ a.number
number_is e = ap (λ (x : Refusal). x.number) e

-- flags of which none are odd
flags_clean : (place : ℕ) (ds : List Desc) → odd_in ds ≡ 0 → flags_faults place ds ≡ accept
unfolding odd_in flags_faults flags_rule
flags_clean place [] e = refl
flags_clean place (d ∷ ds) e =
    let a : odd_flags d.flags ≡ 0 = omega (arith, e) in
    let b : odd_in ds ≡ 0 = omega (arith, e) in
    or_else_none _ _ (placed_number _ place ∙ number_is (odd_zero (refuse 5) (refuse 44) d.flags a)) ∙ flags_clean (place + 1) ds b

-- ---- 41, and the sheet's own numbers

module _ (s : List ℕ) where
  pub own_none : length s ≤ 8 → refuse 41 ≡ own_rule s (from s 8)
  unfolding own_rule
  own_none h = sym (ap (own_rule s) (from_end s 8 h))

  module _ (h : 8 < length s) where
    pub own_some : own_rule s (from s 8)
        ≡ (refuse 41 if not (eqb (number_at s 8) 0) else
        refuse 41 if not (eqb (flags_at s 8) 3) else
        refuse 41 if not (eqb (field 2 s 4) 0) else
        refuse 41 if not (eqb (field 2 s 6) (current_profile (profiles_of (desc_at s 8).body))) else
        accept)
    unfolding own_rule desc_at stated_profile
    own_some = ap (own_rule s) (from_step s 8 h)

    sheet_some : sheet_rule (from s 8) ≡ records_fault (desc_at s 8).body or_else flags_faults 1 (behind s)
    unfolding sheet_rule
    sheet_some = ap sheet_rule (from_step s 8 h)

    module _ (b : List ℕ) (q : b ≡ (desc_at s 8).body) (r : Refusal) (e : r ≡ records_fault b) where
      profiles_are : r ≡ records_fault (desc_at s 8).body
      profiles_are = e ∙ ap records_fault q

      pub sheet_profiles : (r.number ≡ 0 → ⊥) → r ≡ sheet_rule (from s 8)
      sheet_profiles k = profiles_are ∙ sym (sheet_some ∙ or_else_fault _ _ (λ z. k (number_is profiles_are ∙ z)))

      -- no flags are odd: none is refused
      pub sheet_clean : r.number ≡ 0 → (odd : ℕ) → odd ≡ odd_in (from s 8) → odd ≡ 0 → accept ≡ sheet_rule (from s 8)
      unfolding odd_in
      sheet_clean k odd o z =
          let n : odd_flags (desc_at s 8).flags + odd_in (behind s) ≡ 0 = sym (ap odd_in (from_step s 8 h)) ∙ sym o ∙ z in
          sym (sheet_some ∙ or_else_none _ _ (sym (number_is profiles_are) ∙ k) ∙ flags_clean 1 (behind s) (omega (arith, n)))

      pub sheet_flags : r.number ≡ 0 → (f : Refusal) (first : ℕ) → first ≡ next_at s 8 → f ≡ flags_faults 1 (from s first) → f ≡ sheet_rule (from s 8)
      sheet_flags k f first n g =
          g ∙ ap (λ (x : ℕ). flags_faults 1 (from s x)) n ∙ sym (sheet_some ∙ or_else_none _ _ (sym (number_is profiles_are) ∙ k))

-- in a body a place is the profile's own
pub body_records : (s b : List ℕ) (at : ℕ) (r : Refusal) → Bytes s → b ≡ (desc_at s at).body → r ≡ stopped (records_fault b) → r ≡ records_fault b
body_records s b at r u q e = e ∙ records_short b (omega (arith, body_short s at b q u))

-- ---- the loop over the flags: a return, a further turn, the end

module _ (w : Refusal) (place : ℕ) (s : List ℕ) (at : ℕ) (e : w ≡ flags_faults place (from s at)) where
  module _ (f : ℕ) (p : f ≡ flags_at s at) (r : Refusal) (q : r ≡ flags_rule f) (v : Refusal) (x : v ≡ placed r place) where
    rule_is : v ≡ placed (flags_rule (desc_at s at).flags) place
    unfolding desc_at
    rule_is = x ∙ ap (λ (a : Refusal). placed a place) (q ∙ ap flags_rule p)

    pub flags_stop : at < length s → (v.number ≡ 0 → ⊥) → v ≡ w
    unfolding flags_faults
    flags_stop h k = left_here (flags_faults place) w s at (length s) e v h (λ ds. or_else_fault _ _ (λ z. k (number_is rule_is ∙ z)) ∙ sym rule_is)

    pub flags_go : (next : ℕ) → at < length s → v.number ≡ 0 → next ≡ next_at s at → w ≡ flags_faults (place + 1) (from s next)
    unfolding flags_faults
    flags_go next h k n =
        left_next (flags_faults place) w s at (length s) e (flags_faults (place + 1)) next h (next_is s at next h n) (λ ds. or_else_none _ _ (sym (number_is rule_is) ∙ k))

  pub flags_none : length s ≤ at → accept ≡ w
  unfolding flags_faults
  flags_none h = left_end (flags_faults place) w s at (length s) e h

-- a descriptor has four bytes or more, so a place is never far behind
pub place_next : (s : List ℕ) (at place next : ℕ) → at < length s → next ≡ next_at s at → 4 * place ≤ at + 4 → 4 * (place + 1) ≤ next + 4
place_next s at place next h n l = omega (arith, next_is s at next h n)

-- ---- the reading's numbers, 29, and these

module _ (s : List ℕ) (r : Reading) (e : r ≡ completed s) where
  pub capture_refused : (r.refusal.number ≡ 0 → ⊥) → r.refusal ≡ capture_fault s
  unfolding capture_fault
  capture_refused k = complete_fault_here s r e ∙ sym (or_else_fault _ _ (λ z. k (number_is (complete_fault_here s r e) ∙ z)))

  module _ (k : r.refusal.number ≡ 0) where
    rules : own_rule s (from s 8) or_else sheet_rule (from s 8) ≡ capture_fault s
    unfolding capture_fault
    rules =
        let none : (complete_fault s).number ≡ 0 = complete_none s r e k in
        ap (λ (ds : List Desc). own_rule s ds or_else sheet_rule ds) (sym (descs_from s none)) ∙ sym (or_else_none _ _ none)

    module _ (x : Refusal) (p : x ≡ own_rule s (from s 8)) where
      pub capture_own : (x.number ≡ 0 → ⊥) → x ≡ capture_fault s
      capture_own j = p ∙ sym (or_else_fault _ _ (λ z. j (number_is p ∙ z))) ∙ rules

      -- there is a feature 0
      pub own_there : x.number ≡ 0 → 8 < length s
      own_there j = ⊎_elim
          (λ (l : length s ≤ 8).
          let z : 41 ≡ 0 = number_is (own_none s l ∙ sym p) ∙ j in
          absurd (omega arith))
          (λ (l : 8 < length s). l)
          (le_or_lt (length s) 8)

      -- and the response has at most 65,534 bytes
      pub own_most : length s ≤ 65534
      own_most = (read_fault_header 65534 0 0 s (complete_zero s (complete_none s r e k)).read).most

      -- how many descriptors have odd flags
      pub own_odd : (odd : ℕ) → odd ≡ odd_in (descs s) → odd ≡ odd_in (from s 8)
      own_odd odd o = o ∙ ap odd_in (descs_from s (complete_none s r e k))

      pub capture_sheet : x.number ≡ 0 → (y : Refusal) → y ≡ sheet_rule (from s 8) → y ≡ capture_fault s
      capture_sheet j y q = q ∙ sym (or_else_none _ _ (sym (number_is p) ∙ j)) ∙ rules
