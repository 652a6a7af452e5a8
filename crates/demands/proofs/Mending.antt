-- Request 10: "Undoing the list gives the original; mending twice is mending once; afterwards the check can find only 30, 31 or 39." Over the functions' own contracts: what is
-- promised of one call of `mend` (`Mends`), and of calls one after the other: `mend` and `mend` again, `mend` and the check, the check and `mend`, `mend` and two
-- readings, an import, `mend` and an import. Assumes nothing.
use borrow.Author.Tests.{eq-eqb, eqb-true, not-false}
use mathlib.Core.Path.{◌≡◌, refl, sym, ap, ap₂, subst, ◌∙◌}
use mathlib.Core.Logic.{◌⊎◌, inl, inr}
use mathlib.Core.Bool.{Bool, true, false, not, true≢false}
use mathlib.Core.List.{List, [], ◌∷◌, ◌++◌}
use Prim.Native.Nat.{ℕ, zero, suc, ◌+◌, ◌*◌, ◌/◌, ◌%◌, ◌≤◌, ◌<◌}
use native.Mathlib.Omega.{arith}
use lib.Bits.{bit_and, and_zero_r}
use lib.Dec.{eqb, ltb}
use lib.ListN.{length, take, drop, get_or}
use lib.Seq.{take_at}
use Rattle.base.specs.Lists.{flat, All, Bytes}
use Rattle.base.specs.Pick.{pick}
use Rattle.base.proofs.Bits.{below, below_all}
use Rattle.base.proofs.Promise.{Promised, promises, by, both, all_three, Twice}
use Rattle.fields.specs.Field.{field, spell}
use Rattle.fields.proofs.Laws.{field_take}
use Rattle.refusal.specs.declared.Refusal.{Refusal}
use Rattle.refusal.specs.First.{refuse, accept, ◌if◌else◌, ◌or_else◌, first_of}
use Rattle.refusal.proofs.First.{or_else_none, or_else_fault, placed_number, if_zero}
use Rattle.refusal.proofs.Numbers.{if_holds, first_holds}
use Rattle.lent.specs.Maker as maker
use Rattle.lent.proofs.Maker.{makes_number}
use Rattle.text.specs.Drive.{Desc, Good}
use Rattle.text.specs.Response.{bytes, current_profile}
use Rattle.text.proofs.FlagsRule.{flags_even}
use Rattle.reading.specs.Places.{descs, reported}
use Rattle.reading.specs.Completed.{complete_fault}
use Rattle.reading.specs.contracts.read as read
use Rattle.profiles.specs.Profiles.{profile_current, profile_last, profiles_of, records_fault}
use Rattle.profiles.proofs.Kept.{fault_kept}
use Rattle.sheet.specs.Check.{flags_rule}
use Rattle.capture.specs.Capture.{own_rule, flags_faults, sheet_rule, capture_fault}
use Rattle.capture.proofs.Numbers.{complete_is, own_is, record_is}
use Rattle.checks.specs.declared.Finding.{Finding}
use Rattle.legal.specs.Legal.{legal, row_of, mask_bytes}
use Rattle.legal.specs.Bodies.{byte_of, mask_at, wrong_length, reserved_at, cue_rule}
use Rattle.checks.specs.Check.{checked}
use Rattle.refusal.proofs.Calls.{if_no}
use Rattle.base.proofs.Bools.{not_no, false_or}
use Rattle.checks.proofs.Faultless.{passes_of}
use Rattle.legal.specs.contracts.row_of as row_of
use Rattle.legal.specs.contracts.wrong_length as wrong_length_fn
use Rattle.legal.specs.contracts.mask_at as mask_at
use Rattle.legal.specs.contracts.reserved_fault as reserved_fault
use Rattle.legal.specs.contracts.cue_fault as cue_fault
use Rattle.checks.specs.contracts.check_descriptors as check_descriptors
use Rattle.import.specs.Import.{sheet_from, imported}
use Rattle.import.specs.contracts.import as import
use Rattle.mend.specs.Mended.{flags_mended, mended_flags, touched, mended_body, mended_desc, mended_descs, mended}
use Rattle.mend.specs.Changes.{Change, changes, notes}
use Rattle.mend.specs.Mend as mending
use Rattle.mend.proofs.Changes.{changes_same}
use Rattle.mend.proofs.Descs.{uncued_other}
use Rattle.mend.proofs.Again.{descs_good, flags_mended_here, body_touched, body_left, eight, mended_complete, mended_descs_here, mended_again, mended_length}
use Rattle.mend.proofs.Made.{fixed_clean}
use Rattle.mend.proofs.Kept.{profile_is, mended_kept, mended_read}
use Rattle.mend.proofs.Promised.{Remains, Mends, mends_so, mending_so, made_so}
use Rattle.mend.specs.contracts.mend as mend
use Rattle.demands.proofs.Named.{named, saying, Both, AllThree}

pub mend_tied : Promised mend.ended (λ M 𝓤 𝓛. mend.clauses 𝓛) (λ M 𝓤 𝓛. mend.spec 𝓛)
    (named (λ _ response copy list r _ copy' list'. Mends response.now copy.now list.now (mending.outcome r copy' list')))
mend_tied x = promises x.𝓤 (λ o. by (Mends _ _ _) (mends_so _ _ _))

-- ---- what the mender shares with the check: the table, lengths, the bits of a byte, and the two rules of a body

pub row_of_tied : Promised row_of.ended (λ M 𝓤 𝓛. row_of.clauses 𝓛) (λ M 𝓤 𝓛. row_of.spec 𝓛) (named (λ _ f r _. r ≡ row_of f.0))
row_of_tied x = promises x.𝓤 (λ o e. e)

pub wrong_length_tied : Promised wrong_length_fn.ended (λ M 𝓤 𝓛. wrong_length_fn.clauses 𝓛) (λ M 𝓤 𝓛. wrong_length_fn.spec 𝓛)
    (named (λ _ wanted flags n len r _ _ _ _. r ≡ wrong_length wanted flags.0 n len))
wrong_length_tied x = promises x.𝓤 (λ o e. e)

pub mask_at_tied : Promised mask_at.ended (λ M 𝓤 𝓛. mask_at.clauses 𝓛) (λ M 𝓤 𝓛. mask_at.spec 𝓛) (named (λ _ row n k r _ _ _. r ≡ mask_at row.1 row.2 n k))
mask_at_tied x = promises x.𝓤 (λ o e. e)

pub reserved_fault_tied : Promised reserved_fault.ended (λ M 𝓤 𝓛. reserved_fault.clauses 𝓛) (λ M 𝓤 𝓛. reserved_fault.spec 𝓛)
    (named (λ _ row body r _ _. r ≡ first_of (reserved_at row body.now) 0 (length body.now)))
reserved_fault_tied x = promises x.𝓤 (λ o e. e)

pub cue_fault_tied : Promised cue_fault.ended (λ M 𝓤 𝓛. cue_fault.clauses 𝓛) (λ M 𝓤 𝓛. cue_fault.spec 𝓛)
    (named (λ _ f body r _ _. r ≡ cue_rule f.0 (get_or body.now 0 0) (field 3 body.now 1)))
cue_fault_tied x = promises x.𝓤 (λ o e. e)

-- ---- what a call that was not refused left is the response, mended

module _ (r d l : List ℕ) {o : mending.Outcome} (e : o ≡ mending.mends r d l) (z : o.answer.refusal.number ≡ 0) (bs : Bytes r) where
  facts : ((complete_fault r).number ≡ 0) × (length r ≤ length d) × (length (changes 0 r (mended r)) ≤ length l)
  facts = (mends_so r d l).only (sym (ap (λ (x : mending.Outcome). x.answer.refusal.number) e) ∙ z)

  is_mended : take o.answer.length o.copy ≡ mended r
  unfolding mending.mending
  is_mended =
      let k = facts in
      ap (λ (x : mending.Outcome). take x.answer.length x.copy) (e ∙ made_so r d l k.0 k.1 k.2)
      ∙ take_at (mended r) (drop (length r) d) (length r) (mended_length r bs k.0)

-- ---- mending what does not change

-- Of an outcome o of the response r, the copy buffer d and the list l: the copy is the response, and no change is listed
pub record Still (r d l : List ℕ) (o : mending.Outcome) : Type 0 where
  pub fine : o.answer.refusal ≡ accept
  pub length_is : o.answer.length ≡ length r
  pub none : o.answer.changes ≡ 0
  pub copied : o.copy ≡ r ++ drop (length r) d
  pub unlisted : o.list ≡ l

still : (r d l : List ℕ) {o : mending.Outcome} → o ≡ mending.mends r d l → (complete_fault r).number ≡ 0 → length r ≤ length d → mended r ≡ r → Still r d l o
unfolding mending.mending notes
still r d l {o} e c room same =
    let k : changes 0 r (mended r) ≡ [] = ap (changes 0 r) same ∙ changes_same 0 r in
    let m : o ≡ mending.mending r d l = e ∙ made_so r d l c room (omega (arith, ap length k)) in
    subst (Still r d l) (sym m)
    record {
      fine = refl;
      length_is = refl;
      none = ap length k;
      copied = ap (λ (x : List ℕ). x ++ drop (length r) d) same;
      unlisted = ap (λ (cs : List Change). notes cs ++ drop (length cs) l) k;
    }

-- MENDING TWICE IS MENDING ONCE: `mend` is called, and again with what it left
pub mend_again : Twice mend.ended (λ M 𝓤 𝓛. mend.clauses 𝓛)
    (λ x o y p. saying x o (λ _ response copy list r _ copy' list'. saying y p (λ _ response₂ copy₂ list₂ r₂ _ copy₂' list₂'.
    r.refusal.number ≡ 0 → Bytes response.now → response₂.now ≡ take r.length copy' → length response₂.now ≤ length copy₂.now
    → Still response₂.now copy₂.now list₂.now (mending.outcome r₂ copy₂' list₂'))))
mend_again x κs args g o p = both x.𝓤 (λ e f z bs there room.
    let c = (facts _ _ _ e z bs).0 in
    let is = there ∙ is_mended _ _ _ e z bs in
    still _ _ _ f (subst (λ (s : List ℕ). (complete_fault s).number ≡ 0) (sym is) (mended_complete _ bs c)) room (ap mended is ∙ mended_again _ bs c ∙ sym is))

-- AFTERWARDS THE CHECK CAN FIND ONLY 30, 31 OR 39: `mend` is called, then `check_descriptors` with what it left
pub mend_check : Both mend.ended (λ M 𝓤 𝓛. mend.clauses 𝓛) check_descriptors.ended (λ M 𝓤 𝓛. check_descriptors.clauses 𝓛)
    (λ x o y p. saying x o (λ _ response copy list r _ copy' list'.
    saying y p (λ _ s₂ r₂ _.
    r.refusal.number ≡ 0 → Bytes response.now → s₂.now ≡ take r.length copy' → Remains r₂.refusal.number)))
mend_check x κs args g o p = both x.𝓤 (λ e f z bs there.
    subst (λ (v : Finding). Remains v.refusal.number) (sym (f ∙ ap checked (there ∙ is_mended _ _ _ e z bs))) (mending_so _ bs (facts _ _ _ e z bs).0).found)

-- WHAT THE CHECK ACCEPTED IS NOT CHANGED: it is called, and `mend` with the same response
pub check_mend : Both mend.ended (λ M 𝓤 𝓛. mend.clauses 𝓛) check_descriptors.ended (λ M 𝓤 𝓛. check_descriptors.clauses 𝓛)
    (λ x o y p. saying x o (λ _ response copy list r _ copy' list'.
    saying y p (λ _ s₂ r₂ _.
    r₂.refusal.number ≡ 0 → Bytes response.now → s₂.now ≡ response.now → length response.now ≤ length copy.now
    → Still response.now copy.now list.now (mending.outcome r copy' list'))))
check_mend x κs args g o p = both x.𝓤 (λ e f z bs same room.
    let k = ap (λ (v : Finding). v.refusal.number) (sym (f ∙ ap checked same)) ∙ z in
    still _ _ _ e (passes_of _ k).input room (mended_kept _ bs k))

-- IT IS READ AS BEFORE: `mend` is called, and `read` with the response and with what was left; the two readings are the same, and so are the descriptors but for flags and bodies
pub mend_read : AllThree mend.ended (λ M 𝓤 𝓛. mend.clauses 𝓛) read.ended (λ M 𝓤 𝓛. read.clauses 𝓛) read.ended (λ M 𝓤 𝓛. read.clauses 𝓛)
    (λ x o y p z q. saying x o (λ _ response copy list r _ copy' list'.
    saying y p (λ _ rt₂ sfn₂ s₂ r₂ _ _ _.
    saying z q (λ _ rt₃ sfn₃ s₃ r₃ _ _ _.
    r.refusal.number ≡ 0 → Bytes response.now → s₂.now ≡ response.now → s₃.now ≡ take r.length copy'
    → rt₂ ≡ 0 → sfn₂.0 ≡ 0 → rt₃ ≡ 0 → sfn₃.0 ≡ 0 → r₃ ≡ r₂))))
mend_read x κs args g κs₂ args₂ g₂ o p q =
    all_three x.𝓤 (λ e fg z bs first there a b c d.
    let k = (facts _ _ _ e z bs).0 in
    rw (c, d, there ∙ is_mended _ _ _ e z bs) at fg.1 ∙ mended_read _ bs k ∙ sym (rw (a, b, first) at fg.0))

-- ---- where an import was refused for flags alone, it is no more

-- neither 5 nor 44
abbrev Other : ℕ → Type 0
Other n = (n ≡ 5 → ⊥) × (n ≡ 44 → ⊥)

other : (n : ℕ) → not (eqb n 5) ≡ true → not (eqb n 44) ≡ true → Other n
other n a b = (λ e. true≢false (sym a ∙ not_no _ (eq-eqb n 5 e)), λ e. true≢false (sym b ∙ not_no _ (eq-eqb n 44 e)))

-- what is passed over is 0
passed : (n : ℕ) (a b : Refusal) → Other a.number → (n ≡ 5) ⊎ (n ≡ 44) → (a or_else b).number ≡ n → (a.number ≡ 0) × (b.number ≡ n)
passed n a b h f e = go a.number refl
  where
    no : (n ≡ 5) ⊎ (n ≡ 44) → (a.number ≡ n → ⊥)
    no (inl q) k = h.0 (k ∙ q)
    no (inr q) k = h.1 (k ∙ q)

    go : (k : ℕ) → a.number ≡ k → (a.number ≡ 0) × (b.number ≡ n)
    go zero q = (q, sym (ap (λ (r : Refusal). r.number) (or_else_none a b q)) ∙ e)
    go (suc k) q = absurd (no f (sym (ap (λ (r : Refusal). r.number) (or_else_fault a b (λ z. omega (arith, z, q)))) ∙ e))

-- the bits that may be 1 in a profile list, by place
four_test : below (λ j. eqb (get_or (mask_bytes (row_of 0).2) j 0) (get_or (255 ∷ 255 ∷ 1 ∷ 0 ∷ []) (j % 4) 0)) 12 ≡ true
unfolding row_of legal pick mask_bytes spell
four_test = refl

all_test : below (λ b. eqb (bit_and b 255) b) 256 ≡ true
all_test = refl

one_test : below (λ b. eqb (bit_and b 1) b) 2 ≡ true
one_test = refl

-- a profile list that is not refused has no bit that may not be 1
module _ (body : List ℕ) (bs : Bytes body) (four : length body % 4 ≡ 0) (fine : (records_fault body).number ≡ 0) where
  by_place : (k j : ℕ) → k < length body → k % 4 ≡ j → bit_and (get_or body k 0) (get_or (255 ∷ 255 ∷ 1 ∷ 0 ∷ []) j 0) ≡ get_or body k 0
  unfolding profile_current profile_last
  by_place k zero l e = eqb-true _ _ (below_all (λ b. eqb (bit_and b 255) b) 256 all_test (get_or body k 0) (bs k))
  by_place k (suc zero) l e = eqb-true _ _ (below_all (λ b. eqb (bit_and b 255) b) 256 all_test (get_or body k 0) (bs k))
  by_place k (suc (suc zero)) l e =
      let h : 4 * (k / 4) + 2 ≡ k = omega (arith, e) in
      let one : get_or body k 0 ≤ 1 = subst (λ (i : ℕ). get_or body i 0 ≤ 1) h (fault_kept body fine (k / 4) (omega (arith, e, four))).one in
      eqb-true _ _ (below_all (λ b. eqb (bit_and b 1) b) 2 one_test (get_or body k 0) (omega (arith, one)))
  by_place k (suc (suc (suc zero))) l e =
      let h : 4 * (k / 4) + 3 ≡ k = omega (arith, e) in
      let z : get_or body k 0 ≡ 0 = subst (λ (i : ℕ). get_or body i 0 ≡ 0) h (fault_kept body fine (k / 4) (omega (arith, e, four))).nought in
      and_zero_r (get_or body k 0) ∙ sym z
  by_place k (suc (suc (suc (suc j)))) l e = absurd (omega (arith, e))

  clean : (n k : ℕ) → k < length body → bit_and (get_or body k 0) (mask_at (row_of 0).1 (row_of 0).2 n k) ≡ get_or body k 0
  unfolding mask_at row_of legal pick
  clean n k l =
      ap (bit_and (get_or body k 0)) (eqb-true _ _ (below_all (λ j. eqb (get_or (mask_bytes (row_of 0).2) j 0) (get_or (255 ∷ 255 ∷ 1 ∷ 0 ∷ []) (j % 4) 0)) 12 four_test (k % 12) (omega arith)))
      ∙ ap (λ (j : ℕ). bit_and (get_or body k 0) (get_or (255 ∷ 255 ∷ 1 ∷ 0 ∷ []) j 0)) {x = k % 12 % 4} {y = k % 4} (omega arith)
      ∙ by_place k (k % 4) l refl

  list_stays : (flags : ℕ) → mended_body (row_of 0) 0 flags body ≡ body
  list_stays flags = go (touched (row_of 0) flags body) refl
    where
      go : (t : Bool) → touched (row_of 0) flags body ≡ t → mended_body (row_of 0) 0 flags body ≡ body
      go true e = body_touched 0 body flags e ∙ fixed_clean 0 body (clean (byte_of body 7)) (λ k t. absurd (true≢false (sym t ∙ uncued_other 0 body k (λ z. omega (arith, z)))))
      go false e = body_left 0 body flags e

-- flags that were mended break no rule of the sheet
module _ (removable : Bool) where
  flags_pass : (d : Desc) → Good d → flags_rule (mended_desc removable d).flags ≡ accept
  unfolding flags_rule mended_desc
  flags_pass d g =
      let m = flags_mended_here removable d.number d.flags g.flags_low in
      flags_even (refuse 5) (refuse 44) _ (false_or _ _ (ap not (eq-eqb _ 0 m.reserved_zero)) m.not_alone)

  all_pass : (k : ℕ) (ds : List Desc) → All Good ds → (flags_faults k (mended_descs removable ds)).number ≡ 0
  unfolding flags_faults mended_descs
  all_pass k [] g = refl
  all_pass k (d ∷ ds) g =
      ap (λ (r : Refusal). r.number) (or_else_none _ _ (placed_number _ k ∙ ap (λ (r : Refusal). r.number) (flags_pass d g.0))) ∙ all_pass (k + 1) ds g.1

-- feature 0 with both flags and nothing else keeps its flags
own_flags : (removable : Bool) → mended_flags (row_of 0) removable 0 3 ≡ 3
unfolding mended_flags flags_mended row_of legal pick
own_flags removable = refl

module _ (r : List ℕ) (bs : Bytes r) (n : ℕ) (f : (n ≡ 5) ⊎ (n ≡ 44)) (e : (capture_fault r).number ≡ n) where
  abbrev rest : Refusal
  rest = own_rule r (descs r) or_else sheet_rule (descs r)

  first : ((complete_fault r).number ≡ 0) × (rest.number ≡ n)
  unfolding capture_fault
  first =
      passed n (complete_fault r) rest
      (complete_is Other (other 0 refl refl) (other 14 refl refl) (other 15 refl refl) (other 16 refl refl) (other 17 refl refl) (other 18 refl refl) (other 20 refl refl) (other 29 refl refl) r) f e

  second : ((own_rule r (descs r)).number ≡ 0) × ((sheet_rule (descs r)).number ≡ n)
  second = passed n (own_rule r (descs r)) (sheet_rule (descs r)) (own_is Other (other 0 refl refl) (other 41 refl refl) r (descs r)) f first.1

  spare_is : field 2 (mended r) 4 ≡ field 2 r 4
  unfolding mended
  spare_is =
      let x : List ℕ = flat bytes (mended_descs (reported 3 (descs r)) (descs r)) in
      sym (field_take 2 8 (take 8 r ++ x) 4 (omega arith)) ∙ ap (λ (h : List ℕ). field 2 h 4) (take_at (take 8 r) x 8 (eight r bs first.0)) ∙ field_take 2 8 r 4 (omega arith)

  -- the first is feature 0 with its list, the others pass
  behind : (ds : List Desc) → All Good ds → (own_rule r ds).number ≡ 0 → (sheet_rule ds).number ≡ n
      → (own_rule (mended r) (mended_descs (reported 3 (descs r)) ds) or_else sheet_rule (mended_descs (reported 3 (descs r)) ds)).number ≡ 0
  unfolding own_rule sheet_rule mended_descs mended_desc records_fault
  behind [] g own sheet = absurd (omega (arith, own))
  behind (z ∷ ds) g own sheet =
      let a = if_zero _ _ _ own in
      let b = if_zero _ _ _ a.1 in
      let c = if_zero _ _ _ b.1 in
      let d = if_zero _ _ _ c.1 in
      let lowest : z.number ≡ 0 = eqb-true _ _ (not-false _ a.0) in
      let three : z.flags ≡ 3 = eqb-true _ _ (not-false _ b.0) in
      let list : (records_fault z.body).number ≡ 0 = (passed n (records_fault z.body) (flags_faults 1 ds) (first_holds Other _ (other 0 refl refl) (record_is Other (other 0 refl refl) (other 3 refl refl) z.body) 0 _) f sheet).0 in
      let flags_are : mended_flags (row_of z.number) (reported 3 (descs r)) z.number z.flags ≡ 3 =
      ap₂ (λ (i j : ℕ). mended_flags (row_of i) (reported 3 (descs r)) i j) lowest three ∙ own_flags (reported 3 (descs r)) in
      let body_is : mended_body (row_of z.number) z.number z.flags z.body ≡ z.body =
      ap (λ (i : ℕ). mended_body (row_of i) i z.flags z.body) lowest ∙ list_stays z.body g.0.bytes g.0.four list z.flags in
      let ours : own_rule (mended r) (mended_descs (reported 3 (descs r)) (z ∷ ds)) ≡ accept =
      if_no _ _ _ a.0
      ∙ if_no _ _ _ (not_no _ (eq-eqb _ _ flags_are))
      ∙ if_no _ _ _ (not_no _ (eq-eqb _ _ (spare_is ∙ eqb-true _ _ (not-false _ c.0))))
      ∙ if_no _ _ _ (not_no _ (eq-eqb _ _ (profile_is r bs first.0 ∙ eqb-true _ _ (not-false _ d.0) ∙ ap (λ (x : List ℕ). current_profile (profiles_of x)) (sym body_is)))) in
      ap (λ (x : Refusal). x.number) (or_else_none _ _ (ap (λ (x : Refusal). x.number) ours))
      ∙ ap (λ (x : Refusal). x.number) (or_else_none _ _ (ap (λ (x : List ℕ). (records_fault x).number) body_is ∙ list))
      ∙ all_pass (reported 3 (descs r)) 1 ds g.1

  pub capture_mended : (capture_fault (mended r)).number ≡ 0
  unfolding capture_fault
  capture_mended =
      ap (λ (x : Refusal). x.number) (or_else_none _ _ (mended_complete r bs first.0))
      ∙ ap (λ (ds : List Desc). (own_rule (mended r) ds or_else sheet_rule ds).number) (mended_descs_here r bs first.0)
      ∙ behind (descs r) (descs_good r bs) second.0 second.1

-- of an import: neither what is refused of a response, nor anything but a sheet buffer that is too short
abbrev pub Imported : ℕ → Type 0
Imported n = (n ≡ 0) ⊎ (n ≡ 42)

import_so : (s d : List ℕ) → (capture_fault s).number ≡ 0 → Imported (imported s d).made.refusal.number
unfolding imported
import_so s d e =
    subst Imported (sym (makes_number (capture_fault s) 42 (sheet_from s).bytes d ∙ ap (λ (x : Refusal). x.number) (or_else_none _ _ e))) (if_holds Imported (refuse 42) _ _ (inr refl) (inl refl))

fault_of : (s d : List ℕ) (n : ℕ) → (n ≡ 5) ⊎ (n ≡ 44) → (imported s d).made.refusal.number ≡ n → (capture_fault s).number ≡ n
unfolding imported
fault_of s d n f e = go (capture_fault s).number refl
  where
    m : (capture_fault s or_else (refuse 42 if ltb (length d) (length (sheet_from s).bytes) else accept)).number ≡ n
    m = sym (makes_number (capture_fault s) 42 (sheet_from s).bytes d) ∙ e

    go : (k : ℕ) → (capture_fault s).number ≡ k → (capture_fault s).number ≡ n
    go zero q = absurd (neither (if_holds Other (refuse 42) _ _ (other 42 refl refl) (other 0 refl refl)) f (sym (ap (λ (x : Refusal). x.number) (or_else_none _ _ q)) ∙ m))
      where
        neither : {k : ℕ} → Other k → (n ≡ 5) ⊎ (n ≡ 44) → k ≡ n → ⊥
        neither o (inl a) b = o.0 (b ∙ a)
        neither o (inr a) b = o.1 (b ∙ a)
    go (suc k) q = sym (ap (λ (x : Refusal). x.number) (or_else_fault _ _ (λ z. omega (arith, z, q)))) ∙ m

-- WHERE AN IMPORT WAS REFUSED FOR FLAGS ALONE IT IS NO MORE: `mend` is called, and `import` with the response and with what was left
pub mend_import : AllThree mend.ended (λ M 𝓤 𝓛. mend.clauses 𝓛) import.ended (λ M 𝓤 𝓛. import.clauses 𝓛) import.ended (λ M 𝓤 𝓛. import.clauses 𝓛)
    (λ x o y p z q. saying x o (λ _ response copy list r _ copy' list'.
    saying y p (λ _ response₂ sheet₂ r₂ _ sheet₂'.
    saying z q (λ _ response₃ sheet₃ r₃ _ sheet₃'.
    r.refusal.number ≡ 0 → Bytes response.now → response₂.now ≡ response.now → response₃.now ≡ take r.length copy'
    → (r₂.refusal.number ≡ 5) ⊎ (r₂.refusal.number ≡ 44) → Imported r₃.refusal.number))))
mend_import x κs args g κs₂ args₂ g₂ o p q =
    all_three x.𝓤 (λ e fg z bs first there f.
    let was = fault_of _ _ _ f (ap (λ (v : maker.Outcome). v.made.refusal.number) (sym (rw first at fg.0))) in
    subst (λ (v : maker.Outcome). Imported v.made.refusal.number) (sym fg.1) (import_so _ _ (subst (λ (s : List ℕ). (capture_fault s).number ≡ 0) (sym (there ∙ is_mended _ _ _ e z bs)) (capture_mended _ bs _ f was))))
