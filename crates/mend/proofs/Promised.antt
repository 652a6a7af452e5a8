-- What is promised of a mending, in other terms than its definition has: what the list's numbers tell, what stands at each place of the copy, and what becomes of
-- flags and bodies; and that it is so. Code, definition and laws that are changed together are refused by it. Assumes nothing.
use borrow.Author.Tests.{lt-ltb, le-ltb}
use mathlib.Core.Path.{◌≡◌, refl, sym, ap, subst, ◌∙◌}
use mathlib.Core.Logic.{◌⊎◌, inl, inr}
use mathlib.Core.Bool.{true}
use mathlib.Core.List.{List, [], ◌∷◌, ◌++◌}
use Prim.Native.Nat.{ℕ, zero, suc, ◌+◌, ◌*◌, ◌-◌, ◌/◌, ◌%◌, ◌≤◌, ◌<◌}
use native.Mathlib.Nat.{zero-add}
use native.Mathlib.Omega.{arith}
use lib.ListN.{length, get_or, take, drop, length-append, length-drop, get_or-eq_default}
use lib.Seq.{get_or-drop, get_or-append-add, take_at}
use Rattle.base.specs.Lists.{All, Bytes}
use Rattle.base.specs.Pick.{some}
use Rattle.base.proofs.Compare.{le_or_lt}
use Rattle.base.proofs.Lists.{all_map}
use Rattle.refusal.specs.declared.Refusal.{Refusal}
use Rattle.refusal.specs.First.{refuse, accept}
use Rattle.refusal.proofs.First.{or_else_none, or_else_fault, unless_none, unless_fault}
use Rattle.text.specs.Reading.{reading}
use Rattle.reading.specs.Places.{descs, reported}
use Rattle.reading.specs.Completed.{complete_fault}
use Rattle.checks.specs.Check.{checked}
use Rattle.refusal.proofs.Calls.{if_yes, if_no}
use Rattle.mend.specs.Mended.{mended}
use Rattle.mend.specs.Changes.{Change, changes, undo, note_of, notes, change_in, listed}
use Rattle.mend.specs.Mend.{Outcome, refusing, mending, mend_fault, mends}
use Rattle.mend.proofs.Changes as laws
use Rattle.mend.proofs.Changes.{Rising, at, changes_rise, changes_say, changes_all, changes_same, length_notes}
use Rattle.mend.proofs.Again.{descs_good, mended_length, mended_complete, mended_descs_here, mended_bytes, mended_again, mended_undone}
use Rattle.mend.proofs.Found.{mended_found}
use Rattle.mend.proofs.Kept.{Becomes, Pairs, all_become, mended_kept, mended_read, header_stays}

-- ---- what is promised

-- a change says what stood in r and what stands in m at its place, and these differ
pub record Says (r m : List ℕ) (c : Change) : Type 0 where
  pub inside : c.place < length r
  pub was : c.old ≡ get_or r c.place 0
  pub is : c.new ≡ get_or m c.place 0
  pub differ : c.old ≡ c.new → ⊥

-- none, or a number that mending leaves
abbrev pub Remains : ℕ → Type 0
Remains n = (n ≡ 0) ⊎ ((n ≡ 30) ⊎ ((n ≡ 31) ⊎ (n ≡ 39)))

-- Of a complete response r that became m, cs being the changes
pub record Mending (r m : List ℕ) (cs : List Change) : Type 0 where
  pub long : length m ≡ length r
  -- they rise; each is of a byte that differs, and each byte that differs has one
  pub rises : Rising 0 cs
  pub says : All (Says r m) cs
  pub all : (x : ℕ) → x < length r → (get_or r x 0 ≡ get_or m x 0 → ⊥) → some (at x) cs ≡ true
  -- undone one after the other they give the original
  pub undone : undo cs m ≡ r
  -- the header stays, and it is read as before
  pub header : (x : ℕ) → x < 8 → get_or m x 0 ≡ get_or r x 0
  pub complete : (complete_fault m).number ≡ 0
  pub read : reading 65534 0 0 m ≡ reading 65534 0 0 r
  -- what becomes of each descriptor
  pub each : Pairs (Becomes (reported 3 (descs r))) (descs r) (descs m)
  -- what the check can still find, and that what it accepts is not changed
  pub found : Remains (checked m).refusal.number
  pub kept : (checked r).refusal.number ≡ 0 → m ≡ r
  -- and mending it again changes nothing
  pub again : changes 0 m (mended m) ≡ []

-- a mending that is done: so many bytes and changes, what stands behind them is unchanged
pub record Done (r d l : List ℕ) (o : Outcome) : Type 0 where
  pub fine : o.answer.refusal ≡ accept
  pub all : o.answer.length ≡ length r
  pub copy_long : length o.copy ≡ length d
  pub copy_behind : (x : ℕ) → length r ≤ x → get_or o.copy x 0 ≡ get_or d x 0
  pub list_long : length o.list ≡ length l
  pub list_behind : (x : ℕ) → o.answer.changes ≤ x → get_or o.list x 0 ≡ get_or l x 0
  pub count : length (listed (take o.answer.changes o.list)) ≡ o.answer.changes
  pub mending : Mending r (take o.answer.length o.copy) (listed (take o.answer.changes o.list))

-- Of an outcome o of the response r, the copy buffer d and the list l
pub record Mends (r d l : List ℕ) (o : Outcome) : Type 0 where
  pub exact : o ≡ mends r d l
  -- refused, in this order: both buffers are unchanged
  pub refuses : ((complete_fault r).number ≡ 0 → ⊥) → o ≡ refusing d l (complete_fault r)
  pub copy_short : (complete_fault r).number ≡ 0 → length d < length r → o ≡ refusing d l (refuse 49)
  pub list_short : (complete_fault r).number ≡ 0 → length r ≤ length d → length l < length (changes 0 r (mended r)) → o ≡ refusing d l (refuse 50)
  -- else done
  pub done : Bytes r → (complete_fault r).number ≡ 0 → length r ≤ length d → length (changes 0 r (mended r)) ≤ length l → Done r d l o
  -- and nothing else is accepted
  pub only : o.answer.refusal.number ≡ 0 → ((complete_fault r).number ≡ 0) × (length r ≤ length d) × (length (changes 0 r (mended r)) ≤ length l)

-- ---- a change as a number, read again

abbrev Low : Change → Type 0
Low c = (c.old < 256) × (c.new < 256)

change_read : (c : Change) → Low c → change_in (note_of c) ≡ c
unfolding change_in note_of
change_read c l =
    let p : ((c.place * 256 + c.old) * 256 + c.new) / 65536 ≡ c.place = omega (arith, l.0, l.1) in
    let o : ((c.place * 256 + c.old) * 256 + c.new) / 256 % 256 ≡ c.old = omega (arith, l.0, l.1) in
    let n : ((c.place * 256 + c.old) * 256 + c.new) % 256 ≡ c.new = omega (arith, l.0, l.1) in
    λ i. record { place = p i; old = o i; new = n i }

listed_notes : (cs : List Change) → All Low cs → listed (notes cs) ≡ cs
unfolding listed notes
listed_notes [] a = refl
listed_notes (c ∷ cs) a = λ i. change_read c a.0 i ∷ listed_notes cs a.1 i

length_listed : (ns : List ℕ) → length (listed ns) ≡ length ns
unfolding listed
length_listed [] = refl
length_listed (n ∷ ns) = ap suc (length_listed ns)

-- ---- the changes of a response

says_so : (r m : List ℕ) → length m ≡ length r → (c : Change) → laws.Says 0 r m c → Says r m c
says_so r m e c s = record {
  inside = go (le_or_lt (length r) c.place);
  was = s.was c.place (omega arith);
  is = s.is c.place (omega arith);
  differ = s.differ;
}
  where
    go : (length r ≤ c.place) ⊎ (c.place < length r) → c.place < length r
    go (inl h) = absurd (s.differ (s.was c.place (omega arith) ∙ get_or-eq_default r 0 h ∙ sym (s.is c.place (omega arith) ∙ get_or-eq_default m 0 (omega arith))))
    go (inr h) = h

module _ (r : List ℕ) (bs : Bytes r) (c : (complete_fault r).number ≡ 0) where
  abbrev cs : List Change
  cs = changes 0 r (mended r)

  said : All (Says r (mended r)) cs
  said = all_map (laws.Says 0 r (mended r)) (Says r (mended r)) (says_so r (mended r) (mended_length r bs c)) cs (changes_say 0 r (mended r))

  low : All Low cs
  low = all_map (Says r (mended r)) Low (λ k s. (rw s.was (bs k.place), rw s.is (mended_bytes r bs c k.place))) cs said

  pub mending_so : Mending r (mended r) cs
  mending_so = record {
    long = mended_length r bs c;
    rises = changes_rise 0 r (mended r);
    says = said;
    all = λ x l h. subst (λ (k : ℕ). some (at k) cs ≡ true) (zero-add x) (changes_all 0 r (mended r) x (sym (mended_length r bs c)) l h);
    undone = mended_undone r bs c;
    header = header_stays r bs c;
    complete = mended_complete r bs c;
    read = mended_read r bs c;
    each = rw (mended_descs_here r bs c) (all_become (reported 3 (descs r)) (descs r) (descs_good r bs));
    found = mended_found Remains (inl refl) (inr (inl refl)) (inr (inr (inl refl))) (inr (inr (inr refl))) r bs c;
    kept = mended_kept r bs;
    again = ap (changes 0 (mended r)) (mended_again r bs c) ∙ changes_same 0 (mended r);
  }

  module _ (d l : List ℕ) (room : length r ≤ length d) (fits : length cs ≤ length l) where
    long : length (mended r) ≡ length r
    long = mended_length r bs c

    many : length (notes cs) ≡ length cs
    many = length_notes cs

    front : take (length r) (mended r ++ drop (length r) d) ≡ mended r
    front = take_at (mended r) (drop (length r) d) (length r) long

    list_front : listed (take (length cs) (notes cs ++ drop (length cs) l)) ≡ cs
    list_front = ap listed (take_at (notes cs) (drop (length cs) l) (length cs) many) ∙ listed_notes cs low

    rest : (xs d : List ℕ) (n : ℕ) → length xs ≡ n → (x : ℕ) → n ≤ x → get_or (xs ++ drop n d) x 0 ≡ get_or d x 0
    rest xs d n e x h =
        let z : x ≡ length xs + (x - length xs) = omega arith in
        rw z (get_or-append-add xs (drop n d) (x - length xs) 0 ∙ get_or-drop n d (x - length xs) 0 ∙ ap (λ (k : ℕ). get_or d k 0) (omega (arith, e)))

    pub done_so : Done r d l (mending r d l)
    unfolding mending
    done_so = record {
      fine = refl;
      all = refl;
      copy_long = omega (arith, long, length-append (mended r) (drop (length r) d), length-drop (length r) d);
      copy_behind = rest (mended r) d (length r) long;
      list_long = omega (arith, many, length-append (notes cs) (drop (length cs) l), length-drop (length cs) l);
      list_behind = rest (notes cs) l (length cs) many;
      count = ap length list_front;
      mending = rw (front, list_front) mending_so;
    }

-- ---- the refusals

number_of : {a b : Refusal} → a ≡ b → a.number ≡ b.number
number_of e = ap (λ (r : Refusal). r.number) e

module _ (r d l : List ℕ) where
  abbrev total : ℕ
  total = length (changes 0 r (mended r))

  given : (x : Refusal) → mend_fault r d l ≡ x → (x.number ≡ 0 → ⊥) → mends r d l ≡ refusing d l x
  unfolding mends
  given x e h = unless_fault (mend_fault r d l) _ _ (λ z. h (sym (number_of e) ∙ z)) ∙ ap (refusing d l) e

  fault_input : ((complete_fault r).number ≡ 0 → ⊥) → mend_fault r d l ≡ complete_fault r
  unfolding mend_fault
  fault_input h = or_else_fault (complete_fault r) _ h

  module _ (c : (complete_fault r).number ≡ 0) where
    fault_copy : length d < length r → mend_fault r d l ≡ refuse 49
    unfolding mend_fault
    fault_copy h = or_else_none (complete_fault r) _ c ∙ if_yes (refuse 49) _ _ (lt-ltb _ _ h)

    module _ (room : length r ≤ length d) where
      fault_list : length l < total → mend_fault r d l ≡ refuse 50
      unfolding mend_fault
      fault_list h = or_else_none (complete_fault r) _ c ∙ if_no (refuse 49) _ _ (le-ltb _ _ room) ∙ if_yes (refuse 50) _ _ (lt-ltb _ _ h)

      fault_none : total ≤ length l → mend_fault r d l ≡ accept
      unfolding mend_fault
      fault_none h = or_else_none (complete_fault r) _ c ∙ if_no (refuse 49) _ _ (le-ltb _ _ room) ∙ if_no (refuse 50) _ _ (le-ltb _ _ h)

      pub made_so : total ≤ length l → mends r d l ≡ mending r d l
      unfolding mends
      made_so h = unless_none (mend_fault r d l) _ _ (number_of (fault_none h))

  refused_number : (x : Refusal) → mend_fault r d l ≡ x → (x.number ≡ 0 → ⊥) → (mends r d l).answer.refusal.number ≡ 0 → ⊥
  unfolding refusing
  refused_number x e h z = h (sym (ap (λ (o : Outcome). o.answer.refusal.number) (given x e h)) ∙ z)

  only_so : (mends r d l).answer.refusal.number ≡ 0 → ((complete_fault r).number ≡ 0) × (length r ≤ length d) × (total ≤ length l)
  only_so z = go (complete_fault r).number refl
    where
      lists : (c : (complete_fault r).number ≡ 0) → length r ≤ length d → (total ≤ length l) ⊎ (length l < total) → total ≤ length l
      lists c room (inl h) = h
      lists c room (inr h) = absurd (refused_number (refuse 50) (fault_list c room h) (λ y. omega (arith, y)) z)

      rooms : (c : (complete_fault r).number ≡ 0) → (length r ≤ length d) ⊎ (length d < length r) → length r ≤ length d
      rooms c (inl h) = h
      rooms c (inr h) = absurd (refused_number (refuse 49) (fault_copy c h) (λ y. omega (arith, y)) z)

      go : (n : ℕ) → (complete_fault r).number ≡ n → ((complete_fault r).number ≡ 0) × (length r ≤ length d) × (total ≤ length l)
      go zero e =
          let room = rooms e (le_or_lt (length r) (length d)) in
          (e, room, lists e room (le_or_lt total (length l)))
      go (suc n) e = absurd (refused_number (complete_fault r) (fault_input (λ y. omega (arith, y, e))) (λ y. omega (arith, y, e)) z)

  pub mends_so : Mends r d l (mends r d l)
  mends_so = record {
    exact = refl;
    refuses = λ h. given (complete_fault r) (fault_input h) h;
    copy_short = λ c h. given (refuse 49) (fault_copy c h) (λ y. omega (arith, y));
    list_short = λ c room h. given (refuse 50) (fault_list c room h) (λ y. omega (arith, y));
    done = λ bs c room h. rw (made_so c room h) (done_so r bs c d l room h);
    only = only_so;
  }
