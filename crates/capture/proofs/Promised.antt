-- What is refused of a captured response, and in which order, in plain numbers of its bytes (crates/text/proofs/Promised.antt has the places of its
-- descriptors): a definition that is wrong is refused here, whatever code and laws are changed with it. Assumes nothing.
use borrow.Author.Tests.{eq-eqb, ne_eqb, eqb-true}
use mathlib.Core.Path.{◌≡◌, refl, sym, ap, ◌∙◌}
use mathlib.Core.Bool.{Bool, true, false, not}
use mathlib.Core.List.{List}
use Prim.Native.Nat.{ℕ, zero, suc, ◌+◌, ◌/◌, ◌%◌, ◌≤◌, ◌<◌}
use native.Mathlib.Omega.{arith}
use lib.Dec.{eqb}
use lib.ListN.{length, take, drop}
use Rattle.base.specs.Lists.{each}
use Rattle.refusal.specs.declared.Refusal.{Refusal}
use Rattle.refusal.specs.First.{refuse, accept, ◌if◌else◌, ◌or_else◌, placed}
use Rattle.refusal.proofs.First.{if_true, if_false, or_else_none, or_else_fault, placed_none, placed_fault}
use Rattle.text.specs.Drive.{Desc}
use Rattle.text.specs.Response.{current_profile}
use Rattle.text.specs.Reading.{stated_length, stated_profile, number_at, flags_at, length_at, desc_at, read_fault}
use Rattle.text.proofs.Walk.{HeaderFine}
use Rattle.text.proofs.Promised.{byte, two, four, field_two, field_four, flagging, place, flags_of, announced, Passed, wholes_standing, received}
use Rattle.profiles.specs.Profiles.{profiles_of, records_fault}
use Rattle.profiles.proofs.Promised.{Right, Wrong, listing}
use Rattle.sheet.specs.Check.{flags_rule}
use Rattle.reading.specs.Places.{descs}
use Rattle.reading.specs.Completed.{complete_fault}
use Rattle.reading.proofs.Completed.{complete_accept, reading_refusal}
use Rattle.capture.specs.Capture.{own_rule, flags_faults, sheet_rule, capture_fault}

-- r is a complete response to RT 0 from 0, of k whole descriptors and nothing behind them
pub record Whole (r : List ℕ) (k : ℕ) : Type 0 where
  pub header : HeaderFine 65534 0 (length r) (four r 0)
  pub passed : Passed 0 0 r k
  pub to_end : place r k ≡ length r
  pub all : length r ≡ announced r

-- the first of them is feature 0 as the box writes it: number 0, flags 3; header bytes 4 and 5 are 0; bytes 6 and 7 are the first profile of its body that is
-- current, 0 if none is
abbrev pub body : List ℕ → List ℕ
body r = take (byte r 11) (drop 12 r)

pub record Ours (r : List ℕ) : Type 0 where
  pub zero_first : two r 8 ≡ 0
  pub both_flags : byte r 10 ≡ 3
  pub zeros : two r 4 ≡ 0
  pub current : two r 6 ≡ current_profile (profiles_of (body r))

-- entry e of the sheet, counted from 0, is descriptor e + 1; its flags are as a sheet asks
pub record Flagged (r : List ℕ) (e : ℕ) : Type 0 where
  pub low : flags_of r (suc e) < 64
  pub paired : flags_of r (suc e) % 4 ≡ 2 → ⊥

-- Of what is refused, f, of the response r: the reading's number; 29 where it is cut; 41 where it is not ours; 3 at the first profile with a fault; 5, then 44,
-- at the first entry with odd flags; else nothing
pub record Refused (r : List ℕ) (f : Refusal) : Type 0 where
  pub unread : ((read_fault 65534 0 0 r).number ≡ 0 → ⊥) → f ≡ read_fault 65534 0 0 r
  pub cut : (read_fault 65534 0 0 r).number ≡ 0 → (length r ≡ announced r → ⊥) → f ≡ refuse 29
  pub empty : Whole r 0 → f ≡ refuse 41
  pub not_ours : (n : ℕ) → Whole r (suc n) → (Ours r → ⊥) → f ≡ refuse 41
  pub three : (n : ℕ) → Whole r (suc n) → Ours r → (i : ℕ) → i < length (body r) / 4 → ((j : ℕ) → j < i → Right (body r) j) → Wrong (body r) i → f ≡ record { number = 3; place = suc i }
  pub five : (n : ℕ) → Whole r (suc n) → Ours r → ((i : ℕ) → i < length (body r) / 4 → Right (body r) i) → (e : ℕ) → e < n → ((j : ℕ) → j < e → Flagged r j) → 64 ≤ flags_of r (suc e) → f ≡ record { number = 5; place = suc e }
  pub forty_four : (n : ℕ) → Whole r (suc n) → Ours r → ((i : ℕ) → i < length (body r) / 4 → Right (body r) i) → (e : ℕ) → e < n → ((j : ℕ) → j < e → Flagged r j) → flags_of r (suc e) < 64 → flags_of r (suc e) % 4 ≡ 2 → f ≡ record { number = 44; place = suc e }
  pub none : (n : ℕ) → Whole r (suc n) → Ours r → ((i : ℕ) → i < length (body r) / 4 → Right (body r) i) → ((e : ℕ) → e < n → Flagged r e) → f ≡ accept

-- ---- flags, entry by entry

module _ (g : ℕ → Desc) where
  flags_first : (p i j m n : ℕ) → j < m → ((l : ℕ) → l < j → (flags_rule (g (i + l)).flags).number ≡ 0) → flags_rule (g (i + j)).flags ≡ refuse (suc n)
      → flags_faults p (each g i m) ≡ record { number = suc n; place = p + j }
  unfolding flags_faults each
  flags_first p i j zero n l before e = absurd (omega arith)
  flags_first p i zero (suc m) n l before e =
      let q : flags_rule (g i).flags ≡ refuse (suc n) = ap (λ (x : ℕ). flags_rule (g x).flags) {x = i} {y = i + 0} (omega arith) ∙ e in
      let w : placed (flags_rule (g i).flags) p ≡ record { number = suc n; place = p + 0 } =
      placed_fault _ p (λ z. omega (arith, ap (λ (r : Refusal). r.number) q, z)) ∙ (λ t. record { number = (q t).number; place = as_it_is t }) in
      or_else_fault _ _ (λ z. omega (arith, ap (λ (r : Refusal). r.number) w, z)) ∙ w
    where
      as_it_is : p ≡ p + 0
      as_it_is = omega arith
  flags_first p i (suc j) (suc m) n l before e =
      or_else_none _ _ (ap (λ (r : Refusal). r.number) (placed_none (flags_rule (g i).flags) p (ap (λ (x : ℕ). (flags_rule (g x).flags).number) {x = i} {y = i + 0} (omega arith) ∙ before 0 (omega arith))))
      ∙ flags_first (p + 1) (suc i) j m n (omega arith) (λ l q. ap (λ (x : ℕ). (flags_rule (g x).flags).number) {x = suc i + l} {y = i + suc l} (omega arith) ∙ before (suc l) (omega arith))
      (ap (λ (x : ℕ). flags_rule (g x).flags) {x = suc i + j} {y = i + suc j} (omega arith) ∙ e)
      ∙ ap (λ (x : ℕ). record { number = suc n; place = x }) {x = p + 1 + j} {y = p + suc j} (omega arith)

  flags_none : (p i m : ℕ) → ((l : ℕ) → l < m → (flags_rule (g (i + l)).flags).number ≡ 0) → flags_faults p (each g i m) ≡ accept
  unfolding flags_faults each
  flags_none p i zero h = refl
  flags_none p i (suc m) h =
      or_else_none _ _ (ap (λ (r : Refusal). r.number) (placed_none (flags_rule (g i).flags) p (ap (λ (x : ℕ). (flags_rule (g x).flags).number) {x = i} {y = i + 0} (omega arith) ∙ h 0 (omega arith))))
      ∙ flags_none (p + 1) (suc i) m (λ l q. ap (λ (x : ℕ). (flags_rule (g x).flags).number) {x = suc i + l} {y = i + suc l} (omega arith) ∙ h (suc l) (omega arith))

-- ---- a complete response

module _ (r : List ℕ) where
  abbrev standing : ℕ → Desc
  standing j = desc_at r (place r j)

  module _ (k : ℕ) (c : Whole r k) where
    complete_none : (complete_fault r).number ≡ 0
    unfolding stated_length
    complete_none =
        let l : length r < place r k + 4 = omega (arith, c.to_end) in
        ap (λ (x : Refusal). x.number) (complete_accept r record {
          read = ap (λ (x : Refusal). x.number) (sym (reading_refusal r)) ∙ ap (λ x. x.refusal.number) ((received 65534 0 0 r).ends c.header k c.passed l);
          ends = c.all ∙ ap (λ (x : ℕ). x + 4) (sym (field_four r 0));
        })

    descs_are : descs r ≡ each standing 0 k
    descs_are = wholes_standing 65534 0 0 r c.header k c.passed (omega (arith, c.to_end))

    behind_reading : capture_fault r ≡ own_rule r (each standing 0 k) or_else sheet_rule (each standing 0 k)
    unfolding capture_fault
    behind_reading = or_else_none (complete_fault r) _ complete_none ∙ ap (λ (ds : List Desc). own_rule r ds or_else sheet_rule ds) descs_are

  module _ (n : ℕ) (c : Whole r (suc n)) where
    -- what is refused, by the bytes of feature 0
    own_is : own_rule r (each standing 0 (suc n))
        ≡ (refuse 41 if not (eqb (two r 8) 0) else
        refuse 41 if not (eqb (byte r 10) 3) else
        refuse 41 if not (eqb (two r 4) 0) else
        refuse 41 if not (eqb (two r 6) (current_profile (profiles_of (body r)))) else
        accept)
    unfolding each own_rule place desc_at number_at flags_at length_at stated_profile
    own_is = rw (field_two r 8, field_two r 4, field_two r 6) refl

    own_none : Ours r → (own_rule r (each standing 0 (suc n))).number ≡ 0
    own_none o =
        let q : own_rule r (each standing 0 (suc n)) ≡ accept =
        own_is
        ∙ rw (eq-eqb (two r 8) 0 o.zero_first, if_false, eq-eqb (byte r 10) 3 o.both_flags, if_false, eq-eqb (two r 4) 0 o.zeros, if_false, eq-eqb (two r 6) (current_profile (profiles_of (body r))) o.current, if_false) in
        ap (λ (x : Refusal). x.number) q

    own_other : (Ours r → ⊥) → own_rule r (each standing 0 (suc n)) ≡ refuse 41
    own_other h =
        own_is
        ∙ unequal (two r 8) 0 _ (λ a. unequal (byte r 10) 3 _ (λ b. unequal (two r 4) 0 _ (λ c. unequal (two r 6) _ _ (λ d. absurd (h record { zero_first = a; both_flags = b; zeros = c; current = d })))))
      where
        unequal : (x y : ℕ) (rest : Refusal) → (x ≡ y → rest ≡ refuse 41) → (refuse 41 if not (eqb x y) else rest) ≡ refuse 41
        unequal x y rest h = go (eqb x y) refl
          where
            go : (t : Bool) → eqb x y ≡ t → (refuse 41 if not t else rest) ≡ refuse 41
            go true e = if_false _ _ ∙ h (eqb-true x y e)
            go false e = if_true _ _

    -- behind it the sheet's numbers, by the body of feature 0 and the flags of the others
    to_sheet : Ours r → capture_fault r ≡ records_fault (body r) or_else flags_faults 1 (each standing 1 n)
    unfolding each sheet_rule place desc_at length_at
    to_sheet o = behind_reading (suc n) c ∙ or_else_none _ _ (own_none o)

    to_flags : Ours r → ((i : ℕ) → i < length (body r) / 4 → Right (body r) i) → capture_fault r ≡ flags_faults 1 (each standing 1 n)
    to_flags o p = to_sheet o ∙ or_else_none _ _ (ap (λ (x : Refusal). x.number) ((listing (body r)).none p))

  -- the flags of entry e
  flags_are : (e : ℕ) → (standing (1 + e)).flags ≡ flags_of r (suc e)
  unfolding desc_at flags_at
  flags_are e = ap (λ (j : ℕ). flags_of r j) (omega arith)

  flagged_none : (e : ℕ) → Flagged r e → (flags_rule (standing (1 + e)).flags).number ≡ 0
  unfolding flags_rule
  flagged_none e f = ap (λ (x : Refusal). x.number) (ap flags_rule (flags_are e) ∙ (flagging (refuse 5) (refuse 44) (flags_of r (suc e))).fine f.low f.paired)

  pub refused_is : Refused r (capture_fault r)
  unfolding capture_fault complete_fault stated_length own_rule each flags_rule
  refused_is = record {
    unread = λ h. or_else_fault _ _ (λ z. h (ap (λ (x : Refusal). x.number) (sym (or_else_fault (read_fault 65534 0 0 r) _ h)) ∙ z)) ∙ or_else_fault _ _ h;
    cut = λ e h. cut_off e h;
    empty = λ c. behind_reading 0 c ∙ or_else_fault _ _ (λ z. omega arith);
    not_ours = λ n c h. behind_reading (suc n) c ∙ or_else_fault _ _ (λ z. omega (arith, ap (λ (x : Refusal). x.number) (own_other n c h), z)) ∙ own_other n c h;
    three = λ n c o i l b w.
        let q = (listing (body r)).three i l b w in
        to_sheet n c o ∙ or_else_fault _ _ (λ z. omega (arith, ap (λ (x : Refusal). x.number) q, z)) ∙ q;
    five = λ n c o p e l b h.
        to_flags n c o p ∙ flags_first standing 1 1 e n 4 l (λ j m. flagged_none j (b j m)) (ap flags_rule (flags_are e) ∙ (flagging (refuse 5) (refuse 44) (flags_of r (suc e))).reserved (λ z. omega arith) h)
        ∙ ap (λ (x : ℕ). record { number = 5; place = x }) (omega arith);
    forty_four = λ n c o p e l b h q.
        to_flags n c o p ∙ flags_first standing 1 1 e n 43 l (λ j m. flagged_none j (b j m)) (ap flags_rule (flags_are e) ∙ (flagging (refuse 5) (refuse 44) (flags_of r (suc e))).alone h q)
        ∙ ap (λ (x : ℕ). record { number = 44; place = x }) (omega arith);
    none = λ n c o p f. to_flags n c o p ∙ flags_none standing 1 1 n (λ e l. flagged_none e (f e l));
  }
    where
      cut_off : (read_fault 65534 0 0 r).number ≡ 0 → (length r ≡ announced r → ⊥) → capture_fault r ≡ refuse 29
      cut_off e h =
          let q : complete_fault r ≡ refuse 29 =
          or_else_none (read_fault 65534 0 0 r) _ e ∙ rw (ne_eqb (length r) (stated_length r + 4) (λ z. h (z ∙ ap (λ (x : ℕ). x + 4) (field_four r 0)))) (if_true _ _) in
          or_else_fault (complete_fault r) _ (λ z. omega (arith, ap (λ (x : Refusal). x.number) q, z)) ∙ q
