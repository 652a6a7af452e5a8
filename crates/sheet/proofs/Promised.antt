-- What the check of a sheet refuses, and in which order, in plain numbers of the sheet's fields (crates/layout/proofs/Promised.antt has the places of these): a
-- definition that is wrong is refused here, whatever code and laws are changed with it. Assumes nothing.
use borrow.Author.Tests.{lt-ltb, le-ltb, le-leb, lt-leb, eq-eqb, ne_eqb}
use mathlib.Core.Path.{◌≡◌, refl, sym, ap, ◌∙◌}
use mathlib.Core.Bool.{Bool, true, false}
use Prim.Native.Nat.{ℕ, zero, suc, ◌+◌, ◌*◌, ◌/◌, ◌%◌, ◌≤◌, ◌<◌}
use native.Mathlib.Omega.{arith}
use lib.ListN.{length}
use Rattle.refusal.specs.declared.Refusal.{Refusal}
use Rattle.refusal.specs.First.{refuse, accept, ◌if◌else◌, first_of}
use Rattle.refusal.proofs.First.{if_true, if_false, or_else_none, or_else_fault, first_at_law, first_accept, placed_none, placed_fault}
use Rattle.text.proofs.Promised.{flagging}
use Rattle.profiles.specs.Profiles.{records_fault}
use Rattle.profiles.proofs.Promised.{Right, Wrong, listing}
use Rattle.layout.specs.Layout.{Sheet, sheet_size, feature_count, profile_count, bodies_at, number, flags, body_length, offset, profiles_part}
use Rattle.sheet.specs.Check.{number_before, end_before_entry, flags_rule, entry_rule, entry_fault, entries_verdict, counted, verdict}
use Rattle.sheet.proofs.Accepted.{length_profiles_part}

-- what f gives for the one before i, and for the first one `first`
unfoldable pub before : (first : ℕ) → (ℕ → ℕ) → ℕ → ℕ
before first f zero = first
before first f (suc i) = f i

-- the number of the entry before entry i, and where the body before its body ends
abbrev pub lower : Sheet → ℕ → ℕ
lower s i = before 0 (number s) i

abbrev pub bodies : Sheet → ℕ
bodies s = 4 + 8 * feature_count s + 4 * profile_count s

abbrev pub ended : Sheet → ℕ → ℕ
ended s i = before (bodies s) (λ j. offset s j + body_length s j) i

-- entry i, counted from 0, as the format asks: its number above the one before, no reserved flag bit (64, 128), Persistent (2) only with Current (1), a body
-- length that is a multiple of 4, a body that starts where the one before ends
pub record Keeps (s : Sheet) (i : ℕ) : Type 0 where
  pub above : lower s i < number s i
  pub low : flags s i < 64
  pub paired : flags s i % 4 ≡ 2 → ⊥
  pub fours : body_length s i % 4 ≡ 0
  pub follows : offset s i ≡ ended s i

-- the refusal r names this entry, counted from 1: 4, 5, 44, 6, 7 in this order
abbrev at : (number i : ℕ) → Refusal
at number i = record { number = number; place = suc i }

pub record Entering (s : Sheet) (i : ℕ) (r : Refusal) : Type 0 where
  pub four : number s i ≤ lower s i → r ≡ at 4 i
  pub five : lower s i < number s i → 64 ≤ flags s i → r ≡ at 5 i
  pub forty_four : lower s i < number s i → flags s i < 64 → flags s i % 4 ≡ 2 → r ≡ at 44 i
  pub six : lower s i < number s i → flags s i < 64 → (flags s i % 4 ≡ 2 → ⊥) → (body_length s i % 4 ≡ 0 → ⊥) → r ≡ at 6 i
  pub seven : lower s i < number s i → flags s i < 64 → (flags s i % 4 ≡ 2 → ⊥) → body_length s i % 4 ≡ 0 → (offset s i ≡ ended s i → ⊥) → r ≡ at 7 i

-- what stands in front of the entries is in order: room for all that the counts announce, at most 63 profiles, each as the format asks
pub record Fronted (s : Sheet) : Type 0 where
  pub room : bodies s ≤ sheet_size s
  pub few : profile_count s ≤ 63
  pub profiles : (i : ℕ) → i < profile_count s → Right (profiles_part s) i

-- Of what is refused, r, of the sheet s, with n entries and p profiles: 1 under 4 bytes, and under 4 + 8n + 4p; 2 with p over 63; 3 at the first profile with a
-- fault; then the entries, at the first with a fault; 8 where the sheet does not end where the last body ends; else nothing
pub record Grounds (s : Sheet) (r : Refusal) : Type 0 where
  pub one : sheet_size s < 4 → r ≡ refuse 1
  pub one_short : sheet_size s < bodies s → r ≡ refuse 1
  pub two : bodies s ≤ sheet_size s → 63 < profile_count s → r ≡ refuse 2
  pub three : bodies s ≤ sheet_size s → profile_count s ≤ 63 → (i : ℕ) → i < profile_count s → ((j : ℕ) → j < i → Right (profiles_part s) j) → Wrong (profiles_part s) i → r ≡ at 3 i
  pub entry : Fronted s → (i : ℕ) → i < feature_count s → ((j : ℕ) → j < i → Keeps s j) → Entering s i r
  pub eight : Fronted s → ((i : ℕ) → i < feature_count s → Keeps s i) → (sheet_size s ≡ ended s (feature_count s) → ⊥) → r ≡ refuse 8
  pub none : Fronted s → ((i : ℕ) → i < feature_count s → Keeps s i) → sheet_size s ≡ ended s (feature_count s) → r ≡ accept

-- ---- the definitions' words for these

lower_is : (s : Sheet) (i : ℕ) → number_before s i ≡ lower s i
unfolding number_before before
lower_is s zero = refl
lower_is s (suc i) = refl

ended_is : (s : Sheet) (i : ℕ) → end_before_entry s i ≡ ended s i
unfolding end_before_entry before
ended_is s zero = refl
ended_is s (suc i) = refl

-- ---- an entry's rule

four_too : (t : Bool) (y : Refusal) → y ≡ refuse 4 → (refuse 4 if t else y) ≡ refuse 4
unfolding ◌if◌else◌
four_too true y e = refl
four_too false y e = e

module _ (num low flag len off end : ℕ) where
  abbrev rule : Refusal
  rule = entry_rule num low flag len off end

  rule_4 : num ≤ low → rule ≡ refuse 4
  unfolding entry_rule
  rule_4 l = four_too _ _ (rw (le-leb num low l, if_true))

  module _ (a : low < num) where
    rule_5 : 64 ≤ flag → rule ≡ refuse 5
    unfolding entry_rule flags_rule
    rule_5 l =
        let e : flags_rule flag ≡ refuse 5 = (flagging (refuse 5) (refuse 44) flag).reserved (λ z. omega arith) l in
        rw (ne_eqb num 0 (λ z. omega arith), if_false, lt-leb num low a, if_false, or_else_fault (flags_rule flag) _ (λ z. omega (arith, ap (λ (r : Refusal). r.number) e, z))) e

    module _ (b : flag < 64) where
      rule_44 : flag % 4 ≡ 2 → rule ≡ refuse 44
      unfolding entry_rule flags_rule
      rule_44 l =
          let e : flags_rule flag ≡ refuse 44 = (flagging (refuse 5) (refuse 44) flag).alone b l in
          rw (ne_eqb num 0 (λ z. omega arith), if_false, lt-leb num low a, if_false, or_else_fault (flags_rule flag) _ (λ z. omega (arith, ap (λ (r : Refusal). r.number) e, z))) e

      module _ (c : flag % 4 ≡ 2 → ⊥) where
        no_flags : (flags_rule flag).number ≡ 0
        unfolding flags_rule
        no_flags = ap (λ (r : Refusal). r.number) ((flagging (refuse 5) (refuse 44) flag).fine b c)

        rule_6 : (len % 4 ≡ 0 → ⊥) → rule ≡ refuse 6
        unfolding entry_rule
        rule_6 n = rw (ne_eqb num 0 (λ z. omega arith), if_false, lt-leb num low a, if_false, or_else_none (flags_rule flag) _ no_flags, ne_eqb (len % 4) 0 n, if_true)

        rule_7 : len % 4 ≡ 0 → (off ≡ end → ⊥) → rule ≡ refuse 7
        unfolding entry_rule
        rule_7 e n = rw (ne_eqb num 0 (λ z. omega arith), if_false, lt-leb num low a, if_false, or_else_none (flags_rule flag) _ no_flags, eq-eqb (len % 4) 0 e, if_false, ne_eqb off end n, if_true)

        rule_none : len % 4 ≡ 0 → off ≡ end → rule ≡ accept
        unfolding entry_rule
        rule_none e f = rw (ne_eqb num 0 (λ z. omega arith), if_false, lt-leb num low a, if_false, or_else_none (flags_rule flag) _ no_flags, eq-eqb (len % 4) 0 e, if_false, eq-eqb off end f, if_false)

-- ---- the sheet's

module _ (s : Sheet) where
  abbrev ruled : ℕ → Refusal
  ruled i = entry_rule (number s i) (lower s i) (flags s i) (body_length s i) (offset s i) (ended s i)

  fault_is : (i : ℕ) {n : ℕ} → ruled i ≡ refuse (suc n) → entry_fault s i ≡ at (suc n) i
  unfolding entry_fault
  fault_is i {n} e =
      rw (lower_is s i, ended_is s i)
      (placed_fault (ruled i) (suc i) (λ z. omega (arith, ap (λ (r : Refusal). r.number) e, z)) ∙ ap (λ (r : Refusal). record { number = r.number; place = suc i }) e)

  keeps_none : (i : ℕ) → Keeps s i → (entry_fault s i).number ≡ 0
  unfolding entry_fault
  keeps_none i k =
      rw (lower_is s i, ended_is s i)
      (ap (λ (r : Refusal). r.number) (placed_none (ruled i) (suc i) (ap (λ (r : Refusal). r.number) (rule_none _ _ _ _ _ _ k.above k.low k.paired k.fours k.follows))))

  with_room : bodies s ≤ sheet_size s → verdict s ≡ counted s (feature_count s) (profile_count s)
  unfolding verdict
  with_room l = rw (le-ltb (sheet_size s) 4 (omega (arith, l)), if_false, le-ltb (sheet_size s) (bodies_at s) l, if_false)

  with_few : bodies s ≤ sheet_size s → profile_count s ≤ 63 → (y : Refusal) → records_fault (profiles_part s) ≡ y → (y.number ≡ 0 → ⊥) → verdict s ≡ y
  unfolding counted
  with_few l m y e n =
      with_room l ∙ rw (le-ltb 63 (profile_count s) m, if_false) (or_else_fault (records_fault (profiles_part s)) _ (λ z. n (ap (λ (r : Refusal). r.number) (sym e) ∙ z)) ∙ e)

  part_count : bodies s ≤ sheet_size s → length (profiles_part s) / 4 ≡ profile_count s
  part_count l = omega (arith, length_profiles_part s l)

  module _ (f : Fronted s) where
    to_entries : verdict s ≡ entries_verdict s (feature_count s)
    unfolding counted
    to_entries =
        let none : records_fault (profiles_part s) ≡ accept = (listing (profiles_part s)).none (λ i l. f.profiles i (omega (arith, part_count f.room))) in
        with_room f.room ∙ rw (le-ltb 63 (profile_count s) f.few, if_false, none) (or_else_none accept _ refl)

    entered : (i : ℕ) → i < feature_count s → ((j : ℕ) → j < i → Keeps s j) → {n : ℕ} → ruled i ≡ refuse (suc n) → verdict s ≡ at (suc n) i
    entered i l before e =
        let q = first_at_law (entry_fault s) (feature_count s) i l (λ j m. keeps_none j (before j m)) (fault_is i e) (λ z. omega arith) in
        to_entries ∙ or_else_fault (first_of (entry_fault s) 0 (feature_count s)) _ (λ z. omega (arith, ap (λ (r : Refusal). r.number) q, z)) ∙ q

    behind_all : ((i : ℕ) → i < feature_count s → Keeps s i) → verdict s ≡ (refuse 8 if mathlib.Core.Bool.not (lib.Dec.eqb (sheet_size s) (ended s (feature_count s))) else accept)
    behind_all k =
        to_entries
        ∙ or_else_none (first_of (entry_fault s) 0 (feature_count s)) _ (ap (λ (r : Refusal). r.number) (first_accept (entry_fault s) 0 (feature_count s) (λ j l m. keeps_none j (k j (omega arith)))))
        ∙ rw (ended_is s (feature_count s)) refl

  pub grounds : Grounds s (verdict s)
  unfolding verdict counted
  grounds = record {
    one = λ l. rw (lt-ltb (sheet_size s) 4 l, if_true);
    one_short = λ l. one_too _ _ (rw (lt-ltb (sheet_size s) (bodies_at s) l, if_true));
    two = λ l m. with_room l ∙ rw (lt-ltb 63 (profile_count s) m, if_true);
    three = λ l m i h b w. with_few l m (at 3 i) ((listing (profiles_part s)).three i (omega (arith, part_count l)) b w) (λ z. omega arith);
    entry = λ f i l b. record {
      four = λ x. entered f i l b (rule_4 _ _ _ _ _ _ x);
      five = λ x y. entered f i l b (rule_5 _ _ _ _ _ _ x y);
      forty_four = λ x y z. entered f i l b (rule_44 _ _ _ _ _ _ x y z);
      six = λ x y z u. entered f i l b (rule_6 _ _ _ _ _ _ x y z u);
      seven = λ x y z u v. entered f i l b (rule_7 _ _ _ _ _ _ x y z u v);
    };
    eight = λ f k n. behind_all f k ∙ rw (ne_eqb (sheet_size s) (ended s (feature_count s)) n, if_true);
    none = λ f k e. behind_all f k ∙ rw (eq-eqb (sheet_size s) (ended s (feature_count s)) e, if_false);
  }
    where
      one_too : (t : Bool) (y : Refusal) → y ≡ refuse 1 → (refuse 1 if t else y) ≡ refuse 1
      one_too true y e = if_true _ _
      one_too false y e = if_false _ _ ∙ e
