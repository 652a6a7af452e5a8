-- The text's sentences on flags, selections, descriptors and readings, in plain numbers of the bytes and without the words of the definitions: a
-- definition that is wrong is refused here, whatever code and laws are changed with it. Assumes nothing.
use borrow.Author.Tests.{le-leb, lt-leb, eq-eqb, ne_eqb, lt-ltb, le-ltb, eqb-true}
use mathlib.Core.Path.{◌≡◌, refl, sym, ap, ap₂, ◌∙◌}
use mathlib.Core.Bool.{Bool, true, false, not, ◌&&◌, and-false}
use mathlib.Core.List.{List, [], ◌∷◌, ◌++◌, append-nil}
use Prim.Native.Nat.{ℕ, zero, suc, ◌+◌, ◌*◌, ◌-◌, ◌/◌, ◌%◌, ◌≤◌, ◌<◌}
use native.Mathlib.Nat.{add-zero, div-div-eq-div-mul}
use native.Mathlib.Omega.{arith}
use lib.Dec.{leb, eqb}
use lib.ListN.{length, get_or, length-append}
use Rattle.base.specs.Lists.{each, flat}
use Rattle.base.proofs.Lists.{length_each}
use Rattle.fields.specs.Field.{field, spell}
use Rattle.refusal.specs.declared.Refusal.{Refusal}
use Rattle.refusal.specs.First.{refuse, accept}
use Rattle.refusal.proofs.First.{tests, if_true, if_false, or_else_none, or_else_fault}
use Rattle.text.specs.declared.Reading.{Reading}
use Rattle.text.specs.Flags.{flags_giving}
use Rattle.text.specs.Drive.{Desc, Listed, Drive, bit, profile_bytes}
use Rattle.text.specs.Response.{bytes, feature0, wants, header, data_length, full, selected, current_profile}
use Rattle.text.specs.Reading.{stated_length, stated_profile, stated_end, header_rule, head_rule, number_at, flags_at, length_at, desc_at, head_fault, Walked, walk, walked, read_fault, nothing_read, taken, reading, wholes}
use Rattle.text.proofs.Sizes.{length_full}
use Rattle.text.proofs.Profiles.{length_profiles}
use Rattle.text.proofs.Walk.{walk_bad, walk_short, walk_step, walk_end, HeaderFine, header_rule_accept, head_rule_accept, wholes_accepted}
use Rattle.text.proofs.Received.{length_desc_at, reading_fault, reading_none}

-- ---- numbers in bytes, the first byte the most significant

abbrev pub byte : List ℕ → ℕ → ℕ
byte s i = get_or s i 0

abbrev pub two : List ℕ → ℕ → ℕ
two s i = byte s i * 256 + byte s (i + 1)

abbrev pub four : List ℕ → ℕ → ℕ
four s i = byte s i * 16777216 + byte s (i + 1) * 65536 + byte s (i + 2) * 256 + byte s (i + 3)

pub field_two : (s : List ℕ) (i : ℕ) → field 2 s i ≡ two s i
unfolding field
field_two s i = rw add-zero (omega arith)

pub field_four : (s : List ℕ) (i : ℕ) → field 4 s i ≡ four s i
unfolding field
field_four s i = rw add-zero (omega arith)

-- ---- the flags byte

-- the reserved bits first, then Persistent (2) without Current (1); the Version (4 to 60) does not matter
pub record Flagging (bits lone : Refusal) (f : ℕ) (r : Refusal) : Type 0 where
  pub reserved : (bits.number ≡ 0 → ⊥) → 64 ≤ f → r ≡ bits
  pub alone : f < 64 → f % 4 ≡ 2 → r ≡ lone
  pub fine : f < 64 → (f % 4 ≡ 2 → ⊥) → r ≡ accept

-- what asks for nothing, or has what it asks for, is no fault
met : (a b x y : ℕ) → (a ≡ b → x ≡ y) → (eqb a b && not (eqb x y)) ≡ false
met a b x y h = go (eqb a b) refl
  where
    go : (t : Bool) → eqb a b ≡ t → (t && not (eqb x y)) ≡ false
    go true e = rw (eq-eqb x y (h (eqb-true a b e)))
    go false e = refl

pub flagging : (bits lone : Refusal) (f : ℕ) → Flagging bits lone f (flags_giving bits lone f)
unfolding flags_giving
flagging bits lone f = record {
  reserved = λ n h. rw (ne_eqb (f / 64) 0 (λ e. omega arith), if_true) (or_else_fault bits _ n);
  alone = λ h e. rw (eq-eqb (f / 64) 0 (omega arith), if_false, eq-eqb (f / 2 % 2) 1 (omega arith), ne_eqb (f % 2) 1 (λ z. omega arith), if_true) (or_else_none accept lone refl);
  fine = λ h n. rw (eq-eqb (f / 64) 0 (omega arith), if_false, met (f / 2 % 2) 1 (f % 2) 1 (λ p. omega (arith, n)), if_false) (or_else_none accept accept refl);
}

-- ---- what a request wants, and how it stands on the wire

-- RT 0: the features numbered sfn or higher. RT 1: of these the ones whose bit 0 of the flags is set. RT 2: the one numbered sfn. No other
pub record Wanting (sfn : ℕ) (d : Desc) (wanted : (rt : ℕ) → Bool) : Type 0 where
  pub from : sfn ≤ d.number → wanted 0 ≡ true
  pub below : d.number < sfn → wanted 0 ≡ false
  pub current_from : sfn ≤ d.number → d.flags % 2 ≡ 1 → wanted 1 ≡ true
  pub current_below : d.number < sfn → wanted 1 ≡ false
  pub not_current : (d.flags % 2 ≡ 1 → ⊥) → wanted 1 ≡ false
  pub one : d.number ≡ sfn → wanted 2 ≡ true
  pub other : (d.number ≡ sfn → ⊥) → wanted 2 ≡ false

pub wanting : (sfn : ℕ) (d : Desc) → Wanting sfn d (λ rt. wants rt sfn d)
unfolding wants
wanting sfn d = record {
  from = le-leb sfn d.number;
  below = lt-leb sfn d.number;
  current_from = λ h e. rw (le-leb sfn d.number h, eq-eqb (d.flags % 2) 1 e);
  current_below = λ h. rw (lt-leb sfn d.number h);
  not_current = λ n. rw (ne_eqb (d.flags % 2) 1 n) (and-false (leb sfn d.number));
  one = eq-eqb d.number sfn;
  other = ne_eqb d.number sfn;
}

-- the full response: Data Length in four bytes, which is its own length less 4, two zero bytes, the Current Profile in two, then the descriptors; each is
-- number, flags, Additional Length and body
pub record Worded (rt sfn : ℕ) (m : Drive) (response : List ℕ) : Type 0 where
  pub says : ℕ
  pub stands : response ≡ says / 16777216 % 256 ∷ says / 65536 % 256 ∷ says / 256 % 256 ∷ says % 256 ∷ 0 ∷ 0
      ∷ current_profile m.profiles / 256 % 256 ∷ current_profile m.profiles % 256 ∷ flat bytes (selected rt sfn m)
  pub counts : says + 4 ≡ length response

spell_four : (v : ℕ) → spell 4 v ≡ v / 16777216 % 256 ∷ v / 65536 % 256 ∷ v / 256 % 256 ∷ v % 256 ∷ []
unfolding spell
spell_four v =
    ap₂ (λ (a b : ℕ). a % 256 ∷ b % 256 ∷ v / 256 % 256 ∷ v % 256 ∷ []) (div-div-eq-div-mul (v / 256) 256 256 ∙ div-div-eq-div-mul v 256 65536) (div-div-eq-div-mul v 256 256)

pub worded : (rt sfn : ℕ) (m : Drive) → Worded rt sfn m (full rt sfn m)
unfolding full header data_length spell
worded rt sfn m = record {
  says = data_length (selected rt sfn m);
  stands = ap (λ (xs : List ℕ). xs ++ (0 ∷ 0 ∷ []) ++ spell 2 (current_profile m.profiles) ++ flat bytes (selected rt sfn m)) (spell_four (data_length (selected rt sfn m)));
  counts = omega (arith, length_full rt sfn m);
}

pub descriptor_bytes : (d : Desc) → bytes d ≡ d.number / 256 % 256 ∷ d.number % 256 ∷ d.flags ∷ length d.body ∷ d.body
unfolding bytes spell
descriptor_bytes d = refl

-- feature 0: number 0, flags 3, four bytes a profile: its number, 1 where it is current and else 0, and 0
pub record Zeroth (ps : List Listed) (d : Desc) : Type 0 where
  pub number : d.number ≡ 0
  pub flags : d.flags ≡ 3
  pub long : length d.body ≡ 4 * length ps
  pub body : d.body ≡ flat (λ (p : Listed). p.number / 256 % 256 ∷ p.number % 256 ∷ bit p.on ∷ 0 ∷ []) ps

pub zeroth : (ps : List Listed) → Zeroth ps (feature0 ps)
unfolding feature0 profile_bytes spell
zeroth ps = record { number = refl; flags = refl; long = length_profiles ps; body = refl }

-- ---- a reading

-- where descriptor j of a response starts, counted from 0: the first behind the header, each other one behind the four bytes and the body of the one before
unfoldable pub place : List ℕ → ℕ → ℕ
place s zero = 8
place s (suc j) = place s j + 4 + byte s (place s j + 3)

-- its number, its flags and its Additional Length, and the lowest number that it may have
abbrev pub number_of : List ℕ → ℕ → ℕ
number_of s j = two s (place s j)

abbrev pub flags_of : List ℕ → ℕ → ℕ
flags_of s j = byte s (place s j + 2)

abbrev pub length_of : List ℕ → ℕ → ℕ
length_of s j = byte s (place s j + 3)

unfoldable pub lowest : (sfn : ℕ) (s : List ℕ) → ℕ → ℕ
lowest sfn s zero = sfn
lowest sfn s (suc j) = number_of s j + 1

-- Data Length + 4
abbrev pub announced : List ℕ → ℕ
announced s = four s 0 + 4

-- none of 17 to 20 applies to descriptor j
pub record Passes (rt sfn : ℕ) (s : List ℕ) (j : ℕ) : Type 0 where
  pub fours : length_of s j % 4 ≡ 0
  pub above : lowest sfn s j ≤ number_of s j
  pub one : rt ≡ 2 → number_of s j ≡ sfn
  pub on : rt ≡ 1 → flags_of s j % 2 ≡ 1
  pub inside : place s (suc j) ≤ announced s

-- the first k descriptors were received whole, and none of them is refused
abbrev pub Passed : (rt sfn : ℕ) (s : List ℕ) (k : ℕ) → Type 0
Passed rt sfn s k = (j : ℕ) → j < k → (place s (suc j) ≤ length s) × Passes rt sfn s j

-- a reading that is refused: the number, every other field 0; and one that is not, of k whole descriptors
abbrev pub refused_with : ℕ → Reading
refused_with n = record { refusal = refuse n; profile = record { 0 = 0 }; data_length = 0; count = 0; end = 0; complete = false }

abbrev pub found : List ℕ → ℕ → Reading
found s k = record {
  refusal = accept;
  profile = record { 0 = two s 6 };
  data_length = four s 0;
  count = k;
  end = place s k;
  complete = eqb (length s) (announced s);
}

-- the header is refused: 13, 14, 15, 16 in this order
pub record Heading (limit rt : ℕ) (s : List ℕ) (r : Reading) : Type 0 where
  pub thirteen : 2 < rt → r ≡ refused_with 13
  pub fourteen_short : rt ≤ 2 → length s < 8 → r ≡ refused_with 14
  pub fourteen_long : rt ≤ 2 → 65534 < length s → r ≡ refused_with 14
  pub fifteen_low : rt ≤ 2 → 8 ≤ length s → length s ≤ 65534 → four s 0 < 4 → r ≡ refused_with 15
  pub fifteen_odd : rt ≤ 2 → 8 ≤ length s → length s ≤ 65534 → 4 ≤ four s 0 → (four s 0 % 4 ≡ 0 → ⊥) → r ≡ refused_with 15
  pub sixteen : rt ≤ 2 → 8 ≤ length s → length s ≤ 65534 → 4 ≤ four s 0 → four s 0 % 4 ≡ 0 → announced s < length s → r ≡ refused_with 16
  pub sixteen_limit : rt ≤ 2 → 8 ≤ length s → length s ≤ 65534 → 4 ≤ four s 0 → four s 0 % 4 ≡ 0 → length s ≤ announced s → limit < length s → r ≡ refused_with 16

-- it is not, and descriptor k is the first that is refused, its four header bytes received, its body or not: 17, 18, 19, 20 in this order
pub record Heads (rt sfn : ℕ) (s : List ℕ) (k : ℕ) (r : Reading) : Type 0 where
  pub seventeen : (length_of s k % 4 ≡ 0 → ⊥) → r ≡ refused_with 17
  pub eighteen : length_of s k % 4 ≡ 0 → number_of s k < lowest sfn s k → r ≡ refused_with 18
  pub eighteen_other : length_of s k % 4 ≡ 0 → lowest sfn s k ≤ number_of s k → rt ≡ 2 → (number_of s k ≡ sfn → ⊥) → r ≡ refused_with 18
  pub nineteen : length_of s k % 4 ≡ 0 → lowest sfn s k ≤ number_of s k → rt ≡ 1 → (flags_of s k % 2 ≡ 1 → ⊥) → r ≡ refused_with 19
  pub twenty : length_of s k % 4 ≡ 0 → lowest sfn s k ≤ number_of s k → (rt ≡ 2 → number_of s k ≡ sfn) → (rt ≡ 1 → flags_of s k % 2 ≡ 1) → announced s < place s (suc k) → r ≡ refused_with 20

-- Of the reading r of the bytes s as the answer to RT rt from sfn: the header's refusals; behind a header that is not refused and k whole descriptors that
-- are not, those of descriptor k where its four bytes were received; else what was found, where what is left is fewer than four bytes, or lacks a body
pub record Received (limit rt sfn : ℕ) (s : List ℕ) (r : Reading) : Type 0 where
  pub heading : Heading limit rt s r
  pub heads : HeaderFine limit rt (length s) (four s 0) → (k : ℕ) → Passed rt sfn s k → place s k + 4 ≤ length s → Heads rt sfn s k r
  pub ends : HeaderFine limit rt (length s) (four s 0) → (k : ℕ) → Passed rt sfn s k → length s < place s k + 4 → r ≡ found s k
  pub cut : HeaderFine limit rt (length s) (four s 0) → (k : ℕ) → Passed rt sfn s k → place s k + 4 ≤ length s → Passes rt sfn s k → length s < place s (suc k) → r ≡ found s k

-- ---- a descriptor's rule, in these numbers

module _ (rt sfn end lo at number flags len : ℕ) where
  abbrev rule : Refusal
  rule = head_rule rt sfn end lo at number flags len

  rule_17 : (len % 4 ≡ 0 → ⊥) → rule ≡ refuse 17
  unfolding head_rule
  rule_17 a = search tests

  module _ (a : len % 4 ≡ 0) where
    rule_18 : number < lo → rule ≡ refuse 18
    unfolding head_rule
    rule_18 b = search tests

    module _ (b : lo ≤ number) where
      rule_other : rt ≡ 2 → (number ≡ sfn → ⊥) → rule ≡ refuse 18
      unfolding head_rule
      rule_other c d = rw (eq-eqb (len % 4) 0 a, if_false, le-ltb number lo b, if_false, eq-eqb rt 2 c, ne_eqb number sfn d, if_true)

      rule_19 : rt ≡ 1 → (flags % 2 ≡ 1 → ⊥) → rule ≡ refuse 19
      unfolding head_rule
      rule_19 c d = rw (eq-eqb (len % 4) 0 a, if_false, le-ltb number lo b, if_false, ne_eqb rt 2 (λ e. omega arith), if_false, eq-eqb rt 1 c, ne_eqb (flags % 2) 1 d, if_true)

      rule_20 : (rt ≡ 2 → number ≡ sfn) → (rt ≡ 1 → flags % 2 ≡ 1) → end < at + 4 + len → rule ≡ refuse 20
      unfolding head_rule
      rule_20 c d e = rw (eq-eqb (len % 4) 0 a, if_false, le-ltb number lo b, if_false, met rt 2 number sfn c, if_false, met rt 1 (flags % 2) 1 d, if_false, lt-ltb end (at + 4 + len) e, if_true)

      rule_fine : (rt ≡ 2 → number ≡ sfn) → (rt ≡ 1 → flags % 2 ≡ 1) → at + 4 + len ≤ end → rule ≡ accept
      rule_fine c d e = head_rule_accept rt sfn end lo at number flags len record { four = a; from = b; one = met rt 2 number sfn c; on = met rt 1 (flags % 2) 1 d; within = e }

-- ---- the walk

place_high : (s : List ℕ) (k : ℕ) → 8 + 4 * k ≤ place s k
unfolding place
place_high s zero = omega arith
place_high s (suc k) = omega (arith, place_high s k)

module _ (limit rt sfn : ℕ) (s : List ℕ) where
  -- the descriptor at index j, and what is refused of it
  abbrev standing : ℕ → Desc
  standing j = desc_at s (place s j)

  abbrev ruled : ℕ → Refusal
  ruled j = head_rule rt sfn (announced s) (lowest sfn s j) (place s j) (number_of s j) (flags_of s j) (length_of s j)

  head_ruled : (lo at : ℕ) → head_fault rt sfn (stated_end s) s lo at ≡ head_rule rt sfn (announced s) lo at (two s at) (byte s (at + 2)) (byte s (at + 3))
  unfolding head_fault number_at flags_at length_at stated_length
  head_ruled lo at = ap₂ (λ (n e : ℕ). head_rule rt sfn (e + 4) lo at n (byte s (at + 2)) (byte s (at + 3))) (field_two s at) (field_four s 0)

  ruled_fine : (j : ℕ) → Passes rt sfn s j → ruled j ≡ accept
  unfolding place
  ruled_fine j p = rule_fine rt sfn (announced s) (lowest sfn s j) (place s j) (number_of s j) (flags_of s j) (length_of s j) p.fours p.above p.one p.on p.inside

  head_fine : (j : ℕ) → Passes rt sfn s j → (head_fault rt sfn (stated_end s) s (lowest sfn s j) (place s j)).number ≡ 0
  head_fine j p = ap (λ (r : Refusal). r.number) (head_ruled (lowest sfn s j) (place s j) ∙ ruled_fine j p)

  -- a walk that has found ds before
  abbrev behind : List Desc → Walked → Walked
  behind ds w = record { fault = w.fault; found = ds ++ w.found }

  abbrev from : (fuel j : ℕ) → Walked
  from fuel j = walk fuel rt sfn (stated_end s) s (lowest sfn s j) (place s j)

  -- one whole descriptor further
  walk_one : (i fuel : ℕ) → (place s (suc i) ≤ length s) × Passes rt sfn s i → from (suc fuel) i ≡ behind (standing i ∷ []) (from fuel (suc i))
  unfolding place lowest length_at number_at
  walk_one i fuel q =
      walk_step fuel rt sfn (stated_end s) s (lowest sfn s i) (place s i) (omega (arith, q.0)) (head_fine i q.1) q.0
      ∙ ap (λ (x : ℕ). behind (standing i ∷ []) (walk fuel rt sfn (stated_end s) s (x + 1) (place s (suc i)))) (field_two s (place s i))

  walk_passed : (i k n fuel : ℕ) → i + k ≡ n → Passed rt sfn s n → from (k + fuel) i ≡ behind (each standing i k) (from fuel n)
  unfolding each
  walk_passed i zero n fuel e p =
      let a : 0 + fuel ≡ fuel = omega arith in
      let b : i ≡ n = omega (arith, e) in
      ap₂ from a b
  walk_passed i (suc k) n fuel e p =
      let a : suc k + fuel ≡ suc (k + fuel) = omega arith in
      ap (λ (m : ℕ). from m i) a ∙ walk_one i (k + fuel) (p i (omega arith)) ∙ ap (behind (standing i ∷ [])) (walk_passed (suc i) k n fuel (omega arith) p)

  walked_passed : (k fuel : ℕ) → k + fuel ≡ length s → Passed rt sfn s k → walked rt sfn s ≡ behind (each standing 0 k) (from fuel k)
  unfolding walked lowest place
  walked_passed k fuel e p = ap (λ (n : ℕ). from n 0) (sym e) ∙ walk_passed 0 k k fuel (omega arith) p

  -- ---- a reading that is refused

  refused_number : (n : ℕ) → read_fault limit rt sfn s ≡ refuse (suc n) → reading limit rt sfn s ≡ refused_with (suc n)
  unfolding nothing_read
  refused_number n e = reading_fault limit rt sfn s (λ z. omega (arith, ap (λ (r : Refusal). r.number) e, z)) ∙ ap nothing_read e

  by_header : (n : ℕ) → header_rule limit rt (length s) (four s 0) ≡ refuse (suc n) → reading limit rt sfn s ≡ refused_with (suc n)
  unfolding read_fault stated_length
  by_header n e =
      let h : header_rule limit rt (length s) (stated_length s) ≡ refuse (suc n) = ap (header_rule limit rt (length s)) (field_four s 0) ∙ e in
      refused_number n (or_else_fault _ (walked rt sfn s).fault (λ z. omega (arith, ap (λ (r : Refusal). r.number) h, z)) ∙ h)

  heading : Heading limit rt s (reading limit rt sfn s)
  unfolding header_rule
  heading = record {
    thirteen = λ a. by_header 12 (search tests);
    fourteen_short = λ a b. by_header 13 (search tests);
    fourteen_long = λ a b. let c : 8 ≤ length s = omega arith in by_header 13 (search tests);
    fifteen_low = λ a b c d. by_header 14 (search tests);
    fifteen_odd = λ a b c d e. by_header 14 (search tests);
    sixteen = λ a b c d e f. by_header 15 (search tests);
    sixteen_limit = λ a b c d e f g. by_header 15 (search tests);
  }

  module _ (h : HeaderFine limit rt (length s) (four s 0)) (k : ℕ) (p : Passed rt sfn s k) where
    header_none : (header_rule limit rt (length s) (stated_length s)).number ≡ 0
    unfolding stated_length
    header_none = ap (λ (x : ℕ). (header_rule limit rt (length s) x).number) (field_four s 0) ∙ ap (λ (r : Refusal). r.number) (header_rule_accept limit rt (length s) (four s 0) h)

    by_head : place s k + 4 ≤ length s → (n : ℕ) → ruled k ≡ refuse (suc n) → reading limit rt sfn s ≡ refused_with (suc n)
    unfolding read_fault
    by_head l n e =
        let q : head_fault rt sfn (stated_end s) s (lowest sfn s k) (place s k) ≡ refuse (suc n) = head_ruled (lowest sfn s k) (place s k) ∙ e in
        let w : (walked rt sfn s).fault ≡ refuse (suc n) =
        ap (λ (w : Walked). w.fault) (walked_passed k (suc (length s - suc k)) (omega (arith, place_high s k)) p
        ∙ ap (behind (each standing 0 k)) (walk_bad (length s - suc k) rt sfn (stated_end s) s (lowest sfn s k) (place s k) l (λ z. omega (arith, ap (λ (r : Refusal). r.number) q, z)))) ∙ q in
        refused_number n (or_else_none _ (walked rt sfn s).fault header_none ∙ w)

    -- ---- and one that is not

    place_one : (i : ℕ) → place s (suc i) ≤ length s → place s i + length (bytes (standing i)) ≡ place s (suc i)
    unfolding place length_at
    place_one i q = omega (arith, length_desc_at s (place s i) q)

    place_sum : (i j n : ℕ) → i + j ≡ n → n ≤ k → place s i + length (flat bytes (each standing i j)) ≡ place s n
    unfolding each flat
    place_sum i zero n e l = omega (arith, ap (place s) {x = i} {y = n} (omega arith))
    place_sum i (suc j) n e l =
        omega (arith, length-append (bytes (standing i)) (flat bytes (each standing (suc i) j)), place_one i (p i (omega arith)).0, place_sum (suc i) j n (omega arith) l)

    taken_found : taken s (each standing 0 k) ≡ found s k
    unfolding taken stated_profile stated_length place
    taken_found = λ z. record {
      refusal = accept;
      profile = record { 0 = field_two s 6 z };
      data_length = field_four s 0 z;
      count = length_each standing 0 k z;
      end = place_sum 0 k k (omega arith) (omega arith) z;
      complete = eqb (length s) (field_four s 0 z + 4);
    }

    not_refused : walked rt sfn s ≡ record { fault = accept; found = each standing 0 k } → reading limit rt sfn s ≡ found s k
    unfolding read_fault
    not_refused w =
        reading_none limit rt sfn s (ap (λ (r : Refusal). r.number) (or_else_none _ (walked rt sfn s).fault header_none ∙ ap (λ (w : Walked). w.fault) w))
        ∙ ap (λ (w : Walked). taken s w.found) w ∙ taken_found

    -- a walk that stops behind them has found them
    stopped : (fuel : ℕ) → k + fuel ≡ length s → from fuel k ≡ record { fault = accept; found = [] } → walked rt sfn s ≡ record { fault = accept; found = each standing 0 k }
    stopped fuel e w =
        walked_passed k fuel e p ∙ ap (behind (each standing 0 k)) w ∙ ap (λ (ds : List Desc). record { fault = accept; found = ds }) (append-nil (each standing 0 k))

    to_end : length s < place s k + 4 → walked rt sfn s ≡ record { fault = accept; found = each standing 0 k }
    to_end l = stopped (length s - k) (omega (arith, count_low k p)) (walk_end (length s - k) rt sfn (stated_end s) s (lowest sfn s k) (place s k) l)
      where
        -- whole descriptors take four bytes or more each
        count_low : (n : ℕ) → Passed rt sfn s n → n ≤ length s
        count_low zero q = omega arith
        count_low (suc n) q = omega (arith, place_high s (suc n), (q n (omega arith)).0)

    short_of : length s < place s k + 4 → reading limit rt sfn s ≡ found s k
    short_of l = not_refused (to_end l)

    -- the whole descriptors, where what is left is fewer than four bytes
    pub wholes_standing : length s < place s k + 4 → wholes limit rt sfn s ≡ each standing 0 k
    unfolding read_fault
    wholes_standing l =
        let w : walked rt sfn s ≡ record { fault = accept; found = each standing 0 k } = to_end l in
        wholes_accepted limit rt sfn s (ap (λ (r : Refusal). r.number) (or_else_none _ (walked rt sfn s).fault header_none ∙ ap (λ (w : Walked). w.fault) w))
        ∙ ap (λ (w : Walked). w.found) w

    without_body : place s k + 4 ≤ length s → Passes rt sfn s k → length s < place s (suc k) → reading limit rt sfn s ≡ found s k
    unfolding place length_at
    without_body l q m =
        not_refused (stopped (suc (length s - suc k)) (omega (arith, place_high s k))
        (walk_short (length s - suc k) rt sfn (stated_end s) s (lowest sfn s k) (place s k) l (head_fine k q) m))

    heads_at : place s k + 4 ≤ length s → Heads rt sfn s k (reading limit rt sfn s)
    unfolding place
    heads_at l =
        let r : (n : ℕ) → ruled k ≡ refuse (suc n) → reading limit rt sfn s ≡ refused_with (suc n) = by_head l in
        record {
          seventeen = λ a. r 16 (rule_17 _ _ _ _ _ _ _ _ a);
          eighteen = λ a b. r 17 (rule_18 _ _ _ _ _ _ _ _ a b);
          eighteen_other = λ a b c d. r 17 (rule_other _ _ _ _ _ _ _ _ a b c d);
          nineteen = λ a b c d. r 18 (rule_19 _ _ _ _ _ _ _ _ a b c d);
          twenty = λ a b c d e. r 19 (rule_20 _ _ _ _ _ _ _ _ a b c d e);
        }

  pub received : Received limit rt sfn s (reading limit rt sfn s)
  received = record { heading = heading; heads = heads_at; ends = short_of; cut = without_body }
