-- The response by index, case by case and turn by turn: what the box's functions and loops need. Assumes nothing.
use mathlib.Core.Path.{◌≡◌, refl, sym, ap, ◌∙◌}
use mathlib.Core.Bool.{Bool, true, false}
use mathlib.Core.List.{List, [], ◌++◌, append_assoc, append-nil}
use Prim.Native.Nat.{ℕ, zero, suc, ◌+◌, ◌-◌, ◌*◌, ◌/◌, ◌%◌, ◌^◌, ◌≤◌, ◌<◌}
use native.Mathlib.Nat.{add-zero, add-suc}
use native.Mathlib.Omega.{arith}
use lib.Dec.{eqb}
use lib.ListN.{length, take, drop}
use borrow.Author.Tests.{lt-ltb, le-ltb, eq-eqb, ne_eqb}
use Rattle.base.specs.Lists.{Bytes}
use Rattle.fields.specs.Field.{field, spell}
use lib.Arith.{digits_div, digits_mod}
use Rattle.fields.proofs.Laws.{field_lt, spell_split}
use Rattle.lent.specs.Wrote.{Wrote}
use Rattle.lent.proofs.Laws.{nowhere, then, written_as}
use Rattle.text.specs.declared.Header.{Header}
use Rattle.text.specs.Response.{header, header_of, current_profile}
use Rattle.profiles.specs.Profiles.{profiles_of}
use Rattle.layout.specs.declared.Found.{Found}
use Rattle.layout.specs.Contents.{entry_of, head_bytes}
use Rattle.layout.specs.inner.Found.{found_of}
use Rattle.layout.proofs.Heads.{found_offset}
use Rattle.layout.specs.Layout.{Sheet, features, profiles, number, length_place, offset_place, flags, body_length, offset, profiles_in}
use Rattle.sheet.specs.Check.{end_before_entry}
use Rattle.responder.specs.inner.Index.{wanted_end, skips, desc_of, desc_bytes, piece, whole_bytes, going, pieces, piece_size, found_size, pieces_size, span, entries_size, zero_of, at_zero, zero_bytes, zero_part, zero_size}

-- ---- what goes as numbers of four bytes

-- the profile, behind two bytes that are 0
pub header_words : (n p : ℕ) → p < 65536 → spell 4 n ++ spell 4 p ≡ header n p
unfolding header spell
header_words n p h =
    let z : p / 65536 ≡ 0 = omega (arith, h) in
    ap (λ (w : List ℕ). spell 4 n ++ w) (spell_split 2 2 p ∙ ap (λ (k : ℕ). spell 2 k ++ spell 2 p) z) ∙ sym (append_assoc (spell 4 n) (spell 2 0) (spell 2 p))

-- feature 0's number, flags and length
pub zero_words : (l : ℕ) (body : List ℕ) → l < 256 → spell 4 (3 * 256 + l) ++ body ≡ desc_of 0 3 l body
unfolding spell
zero_words l body h = rw (digits_div 3 h, digits_mod 3 h) refl

-- ---- one entry

module _ (rt : ℕ) (s : Sheet) (i : ℕ) where
  pub piece_none : skips rt (flags s i) ≡ true → piece rt s i ≡ []
  unfolding piece
  piece_none e = rw (e, piece)

  pub piece_some : skips rt (flags s i) ≡ false → piece rt s i ≡ desc_bytes s i
  unfolding piece
  piece_some e = rw (e, piece)

  pub size_none : skips rt (flags s i) ≡ true → piece_size rt s i ≡ 0
  unfolding piece_size
  size_none e = rw (e, piece_size)

  pub size_some : skips rt (flags s i) ≡ false → piece_size rt s i ≡ 4 + body_length s i
  unfolding piece_size
  size_some e = rw (e, piece_size)

-- ---- a walk that stops or goes on

module _ {d e f : List ℕ} {at r q : ℕ} {xs : List ℕ} (stops : Bool) (bs : List ℕ) (v : Wrote d at xs r e) (w : Wrote e r (going stops bs) q f) where
  pub stopping : stops ≡ true → Wrote d at xs q f
  unfolding going
  stopping h = written_as (ap (λ (b : Bool). xs ++ going b bs) h ∙ append-nil xs) (then v w)

  pub going_on : stops ≡ false → Wrote d at (xs ++ bs) q f
  unfolding going
  going_on h = written_as (ap (λ (b : Bool). xs ++ going b bs) h) (then v w)

-- ---- one that was found

module _ (rt f len : ℕ) where
  pub found_size_none : skips rt f ≡ true → found_size rt f len ≡ 0
  unfolding found_size
  found_size_none e = rw (e, found_size)

  pub found_size_some : skips rt f ≡ false → found_size rt f len ≡ 4 + len
  unfolding found_size
  found_size_some e = rw (e, found_size)

size_entry : (rt : ℕ) (s : Sheet) (i : ℕ) → found_size rt (found_of s i).flags.0 (found_of s i).length ≡ piece_size rt s i
unfolding found_size piece_size found_of
size_entry rt s i = refl

pub found_size_law : (rt : ℕ) (s : Sheet) (i : ℕ) (f : Found) → f ≡ found_of s i → found_size rt f.flags.0 f.length ≡ piece_size rt s i
found_size_law rt s i f e = (λ j. found_size rt (e j).flags.0 (e j).length) ∙ size_entry rt s i

module _ (s : Sheet) (i body len : ℕ) where
  -- with no body the head is all
  pub whole_head : len ≡ 0 → whole_bytes s i body len ≡ head_bytes (entry_of s i)
  unfolding whole_bytes
  whole_head e = rw e (append-nil (head_bytes (entry_of s i)))

  -- with one, the body goes behind the head
  pub whole_body : (k : ℕ) {d e f : List ℕ} {at r r' : ℕ} → k ≡ len → Wrote d at (head_bytes (entry_of s i)) r e → Wrote e r (take k (drop body s.bytes)) r' f
      → Wrote d at (whole_bytes s i body len) r' f
  unfolding whole_bytes
  whole_body k h w v = rw (← h) (then w v)

-- what was found of an entry, flags, length and body, makes its piece: nothing where it is passed over, else the whole
found_flags : (s : Sheet) (i : ℕ) → (found_of s i).flags.0 ≡ flags s i
unfolding found_of
found_flags s i = refl

found_whole : (s : Sheet) (i : ℕ) → whole_bytes s i (offset s i) (found_of s i).length ≡ desc_bytes s i
unfolding whole_bytes desc_bytes entry_of found_of
found_whole s i = refl

module _ (rt : ℕ) (s : Sheet) (i : ℕ) (f : Found) (e : f ≡ found_of s i) where
  same : skips rt (flags s i) ≡ skips rt f.flags.0
  same = sym (ap (λ (f : Found). skips rt f.flags.0) e ∙ ap (skips rt) (found_flags s i))

  pub found_none : skips rt f.flags.0 ≡ true → piece rt s i ≡ []
  found_none h = piece_none rt s i (same ∙ h)

  pub found_some : (body : ℕ) → body ≡ field 4 s.bytes f.place → skips rt f.flags.0 ≡ false → whole_bytes s i body f.length ≡ piece rt s i
  found_some body h k =
      let o : body ≡ offset s i = h ∙ ap (λ (f : Found). field 4 s.bytes f.place) e ∙ found_offset s i in
      (λ j. whole_bytes s i (o j) (e j).length) ∙ found_whole s i ∙ sym (piece_some rt s i (same ∙ k))

-- ---- a loop over entries, at index i from `from` on

module _ (rt : ℕ) (s : Sheet) (from i : ℕ) (h : from ≤ i) where
  back : from + (i - from) ≡ i
  back = omega arith

  pub pieces_more : pieces rt s from (i + 1 - from) ≡ pieces rt s from (i - from) ++ piece rt s i
  unfolding pieces
  pieces_more =
      ap (pieces rt s from) {x = i + 1 - from} {y = suc (i - from)} (omega arith)
      ∙ ap (λ (k : ℕ). pieces rt s from (i - from) ++ piece rt s k) back

  sizes_more : pieces_size rt s from (i + 1 - from) ≡ pieces_size rt s from (i - from) + piece_size rt s i
  unfolding pieces_size
  sizes_more =
      ap (pieces_size rt s from) {x = i + 1 - from} {y = suc (i - from)} (omega arith)
      ∙ ap (λ (k : ℕ). pieces_size rt s from (i - from) + piece_size rt s k) back

sizes_start : (rt : ℕ) (s : Sheet) (from : ℕ) → pieces_size rt s from (from - from) ≡ 0
unfolding pieces_size
sizes_start rt s from = ap (pieces_size rt s from) {x = from - from} {y = 0} (omega arith)

-- the sum of the entries passed
abbrev pub Summed : (rt : ℕ) (s : Sheet) (from to i sum : ℕ) → Type 0
Summed rt s from to i sum = (from ≤ i) × (i - from ≤ to - from) × (sum ≡ pieces_size rt s from (i - from)) × (sum ≤ 259 * (i - from))

module _ (rt : ℕ) (s : Sheet) (from to : ℕ) where
  pub summed_start : Summed rt s from to from 0
  summed_start = (omega arith, omega arith, sym (sizes_start rt s from), omega arith)

  module _ {i sum : ℕ} (h : Summed rt s from to i sum) where
    pub summed_more : {x : ℕ} → i < to → x ≡ piece_size rt s i → x < 260 → Summed rt s from to (i + 1) (sum + x)
    summed_more l e b = (omega (arith, h.0), omega (arith, h.0, l), omega (arith, sizes_more rt s from i h.0, h.2, e), omega (arith, h.0, h.3, b))

    pub summed_end : to ≤ i → (sum ≡ pieces_size rt s from (to - from)) × (sum ≤ 259 * (to - from))
    summed_end l =
        let e : i - from ≡ to - from = omega (arith, h.1) in
        (h.2 ∙ ap (pieces_size rt s from) e, omega (arith, h.3, e))

pub one_on : {from i to : ℕ} → from ≤ i → i < to → (from ≤ i + 1) × (i + 1 - from ≤ to - from)
one_on h k = (omega arith, omega arith)

pub fewer_left : {i to : ℕ} → i < to → to - (i + 1) < to - i
fewer_left h = omega arith

pub pieces_start : (rt : ℕ) (s : Sheet) (from : ℕ) → pieces rt s from (from - from) ≡ []
unfolding pieces
pieces_start rt s from = ap (pieces rt s from) {x = from - from} {y = 0} (omega arith)

-- a full buffer takes no more entries
full_more : {d e : List ℕ} {at w : ℕ} (rt : ℕ) (s : Sheet) (from k j : ℕ) → Wrote d at (pieces rt s from k) w e → length e ≤ w → Wrote d at (pieces rt s from (k + j)) w e
unfolding pieces
full_more rt s from k zero v h = rw add-zero v
full_more {d} {e} {at} {w} rt s from k (suc j) v h =
    rw add-suc (then (full_more rt s from k j v h) (nowhere e w (piece rt s (from + (k + j))) h))

pub full_stop : {d e : List ℕ} {at w : ℕ} (rt : ℕ) (s : Sheet) (from to i : ℕ) → Wrote d at (pieces rt s from (i - from)) w e → length e ≤ w → i ≤ to → from ≤ i
    → Wrote d at (pieces rt s from (to - from)) w e
full_stop rt s from to i v h l m =
    let k : to - from ≡ (i - from) + (to - i) = omega arith in
    rw k (full_more rt s from (i - from) (to - i) v h)

-- entries, and the entries behind them
pieces_join : (rt : ℕ) (s : Sheet) (from k j : ℕ) → pieces rt s from (k + j) ≡ pieces rt s from k ++ pieces rt s (from + k) j
unfolding pieces
pieces_join rt s from k zero = rw add-zero (sym (append-nil (pieces rt s from k)))
pieces_join rt s from k (suc j) =
    let e : from + (k + j) ≡ from + k + j = omega arith in
    rw add-suc
    (ap (λ (x : List ℕ). x ++ piece rt s (from + (k + j))) (pieces_join rt s from k j)
    ∙ append_assoc (pieces rt s from k) (pieces rt s (from + k) j) (piece rt s (from + (k + j)))
    ∙ ap (λ (m : ℕ). pieces rt s from k ++ (pieces rt s (from + k) j ++ piece rt s m)) e)

pub then_rest : {d e f : List ℕ} {at w q : ℕ} (rt : ℕ) (s : Sheet) (from to i : ℕ) → from ≤ i → i - from ≤ to - from
    → Wrote d at (pieces rt s from (i - from)) w e → Wrote e w (pieces rt s i (to - i)) q f → Wrote d at (pieces rt s from (to - from)) q f
then_rest rt s from to i l m v w =
    let k : to - from ≡ (i - from) + (to - i) = omega arith in
    let b : from + (i - from) ≡ i = omega arith in
    rw (k, pieces_join rt s from (i - from) (to - i), b) (then v w)

-- ---- which entries are wanted

module _ (s : Sheet) (n sfn r : ℕ) where
  pub end_all : (rt : ℕ) → rt < 2 → wanted_end rt s n sfn r ≡ n
  unfolding wanted_end
  end_all zero h = refl
  end_all (suc zero) h = refl
  end_all (suc (suc rt)) h = absurd (omega arith)

  pub end_none : (rt : ℕ) → 2 ≤ rt → n ≤ r → wanted_end rt s n sfn r ≡ r
  unfolding wanted_end
  end_none zero h l = absurd (omega arith)
  end_none (suc zero) h l = absurd (omega arith)
  end_none (suc (suc rt)) h l = rw (le-ltb r n l, wanted_end)

  pub end_one : (rt : ℕ) → 2 ≤ rt → r < n → number s r ≡ sfn → wanted_end rt s n sfn r ≡ r + 1
  unfolding wanted_end
  end_one zero h l e = absurd (omega arith)
  end_one (suc zero) h l e = absurd (omega arith)
  end_one (suc (suc rt)) h l e = rw (lt-ltb r n l, eq-eqb (number s r) sfn e, wanted_end)

  pub end_other : (rt : ℕ) → 2 ≤ rt → r < n → (number s r ≡ sfn → ⊥) → wanted_end rt s n sfn r ≡ r
  unfolding wanted_end
  end_other zero h l e = absurd (omega arith)
  end_other (suc zero) h l e = absurd (omega arith)
  end_other (suc (suc rt)) h l e = rw (lt-ltb r n l, ne_eqb (number s r) sfn e, wanted_end)

-- ---- sizes

module _ (s : Sheet) (from to : ℕ) where
  pub sizes_current : (rt : ℕ) → rt ≡ 1 → entries_size rt s from to ≡ pieces_size rt s from (to - from)
  unfolding entries_size
  sizes_current rt e = rw (eq-eqb rt 1 e, entries_size)

  pub sizes_span : (rt : ℕ) → (rt ≡ 1 → ⊥) → entries_size rt s from to ≡ span s from to
  unfolding entries_size
  sizes_span rt e = rw (ne_eqb rt 1 e, entries_size)

-- ---- the header, and feature 0

pub header_bytes : (b : List ℕ) (size : ℕ) {len profile : ℕ} {part : List ℕ} {h : Header} → part ≡ profiles_in b → profile ≡ current_profile (profiles_of part) → len ≡ (size + 4) % 2 ^ 32
    → h ≡ header_of len profile → header h.data_length h.profile.0 ≡ header ((size + 4) % 2 ^ 32) (current_profile (profiles_of (profiles_in b)))
unfolding header_of
header_bytes b size p q r e = ap (λ (g : Header). header g.data_length g.profile.0) e ∙ rw (q, p, r)

module _ (sfn : ℕ) (bs : List ℕ) where
  pub zero_sent : sfn ≡ 0 → at_zero sfn bs ≡ bs
  unfolding at_zero
  zero_sent e = rw (eq-eqb sfn 0 e, at_zero)

  pub zero_left : (sfn ≡ 0 → ⊥) → at_zero sfn bs ≡ []
  unfolding at_zero
  zero_left e = rw (ne_eqb sfn 0 e, at_zero)

-- of the profiles that a sheet has
pub zero_part_law : (b : List ℕ) (sfn : ℕ) {count : ℕ} {list : List ℕ} → count ≡ profiles b → list ≡ profiles_in b → at_zero sfn (zero_of count list) ≡ zero_part b sfn
unfolding at_zero zero_part zero_bytes
zero_part_law b sfn e h = λ j. elim (eqb sfn 0) [ true ↦ zero_of (e j) (h j) | false ↦ [] ]

module _ (b : List ℕ) (sfn : ℕ) where
  pub zero_size_sent : sfn ≡ 0 → zero_size b sfn ≡ 4 + 4 * profiles b
  unfolding zero_size
  zero_size_sent e = rw (eq-eqb sfn 0 e, zero_size)

  pub zero_size_left : (sfn ≡ 0 → ⊥) → zero_size b sfn ≡ 0
  unfolding zero_size
  zero_size_left e = rw (ne_eqb sfn 0 e, zero_size)

-- ---- an end of a body takes little more than four bytes

pub end_low : (s : Sheet) (i : ℕ) → Bytes s.bytes → end_before_entry s i < 4294967552
unfolding end_before_entry offset body_length features profiles
end_low s zero b = omega (arith, field_lt 2 s.bytes 0 b, field_lt 2 s.bytes 2 b)
end_low s (suc i) b = omega (arith, field_lt 4 s.bytes (offset_place s.layout (features s.bytes) i) b, b (length_place s.layout (features s.bytes) i))
