-- The head of a descriptor, put together from where an entry's fields stand, and where its offset stands: with Laws and Contents the only laws that know the layouts. Assumes
-- nothing.
use mathlib.Core.Path.{◌≡◌, refl, sym, ap, ◌∙◌}
use mathlib.Core.List.{List, [], ◌∷◌, ◌++◌, append_assoc}
use Prim.Native.Nat.{ℕ, ◌+◌, ◌*◌, ◌-◌, ◌≤◌, ◌<◌}
use native.Mathlib.Omega.{arith}
use lib.ListN.{length, length-append, get_or, set, take, drop}
use Rattle.base.specs.Lists.{Bytes}
use Rattle.base.proofs.Lists.{take_two, take_more}
use Rattle.fields.specs.Field.{field, spell}
use Rattle.fields.proofs.Laws.{length_spell, spell_field}
use Rattle.layout.specs.declared.Layout.{Layout}
use Rattle.layout.specs.declared.Layout.TheVariants.{Rows}
use Rattle.layout.specs.declared.Entry.{Entry}
use Rattle.layout.specs.Layout.{Sheet, stored, sheet_size, feature_count, number_place, flags_place, length_place, number, flags, body_length, offset}
use Rattle.layout.specs.Contents.{entry_of, head_bytes}
use Rattle.layout.specs.inner.Room.{Room}
use Rattle.layout.specs.inner.Found.{found_of}
use Rattle.layout.proofs.Laws.{fields_inside}

pub length_head : (e : Entry) → length (head_bytes e) ≡ 4
length_head e = simp (length-append, length_spell)

-- what is copied over a local array of n
pub copied : (s b : List ℕ) (at n : ℕ) → at + n ≤ length s
    → b ≡ take (at + n - at) (drop at s)
    → b ≡ take n (drop at s)
copied s b at n h e =
    let m : at + n - at ≡ n = omega arith in
    e ∙ rw m

-- two bytes set behind two that are copied
pub two_set : (x : List ℕ) (v w : ℕ) → length x ≡ 2 → set (set (x ++ (0 ∷ 0 ∷ [])) 2 v) 3 w ≡ x ++ (v ∷ w ∷ [])
two_set [] v w h = absurd (omega arith)
two_set (a ∷ []) v w h = absurd (omega arith)
two_set (a ∷ b ∷ []) v w h = refl
two_set (a ∷ b ∷ d ∷ x) v w h = absurd (omega arith)

-- gathered from its places it is the head, in either layout
pub head_gathered : (l : Layout) (b : List ℕ) (n i : ℕ) → Bytes b → Room b n → i < n
    → take 2 (drop (number_place l n i) b) ++ (get_or b (flags_place l n i) 0 ∷ get_or b (length_place l n i) 0 ∷ []) ≡ head_bytes (entry_of (stored l b) i)
unfolding entry_of number flags body_length
head_gathered l b n i k r h =
    let e : spell 2 (field 2 b (number_place l n i)) ≡ take 2 (drop (number_place l n i) b) = spell_field 2 b (number_place l n i) k (omega (arith, (fields_inside l n i h).number, r.1)) in
    rw (← r.0, e) (sym (append_assoc (take 2 (drop (number_place l n i) b)) (get_or b (flags_place l n i) 0 ∷ []) (get_or b (length_place l n i) 0 ∷ [])))

-- in rows it stands in one piece
pub row_inside : (l : Layout) (n i : ℕ) → l ≡ Rows → i < n → number_place l n i + 8 ≤ 4 + 8 * n
unfolding number_place
row_inside l n i e h = rw (e, number_place) (omega arith)

pub head_in_row : (l : Layout) (b : List ℕ) (n i : ℕ) → l ≡ Rows → Bytes b → Room b n → i < n
    → take 4 (drop (number_place l n i) b) ≡ head_bytes (entry_of (stored l b) i)
unfolding number_place flags_place length_place
head_in_row l b n i q k r h =
    let two : get_or b (4 + 8 * i + 2) 0 ∷ get_or b (4 + 8 * i + 3) 0 ∷ [] ≡ take 2 (drop (4 + 8 * i + 2) b) =
    ap (λ (j : ℕ). get_or b (4 + 8 * i + 2) 0 ∷ get_or b j 0 ∷ []) {x = 4 + 8 * i + 3} {y = 4 + 8 * i + 2 + 1} (omega arith) ∙ take_two b (4 + 8 * i + 2) (omega (arith, r.1)) in
    let e : take 4 (drop (4 + 8 * i) b) ≡ take 2 (drop (4 + 8 * i) b) ++ (get_or b (4 + 8 * i + 2) 0 ∷ get_or b (4 + 8 * i + 3) 0 ∷ []) =
    sym (rw two (take_more b (4 + 8 * i) 2 2)) in
    rw (q, number_place) (e ∙ head_gathered Rows b n i k r h)

-- ---- where the offset of an entry that was found stands

module _ (s : Sheet) (i : ℕ) where
  pub found_offset : field 4 s.bytes (found_of s i).place ≡ offset s i
  unfolding found_of offset
  found_offset = refl

  pub found_inside : i < feature_count s → 4 + 8 * feature_count s ≤ sheet_size s → (found_of s i).place + 4 ≤ sheet_size s
  unfolding found_of
  found_inside h r = omega (arith, (fields_inside s.layout (feature_count s) i h).offset)
