-- What is found in any received bytes: the same bytes when written out again, good, ascending, and no more where they are cut. Assumes nothing.
use mathlib.Core.Path.{◌≡◌, refl, sym, ap, ap₂, ◌∙◌}
use mathlib.Core.Logic.{◌⊎◌, inl, inr, ⊎_elim}
use mathlib.Core.List.{List, [], ◌∷◌, ◌++◌}
use Prim.Native.Nat.{ℕ, zero, suc, ◌+◌, ◌%◌, ◌≤◌, ◌<◌, min}
use native.Mathlib.Omega.{arith}
use lib.ListN.{length, take, drop, length-append, length-take, length-drop}
use lib.Seq.{length-take-le, get_or-take}
use Rattle.base.specs.Lists.{flat, All, Bytes}
use Rattle.base.proofs.Lists.{bytes_take, bytes_drop, take_two, take_more, part_take, front_rest, front_count}
use Rattle.fields.specs.Field.{spell}
use Rattle.fields.proofs.Laws.{spell_field, field_lt, field_take}
use Rattle.refusal.specs.declared.Refusal.{Refusal}
use Rattle.refusal.specs.First.{accept}
use Rattle.text.specs.Drive.{Desc, Good, Asc}
use Rattle.text.specs.Response.{bytes}
use Rattle.text.specs.Reading.{Walked, stop, onward, stated_length, stated_end, number_at, flags_at, length_at, desc_at, head_fault, walk, walked, read_fault, wholes}
use Rattle.base.proofs.Compare.{le_or_lt}
use Rattle.text.proofs.Selection.{asc_down}
use Rattle.text.proofs.Sizes.{length_bytes}
use Rattle.text.proofs.Walk.{walk_none, walk_few, walk_bad, walk_short, walk_step, walk_end, walk_induct, HeaderFine, HeadFine, head_rule_zero, read_fault_header, read_fault_walk, read_fault_accept, wholes_accepted, wholes_refused}

-- ---- one descriptor

-- its four header bytes written out again
head_again : (s : List ℕ) (at : ℕ) → Bytes s → at + 4 ≤ length s → spell 2 (number_at s at) ++ (flags_at s at ∷ length_at s at ∷ []) ≡ take 4 (drop at s)
unfolding number_at flags_at length_at
head_again s at b l =
    let e : at + 3 ≡ at + 2 + 1 = omega arith in
    rw (spell_field 2 s at b (omega arith), e, take_two s (at + 2) (omega arith)) (take_more s at 2 2)

length_desc_at : (s : List ℕ) (at : ℕ) → at + 4 + length_at s at ≤ length s → length (desc_at s at).body ≡ length_at s at
unfolding desc_at
length_desc_at s at l = length-take-le (length_at s at) (drop (at + 4) s) (omega (arith, length-drop (at + 4) s))

module _ (s : List ℕ) (at : ℕ) (b : Bytes s) (l : at + 4 + length_at s at ≤ length s) where
  -- all of it written out again
  pub bytes_desc_at : bytes (desc_at s at) ≡ take (4 + length_at s at) (drop at s)
  unfolding bytes desc_at
  bytes_desc_at = rw (length_desc_at s at l, head_again s at b (omega arith)) (take_more s at 4 (length_at s at))

  desc_at_good : length_at s at % 4 ≡ 0 → Good (desc_at s at)
  unfolding desc_at number_at flags_at length_at
  desc_at_good four = record {
    number_low = field_lt 2 s at b;
    flags_low = b (at + 2);
    four = rw (length_desc_at s at l) four;
    short = omega (arith, length_desc_at s at l, b (at + 3));
    bytes = bytes_take (length_at s at) (drop (at + 4) s) (bytes_drop (at + 4) s b);
  }

-- ---- all of a walk

module _ (rt sfn end : ℕ) (s : List ℕ) where
  head_facts : (lo at : ℕ) → (head_fault rt sfn end s lo at).number ≡ 0 → HeadFine rt sfn end lo at (number_at s at) (flags_at s at) (length_at s at)
  unfolding head_fault
  head_facts lo at e = head_rule_zero rt sfn end lo at (number_at s at) (flags_at s at) (length_at s at) e

  -- written out again the descriptors are the received bytes
  pub walk_again : Bytes s → (k lo at : ℕ) → flat bytes (walk k rt sfn end s lo at).found ≡ take (length (flat bytes (walk k rt sfn end s lo at).found)) (drop at s)
  unfolding flat
  walk_again b = walk_induct rt sfn end s (λ lo at w. flat bytes w.found ≡ take (length (flat bytes w.found)) (drop at s))
      (λ lo at r p. refl)
      (λ lo at w e l h.
      let x : List ℕ = flat bytes w.found in
      let p : at + 4 + length_at s at ≡ at + (4 + length_at s at) = omega arith in
      let n : length (bytes (desc_at s at) ++ x) ≡ 4 + length_at s at + length x = omega (arith, length-append (bytes (desc_at s at)) x, length_bytes (desc_at s at), length_desc_at s at l) in
      ap₂ (λ (y z : List ℕ). y ++ z) (bytes_desc_at s at b l) (rw p at h) ∙ take_more s at (4 + length_at s at) (length x) ∙ ap (λ (k : ℕ). take k (drop at s)) (sym n))

  -- they end where the received bytes end or before
  pub walk_inside : (k lo at : ℕ) → at ≤ length s → at + length (flat bytes (walk k rt sfn end s lo at).found) ≤ length s
  unfolding flat
  walk_inside = walk_induct rt sfn end s (λ lo at w. at ≤ length s → at + length (flat bytes w.found) ≤ length s)
      (λ lo at r i. omega arith)
      (λ lo at w e l h i.
      omega (arith, length-append (bytes (desc_at s at)) (flat bytes w.found), length_bytes (desc_at s at), length_desc_at s at l, h l))

  pub walk_good : Bytes s → (k lo at : ℕ) → All Good (walk k rt sfn end s lo at).found
  walk_good b = walk_induct rt sfn end s (λ lo at w. All Good w.found)
      (λ lo at r p. tt)
      (λ lo at w e l h. (desc_at_good s at b l (head_facts lo at e).four, h))

  pub walk_asc : (k lo at : ℕ) → Asc lo (walk k rt sfn end s lo at).found
  unfolding desc_at
  walk_asc = walk_induct rt sfn end s (λ lo at w. Asc lo w.found)
      (λ lo at r p. tt)
      (λ lo at w e l h. ((head_facts lo at e).from, asc_down (1 + number_at s at) (number_at s at + 1) w.found (omega arith) h))

-- ---- all of a response

module _ (rt sfn : ℕ) (s : List ℕ) where
  -- the bytes from 8 to the place behind the last descriptor
  pub walked_again : Bytes s → flat bytes (walked rt sfn s).found ≡ take (length (flat bytes (walked rt sfn s).found)) (drop 8 s)
  unfolding walked
  walked_again b = walk_again rt sfn (stated_end s) s b (length s) sfn 8

  pub walked_inside : 8 ≤ length s → 8 + length (flat bytes (walked rt sfn s).found) ≤ length s
  unfolding walked
  walked_inside = walk_inside rt sfn (stated_end s) s (length s) sfn 8

  pub walked_good : Bytes s → All Good (walked rt sfn s).found
  unfolding walked
  walked_good b = walk_good rt sfn (stated_end s) s b (length s) sfn 8

  pub walked_asc : Asc sfn (walked rt sfn s).found
  unfolding walked
  walked_asc = walk_asc rt sfn (stated_end s) s (length s) sfn 8

-- ---- a response cut shorter

-- what is read of a descriptor whose four header bytes, or all of whose bytes, were received
module _ (s : List ℕ) (n at : ℕ) (l : at + 4 ≤ n) where
  number_at_cut : number_at (take n s) at ≡ number_at s at
  unfolding number_at
  number_at_cut = field_take 2 n s at (omega arith)

  flags_at_cut : flags_at (take n s) at ≡ flags_at s at
  unfolding flags_at
  flags_at_cut = get_or-take n s (at + 2) 0 (omega arith)

  length_at_cut : length_at (take n s) at ≡ length_at s at
  unfolding length_at
  length_at_cut = get_or-take n s (at + 3) 0 (omega arith)

  desc_at_cut : at + 4 + length_at s at ≤ n → desc_at (take n s) at ≡ desc_at s at
  unfolding desc_at
  desc_at_cut h = rw (number_at_cut, flags_at_cut, length_at_cut, part_take (length_at s at) (at + 4) n s h)

  head_fault_cut : (rt sfn end lo : ℕ) → head_fault rt sfn end (take n s) lo at ≡ head_fault rt sfn end s lo at
  unfolding head_fault
  head_fault_cut rt sfn end lo = rw (number_at_cut, flags_at_cut, length_at_cut)

-- w is a walk over a front of what v is a walk over: it finds a front, and refuses nothing that v does not refuse
pub record Cut (w v : Walked) : Type 0 where
  pub found : w.found ≡ take (length w.found) v.found
  pub fault : v.fault.number ≡ 0 → w.fault.number ≡ 0

cut_none : (v : Walked) → Cut (stop accept) v
cut_none v = record { found = refl; fault = λ e. refl }

cut_bad : (r : Refusal) → Cut (stop r) (stop r)
cut_bad r = record { found = refl; fault = λ e. e }

cut_on : (d : Desc) (w v : Walked) → Cut w v → Cut (onward d w) (onward d v)
cut_on d w v c = record { found = ap (λ (r : List Desc). d ∷ r) c.found; fault = c.fault }

module _ (rt sfn end : ℕ) (s : List ℕ) (n : ℕ) where
  -- the walk over the front, and the one over all
  abbrev front : (k lo at : ℕ) → Walked
  front k lo at = walk k rt sfn end (take n s) lo at

  abbrev entire : (k lo at : ℕ) → Walked
  entire k lo at = walk k rt sfn end s lo at

  -- a step of the front, told by what stands in all
  module _ (k lo at : ℕ) (four : at + 4 ≤ length (take n s)) where
    inside : at + 4 ≤ n
    inside = omega (arith, length-take n s)

    front_bad : ((head_fault rt sfn end s lo at).number ≡ 0 → ⊥) → front (suc k) lo at ≡ stop (head_fault rt sfn end s lo at)
    front_bad e =
        walk_bad k rt sfn end (take n s) lo at four (rw (head_fault_cut s n at inside rt sfn end lo) e)
        ∙ ap stop (head_fault_cut s n at inside rt sfn end lo)

    front_short : (head_fault rt sfn end s lo at).number ≡ 0 → length (take n s) < at + 4 + length_at s at → front (suc k) lo at ≡ stop accept
    front_short e l =
        walk_short k rt sfn end (take n s) lo at four (rw (head_fault_cut s n at inside rt sfn end lo) e) (rw (length_at_cut s n at inside) l)

    front_step : (head_fault rt sfn end s lo at).number ≡ 0 → at + 4 + length_at s at ≤ length (take n s)
        → front (suc k) lo at ≡ onward (desc_at s at) (front k (number_at s at + 1) (at + 4 + length_at s at))
    front_step e l =
        walk_step k rt sfn end (take n s) lo at four (rw (head_fault_cut s n at inside rt sfn end lo) e) (rw (length_at_cut s n at inside) l)
        ∙ rw (desc_at_cut s n at inside (omega (arith, length-take n s)), number_at_cut s n at inside, length_at_cut s n at inside)

  cut_step : (k j lo at : ℕ) → Cut (front k (number_at s at + 1) (at + 4 + length_at s at)) (entire j (number_at s at + 1) (at + 4 + length_at s at))
      → Cut (front (suc k) lo at) (entire (suc j) lo at)
  cut_step k j lo at h =
      go (head_fault rt sfn end s lo at).number refl (le_or_lt (at + 4) (length (take n s))) (le_or_lt (at + 4 + length_at s at) (length (take n s)))
    where
      go : (e : ℕ) → (head_fault rt sfn end s lo at).number ≡ e → (at + 4 ≤ length (take n s)) ⊎ (length (take n s) < at + 4)
          → (at + 4 + length_at s at ≤ length (take n s)) ⊎ (length (take n s) < at + 4 + length_at s at) → Cut (front (suc k) lo at) (entire (suc j) lo at)
      go e q (inr few) r = rw (walk_few k rt sfn end (take n s) lo at few) (cut_none (entire (suc j) lo at))
      go zero q (inl four) (inl all) =
          rw (front_step k lo at four q all, walk_step j rt sfn end s lo at (omega (arith, length-take n s)) q (omega (arith, length-take n s)))
          (cut_on (desc_at s at) (front k (number_at s at + 1) (at + 4 + length_at s at)) (entire j (number_at s at + 1) (at + 4 + length_at s at)) h)
      go zero q (inl four) (inr cut) = rw (front_short k lo at four q cut) (cut_none (entire (suc j) lo at))
      go (suc e) q (inl four) r =
          rw (front_bad k lo at four (λ z. omega arith), walk_bad j rt sfn end s lo at (omega (arith, length-take n s)) (λ z. omega arith))
          (cut_bad (head_fault rt sfn end s lo at))

  pub walk_cut : (k j lo at : ℕ) → k ≤ j → Cut (walk k rt sfn end (take n s) lo at) (walk j rt sfn end s lo at)
  walk_cut zero j lo at h = rw walk_none (cut_none (walk j rt sfn end s lo at))
  walk_cut (suc k) zero lo at h = absurd (omega arith)
  walk_cut (suc k) (suc j) lo at h = cut_step k j lo at (walk_cut k j (number_at s at + 1) (at + 4 + length_at s at) (omega arith))

module _ (rt sfn n : ℕ) (s : List ℕ) where
  stated_length_cut : 4 ≤ n → stated_length (take n s) ≡ stated_length s
  unfolding stated_length
  stated_length_cut h = field_take 4 n s 0 (omega arith)

  pub walked_cut : Cut (walked rt sfn (take n s)) (walked rt sfn s)
  unfolding walked
  walked_cut = ⊎_elim
      (λ (h : 4 ≤ n). rw (stated_length_cut h) (walk_cut rt sfn (stated_end s) s n (length (take n s)) (length s) sfn 8 (omega (arith, length-take n s))))
      (λ (h : n < 4). rw (walk_end (length (take n s)) rt sfn (stated_end (take n s)) (take n s) sfn 8 (omega (arith, length-take n s))) (cut_none (walked rt sfn s)))
      (le_or_lt 4 n)

  -- cutting adds no descriptor
  pub walked_cut_rest : (walked rt sfn s).found ≡ (walked rt sfn (take n s)).found ++ drop (length (walked rt sfn (take n s)).found) (walked rt sfn s).found
  walked_cut_rest = front_rest (walked rt sfn (take n s)).found (walked rt sfn s).found walked_cut.found

  pub walked_cut_count : length (walked rt sfn (take n s)).found ≤ length (walked rt sfn s).found
  walked_cut_count = front_count (walked rt sfn (take n s)).found (walked rt sfn s).found walked_cut.found

  module _ (limit : ℕ) (e : (read_fault limit rt sfn s).number ≡ 0) where
    -- a front that holds the header of a response that is accepted is accepted
    pub read_fault_cut : 8 ≤ n → read_fault limit rt sfn (take n s) ≡ accept
    read_fault_cut h =
        let f : HeaderFine limit rt (length s) (stated_length s) = read_fault_header limit rt sfn s e in
        let q : stated_length (take n s) ≡ stated_length s = stated_length_cut (omega arith) in
        let c : length (take n s) ≡ min n (length s) = length-take n s in
        read_fault_accept limit rt sfn (take n s)
        record { two = f.two; eight = omega arith; most = omega arith; low = omega arith; four = rw q f.four; within = omega arith; room = omega arith }
        (walked_cut.fault (read_fault_walk limit rt sfn s e))

    pub wholes_cut : wholes limit rt sfn (take n s) ≡ take (length (wholes limit rt sfn (take n s))) (wholes limit rt sfn s)
    wholes_cut = go (read_fault limit rt sfn (take n s)).number refl
      where
        go : (k : ℕ) → (read_fault limit rt sfn (take n s)).number ≡ k → wholes limit rt sfn (take n s) ≡ take (length (wholes limit rt sfn (take n s))) (wholes limit rt sfn s)
        go zero q = rw (wholes_accepted limit rt sfn (take n s) q, wholes_accepted limit rt sfn s e) walked_cut.found
        go (suc k) q = rw (wholes_refused limit rt sfn (take n s) (λ z. omega arith))
