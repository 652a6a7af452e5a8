-- The walk's loop: what is left of the walk, and what each turn makes of it. Assumes nothing.
use mathlib.Core.Path.{◌≡◌, refl, sym, ap, ◌∙◌}
use mathlib.Core.Bool.{true≢false}
use mathlib.Core.List.{List, [], ◌∷◌, ◌++◌}
use Prim.Native.Nat.{ℕ, zero, suc, ◌+◌, ◌-◌, ◌*◌, ◌≤◌, ◌<◌}
use native.Mathlib.Nat.{add-zero, zero-add, add_assoc}
use native.Mathlib.Omega.{arith}
use lib.ListN.{length, take, drop, get_or, length-append, length-drop}
use lib.Seq.{get_or-drop, take_all}
use Rattle.base.specs.Lists.{flat}
use Rattle.fields.specs.Field.{field}
use Rattle.text.specs.declared.Feature.{Feature}
use Rattle.refusal.specs.declared.Refusal.{Refusal}
use Rattle.refusal.specs.First.{accept, unless}
use Rattle.refusal.proofs.First.{unless_none, unless_fault}
use Rattle.text.specs.Drive.{Desc}
use Rattle.text.specs.Response.{bytes}
use Rattle.text.specs.Reading.{Walked, stop, onward, head_rule, number_at, flags_at, length_at, desc_at, head_fault, walk, last_number}
use Rattle.text.proofs.Walk.{walk_few, walk_bad, walk_short, walk_step}
use Rattle.text.proofs.Received.{length_desc_at}
use Rattle.reading.specs.declared.Head.{Head}
use Rattle.reading.specs.declared.Head.TheVariants as head
use Rattle.reading.specs.declared.Walk.{Walk}
use Rattle.reading.specs.declared.Walk.TheVariants as walked
use Rattle.reading.specs.declared.WalkJudged.{WalkJudged}
use Rattle.reading.specs.Judged.{odd_flags, odd_in}
use Rattle.reading.specs.inner.Tally.{head_at, last_from, behind, tally}

-- ---- the number of the last descriptor

pub last_from_law : (d : Desc) (ds : List Desc) → last_from d.number ds ≡ last_number (d ∷ ds)
unfolding last_from last_number
last_from_law d [] = refl
last_from_law d (e ∷ ds) = last_from_law e ds

pub last_start : (ds : List Desc) → last_from 0 ds ≡ last_number ds
unfolding last_from last_number
last_start [] = refl
last_start (d ∷ ds) = last_from_law d ds

-- ---- a walk in numbers

-- an answer v by cases: there is no refusal, or it is made of the refusal
pub by_cases : {A P : Type 0} (r : Refusal) (refused : Refusal → A) (x v : A) → v ≡ unless r refused x
    → (r.number ≡ 0 → v ≡ x → P) → ((r.number ≡ 0 → ⊥) → v ≡ refused r → P) → P
by_cases {A} {P} r refused x v q none fault = go r.number refl
  where
    go : (n : ℕ) → r.number ≡ n → P
    go zero e = none e (q ∙ unless_none r refused x e)
    go (suc n) e = let k : r.number ≡ 0 → ⊥ = λ z. omega arith in fault k (q ∙ unless_fault r refused x k)

module _ (count place last : ℕ) where
  pub tally_stop : tally count place last (stop accept) ≡ walked.Whole count place (record { 0 = last })
  unfolding tally last_from flat
  tally_stop = unless_none accept (λ r. walked.Refused r _) _ refl ∙ rw (add-zero, add-zero)

  pub tally_onward : (d : Desc) (w : Walked) → tally count place last (onward d w) ≡ tally (count + 1) (place + length (bytes d)) d.number w
  unfolding tally last_from flat
  tally_onward d w =
      let x : count + suc (length w.found) ≡ count + 1 + length w.found = omega arith in
      let y : place + length (bytes d ++ flat bytes w.found) ≡ place + length (bytes d) + length (flat bytes w.found) =
      omega (arith, length-append (bytes d) (flat bytes w.found)) in
      rw (x, y)

  -- what its cases say of the walk
  module _ (w : Walked) where
    pub tally_fault : (w.fault.number ≡ 0 → ⊥) → tally count place last w ≡ walked.Refused w.fault (behind place w)
    unfolding tally
    tally_fault k = unless_fault w.fault (λ r. walked.Refused r (behind place w)) _ k

    pub tally_refused : (r : Refusal) (at : ℕ) → walked.Refused r at ≡ tally count place last w → (r ≡ w.fault) × (w.fault.number ≡ 0 → ⊥) × (at ≡ behind place w)
    unfolding tally
    tally_refused r at q = by_cases w.fault (λ f. walked.Refused f (behind place w)) _ _ q (λ k e. absurd (true≢false cc)) (λ k e. (cc, k, cc))

    pub tally_whole : (n end : ℕ) (f : Feature) → walked.Whole n end f ≡ tally count place last w
        → (w.fault.number ≡ 0) × (n ≡ count + length w.found) × (end ≡ place + length (flat bytes w.found)) × (f ≡ record { 0 = last_from last w.found })
    unfolding tally
    tally_whole n end f q = by_cases w.fault (λ r. walked.Refused r (behind place w)) _ _ q (λ k e. (k, cc, cc, cc)) (λ k e. absurd (true≢false cc))

-- ---- the four header bytes, as they were read

-- the response from its fourth byte on, as the code cuts it
pub lengths_cut : (s : List ℕ) → take (length s - 3) (drop 3 s) ≡ drop 3 s
lengths_cut s = take_all (length s - 3) (drop 3 s) (omega (arith, length-drop 3 s))

pub length_stands : (s lengths : List ℕ) (at : ℕ) → lengths ≡ drop 3 s → at + 4 ≤ length s → at < length lengths
length_stands s lengths at d h = omega (arith, h, ap length d, length-drop 3 s)

module _ (rt sfn end : ℕ) (s : List ℕ) (lo at : ℕ) where
  module _ (lengths : List ℕ) (d : lengths ≡ drop 3 s) (number flags len : ℕ) (r : Refusal)
      (n : number ≡ field 2 s at) (f : flags ≡ get_or s (at + 2) 0) (l : len ≡ get_or lengths at 0)
      (q : r ≡ head_rule rt sfn end lo at number flags len) where
    number_is : number ≡ number_at s at
    unfolding number_at
    number_is = n

    length_is : len ≡ length_at s at
    unfolding length_at
    length_is = l ∙ ap (λ (k : List ℕ). get_or k at 0) d ∙ get_or-drop 3 s at 0 ∙ ap (λ (k : ℕ). get_or s k 0) (omega arith)

    fault_is : r ≡ head_fault rt sfn end s lo at
    unfolding head_fault flags_at
    fault_is = rw (← number_is, ← f, ← length_is) q

    pub head_fault_here : (r.number ≡ 0 → ⊥) → head.Refused r ≡ head_at rt sfn end s lo at
    unfolding head_at
    head_fault_here k = ap head.Refused fault_is ∙ sym (unless_fault _ head.Refused _ (rw (← fault_is) k))

    pub head_none : r.number ≡ 0 → head.Stands (record { 0 = number }) len ≡ head_at rt sfn end s lo at
    unfolding head_at
    head_none k = rw (← number_is, ← length_is) (sym (unless_none _ head.Refused _ (rw (← fault_is) k)))

-- what a descriptor that stands says
pub head_facts : (rt sfn end : ℕ) (s : List ℕ) (lo at : ℕ) (h : Head) → h ≡ head_at rt sfn end s lo at → (number : Feature) (len : ℕ) → h ≡ head.Stands number len
    → ((head_fault rt sfn end s lo at).number ≡ 0) × (number ≡ record { 0 = number_at s at }) × (len ≡ length_at s at)
unfolding head_at
head_facts rt sfn end s lo at h q number len k =
    by_cases (head_fault rt sfn end s lo at) head.Refused _ _ (sym k ∙ q) (λ z f. (z, cc, cc)) (λ z f. absurd (true≢false cc))

-- ---- the loop

-- what is left of a walk at place at, behind count descriptors
abbrev pub left : (rt sfn end : ℕ) (s : List ℕ) (at lo count last : ℕ) → Walk
left rt sfn end s at lo count last = tally count at last (walk (length s - count) rt sfn end s lo at)

pub loop_start : (rt sfn end : ℕ) (s : List ℕ) → tally 0 8 0 (walk (length s) rt sfn end s sfn 8) ≡ left rt sfn end s 8 sfn 0 0
loop_start rt sfn end s = ap (λ (k : ℕ). tally 0 8 0 (walk k rt sfn end s sfn 8)) (omega arith)

-- w is the whole walk: the end, a refusal, a cut descriptor, a further turn
module _ (w : Walk) (rt sfn end : ℕ) (s : List ℕ) (at lo count : ℕ) (last : Feature) (e : w ≡ left rt sfn end s at lo count last.0) where
  pub loop_end : length s < at + 4 → walked.Whole count at last ≡ w
  unfolding walk
  loop_end h = sym (e ∙ go (length s - count) ∙ tally_stop count at last.0)
    where
      go : (k : ℕ) → tally count at last.0 (walk k rt sfn end s lo at) ≡ tally count at last.0 (stop accept)
      go zero = refl
      go (suc k) = ap (tally count at last.0) (walk_few k rt sfn end s lo at h)

  module _ (h : Head) (q : h ≡ head_at rt sfn end s lo at) (j : 4 * count + 8 ≤ at) (l : at + 4 ≤ length s) where
    one_more : (x : Walked) → walk (suc (length s - (count + 1))) rt sfn end s lo at ≡ x → w ≡ tally count at last.0 x
    one_more x g =
        e ∙ ap (λ (k : ℕ). tally count at last.0 (walk k rt sfn end s lo at)) {x = length s - count} {y = suc (length s - (count + 1))} (omega arith)
        ∙ ap (tally count at last.0) g

    pub loop_fault : (r : Refusal) → h ≡ head.Refused r → walked.Refused r at ≡ w
    unfolding head_at flat
    loop_fault r k =
        by_cases (head_fault rt sfn end s lo at) head.Refused _ _ (sym k ∙ q) (λ z f. absurd (true≢false cc))
        (λ z f.
        let g : r ≡ head_fault rt sfn end s lo at = cc in
        sym (one_more _ (walk_bad _ rt sfn end s lo at l z) ∙ tally_fault count at last.0 (stop (head_fault rt sfn end s lo at)) z ∙ rw (← g, add-zero)))

    module _ (number : Feature) (len : ℕ) (k : h ≡ head.Stands number len) where
      facts : ((head_fault rt sfn end s lo at).number ≡ 0) × (number ≡ record { 0 = number_at s at }) × (len ≡ length_at s at)
      facts = head_facts rt sfn end s lo at h q number len k

      pub loop_cut : length s < at + 4 + len → walked.Whole count at last ≡ w
      loop_cut m = sym (one_more (stop accept) (walk_short _ rt sfn end s lo at l facts.0 (rw (← facts.2) m)) ∙ tally_stop count at last.0)

      pub loop_more : at + 4 + len ≤ length s → w ≡ left rt sfn end s (at + 4 + len) (number.0 + 1) (count + 1) number.0
      unfolding desc_at
      loop_more m =
          let g : at + 4 + length_at s at ≤ length s = rw (← facts.2) m in
          let x : at + length (bytes (desc_at s at)) ≡ at + 4 + length_at s at = omega (arith, length_desc_at s at g) in
          one_more _ (walk_step _ rt sfn end s lo at l facts.0 g)
          ∙ tally_onward count at last.0 (desc_at s at) _
          ∙ rw (x, facts.2, facts.1)

-- ---- how many descriptors have odd flags, on the same walk

abbrev judged_as : Walk → ℕ → WalkJudged
judged_as w n = record { walk = w; odd = n }

pub both_judged : {w x : Walk} {n m : ℕ} → w ≡ x → n ≡ m → judged_as w n ≡ judged_as x m
both_judged p q = λ i. record { walk = p i; odd = q i }

pub odds_start : (end : ℕ) (s : List ℕ) → odd_in (walk (length s) 0 0 end s 0 8).found ≡ 0 + odd_in (walk (length s - 0) 0 0 end s 0 8).found
odds_start end s = ap (λ (k : ℕ). odd_in (walk k 0 0 end s 0 8).found) {x = length s} {y = length s - 0} (omega arith) ∙ sym (zero-add _)

-- all is the count of the whole walk: the end, a refusal, a cut descriptor, a further turn
module _ (all end : ℕ) (s : List ℕ) (at lo count odds : ℕ) (e : all ≡ odds + odd_in (walk (length s - count) 0 0 end s lo at).found) where
  pub odds_end : length s < at + 4 → odds ≡ all
  unfolding walk odd_in
  odds_end h = sym (e ∙ ap (λ (n : ℕ). odds + n) (go (length s - count)) ∙ add-zero odds)
    where
      go : (k : ℕ) → odd_in (walk k 0 0 end s lo at).found ≡ 0
      go zero = refl
      go (suc k) = ap (λ (w : Walked). odd_in w.found) (walk_few k 0 0 end s lo at h)

  module _ (h : Head) (q : h ≡ head_at 0 0 end s lo at) (j : 4 * count + 8 ≤ at) (l : at + 4 ≤ length s) where
    odds_one : (x : Walked) → walk (suc (length s - (count + 1))) 0 0 end s lo at ≡ x → all ≡ odds + odd_in x.found
    odds_one x g =
        e ∙ ap (λ (k : ℕ). odds + odd_in (walk k 0 0 end s lo at).found) {x = length s - count} {y = suc (length s - (count + 1))} (omega arith)
        ∙ ap (λ (w : Walked). odds + odd_in w.found) g

    pub odds_fault : (r : Refusal) → h ≡ head.Refused r → odds ≡ all
    unfolding head_at odd_in
    odds_fault r k =
        by_cases (head_fault 0 0 end s lo at) head.Refused _ _ (sym k ∙ q) (λ z f. absurd (true≢false cc))
        (λ z f. sym (odds_one _ (walk_bad _ 0 0 end s lo at l z) ∙ add-zero odds))

    module _ (number : Feature) (len : ℕ) (k : h ≡ head.Stands number len) where
      it : ((head_fault 0 0 end s lo at).number ≡ 0) × (number ≡ record { 0 = number_at s at }) × (len ≡ length_at s at)
      it = head_facts 0 0 end s lo at h q number len k

      pub odds_cut : length s < at + 4 + len → odds ≡ all
      unfolding odd_in
      odds_cut m = sym (odds_one (stop accept) (walk_short _ 0 0 end s lo at l it.0 (rw (← it.2) m)) ∙ add-zero odds)

      pub odds_more : (flags one : ℕ) → flags ≡ get_or s (at + 2) 0 → one ≡ odd_flags flags → at + 4 + len ≤ length s
          → all ≡ odds + one + odd_in (walk (length s - (count + 1)) 0 0 end s (number.0 + 1) (at + 4 + len)).found
      unfolding desc_at flags_at odd_in
      odds_more flags one f o m =
          let g : at + 4 + length_at s at ≤ length s = rw (← it.2) m in
          let x : one ≡ odd_flags (get_or s (at + 2) 0) = o ∙ ap odd_flags f in
          odds_one _ (walk_step _ 0 0 end s lo at l it.0 g) ∙ sym (add_assoc odds _ _) ∙ rw (x, it.2, it.1)
