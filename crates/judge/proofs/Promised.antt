-- What a verdict says, in other words than its definition. It stands in this crate so that code, definition and laws that are changed together are refused by it. Assumes nothing.
use mathlib.Core.Path.{◌≡◌, refl, sym, ap, subst, ◌∙◌}
use mathlib.Core.Logic.{◌⊎◌, inl, inr, ⊎_elim}
use mathlib.Core.Bool.{Bool, true, false, ◌&&◌, true≢false}
use mathlib.Core.List.{List, [], ◌∷◌, ◌++◌, append-nil}
use Prim.Native.Nat.{ℕ, zero, suc, ◌+◌, ◌-◌, ◌≤◌, ◌<◌, min}
use native.Mathlib.Omega.{arith}
use lib.Dec.{eqb}
use lib.ListN.{length, take, drop, replicate, length-append, take-append-drop}
use lib.Seq.{take_all, drop_at}
use borrow.Author.Tests.{eq-eqb, eqb-true, eqb-false}
use Rattle.base.specs.Pick.{pick}
use Rattle.base.proofs.Compare.{le_or_lt}
use Rattle.base.specs.Lists.{All, flat}
use Rattle.base.proofs.Lists.{all_map}
use Rattle.fields.specs.Field.{spell}
use Rattle.refusal.specs.First.{refuse, ◌if◌else◌}
use Rattle.command.specs.Command.{command_fault, command_of, rt_of, sfn_of, allocation_of}
use Rattle.text.specs.Drive.{Drive}
use Rattle.text.specs.Response.{bytes, selected, current_profile, header, data_length, full, most, sent}
use Rattle.text.proofs.Sizes.{length_full, data_length_full}
use Rattle.layout.specs.Layout.{Sheet}
use Rattle.sheet.specs.Check.{verdict}
use Rattle.sheet.specs.Meaning.{meaning}
use Rattle.responder.specs.Answer.{due}
use Rattle.judge.specs.Boxes.{sent_by, right, zero_for, box_of, mistakes, sent_with}
use Rattle.judge.specs.Verdict.{common, all_zero, compared, is_right, because, explained, Judgement, judgement, alone, requested, judged}
use Rattle.judge.specs.declared.Mistake.{Mistake}
use Rattle.judge.specs.declared.Mistake.TheVariants.{OnlyAbove, LengthCut, LengthOfAll, NotOnlyCurrent, NotOnlyOne, Unexplained}
use Rattle.judge.specs.declared.Verdict.{Verdict}
use Rattle.judge.specs.declared.Verdict.TheVariants.{Exact, Padded, Short, Wrong, Answered, Refused}
use Rattle.judge.proofs.Order.{rank, each_mistake}
use Rattle.judge.proofs.Same.{met_wrong, met_short, met_exact, met_padded, met_other, unasked_none, unasked_some}
use Rattle.judge.proofs.Boxes.{above_next}
use Rattle.judge.proofs.Search.{sends, judged_sheet, judged_command, judged_room, judged_asked}

-- ---- how far two byte strings are the same

common_le : (a b : List ℕ) → (common a b ≤ length a) × (common a b ≤ length b)
unfolding common
common_le [] b = (omega arith, omega arith)
common_le (x ∷ a) [] = (omega arith, omega arith)
common_le (x ∷ a) (y ∷ b) = go (eqb x y) (common_le a b)
  where
    go :
        (t : Bool) → (common a b ≤ length a) × (common a b ≤ length b)
        → (elim t [ true ↦ suc (common a b) | false ↦ 0 ] ≤ suc (length a)) × (elim t [ true ↦ suc (common a b) | false ↦ 0 ] ≤ suc (length b))
    go true h = (omega (arith, h.0), omega (arith, h.1))
    go false h = (omega arith, omega arith)

pub common_left_le : (a b : List ℕ) → common a b ≤ length a
common_left_le a b = (common_le a b).0

pub common_right_le : (a b : List ℕ) → common a b ≤ length b
common_right_le a b = (common_le a b).1

-- up to there they are
pub common_take : (a b : List ℕ) → take (common a b) a ≡ take (common a b) b
unfolding common
common_take [] b = refl
common_take (x ∷ a) [] = refl
common_take (x ∷ a) (y ∷ b) = go (eqb x y) refl (common_take a b)
  where
    go : (t : Bool) → eqb x y ≡ t → take (common a b) a ≡ take (common a b) b
        → take (elim t [ true ↦ suc (common a b) | false ↦ 0 ]) (x ∷ a) ≡ take (elim t [ true ↦ suc (common a b) | false ↦ 0 ]) (y ∷ b)
    go true e h = rw (eqb-true x y e) (ap (λ (l : List ℕ). y ∷ l) h)
    go false e h = refl

-- a byte further only where all of them are
head_same : {x y : ℕ} {a b : List ℕ} → x ∷ a ≡ y ∷ b → x ≡ y
head_same e = cc

tail_same : {x y : ℕ} {a b : List ℕ} → x ∷ a ≡ y ∷ b → a ≡ b
tail_same e = cc

pub common_further : (a b : List ℕ) → take (suc (common a b)) a ≡ take (suc (common a b)) b → a ≡ b
unfolding common
common_further [] [] h = refl
common_further [] (y ∷ b) h = absurd (omega (arith, ap length h))
common_further (x ∷ a) [] h = absurd (omega (arith, ap length h))
common_further (x ∷ a) (y ∷ b) h = go (eqb x y) refl (common_further a b) h
  where
    go : (t : Bool) → eqb x y ≡ t → (take (suc (common a b)) a ≡ take (suc (common a b)) b → a ≡ b)
        → take (suc (elim t [ true ↦ suc (common a b) | false ↦ 0 ])) (x ∷ a) ≡ take (suc (elim t [ true ↦ suc (common a b) | false ↦ 0 ])) (y ∷ b) → x ∷ a ≡ y ∷ b
    go true e more h = rw (eqb-true x y e) (ap (λ (l : List ℕ). y ∷ l) (more (tail_same h)))
    go false e more h = absurd (eqb-false x y e (head_same h))

-- behind a string that is the front
pub common_front : (a z : List ℕ) → common a (a ++ z) ≡ length a
unfolding common
common_front [] z = refl
common_front (x ∷ a) z = rw (eq-eqb x x refl, common) (ap suc (common_front a z))

pub zeros_replicate : (s : List ℕ) → all_zero s ≡ true → s ≡ replicate (length s) 0
unfolding all_zero
zeros_replicate [] h = refl
zeros_replicate (x ∷ s) h = go (eqb x 0) refl h (zeros_replicate s)
  where
    go : (t : Bool) → eqb x 0 ≡ t → (t && all_zero s) ≡ true → (all_zero s ≡ true → s ≡ replicate (length s) 0) → x ∷ s ≡ replicate (suc (length s)) 0
    go true e k more = rw (eqb-true x 0 e) (ap (λ (l : List ℕ). 0 ∷ l) (more k))
    go false e k more = absurd (true≢false (sym k))

pub replicate_zeros : (n : ℕ) → all_zero (replicate n 0) ≡ true
unfolding all_zero
replicate_zeros zero = refl
replicate_zeros (suc n) = replicate_zeros n

-- ---- what is said of the bytes x where `due` are due

-- these bytes, and zeros behind them or not
pub record Follows (due x : List ℕ) : Type 0 where
  pub count : ℕ
  pub padded : x ≡ due ++ replicate count 0

-- each verdict means what it says
abbrev pub Means : (due x : List ℕ) → Verdict → Type 0
Means due x Exact = x ≡ due
Means due x (Padded k) = (k ≡ length due) × (k < length x) × Follows due x
Means due x (Short k) = (k ≡ length x) × (k < length due) × (x ≡ take k due)
Means due x (Wrong k w) = (take k x ≡ take k due) × (take (suc k) x ≡ take (suc k) due → ⊥) × (Follows due x → ⊥)
Means due x (Answered r) = ⊥
Means due x (Refused r) = ⊥

module _ (due x : List ℕ) where
  abbrev k : ℕ
  k = common due x

  -- a response that the bytes due are the front of agrees with all of them
  front_common : (z : List ℕ) → x ≡ due ++ z → k ≡ length due
  front_common z e = ap (common due) e ∙ common_front due z

  same_common : due ≡ x → k ≡ length due
  same_common e = front_common [] (sym e ∙ sym (append-nil due))

  further_not : (k < length due) ⊎ (k < length x) → take (suc k) x ≡ take (suc k) due → ⊥
  further_not h e =
      let q : due ≡ x = common_further due x (sym e) in
      ⊎_elim
      (λ (l : k < length due). omega (arith, l, same_common q))
      (λ (l : k < length x). omega (arith, l, same_common q, ap length q))
      h

  behind_zeros : Follows due x → k ≡ length due → all_zero (drop k x) ≡ true
  behind_zeros f e =
      ap all_zero (ap (λ (l : List ℕ). drop k l) f.padded ∙ drop_at due (replicate f.count 0) k (sym e)) ∙ replicate_zeros f.count

  agree : take k x ≡ take k due
  agree = sym (common_take due x)

  pub compared_means : Means due x (compared due x)
  compared_means = ⊎_elim
      (λ (h : length due ≤ k). ⊎_elim
      (λ (l : length x ≤ k).
      subst (Means due x) (met_exact due x k refl h l) (sym (take_all k x l) ∙ agree ∙ take_all k due h))
      (λ (l : k < length x). go h l (all_zero (drop k x)) refl)
      (le_or_lt (length x) k))
      (λ (h : k < length due). ⊎_elim
      (λ (l : length x ≤ k).
      subst (Means due x) (met_short due x k refl h l) (omega (arith, l, common_right_le due x), h, sym (take_all k x l) ∙ agree))
      (λ (l : k < length x).
      subst (Means due x) (met_wrong due x k refl h l) (agree, further_not (inl h), λ f. omega (arith, h, front_common (replicate f.count 0) f.padded)))
      (le_or_lt (length x) k))
      (le_or_lt (length due) k)
    where
      go : length due ≤ k → k < length x → (b : Bool) → all_zero (drop k x) ≡ b → Means due x (compared due x)
      go h l true e =
          let n : k ≡ length due = omega (arith, h, common_left_le due x) in
          subst (Means due x) (met_padded due x k refl h l true (sym e) refl)
          (n, l, record { count = length (drop k x); padded = sym (take-append-drop k x) ∙ ap (λ (l : List ℕ). l ++ drop k x) (agree ∙ take_all k due h) ∙ ap (λ (l : List ℕ). due ++ l) (zeros_replicate (drop k x) e) })
      go h l false e =
          let n : k ≡ length due = omega (arith, h, common_left_le due x) in
          subst (Means due x) (met_other due x k refl h l false (sym e) refl)
          (agree, further_not (inr l), λ f. true≢false (sym (behind_zeros f n) ∙ e))

  -- ---- from what it means to what it is

  pub means_exact : (v : Verdict) → Means due x v → x ≡ due → v ≡ Exact
  means_exact Exact m e = refl
  means_exact (Padded k) m e = absurd (omega (arith, m.0, m.1, ap length e))
  means_exact (Short k) m e = absurd (omega (arith, m.0, m.1, ap length e))
  means_exact (Wrong k w) m e = absurd (m.2 (record { count = 0; padded = e ∙ sym (append-nil due) }))
  means_exact (Answered r) m e = absurd m
  means_exact (Refused r) m e = absurd m

  pub means_right : (v : Verdict) → Means due x v → is_right v ≡ true → Follows due x
  unfolding is_right
  means_right Exact m e = record { count = 0; padded = m ∙ sym (append-nil due) }
  means_right (Padded k) m e = m.2
  means_right (Short k) m e = absurd (true≢false (sym e))
  means_right (Wrong k w) m e = absurd (true≢false (sym e))
  means_right (Answered r) m e = absurd m
  means_right (Refused r) m e = absurd m

  pub follows_right : (v : Verdict) → Means due x v → Follows due x → is_right v ≡ true
  unfolding is_right
  follows_right Exact m f = refl
  follows_right (Padded k) m f = refl
  follows_right (Short k) m f = absurd (omega (arith, m.0, m.1, ap length f.padded, length-append due (replicate f.count 0)))
  follows_right (Wrong k w) m f = absurd (m.2 f)
  follows_right (Answered r) m f = absurd m
  follows_right (Refused r) m f = absurd m

  -- what explains it changes nothing of that
  pub because_means : (v : Verdict) (w : Mistake) → Means due x v → Means due x (because v w)
  unfolding because
  because_means Exact w m = m
  because_means (Padded k) w m = m
  because_means (Short k) w m = m
  because_means (Wrong k o) w m = m
  because_means (Answered r) w m = m
  because_means (Refused r) w m = m

-- the mistake that is named is the one that was found
named : Mistake → Verdict → Mistake
named w Exact = w
named w (Padded j) = w
named w (Short j) = w
named w (Wrong j p) = p
named w (Answered r) = w
named w (Refused r) = w

named_because : (v : Verdict) (w : Mistake) → named w (because v w) ≡ w
unfolding because named
named_because Exact w = refl
named_because (Padded j) w = refl
named_because (Short j) w = refl
named_because (Wrong j p) w = refl
named_because (Answered r) w = refl
named_because (Refused r) w = refl

pub because_named : (v : Verdict) (w o : Mistake) (k : ℕ) → because v w ≡ Wrong k o → o ≡ w
unfolding named
because_named v w o k e = sym (ap (named w) e) ∙ named_because v w

-- ---- a search for the first that passes

module _ (test : Mistake → Bool) where
  pub picked_passes : (xs : List Mistake) → (pick test (λ w. w) Unexplained xs ≡ Unexplained) ⊎ (test (pick test (λ w. w) Unexplained xs) ≡ true)
  unfolding pick
  picked_passes [] = inl refl
  picked_passes (w ∷ xs) = go (test w) refl (picked_passes xs)
    where
      go : (t : Bool) → test w ≡ t → (pick test (λ w. w) Unexplained xs ≡ Unexplained) ⊎ (test (pick test (λ w. w) Unexplained xs) ≡ true)
          → (elim t [ true ↦ w | false ↦ pick test (λ w. w) Unexplained xs ] ≡ Unexplained) ⊎ (test (elim t [ true ↦ w | false ↦ pick test (λ w. w) Unexplained xs ]) ≡ true)
      go true e more = inr e
      go false e more = more

-- they rise, from lo on
unfoldable pub Rises : (lo : ℕ) → List Mistake → Type 0
Rises lo [] = Unit
Rises lo (w ∷ ws) = (lo ≤ rank w) × Rises (suc (rank w)) ws

rises_above : (lo : ℕ) (ws : List Mistake) → Rises lo ws → All (λ (w : Mistake). lo ≤ rank w) ws
unfolding Rises
rises_above lo [] r = tt
rises_above lo (w ∷ ws) r = (r.0, all_map (λ (v : Mistake). suc (rank w) ≤ rank v) (λ (v : Mistake). lo ≤ rank v) (λ v h. omega (arith, h, r.0)) ws (rises_above (suc (rank w)) ws r.1))

module _ (test : Mistake → Bool) where
  abbrev found : List Mistake → Mistake
  found ws = pick test (λ w. w) Unexplained ws

  -- none before the one that is found passes
  pub picked_first : (lo : ℕ) (ws : List Mistake) → Rises lo ws → All (λ (v : Mistake). rank v < rank (found ws) → test v ≡ false) ws
  unfolding pick Rises
  picked_first lo [] r = tt
  picked_first lo (w ∷ ws) r = go (test w) refl (picked_first (suc (rank w)) ws r.1)
    where
      go : (t : Bool) → test w ≡ t → All (λ (v : Mistake). rank v < rank (found ws) → test v ≡ false) ws
          → All (λ (v : Mistake). rank v < rank (elim t [ true ↦ w | false ↦ found ws ]) → test v ≡ false) (w ∷ ws)
      go true e more =
          (λ h. absurd (omega (arith, h)), all_map (λ (v : Mistake). suc (rank w) ≤ rank v) (λ (v : Mistake). rank v < rank w → test v ≡ false) (λ v above h. absurd (omega (arith, h, above))) ws (rises_above (suc (rank w)) ws r.1))
      go false e more = (λ h. e, more)

-- ---- the boxes, in other words: the right one; those that take the request for another; those that state something else in the header

cut_number : (l f b : ℕ) → l ≡ f - 4 → 8 ≤ f → min l (b - 4) ≡ min f b - 4
cut_number l f b e h = omega arith

module _ (sfn a : ℕ) (m : Drive) where
  pub right_box : (rt : ℕ) → sent_with Unexplained rt sfn a m ≡ sent rt sfn a m
  unfolding box_of right sent_by sent full
  right_box rt = refl

  pub above_box : (rt : ℕ) → rt < 2 → sfn < 65535 → sent_with OnlyAbove rt sfn a m ≡ sent rt (sfn + 1) a m
  unfolding box_of right sent_by sent full
  above_box rt h l = ap (λ (n : ℕ). sent rt n a m) (sym (above_next rt sfn (sfn + 1) h l refl))

  pub not_current_box : sent_with NotOnlyCurrent 1 sfn a m ≡ sent 0 sfn a m
  unfolding box_of right sent_by sent full zero_for ◌if◌else◌
  not_current_box = refl

  pub not_one_box : sent_with NotOnlyOne 2 sfn a m ≡ sent 0 sfn a m
  unfolding box_of right sent_by sent full zero_for ◌if◌else◌
  not_one_box = refl

  -- its Data Length is what is sent less 4, and all else is as it is to be
  pub cut_box : (rt : ℕ) → sent_with LengthCut rt sfn a m
      ≡ take (most a) (spell 4 (min (length (full rt sfn m)) (most a) - 4) ++ (0 ∷ 0 ∷ []) ++ spell 2 (current_profile m.profiles) ++ flat bytes (selected rt sfn m))
  unfolding box_of sent_by header
  cut_box rt =
      ap (λ (n : ℕ). take (most a) (spell 4 n ++ (0 ∷ 0 ∷ []) ++ spell 2 (current_profile m.profiles) ++ flat bytes (selected rt sfn m)))
      {x = min (data_length (selected rt sfn m)) (most a - 4)} {y = min (length (full rt sfn m)) (most a) - 4}
      (cut_number (data_length (selected rt sfn m)) (length (full rt sfn m)) (most a) (data_length_full rt sfn m) (omega (arith, length_full rt sfn m)))

  -- its Data Length is that of RT 0 from 0
  pub all_box : (rt : ℕ) → sent_with LengthOfAll rt sfn a m
      ≡ take (most a) (spell 4 (length (full 0 0 m) - 4) ++ (0 ∷ 0 ∷ []) ++ spell 2 (current_profile m.profiles) ++ flat bytes (selected rt sfn m))
  unfolding box_of sent_by header
  all_box rt =
      ap (λ (n : ℕ). take (most a) (spell 4 n ++ (0 ∷ 0 ∷ []) ++ spell 2 (current_profile m.profiles) ++ flat bytes (selected rt sfn m))) (data_length_full 0 0 m)

-- ---- what is promised of what is said of the bytes x that came for the command c, and of the scratch buffer d, j

-- the sheet and the command are accepted, and the scratch buffer has room for what any box may send
pub record Fit (s : Sheet) (c d : List ℕ) : Type 0 where
  pub sheet : (verdict s).number ≡ 0
  pub command : (command_fault c).number ≡ 0
  pub room : most (allocation_of c) ≤ length d

-- what the box of a mistake sends for the command
abbrev pub sent_for : Mistake → Sheet → List ℕ → List ℕ
sent_for w s c = sent_with w (rt_of c) (sfn_of c) (allocation_of c) (meaning s)

pub record Judges (s : Sheet) (c x d : List ℕ) (j : Judgement) : Type 0 where
  -- the sheet's refusal comes first; then the command's, where exactly nothing may come; then 12
  pub refused : ((verdict s).number ≡ 0 → ⊥) → j ≡ judgement (Refused (verdict s)) d
  pub silent : (verdict s).number ≡ 0 → ((command_fault c).number ≡ 0 → ⊥) → x ≡ [] → j ≡ judgement Exact d
  pub spoke : (verdict s).number ≡ 0 → ((command_fault c).number ≡ 0 → ⊥) → (x ≡ [] → ⊥) → j ≡ judgement (Answered (command_fault c)) d
  pub no_room : (verdict s).number ≡ 0 → (command_fault c).number ≡ 0 → length d < most (allocation_of c) → j ≡ judgement (Refused (refuse 12)) d
  -- each verdict means what it says, and exact is said exactly of the bytes due; these are left in the scratch buffer
  pub means : Fit s c d → Means (due s c) x j.said
  pub exact : Fit s c d → x ≡ due s c → j.said ≡ Exact
  pub left : Fit s c d → j.scratch ≡ due s c ++ replicate (length d - length (due s c)) 0
  -- the mistake that is named is one whose box sends these bytes, and no box of one before it does; none is named only where no box of a mistake does
  pub explains : Fit s c d → (k : ℕ) (w : Mistake) → j.said ≡ Wrong k w → (w ≡ Unexplained) ⊎ Follows (sent_for w s c) x
  pub first : Fit s c d → (k : ℕ) (w v : Mistake) → j.said ≡ Wrong k w → rank v < rank w → Follows (sent_for v s c) x → ⊥

length_nil : (x : List ℕ) → length x ≡ 0 → x ≡ []
length_nil [] h = refl
length_nil (y ∷ x) h = absurd (omega arith)

because_exact : (w : Mistake) → because Exact w ≡ Exact
unfolding because
because_exact w = refl

alone_is : (xs : List ℕ) (n : ℕ) → alone xs n ≡ xs ++ replicate (n - length xs) 0
unfolding alone
alone_is xs n = refl

allocation_of_law : (c : List ℕ) → (command_of c).allocation ≡ allocation_of c
unfolding command_of
allocation_of_law c = refl

mistakes_rise : Rises 1 mistakes
unfolding mistakes rank Rises
mistakes_rise = (omega arith, (omega arith, (omega arith, (omega arith, (omega arith, (omega arith, (omega arith, tt)))))))

module _ (s : Sheet) (c x : List ℕ) where
  why_passes : (explained (rt_of c) (sfn_of c) (allocation_of c) (meaning s) x ≡ Unexplained) ⊎ (sends (rt_of c) (sfn_of c) (allocation_of c) (meaning s) x (explained (rt_of c) (sfn_of c) (allocation_of c) (meaning s) x) ≡ true)
  unfolding explained
  why_passes = picked_passes (sends (rt_of c) (sfn_of c) (allocation_of c) (meaning s) x) mistakes

  why_first : All (λ (v : Mistake). rank v < rank (explained (rt_of c) (sfn_of c) (allocation_of c) (meaning s) x) → sends (rt_of c) (sfn_of c) (allocation_of c) (meaning s) x v ≡ false) mistakes
  unfolding explained
  why_first = picked_first (sends (rt_of c) (sfn_of c) (allocation_of c) (meaning s) x) 1 mistakes mistakes_rise

command_asks : (s : Sheet) (c x d : List ℕ)
    → requested (command_of c).rt (command_of c).sfn.0 (command_of c).allocation (meaning s) x d
    ≡ judgement (because (compared (due s c) x) (explained (rt_of c) (sfn_of c) (allocation_of c) (meaning s) x)) (alone (due s c) (length d))
unfolding requested command_of
command_asks s c x d = refl

module _ (s : Sheet) (c x d : List ℕ) where
  abbrev came : Verdict
  came = compared (due s c) x

  abbrev why : Mistake
  why = explained (rt_of c) (sfn_of c) (allocation_of c) (meaning s) x

  fit_judged : Fit s c d → judged s c x d ≡ judgement (because came why) (alone (due s c) (length d))
  fit_judged f =
      sym (judged_asked s c x d (verdict s) refl f.sheet (command_fault c) refl f.command (command_of c) refl (most (allocation_of c)) (ap (λ (n : ℕ). most n) (sym (allocation_of_law c))) f.room _ (sym (command_asks s c x d)))

  said_is : Fit s c d → (judged s c x d).said ≡ because came why
  said_is f = ap (λ (j : Judgement). j.said) (fit_judged f)

  sent_follows : (w : Mistake) → sends (rt_of c) (sfn_of c) (allocation_of c) (meaning s) x w ≡ true → Follows (sent_for w s c) x
  sent_follows w e = means_right (sent_for w s c) x (compared (sent_for w s c) x) (compared_means (sent_for w s c) x) e

  pub judges : Judges s c x d (judged s c x d)
  judges = record {
    refused = λ h. sym (judged_sheet s c x d (verdict s) refl h);
    silent = λ v h e. sym (judged_command s c x d (verdict s) refl v (command_fault c) Exact refl h (unasked_none (command_fault c) x (ap length e)));
    spoke = λ v h e. sym (judged_command s c x d (verdict s) refl v (command_fault c) (Answered (command_fault c)) refl h (unasked_some (command_fault c) x (λ z. e (length_nil x z))));
    no_room = λ v h l. sym (judged_room s c x d (verdict s) refl v (command_fault c) refl h (command_of c) refl (most (allocation_of c)) (ap (λ (n : ℕ). most n) (sym (allocation_of_law c))) l);
    means = λ f. subst (Means (due s c) x) (sym (said_is f)) (because_means (due s c) x came why (compared_means (due s c) x));
    exact = λ f e. said_is f ∙ ap (λ (v : Verdict). because v why) (means_exact (due s c) x came (compared_means (due s c) x) e) ∙ because_exact why;
    left = λ f. ap (λ (j : Judgement). j.scratch) (fit_judged f) ∙ alone_is (due s c) (length d);
    explains = λ f k w e. ⊎_elim
        (λ (n : why ≡ Unexplained). inl (because_named came why w k (sym (said_is f) ∙ e) ∙ n))
        (λ (t : sends (rt_of c) (sfn_of c) (allocation_of c) (meaning s) x why ≡ true). inr (subst (λ (w : Mistake). Follows (sent_for w s c) x) (sym (because_named came why w k (sym (said_is f) ∙ e))) (sent_follows why t)))
        (why_passes s c x);
    first = λ f k w v e h g.
        let named-is : w ≡ why = because_named came why w k (sym (said_is f) ∙ e) in
        true≢false
        (sym (follows_right (sent_for v s c) x (compared (sent_for v s c) x) (compared_means (sent_for v s c) x) g)
        ∙ each_mistake (λ (u : Mistake). rank u < rank why → sends (rt_of c) (sfn_of c) (allocation_of c) (meaning s) x u ≡ false) (why_first s c x) v w h (subst (λ (u : Mistake). rank v < rank u) named-is h));
  }
