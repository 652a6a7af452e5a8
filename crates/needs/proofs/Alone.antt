-- The line and the descriptor of one feature, found by a loop each. Assumes nothing.
use borrow.Author.Tests.{eq-eqb, ne_eqb}
use mathlib.Core.Path.{◌≡◌, refl, sym, ap, ◌∙◌}
use mathlib.Core.Bool.{Bool, true, false, ◌&&◌}
use mathlib.Core.List.{List, [], ◌∷◌}
use Prim.Native.Nat.{ℕ, zero, suc, ◌+◌, ◌-◌, ◌≤◌, ◌<◌}
use native.Mathlib.Numerals.{add-one}
use lib.Dec.{eqb}
use lib.ListN.{length}
use Rattle.base.specs.Lists.{each}
use Rattle.base.specs.Pick.{pick}
use Rattle.base.proofs.Pick.{pick_here, pick_past}
use Rattle.refusal.specs.declared.Refusal.{Refusal}
use Rattle.refusal.proofs.First.{if_true, if_false}
use Rattle.text.specs.Drive.{Desc}
use Rattle.text.specs.Reading.{number_at, desc_at}
use Rattle.reading.specs.Places.{descs, next_at}
use Rattle.reading.specs.Completed.{complete_fault}
use Rattle.reading.specs.inner.Between.{from}
use Rattle.reading.proofs.Places.{from_step, from_end}
use Rattle.reading.proofs.Completed.{descs_from}
use Rattle.needs.specs.declared.Wrong.{Wrong}
use Rattle.needs.specs.declared.Wrong.TheVariants.{Absent, TooShort, BitClear, NotCurrent, TooLong}
use Rattle.needs.specs.declared.walk.Fit.{Fit}
use Rattle.needs.specs.declared.walk.Fit.TheVariants.{Fits, Lacks}
use Rattle.needs.specs.declared.table.Column.{Column}
use Rattle.needs.specs.declared.table.Need.{Need}
use Rattle.needs.specs.Required.{required, marked, column_of}
use Rattle.needs.specs.Judge.{Said, says_conforms, says_broken, wrong_number, is_too_long, desc_wrong, line_of, desc_of, wrong_of, wrong_in, lowest_from}
use Rattle.needs.specs.Alone.{judged_of}
use Rattle.needs.specs.inner.Walk.{fit_number}
use Rattle.needs.specs.inner.Refused.{column_fault}
use Rattle.needs.specs.inner.Table.{line_at}
use Rattle.needs.specs.inner.Alone.{no_need, line_in, line_list, says_one}
use Rattle.needs.proofs.Rules.{and_true}
use Rattle.needs.proofs.Judgements.{judge_passed}
use Rattle.needs.proofs.Columns.{each_step, each_end}

pub and_yes : (b x y : Bool) → b ≡ x → b ≡ true → y ≡ (x && y)
and_yes b x y e h = rw (← e, h)

pub and_no : (b x y : Bool) → b ≡ x → b ≡ false → false ≡ (x && y)
and_no b x y e h = rw (← e, h)

-- ---- the line, by a walk over the rows b from index i on

abbrev pub line_from : List ℕ → (m f i k : ℕ) → Need
line_from b m f i k = line_in m f (each (line_at b) i k)

module _ (w : Need) (m f : ℕ) (b : List ℕ) (n i : ℕ) (e : w ≡ line_from b m f i (n - i)) where
  line_is : i < n → w ≡ line_in m f (line_at b i ∷ each (line_at b) (suc i) (n - suc i))
  line_is h = e ∙ ap (line_in m f) (each_step (line_at b) n i h)

  module _ (x : Need) (t : Bool) (h : i < n) (q : x ≡ line_at b i) (y : t ≡ (marked m x && eqb x.1.0 f)) where
    pub line_found : t ≡ true → x ≡ w
    unfolding line_in
    line_found z = q ∙ sym (line_is h ∙ pick_here _ _ _ (line_at b i) _ (rw (← q) (sym y ∙ z)))

    pub line_next : t ≡ false → w ≡ line_from b m f (i + 1) (n - (i + 1))
    unfolding line_in
    line_next z = rw add-one (line_is h ∙ pick_past _ _ _ (line_at b i) _ (rw (← q) (sym y ∙ z)))

  pub line_none : n ≤ i → no_need ≡ w
  unfolding line_in pick
  line_none h = sym (e ∙ ap (line_in m f) (each_end (line_at b) n i h))

-- it is the line of the definition
module _ (m : ℕ) where
  list_marked : (n : Need) → marked m n ≡ true → line_list m n ≡ n ∷ []
  unfolding line_list
  list_marked n e = rw (e, line_list)

  list_other : (n : Need) → marked m n ≡ false → line_list m n ≡ []
  unfolding line_list
  list_other n e = rw (e, line_list)

  no_need_here : line_list m no_need ≡ []
  unfolding marked
  no_need_here = list_other no_need refl

  abbrev is_of : ℕ → Need → Bool
  is_of f n = marked m n && eqb n.1.0 f

  pub line_list_here : (f : ℕ) (ns : List Need) → line_list m (line_in m f ns) ≡ line_of m f ns
  unfolding line_in line_of pick
  line_list_here f [] = no_need_here
  line_list_here f (n ∷ ns) = go (is_of f n) refl (line_list_here f ns)
    where
      go : (t : Bool) → is_of f n ≡ t → line_list m (line_in m f ns) ≡ line_of m f ns → line_list m (line_in m f (n ∷ ns)) ≡ line_of m f (n ∷ ns)
      go true t more =
          ap (line_list m) (pick_here (is_of f) (λ (x : Need). x) no_need n ns t)
          ∙ list_marked n (and_true (marked m n) (eqb n.1.0 f) t).0
          ∙ sym (pick_here (is_of f) (λ (x : Need). x ∷ []) [] n ns t)
      go false t more =
          ap (line_list m) (pick_past (is_of f) (λ (x : Need). x) no_need n ns t) ∙ more ∙ sym (pick_past (is_of f) (λ (x : Need). x ∷ []) [] n ns t)

-- ---- what is wrong at the descriptor d, and where there is none

module _ (f : ℕ) where
  one_broken : (w : Wrong) → says_broken f (wrong_number w) ≡ says_one f (wrong_number w)
  unfolding says_one
  one_broken Absent = refl
  one_broken TooShort = refl
  one_broken BitClear = refl
  one_broken NotCurrent = refl
  one_broken TooLong = refl

  one_lacking : (longest : ℕ) (n : Need) → says_broken f 1 ≡ says_one f (wrong_of longest (n ∷ []) [])
  unfolding wrong_of says_one
  one_lacking longest n = refl

  one_free : (longest : ℕ) → says_conforms ≡ says_one f (wrong_of longest [] [])
  unfolding wrong_of says_one
  one_free longest = refl

  module _ (longest : ℕ) (d : Desc) (b : Bool) (e : b ≡ is_too_long longest d) where
    pub free_long : b ≡ true → says_broken f 5 ≡ says_one f (wrong_of longest [] (d ∷ []))
    unfolding wrong_of says_one
    free_long h = rw (← e, h, if_true {A = ℕ} 5 0)

    pub free_fits : b ≡ false → says_conforms ≡ says_one f (wrong_of longest [] (d ∷ []))
    unfolding wrong_of says_one
    free_fits h = rw (← e, h, if_false {A = ℕ} 5 0)

  module _ (n : Need) (longest : ℕ) (d : Desc) (x : Fit) (e : fit_number x ≡ desc_wrong n longest d) where
    pub needed_fits : x ≡ Fits → says_conforms ≡ says_one f (wrong_of longest (n ∷ []) (d ∷ []))
    unfolding wrong_of says_one
    needed_fits h = ap (says_one f) (sym (ap fit_number h) ∙ e)

    pub needed_lacks : (w : Wrong) → x ≡ Lacks w → says_broken f (wrong_number w) ≡ says_one f (wrong_of longest (n ∷ []) (d ∷ []))
    unfolding wrong_of
    needed_lacks w h = one_broken w ∙ ap (says_one f) (sym (ap fit_number h) ∙ e)

  -- with its line, marked or not
  module _ (c : Column) (n : Need) (b : Bool) (e : b ≡ marked c.1 n) where
    abbrev lined : List Desc → Said
    lined ds = says_one f (wrong_of c.2 (line_list c.1 n) ds)

    pub by_line : (v : Said) (ds : List Desc) → b ≡ true → v ≡ says_one f (wrong_of c.2 (n ∷ []) ds) → v ≡ lined ds
    by_line v ds h q = q ∙ ap (λ (l : List Need). says_one f (wrong_of c.2 l ds)) (sym (list_marked c.1 n (sym e ∙ h)))

    pub by_none : (v : Said) (ds : List Desc) → b ≡ false → v ≡ says_one f (wrong_of c.2 [] ds) → v ≡ lined ds
    by_none v ds h q = q ∙ ap (λ (l : List Need). says_one f (wrong_of c.2 l ds)) (sym (list_other c.1 n (sym e ∙ h)))

    pub none_needed : b ≡ true → says_broken f 1 ≡ lined []
    none_needed h = by_line (says_broken f 1) [] h (one_lacking c.2 n)

    pub none_free : b ≡ false → says_conforms ≡ lined []
    none_free h = by_none says_conforms [] h (one_free c.2)

  -- ---- the descriptor, by a walk over those from a place on

  module _ (c : Column) (n : Need) (s : List ℕ) (w : Said) (at : ℕ)
      (e : w ≡ says_one f (wrong_of c.2 (line_list c.1 n) (desc_of f (from s at)))) where
    abbrev found : List Desc → Said
    found ds = says_one f (wrong_of c.2 (line_list c.1 n) (desc_of f ds))

    pub one_here : (number : ℕ) (v : Said) → at < length s → number ≡ number_at s at → number ≡ f
        → v ≡ says_one f (wrong_of c.2 (line_list c.1 n) (desc_at s at ∷ [])) → v ≡ w
    unfolding desc_of desc_at
    one_here number v l q h r =
        r ∙ sym (e ∙ ap found (from_step s at l) ∙ ap (λ (ds : List Desc). says_one f (wrong_of c.2 (line_list c.1 n) ds)) (pick_here _ _ _ (desc_at s at) _ (eq-eqb _ _ (sym q ∙ h))))

    pub one_next : (number next : ℕ) → at < length s → number ≡ number_at s at → (number ≡ f → ⊥) → next ≡ next_at s at → w ≡ found (from s next)
    unfolding desc_of desc_at
    one_next number next l q h r =
        e ∙ ap found (from_step s at l) ∙ rw r (ap (λ (ds : List Desc). says_one f (wrong_of c.2 (line_list c.1 n) ds)) (pick_past _ _ _ (desc_at s at) _ (ne_eqb _ _ (λ z. h (q ∙ z)))))

    pub one_none : (v : Said) → length s ≤ at → v ≡ says_one f (wrong_of c.2 (line_list c.1 n) []) → v ≡ w
    unfolding desc_of pick
    one_none v l r = r ∙ sym (e ∙ ap found (from_end s at l))

  pub one_start : (c : Column) (n : Need) (s : List ℕ) → (complete_fault s).number ≡ 0
      → says_one f (wrong_of c.2 (line_list c.1 n) (desc_of f (descs s))) ≡ says_one f (wrong_of c.2 (line_list c.1 n) (desc_of f (from s 8)))
  one_start c n s e = ap (λ (ds : List Desc). says_one f (wrong_of c.2 (line_list c.1 n) (desc_of f ds))) (descs_from s e)

-- ---- which case

-- of one number, the lowest is that one or none
pub one_lowest : (w : ℕ → ℕ) (f : ℕ) → says_one f (w f) ≡ lowest_from w f 1
unfolding says_one lowest_from
one_lowest w f = go (w f) refl
  where
    go : (k : ℕ) → w f ≡ k → says_one f (w f) ≡ lowest_from w f 1
    go zero e = rw (e, says_one, lowest_from)
    go (suc k) e = rw (e, says_one, lowest_from)

pub one_wrong : (c : Column) (ns : List Need) (n : Need) (ds : List Desc) (f : ℕ) (v : Said) → n ≡ line_in c.1 f ns
    → v ≡ says_one f (wrong_of c.2 (line_list c.1 n) (desc_of f ds)) → v ≡ lowest_from (wrong_in ns c ds) f 1
unfolding wrong_in
one_wrong c ns n ds f v q e =
    e ∙ ap (λ (l : List Need). says_one f (wrong_of c.2 l (desc_of f ds))) (ap (line_list c.1) q ∙ line_list_here c.1 f ns) ∙ one_lowest (wrong_in ns c ds) f

-- what is wrong with the feature by the column is the answer
pub one_judged : (p f : ℕ) (s : List ℕ) (r : Refusal) (c : Column) → c ≡ column_of p → r ≡ column_fault c s → r.number ≡ 0
    → (x : Said) → x ≡ lowest_from (wrong_in required c (descs s)) f 1 → x ≡ judged_of p f s
unfolding judged_of
one_judged p f s r c q e k x l = l ∙ ap (λ (d : Column). lowest_from (wrong_in required d (descs s)) f 1) q ∙ judge_passed p s _ r c q e k
