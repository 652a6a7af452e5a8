-- The one walk over the lines of a column and the descriptors of a response: both ascend, so what was passed matters to no feature that is left. Assumes nothing.
use borrow.Author.Tests.{ltb-true, ltb-false, lt-ltb, le-ltb, eqb-true, eqb-false, eq-eqb, ne_eqb}
use mathlib.Core.Path.{◌≡◌, refl, sym, ap, ap₂, subst, ◌∙◌}
use mathlib.Core.Bool.{Bool, true, false}
use mathlib.Core.List.{List, [], ◌∷◌}
use Prim.Native.Nat.{ℕ, zero, suc, ◌+◌, ◌-◌, ◌/◌, ◌≤◌, ◌<◌}
use native.Mathlib.Numerals.{add-one}
use native.Mathlib.Nat.{mod-lt}
use native.Mathlib.Omega.{arith}
use lib.Dec.{ltb, eqb}
use lib.ListN.{length, get_or}
use Rattle.base.specs.Lists.{All, Bytes, each}
use Rattle.base.proofs.Lists.{all_map}
use Rattle.base.specs.Pick.{pick}
use Rattle.base.proofs.Pick.{pick_here, pick_past}
use Rattle.fields.proofs.Laws.{field_lt}
use Rattle.text.specs.Drive.{Desc, Asc}
use Rattle.text.specs.Reading.{number_at, length_at, desc_at}
use Rattle.text.specs.declared.Feature.{Feature}
use Rattle.text.proofs.Received.{wholes_asc}
use Rattle.reading.specs.Places.{descs, next_at}
use Rattle.reading.specs.Completed.{complete_fault}
use Rattle.reading.specs.inner.Between.{run, from}
use Rattle.reading.proofs.Places.{from_step, from_end}
use Rattle.reading.proofs.Completed.{descs_from}
use Rattle.needs.specs.declared.Wrong.{Wrong}
use Rattle.needs.specs.declared.Wrong.TheVariants.{Absent, TooShort, BitClear, NotCurrent, TooLong}
use Rattle.needs.specs.declared.Judgement.TheVariants.{Broken}
use Rattle.needs.specs.declared.walk.Fit.{Fit}
use Rattle.needs.specs.declared.walk.Fit.TheVariants.{Fits, Lacks}
use Rattle.needs.specs.declared.walk.Step.{Step}
use Rattle.needs.specs.declared.walk.Step.TheVariants.{On, Stop}
use Rattle.needs.specs.declared.table.Column.{Column}
use Rattle.needs.specs.declared.table.Need.{Need}
use Rattle.needs.specs.Required.{marked}
use Rattle.needs.specs.Judge.{Said, says_conforms, says_broken, said, wrong_number, is_too_long, desc_wrong, line_of, desc_of, wrong_of, wrong_in, lowest_from}
use Rattle.needs.specs.inner.Walk.{After, left, stops, fit_number, after, step_by, step_at, step_here, step_from, step_for, every, under, ascends, first_long}
use Rattle.refusal.proofs.First.{if_true, if_false}
use Rattle.needs.proofs.Rules.{and_true, every_all}
use Rattle.needs.specs.inner.Table.{line_read, line_at, lines_in}
use Rattle.needs.proofs.Columns.{each_step, each_end}
use Rattle.needs.proofs.Lowest.{lowest_none, lowest_found, lowest_same}

-- ---- the step of a line

module _ (n : Need) (longest : ℕ) (d : Desc) (ds : List Desc) where
  pub step_long : d.number < n.1.0 → is_too_long longest d ≡ true → step_from n longest (d ∷ ds) ≡ stops d.number 5
  unfolding step_from
  step_long h t = rw (lt-ltb d.number n.1.0 h, t, step_from)

  pub step_past : d.number < n.1.0 → is_too_long longest d ≡ false → step_from n longest (d ∷ ds) ≡ step_from n longest ds
  unfolding step_from
  step_past h t = rw (lt-ltb d.number n.1.0 h, t, step_from)

  pub step_here_here : n.1.0 ≤ d.number → step_from n longest (d ∷ ds) ≡ step_at n longest d.number d ds
  unfolding step_from
  step_here_here h = rw (le-ltb d.number n.1.0 h, step_from)

  module _ (number : ℕ) where
    pub step_absent : (number ≡ n.1.0 → ⊥) → step_at n longest number d ds ≡ stops n.1.0 1
    unfolding step_at
    step_absent h = rw (ne_eqb number n.1.0 h, step_at)

    step_fits : number ≡ n.1.0 → step_at n longest number d ds ≡ step_by n.1.0 (desc_wrong n longest d) ds
    unfolding step_at
    step_fits h = rw (eq-eqb number n.1.0 h, step_at)

    -- with what the code finds there
    pub step_on : number ≡ n.1.0 → (x : Fit) → fit_number x ≡ desc_wrong n longest d → x ≡ Fits → left ds ≡ step_at n longest number d ds
    step_on h x e q = sym (step_fits h ∙ ap (λ (v : ℕ). step_by n.1.0 v ds) (sym e ∙ ap fit_number q))

    pub step_off : number ≡ n.1.0 → (x : Fit) (w : Wrong) → fit_number x ≡ desc_wrong n longest d → x ≡ Lacks w → stops n.1.0 (wrong_number w) ≡ step_at n longest number d ds
    step_off h x w e q = sym (step_fits h ∙ ap (λ (v : ℕ). step_by n.1.0 v ds) (sym e ∙ ap fit_number q) ∙ off w)
      where
        off : (w : Wrong) → step_by n.1.0 (wrong_number w) ds ≡ stops n.1.0 (wrong_number w)
        off Absent = refl
        off TooShort = refl
        off BitClear = refl
        off NotCurrent = refl
        off TooLong = refl

-- a loop over the descriptors, at a place, where w is its answer: the first that is not below the feature, one below it that is too long, a further turn, the end
module _ (n : Need) (longest : ℕ) (s : List ℕ) (w : After) (at : ℕ) (e : w ≡ step_from n longest (from s at)) where
  here_is : at < length s → w ≡ step_from n longest (desc_at s at ∷ from s (next_at s at))
  here_is l = e ∙ ap (step_from n longest) (from_step s at l)

  module _ (number : ℕ) (l : at < length s) (q : number ≡ number_at s at) where
    pub place_found : (v : After) → n.1.0 ≤ number → v ≡ step_here n longest number s at → v ≡ w
    unfolding desc_at
    place_found v h r =
        r ∙ ap (λ (m : ℕ). step_here n longest m s at) q ∙ sym (here_is l ∙ step_here_here n longest (desc_at s at) _ (rw (← q) h))

    module _ (b : Bool) (t : b ≡ is_too_long longest (desc_at s at)) (h : number < n.1.0) where
      pub place_long : b ≡ true → stops number 5 ≡ w
      unfolding desc_at
      place_long u = ap (λ (m : ℕ). stops m 5) q ∙ sym (here_is l ∙ step_long n longest (desc_at s at) _ (rw (← q) h) (sym t ∙ u))

      pub place_next : (next : ℕ) → b ≡ false → next ≡ next_at s at → w ≡ step_from n longest (from s next)
      unfolding desc_at
      place_next next u r = here_is l ∙ rw r (step_past n longest (desc_at s at) _ (rw (← q) h) (sym t ∙ u))

  pub place_end : length s ≤ at → stops n.1.0 1 ≡ w
  unfolding step_from
  place_end l = sym (e ∙ ap (step_from n longest) (from_end s at l))

-- and one that looks for one that is too long
module _ (longest : ℕ) (s : List ℕ) (w : Said) (at : ℕ) (e : w ≡ first_long longest (from s at)) where
  long_is : at < length s → w ≡ first_long longest (desc_at s at ∷ from s (next_at s at))
  long_is l = e ∙ ap (first_long longest) (from_step s at l)

  module _ (l : at < length s) (b : Bool) (t : b ≡ is_too_long longest (desc_at s at)) where
    pub long_found : (number : ℕ) → number ≡ number_at s at → b ≡ true → says_broken number 5 ≡ w
    unfolding desc_at first_long
    long_found number q u = ap (λ (m : ℕ). says_broken m 5) q ∙ sym (long_is l ∙ pick_here (is_too_long longest) _ _ (desc_at s at) _ (sym t ∙ u))

    pub long_next : (next : ℕ) → b ≡ false → next ≡ next_at s at → w ≡ first_long longest (from s next)
    unfolding first_long
    long_next next u r = long_is l ∙ rw r (pick_past (is_too_long longest) _ _ (desc_at s at) _ (sym t ∙ u))

  pub long_end : length s ≤ at → says_conforms ≡ w
  unfolding first_long pick
  long_end l = sym (e ∙ ap (first_long longest) (from_end s at l))

-- a line that stands in the column, and one that does not
module _ (c : Column) (n : Need) (ds : List Desc) where
  pub step_own : (b : Bool) → b ≡ marked c.1 n → b ≡ true → step_for c n ds ≡ step_from n c.2 ds
  unfolding step_for
  step_own b e h = rw (← e, h, step_for)

  pub step_other : (b : Bool) → b ≡ marked c.1 n → b ≡ false → step_for c n ds ≡ left ds
  unfolding step_for
  step_other b e h = rw (← e, h, step_for)

-- ---- the line and the descriptor of a feature

module _ (k f : ℕ) where
  line_here : (n : Need) (ns : List Need) → marked k n ≡ true → n.1.0 ≡ f → line_of k f (n ∷ ns) ≡ n ∷ []
  unfolding line_of
  line_here n ns m e = pick_here _ _ _ n ns (rw (m, eq-eqb n.1.0 f e))

  line_other : (n : Need) (ns : List Need) → marked k n ≡ false → line_of k f (n ∷ ns) ≡ line_of k f ns
  unfolding line_of
  line_other n ns m = pick_past _ _ _ n ns (rw m)

  line_past : (n : Need) (ns : List Need) → marked k n ≡ true → (n.1.0 ≡ f → ⊥) → line_of k f (n ∷ ns) ≡ line_of k f ns
  unfolding line_of
  line_past n ns m e = pick_past _ _ _ n ns (rw (m, ne_eqb n.1.0 f e))

  -- the lines that stand in the column are above f
  abbrev pub Above : List Need → Type 0
  Above ns = All (λ (m : Need). marked k m ≡ true → f < m.1.0) ns

  line_none : (ns : List Need) → Above ns → line_of k f ns ≡ []
  unfolding line_of pick
  line_none [] a = refl
  line_none (n ∷ ns) a = go (marked k n) refl (line_none ns a.1)
    where
      go : (t : Bool) → marked k n ≡ t → line_of k f ns ≡ [] → line_of k f (n ∷ ns) ≡ []
      go true t more = line_past n ns t (λ e. omega (arith, a.0 t)) ∙ more
      go false t more = line_other n ns t ∙ more

-- above one feature is above a lower one
above_lower : (k f g : ℕ) (ns : List Need) → g ≤ f → Above k f ns → Above k g ns
above_lower k f g ns l a = all_map _ _ (λ m h t. omega (arith, h t)) ns a

module _ (f : ℕ) where
  desc_here : (d : Desc) (ds : List Desc) → d.number ≡ f → desc_of f (d ∷ ds) ≡ d ∷ []
  unfolding desc_of
  desc_here d ds e = pick_here _ _ _ d ds (eq-eqb d.number f e)

  desc_past : (d : Desc) (ds : List Desc) → (d.number ≡ f → ⊥) → desc_of f (d ∷ ds) ≡ desc_of f ds
  unfolding desc_of
  desc_past d ds e = pick_past _ _ _ d ds (ne_eqb d.number f e)

  desc_none : (lo : ℕ) (ds : List Desc) → f < lo → Asc lo ds → desc_of f ds ≡ []
  unfolding desc_of pick
  desc_none lo [] l a = refl
  desc_none lo (d ∷ ds) l a = desc_past d ds (λ e. omega (arith, a.0)) ∙ desc_none (1 + d.number) ds (omega (arith, a.0)) a.1

-- ---- what a step tells of the features

module _ (c : Column) where
  abbrev wrongs : List Need → List Desc → ℕ → ℕ
  wrongs ns ds f = wrong_in ns c ds f

  module _ (ns : List Need) (ds : List Desc) (f : ℕ) where
    by : (l : List Need) (e : List Desc) → line_of c.1 f ns ≡ l → desc_of f ds ≡ e → wrongs ns ds f ≡ wrong_of c.2 l e
    unfolding wrong_in
    by l e p q = ap₂ (wrong_of c.2) p q

    by_neither : line_of c.1 f ns ≡ [] → desc_of f ds ≡ [] → wrongs ns ds f ≡ 0
    unfolding wrong_of
    by_neither p q = by [] [] p q

    by_line : (n : Need) → line_of c.1 f ns ≡ n ∷ [] → desc_of f ds ≡ [] → wrongs ns ds f ≡ 1
    unfolding wrong_of
    by_line n p q = by (n ∷ []) [] p q

    by_long : (d : Desc) → line_of c.1 f ns ≡ [] → desc_of f ds ≡ d ∷ [] → is_too_long c.2 d ≡ true → wrongs ns ds f ≡ 5
    unfolding wrong_of
    by_long d p q t = by [] (d ∷ []) p q ∙ rw t (if_true {A = ℕ} 5 0)

    by_free : (d : Desc) → line_of c.1 f ns ≡ [] → desc_of f ds ≡ d ∷ [] → is_too_long c.2 d ≡ false → wrongs ns ds f ≡ 0
    unfolding wrong_of
    by_free d p q t = by [] (d ∷ []) p q ∙ rw t (if_false {A = ℕ} 5 0)

    by_both : (n : Need) (d : Desc) → line_of c.1 f ns ≡ n ∷ [] → desc_of f ds ≡ d ∷ [] → wrongs ns ds f ≡ desc_wrong n c.2 d
    unfolding wrong_of
    by_both n d p q = by (n ∷ []) (d ∷ []) p q

  -- nothing is wrong below f, and v is wrong with it, not 0
  pub record Stopped (w : ℕ → ℕ) (f v : ℕ) : Type 0 where
    pub here : w f ≡ v
    pub some : 0 < v
    pub low : f < 65536
    pub lower : (g : ℕ) → g < f → w g ≡ 0

  -- with the lines ns and the descriptors rest left, every feature is judged as before
  pub record Passed (w : ℕ → ℕ) (ns : List Need) (rest : List Desc) : Type 0 where
    pub lo : ℕ
    pub asc : Asc lo rest
    pub small : All (λ (d : Desc). d.number < 65536) rest
    pub same : (g : ℕ) → w g ≡ wrongs ns rest g

  abbrev pub Told : (w : ℕ → ℕ) → List Need → After → Type 0
  Told w ns (left rest) = Passed w ns rest
  Told w ns (stops f v) = Stopped w f v

  told_as : (w v : ℕ → ℕ) (ns : List Need) → ((g : ℕ) → w g ≡ v g) → (x : After) → Told v ns x → Told w ns x
  told_as w v ns e (left rest) o = record { lo = o.lo; asc = o.asc; small = o.small; same = λ g. e g ∙ o.same g }
  told_as w v ns e (stops f u) o = record { here = e f ∙ o.here; some = o.some; low = o.low; lower = λ g l. e g ∙ o.lower g l }

  -- a line that stands in the column
  module _ (n : Need) (ns : List Need) (m : marked c.1 n ≡ true) (b : n.1.0 < 65536) (a : Above c.1 n.1.0 ns) where
    own : line_of c.1 n.1.0 (n ∷ ns) ≡ n ∷ []
    own = line_here c.1 n.1.0 n ns m refl

    below : (g : ℕ) → g < n.1.0 → line_of c.1 g (n ∷ ns) ≡ []
    below g l = line_none c.1 g (n ∷ ns) ((λ t. l), above_lower c.1 n.1.0 g ns (omega arith) a)

    behind : line_of c.1 n.1.0 ns ≡ []
    behind = line_none c.1 n.1.0 ns a

    -- no descriptor has its number, and none a lower one
    absent : (ds : List Desc) → (lo : ℕ) → n.1.0 < lo → Asc lo ds → Stopped (wrongs (n ∷ ns) ds) n.1.0 1
    absent ds lo l e = record {
      here = by_line (n ∷ ns) ds n.1.0 n own (desc_none n.1.0 lo ds l e);
      some = omega arith;
      low = b;
      lower = λ g h. by_neither (n ∷ ns) ds g (below g h) (desc_none g lo ds (omega arith) e);
    }

    module _ (d : Desc) (ds : List Desc) (e : Asc (1 + d.number) ds) (s : d.number < 65536) (z : All (λ (x : Desc). x.number < 65536) ds) where
      no_lower : (g : ℕ) → g < d.number → desc_of g (d ∷ ds) ≡ []
      no_lower g l = desc_none g d.number (d ∷ ds) l (omega arith, e)

      -- a lower one that is too long, and one that is not
      long_below : d.number < n.1.0 → is_too_long c.2 d ≡ true → Stopped (wrongs (n ∷ ns) (d ∷ ds)) d.number 5
      long_below l t = record {
        here = by_long (n ∷ ns) (d ∷ ds) d.number d (below d.number l) (desc_here d.number d ds refl) t;
        some = omega arith;
        low = s;
        lower = λ g h. by_neither (n ∷ ns) (d ∷ ds) g (below g (omega arith)) (no_lower g h);
      }

      free_below : d.number < n.1.0 → is_too_long c.2 d ≡ false → (g : ℕ) → wrongs (n ∷ ns) (d ∷ ds) g ≡ wrongs (n ∷ ns) ds g
      free_below l t g = go (eqb d.number g) refl
        where
          go : (u : Bool) → eqb d.number g ≡ u → wrongs (n ∷ ns) (d ∷ ds) g ≡ wrongs (n ∷ ns) ds g
          go true u =
              let q = eqb-true d.number g u in
              by_free (n ∷ ns) (d ∷ ds) g d (below g (omega arith)) (desc_here g d ds q) t
              ∙ sym (by_neither (n ∷ ns) ds g (below g (omega arith)) (desc_none g (1 + d.number) ds (omega arith) e))
          go false u = by (n ∷ ns) (d ∷ ds) g _ _ refl (desc_past g d ds (eqb-false d.number g u)) ∙ sym (by (n ∷ ns) ds g _ _ refl refl)

      -- its own descriptor
      both : (v : ℕ) → d.number ≡ n.1.0 → desc_wrong n c.2 d ≡ v → wrongs (n ∷ ns) (d ∷ ds) n.1.0 ≡ v
      both v q w = by_both (n ∷ ns) (d ∷ ds) n.1.0 n d own (desc_here n.1.0 d ds q) ∙ w

      fits : d.number ≡ n.1.0 → (v : ℕ) → desc_wrong n c.2 d ≡ v → Told (wrongs (n ∷ ns) (d ∷ ds)) ns (step_by n.1.0 v ds)
      fits q (suc v) w = record {
        here = both (suc v) q w;
        some = omega arith;
        low = b;
        lower = λ g h. by_neither (n ∷ ns) (d ∷ ds) g (below g h) (no_lower g (omega arith));
      }
      fits q zero w = record { lo = 1 + d.number; asc = e; small = z; same = λ g. go g (eqb n.1.0 g) refl }
        where
          go : (g : ℕ) (u : Bool) → eqb n.1.0 g ≡ u → wrongs (n ∷ ns) (d ∷ ds) g ≡ wrongs ns ds g
          go g true u =
              let p = eqb-true n.1.0 g u in
              subst (λ (x : ℕ). wrongs (n ∷ ns) (d ∷ ds) x ≡ wrongs ns ds x) p
              (both 0 q w ∙ sym (by_neither ns ds n.1.0 behind (desc_none n.1.0 (1 + d.number) ds (omega arith) e)))
          go g false u =
              let p = eqb-false n.1.0 g u in
              by (n ∷ ns) (d ∷ ds) g _ _ (line_past c.1 g n ns m p) (desc_past g d ds (λ x. p (sym q ∙ x))) ∙ sym (by ns ds g _ _ refl refl)

    told_from : (lo : ℕ) (ds : List Desc) → Asc lo ds → All (λ (d : Desc). d.number < 65536) ds → Told (wrongs (n ∷ ns) ds) ns (step_from n c.2 ds)
    unfolding step_from
    told_from lo [] e z = absent [] (1 + n.1.0) (omega arith) tt
    told_from lo (d ∷ ds) e z = go (ltb d.number n.1.0) refl (told_from (1 + d.number) ds e.1 z.1)
      where
        at : n.1.0 ≤ d.number → (u : Bool) → eqb d.number n.1.0 ≡ u → Told (wrongs (n ∷ ns) (d ∷ ds)) ns (step_at n c.2 d.number d ds)
        at l true u =
            let q = eqb-true _ _ u in
            rw (step_fits n c.2 d ds d.number q) (fits d ds e.1 z.0 z.1 q (desc_wrong n c.2 d) refl)
        at l false u =
            let q = eqb-false _ _ u in
            rw (step_absent n c.2 d ds d.number q) (absent (d ∷ ds) d.number (omega arith) (omega arith, e.1))

        low : d.number < n.1.0 → (u : Bool) → is_too_long c.2 d ≡ u → Told (wrongs (n ∷ ns) ds) ns (step_from n c.2 ds)
            → Told (wrongs (n ∷ ns) (d ∷ ds)) ns (step_from n c.2 (d ∷ ds))
        low l true u more = rw (step_long n c.2 d ds l u) (long_below d ds e.1 z.0 z.1 l u)
        low l false u more =
            rw (step_past n c.2 d ds l u)
            (told_as (wrongs (n ∷ ns) (d ∷ ds)) (wrongs (n ∷ ns) ds) ns (free_below d ds e.1 z.0 z.1 l u) (step_from n c.2 ds) more)

        go : (u : Bool) → ltb d.number n.1.0 ≡ u → Told (wrongs (n ∷ ns) ds) ns (step_from n c.2 ds)
            → Told (wrongs (n ∷ ns) (d ∷ ds)) ns (step_from n c.2 (d ∷ ds))
        go true u more = low (ltb-true _ _ u) (is_too_long c.2 d) refl more
        go false u more = let l = ltb-false _ _ u in rw (step_here_here n c.2 d ds l) (at l (eqb d.number n.1.0) refl)

  -- ---- the lines one after the other

  -- the lines behind one that stands in the column are above it
  above : (n : Need) (ns : List Need) → marked c.1 n ≡ true → every (under c.1 n) ns ≡ true → Above c.1 n.1.0 ns
  above n ns m e = all_map _ _ step ns (every_all (under c.1 n) ns e)
    where
      step : (x : Need) → under c.1 n x ≡ true → marked c.1 x ≡ true → n.1.0 < x.1.0
      step x u t = ltb-true n.1.0 x.1.0 (rw (m, t) at u)

  -- one that does not stand in it is passed
  other : (n : Need) (ns : List Need) (ds : List Desc) → marked c.1 n ≡ false → (g : ℕ) → wrongs (n ∷ ns) ds g ≡ wrongs ns ds g
  other n ns ds m g = by (n ∷ ns) ds g _ _ (line_other c.1 g n ns m) refl ∙ sym (by ns ds g _ _ refl refl)

  told : (n : Need) (ns : List Need) (lo : ℕ) (ds : List Desc) → n.1.0 < 65536 → every (under c.1 n) ns ≡ true → Asc lo ds
      → All (λ (d : Desc). d.number < 65536) ds → Told (wrongs (n ∷ ns) ds) ns (step_for c n ds)
  told n ns lo ds b u a z = go (marked c.1 n) refl
    where
      go : (t : Bool) → marked c.1 n ≡ t → Told (wrongs (n ∷ ns) ds) ns (step_for c n ds)
      go true t = rw (step_own c n ds true (sym t) refl) (told_from n ns t b (above n ns t u) lo ds a z)
      go false t = rw (step_other c n ds false (sym t) refl) record { lo = lo; asc = a; small = z; same = other n ns ds t }

  -- ---- behind the last line

  none_left : (ds : List Desc) (g : ℕ) → desc_of g ds ≡ [] → wrongs [] ds g ≡ 0
  unfolding line_of pick
  none_left ds g e = by_neither [] ds g refl e

  long_first : (lo : ℕ) (ds : List Desc) → Asc lo ds → All (λ (d : Desc). d.number < 65536) ds → first_long c.2 ds ≡ lowest_from (wrongs [] ds) 0 65536
  unfolding first_long pick desc_of line_of
  long_first lo [] a z = sym (lowest_none (wrongs [] []) 0 65536 (λ g. none_left [] g refl))
  long_first lo (d ∷ ds) a z = go (is_too_long c.2 d) refl (long_first (1 + d.number) ds a.1 z.1)
    where
      lower : (g : ℕ) → g < d.number → wrongs [] (d ∷ ds) g ≡ 0
      lower g l = none_left (d ∷ ds) g (desc_none g d.number (d ∷ ds) l (omega arith, a.1))

      same : is_too_long c.2 d ≡ false → (g : ℕ) → wrongs [] (d ∷ ds) g ≡ wrongs [] ds g
      same t g = each_one (eqb d.number g) refl
        where
          each_one : (u : Bool) → eqb d.number g ≡ u → wrongs [] (d ∷ ds) g ≡ wrongs [] ds g
          each_one true u =
              let q = eqb-true d.number g u in
              by_free [] (d ∷ ds) g d refl (desc_here g d ds q) t ∙ sym (none_left ds g (desc_none g (1 + d.number) ds (omega arith) a.1))
          each_one false u = by [] (d ∷ ds) g _ _ refl (desc_past g d ds (eqb-false d.number g u)) ∙ sym (by [] ds g _ _ refl refl)

      go : (t : Bool) → is_too_long c.2 d ≡ t → first_long c.2 ds ≡ lowest_from (wrongs [] ds) 0 65536
          → first_long c.2 (d ∷ ds) ≡ lowest_from (wrongs [] (d ∷ ds)) 0 65536
      go true t more =
          pick_here (is_too_long c.2) _ _ d ds t
          ∙ sym (lowest_found (wrongs [] (d ∷ ds)) d.number 4 0 65536 (omega arith) z.0 lower (by_long [] (d ∷ ds) d.number d refl (desc_here d.number d ds refl) t))
      go false t more =
          pick_past (is_too_long c.2) _ _ d ds t ∙ more ∙ sym (lowest_same (wrongs [] (d ∷ ds)) (wrongs [] ds) (same t) 0 65536)

-- ---- the walk

-- the numbers that two bytes tell are below 65,536
run_small : (s : List ℕ) → Bytes s → (k at end : ℕ) → All (λ (d : Desc). d.number < 65536) (run k s at end)
unfolding run desc_at number_at
run_small s b zero at end = tt
run_small s b (suc k) at end = go (ltb at end) (run_small s b k (at + 4 + length_at s at) end)
  where
    go : (t : Bool) → All (λ (d : Desc). d.number < 65536) (run k s (at + 4 + length_at s at) end)
        → All (λ (d : Desc). d.number < 65536) (elim t [ true ↦ desc_at s at ∷ run k s (at + 4 + length_at s at) end | false ↦ [] ])
    go true more = (omega (arith, field_lt 2 s at b), more)
    go false more = tt

line_small : (b : List ℕ) (i : ℕ) → (line_at b i).1.0 < 65536
unfolding line_read
line_small b i = mod-lt (get_or b i 0 / 0x100000000) (omega arith)

module _ (c : Column) (b s : List ℕ) where
  abbrev pub lines : ℕ → ℕ → List Need
  lines n i = each (line_at b) i (n - i)

  -- what is left of the walk at line i and a place: w judges each feature
  pub record Left (w : ℕ → ℕ) (n i at : ℕ) : Type 0 where
    pub received : Bytes s
    pub few : i ≤ n
    pub lo : ℕ
    pub asc : Asc lo (from s at)
    pub rising : ascends c.1 (lines n i) ≡ true
    pub same : (g : ℕ) → w g ≡ wrong_in (lines n i) c (from s at) g

  pub left_start : Bytes s → (complete_fault s).number ≡ 0 → ascends c.1 (lines_in b) ≡ true → Left (wrong_in (lines_in b) c (descs s)) (length b) 0 8
  unfolding lines_in
  left_start z e r =
      let q : lines_in b ≡ lines (length b) 0 = ap (each (line_at b) 0) (omega arith) in
      record {
        received = z;
        few = omega arith;
        lo = 0;
        asc = subst (Asc 0) (descs_from s e) (wholes_asc 65534 0 0 s);
        rising = subst (λ (ns : List Need). ascends c.1 ns ≡ true) q r;
        same = λ g. ap₂ (λ (ns : List Need) (ds : List Desc). wrong_in ns c ds g) q (descs_from s e);
      }

  module _ (w : ℕ → ℕ) (n i at : ℕ) (x : Left w n i at) where
    pub left_end : (j : Said) → n ≤ i → j ≡ first_long c.2 (from s at) → j ≡ lowest_from w 0 65536
    left_end j l e =
        e ∙ long_first c x.lo (from s at) x.asc (run_small s x.received _ at (length s))
        ∙ sym (lowest_same w (wrong_in [] c (from s at)) (λ g. x.same g ∙ ap (λ (ns : List Need). wrong_in ns c (from s at) g) (each_end (line_at b) n i l)) 0 65536)

    -- with line i and its step v at hand
    module _ (need : Need) (v : Step) (l : i < n) (q : need ≡ line_at b i) (e : after s v ≡ step_for c need (from s at)) where
      line_is : lines n i ≡ need ∷ lines n (suc i)
      line_is = rw q (each_step (line_at b) n i l)

      split : (every (under c.1 need) (lines n (suc i)) ≡ true) × (ascends c.1 (lines n (suc i)) ≡ true)
      split = and_true _ _ (subst (λ (ns : List Need). ascends c.1 ns ≡ true) line_is x.rising)

      tells : (u : Step) → v ≡ u → Told c w (lines n (suc i)) (after s u)
      tells u k =
          told_as c w (wrong_in (need ∷ lines n (suc i)) c (from s at)) (lines n (suc i))
          (λ g. x.same g ∙ ap (λ (ns : List Need). wrong_in ns c (from s at) g) line_is) (after s u)
          (subst (Told c (wrong_in (need ∷ lines n (suc i)) c (from s at)) (lines n (suc i))) (sym e ∙ ap (after s) k)
          (told c need (lines n (suc i)) x.lo (from s at) (rw q (line_small b i)) split.0 x.asc (run_small s x.received _ at (length s))))

      pub left_found : (f : Feature) (u : Wrong) → v ≡ Stop f u → said (Broken f u) ≡ lowest_from w 0 65536
      left_found f u k = let o : Stopped c w f.0 (wrong_number u) = tells (Stop f u) k in go (wrong_number u) o
        where
          go : (m : ℕ) → Stopped c w f.0 m → says_broken f.0 m ≡ lowest_from w 0 65536
          go zero o = absurd (omega (arith, o.some))
          go (suc m) o = sym (lowest_found w f.0 m 0 65536 (omega arith) o.low o.lower o.here)

      pub left_next : (next : ℕ) → v ≡ On next → Left w n (i + 1) next
      left_next next k =
          let o : Passed c w (lines n (suc i)) (from s next) = tells (On next) k in
          record { received = x.received; few = omega arith; lo = o.lo; asc = o.asc; rising = rw add-one split.1; same = rw add-one o.same }
