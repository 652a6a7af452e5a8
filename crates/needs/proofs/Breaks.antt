-- What is wrong with a feature, said of every line and every descriptor; and columns whose needs are another's too. Assumes nothing.
use borrow.Author.Tests.{ltb-true, ltb-false, lt-ltb, le-ltb, leb-true, eqb-true, eqb-false, eq-eqb, not-true, not-false}
use mathlib.Core.Path.{◌≡◌, refl, sym, ap, ap₂, subst, ◌∙◌}
use mathlib.Core.Logic.{inl, inr, ⊎_elim}
use mathlib.Core.Bool.{Bool, true, false, not, ◌&&◌, ◌||◌, true≢false}
use mathlib.Core.List.{List, [], ◌∷◌}
use Prim.Native.Nat.{ℕ, zero, suc, ◌+◌, ◌≤◌, ◌<◌}
use native.Mathlib.Omega.{arith}
use lib.Bits.{bit_and, and_zero_r}
use lib.Dec.{leb, eqb}
use lib.ListN.{length, get_or}
use Rattle.base.specs.Lists.{All}
use Rattle.base.specs.Pick.{pick, some}
use Rattle.base.proofs.Pick.{pick_here, pick_past}
use Rattle.text.specs.Drive.{Desc, Asc}
use Rattle.needs.specs.declared.Wrong.{Wrong}
use Rattle.needs.specs.declared.Wrong.TheVariants.{Absent, TooShort, BitClear, NotCurrent, TooLong}
use Rattle.needs.specs.declared.table.Column.{Column}
use Rattle.needs.specs.declared.table.Need.{Need}
use Rattle.needs.specs.Required.{required, marked}
use Rattle.needs.specs.Judge.{wrong_number, is_too_long, line_wrong, desc_wrong, line_of, desc_of, wrong_of, wrong_in}
use Rattle.needs.proofs.Broken.{In, Asked, Gives, Unmet, Overlong, Breaks, Reported, Reason}
use Rattle.needs.specs.inner.Walk.{every, under, ascends}
use Rattle.refusal.specs.First.{◌if◌else◌}
use Rattle.refusal.proofs.First.{if_true, if_false}
use Rattle.needs.proofs.Rules.{chosen_zero, chosen_case, and_true, every_all}

-- ---- the first element that passes a test, where at most one does

all_in : {A : Type 0} (P : A → Type 0) (xs : List A) → All P xs → (x : A) → In x xs → P x
all_in P [] a x i = absurd i
all_in P (y ∷ ys) a x i = ⊎_elim (λ e. subst P (sym e) a.0) (all_in P ys a.1 x) i

module _ {A : Type 0} (test : A → Bool) where
  abbrev first : List A → List A
  first xs = pick test (λ x. x ∷ []) [] xs

  -- it is one of them, and passes
  first_in : (xs : List A) (x : A) (l : List A) → first xs ≡ x ∷ l → In x xs × (test x ≡ true)
  unfolding pick
  first_in [] x l e = absurd (omega (arith, ap length e))
  first_in (y ∷ ys) x l e = go (test y) refl (first_in ys x l)
    where
      go : (t : Bool) → test y ≡ t → (first ys ≡ x ∷ l → In x ys × (test x ≡ true)) → In x (y ∷ ys) × (test x ≡ true)
      go true t more =
          let q : (y ∷ []) ≡ (x ∷ l) = sym (pick_here test _ _ y ys t) ∙ e in
          let h : y ≡ x = cc in
          (inl (sym h), subst (λ (z : A). test z ≡ true) h t)
      go false t more = let m = more (sym (pick_past test _ _ y ys t) ∙ e) in (inr m.0, m.1)

  -- one that passes is found, if none else does
  first_own : (xs : List A) (x : A) → In x xs → test x ≡ true → ((y : A) → In y xs → test y ≡ true → y ≡ x) → first xs ≡ x ∷ []
  unfolding pick
  first_own [] x i e only = absurd i
  first_own (y ∷ ys) x i e only = go (test y) refl (first_own ys x)
    where
      go : (t : Bool) → test y ≡ t → (In x ys → test x ≡ true → ((z : A) → In z ys → test z ≡ true → z ≡ x) → first ys ≡ x ∷ []) → first (y ∷ ys) ≡ x ∷ []
      go true t more = pick_here test _ _ y ys t ∙ ap (λ (z : A). z ∷ []) (only y (inl refl) t)
      go false t more =
          pick_past test _ _ y ys t
          ∙ ⊎_elim (λ q. absurd (true≢false (sym e ∙ ap test q ∙ t))) (λ j. more j e (λ z k. only z (inr k))) i

-- one of them passes a test
record Found {A : Type 0} (test : A → Bool) (xs : List A) : Type 0 where
  it : A
  listed : In it xs
  passes : test it ≡ true

some_in : {A : Type 0} (test : A → Bool) (xs : List A) → some test xs ≡ true → Found test xs
unfolding pick
some_in test [] e = absurd (true≢false (sym e))
some_in test (x ∷ xs) e = go (test x) refl (some_in test xs)
  where
    go : (t : Bool) → test x ≡ t → (some test xs ≡ true → Found test xs) → Found test (x ∷ xs)
    go true t more = record { it = x; listed = inl refl; passes = t }
    go false t more = let m = more (sym (pick_past test _ _ x xs t) ∙ e) in record { it = m.it; listed = inr m.listed; passes = m.passes }

or_elim : {P : Type 0} (a b : Bool) → (a || b) ≡ true → (a ≡ true → P) → (b ≡ true → P) → P
or_elim true b e f g = f refl
or_elim false b e f g = g e

-- ---- descriptors and lines by their numbers

desc_above : (lo : ℕ) (ds : List Desc) → Asc lo ds → (d : Desc) → In d ds → lo ≤ d.number
desc_above lo [] a d i = absurd i
desc_above lo (e ∷ ds) a d i = ⊎_elim (λ q. subst (λ (x : Desc). lo ≤ x.number) (sym q) a.0) (λ j. omega (arith, a.0, desc_above (1 + e.number) ds a.1 d j)) i

desc_one : (lo : ℕ) (ds : List Desc) → Asc lo ds → (d e : Desc) → In d ds → In e ds → d.number ≡ e.number → d ≡ e
desc_one lo [] a d e i j q = absurd i
desc_one lo (x ∷ ds) a d e i j q =
    ⊎_elim
    (λ p. ⊎_elim (λ r. p ∙ sym r) (λ k. absurd (omega (arith, desc_above (1 + x.number) ds a.1 e k, ap (λ (y : Desc). y.number) p))) j)
    (λ h. ⊎_elim (λ r. absurd (omega (arith, desc_above (1 + x.number) ds a.1 d h, ap (λ (y : Desc). y.number) r))) (λ k. desc_one (1 + x.number) ds a.1 d e h k q) j)
    i

module _ (k : ℕ) where
  under_lt : (m n : Need) → under k m n ≡ true → marked k m ≡ true → marked k n ≡ true → m.1.0 < n.1.0
  under_lt m n u s t = ltb-true m.1.0 n.1.0 (rw (s, t) at u)

  line_one : (ns : List Need) → ascends k ns ≡ true → (m n : Need) → In m ns → In n ns → marked k m ≡ true → marked k n ≡ true → m.1.0 ≡ n.1.0 → m ≡ n
  line_one [] a m n i j s t q = absurd i
  line_one (x ∷ ns) a m n i j s t q =
      let b = and_true (every (under k x) ns) (ascends k ns) a in
      let up = all_in (λ y. under k x y ≡ true) ns (every_all (under k x) ns b.0) in
      ⊎_elim
      (λ p. ⊎_elim (λ r. p ∙ sym r) (λ h. absurd (omega (arith, under_lt x n (up n h) (subst (λ (y : Need). marked k y ≡ true) p s) t, ap (λ (y : Need). y.1.0) p))) j)
      (λ h. ⊎_elim (λ r. absurd (omega (arith, under_lt x m (up m h) (subst (λ (y : Need). marked k y ≡ true) r t) s, ap (λ (y : Need). y.1.0) r))) (λ g. line_one ns b.1 m n h g s t q) j)
      i

-- ---- what is wrong, by line and descriptor

abbrev reason_of : (c : Column) (ds : List Desc) (f wrong : ℕ) → Type 0
reason_of c ds f zero = ⊥
reason_of c ds f (suc zero) = Reason c ds f Absent
reason_of c ds f (suc (suc zero)) = Reason c ds f TooShort
reason_of c ds f (suc (suc (suc zero))) = Reason c ds f BitClear
reason_of c ds f (suc (suc (suc (suc zero)))) = Reason c ds f NotCurrent
reason_of c ds f (suc (suc (suc (suc (suc n))))) = Reason c ds f TooLong

abbrev kept : Need → Desc → ℕ
kept n d = bit_and (get_or d.body n.3 0) n.4

abbrev set : Need → Desc → ℕ
set n d = bit_and d.flags n.5

module _ (n : Need) (longest : ℕ) (d : Desc) where
  -- nothing is wrong: it gives what the line asks, and is not too long
  desc_zero : desc_wrong n longest d ≡ 0 → d.number ≡ n.1.0 → Gives n d × (length d.body ≤ longest)
  unfolding desc_wrong line_wrong
  desc_zero e q =
      let w = chosen_zero 1 _ _ e in
      let x = chosen_zero 2 _ _ w.1 in
      let y = chosen_zero 3 _ _ x.1 in
      let z = chosen_zero 4 _ _ y.1 in (
        record {
          names = q;
          enough = ltb-false _ _ w.0;
          bits = eqb-true _ _ (not-false _ x.0);
          flags = eqb-true _ _ (not-false _ y.0);
        },
        ltb-false _ _ z.0,
      )

  zero_desc : Gives n d → length d.body ≤ longest → desc_wrong n longest d ≡ 0
  unfolding desc_wrong line_wrong
  zero_desc g l =
      rw (
        le-ltb (length d.body) n.2 g.enough,
        eq-eqb (kept n d) n.4 g.bits,
        eq-eqb (set n d) n.5 g.flags,
        le-ltb longest (length d.body) l,
        if_false {A = ℕ} 2,
        if_false {A = ℕ} 3,
        if_false {A = ℕ} 4,
        if_false {A = ℕ} 5,
      )

module _ (c : Column) (lo : ℕ) (ds : List Desc) (r : ascends c.1 required ≡ true) (a : Asc lo ds) (f : ℕ) where
  abbrev lines : List Need
  lines = line_of c.1 f required

  abbrev found : List Desc
  found = desc_of f ds

  abbrev wrong : ℕ
  wrong = wrong_in required c ds f

  wrong_is : (l : List Need) (e : List Desc) → lines ≡ l → found ≡ e → wrong ≡ wrong_of c.2 l e
  unfolding wrong_in
  wrong_is l e p q = ap₂ (wrong_of c.2) p q

  -- the line and the descriptor of the feature are the only ones
  line_in_here : (n : Need) (l : List Need) → lines ≡ n ∷ l → Asked c f n
  unfolding line_of
  line_in_here n l e =
      let x = first_in (λ (m : Need). marked c.1 m && eqb m.1.0 f) required n l e in
      let y = and_true _ _ x.1 in
      record { listed = x.0; stands = y.0; names = eqb-true _ _ y.1 }

  line_own : (n : Need) → Asked c f n → lines ≡ n ∷ []
  unfolding line_of
  line_own n x =
      first_own (λ (m : Need). marked c.1 m && eqb m.1.0 f) required n x.listed (rw (x.stands, eq-eqb n.1.0 f x.names))
      (λ m i t. let y = and_true _ _ t in line_one c.1 required r m n i x.listed y.0 x.stands (eqb-true _ _ y.1 ∙ sym x.names))

  desc_in : (d : Desc) (e : List Desc) → found ≡ d ∷ e → In d ds × (d.number ≡ f)
  unfolding desc_of
  desc_in d e q = let x = first_in (λ (y : Desc). eqb y.number f) ds d e q in (x.0, eqb-true _ _ x.1)

  desc_own : (d : Desc) → In d ds → d.number ≡ f → found ≡ d ∷ []
  unfolding desc_of
  desc_own d i q =
      first_own (λ (y : Desc). eqb y.number f) ds d i (eq-eqb d.number f q) (λ y j t. desc_one lo ds a y d j i (eqb-true _ _ t ∙ sym q))

  -- there is none
  absent : found ≡ [] → (d : Desc) → In d ds → d.number ≡ f → ⊥
  absent e d i q = omega (arith, ap length (sym e ∙ desc_own d i q))

  overlong : (d : Desc) → In d ds × (d.number ≡ f) → is_too_long c.2 d ≡ true → Overlong c ds f
  unfolding is_too_long
  overlong d i t = record { desc = d; reported = i.0; names = i.1; longer = ltb-true _ _ t }

  -- what is wrong with a feature breaks the profile
  pub wrong_breaks : (wrong ≡ 0 → ⊥) → Breaks c ds f
  unfolding wrong_of is_too_long
  wrong_breaks h = go lines refl found refl
    where
      free : (d : Desc) → In d ds × (d.number ≡ f) → (t : Bool) → is_too_long c.2 d ≡ t → wrong ≡ (5 if is_too_long c.2 d else 0) → Breaks c ds f
      free d i true t e = inr (overlong d i t)
      free d i false t e = absurd (h (e ∙ rw t (if_false {A = ℕ} 5 0)))

      own : (n : Need) → Asked c f n → (d : Desc) → In d ds × (d.number ≡ f) → (t : Bool) → is_too_long c.2 d ≡ t → wrong ≡ desc_wrong n c.2 d → Breaks c ds f
      own n x d i true t e = inr (overlong d i t)
      own n x d i false t e =
          inl
          record {
            line = n;
            asked = x;
            unmet = λ y j g.
                let q : y ≡ d = desc_one lo ds a y d j i.0 (g.names ∙ x.names ∙ sym i.1) in
                h (e ∙ zero_desc n c.2 d (subst (Gives n) q g) (ltb-false _ _ t));
          }

      go : (l : List Need) → lines ≡ l → (e : List Desc) → found ≡ e → Breaks c ds f
      go [] p [] q = absurd (h (wrong_is [] [] p q))
      go [] p (d ∷ e) q = free d (desc_in d e q) (is_too_long c.2 d) refl (wrong_is [] (d ∷ e) p q)
      go (n ∷ l) p [] q = inl record { line = n; asked = line_in_here n l p; unmet = λ d i g. absent q d i (g.names ∙ (line_in_here n l p).names) }
      go (n ∷ l) p (d ∷ e) q = own n (line_in_here n l p) d (desc_in d e q) (is_too_long c.2 d) refl (wrong_is (n ∷ l) (d ∷ e) p q)

  -- and nothing else does
  pub breaks_wrong : Breaks c ds f → wrong ≡ 0 → ⊥
  unfolding wrong_of is_too_long
  breaks_wrong (inl u) z = go found refl
    where
      go : (e : List Desc) → found ≡ e → ⊥
      go [] q = omega (arith, sym (wrong_is (u.line ∷ []) [] (line_own u.line u.asked) q) ∙ z)
      go (d ∷ e) q =
          let i = desc_in d e q in
          u.unmet d i.0
          (desc_zero u.line c.2 d (sym (wrong_is (u.line ∷ []) (d ∷ e) (line_own u.line u.asked) q) ∙ z) (i.1 ∙ sym u.asked.names)).0
  breaks_wrong (inr o) z = go lines refl
    where
      q : found ≡ o.desc ∷ []
      q = desc_own o.desc o.reported o.names

      go : (l : List Need) → lines ≡ l → ⊥
      go [] p =
          let e : wrong ≡ 5 = wrong_is [] (o.desc ∷ []) p q ∙ rw (lt-ltb c.2 (length o.desc.body) o.longer) (if_true {A = ℕ} 5 0) in
          omega arith
      go (n ∷ l) p =
          omega (
            arith,
            o.longer,
            (desc_zero n c.2 o.desc (sym (wrong_is (n ∷ l) (o.desc ∷ []) p q) ∙ z) (o.names ∙ sym (line_in_here n l p).names)).1,
          )

  -- what the number says is so
  abbrev Says : ℕ → Type 0
  Says w = (w ≡ 0 → ⊥) → reason_of c ds f w

  says_wrong : Says wrong
  unfolding wrong_of desc_wrong line_wrong
  says_wrong = go lines refl found refl
    where
      own : (n : Need) → Asked c f n → (d : Desc) → In d ds × (d.number ≡ f) → Says (desc_wrong n c.2 d)
      own n x d i =
          chosen_case Says 2 _ _ (λ t z. tell (ltb-true _ _ t))
          (λ t. chosen_case Says 3 _ _ (λ u z. tell (eqb-false _ _ (not-true _ u)))
          (λ t. chosen_case Says 4 _ _ (λ u z. tell (eqb-false _ _ (not-true _ u)))
          (λ t. chosen_case Says 5 _ _ (λ u z. record { desc = d; reported = i.0; names = i.1; longer = ltb-true _ _ u }) (λ u z. absurd (z refl)))))
        where
          tell : {P : Need → Desc → Type 0} → P n d → Reported c ds f P
          tell p = record { line = n; asked = x; desc = d; reported = i.0; names = i.1; is = p }

      go : (l : List Need) → lines ≡ l → (e : List Desc) → found ≡ e → Says wrong
      go [] p [] q = rw (wrong_is [] [] p q) (λ z. absurd (z refl))
      go [] p (d ∷ e) q = rw (wrong_is [] (d ∷ e) p q) (chosen_case Says 5 _ _ (λ t z. overlong d (desc_in d e q) t) (λ t z. absurd (z refl)))
      go (n ∷ l) p [] q = rw (wrong_is (n ∷ l) [] p q) (λ z. absent q)
      go (n ∷ l) p (d ∷ e) q = rw (wrong_is (n ∷ l) (d ∷ e) p q) (own n (line_in_here n l p) d (desc_in d e q))

  pub wrong_reason : (w : Wrong) → wrong ≡ wrong_number w → Reason c ds f w
  wrong_reason w e = go w (subst Says e says_wrong)
    where
      go : (w : Wrong) → Says (wrong_number w) → Reason c ds f w
      go Absent h = h (λ z. omega arith)
      go TooShort h = h (λ z. omega arith)
      go BitClear h = h (λ z. omega arith)
      go NotCurrent h = h (λ z. omega arith)
      go TooLong h = h (λ z. omega arith)

-- ---- a column that asks all that another asks

-- line m asks all that line n asks
abbrev asks_all : Need → Need → Bool
asks_all n m =
    eqb m.1.0 n.1.0 && leb n.2 m.2 && (eqb n.4 0 || eqb m.3 n.3 && eqb m.4 n.4) && (eqb n.5 0 || eqb m.5 n.5)

-- a line of column c' has one in column c that asks all that it asks
abbrev covers_line : (c c' : Column) → Need → Bool
covers_line c c' n = not (marked c'.1 n) || some (λ m. marked c.1 m && asks_all n m) required

-- each has, and no descriptor may be longer
abbrev pub covers : (c c' : Column) → Bool
covers c c' = every (covers_line c c') required && leb c.2 c'.2

gives_all : (m n : Need) (d : Desc) → asks_all n m ≡ true → Gives m d → Gives n d
gives_all m n d e g =
    let w = and_true _ _ e in
    let x = and_true _ _ w.0 in
    let y = and_true _ _ x.0 in
    let l : n.2 ≤ m.2 = leb-true n.2 m.2 y.1 in
    record {
      names = g.names ∙ eqb-true _ _ y.0;
      enough = omega (arith, g.enough);
      bits = or_elim _ _ x.1 (λ z. rw (eqb-true n.4 0 z) (and_zero_r (get_or d.body n.3 0)))
          (λ z. let v = and_true _ _ z in rw (← eqb-true m.3 n.3 v.0, ← eqb-true m.4 n.4 v.1) g.bits);
      flags = or_elim _ _ w.1 (λ z. rw (eqb-true n.5 0 z) (and_zero_r d.flags)) (λ z. rw (← eqb-true m.5 n.5 z) g.flags);
    }

-- what breaks the one breaks the other
pub breaks_covered : (c c' : Column) (ds : List Desc) (f : ℕ) → covers c c' ≡ true → Breaks c' ds f → Breaks c ds f
breaks_covered c c' ds f e (inr o) =
    let l : c.2 ≤ c'.2 = leb-true c.2 c'.2 (and_true (every (covers_line c c') required) _ e).1 in
    inr record { desc = o.desc; reported = o.reported; names = o.names; longer = omega (arith, o.longer) }
breaks_covered c c' ds f e (inl u) =
    let x = all_in (λ n. covers_line c c' n ≡ true) required (every_all (covers_line c c') required (and_true _ (leb c.2 c'.2) e).0) u.line u.asked.listed in
    or_elim _ _ x (λ z. absurd (true≢false (sym u.asked.stands ∙ not-true _ z))) (λ z. inl (with (some_in _ required z)))
  where
    with : Found (λ m. marked c.1 m && asks_all u.line m) required → Unmet c ds f
    with m =
        let y = and_true _ _ m.passes in
        record {
          line = m.it;
          asked = record { listed = m.listed; stands = y.0; names = same_name u.line m.it y.1 ∙ u.asked.names };
          unmet = λ d i g. u.unmet d i (gives_all m.it u.line d y.1 g);
        }
      where
        same_name : (n m : Need) → asks_all n m ≡ true → m.1.0 ≡ n.1.0
        same_name n m e = eqb-true _ _ (and_true _ _ (and_true _ _ (and_true _ _ e).0).0).0
