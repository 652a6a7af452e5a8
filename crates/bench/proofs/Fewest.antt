-- No list of starts receives every wanted descriptor whole in fewer commands than a sweep. The starts up to the first wanted descriptor bring nothing beyond
-- what the sweep's first command brings, so what that leaves is up to the others, and one of the former is there. Assumes nothing.
use mathlib.Core.Path.{◌≡◌, refl, sym, ap, subst, ◌∙◌}
use mathlib.Core.Logic.{inl, inr, ⊎_elim}
use mathlib.Core.Bool.{Bool, true, false, false≢true, true≢false}
use mathlib.Core.List.{List, [], ◌∷◌, ◌++◌, map, append_assoc}
use Prim.Native.Nat.{ℕ, zero, suc, ◌+◌, ◌-◌, ◌≤◌, ◌<◌}
use native.Mathlib.Omega.{arith}
use lib.Dec.{leb, ltb}
use lib.ListN.{length, take, drop}
use lib.Seq.{take-append_seam}
use borrow.Author.Tests.{leb-true, le-leb, lt-leb, le-ltb, lt-ltb, ltb-false}
use Rattle.base.specs.Lists.{keep, All}
use Rattle.base.proofs.Compare.{le_or_lt}
use Rattle.base.proofs.Promise.{by}
use Rattle.base.proofs.Lists.{all_map, all_append, all_right, keep_yes, keep_no, keep_append, keep_all, keep_every, keep_holds}
use Rattle.text.specs.Drive.{Desc, Drive, Asc, Sound}
use Rattle.text.specs.Response.{feature0, wants, selected, sent, most}
use Rattle.text.specs.Reading.{last_number}
use Rattle.text.specs.Packing.{size, whole, rest, joined, cuts}
use Rattle.text.specs.Narrowing.{kept_from}
use Rattle.text.proofs.Selection.{asc_down, asc_above, selected_asc, selected_zero}
use Rattle.text.proofs.Narrowing.{selected_larger}
use Rattle.text.proofs.Sizes.{selected_count}
use Rattle.text.proofs.Packing.{Fits, whole_fit, whole_cut, whole_rest, whole_fits, whole_some, rest_all, groups_last, cuts_fit, cuts_cut, cuts_length, cuts_more, packed}
use Rattle.text.proofs.Own.{wholes_sent}
use Rattle.text.proofs.Next.{selected_next}
use Rattle.sweep.specs.Sweep.{cut}
use Rattle.bench.specs.Bench.{Buffers, Ending}
use Rattle.bench.specs.Swept.{room, HasRoom, Premises, Honest, Swept}
use Rattle.bench.specs.Fewest.{Some, received_from, ReceivedBy, ReceivesAll, fewest_from, Fewest}
use Rattle.bench.proofs.Round.{cut_none, cut_yes}

-- ---- P of one element or more

some_length : {A : Type 0} (P : A → Type 0) (xs : List A) → Some P xs → 0 < length xs
some_length P [] s = absurd s
some_length P (x ∷ xs) s = omega arith

some_map : {A : Type 0} (P Q : A → Type 0) → ((x : A) → P x → Q x) → (xs : List A) → Some P xs → Some Q xs
some_map P Q f [] s = s
some_map P Q f (x ∷ xs) (inl p) = inl (f x p)
some_map P Q f (x ∷ xs) (inr s) = inr (some_map P Q f xs s)

some_none : {A : Type 0} (P : A → Type 0) → ((x : A) → P x → ⊥) → (xs : List A) → Some P xs → ⊥
some_none P f [] s = s
some_none P f (x ∷ xs) (inl p) = f x p
some_none P f (x ∷ xs) (inr s) = some_none P f xs s

-- P of each and Q of one meet
meet : {A : Type 0} {C : Type 0} (P Q : A → Type 0) → ((x : A) → P x → Q x → C) → (xs : List A) → All P xs → Some Q xs → C
meet P Q f [] a s = absurd s
meet P Q f (x ∷ xs) a (inl q) = f x a.0 q
meet P Q f (x ∷ xs) a (inr s) = meet P Q f xs a.1 s

-- the one is still there when only elements without P are left out
some_keep : {A : Type 0} (t : A → Bool) (P : A → Type 0) → ((x : A) → t x ≡ false → P x → ⊥) → (xs : List A) → Some P xs → Some P (keep t xs)
some_keep t P f [] s = absurd s
some_keep t P f (x ∷ xs) s = go (t x) refl s (λ r. some_keep t P f xs r)
  where
    go : (b : Bool) → t x ≡ b → Some P (x ∷ xs) → (Some P xs → Some P (keep t xs)) → Some P (keep t (x ∷ xs))
    go true e (inl p) ih = rw (keep_yes t x xs e) (inl p)
    go true e (inr r) ih = rw (keep_yes t x xs e) (inr (ih r))
    go false e (inl p) ih = absurd (f x e p)
    go false e (inr r) ih = rw (keep_no t x xs e) (ih r)

keep_length : {A : Type 0} (t : A → Bool) (xs : List A) → length (keep t xs) ≤ length xs
unfolding keep
keep_length t [] = omega arith
keep_length t (x ∷ xs) = go (t x) refl (keep_length t xs)
  where
    go : (b : Bool) → t x ≡ b → length (keep t xs) ≤ length xs → length (keep t (x ∷ xs)) ≤ length (x ∷ xs)
    go true e ih = rw (keep_yes t x xs e) (omega arith)
    go false e ih = rw (keep_no t x xs e) (omega arith)

-- where one is left out, there are fewer
keep_fewer : {A : Type 0} (t : A → Bool) (xs : List A) → Some (λ (x : A). t x ≡ false) xs → length (keep t xs) < length xs
keep_fewer t [] s = absurd s
keep_fewer t (x ∷ xs) s = go (t x) refl s (λ r. keep_fewer t xs r)
  where
    go : (b : Bool) → t x ≡ b → Some (λ y. t y ≡ false) (x ∷ xs) → (Some (λ y. t y ≡ false) xs → length (keep t xs) < length xs) → length (keep t (x ∷ xs)) < length (x ∷ xs)
    go false e s ih = rw (keep_no t x xs e) (omega (arith, keep_length t xs))
    go true e (inl p) ih = absurd (true≢false (sym e ∙ p))
    go true e (inr r) ih = rw (keep_yes t x xs e) (omega (arith, ih r))

-- each of a list is one of it
all_self : (xs : List Desc) → All (λ (d : Desc). Some (λ (e : Desc). d ≡ e) xs) xs
all_self [] = tt
all_self (x ∷ xs) = (inl refl, all_map (λ (d : Desc). Some (λ (e : Desc). d ≡ e) xs) (λ (d : Desc). Some (λ (e : Desc). d ≡ e) (x ∷ xs)) (λ d s. inr s) xs (all_self xs))

all_left : (P : Desc → Type 0) (xs ys : List Desc) → All P (xs ++ ys) → All P xs
all_left P [] ys a = tt
all_left P (x ∷ xs) ys a = (a.0, all_left P xs ys a.1)

all_both : (P Q R : Desc → Type 0) → ((d : Desc) → P d → Q d → R d) → (xs : List Desc) → All P xs → All Q xs → All R xs
all_both P Q R f [] a b = tt
all_both P Q R f (x ∷ xs) a b = (f x a.0 b.0, all_both P Q R f xs a.1 b.1)

-- ---- lists that ascend

asc_right : (lo : ℕ) (xs ys : List Desc) → Asc lo (xs ++ ys) → Asc lo ys
asc_right lo [] ys a = a
asc_right lo (x ∷ xs) ys a = asc_down lo (1 + x.number) ys (omega arith) (asc_right (1 + x.number) xs ys a.1)

abbrev Under : ℕ → Desc → Type 0
Under n d = d.number < n

asc_under : (lo : ℕ) (xs : List Desc) (y : Desc) (ys : List Desc) → Asc lo (xs ++ y ∷ ys) → All (Under y.number) xs
asc_under lo [] y ys a = tt
asc_under lo (x ∷ xs) y ys a = (omega (arith, (asc_right (1 + x.number) xs (y ∷ ys) a.1).0), asc_under (1 + x.number) xs y ys a.1)

-- ---- what fits behind others

-- into less room fits no more
whole_less : (P : Desc → Type 0) (n k : ℕ) (ds : List Desc) → n ≤ k → All P (whole k ds) → All P (whole n ds)
unfolding whole
whole_less P n k [] l a = tt
whole_less P n k (d ∷ ds) l a = ⊎_elim
    (λ (h : size d ≤ n).
    let b : All P (d ∷ whole (k - size d) ds) = rw (whole_fit k d ds (omega arith)) at a in
    rw (whole_fit n d ds h) (b.0, whole_less P (n - size d) (k - size d) ds (omega arith) b.1))
    (λ (h : n < size d). rw (whole_cut n d ds h) tt)
    (le_or_lt (size d) n)

-- what fits of a list with others before it: some of these, and no more of the list
whole_behind : (P : Desc → Type 0) (n k : ℕ) (xs ds : List Desc) → n ≤ k → All P xs → All P (whole k ds) → All P (whole n (xs ++ ds))
whole_behind P n k [] ds l a b = whole_less P n k ds l b
whole_behind P n k (x ∷ xs) ds l a b = ⊎_elim
    (λ (h : size x ≤ n). rw (whole_fit n x (xs ++ ds) h) (a.0, whole_behind P (n - size x) k xs ds (omega arith) a.1 b))
    (λ (h : n < size x). rw (whole_cut n x (xs ++ ds) h) tt)
    (le_or_lt (size x) n)

-- ---- no list of starts is shorter

module _ (space : ℕ) where
  -- nothing is left: no cut
  cuts_none : (ds : List Desc) → All (Fits space) ds → rest space ds ≡ [] → cuts space space ds ≡ 0
  cuts_none ds f e =
      let n : ℕ = cuts space space ds in
      omega (arith, (packed space (suc n) ds f (omega arith)).count, ap length (groups_last space n ds e))

  -- each of ds is received whole from one of the starts, where W is all that is wanted
  abbrev Covers : (W : List Desc) (ts : List ℕ) (ds : List Desc) → Type 0
  Covers W ts ds = All (λ (d : Desc). Some (λ (t : ℕ). Some (λ (e : Desc). d ≡ e) (whole space (kept_from t W))) ts) ds

  -- a start that receives d is not above it
  start_low : (W : List Desc) (d : Desc) (t : ℕ) → Some (λ (e : Desc). d ≡ e) (whole space (kept_from t W)) → t ≤ d.number
  unfolding kept_from
  start_low W d t s =
      meet (λ (e : Desc). leb t e.number ≡ true) (λ (e : Desc). d ≡ e) (λ e l q. rw q (leb-true t e.number l)) (whole space (kept_from t W))
      (all_left (λ (e : Desc). leb t e.number ≡ true) (whole space (kept_from t W)) (rest space (kept_from t W))
      (rw (whole_rest space (kept_from t W)) (keep_holds (λ (e : Desc). leb t e.number) W))) s

  -- from a start that is not above d, the first of what is left, a command has nothing that the sweep's command from d on leaves
  early : (front : List Desc) (d : Desc) (ds : List Desc) (x : Desc) (xs : List Desc) → Asc 0 (front ++ d ∷ ds) → rest space (d ∷ ds) ≡ x ∷ xs
      → (t : ℕ) → t ≤ d.number → All (Under x.number) (whole space (kept_from t (front ++ d ∷ ds)))
  unfolding kept_from
  early front d ds x xs a e t l =
      let ys : List Desc = d ∷ ds in
      let from : Desc → Bool = λ (y : Desc). leb t y.number in
      let up : Asc 0 ys = asc_right 0 front ys a in
      let high : All (λ (y : Desc). d.number ≤ y.number) ys = (omega arith, all_map (λ (y : Desc). 1 + d.number ≤ y.number) (λ (y : Desc). d.number ≤ y.number) (λ y h. omega arith) ds (asc_above (1 + d.number) ds up.1)) in
      let first : d.number ≤ x.number = (rw e at (rest_all (λ (y : Desc). d.number ≤ y.number) space ys high)).0 in
      let parts : keep from (front ++ ys) ≡ keep from front ++ ys =
      keep_append from front ys ∙ ap (λ (r : List Desc). keep from front ++ r) (keep_every from ys (all_map (λ (y : Desc). d.number ≤ y.number) (λ (y : Desc). from y ≡ true) (λ y h. le-leb t y.number (omega arith)) ys high)) in
      let before : All (Under x.number) (keep from front) =
      keep_all from (Under x.number) front (all_map (Under d.number) (Under x.number) (λ y h. omega arith) front (asc_under 0 front d ds a)) in
      let own : All (Under x.number) (whole space ys) =
      asc_under 0 (whole space ys) x xs (rw (← e, whole_rest space ys) up) in
      rw parts (whole_behind (Under x.number) space space (keep from front) ys (omega arith) before own)

  abbrev Least : (n : ℕ) → Type 0
  Least n =
      (ts : List ℕ) (front ds : List Desc) → length ts ≤ n → Asc 0 (front ++ ds) → All (Fits space) ds → 0 < length ds → Covers (front ++ ds) ts ds
      → cuts space space ds < length ts

  starts_some : (W : List Desc) (ts : List ℕ) (ds : List Desc) → 0 < length ds → Covers W ts ds → 0 < length ts
  starts_some W ts [] h c = absurd (omega arith)
  starts_some W ts (d ∷ ds) h c = some_length _ ts c.0

  -- the starts above the first of what is left receive what the sweep's command leaves, and are fewer
  step : (n : ℕ) → Least n → Least (suc n)
  step n ih ts front [] l a f h c = absurd (omega arith)
  step n ih ts front (d ∷ ds) l a f h c = go (rest space (d ∷ ds)) refl
    where
      go : (r : List Desc) → rest space (d ∷ ds) ≡ r → cuts space space (d ∷ ds) < length ts
      go [] e = omega (arith, cuts_none (d ∷ ds) f e, some_length _ ts c.0)
      go (x ∷ xs) e =
          let ys : List Desc = d ∷ ds in
          let W : List Desc = front ++ ys in
          let gs : List Desc = whole space ys in
          let late : ℕ → Bool = λ (t : ℕ). ltb d.number t in
          let us : List ℕ = keep late ts in
          let together : (front ++ gs) ++ (x ∷ xs) ≡ W =
          append_assoc front gs (x ∷ xs) ∙ ap (λ (r : List Desc). front ++ (gs ++ r)) (sym e) ∙ ap (λ (r : List Desc). front ++ r) (whole_rest space ys) in
          let fewer : length us < length ts =
          keep_fewer late ts (some_map _ (λ (t : ℕ). late t ≡ false) (λ t s. le-ltb d.number t (start_low W d t s)) ts c.0) in
          let high : All (λ (y : Desc). x.number ≤ y.number) (x ∷ xs) =
          asc_above x.number (x ∷ xs) (omega arith, (asc_right 0 (front ++ gs) (x ∷ xs) (rw together a)).1) in
          let covered : Covers W ts (x ∷ xs) =
          all_right _ gs (x ∷ xs) (rw (← e, whole_rest space ys) c) in
          let onward : Covers W us (x ∷ xs) =
          all_both (λ (y : Desc). x.number ≤ y.number) _ _
          (λ y p q.
          some_keep late _
          (λ t z s. meet (Under x.number) (λ (e' : Desc). y ≡ e') (λ e' u w. absurd (omega (arith, ap (λ (v : Desc). v.number) w))) (whole space (kept_from t W)) (early front d ds x xs a e t (ltb-false d.number t z)) s)
          ts q)
          (x ∷ xs) high covered in
          let more : cuts space space ys ≡ suc (cuts space space (x ∷ xs)) = cuts_more space space ys x xs f e in
          let r : cuts space space (x ∷ xs) < length us =
          ih us (front ++ gs) (x ∷ xs) (omega arith) (rw together a) (rw e at (rest_all (Fits space) space ys f)) (omega arith) (subst (λ (w : List Desc). Covers w us (x ∷ xs)) (sym together) onward) in
          omega arith

  least : (n : ℕ) → Least n
  least zero = λ ts front ds l a f h c. absurd (omega (arith, starts_some (front ++ ds) ts ds h c))
  least (suc n) = step n (least n)

-- ---- the least count, from the sizes alone

fewest_cuts : (space left : ℕ) (ds : List Desc) → fewest_from space left (map size ds) ≡ suc (cuts space left ds)
unfolding fewest_from cuts
fewest_cuts space left [] = refl
fewest_cuts space left (d ∷ ds) = ⊎_elim
    (λ (h : size d ≤ left). rw (cuts_fit space left d ds h, le-leb (size d) left h, fewest_from) (fewest_cuts space (left - size d) ds))
    (λ (h : left < size d). rw (cuts_cut space left d ds h, lt-leb (size d) left h, fewest_from) (omega (arith, fewest_cuts space (space - size d) ds)))
    (le_or_lt (size d) left)

-- ---- a drive that the text can speak of

module _ {m : Drive} (good : Sound m) (rt a : ℕ) (two : rt < 2) (eight : 8 ≤ a) where
  abbrev wanted : List Desc
  wanted = selected rt 0 m

  -- what a command receives whole: as much as fits of what is wanted from its start on
  received_fits : (t : ℕ) → received_from m rt a t ≡ whole (room a) (selected rt t m)
  received_fits t = wholes_sent good rt t a eight (most a) (omega arith) (omega arith)

  received_kept : (t : ℕ) → received_from m rt a t ≡ whole (room a) (kept_from t wanted)
  received_kept t = received_fits t ∙ ap (whole (room a)) (sym (selected_larger m rt two 0 t ∙ ap (λ (n : ℕ). selected rt n m) (omega arith)))

  wanted_some : 0 < length wanted
  wanted_some = omega (arith, ap length (selected_zero rt m))

  -- no list of starts is shorter
  pub list_length : All (HasRoom a) wanted → (starts : List ℕ) → ReceivesAll m rt a starts → cuts (room a) (room a) wanted < length starts
  list_length s starts c =
      least (room a) (length starts) starts [] wanted (omega arith) (selected_asc good rt 0) s wanted_some
      (all_map (ReceivedBy m rt a starts) _ (λ d r. some_map _ _ (λ t q. by (λ (xs : List Desc). Some (λ (e : Desc). d ≡ e) xs) q (sym (received_kept t))) starts r) wanted c)

  -- a descriptor that is too long is received by no list
  pub too_long : (d : Desc) → room a < size d → (starts : List ℕ) → ReceivedBy m rt a starts d → ⊥
  too_long d k starts r =
      some_none _
      (λ t q. meet (Fits (room a)) (λ (e : Desc). d ≡ e) (λ e f w. absurd (omega (arith, ap size w))) (received_from m rt a t) (by (All (Fits (room a))) (whole_fits (room a) (selected rt t m)) (received_fits t)) q)
      starts r

  -- what honest rounds took was received by their starts
  honest_received : (starts : List ℕ) (taken : List (List Desc)) (out : List ℕ) (before f : ℕ) → Honest m rt a out before f starts taken → All (ReceivedBy m rt a starts) (joined taken)
  unfolding joined
  honest_received [] [] out before f h = tt
  honest_received [] (g ∷ gs) out before f h = absurd h
  honest_received (t ∷ ts) [] out before f h = absurd h
  honest_received (t ∷ ts) (g ∷ gs) out before f h =
      all_append (ReceivedBy m rt a (t ∷ ts)) g (joined gs)
      (all_map (λ (d : Desc). Some (λ (e : Desc). d ≡ e) g) (ReceivedBy m rt a (t ∷ ts)) (λ d s. inl (by (λ (xs : List Desc). Some (λ (e : Desc). d ≡ e) xs) s (sym h.1.took))) g (all_self g))
      (all_map (ReceivedBy m rt a ts) (ReceivedBy m rt a (t ∷ ts)) (λ d r. inr r) (joined gs) (honest_received ts gs out _ _ h.2))

  -- and there are as many as the sizes ask for
  abbrev Counted : (starts : List ℕ) (taken : List (List Desc)) → Type 0
  Counted starts taken =
      (out : List ℕ) (before f : ℕ) → Honest m rt a out before f starts taken → All (HasRoom a) (selected rt f m) → length starts ≡ suc (cuts (room a) (room a) (selected rt f m))

  -- the last one leaves nothing
  last_count : (t : ℕ) (g : List Desc) → Counted (t ∷ []) (g ∷ [])
  last_count t g out before f h s = go (rest (room a) (selected rt f m)) refl
    where
      go : (r : List Desc) → rest (room a) (selected rt f m) ≡ r → 1 ≡ suc (cuts (room a) (room a) (selected rt f m))
      go [] e = omega (arith, cuts_none (room a) (selected rt f m) s e)
      go (x ∷ xs) e =
          let c : cut (sent rt f a m) ≡ true = cut_yes good rt a f eight (omega (arith, ap length e)) in
          absurd (true≢false (sym c ∙ ap (λ (n : ℕ). cut (sent rt n a m)) (sym h.0) ∙ h.1.goes))

  -- another one takes what this one leaves
  next_count : (t u : ℕ) (ts : List ℕ) (g : List Desc) (gs : List (List Desc)) → Counted (u ∷ ts) gs → Counted (t ∷ u ∷ ts) (g ∷ gs)
  next_count t u ts g gs ih out before f h s = go (rest (room a) (selected rt f m)) refl
    where
      go : (r : List Desc) → rest (room a) (selected rt f m) ≡ r → suc (length (u ∷ ts)) ≡ suc (cuts (room a) (room a) (selected rt f m))
      go [] e =
          let c : cut (sent rt f a m) ≡ false = cut_none good rt a f eight e in
          absurd (false≢true (sym c ∙ ap (λ (n : ℕ). cut (sent rt n a m)) (sym h.0) ∙ h.1.goes ∙ lt-ltb 0 (length (u ∷ ts)) (omega arith)))
      go (x ∷ xs) e =
          let took : g ≡ whole (room a) (selected rt f m) = h.1.took ∙ received_fits t ∙ ap (λ (n : ℕ). whole (room a) (selected rt n m)) h.0 in
          let some : 0 < length (whole (room a) (selected rt f m)) = whole_some (room a) (selected rt f m) s (omega (arith, ap length e)) in
          let next : selected rt (last_number g + 1) m ≡ x ∷ xs =
          ap (λ (r : List Desc). selected rt (last_number r + 1) m) took ∙ selected_next good rt (room a) f some two ∙ e in
          let left : All (HasRoom a) (x ∷ xs) = rw e at (rest_all (HasRoom a) (room a) (selected rt f m) s) in
          let n : length (u ∷ ts) ≡ suc (cuts (room a) (room a) (selected rt (last_number g + 1) m)) = ih out _ (last_number g + 1) h.2 (rw next left) in
          omega (arith, ap (cuts (room a) (room a)) next, cuts_more (room a) (room a) (selected rt f m) x xs s e)

  honest_count : (t : ℕ) (ts : List ℕ) (taken : List (List Desc)) → Counted (t ∷ ts) taken
  honest_count t ts [] out before f h s = absurd h
  honest_count t [] (g ∷ []) out before f h s = last_count t g out before f h s
  honest_count t [] (g ∷ k ∷ gs) out before f h s = absurd h.2
  honest_count t (u ∷ ts) (g ∷ gs) out before f h s = next_count t u ts g gs (honest_count u ts gs) out before f h s

  module _ {b : Buffers} {o : Ending} (p : Premises m rt a b) (s : Swept m rt a b o) where
    -- there is a start
    starts_count : (starts : List ℕ) (taken : List (List Desc)) (out : List ℕ) → Honest m rt a out 0 0 starts taken → joined taken ≡ wanted → length starts ≡ suc (cuts (room a) (room a) wanted)
    unfolding joined
    starts_count [] [] out h j = absurd (omega (arith, ap length j, wanted_some))
    starts_count [] (g ∷ gs) out h j = absurd h
    starts_count (t ∷ ts) taken out h j = honest_count t ts taken out 0 0 h p.small

    commands_cuts : o.reply.commands ≡ suc (cuts (room a) (room a) wanted)
    commands_cuts = s.commands ∙ starts_count s.asked s.taken o.buffers.collected s.honest s.once

    cuts_few : cuts (room a) (room a) wanted < 65536
    cuts_few =
        let d : Desc = feature0 m.profiles in
        let ds : List Desc = keep (wants rt 0) m.features in
        let e : wanted ≡ d ∷ ds = selected_zero rt m in
        let f : All (HasRoom a) (d ∷ ds) = rw e at p.small in
        omega (arith, ap (cuts (room a) (room a)) e, cuts_fit (room a) (room a) d ds f.0, cuts_length (room a) (room a - size d) ds, ap length e, selected_count good rt 0)

    own_starts : take o.reply.commands o.buffers.starts ≡ s.asked
    own_starts = rw (s.commands, s.noted) (take-append_seam s.asked (drop (length s.asked) b.starts))

    pub fewest_commands : Fewest m rt a o
    fewest_commands = record {
      shortest = λ starts c. omega (arith, commands_cuts, list_length p.small starts c);
      own = rw own_starts (by (All (ReceivedBy m rt a s.asked)) (honest_received s.asked s.taken o.buffers.collected 0 0 s.honest) (sym s.once));
      count = commands_cuts ∙ sym (fewest_cuts (room a) (room a) wanted);
      rounds = commands_cuts ∙ sym (packed (room a) 65536 wanted p.small cuts_few).count;
    }
