-- What holds of lists made from indices and from pieces. Assumes nothing.
use mathlib.Core.Path.{◌≡◌, refl, sym, ap, ◌∙◌}
use mathlib.Core.Bool.{Bool, true, false, ◌&&◌, true≢false, and_comm}
use mathlib.Core.List.{List, [], ◌∷◌, ◌++◌, append_assoc, append-nil}
use Prim.Native.Nat.{ℕ, zero, suc, ◌+◌, ◌*◌, ◌≤◌, ◌<◌, ◌-◌}
use native.Mathlib.Nat.{zero-add, add-zero, suc-add, add-suc}
use native.Mathlib.Numerals.{add-one}
use native.Mathlib.Omega.{arith}
use lib.ListN.{length, take, drop, get_or, length-append, take-append-drop, length-take}
use lib.Seq.{get_or-drop, take-suc, take-add, drop-cons, drop-drop, drop_at, drop-append-le, drop-append_seam, ext_get_or, take-take, take-append-add}
use Rattle.base.specs.Lists.{each, flat, keep, All, Bytes}

-- ---- bytes

pub bytes_one : (b : ℕ) → b < 256 → Bytes (b ∷ [])
bytes_one b h zero = h
bytes_one b h (suc i) = omega arith

pub bytes_append : (xs ys : List ℕ) → Bytes xs → Bytes ys → Bytes (xs ++ ys)
bytes_append [] ys h k i = k i
bytes_append (x ∷ xs) ys h k zero = h 0
bytes_append (x ∷ xs) ys h k (suc i) = bytes_append xs ys (λ j. h (suc j)) k i

pub bytes_drop : (n : ℕ) (s : List ℕ) → Bytes s → Bytes (drop n s)
bytes_drop n s h i = rw get_or-drop (h (n + i))

pub bytes_take : (n : ℕ) (s : List ℕ) → Bytes s → Bytes (take n s)
bytes_take zero s h i = omega arith
bytes_take (suc n) [] h i = omega arith
bytes_take (suc n) (x ∷ xs) h zero = h 0
bytes_take (suc n) (x ∷ xs) h (suc i) = bytes_take n xs (λ j. h (suc j)) i

-- ---- each

pub length_each : {A : Type 0} (f : ℕ → A) (i k : ℕ) → length (each f i k) ≡ k
unfolding each
length_each f i zero = refl
length_each f i (suc k) = ap suc (length_each f (suc i) k)

pub get_d_each : {A : Type 0} (f : ℕ → A) (d : A) (i k j : ℕ) → j < k → get_or (each f i k) j d ≡ f (i + j)
unfolding each
get_d_each f d i zero j h = absurd (omega arith)
get_d_each f d i (suc k) zero h = ap f (omega arith)
get_d_each f d i (suc k) (suc j) h = get_d_each f d (suc i) k j (omega arith) ∙ ap f (omega arith)

pub each_all : {A : Type 0} (P : A → Type 0) (f : ℕ → A) (i k : ℕ) → ((j : ℕ) → i ≤ j → j < i + k → P (f j)) → All P (each f i k)
unfolding each
each_all P f i zero h = tt
each_all P f i (suc k) h = (h i (omega arith) (omega arith), each_all P f (suc i) k (λ j l m. h j (omega arith) (omega arith)))

-- ---- pieces

pub flat_append : {A : Type 0} (f : A → List ℕ) (xs ys : List A) → flat f (xs ++ ys) ≡ flat f xs ++ flat f ys
unfolding flat
flat_append f [] ys = refl
flat_append f (x ∷ xs) ys = ap (λ (r : List ℕ). f x ++ r) (flat_append f xs ys) ∙ sym (append_assoc (f x) (flat f xs) (flat f ys))

-- every piece has n bytes
pub length_flat : {A : Type 0} (f : A → List ℕ) (n : ℕ) → ((x : A) → length (f x) ≡ n) → (xs : List A) → length (flat f xs) ≡ n * length xs
unfolding flat
length_flat f n h [] = omega arith
length_flat f n h (x ∷ xs) = omega (arith, length-append (f x) (flat f xs), h x, length_flat f n h xs)

pub bytes_flat : {A : Type 0} (f : A → List ℕ) (xs : List A) → All (λ (x : A). Bytes (f x)) xs → Bytes (flat f xs)
unfolding flat
bytes_flat f [] h i = omega arith
bytes_flat f (x ∷ xs) h i = bytes_append (f x) (flat f xs) h.0 (bytes_flat f xs h.1) i

-- ---- P of each element

pub all_of : {A : Type 0} (P : A → Type 0) → ((x : A) → P x) → (xs : List A) → All P xs
all_of P h [] = tt
all_of P h (x ∷ xs) = (h x, all_of P h xs)

pub all_map : {A : Type 0} (P Q : A → Type 0) → ((x : A) → P x → Q x) → (xs : List A) → All P xs → All Q xs
all_map P Q h [] a = tt
all_map P Q h (x ∷ xs) a = (h x a.0, all_map P Q h xs a.1)

pub all_append : {A : Type 0} (P : A → Type 0) (xs ys : List A) → All P xs → All P ys → All P (xs ++ ys)
all_append P [] ys a b = b
all_append P (x ∷ xs) ys a b = (a.0, all_append P xs ys a.1 b)

pub all_right : {A : Type 0} (P : A → Type 0) (xs ys : List A) → All P (xs ++ ys) → All P ys
all_right P [] ys a = a
all_right P (x ∷ xs) ys a = all_right P xs ys a.1

-- ---- the elements that pass a test

module _ {A : Type 0} (t : A → Bool) where
  pub keep_yes : (x : A) (xs : List A) → t x ≡ true → keep t (x ∷ xs) ≡ x ∷ keep t xs
  unfolding keep
  keep_yes x xs e = rw (e, keep)

  pub keep_no : (x : A) (xs : List A) → t x ≡ false → keep t (x ∷ xs) ≡ keep t xs
  unfolding keep
  keep_no x xs e = rw (e, keep)

  -- what holds of a list and its kept elements, by induction
  pub keep_induct : (P : List A → List A → Type 0)
      → P [] []
      → ((x : A) (xs ks : List A) → t x ≡ true → P xs ks → P (x ∷ xs) (x ∷ ks))
      → ((x : A) (xs ks : List A) → t x ≡ false → P xs ks → P (x ∷ xs) ks)
      → (xs : List A) → P xs (keep t xs)
  unfolding keep
  keep_induct P none kept left [] = none
  keep_induct P none kept left (x ∷ xs) = go (t x) refl (keep_induct P none kept left xs)
    where
      go : (b : Bool) → t x ≡ b → P xs (keep t xs) → P (x ∷ xs) (keep t (x ∷ xs))
      go true e h = rw (keep_yes x xs e) (kept x xs (keep t xs) e h)
      go false e h = rw (keep_no x xs e) (left x xs (keep t xs) e h)

  pub keep_append : (xs ys : List A) → keep t (xs ++ ys) ≡ keep t xs ++ keep t ys
  unfolding keep
  keep_append xs ys = keep_induct (λ xs ks. keep t (xs ++ ys) ≡ ks ++ keep t ys)
      refl
      (λ x xs ks e h. keep_yes x (xs ++ ys) e ∙ ap (λ (r : List A). x ∷ r) h)
      (λ x xs ks e h. keep_no x (xs ++ ys) e ∙ h)
      xs

  pub keep_all : (P : A → Type 0) (xs : List A) → All P xs → All P (keep t xs)
  keep_all P = keep_induct (λ xs ks. All P xs → All P ks)
      (λ a. tt)
      (λ x xs ks e h a. (a.0, h a.1))
      (λ x xs ks e h a. h a.1)

  pub keep_holds : (xs : List A) → All (λ (x : A). t x ≡ true) (keep t xs)
  keep_holds = keep_induct (λ xs ks. All (λ (x : A). t x ≡ true) ks) tt (λ x xs ks e h. (e, h)) (λ x xs ks e h. h)

  pub keep_none : (xs : List A) → All (λ (x : A). t x ≡ false) xs → keep t xs ≡ []
  keep_none = keep_induct (λ xs ks. All (λ (x : A). t x ≡ false) xs → ks ≡ [])
      (λ a. refl)
      (λ x xs ks e h a. absurd (true≢false (sym e ∙ a.0)))
      (λ x xs ks e h a. h a.1)

  pub keep_every : (xs : List A) → All (λ (x : A). t x ≡ true) xs → keep t xs ≡ xs
  keep_every = keep_induct (λ xs ks. All (λ (x : A). t x ≡ true) xs → ks ≡ xs)
      (λ a. refl)
      (λ x xs ks e h a. ap (λ (r : List A). x ∷ r) (h a.1))
      (λ x xs ks e h a. absurd (true≢false (sym a.0 ∙ e)))

  pub length_keep : (xs : List A) → length (keep t xs) ≤ length xs
  length_keep = keep_induct (λ xs ks. length ks ≤ length xs) (omega arith) (λ x xs ks e h. omega arith) (λ x xs ks e h. omega arith)

-- two tests that agree on a list keep the same of it
pub keep_same : {A : Type 0} (t u : A → Bool) (xs : List A) → All (λ (x : A). u x ≡ t x) xs → keep t xs ≡ keep u xs
unfolding keep
keep_same t u = keep_induct t (λ xs ks. All (λ x. u x ≡ t x) xs → ks ≡ keep u xs)
    (λ a. refl)
    (λ x xs ks e h a. ap (λ r. x ∷ r) (h a.1) ∙ sym (keep_yes u x xs (a.0 ∙ e)))
    (λ x xs ks e h a. h a.1 ∙ sym (keep_no u x xs (a.0 ∙ e)))

-- keeping of what was kept
pub keep_keep : {A : Type 0} (t u : A → Bool) (xs : List A) → keep t (keep u xs) ≡ keep (λ (x : A). u x && t x) xs
unfolding keep
keep_keep t u = keep_induct u (λ xs ks. keep t ks ≡ keep (λ x. u x && t x) xs)
    refl
    (λ x xs ks e h. rw (e, keep) (ap (λ r. elim (t x) [ true ↦ x ∷ r | false ↦ r ]) h))
    (λ x xs ks e h. rw (e, keep) h)

pub keep_both : {A : Type 0} (t u r : A → Bool) → ((x : A) → r x ≡ (u x && t x)) → (xs : List A) → keep t (keep u xs) ≡ keep r xs
keep_both t u r h xs = keep_keep t u xs ∙ keep_same (λ x. u x && t x) r xs (all_of (λ x. r x ≡ (u x && t x)) h xs)

pub keep_comm : {A : Type 0} (t u : A → Bool) (xs : List A) → keep t (keep u xs) ≡ keep u (keep t xs)
keep_comm t u xs = keep_both t u (λ x. t x && u x) (λ x. and_comm (t x) (u x)) xs ∙ sym (keep_keep u t xs)

-- ---- the front of a list

pub take_prefix : {A : Type 0} (n : ℕ) (xs : List A) → take n xs ≡ take (length (take n xs)) xs
take_prefix zero xs = refl
take_prefix (suc n) [] = refl
take_prefix (suc n) (x ∷ xs) = ap (λ r. x ∷ r) (take_prefix n xs)

-- ---- P of each element, by index

pub all_get_d : {A : Type 0} (P : A → Type 0) (xs : List A) (z : A) → All P xs → (i : ℕ) → i < length xs → P (get_or xs i z)
all_get_d P [] z h i l = absurd (omega arith)
all_get_d P (x ∷ xs) z h zero l = h.0
all_get_d P (x ∷ xs) z h (suc i) l = all_get_d P xs z h.1 i (omega arith)

-- a list is made from its indices
pub each_get_d : {A : Type 0} (f : ℕ → A) (xs : List A) (z : A) (k : ℕ) → length xs ≡ k → ((i : ℕ) → i < k → f i ≡ get_or xs i z) → each f 0 k ≡ xs
each_get_d f xs z k e h =
    ext_get_or z (each f 0 k) xs (length_each f 0 k ∙ sym e)
    (λ i l.
    let m : i < k = omega (arith, length_each f 0 k) in
    get_d_each f z 0 k i m ∙ ap f (zero-add i) ∙ h i m)

-- ---- a list of pieces, cut before piece i

pub flat_cut : {A : Type 0} (f : A → List ℕ) (i : ℕ) (xs : List A) → flat f xs ≡ flat f (take i xs) ++ flat f (drop i xs)
flat_cut f i xs = ap (flat f) (sym (take-append-drop i xs)) ∙ flat_append f (take i xs) (drop i xs)

pub flat_take_suc : {A : Type 0} (f : A → List ℕ) (xs : List A) (z : A) (i : ℕ) → i < length xs → flat f (take (suc i) xs) ≡ flat f (take i xs) ++ f (get_or xs i z)
unfolding flat
flat_take_suc f xs z i l = rw (take-suc xs i z l, flat_append f, flat, append-nil)

-- piece i stands behind those before it
pub drop_flat : {A : Type 0} (f : A → List ℕ) (xs : List A) (z : A) (i : ℕ) → i < length xs
    → drop (length (flat f (take i xs))) (flat f xs) ≡ f (get_or xs i z) ++ flat f (drop (suc i) xs)
unfolding flat
drop_flat f xs z i l =
    ap (drop (length (flat f (take i xs)))) (flat_cut f i xs)
    ∙ drop-append_seam (flat f (take i xs)) (flat f (drop i xs))
    ∙ ap (flat f) (drop-cons xs i z l)

pub length_flat_le : {A : Type 0} (f : A → List ℕ) (w : ℕ) (xs : List A) → All (λ (x : A). length (f x) ≤ w) xs → length (flat f xs) ≤ w * length xs
unfolding flat
length_flat_le f w [] h = omega arith
length_flat_le f w (x ∷ xs) h = omega (arith, length-append (f x) (flat f xs), h.0, length_flat_le f w xs h.1)

-- ---- a part of a list that starts at an index

-- what stands behind a piece
pub drop_behind : (s : List ℕ) (at : ℕ) (x rest : List ℕ) (n : ℕ) → drop at s ≡ x ++ rest → length x ≡ n → drop (at + n) s ≡ rest
drop_behind s at x rest n e l = sym (drop-drop n at s) ∙ ap (drop n) e ∙ drop_at x rest n l

-- a piece inside a piece
pub drop_inside : (s : List ℕ) (at : ℕ) (xs ys : List ℕ) (n : ℕ) (x rest : List ℕ)
    → drop at s ≡ xs ++ ys → n ≤ length xs → drop n xs ≡ x ++ rest → drop (at + n) s ≡ x ++ (rest ++ ys)
drop_inside s at xs ys n x rest e l f =
    sym (drop-drop n at s) ∙ ap (drop n) e ∙ drop-append-le n xs ys l ∙ ap (λ (r : List ℕ). r ++ ys) f ∙ append_assoc x rest ys

-- the first two elements
pub take_two : (s : List ℕ) (at : ℕ) → at + 2 ≤ length s → get_or s at 0 ∷ get_or s (at + 1) 0 ∷ [] ≡ take 2 (drop at s)
take_two s at l =
    let h : at < length s = omega arith in
    let k : suc at < length s = omega arith in
    rw (add-one, drop-cons s at 0 h, drop-cons s (suc at) 0 k)

-- k more behind the first n
pub take_more : (s : List ℕ) (at n k : ℕ) → take n (drop at s) ++ take k (drop (at + n) s) ≡ take (n + k) (drop at s)
take_more s at n k = rw (take-add n k (drop at s), drop-drop n at s)

-- the first of a row of pieces of width w, and k more of them
pub take_row : (s : List ℕ) (at w i k : ℕ) → take w (drop (at + w * i) s) ++ take (w * k) (drop (at + w * suc i) s) ≡ take (w * suc k) (drop (at + w * i) s)
take_row s at w i k =
    let e : at + w * suc i ≡ at + w * i + w = omega arith in
    let f : w * suc k ≡ w + w * k = omega arith in
    rw (e, f) (take_more s (at + w * i) w (w * k))

-- a front that reaches into the second list
pub take_append_ge : {A : Type 0} (n : ℕ) (xs ys : List A) → length xs ≤ n → take n (xs ++ ys) ≡ xs ++ take (n - length xs) ys
take_append_ge n xs ys h = ap (λ (k : ℕ). take k (xs ++ ys)) {x = n} {y = length xs + (n - length xs)} (omega arith) ∙ take-append-add xs ys (n - length xs)

-- a part that lies inside a front
pub part_take : {A : Type 0} (l at n : ℕ) (s : List A) → at + l ≤ n → take l (drop at (take n s)) ≡ take l (drop at s)
part_take l zero n s h = take-take l n s (omega arith)
part_take l (suc at) zero s h = absurd (omega arith)
part_take l (suc at) (suc n) [] h = refl
part_take l (suc at) (suc n) (x ∷ s) h = part_take l at n s (omega arith)

-- what stands behind a front
pub front_rest : {A : Type 0} (xs ys : List A) → xs ≡ take (length xs) ys → ys ≡ xs ++ drop (length xs) ys
front_rest xs ys e = sym (take-append-drop (length xs) ys) ∙ ap (λ r. r ++ drop (length xs) ys) (sym e)

pub front_count : {A : Type 0} (xs ys : List A) → xs ≡ take (length xs) ys → length xs ≤ length ys
front_count xs ys e = omega (arith, ap length e, length-take (length xs) ys)

-- ---- indices in two parts

pub each_add : {A : Type 0} (f : ℕ → A) (i j k : ℕ) → each f i (j + k) ≡ each f i j ++ each f (i + j) k
unfolding each
each_add f i zero k = rw (zero-add, add-zero)
each_add f i (suc j) k = rw (suc-add, each, each_add f (suc i) j k, suc-add, add-suc)

pub each_snoc : {A : Type 0} (f : ℕ → A) (i k : ℕ) → each f i (suc k) ≡ each f i k ++ (f (i + k) ∷ [])
unfolding each
each_snoc f i k = ap (each f i) (sym (add-one k)) ∙ each_add f i k 1

pub each_cut : {A : Type 0} (f : ℕ → A) (j n : ℕ) → j ≤ n → each f 0 n ≡ each f 0 j ++ each f j (n - j)
each_cut f j n l =
    let e : n ≡ j + (n - j) = omega arith in
    ap (each f 0) e ∙ each_add f 0 j (n - j) ∙ rw zero-add

-- a test that fails before and behind a range keeps what another keeps of the range, if they agree there
pub keep_range : {A : Type 0} (t u : A → Bool) (f : ℕ → A) (from to n : ℕ) → from ≤ to → to ≤ n
    → ((j : ℕ) → j < from → t (f j) ≡ false)
    → ((j : ℕ) → from ≤ j → j < to → t (f j) ≡ u (f j))
    → ((j : ℕ) → to ≤ j → j < n → t (f j) ≡ false)
    → keep t (each f 0 n) ≡ keep u (each f from (to - from))
keep_range t u f from to n l m before inside behind =
    let x : keep t (each f 0 from) ≡ [] =
    keep_none t (each f 0 from) (each_all (λ a. t a ≡ false) f 0 from (λ j h k. before j (omega arith))) in
    let y : keep u (each f from (to - from)) ≡ keep t (each f from (to - from)) =
    keep_same u t (each f from (to - from)) (each_all (λ a. t a ≡ u a) f from (to - from) (λ j h k. inside j h (omega arith))) in
    let z : keep t (each f to (n - to)) ≡ [] =
    keep_none t (each f to (n - to)) (each_all (λ a. t a ≡ false) f to (n - to) (λ j h k. behind j h (omega arith))) in
    rw (each_cut f to n m, each_cut f from to l, keep_append, keep_append, x, z, append-nil) (sym y)

-- what agrees at each index agrees in all
pub each_same : {A : Type 0} (f g : ℕ → A) (i k : ℕ) → ((j : ℕ) → i ≤ j → j < i + k → f j ≡ g j) → each f i k ≡ each g i k
unfolding each
each_same f g i zero h = refl
each_same f g i (suc k) h =
    λ z. h i (omega arith) (omega arith) z ∷ each_same f g (suc i) k (λ j l m. h j (omega arith) (omega arith)) z
