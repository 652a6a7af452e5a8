-- How descriptors fill responses: all of them, in order, in few rounds. Assumes nothing.
use mathlib.Core.Path.{◌≡◌, refl, sym, ap, ◌∙◌}
use mathlib.Core.Logic.{⊎_elim}
use mathlib.Core.List.{List, [], ◌∷◌, ◌++◌, append-nil, cons≢nil, nil≢cons}
use Prim.Native.Nat.{ℕ, zero, suc, ◌+◌, ◌-◌, ◌*◌, ◌≤◌, ◌<◌}
use native.Mathlib.Omega.{arith}
use lib.ListN.{length, length-append}
use borrow.Author.Tests.{le-leb, lt-leb}
use Rattle.base.specs.Lists.{flat, All}
use Rattle.base.proofs.Lists.{all_append, all_right}
use Rattle.text.specs.Drive.{Desc}
use Rattle.text.specs.Response.{bytes}
use Rattle.text.specs.Packing.{size, total, whole, rest, groups, joined, cuts}
use Rattle.base.proofs.Compare.{le_or_lt}
use Rattle.text.proofs.Sizes.{length_bytes}

-- ---- sizes

pub length_flat_bytes : (ds : List Desc) → length (flat bytes ds) ≡ total ds
unfolding flat total
length_flat_bytes [] = refl
length_flat_bytes (d ∷ ds) = omega (arith, length-append (bytes d) (flat bytes ds), length_bytes d, length_flat_bytes ds)

pub total_append : (xs ys : List Desc) → total (xs ++ ys) ≡ total xs + total ys
unfolding total
total_append [] ys = omega arith
total_append (x ∷ xs) ys = omega (arith, total_append xs ys)

-- ---- the longest front that fits, and what it leaves

module _ (room : ℕ) (d : Desc) (ds : List Desc) where
  pub whole_fit : size d ≤ room → whole room (d ∷ ds) ≡ d ∷ whole (room - size d) ds
  unfolding whole
  whole_fit h = rw (le-leb (size d) room h, whole)

  pub rest_fit : size d ≤ room → rest room (d ∷ ds) ≡ rest (room - size d) ds
  unfolding rest
  rest_fit h = rw (le-leb (size d) room h, rest)

  pub whole_cut : room < size d → whole room (d ∷ ds) ≡ []
  unfolding whole
  whole_cut h = rw (lt-leb (size d) room h, whole)

  pub rest_cut : room < size d → rest room (d ∷ ds) ≡ d ∷ ds
  unfolding rest
  rest_cut h = rw (lt-leb (size d) room h, rest)

-- what holds of a list, what fits of it and what is left, by induction
pub whole_induct : (P : (room : ℕ) (ds ws rs : List Desc) → Type 0)
    → ((room : ℕ) → P room [] [] [])
    → ((room : ℕ) (d : Desc) (ds ws rs : List Desc) → size d ≤ room → P (room - size d) ds ws rs → P room (d ∷ ds) (d ∷ ws) rs)
    → ((room : ℕ) (d : Desc) (ds : List Desc) → room < size d → P room (d ∷ ds) [] (d ∷ ds))
    → (room : ℕ) (ds : List Desc) → P room ds (whole room ds) (rest room ds)
unfolding whole rest
whole_induct P none fit cut room [] = none room
whole_induct P none fit cut room (d ∷ ds) = ⊎_elim
    (λ (h : size d ≤ room). rw (whole_fit room d ds h, rest_fit room d ds h) (fit room d ds (whole (room - size d) ds) (rest (room - size d) ds) h (whole_induct P none fit cut (room - size d) ds)))
    (λ (h : room < size d). rw (whole_cut room d ds h, rest_cut room d ds h) (cut room d ds h))
    (le_or_lt (size d) room)

pub whole_rest : (room : ℕ) (ds : List Desc) → whole room ds ++ rest room ds ≡ ds
whole_rest = whole_induct (λ room ds ws rs. ws ++ rs ≡ ds) (λ room. refl) (λ room d ds ws rs h e. ap (λ (r : List Desc). d ∷ r) e) (λ room d ds h. refl)

pub whole_total : (room : ℕ) (ds : List Desc) → total (whole room ds) ≤ room
unfolding total
whole_total = whole_induct (λ room ds ws rs. total ws ≤ room) (λ room. omega arith) (λ room d ds ws rs h e. omega arith) (λ room d ds h. omega arith)

pub total_parts : (room : ℕ) (ds : List Desc) → total ds ≡ total (whole room ds) + total (rest room ds)
total_parts room ds = ap total (sym (whole_rest room ds)) ∙ total_append (whole room ds) (rest room ds)

pub rest_all : (P : Desc → Type 0) (room : ℕ) (ds : List Desc) → All P ds → All P (rest room ds)
rest_all P room ds a = all_right P (whole room ds) (rest room ds) (rw (whole_rest room ds) a)

-- nothing is left exactly if all fits
pub rest_none : (room : ℕ) (ds : List Desc) → total ds ≤ room → rest room ds ≡ []
unfolding total
rest_none = whole_induct (λ room ds ws rs. total ds ≤ room → rs ≡ [])
    (λ room l. refl)
    (λ room d ds ws rs h e l. e (omega arith))
    (λ room d ds h l. absurd (omega arith))

pub rest_fits : (room : ℕ) (ds : List Desc) → rest room ds ≡ [] → total ds ≤ room
unfolding total
rest_fits room ds e = omega (arith, total_parts room ds, ap total e, whole_total room ds)

pub rest_some : (room : ℕ) (ds : List Desc) → room < total ds → 0 < length (rest room ds)
unfolding total
rest_some = whole_induct (λ room ds ws rs. room < total ds → 0 < length rs)
    (λ room l. absurd (omega arith))
    (λ room d ds ws rs h e l. e (omega arith))
    (λ room d ds h l. omega arith)

pub whole_every : (room : ℕ) (ds : List Desc) → total ds ≤ room → whole room ds ≡ ds
whole_every room ds h = sym (append-nil (whole room ds)) ∙ ap (λ (r : List Desc). whole room ds ++ r) (sym (rest_none room ds h)) ∙ whole_rest room ds

-- ---- rounds

module _ (room : ℕ) where
  -- each fits into a round of its own
  abbrev pub Fits : Desc → Type 0
  Fits d = size d ≤ room

  -- a round that leaves something takes something
  pub whole_some : (ds : List Desc) → All Fits ds → 0 < length (rest room ds) → 0 < length (whole room ds)
  unfolding rest
  whole_some [] a h = absurd (omega arith)
  whole_some (d ∷ ds) a h = rw (whole_fit room d ds a.0) (omega arith)

  pub groups_last : (n : ℕ) (ds : List Desc) → rest room ds ≡ [] → groups room (suc n) ds ≡ whole room ds ∷ []
  unfolding groups
  groups_last n ds e = rw (e, groups)

  pub groups_more : (n : ℕ) (ds : List Desc) (x : Desc) (xs : List Desc) → rest room ds ≡ x ∷ xs → groups room (suc n) ds ≡ whole room ds ∷ groups room n (x ∷ xs)
  unfolding groups
  groups_more n ds x xs e = rw (e, groups)

  pub cuts_fit : (left : ℕ) (d : Desc) (ds : List Desc) → size d ≤ left → cuts room left (d ∷ ds) ≡ cuts room (left - size d) ds
  unfolding cuts
  cuts_fit left d ds h = rw (le-leb (size d) left h, cuts)

  pub cuts_cut : (left : ℕ) (d : Desc) (ds : List Desc) → left < size d → cuts room left (d ∷ ds) ≡ suc (cuts room (room - size d) ds)
  unfolding cuts
  cuts_cut left d ds h = rw (lt-leb (size d) left h, cuts)

  -- ---- how many

  -- with u > 0 bytes in this round already
  bound_from : (u left : ℕ) (ds : List Desc) → All Fits ds → u + left ≡ room → 0 < u → cuts room left ds * room < 2 * total ds + u
  unfolding cuts total
  bound_from u left [] a e p = omega arith
  bound_from u left (d ∷ ds) a e p = ⊎_elim
      (λ (h : size d ≤ left). rw (cuts_fit left d ds h) (let ih = bound_from (u + size d) (left - size d) ds a.1 (omega arith) (omega arith) in omega arith))
      (λ (h : left < size d). rw (cuts_cut left d ds h) (let ih = bound_from (size d) (room - size d) ds a.1 (omega arith) (omega arith) in omega arith))
      (le_or_lt (size d) left)

  pub cuts_bound : (d : Desc) (ds : List Desc) → All Fits (d ∷ ds) → cuts room room (d ∷ ds) * room < 2 * total (d ∷ ds)
  unfolding total
  cuts_bound d ds a = rw (cuts_fit room d ds a.0) (omega (arith, bound_from (size d) (room - size d) ds a.1 (omega arith) (omega arith)))

  pub cuts_length : (left : ℕ) (ds : List Desc) → cuts room left ds ≤ length ds
  unfolding cuts
  cuts_length left [] = omega arith
  cuts_length left (d ∷ ds) = ⊎_elim
      (λ (h : size d ≤ left). rw (cuts_fit left d ds h) (omega (arith, cuts_length (left - size d) ds)))
      (λ (h : left < size d). rw (cuts_cut left d ds h) (omega (arith, cuts_length (room - size d) ds)))
      (le_or_lt (size d) left)

  cuts_last : (left : ℕ) (ds : List Desc) → rest left ds ≡ [] → cuts room left ds ≡ 0
  unfolding cuts
  cuts_last left [] e = refl
  cuts_last left (d ∷ ds) e = ⊎_elim
      (λ (h : size d ≤ left). cuts_fit left d ds h ∙ cuts_last (left - size d) ds (sym (rest_fit left d ds h) ∙ e))
      (λ (h : left < size d). absurd (cons≢nil (sym (rest_cut left d ds h) ∙ e)))
      (le_or_lt (size d) left)

  pub cuts_more : (left : ℕ) (ds : List Desc) (x : Desc) (xs : List Desc) → All Fits ds → rest left ds ≡ x ∷ xs → cuts room left ds ≡ suc (cuts room room (x ∷ xs))
  unfolding rest
  cuts_more left [] x xs a e = absurd (nil≢cons e)
  cuts_more left (d ∷ ds) x xs a e = ⊎_elim
      (λ (h : size d ≤ left). cuts_fit left d ds h ∙ cuts_more (left - size d) ds x xs a.1 (sym (rest_fit left d ds h) ∙ e))
      (λ (h : left < size d). cuts_cut left d ds h ∙ ap suc (sym (cuts_fit room d ds a.0) ∙ ap (cuts room room) (sym (rest_cut left d ds h) ∙ e)))
      (le_or_lt (size d) left)

  -- ---- what they take

  -- with rounds enough they take all, and are one more than the cuts
  pub record Packed (n : ℕ) (ds : List Desc) : Type 0 where
    pub all : joined (groups room n ds) ≡ ds
    pub count : length (groups room n ds) ≡ suc (cuts room room ds)

  pub packed : (n : ℕ) (ds : List Desc) → All Fits ds → cuts room room ds < n → Packed n ds
  unfolding joined
  packed zero ds a h = absurd (omega arith)
  packed (suc n) ds a h = go (rest room ds) refl (λ r b l. packed n r b l)
    where
      go : (r : List Desc) → rest room ds ≡ r → ((r : List Desc) → All Fits r → cuts room room r < n → Packed n r) → Packed (suc n) ds
      go [] e ih = record {
        all = rw (groups_last n ds e) (ap (λ (r : List Desc). whole room ds ++ r) (sym e) ∙ whole_rest room ds);
        count = rw (groups_last n ds e, cuts_last room ds e);
      }
      go (x ∷ xs) e ih =
          let m : cuts room room ds ≡ suc (cuts room room (x ∷ xs)) = cuts_more room ds x xs a e in
          let r : Packed n (x ∷ xs) = ih (x ∷ xs) (rw e at (rest_all Fits room ds a)) (omega arith) in
          record {
            all = rw (groups_more n ds x xs e) (ap (λ (r : List Desc). whole room ds ++ r) (r.all ∙ sym e) ∙ whole_rest room ds);
            count = rw (groups_more n ds x xs e, m) (ap suc r.count);
          }

  -- n rounds for n descriptors are enough: they take all, in order, and k rounds with D bytes are so few that (k - 1) * room < 2 * D
  pub packing : (n : ℕ) (d : Desc) (ds : List Desc) → All Fits (d ∷ ds) → length (d ∷ ds) ≤ n
      → (joined (groups room n (d ∷ ds)) ≡ d ∷ ds) × ((length (groups room n (d ∷ ds)) - 1) * room < 2 * total (d ∷ ds))
  packing n d ds a h =
      let c : cuts room room (d ∷ ds) ≡ cuts room (room - size d) ds = cuts_fit room d ds a.0 in
      let r : Packed n (d ∷ ds) = packed n (d ∷ ds) a (omega (arith, cuts_length (room - size d) ds)) in
      let k : length (groups room n (d ∷ ds)) - 1 ≡ cuts room room (d ∷ ds) = omega (arith, r.count) in
      (r.all, rw k (cuts_bound d ds a))

-- ---- what rounds take fits

total_each : (room : ℕ) (ds : List Desc) → total ds ≤ room → All (Fits room) ds
unfolding total
total_each room [] h = tt
total_each room (d ∷ ds) h = (omega arith, total_each room ds (omega arith))

pub whole_fits : (room : ℕ) (ds : List Desc) → All (Fits room) (whole room ds)
whole_fits room ds = total_each room (whole room ds) (whole_total room ds)

-- where nothing fits the first does not
pub whole_none : (room : ℕ) (d : Desc) (ds : List Desc) → whole room (d ∷ ds) ≡ [] → room < size d
whole_none room d ds e = ⊎_elim
    (λ (h : size d ≤ room). absurd (cons≢nil (sym (whole_fit room d ds h) ∙ e)))
    (λ (h : room < size d). h)
    (le_or_lt (size d) room)

module _ (room : ℕ) where
  pub groups_some : (n : ℕ) (ds : List Desc) → 0 < n → 0 < length (groups room n ds)
  groups_some zero ds h = absurd (omega arith)
  groups_some (suc n) ds h = go (rest room ds) refl
    where
      go : (xs : List Desc) → rest room ds ≡ xs → 0 < length (groups room (suc n) ds)
      go [] e = rw (groups_last room n ds e) (omega arith)
      go (x ∷ xs) e = rw (groups_more room n ds x xs e) (omega arith)

  pub groups_fit : (n : ℕ) (ds : List Desc) → All (Fits room) (joined (groups room n ds))
  unfolding groups joined
  groups_fit zero ds = tt
  groups_fit (suc n) ds = go (rest room ds) refl (groups_fit n)
    where
      go : (xs : List Desc) → rest room ds ≡ xs → ((xs : List Desc) → All (Fits room) (joined (groups room n xs))) → All (Fits room) (joined (groups room (suc n) ds))
      go [] e ih = rw (groups_last room n ds e) (all_append (Fits room) (whole room ds) [] (whole_fits room ds) tt)
      go (x ∷ xs) e ih = rw (groups_more room n ds x xs e) (all_append (Fits room) (whole room ds) (joined (groups room n (x ∷ xs))) (whole_fits room ds) (ih (x ∷ xs)))

-- ---- the bytes of what fits and of what is left

pub flat_parts : (room : ℕ) (ds : List Desc) → length (flat bytes ds) ≡ length (flat bytes (whole room ds)) + length (flat bytes (rest room ds))
flat_parts room ds = omega (arith, total_parts room ds, length_flat_bytes ds, length_flat_bytes (whole room ds), length_flat_bytes (rest room ds))
