-- The next start of a sweep, one above the last number that was received whole, wants just what is left. Assumes nothing.
use mathlib.Core.Path.{◌≡◌, refl, sym, ap, ◌∙◌}
use mathlib.Core.List.{List, [], ◌∷◌, ◌++◌}
use Prim.Native.Nat.{ℕ, ◌+◌, ◌≤◌, ◌<◌}
use native.Mathlib.Omega.{arith}
use lib.ListN.{length}
use Rattle.base.specs.Lists.{keep, All}
use Rattle.text.specs.Drive.{Desc, Drive, Good, Asc, Sound}
use Rattle.text.specs.Response.{all, wants, selected}
use Rattle.text.specs.Reading.{last_number}
use Rattle.text.specs.Packing.{whole, rest}
use Rattle.text.proofs.Selection.{Below, asc_down, asc_above, all_asc, select_asc, select_from, from_split, selected_asc, selected_good}
use Rattle.text.proofs.Packing.{whole_rest, rest_all}

-- ---- the last number of a front of a list that ascends

pub last_from_law : (lo : ℕ) (xs ys : List Desc) → 0 < length xs → Asc lo (xs ++ ys) → lo ≤ last_number xs
unfolding last_number
last_from_law lo [] ys h a = absurd (omega arith)
last_from_law lo (d ∷ []) ys h a = a.0
last_from_law lo (d ∷ e ∷ xs) ys h a = omega (arith, a.0, last_from_law (1 + d.number) (e ∷ xs) ys (omega arith) a.1)

pub last_below : (lo : ℕ) (xs ys : List Desc) → Asc lo (xs ++ ys) → Below (last_number xs + 1) xs
unfolding last_number
last_below lo [] ys a = tt
last_below lo (d ∷ []) ys a = (omega arith, tt)
last_below lo (d ∷ e ∷ xs) ys a = (omega (arith, last_from_law (1 + d.number) (e ∷ xs) ys (omega arith) a.1), last_below (1 + d.number) (e ∷ xs) ys a.1)

-- what stands behind the front goes on above it
pub last_behind : (lo : ℕ) (xs ys : List Desc) → 0 < length xs → Asc lo (xs ++ ys) → Asc (last_number xs + 1) ys
unfolding last_number
last_behind lo [] ys h a = absurd (omega arith)
last_behind lo (d ∷ []) ys h a = asc_down (d.number + 1) (1 + d.number) ys (omega arith) a.1
last_behind lo (d ∷ e ∷ xs) ys h a = last_behind (1 + d.number) (e ∷ xs) ys (omega arith) a.1

-- ---- the next start

-- RT 0 and RT 1
pub select_next : (rt : ℕ) → rt < 2 → (room sfn lo : ℕ) (ds : List Desc) → Asc lo ds → 0 < length (whole room (keep (wants rt sfn) ds))
    → keep (wants rt (last_number (whole room (keep (wants rt sfn) ds)) + 1)) ds ≡ rest room (keep (wants rt sfn) ds)
select_next rt two room sfn lo ds a h =
    let ws : List Desc = keep (wants rt sfn) ds in
    let xs : List Desc = whole room ws in
    let ys : List Desc = rest room ws in
    let t : ℕ = last_number xs + 1 in
    let b : Asc sfn (xs ++ ys) = rw (whole_rest room ws) (select_asc rt sfn lo ds a) in
    sym (select_from rt two sfn t ds (omega (arith, last_from_law sfn xs ys h b)))
    ∙ ap (keep (wants 0 t)) (sym (whole_rest room ws))
    ∙ from_split t xs ys (last_below sfn xs ys b) (asc_above t ys (last_behind sfn xs ys h b))

module _ {m : Drive} (good : Sound m) (rt room sfn : ℕ) (some : 0 < length (whole room (selected rt sfn m))) where
  pub selected_next : rt < 2 → selected rt (last_number (whole room (selected rt sfn m)) + 1) m ≡ rest room (selected rt sfn m)
  unfolding selected
  selected_next two = select_next rt two room sfn 0 (all m) (all_asc good) some

  -- where something is left the next start is a feature number
  pub next_low : 0 < length (rest room (selected rt sfn m)) → last_number (whole room (selected rt sfn m)) + 1 < 65536
  next_low h =
      let ds : List Desc = selected rt sfn m in
      go (rest room ds) h
      (last_behind sfn (whole room ds) (rest room ds) some (rw (whole_rest room ds) (selected_asc good rt sfn)))
      (rest_all Good room ds (selected_good good rt sfn))
    where
      go : {n : ℕ} (ys : List Desc) → 0 < length ys → Asc n ys → All Good ys → n < 65536
      go [] l a g = absurd (omega arith)
      go (y ∷ ys) l a g = omega (arith, a.0, g.0.number_low)

-- ---- the last number of two lists

pub last_append : (xs ys : List Desc) → 0 < length ys → last_number (xs ++ ys) ≡ last_number ys
unfolding last_number
last_append [] ys h = refl
last_append (x ∷ []) [] h = absurd (omega arith)
last_append (x ∷ []) (y ∷ ys) h = refl
last_append (x ∷ e ∷ xs) ys h = last_append (e ∷ xs) ys h
