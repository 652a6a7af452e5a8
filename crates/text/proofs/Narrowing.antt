-- What may be relied on when descriptors are narrowed more than once. Of all this only `below_from`, and so `selected_joined`, needs that the list
-- ascends; the rest holds of any list of descriptors. Assumes nothing.
use mathlib.Core.Path.{◌≡◌, refl, sym, ap, ◌∙◌}
use mathlib.Core.Logic.{⊎_elim}
use mathlib.Core.Bool.{Bool, true, false, ◌&&◌, and_self}
use mathlib.Core.List.{List, [], ◌∷◌, ◌++◌}
use Prim.Native.Nat.{ℕ, zero, suc, ◌+◌, ◌≤◌, ◌<◌, max}
use native.Mathlib.Omega.{arith}
use lib.Dec.{leb, ltb, eqb}
use borrow.Author.Tests.{le-leb, lt-leb, lt-ltb, le-ltb, ne_eqb}
use Rattle.base.specs.Lists.{keep, All}
use Rattle.base.proofs.Compare.{le_or_lt}
use Rattle.base.proofs.Lists.{all_map, keep_yes, keep_no, keep_both, keep_comm, keep_none, keep_every}
use Rattle.text.specs.Drive.{Desc, Drive, Asc, Sound}
use Rattle.text.specs.Response.{all, wants, selected}
use Rattle.text.specs.Narrowing.{kept_from, kept_below, kept_current, kept_one}
use Rattle.text.proofs.Selection.{is_current, leb_max, asc_above, selected_asc, current_of_from}

-- ---- the four laws

-- from s and then from t is from the larger
pub from_from : (s t : ℕ) (ds : List Desc) → kept_from t (kept_from s ds) ≡ kept_from (max s t) ds
unfolding kept_from
from_from s t ds = keep_both _ _ _ (λ d. leb_max s t d.number) ds

-- "current only" and "from s" in either order
pub current_from : (s : ℕ) (ds : List Desc) → kept_current (kept_from s ds) ≡ kept_from s (kept_current ds)
unfolding kept_from kept_current
current_from s ds = keep_comm _ _ ds

-- each twice is the same as once
pub from_twice : (s : ℕ) (ds : List Desc) → kept_from s (kept_from s ds) ≡ kept_from s ds
from_twice s ds = from_from s s ds ∙ ap (λ (n : ℕ). kept_from n ds) (omega arith)

pub current_twice : (ds : List Desc) → kept_current (kept_current ds) ≡ kept_current ds
unfolding kept_current
current_twice ds = keep_both _ _ _ (λ d. sym (and_self _)) ds

-- those below s, followed by those from s, are all of them
pub below_from : (s lo : ℕ) (ds : List Desc) → Asc lo ds → kept_below s ds ++ kept_from s ds ≡ ds
unfolding kept_below kept_from keep
below_from s lo [] a = refl
below_from s lo (d ∷ ds) a = ⊎_elim
    (λ (h : s ≤ d.number).
    let above : All (λ (e : Desc). 1 + d.number ≤ e.number) ds = asc_above (1 + d.number) ds a.1 in
    let low : keep (λ (e : Desc). ltb e.number s) ds ≡ [] =
    keep_none (λ (e : Desc). ltb e.number s) ds (all_map (λ (e : Desc). 1 + d.number ≤ e.number) (λ (e : Desc). ltb e.number s ≡ false) (λ e l. le-ltb e.number s (omega arith)) ds above) in
    let high : keep (λ (e : Desc). leb s e.number) ds ≡ ds =
    keep_every (λ (e : Desc). leb s e.number) ds (all_map (λ (e : Desc). 1 + d.number ≤ e.number) (λ (e : Desc). leb s e.number ≡ true) (λ e l. le-leb s e.number (omega arith)) ds above) in
    rw (keep_no (λ (e : Desc). ltb e.number s) d ds (le-ltb d.number s h), keep_yes (λ (e : Desc). leb s e.number) d ds (le-leb s d.number h), low, high))
    (λ (h : d.number < s).
    rw (keep_yes (λ (e : Desc). ltb e.number s) d ds (lt-ltb d.number s h), keep_no (λ (e : Desc). leb s e.number) d ds (lt-leb s d.number h))
    (ap (λ (r : List Desc). d ∷ r) (below_from s (1 + d.number) ds a.1)))
    (le_or_lt s d.number)

-- ---- what a request selects, narrowed

and_swap : (p q c : Bool) → (p && q && c) ≡ (p && c && q)
and_swap true true true = refl
and_swap true true false = refl
and_swap true false true = refl
and_swap true false false = refl
and_swap false q c = refl

wants_larger : (rt : ℕ) → rt < 2 → (s t : ℕ) (d : Desc) → wants rt (max s t) d ≡ (wants rt s d && leb t d.number)
unfolding wants
wants_larger zero h s t d = leb_max s t d.number
wants_larger (suc zero) h s t d = rw (leb_max s t d.number) (and_swap (leb s d.number) (leb t d.number) (is_current d))
wants_larger (suc (suc rt)) h s t d = absurd (omega arith)

wants_alone : (s f : ℕ) → s ≤ f → (d : Desc) → wants 2 f d ≡ (wants 0 s d && eqb d.number f)
unfolding wants
wants_alone s f h d = ⊎_elim
    (λ (l : s ≤ d.number). rw (le-leb s d.number l))
    (λ (l : d.number < s). rw (lt-leb s d.number l) (ne_eqb d.number f (λ e. omega arith)))
    (le_or_lt s d.number)

module _ (m : Drive) where
  -- RT 0 or RT 1 from s, kept from t on, is the same from the larger
  pub selected_larger : (rt : ℕ) → rt < 2 → (s t : ℕ) → kept_from t (selected rt s m) ≡ selected rt (max s t) m
  unfolding kept_from selected
  selected_larger rt h s t = keep_both (λ (d : Desc). leb t d.number) (wants rt s) (wants rt (max s t)) (wants_larger rt h s t) (all m)

  -- the current ones of RT 0 from s are RT 1 from s
  pub selected_current : (s : ℕ) → kept_current (selected 0 s m) ≡ selected 1 s m
  unfolding kept_current selected
  selected_current s = current_of_from s (all m)

  -- the one numbered f of RT 0 from any s that is not above f is RT 2 of f
  pub selected_alone : (s f : ℕ) → s ≤ f → kept_one f (selected 0 s m) ≡ selected 2 f m
  unfolding kept_one selected
  selected_alone s f h = keep_both (λ (d : Desc). eqb d.number f) (wants 0 s) (wants 2 f) (wants_alone s f h) (all m)

-- two neighbouring ranges joined are the whole
pub selected_joined : {m : Drive} → Sound m → (rt : ℕ) → rt < 2 → (s t : ℕ) → s ≤ t → kept_below t (selected rt s m) ++ selected rt t m ≡ selected rt s m
selected_joined {m} good rt h s t l =
    let e : kept_from t (selected rt s m) ≡ selected rt t m = selected_larger m rt h s t ∙ ap (λ (n : ℕ). selected rt n m) (omega arith) in
    ap (λ (r : List Desc). kept_below t (selected rt s m) ++ r) (sym e) ∙ below_from t s (selected rt s m) (selected_asc good rt s)
