-- The descriptors that a request selects. Assumes nothing.
use mathlib.Core.Path.{◌≡◌, refl, sym, ap, ◌∙◌}
use mathlib.Core.Logic.{⊎_elim}
use mathlib.Core.Bool.{Bool, true, false, ◌&&◌, and-eq-true_iff, and_self, and-false}
use mathlib.Core.List.{List, [], ◌∷◌, ◌++◌}
use Prim.Native.Nat.{ℕ, zero, suc, ◌+◌, ◌≤◌, ◌<◌, max}
use native.Mathlib.Omega.{arith}
use lib.Dec.{leb, eqb}
use lib.ListN.{length}
use borrow.Author.Tests.{leb-true, le-leb, lt-leb, eqb-true, ne_eqb}
use Rattle.base.proofs.Compare.{le_or_lt}
use Rattle.base.specs.Lists.{keep, All}
use Rattle.base.proofs.Lists.{all_map, keep_yes, keep_no, keep_induct, keep_append, keep_all, keep_holds, keep_none, keep_every, keep_both, keep_comm}
use Rattle.text.specs.Flags.{current}
use Rattle.text.specs.Drive.{Desc, Listed, Drive, Good, Asc, Sound}
use Rattle.text.specs.Response.{feature0, all, wants, selected}
use Rattle.text.proofs.Profiles.{feature0_good}

-- ---- lists that ascend

pub asc_down : (lo hi : ℕ) (ds : List Desc) → lo ≤ hi → Asc hi ds → Asc lo ds
asc_down lo hi [] h a = tt
asc_down lo hi (d ∷ ds) h a = (omega arith, a.1)

pub asc_up : (lo hi : ℕ) (ds : List Desc) → All (λ (d : Desc). hi ≤ d.number) ds → Asc lo ds → Asc hi ds
asc_up lo hi [] w a = tt
asc_up lo hi (d ∷ ds) w a = (w.0, a.1)

pub asc_above : (lo : ℕ) (ds : List Desc) → Asc lo ds → All (λ (d : Desc). lo ≤ d.number) ds
asc_above lo [] a = tt
asc_above lo (d ∷ ds) a = (a.0, asc_above lo ds (asc_down lo (1 + d.number) ds (omega arith) a.1))

pub keep_asc : (t : Desc → Bool) (lo : ℕ) (ds : List Desc) → Asc lo ds → Asc lo (keep t ds)
keep_asc t lo ds = keep_induct t (λ ds ks. (lo : ℕ) → Asc lo ds → Asc lo ks)
    (λ lo a. tt)
    (λ d ds ks e h lo a. (a.0, h (1 + d.number) a.1))
    (λ d ds ks e h lo a. asc_down lo (1 + d.number) ks (omega arith) (h (1 + d.number) a.1))
    ds lo

-- ---- what a wanted descriptor is

pub wants_from : (rt sfn : ℕ) (d : Desc) → wants rt sfn d ≡ true → sfn ≤ d.number
unfolding wants
wants_from zero sfn d e = leb-true sfn d.number e
wants_from (suc zero) sfn d e = leb-true sfn d.number ((and-eq-true_iff (leb sfn d.number) (eqb (current d.flags) 1)).0 e).0
wants_from (suc (suc rt)) sfn d e = omega (arith, eqb-true d.number sfn e)

pub wants_current : (sfn : ℕ) (d : Desc) → wants 1 sfn d ≡ true → current d.flags ≡ 1
unfolding wants
wants_current sfn d e = eqb-true (current d.flags) 1 ((and-eq-true_iff (leb sfn d.number) (eqb (current d.flags) 1)).0 e).1

pub wants_one : (rt sfn : ℕ) (d : Desc) → wants (suc (suc rt)) sfn d ≡ true → d.number ≡ sfn
unfolding wants
wants_one rt sfn d e = eqb-true d.number sfn e

-- nothing below the start is wanted
pub wants_below : (rt sfn : ℕ) (d : Desc) → d.number < sfn → wants rt sfn d ≡ false
unfolding wants
wants_below zero sfn d h = lt-leb sfn d.number h
wants_below (suc zero) sfn d h = rw (lt-leb sfn d.number h)
wants_below (suc (suc rt)) sfn d h = ne_eqb d.number sfn (λ e. omega arith)

-- feature 0 is wanted from 0 on
pub wants_zero : (rt : ℕ) (ps : List Listed) → wants rt 0 (feature0 ps) ≡ true
unfolding wants feature0
wants_zero zero ps = refl
wants_zero (suc zero) ps = refl
wants_zero (suc (suc rt)) ps = refl

-- ---- a selection is good and ascends

pub all_asc : {m : Drive} → Sound m → Asc 0 (all m)
unfolding all feature0
all_asc s = (omega arith, s.ascending)

pub all_good : {m : Drive} → Sound m → All Good (all m)
unfolding all
all_good {m} s = (feature0_good m.profiles s.few, s.good)

pub selected_wanted : (rt sfn : ℕ) (m : Drive) → All (λ (d : Desc). wants rt sfn d ≡ true) (selected rt sfn m)
unfolding selected
selected_wanted rt sfn m = keep_holds (wants rt sfn) (all m)

pub select_asc : (rt sfn lo : ℕ) (ds : List Desc) → Asc lo ds → Asc sfn (keep (wants rt sfn) ds)
select_asc rt sfn lo ds a =
    let ks : List Desc = keep (wants rt sfn) ds in
    asc_up lo sfn ks (all_map (λ (d : Desc). wants rt sfn d ≡ true) (λ (d : Desc). sfn ≤ d.number) (wants_from rt sfn) ks (keep_holds (wants rt sfn) ds)) (keep_asc (wants rt sfn) lo ds a)

pub selected_asc : {m : Drive} → Sound m → (rt sfn : ℕ) → Asc sfn (selected rt sfn m)
unfolding selected
selected_asc {m} s rt sfn = select_asc rt sfn 0 (all m) (all_asc s)

pub selected_good : {m : Drive} → Sound m → (rt sfn : ℕ) → All Good (selected rt sfn m)
unfolding selected
selected_good {m} s rt sfn = keep_all (wants rt sfn) Good (all m) (all_good s)

-- ---- narrowing

abbrev pub is_current : Desc → Bool
is_current d = eqb (current d.flags) 1

pub leb_max : (s t n : ℕ) → leb (max s t) n ≡ (leb s n && leb t n)
leb_max s t n = ⊎_elim
    (λ (a : s ≤ n). ⊎_elim
    (λ (b : t ≤ n). rw (le-leb s n a, le-leb t n b) (le-leb (max s t) n (omega arith)))
    (λ (b : n < t). rw (le-leb s n a, lt-leb t n b) (lt-leb (max s t) n (omega arith)))
    (le_or_lt t n))
    (λ (a : n < s). rw (lt-leb s n a) (lt-leb (max s t) n (omega arith)))
    (le_or_lt s n)

and_both : (p q c : Bool) → (p && q && c) ≡ (p && c && (q && c))
and_both true true c = sym (and_self c)
and_both true false c = sym (and-false c)
and_both false q c = refl

wants_both : (rt : ℕ) → rt < 2 → (s t : ℕ) (d : Desc) → wants rt (max s t) d ≡ (wants rt s d && wants rt t d)
unfolding wants
wants_both zero h s t d = leb_max s t d.number
wants_both (suc zero) h s t d = rw (leb_max s t d.number) (and_both (leb s d.number) (leb t d.number) (is_current d))
wants_both (suc (suc rt)) h s t d = absurd (omega arith)

-- from s and then from t is from the larger, for RT 0 and RT 1
pub select_narrow : (rt : ℕ) → rt < 2 → (s t : ℕ) (ds : List Desc) → keep (wants rt t) (keep (wants rt s) ds) ≡ keep (wants rt (max s t)) ds
select_narrow rt h s t ds = keep_both (wants rt t) (wants rt s) (wants rt (max s t)) (wants_both rt h s t) ds

pub select_later : (rt : ℕ) → rt < 2 → (s t : ℕ) (ds : List Desc) → s ≤ t → keep (wants rt t) (keep (wants rt s) ds) ≡ keep (wants rt t) ds
select_later rt h s t ds l = select_narrow rt h s t ds ∙ ap (λ (n : ℕ). keep (wants rt n) ds) (omega arith)

-- the current ones of those from s, either way round
pub current_of_from : (s : ℕ) (ds : List Desc) → keep is_current (keep (wants 0 s) ds) ≡ keep (wants 1 s) ds
unfolding wants
current_of_from s ds = keep_both is_current (wants 0 s) (wants 1 s) (λ d. refl) ds

pub from_of_current : (s : ℕ) (ds : List Desc) → keep (wants 0 s) (keep is_current ds) ≡ keep (wants 1 s) ds
from_of_current s ds = keep_comm (wants 0 s) is_current ds ∙ current_of_from s ds

-- what is left of a selection from t on is the selection from t
pub select_from : (rt : ℕ) → rt < 2 → (s t : ℕ) (ds : List Desc) → s ≤ t → keep (wants 0 t) (keep (wants rt s) ds) ≡ keep (wants rt t) ds
select_from zero h s t ds l = select_later 0 h s t ds l
select_from (suc zero) h s t ds l =
    ap (keep (wants 0 t)) (sym (from_of_current s ds))
    ∙ select_later 0 (omega arith) s t (keep is_current ds) l
    ∙ from_of_current t ds
select_from (suc (suc rt)) h s t ds l = absurd (omega arith)

-- ---- a list split at the start

abbrev pub Below : ℕ → List Desc → Type 0
Below s = All (λ (d : Desc). d.number < s)

abbrev pub From : ℕ → List Desc → Type 0
From s = All (λ (d : Desc). s ≤ d.number)

pub select_below : (rt s : ℕ) (ds : List Desc) → Below s ds → keep (wants rt s) ds ≡ []
select_below rt s ds b = keep_none (wants rt s) ds (all_map (λ (d : Desc). d.number < s) (λ (d : Desc). wants rt s d ≡ false) (wants_below rt s) ds b)

pub from_all : (s : ℕ) (ds : List Desc) → From s ds → keep (wants 0 s) ds ≡ ds
unfolding wants
from_all s ds f = keep_every (wants 0 s) ds (all_map (λ (d : Desc). s ≤ d.number) (λ (d : Desc). wants 0 s d ≡ true) (λ d. le-leb s d.number) ds f)

one_above : (rt s lo : ℕ) (ds : List Desc) → s < lo → Asc lo ds → keep (wants (suc (suc rt)) s) ds ≡ []
unfolding wants
one_above rt s lo ds h a =
    keep_none (wants (suc (suc rt)) s) ds
    (all_map (λ (d : Desc). lo ≤ d.number) (λ (d : Desc). wants (suc (suc rt)) s d ≡ false) (λ d l. ne_eqb d.number s (λ e. omega arith)) ds (asc_above lo ds a))

-- the front that lies below the start counts for nothing
pub select_split : (rt s : ℕ) (xs ys : List Desc) → Below s xs → keep (wants rt s) (xs ++ ys) ≡ keep (wants rt s) ys
select_split rt s xs ys b = keep_append (wants rt s) xs ys ∙ ap (λ (r : List Desc). r ++ keep (wants rt s) ys) (select_below rt s xs b)

-- RT 0: the rest; RT 1: the current ones of the rest
pub from_split : (s : ℕ) (xs ys : List Desc) → Below s xs → From s ys → keep (wants 0 s) (xs ++ ys) ≡ ys
from_split s xs ys b f = select_split 0 s xs ys b ∙ from_all s ys f

-- RT 2 selects at most one
pub one_most : (rt s lo : ℕ) (ds : List Desc) → Asc lo ds → length (keep (wants (suc (suc rt)) s) ds) ≤ 1
one_most rt s lo ds a =
    let ks : List Desc = keep (wants (suc (suc rt)) s) ds in
    go lo ks (keep_asc (wants (suc (suc rt)) s) lo ds a)
    (all_map (λ (d : Desc). wants (suc (suc rt)) s d ≡ true) (λ (d : Desc). d.number ≡ s) (wants_one rt s) ks (keep_holds (wants (suc (suc rt)) s) ds))
  where
    go : (lo : ℕ) (ks : List Desc) → Asc lo ks → All (λ (d : Desc). d.number ≡ s) ks → length ks ≤ 1
    go lo [] a w = omega arith
    go lo (d ∷ []) a w = omega arith
    go lo (d ∷ e ∷ ks) a w = absurd (omega (arith, a.1.0, w.0, w.1.0))

-- ---- feature 0

-- from 0 on it comes first
pub selected_zero : (rt : ℕ) (m : Drive) → selected rt 0 m ≡ feature0 m.profiles ∷ keep (wants rt 0) m.features
unfolding selected all
selected_zero rt m = keep_yes (wants rt 0) (feature0 m.profiles) m.features (wants_zero rt m.profiles)

-- from a later start on it is left out
pub selected_above : (rt sfn : ℕ) (m : Drive) → 0 < sfn → selected rt sfn m ≡ keep (wants rt sfn) m.features
unfolding selected all feature0
selected_above rt sfn m h = keep_no (wants rt sfn) (feature0 m.profiles) m.features (wants_below rt sfn (feature0 m.profiles) h)

pub selected_one_most : {m : Drive} → Sound m → (rt sfn : ℕ) → length (selected (suc (suc rt)) sfn m) ≤ 1
unfolding selected
selected_one_most {m} s rt sfn = one_most rt sfn 0 (all m) (all_asc s)
