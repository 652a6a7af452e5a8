-- The entries from the first wanted one to the end of the wanted ones are the features that a request selects. Assumes nothing.
use mathlib.Core.Path.{◌≡◌, refl, sym, ap, ◌∙◌}
use mathlib.Core.Logic.{⊎_elim}
use mathlib.Core.Bool.{Bool, true, false, not, ◌&&◌, true≢false, and-eq-true_iff}
use mathlib.Core.List.{[], ◌∷◌, append-nil}
use Prim.Native.Nat.{ℕ, zero, suc, ◌+◌, ◌-◌, ◌≤◌, ◌<◌}
use native.Mathlib.Omega.{arith}
use lib.Dec.{ltb, eqb}
use borrow.Author.Tests.{le-leb, eq-eqb, ne_eqb, lt-ltb, ltb-true, eqb-true}
use Rattle.base.specs.Lists.{each, flat, keep}
use Rattle.base.proofs.Lists.{each_snoc, flat_append, keep_append, keep_range}
use Rattle.text.specs.Flags as text
use Rattle.text.specs.Drive.{Desc}
use Rattle.text.specs.Response.{bytes, wants}
use Rattle.base.proofs.Compare.{le_or_lt}
use Rattle.text.proofs.Selection.{wants_below}
use Rattle.layout.specs.Layout.{Sheet, feature_count, number, flags}
use Rattle.sheet.specs.Facts.{Facts}
use Rattle.sheet.specs.Meaning.{desc, meaning}
use Rattle.sheet.proofs.Accepted.{ascending}
use Rattle.responder.specs.inner.Index.{wanted_end, skips, piece, pieces}
use Rattle.sheet.proofs.Bisection.{First}
use Rattle.responder.proofs.Entries.{entry_bytes}

-- ---- what is not passed over

abbrev passes : ℕ → Desc → Bool
passes rt d = not (skips rt d.flags)

pub skips_none : (rt f : ℕ) → (rt ≡ 1 → ⊥) → skips rt f ≡ false
unfolding skips
skips_none rt f h = rw (ne_eqb rt 1 h)

passes_all : (rt : ℕ) (d : Desc) → (rt ≡ 1 → ⊥) → true ≡ passes rt d
passes_all rt d h = ap not (sym (skips_none rt d.flags h))

twice : (b : Bool) → b ≡ not (not b)
twice true = refl
twice false = refl

passes_current : (d : Desc) → eqb (text.current d.flags) 1 ≡ passes 1 d
unfolding skips
passes_current d = twice (eqb (text.current d.flags) 1)

-- ---- the bytes of the entries in a range

module _ {s : Sheet} (f : Facts s) (rt : ℕ) where
  piece_bytes : (i : ℕ) → i < feature_count s → piece rt s i ≡ flat bytes (keep (passes rt) (desc s i ∷ []))
  unfolding piece desc flat keep
  piece_bytes i l = go (skips rt (flags s i)) refl
    where
      go : (t : Bool) → skips rt (flags s i) ≡ t → piece rt s i ≡ flat bytes (keep (passes rt) (desc s i ∷ []))
      go true e = rw (e, piece, keep)
      go false e = rw (e, piece, keep, append-nil) (entry_bytes f i l)

  pieces_bytes : (from k : ℕ) → from + k ≤ feature_count s → pieces rt s from k ≡ flat bytes (keep (passes rt) (each (desc s) from k))
  unfolding pieces each keep flat
  pieces_bytes from zero l = refl
  pieces_bytes from (suc k) l =
      rw (pieces_bytes from k (omega arith), piece_bytes (from + k) (omega arith), each_snoc, keep_append, flat_append)

-- ---- the end of the wanted entries

-- the wanted entries are those from `from` to `to` that are not passed over
record Wanted (s : Sheet) (rt sfn from to : ℕ) : Type 0 where
  ordered : from ≤ to
  within : to ≤ feature_count s
  inside : (j : ℕ) → from ≤ j → j < to → wants rt sfn (desc s j) ≡ passes rt (desc s j)
  behind : (j : ℕ) → to ≤ j → j < feature_count s → wants rt sfn (desc s j) ≡ false

module _ {s : Sheet} (f : Facts s) where
  not_below : (i j : ℕ) → i ≤ j → j < feature_count s → number s i ≤ number s j
  not_below i j l m = ⊎_elim
      (λ (h : j ≤ i).
      let e : i ≡ j = omega arith in
      omega (arith, ap (number s) e))
      (λ (h : i < j). omega (arith, ascending f i j h m))
      (le_or_lt j i)

module _ {s : Sheet} (f : Facts s) {sfn from : ℕ} (first : First s (feature_count s) sfn from) where
  before : (j : ℕ) → j < from → number s j < sfn
  before j l = omega (arith, not_below f j (from - 1) (omega arith) (omega (arith, first.within)), first.before (omega arith))

  behind_from : (j : ℕ) → from ≤ j → j < feature_count s → sfn ≤ number s j
  behind_from j l m = omega (arith, not_below f from j l m, first.behind (omega arith))

  wanted : (rt : ℕ) → Wanted s rt sfn from (wanted_end rt s (feature_count s) sfn from)
  unfolding wanted_end wants desc
  wanted zero = record {
    ordered = first.within;
    within = omega arith;
    inside = λ j l m. le-leb sfn (number s j) (behind_from j l m) ∙ passes_all 0 (desc s j) (λ z. omega arith);
    behind = λ j l m. absurd (omega arith);
  }
  wanted (suc zero) = record {
    ordered = first.within;
    within = omega arith;
    inside = λ j l m. rw (le-leb sfn (number s j) (behind_from j l m)) (passes_current (desc s j));
    behind = λ j l m. absurd (omega arith);
  }
  wanted (suc (suc rt)) = go (ltb from (feature_count s) && eqb (number s from) sfn) refl
    where
      go : (t : Bool) → (ltb from (feature_count s) && eqb (number s from) sfn) ≡ t → Wanted s (suc (suc rt)) sfn from (wanted_end (suc (suc rt)) s (feature_count s) sfn from)
      go true e =
          let h : from < feature_count s = ltb-true from (feature_count s) ((and-eq-true_iff (ltb from (feature_count s)) (eqb (number s from) sfn)).0 e).0 in
          let n : number s from ≡ sfn = eqb-true (number s from) sfn ((and-eq-true_iff (ltb from (feature_count s)) (eqb (number s from) sfn)).0 e).1 in
          rw (e, wanted_end) record {
            ordered = omega arith;
            within = omega arith;
            inside = λ j l m.
                let q : j ≡ from = omega arith in
                eq-eqb (number s j) sfn (omega (arith, ap (number s) q)) ∙ passes_all (suc (suc rt)) (desc s j) (λ z. omega arith);
            behind = λ j l m. ne_eqb (number s j) sfn (λ q. omega (arith, ascending f from j (omega arith) m));
          }
      go false e = rw (e, wanted_end) record {
        ordered = omega arith;
        within = first.within;
        inside = λ j l m. absurd (omega arith);
        behind = λ j l m. ne_eqb (number s j) sfn (λ q.
            let n : number s from ≡ sfn = omega (arith, not_below f from j l m, behind_from from (omega arith) (omega arith)) in
            true≢false (sym (rw (lt-ltb from (feature_count s) (omega arith), eq-eqb (number s from) sfn n)) ∙ e));
      }

-- ---- their bytes are those of the wanted features

module _ {s : Sheet} (f : Facts s) (rt : ℕ) {sfn from to : ℕ} (first : First s (feature_count s) sfn from) (last : to ≡ wanted_end rt s (feature_count s) sfn from) where
  wanted_to : Wanted s rt sfn from to
  wanted_to = rw last (wanted f first rt)

  pub chosen_ordered : from ≤ to
  chosen_ordered = wanted_to.ordered

  pub chosen_within : to ≤ feature_count s
  chosen_within = wanted_to.within

  pub chosen : pieces rt s from (to - from) ≡ flat bytes (keep (wants rt sfn) (meaning s).features)
  unfolding meaning desc
  chosen =
      pieces_bytes f rt from (to - from) (omega (arith, chosen_ordered, chosen_within))
      ∙ ap (flat bytes)
      (sym
      (keep_range (wants rt sfn) (passes rt) (desc s) from to (feature_count s) chosen_ordered chosen_within
      (λ j l. wants_below rt sfn (desc s j) (before f first j l))
      wanted_to.inside
      wanted_to.behind))
