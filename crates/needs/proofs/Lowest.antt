-- The lowest number with which something is wrong. Assumes nothing.
use borrow.Author.Tests.{ltb-true, ltb-false}
use mathlib.Core.Path.{◌≡◌, refl, sym, ap, subst, ◌∙◌}
use mathlib.Core.Logic.{⊎_elim}
use mathlib.Core.Bool.{Bool, true, false, true≢false}
use mathlib.Core.List.{[], ◌∷◌}
use Prim.Native.Nat.{ℕ, zero, suc, ◌+◌, ◌≤◌, ◌<◌}
use native.Mathlib.Omega.{arith}
use lib.Dec.{ltb}
use Rattle.base.proofs.Compare.{le_or_lt}
use Rattle.needs.specs.Judge.{Said, says_conforms, says_broken, lowest_from}

module _ (w : ℕ → ℕ) where
  pub lowest_past : (f k : ℕ) → w f ≡ 0 → lowest_from w f (suc k) ≡ lowest_from w (suc f) k
  unfolding lowest_from
  lowest_past f k e = rw (e, lowest_from)

  pub lowest_here : (f k v : ℕ) → w f ≡ suc v → lowest_from w f (suc k) ≡ says_broken f (suc v)
  unfolding lowest_from
  lowest_here f k v e = rw (e, lowest_from)

  -- nothing is wrong with any
  pub lowest_upto : (f k : ℕ) → ((g : ℕ) → f ≤ g → g < f + k → w g ≡ 0) → lowest_from w f k ≡ says_conforms
  unfolding lowest_from
  lowest_upto f zero h = refl
  lowest_upto f (suc k) h = lowest_past f k (h f (omega arith) (omega arith)) ∙ lowest_upto (suc f) k (λ g l m. h g (omega arith) (omega arith))

  pub lowest_none : (f k : ℕ) → ((g : ℕ) → w g ≡ 0) → lowest_from w f k ≡ says_conforms
  lowest_none f k h = lowest_upto f k (λ g l m. h g)

  -- something is wrong with g, and nothing with a lower one
  pub lowest_found : (g v f k : ℕ) → f ≤ g → g < f + k → ((h : ℕ) → h < g → w h ≡ 0) → w g ≡ suc v → lowest_from w f k ≡ says_broken g (suc v)
  lowest_found g v f zero l m h e = absurd (omega arith)
  lowest_found g v f (suc k) l m h e = go (ltb f g) refl (lowest_found g v (suc f) k)
    where
      go : (t : Bool) → ltb f g ≡ t
          → (suc f ≤ g → g < suc f + k → ((h : ℕ) → h < g → w h ≡ 0) → w g ≡ suc v → lowest_from w (suc f) k ≡ says_broken g (suc v))
          → lowest_from w f (suc k) ≡ says_broken g (suc v)
      go true t more = let j = ltb-true f g t in lowest_past f k (h f j) ∙ more j (omega arith) h e
      go false t more =
          let j = ltb-false f g t in
          let q : g ≡ f = omega arith in
          lowest_here f k v (subst (λ (x : ℕ). w x ≡ suc v) q e) ∙ ap (λ (x : ℕ). says_broken x (suc v)) (sym q)

  -- the other way round: it says that nothing is wrong, or with which number something is
  pub none_lowest : (f k : ℕ) → lowest_from w f k ≡ says_conforms → (g : ℕ) → f ≤ g → g < f + k → w g ≡ 0
  none_lowest f zero e g l m = absurd (omega arith)
  none_lowest f (suc k) e g l m = go (w f) refl (none_lowest (suc f) k)
    where
      go : (n : ℕ) → w f ≡ n → (lowest_from w (suc f) k ≡ says_conforms → (g : ℕ) → suc f ≤ g → g < suc f + k → w g ≡ 0) → w g ≡ 0
      go (suc n) t more = absurd (true≢false (ap (λ (x : Said). x.conforms) (sym e ∙ lowest_here f k n t)))
      go zero t more =
          ⊎_elim (λ q. ap w {x = g} {y = f} (omega arith) ∙ t) (λ q. more (sym (lowest_past f k t) ∙ e) g (omega arith) (omega arith)) (le_or_lt g f)

  pub record Lowest (f g v : ℕ) : Type 0 where
    pub here : w g ≡ v
    pub some : v ≡ 0 → ⊥
    pub lower : (h : ℕ) → f ≤ h → h < g → w h ≡ 0

  pub found_lowest : (f k g v : ℕ) → lowest_from w f k ≡ says_broken g v → Lowest f g v
  unfolding lowest_from
  found_lowest f zero g v e = absurd (true≢false (ap (λ (x : Said). x.conforms) e))
  found_lowest f (suc k) g v e = go (w f) refl (found_lowest (suc f) k g v)
    where
      go : (n : ℕ) → w f ≡ n → (lowest_from w (suc f) k ≡ says_broken g v → Lowest (suc f) g v) → Lowest f g v
      go (suc n) t more =
          let d = sym (lowest_here f k n t) ∙ e in
          let m : (f ∷ []) ≡ (g ∷ []) = ap (λ (x : Said). x.feature) d in
          let q : f ≡ g = cc in
          let u : suc n ≡ v = ap (λ (x : Said). x.wrong) d in
          record { here = ap w (sym q) ∙ t ∙ u; some = λ z. omega arith; lower = λ h l j. absurd (omega arith) }
      go zero t more =
          let o = more (sym (lowest_past f k t) ∙ e) in
          record {
            here = o.here;
            some = o.some;
            lower = λ h l j. ⊎_elim (λ q. ap w {x = h} {y = f} (omega arith) ∙ t) (λ q. o.lower h (omega arith) j) (le_or_lt h f);
          }

-- what is wrong with each number decides it
pub lowest_same : (w v : ℕ → ℕ) → ((g : ℕ) → w g ≡ v g) → (f k : ℕ) → lowest_from w f k ≡ lowest_from v f k
unfolding lowest_from
lowest_same w v h f zero = refl
lowest_same w v h f (suc k) = go (v f) refl (lowest_same w v h (suc f) k)
  where
    go : (n : ℕ) → v f ≡ n → lowest_from w (suc f) k ≡ lowest_from v (suc f) k → lowest_from w f (suc k) ≡ lowest_from v f (suc k)
    go zero e more = lowest_past w f k (h f ∙ e) ∙ more ∙ sym (lowest_past v f k e)
    go (suc n) e more = lowest_here w f k n (h f ∙ e) ∙ sym (lowest_here v f k n e)
