-- The answer of `spell`, case by case. Assumes nothing.
use borrow.Author.Tests.{lt-ltb, le-ltb, eq-eqb, ne_eqb}
use mathlib.Core.Path.{◌≡◌, refl, sym, ap, ap₂, ◌∙◌}
use mathlib.Core.List.{List, ◌++◌}
use Prim.Native.Nat.{ℕ, zero, suc, ◌≤◌, ◌<◌}
use native.Mathlib.Nat.{zero-add}
use native.Mathlib.Omega.{arith}
use lib.ListN.{length, drop}
use lib.Seq.{sets-eq}
use Rattle.hex_text.specs.declared.Spelt.{Spelt}
use Rattle.hex_text.specs.Chars.{choose}
use Rattle.hex_text.specs.Text.{Spelling, outcome, given}
use Rattle.hex_text.specs.inner.Walk.{finished, Walked}
use Rattle.hex_text.proofs.Cases.{choose_yes, choose_no}
use Rattle.hex_text.proofs.Puts.{finished_none}

-- what the answer's line says of the spelling's
told_zero : (x : Spelling) (r : Spelt) (count : ℕ) → r ≡ finished x count → r.line ≡ x.line
unfolding finished
told_zero x r count e = go x.line refl
  where
    go : (n : ℕ) → x.line ≡ n → r.line ≡ x.line
    go zero z = ap (λ (y : Spelt). y.line) (e ∙ choose_yes _ _ _ (eq-eqb x.line 0 z)) ∙ sym z
    go (suc n) z = ap (λ (y : Spelt). y.line) (e ∙ choose_no _ _ _ (ne_eqb x.line 0 (λ o. omega arith)))

module _ {x : Spelling} {n f : List ℕ} {r : Spelt} (w : Walked x n r f) (d : List ℕ) where
  line_same : r.line ≡ x.line
  line_same = told_zero x r _ w.told

  pub given_refused : (r.line ≡ 0 → ⊥) → outcome r d ≡ given x d
  unfolding given finished
  given_refused h =
      let z : x.line ≡ 0 → ⊥ = λ o. h (line_same ∙ o) in
      ap (λ (y : Spelt). outcome y d) (w.told ∙ choose_no _ _ _ (ne_eqb x.line 0 z)) ∙ sym (choose_no _ _ _ (ne_eqb x.line 0 z))

  told_count : r.line ≡ 0 → r ≡ record { line = 0; count = length x.bytes }
  told_count h = w.told ∙ finished_none x _ (sym line_same ∙ h)

  pub given_short : r.line ≡ 0 → length d < r.count → outcome r d ≡ given x d
  unfolding given choose
  given_short h k =
      let t = told_count h in
      let m : length d < length x.bytes = omega (arith, ap (λ (y : Spelt). y.count) t) in
      rw (eq-eqb x.line 0 (sym line_same ∙ h), lt-ltb (length d) (length x.bytes) m) (ap (λ (y : Spelt). outcome y d) t)

  pub given_made : {q : Spelt} {e : List ℕ} → r.line ≡ 0 → r.count ≤ length d → Walked x d q e → outcome q e ≡ given x d
  unfolding given choose
  given_made {q} {e} h k v =
      let t = told_count h in
      let z : x.line ≡ 0 = sym line_same ∙ h in
      let m : length x.bytes ≤ length d = omega (arith, ap (λ (y : Spelt). y.count) t) in
      let b : e ≡ x.bytes ++ drop (length x.bytes) d = v.holds z ∙ rw zero-add at (sets-eq x.bytes d 0 (omega arith)) in
      rw (eq-eqb x.line 0 z, le-ltb (length d) (length x.bytes) m) (ap₂ outcome (v.told ∙ finished_none x _ z) b)
