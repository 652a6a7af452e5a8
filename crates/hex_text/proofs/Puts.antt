-- A byte that is put where one is spelt, and the answer at the end of the text. Assumes nothing.
use borrow.Author.Tests.{lt-ltb, le-ltb, eq-eqb, ne_eqb}
use mathlib.Core.Path.{◌≡◌, refl, sym, ap, ◌∙◌}
use mathlib.Core.Bool.{Bool, true, false}
use mathlib.Core.List.{List, [], ◌∷◌}
use Prim.Native.Nat.{ℕ, ◌≤◌, ◌<◌}
use native.Mathlib.Omega.{arith}
use native.Mathlib.Decide.{dec_lt}
use lib.ListN.{length}
use lib.Seq.{sets}
use Rattle.lent.specs.Wrote.{Wrote}
use Rattle.hex_text.specs.declared.State.{State}
use Rattle.hex_text.specs.declared.Spelt.{Spelt}
use Rattle.hex_text.specs.Chars.{line_at}
use Rattle.hex_text.specs.Text.{Spelling, some, ended}
use Rattle.hex_text.specs.inner.Walk.{finished}
use Rattle.hex_text.proofs.Cases.{choose_yes, choose_no}
use Rattle.hex_text.proofs.Lines.{line_some}

pub some_put : (p : Bool) (b at r : ℕ) (d e : List ℕ) → p ≡ true → Wrote d at (b ∷ []) r e → (1 ≡ length (some p b)) × (e ≡ sets d at (some p b))
unfolding some
some_put p b at r d e h w = rw h (refl, w.holds)

pub some_none : (p : Bool) (b at : ℕ) (d : List ℕ) → p ≡ false → (0 ≡ length (some p b)) × (d ≡ sets d at (some p b))
unfolding some
some_none p b at d h = rw h (refl, refl)

-- a line that is none is the answer
pub finished_line : (x : Spelling) (n count : ℕ) → x.line ≡ n → 1 ≤ n → finished x count ≡ record { line = n; count = 0 }
unfolding finished
finished_line x n count e h =
    choose_no _ _ _ (ne_eqb x.line 0 (λ z. omega arith)) ∙ ap (λ (l : ℕ). record { line = l; count = 0 }) e

pub finished_none : (x : Spelling) (count : ℕ) → x.line ≡ 0 → finished x count ≡ record { line = 0; count = count }
unfolding finished
finished_none x count e = choose_yes _ _ _ (eq-eqb x.line 0 e)

module _ (q : State) (s : List ℕ) (i : ℕ) where
  pub ended_half : q.half < 16 → ended q s i ≡ record { bytes = []; line = line_at s i }
  unfolding ended
  ended_half h = choose_yes _ _ _ (lt-ltb q.half 16 h)

  pub ended_whole : 16 ≤ q.half → ended q s i ≡ record { bytes = []; line = 0 }
  unfolding ended
  ended_whole h = choose_no _ _ _ (le-ltb q.half 16 h)

  pub finish_half : (count l : ℕ) → q.half < 16 → l ≡ line_at s i → ◌≡◌ {A = Spelt} (record { line = l; count = 0 }) (finished (ended q s i) count)
  finish_half count l h e =
      sym (finished_line (ended q s i) l count (ap (λ (x : Spelling). x.line) (ended_half h) ∙ sym e) (omega (arith, line_some s i)))

  pub finish_whole : (count : ℕ) → 16 ≤ q.half → ◌≡◌ {A = Spelt} (record { line = 0; count = count }) (finished (ended q s i) count)
  finish_whole count h = sym (finished_none (ended q s i) count (ap (λ (x : Spelling). x.line) (ended_whole h)))

  pub ended_bytes : (ended q s i).bytes ≡ []
  ended_bytes =
      elim (dec_lt q.half 16) [
        | yes h ↦ ap (λ (x : Spelling). x.bytes) (ended_half h)
        | no h ↦ ap (λ (x : Spelling). x.bytes) (ended_whole (omega arith))
      ]
