-- The lines of a text that is made of them. Assumes nothing.
use mathlib.Core.Path.{◌≡◌, refl, sym, ap, ◌∙◌}
use mathlib.Core.Bool.{Bool, true, false, true≢false}
use mathlib.Core.List.{List, [], ◌∷◌, ◌++◌}
use Prim.Native.Nat.{ℕ, zero, suc}
use native.Mathlib.Omega.{arith}
use lib.Dec.{eqb}
use lib.ListN.{get_or}
use Rattle.meanings.specs.Lines.{lines_left, behind_lines, up_to_end, text_line}
use Rattle.meanings.proofs.Laws.{behind_none}
use Rattle.meanings.specs.Meanings.{sentences, sentence}

-- each line with its end
unfoldable pub joined : List (List ℕ) → List ℕ
joined [] = []
joined (l ∷ ls) = l ++ 10 ∷ joined ls

-- no line end in a line, in any of several
unfoldable has_no_end : List ℕ → Bool
has_no_end [] = true
has_no_end (x ∷ l) = elim (eqb x 10) [ true ↦ false | false ↦ has_no_end l ]

unfoldable clean : List (List ℕ) → Bool
clean [] = true
clean (l ∷ ls) = elim (has_no_end l) [ true ↦ clean ls | false ↦ false ]

module _ (r : List ℕ) where
  upto_line : (l : List ℕ) → has_no_end l ≡ true → up_to_end (l ++ 10 ∷ r) ≡ l
  unfolding has_no_end up_to_end
  upto_line [] c = refl
  upto_line (x ∷ l) c = go (eqb x 10) refl (upto_line l)
    where
      go : (t : Bool) → eqb x 10 ≡ t → (has_no_end l ≡ true → up_to_end (l ++ 10 ∷ r) ≡ l) → up_to_end ((x ∷ l) ++ 10 ∷ r) ≡ x ∷ l
      go true e i = absurd (true≢false (sym c ∙ rw (e, has_no_end)))
      go false e i = rw (e, up_to_end) (ap (λ (m : List ℕ). x ∷ m) (i (sym (rw (e, has_no_end)) ∙ c)))

  behind_line : (n : ℕ) (l : List ℕ) → has_no_end l ≡ true → behind_lines (l ++ 10 ∷ r) (suc n) ≡ behind_lines r n
  unfolding has_no_end behind_lines lines_left
  behind_line n [] c = ap (behind_lines r) (omega arith)
  behind_line n (x ∷ l) c = go (eqb x 10) refl (behind_line n l)
    where
      go : (t : Bool) → eqb x 10 ≡ t → (has_no_end l ≡ true → behind_lines (l ++ 10 ∷ r) (suc n) ≡ behind_lines r n) → behind_lines ((x ∷ l) ++ 10 ∷ r) (suc n) ≡ behind_lines r n
      go true e i = absurd (true≢false (sym c ∙ rw (e, has_no_end)))
      go false e i = rw (e, behind_lines, lines_left) (i (sym (rw (e, has_no_end)) ∙ c))

-- the lines of a text that was made of them
line_joined : (n : ℕ) (ls : List (List ℕ)) → clean ls ≡ true → text_line n (joined ls) ≡ get_or ls n []
unfolding clean joined text_line behind_lines up_to_end
line_joined zero [] c = refl
line_joined (suc n) [] c = refl
line_joined n (l ∷ ls) c = go n (has_no_end l) refl (λ m d. line_joined m ls d)
  where
    go : (n : ℕ) (t : Bool) → has_no_end l ≡ t → ((m : ℕ) → clean ls ≡ true → text_line m (joined ls) ≡ get_or ls m []) → text_line n (joined (l ∷ ls)) ≡ get_or (l ∷ ls) n []
    go n false e i = absurd (true≢false (sym c ∙ rw (e, clean)))
    go zero true e i = ap up_to_end (behind_none (l ++ 10 ∷ joined ls)) ∙ upto_line (joined ls) l e
    go (suc n) true e i = ap up_to_end (behind_line (joined ls) n l e) ∙ i n (sym (rw (e, clean)) ∙ c)

-- that of a number is its sentence
pub sentence_line : (n : ℕ) → text_line n (joined sentences) ≡ sentence n
unfolding clean has_no_end sentences sentence
sentence_line n = line_joined n sentences refl
