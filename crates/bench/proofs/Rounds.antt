-- The rounds that a sweep makes, from what each takes. Assumes nothing.
use mathlib.Core.Path.{◌≡◌, refl, sym, ap, ◌∙◌}
use mathlib.Core.List.{List, [], ◌∷◌, ◌++◌, append-nil}
use Prim.Native.Nat.{ℕ, suc, ◌+◌, ◌<◌}
use native.Mathlib.Omega.{arith}
use lib.ListN.{length, length-append}
use Rattle.base.specs.Lists.{flat}
use Rattle.text.specs.Drive.{Desc, Drive, Sound}
use Rattle.text.specs.Response.{bytes, selected}
use Rattle.text.specs.Reading.{last_number}
use Rattle.text.specs.Packing.{groups}
use Rattle.text.proofs.Packing.{whole_rest, groups_more, flat_parts}
use Rattle.text.proofs.Next.{selected_next, last_append}
use Rattle.bench.specs.Swept.{room, last_of, next_start}
use Rattle.bench.proofs.Round.{fits, left, gain, later, plan}

-- the starts of rounds that take these, the first from f
unfoldable pub starts_of : ℕ → List (List Desc) → List ℕ
starts_of f [] = []
starts_of f (g ∷ gs) = f ∷ starts_of (last_number g + 1) gs

pub length_starts_of : (f : ℕ) (gs : List (List Desc)) → length (starts_of f gs) ≡ length gs
unfolding starts_of
length_starts_of f [] = refl
length_starts_of f (g ∷ gs) = ap suc (length_starts_of (last_number g + 1) gs)

-- behind two lists
pub behind_append : (f : ℕ) (xs ys : List Desc) → 0 < length xs → next_start (last_number xs + 1) ys ≡ next_start f (xs ++ ys)
unfolding next_start
behind_append f [] ys h = absurd (omega arith)
behind_append f (x ∷ xs) [] h = ap (next_start f) (sym (append-nil (x ∷ xs)))
behind_append f (x ∷ xs) (y ∷ ys) h = ap (λ (n : ℕ). n + 1) (sym (last_append (x ∷ xs) (y ∷ ys) (omega arith)))

-- the last of a list that is not empty
pub last_some : (y z : ℕ) (ts : List ℕ) → 0 < length ts → last_of y ts ≡ last_of z ts
unfolding last_of
last_some y z [] h = absurd (omega arith)
last_some y z (t ∷ ts) h = refl

-- ---- a round from f, and those behind it

module _ {m : Drive} (good : Sound m) (rt a f : ℕ) (two : rt < 2) (h : 0 < length (fits m rt a f)) where
  -- what is wanted from f on: what this round takes, and what is wanted from the next start on
  pub selected_split : selected rt f m ≡ fits m rt a f ++ selected rt (later m rt a f) m
  selected_split = sym (whole_rest (room a) (selected rt f m)) ∙ ap (λ (r : List Desc). fits m rt a f ++ r) (sym (selected_next good rt (room a) f h two))

  pub selected_count : length (selected rt f m) ≡ length (fits m rt a f) + length (selected rt (later m rt a f) m)
  selected_count = ap length selected_split ∙ length-append (fits m rt a f) (selected rt (later m rt a f) m)

  pub selected_bytes : length (flat bytes (selected rt f m)) ≡ gain m rt a f + length (flat bytes (selected rt (later m rt a f) m))
  selected_bytes = flat_parts (room a) (selected rt f m) ∙ ap (λ (r : List Desc). gain m rt a f + length (flat bytes r)) (sym (selected_next good rt (room a) f h two))

  pub plan_more : (x : Desc) (xs : List Desc) → left m rt a f ≡ x ∷ xs → (n : ℕ)
      → plan m rt a (suc n) f ≡ fits m rt a f ∷ plan m rt a n (later m rt a f)
  plan_more x xs l n =
      groups_more (room a) n (selected rt f m) x xs l
      ∙ ap (λ (r : List Desc). fits m rt a f ∷ groups (room a) n r) (sym (selected_next good rt (room a) f h two ∙ l))
