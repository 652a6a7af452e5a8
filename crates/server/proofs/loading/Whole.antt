-- What loading answers with a buffer as long as the sheet: no 53, and a count of bytes that are there. Assumes nothing.
use mathlib.Core.Path.{◌≡◌, refl, sym, ◌∙◌}
use mathlib.Core.Logic.{⊎_elim}
use mathlib.Core.List.{List}
use Prim.Native.Nat.{ℕ, zero, suc, ◌≤◌, ◌<◌}
use native.Mathlib.Omega.{arith}
use lib.ListN.{length, drop, length-append}
use Rattle.base.specs.Lists.{Bytes}
use Rattle.base.proofs.Compare.{le_or_lt}
use Rattle.refusal.specs.First.{unless}
use Rattle.refusal.proofs.First.{unless_none, unless_fault}
use Rattle.lent.specs.Maker.{refusing, making}
use Rattle.layout.specs.Layout.{Sheet, sheet_size}
use Rattle.load.specs.Load.{load_fault, loaded, loading}
use Rattle.load.proofs.Put.{loading_fault, loading_short, loading_made}

pub record Answered (fs ps : List ℕ) (s : Sheet) (d : List ℕ) : Type 0 where
  pub whole : sheet_size s ≤ length d → loading fs ps s d ≡ unless (load_fault fs ps s) (refusing d) (making (loaded fs ps s).bytes d)
  pub count : (loading fs ps s d).made.count ≤ length (loading fs ps s d).buffer

pub answered : (fs ps : List ℕ) (s : Sheet) (d : List ℕ) → Bytes s.bytes → Answered fs ps s d
unfolding refusing making
answered fs ps s d b = go (load_fault fs ps s).number refl
  where
    bytes : List ℕ
    bytes = (loaded fs ps s).bytes

    go : (n : ℕ) → (load_fault fs ps s).number ≡ n → Answered fs ps s d
    go zero e = record {
      whole = λ h. loading_made fs ps s d b e h ∙ sym (unless_none (load_fault fs ps s) (refusing d) (making bytes d) e);
      count =
          ⊎_elim
          (λ (h : sheet_size s ≤ length d). rw (loading_made fs ps s d b e h) (omega (arith, length-append bytes (drop (length bytes) d))))
          (λ (h : length d < sheet_size s). rw (loading_short fs ps s d b e h) (omega arith))
          (le_or_lt (sheet_size s) (length d));
    }
    go (suc n) e =
        let x = loading_fault fs ps s d (λ z. omega arith) in
        record {
          whole = λ h. x ∙ sym (unless_fault (load_fault fs ps s) (refusing d) (making bytes d) (λ z. omega arith));
          count = rw x (omega arith);
        }
