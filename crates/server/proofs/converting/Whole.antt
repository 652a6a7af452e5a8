-- What a conversion answers: a count of bytes that are there and, with a buffer as long as the sheet, no 42. Assumes nothing.
use mathlib.Core.Path.{◌≡◌, refl, sym, ◌∙◌}
use mathlib.Core.List.{List}
use Prim.Native.Nat.{ℕ, zero, suc, ◌≤◌}
use native.Mathlib.Decide.{dec_le}
use native.Mathlib.Omega.{arith}
use lib.ListN.{length, drop, length-append}
use Rattle.base.specs.Lists.{Bytes}
use Rattle.refusal.specs.First.{unless}
use Rattle.refusal.proofs.First.{unless_none, unless_fault}
use Rattle.lent.specs.Maker.{refusing, making}
use Rattle.layout.specs.declared.Layout.{Layout}
use Rattle.layout.specs.Layout.{Sheet, sheet_size}
use Rattle.layout.specs.Contents.{laid}
use Rattle.sheet.specs.Check.{verdict}
use Rattle.convert.specs.Convert.{converted}
use Rattle.convert.proofs.Converted.{converted_fault, converted_short, converted_made}

pub record Answered (l : Layout) (s : Sheet) (d : List ℕ) : Type 0 where
  pub whole : sheet_size s ≤ length d → converted l s d ≡ unless (verdict s) (refusing d) (making (laid l s).bytes d)
  pub count : (converted l s d).made.count ≤ length (converted l s d).buffer

pub answered : (l : Layout) (s : Sheet) (d : List ℕ) → Bytes s.bytes → Answered l s d
unfolding refusing making
answered l s d b = go (verdict s).number refl
  where
    go : (n : ℕ) → (verdict s).number ≡ n → Answered l s d
    go zero e = record {
      whole = λ h. converted_made l s d b e h ∙ sym (unless_none (verdict s) (refusing d) (making (laid l s).bytes d) e);
      count = elim (dec_le (sheet_size s) (length d)) [
        | yes h ↦ rw (converted_made l s d b e h) (omega (arith, length-append (laid l s).bytes (drop (length (laid l s).bytes) d)))
        | no h ↦ rw (converted_short l s d b e (omega arith)) (omega arith)
      ];
    }
    go (suc n) e =
        let x = converted_fault l s d (λ z. omega arith) in
        record {
          whole = λ h. x ∙ sym (unless_fault (verdict s) (refusing d) (making (laid l s).bytes d) (λ z. omega arith));
          count = rw x (omega arith);
        }
