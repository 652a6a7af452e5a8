-- What the box answers to any command with a buffer that has room for the longest answer: the sheet's refusal, then the command's, or the bytes due. Assumes nothing.
use mathlib.Core.Path.{◌≡◌, refl, sym, ◌∙◌}
use mathlib.Core.List.{List}
use Prim.Native.Nat.{ℕ, zero, suc, ◌≤◌}
use native.Mathlib.Omega.{arith}
use lib.ListN.{length, drop, length-append}
use Rattle.refusal.specs.declared.Refusal.{Refusal}
use Rattle.refusal.specs.First.{◌or_else◌, unless}
use Rattle.command.specs.Command.{command_fault, rt_of, sfn_of, allocation_of}
use Rattle.refusal.proofs.First.{unless_none, unless_fault}
use Rattle.lent.specs.Maker.{refusing, making}
use Rattle.lent.proofs.Maker.{makes_made, makes_fault}
use Rattle.text.proofs.Sent.{length_sent}
use Rattle.layout.specs.Layout.{Sheet}
use Rattle.sheet.specs.Check.{verdict}
use Rattle.sheet.specs.Meaning.{meaning}
use Rattle.responder.specs.Answer.{due, answered}

module _ (s : Sheet) (c d : List ℕ) (h : 65534 ≤ length d) where
  abbrev fault : Refusal
  fault = verdict s or_else command_fault c

  due_most : length (due s c) ≤ 65534
  due_most = omega (arith, length_sent (rt_of c) (sfn_of c) (allocation_of c) (meaning s))

  pub asked : answered s c d ≡ unless fault (refusing d) (making (due s c) d)
  unfolding answered
  asked = go fault.number refl
    where
      go : (n : ℕ) → fault.number ≡ n → answered s c d ≡ unless fault (refusing d) (making (due s c) d)
      go zero e = makes_made fault 12 (due s c) d e (omega (arith, due_most)) ∙ sym (unless_none fault (refusing d) (making (due s c) d) e)
      go (suc n) e = makes_fault fault 12 (due s c) d (λ z. omega arith) ∙ sym (unless_fault fault (refusing d) (making (due s c) d) (λ z. omega arith))

  -- a count of bytes that are there
  pub asked_count : (answered s c d).made.count ≤ length (answered s c d).buffer
  unfolding refusing making
  asked_count = rw asked (go fault.number refl)
    where
      go : (n : ℕ) → fault.number ≡ n → (unless fault (refusing d) (making (due s c) d)).made.count ≤ length (unless fault (refusing d) (making (due s c) d)).buffer
      go zero e = rw (unless_none fault (refusing d) (making (due s c) d) e) (omega (arith, length-append (due s c) (drop (length (due s c)) d)))
      go (suc n) e = rw (unless_fault fault (refusing d) (making (due s c) d) (λ z. omega arith)) (omega arith)
