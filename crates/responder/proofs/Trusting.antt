-- What a box answers that does not check its sheet: from an accepted sheet the answer is the one defined by what the sheet means. Assumes nothing.
use mathlib.Core.Path.{◌≡◌, refl, sym, ap, ap₂, ◌∙◌}
use mathlib.Core.List.{List}
use Prim.Native.Nat.{ℕ, min}
use lib.Dec.{ltb}
use lib.ListN.{length, take}
use Rattle.base.specs.Lists.{Bytes}
use Rattle.base.proofs.Lists.{take_prefix}
use Rattle.lent.specs.Maker.{refusing, making, makes}
use Rattle.lent.proofs.Maker.{makes_after}
use Rattle.refusal.specs.declared.Refusal.{Refusal}
use Rattle.refusal.specs.First.{refuse, accept, ◌if◌else◌, unless}
use Rattle.command.specs.Command.{command_fault, rt_of, sfn_of, allocation_of}
use Rattle.text.specs.Response.{full, most, sent}
use Rattle.refusal.proofs.First.{if_plain, or_else_none, or_else_accept, unless_none, unless_fault}
use Rattle.text.proofs.Sent.{length_sent}
use Rattle.layout.specs.Layout.{Sheet}
use Rattle.sheet.specs.Check.{verdict, Accepted}
use Rattle.sheet.specs.Meaning.{meaning}
use Rattle.responder.specs.Answer.{due, requested, commanded, answered}
use Rattle.responder.specs.inner.Index.{taken_from, taken_size, plan_of, full_bytes, limit}
use Rattle.responder.specs.Sized.{sized}
use Rattle.responder.specs.Trusting.{trusting, trusting_command}
use Rattle.responder.proofs.Full.{found_length, found_full}

-- a command's refusal has no place
command_plain : (c : List ℕ) → (command_fault c).place ≡ 0
unfolding command_fault
command_plain c = if_plain _ _ _ (if_plain _ _ _ (if_plain _ _ _ refl))

-- ---- from an accepted sheet

module _ (s : Sheet) (b : Bytes s.bytes) (ok : Accepted s) where
  limit_sent : (rt sfn a : ℕ) → limit a (taken_size s rt sfn) ≡ length (sent rt sfn a (meaning s))
  unfolding limit
  limit_sent rt sfn a = sym (length_sent rt sfn a (meaning s) ∙ ap (min (most a)) (found_length s rt sfn b ok))

  found_sent : (rt sfn a : ℕ) → take (limit a (taken_size s rt sfn)) (full_bytes s (plan_of s rt sfn (taken_from s sfn) (taken_size s rt sfn))) ≡ sent rt sfn a (meaning s)
  unfolding sent
  found_sent rt sfn a = ap₂ take (limit_sent rt sfn a) (found_full s rt sfn b ok) ∙ sym (take_prefix (most a) (full rt sfn (meaning s)))

  pub trusting_accepted : (rt sfn a : ℕ) (d : List ℕ) → trusting s rt sfn a d ≡ requested s rt sfn a d
  unfolding trusting sized requested makes
  trusting_accepted rt sfn a d =
      ap₂ (λ (n : ℕ) (xs : List ℕ). unless (refuse 12 if ltb (length d) n else accept) (refusing d) (making xs d)) (limit_sent rt sfn a) (found_sent rt sfn a)
      ∙ ap (λ (r : Refusal). unless r (refusing d) (making (sent rt sfn a (meaning s)) d)) (sym (or_else_none accept _ refl))

  pub trusting_commanded : (c d : List ℕ) → trusting_command s c d ≡ commanded s c d
  unfolding trusting_command commanded requested
  trusting_commanded c d =
      ap (unless (command_fault c) (refusing d)) (trusting_accepted (rt_of c) (sfn_of c) (allocation_of c) d)
      ∙ sym (makes_after (command_fault c) accept 12 (due s c) d)
      ∙ ap (λ (r : Refusal). makes r 12 (due s c) d) (or_else_accept (command_fault c) (command_plain c))

-- ---- the checked entry

-- the sheet's refusal, or what the command is answered
pub answered_after : (s : Sheet) (c d : List ℕ) → answered s c d ≡ unless (verdict s) (refusing d) (commanded s c d)
unfolding answered commanded
answered_after s c d = makes_after (verdict s) (command_fault c) 12 (due s c) d

-- by what the check of the sheet says
pub answered_refused : (s : Sheet) (c d : List ℕ) → ((verdict s).number ≡ 0 → ⊥) → answered s c d ≡ refusing d (verdict s)
answered_refused s c d h = answered_after s c d ∙ unless_fault (verdict s) (refusing d) (commanded s c d) h

pub answered_trusted : (s : Sheet) → Bytes s.bytes → Accepted s → (c d : List ℕ) → trusting_command s c d ≡ answered s c d
answered_trusted s b ok c d = trusting_commanded s b ok c d ∙ sym (answered_after s c d ∙ unless_none (verdict s) (refusing d) (commanded s c d) ok)
