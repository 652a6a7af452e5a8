-- What of its bytes a command's refusal and its meaning depend on, once over its length: bytes 0 to 8. Assumes nothing.
use mathlib.Core.Path.{◌≡◌, sym, ap, ◌∙◌}
use mathlib.Core.List.{List, [], ◌∷◌, ◌++◌}
use Prim.Native.Nat.{ℕ, ◌+◌, ◌%◌, ◌≤◌, ◌<◌}
use native.Mathlib.Omega.{arith}
use lib.ListN.{length, take, get_or, length-append}
use lib.Seq.{get_or-take, take-take, take-append_seam}
use Rattle.fields.specs.Field.{field}
use Rattle.fields.proofs.Laws.{field_take}
use Rattle.command.specs.Command.{opcode_of, rt_of, sfn_of, allocation_of, command_length, command_fault, command_of, SameAsked}

module _ (c e : List ℕ) (same : SameAsked c e) where
  byte_same : (i : ℕ) → i < 9 → get_or c i 0 ≡ get_or e i 0
  byte_same i h = sym (get_or-take 9 c i 0 h) ∙ ap (λ (l : List ℕ). get_or l i 0) same.front ∙ get_or-take 9 e i 0 h

  field_same : (at : ℕ) → at + 2 ≤ 9 → field 2 c at ≡ field 2 e at
  field_same at h = sym (field_take 2 9 c at h) ∙ ap (λ (l : List ℕ). field 2 l at) same.front ∙ field_take 2 9 e at h

  pub same_rt : rt_of c ≡ rt_of e
  unfolding rt_of
  same_rt = ap (λ (b : ℕ). b % 4) (byte_same 1 (omega arith))

  pub same_sfn : sfn_of c ≡ sfn_of e
  unfolding sfn_of
  same_sfn = field_same 2 (omega arith)

  pub same_allocation : allocation_of c ≡ allocation_of e
  unfolding allocation_of
  same_allocation = field_same 7 (omega arith)

  -- its refusal, and what it asks for
  pub same_fault : command_fault c ≡ command_fault e
  unfolding command_fault opcode_of
  same_fault = rw (same.one, same.other, byte_same 0 (omega arith), same_rt)

  pub same_command : command_of c ≡ command_of e
  unfolding command_of
  same_command = rw (same_rt, same_sfn, same_allocation)

-- In particular a command of 10 bytes and the same with two pads behind it, whatever they are.
pub padded_same : (c : List ℕ) (p q : ℕ) → length c ≡ 10 → SameAsked c (c ++ p ∷ q ∷ [])
unfolding command_length
padded_same c p q h = record {
  one = rw h;
  other = rw (length-append c (p ∷ q ∷ []), h);
  front = ap (take 9) (sym (take-append_seam c (p ∷ q ∷ []))) ∙ take-take 9 (length c) (c ++ p ∷ q ∷ []) (omega arith);
}
