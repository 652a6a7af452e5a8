-- `capture::sheet_fault` meets its contract: the profiles' refusal, none where no flags are odd, or the flags'.
use Rattle.capture.proofs.Faults.{sheet_profiles, sheet_clean, sheet_flags, body_records}
use native.Mathlib.Omega.{arith}
use Rattle.capture.proofs.sheet_fault.Goals as goal

pub returns-then-fault-ne0 : goal.returns-then-fault-ne0
returns-then-fault-ne0 c = sheet_profiles c.args.s.now c.requires.0 _ c.body_at.ensures.holds _ (body_records _ _ _ _ (λ i. omega (arith, c.type_inv.s i)) c.body_at.ensures.holds c.fault-fault.ensures) c.if-fault-ne0.true

pub returns-then-odd-eq0 : goal.returns-then-odd-eq0
returns-then-odd-eq0 c = sheet_clean c.args.s.now c.requires.0 _ c.body_at.ensures.holds _ (body_records _ _ _ _ (λ i. omega (arith, c.type_inv.s i)) c.body_at.ensures.holds c.fault-fault.ensures) c.if-fault-ne0.false _ c.requires.2 c.if-odd-eq0.true

pub returns : goal.returns
returns c = sheet_flags c.args.s.now c.requires.0 _ c.body_at.ensures.holds _ (body_records _ _ _ _ (λ i. omega (arith, c.type_inv.s i)) c.body_at.ensures.holds c.fault-fault.ensures) c.if-fault-ne0.false _ _ c.next_at.ensures c.flags_fault.ensures
