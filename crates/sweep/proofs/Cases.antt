-- A step case by case: what a refusal leaves, what an accepted response says and leaves. Assumes nothing.
use mathlib.Core.Path.{◌≡◌, refl, ap, sym, ◌∙◌}
use mathlib.Core.Bool.{Bool, true, false, ◌&&◌}
use mathlib.Core.List.{List}
use Prim.Native.Nat.{ℕ, zero, suc, ◌+◌, ◌≤◌, ◌<◌}
use native.Mathlib.Omega.{arith}
use lib.Dec.{ltb, eqb}
use lib.ListN.{length}
use borrow.Author.Tests.{ltb-false, eqb-false}
use Rattle.base.specs.Lists.{flat}
use Rattle.refusal.specs.declared.Refusal.{Refusal}
use Rattle.refusal.specs.First.{refuse, accept, ◌if◌else◌, ◌or_else◌}
use Rattle.text.specs.Response.{bytes, header_length, most}
use Rattle.text.specs.Reading.{read_fault, last_number}
use Rattle.refusal.proofs.First.{if_zero, or_else_none, or_else_fault, or_else_assoc, or_else_zero, unless_none, unless_fault, or_else_accepts, rule_accepts}
use Rattle.sweep.specs.declared.Sweep.{Sweep}
use Rattle.sweep.specs.Sweep.{step, start_rule, fresh, started, cut, wholes_of, changed, room_rule, take_fault, ended_now, ends_sweep, left_by, turn, taking, stepped}
use Rattle.sweep.specs.inner.Numbers.{closed_rule}
use Rattle.sweep.proofs.Numbers.{start_fault, start_fresh}

-- ---- starting

-- what holds of a fresh record and of one that has ended with all numbers 0 holds of a started one
pub started_cases : (rt a : ℕ) (P : Sweep → Type 0) → P (fresh rt a) → P (ended_now (fresh 0 0)) → P (started rt a).sweep
started_cases rt a P p q = go (start_rule rt a).number refl
  where
    go : (n : ℕ) → (start_rule rt a).number ≡ n → P (started rt a).sweep
    go zero e = rw (← start_fresh rt a (start_rule rt a) refl e) p
    go (suc n) e = rw (← start_fault rt a (start_rule rt a) refl (λ z. omega arith)) q

-- ---- a response

module _ (w : Sweep) (s out : List ℕ) where
  -- refused
  pub stepped_fault : ((take_fault w s (length out)).number ≡ 0 → ⊥) → stepped w s out ≡ turn (step (take_fault w s (length out)) (left_by (take_fault w s (length out)) w)) out
  unfolding stepped
  stepped_fault h = unless_fault (take_fault w s (length out)) _ _ h

  -- accepted
  pub stepped_none : (take_fault w s (length out)).number ≡ 0 → stepped w s out ≡ taking w s (wholes_of w s) out
  unfolding stepped
  stepped_none h = unless_none (take_fault w s (length out)) _ _ h

  -- and then there is no refusal at all
  pub take_accepts : (take_fault w s (length out)).number ≡ 0 → take_fault w s (length out) ≡ accept
  unfolding take_fault
  take_accepts e =
      or_else_accepts _ _ (rule_accepts _ _ _ (rule_accepts _ _ _ (or_else_accepts _ _ (rule_accepts _ _ _ (rule_accepts _ _ _ (rule_accepts _ _ _ (rule_accepts _ _ _ (rule_accepts _ _ _ (λ z. refl))))))))) e

  -- the refusal, whatever comes of it
  pub step_refusal : (stepped w s out).step.refusal ≡ take_fault w s (length out)
  unfolding taking
  step_refusal = go (take_fault w s (length out)).number refl
    where
      go : (n : ℕ) → (take_fault w s (length out)).number ≡ n → (stepped w s out).step.refusal ≡ take_fault w s (length out)
      go zero e = rw (stepped_none e) (sym (take_accepts e))
      go (suc n) e = rw (stepped_fault (λ z. omega arith)) refl

-- what its acceptance says
pub record Taken (w : Sweep) (s : List ℕ) (room : ℕ) : Type 0 where
  pub kind : w.rt < 2
  pub eight : header_length ≤ w.allocation
  pub going : w.ended ≡ false
  pub few : w.commands ≤ 65535
  pub read : (read_fault (most w.allocation) w.rt w.next.0 s).number ≡ 0
  pub full : cut s ≡ true → most w.allocation ≤ length s
  pub same : changed w s ≡ false
  pub some : cut s ≡ true → 0 < length (wholes_of w s)
  pub below : cut s ≡ true → last_number (wholes_of w s) ≡ 65535 → ⊥
  pub fits : w.collected + length (flat bytes (wholes_of w s)) ≤ room

pub taken_facts : (w : Sweep) (s : List ℕ) (room : ℕ) → (take_fault w s room).number ≡ 0 → Taken w s room
unfolding take_fault start_rule
taken_facts w s room h =
    let r = if_zero _ _ _ (or_else_zero _ _ h).0 in
    let a = if_zero _ _ _ (or_else_zero _ _ h).1 in
    let b = if_zero _ _ _ a.1 in
    let c = or_else_zero _ _ b.1 in
    let e = if_zero _ _ _ c.1 in
    let k = if_zero _ _ _ e.1 in
    let f = if_zero _ _ _ k.1 in
    let g = if_zero _ _ _ f.1 in
    record {
      kind = omega (arith, ltb-false 1 w.rt r.0);
      eight = ltb-false w.allocation header_length (if_zero _ _ _ r.1).0;
      going = a.0;
      few = ltb-false 65535 w.commands b.0;
      read = c.0;
      full = λ q. ltb-false (length s) (most w.allocation) (only (ltb (length s) (most w.allocation)) q e.0);
      same = k.0;
      some = λ q. omega (arith, eqb-false (length (wholes_of w s)) 0 (only (eqb (length (wholes_of w s)) 0) q f.0));
      below = λ q. eqb-false (last_number (wholes_of w s)) 65535 (only (eqb (last_number (wholes_of w s)) 65535) q g.0);
      fits = ltb-false room (w.collected + length (flat bytes (wholes_of w s))) (if_zero _ _ _ g.1).0;
    }
  where
    only : (b : Bool) → cut s ≡ true → (cut s && b) ≡ false → b ≡ false
    only b q e = rw q at e

-- ---- what holds of a refused step, whether or not it ends the sweep, and of an accepted one, holds of every step

module _ (w : Sweep) (s out : List ℕ) (P : ℕ → Sweep → Type 0) where
  pub step_cases : ((e : ℕ) → P (suc e) w) → ((e : ℕ) → P (suc e) (ended_now w)) → ((take_fault w s (length out)).number ≡ 0 → P 0 (taking w s (wholes_of w s) out).step.sweep)
      → P (stepped w s out).step.refusal.number (stepped w s out).step.sweep
  unfolding left_by taking
  step_cases stays ends accepts = go (take_fault w s (length out)).number refl
    where
      mark : (n : ℕ) (b : Bool) → P (suc n) (elim b [ true ↦ ended_now w | false ↦ w ])
      mark n true = ends n
      mark n false = stays n

      go : (n : ℕ) → (take_fault w s (length out)).number ≡ n → P (stepped w s out).step.refusal.number (stepped w s out).step.sweep
      go zero e = rw (stepped_none w s out e) (accepts e)
      go (suc n) e = rw (stepped_fault w s out (λ z. omega arith), e) (mark n (ends_sweep record { number = suc n; place = (take_fault w s (length out)).place }))

-- ---- the chain in parts: the record's own refusals come first, then the reading's, then those of the room

open_first : (a b : Bool) (z : Refusal) → ((refuse 26 if a else refuse 26 if b else accept) or_else z) ≡ (refuse 26 if a else refuse 26 if b else z)
unfolding ◌if◌else◌
open_first true b z = or_else_fault (refuse 26) z (λ e. omega arith)
open_first false true z = or_else_fault (refuse 26) z (λ e. omega arith)
open_first false false z = or_else_none accept z refl

pub closed_first : (w : Sweep) (s : List ℕ) (room : ℕ)
    → take_fault w s room ≡ (closed_rule w or_else read_fault (most w.allocation) w.rt w.next.0 s or_else room_rule w s room)
unfolding take_fault closed_rule
closed_first w s room = sym (or_else_assoc _ _ _ ∙ ap (λ (r : Refusal). start_rule w.rt w.allocation or_else r) (open_first w.ended (ltb 65535 w.commands) _))
