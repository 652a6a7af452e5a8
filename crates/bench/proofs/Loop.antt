-- What the functions inside the bench sweep need: the refusal before any round, a round, the loop over the rounds, the outcome. Assumes nothing.
use mathlib.Core.Path.{◌≡◌, refl, sym, ap, ap₂, ◌∙◌}
use mathlib.Core.Bool.{true, false, not}
use mathlib.Core.List.{List, [], ◌∷◌}
use Prim.Native.Nat.{ℕ, ◌+◌, ◌-◌, ◌≤◌, ◌<◌}
use native.Mathlib.Omega.{arith}
use lib.Dec.{ltb}
use lib.ListN.{length, take, set, replicate}
use borrow.Author.Tests.{ltb-false, not-true, not-false}
use Rattle.base.specs.Lists.{Bytes}
use Rattle.lent.specs.Wrote.{Wrote}
use Rattle.lent.proofs.Laws.{kept}
use Rattle.refusal.specs.declared.Refusal.{Refusal}
use Rattle.refusal.specs.First.{refuse, accept, unless}
use Rattle.text.specs.Drive.{Drive, Sound}
use Rattle.text.specs.Response.{sent, most}
use Rattle.refusal.proofs.First.{if_zero, or_else_zero, unless_none, unless_fault}
use Rattle.layout.specs.Layout.{Sheet}
use Rattle.sheet.specs.Check.{Accepted}
use Rattle.sheet.specs.Meaning.{meaning}
use Rattle.lent.specs.declared.Made.{Made}
use Rattle.lent.specs.Maker as maker
use Rattle.responder.specs.Answer as box
use Rattle.responder.specs.inner.Index.{taken_from, taken_size}
use Rattle.responder.specs.Sized.{sized}
use Rattle.responder.proofs.Trusting.{trusting_accepted}
use Rattle.responder.proofs.Sized.{sized_trusting}
use Rattle.sweep.specs.declared.Sweep.{Sweep}
use Rattle.sweep.specs.declared.Step.{Step}
use Rattle.sweep.specs.Sweep.{start_rule, fresh, started, advanced, ended_now, Turn, turn, taking, stepped}
use Rattle.sweep.proofs.Numbers.{start_fresh}
use Rattle.sweep.proofs.Cases.{step_cases}
use Rattle.bench.specs.Bench.{Buffers, buffers, State, state, Ending, ending, zeros, failing, succeeding, reply, filled, turn_at, round_fault, rounded, rounds, first_fault, benched}
use Rattle.bench.specs.inner.Loop.{run_from, SameLengths, Rounded, Ran}
use Rattle.bench.proofs.Asked.{sent_most, take_filled, asked}
use Rattle.bench.proofs.Run.{length_filled, round_full, round_room}
use Rattle.bench.proofs.Carried.{clean_filled, Carried, round_gains, round_within, round_forward, round_leaves}
use Rattle.bench.proofs.Turns.{onwards, onwards_ended, onwards_fault, onwards_round, round_commands, rounded_few}

-- ---- before any round

-- nothing is refused: the sheet is accepted, a sweep starts afresh, and there is room for a response
module _ (s : Sheet) (rt a n : ℕ) (e : (first_fault s rt a n).number ≡ 0) where
  first_accepted : Accepted s
  unfolding first_fault
  first_accepted = (or_else_zero _ _ e).0

  first_fresh : (started rt a).sweep ≡ fresh rt a
  unfolding first_fault
  first_fresh = sym (ap (λ (t : Step). t.sweep) (start_fresh rt a (start_rule rt a) refl (or_else_zero _ _ (or_else_zero _ _ e).1).0))

  first_room : most a ≤ n
  unfolding first_fault
  first_room = ltb-false n (most a) (if_zero 11 (ltb n (most a)) accept (or_else_zero _ _ (or_else_zero _ _ e).1).1).0

-- ---- a round

-- the box of a sheet that is accepted is asked into a buffer with room for a response
module _ (s : Sheet) (b : Bytes s.bytes) (ok : Accepted s) (rt f a : ℕ) (d : List ℕ) {from size : ℕ} {blank : List ℕ} {r : Made} {e : List ℕ} (room : most a ≤ length d) (clear : blank ≡ replicate (length d) 0)
    (found : from ≡ taken_from s f) (told : size ≡ taken_size s rt f) (q : maker.outcome r e ≡ sized s rt f a from size blank) where
  abbrev due : List ℕ
  due = sent rt f a (meaning s)

  answers : maker.outcome r e ≡ maker.outcome (maker.written (length due)) (filled due d)
  unfolding zeros
  answers = q ∙ ap₂ (λ (i k : ℕ). sized s rt f a i k blank) found told ∙ sized_trusting s rt f a blank ∙ trusting_accepted s b ok rt f a blank ∙ ap (box.requested s rt f a) clear ∙ asked s rt f a d room

  pub asked_count : r.count ≡ length due
  asked_count = ap (λ (o : maker.Outcome). o.made.count) answers

  pub asked_filled : e ≡ filled due d
  asked_filled = ap (λ (o : maker.Outcome). o.buffer) answers

  pub asked_length : length e ≡ length d
  asked_length = ap length asked_filled ∙ length_filled due d (omega (arith, sent_most rt f a (meaning s)))

  pub asked_room : r.count ≤ length e
  asked_room = omega (arith, asked_count, asked_length, sent_most rt f a (meaning s))

  -- just the bytes sent
  pub asked_part : take r.count e ≡ due
  asked_part = rw (asked_count, asked_filled) (take_filled due d)

same_lengths : {bs : Buffers} → SameLengths bs bs
same_lengths = record { response = refl; collected = refl; starts = refl }

-- no room for another start
pub round_short : {m : Drive} {w : Sweep} {bs : Buffers} → length bs.starts ≤ w.commands → Rounded m (state w bs) (refuse 25) (state w bs)
round_short {m} {w} {bs} h = record {
  fault = sym (round_full m (state w bs) h);
  stands = λ e. absurd (omega arith);
  kept = same_lengths;
}

-- the start is noted, the box is asked, the record takes the bytes sent
module _ (s : Sheet) (w : Sweep) (bs : Buffers) {blank e out noted : List ℕ} {r : Made} {n from size : ℕ} {t : Step} where
  pub round_asked : Bytes s.bytes → Accepted s → most w.allocation ≤ length bs.response → w.commands < length bs.starts → Wrote bs.starts w.commands (w.next.0 ∷ []) n noted
      → blank ≡ replicate (length bs.response) 0 → from ≡ taken_from s w.next.0 → size ≡ taken_size s w.rt w.next.0
      → maker.outcome r e ≡ sized s w.rt w.next.0 w.allocation from size blank
      → turn t out ≡ stepped w (take r.count e) bs.collected → length out ≡ length bs.collected
      → Rounded (meaning s) (state w bs) t.refusal (state t.sweep (buffers e out noted))
  unfolding rounded
  round_asked b ok room h wrote clear found told q took l =
      let part : take r.count e ≡ reply (meaning s) w = asked_part s b ok w.rt w.next.0 w.allocation bs.response room clear found told q in
      let did : turn t out ≡ turn_at (meaning s) (state w bs) = took ∙ ap (λ (x : List ℕ). stepped w x bs.collected) part in
      let fills : e ≡ filled (reply (meaning s) w) bs.response = asked_filled s b ok w.rt w.next.0 w.allocation bs.response room clear found told q in
      let notes : noted ≡ set bs.starts w.commands w.next.0 = wrote.holds in
      record {
        fault = ap (λ (x : Turn). x.step.refusal) did ∙ sym (round_room (meaning s) (state w bs) h);
        stands = λ _. ap (λ (x : Turn). state x.step.sweep (buffers e x.buffer noted)) did ∙ rw (fills, notes);
        kept = record { response = asked_length s b ok w.rt w.next.0 w.allocation bs.response room clear found told q; collected = l; starts = kept wrote };
      }

-- ---- the loop over the rounds

-- it stands at w, from `was` on
pub record Standing (m : Drive) (was w : State) : Type 0 where
  pub runs : onwards m was.buffers w ≡ run_from m was
  pub few : w.sweep.commands ≤ 65536
  pub allocation : w.sweep.allocation ≡ was.sweep.allocation
  pub kept : SameLengths was.buffers w.buffers

pub standing_start : {m : Drive} {was : State} → was.sweep.commands ≡ 0 → Standing m was was
standing_start {m} {was} e = record {
  runs = ap (λ (n : ℕ). rounds n m was.buffers was) (omega arith);
  few = omega arith;
  allocation = refl;
  kept = same_lengths;
}

-- there is room for a response still
pub standing_room : {m : Drive} {was w : State} → Standing m was w → most was.sweep.allocation ≤ length was.buffers.response → most w.sweep.allocation ≤ length w.buffers.response
standing_room at h = rw (at.allocation, at.kept.response) h

kept_then : {u v w : Buffers} → SameLengths u v → SameLengths v w → SameLengths u w
kept_then a b = record {
  response = b.response ∙ a.response;
  collected = b.collected ∙ a.collected;
  starts = b.starts ∙ a.starts;
}

rounded_allocation : (m : Drive) (w : State) → (rounded m w).sweep.allocation ≡ w.sweep.allocation
unfolding rounded ended_now taking advanced
rounded_allocation m w = step_cases w.sweep (reply m w.sweep) w.buffers.collected (λ (n : ℕ) (v : Sweep). v.allocation ≡ w.sweep.allocation) (λ e. refl) (λ e. refl) (λ e. refl)

module _ {m : Drive} {was w v : State} {r : Refusal} (at : Standing m was w) (test : not w.sweep.ended ≡ true) (did : Rounded m w r v) where
  goes : w.sweep.ended ≡ false
  goes = not-true w.sweep.ended test

  pub standing_kept : SameLengths was.buffers v.buffers
  standing_kept = kept_then at.kept did.kept

  -- a refusal ends it
  pub standing_fault : (r.number ≡ 0 → ⊥) → Ran m was r v
  standing_fault h = record {
    ends =
        unless_fault r (failing was.buffers) (succeeding v) h
        ∙ ap (failing was.buffers) did.fault
        ∙ sym (onwards_fault m was.buffers w at.few goes (λ z. h (ap (λ (k : Refusal). k.number) did.fault ∙ z)))
        ∙ at.runs;
    kept = standing_kept;
  }

  module _ (e : r.number ≡ 0) where
    fine : (round_fault m w).number ≡ 0
    fine = sym (ap (λ (k : Refusal). k.number) did.fault) ∙ e

    -- another turn
    pub standing_again : Standing m was v
    standing_again = record {
      runs = ap (onwards m was.buffers) (did.stands e) ∙ sym (onwards_round m was.buffers w goes fine) ∙ at.runs;
      few = rw (did.stands e) (rounded_few m w fine);
      allocation = ap (λ (x : State). x.sweep.allocation) (did.stands e) ∙ rounded_allocation m w ∙ at.allocation;
      kept = standing_kept;
    }

    pub standing_less : 65537 - v.sweep.commands < 65537 - w.sweep.commands
    standing_less =
        let k : v.sweep.commands ≡ w.sweep.commands + 1 = ap (λ (x : State). x.sweep.commands) (did.stands e) ∙ round_commands m w fine in
        omega (arith, standing_again.few)

    -- no start is lower than the one before
    pub along_forward : Sound m → v.sweep.ended ≡ false → w.sweep.next.0 ≤ v.sweep.next.0
    along_forward good = rw (did.stands e) (round_forward good w fine)

    -- what goes along
    module _ (good : Sound m) (room : most was.sweep.allocation ≤ length was.buffers.response) {left dirty : ℕ} (along : Carried m w left dirty) where
      pub along_gains : w.sweep.collected ≤ v.sweep.collected
      along_gains = rw (did.stands e) (round_gains good w fine)

      pub along_within : v.sweep.collected - w.sweep.collected ≤ left
      along_within = rw (did.stands e, along.size goes) (round_within good w fine)

      pub along_again : {n : ℕ} → n ≡ most was.sweep.allocation → Carried m v (left - (v.sweep.collected - w.sweep.collected)) n
      unfolding rounded
      along_again {n} q = rw (did.stands e, along.size goes) record {
        size = round_leaves good w fine;
        clean =
            clean_filled (reply m w.sweep) w.buffers.response n
            (omega (arith, q, at.allocation, sent_most w.sweep.rt w.sweep.next.0 w.sweep.allocation m))
            (omega (arith, q, room, at.kept.response));
      }

-- it has ended
pub standing_ended : {m : Drive} {was w : State} → Standing m was w → not w.sweep.ended ≡ false → Ran m was accept w
standing_ended {m} {was} {w} at test = record {
  ends = unless_none accept (failing was.buffers) (succeeding w) refl ∙ sym (onwards_ended m was.buffers w at.few (not-false w.sweep.ended test)) ∙ at.runs;
  kept = at.kept;
}

-- ---- the outcome

-- a refusal, whatever the buffers hold by then
refused_kept : (r : Refusal) {was bs : Buffers} → SameLengths was bs → failing bs r ≡ failing was r
unfolding failing zeros
refused_kept r k = rw (k.response, k.collected, k.starts)

module _ (s : Sheet) (rt a : ℕ) (bs : Buffers) {r : Refusal} (q : r ≡ first_fault s rt a (length bs.response)) where
  abbrev rest : Ending
  rest = run_from (meaning s) (state (fresh rt a) bs)

  opens : benched s rt a bs ≡ unless r (failing bs) rest
  unfolding benched
  opens = ap (λ (k : Refusal). unless k (failing bs) rest) (sym q)

  -- refused before any round
  pub bench_first : {o : Ending} → (r.number ≡ 0 → ⊥) → o ≡ failing bs r → o ≡ benched s rt a bs
  bench_first h e = e ∙ sym (opens ∙ unless_fault r (failing bs) rest h)

  module _ (h : r.number ≡ 0) {start : Step} (b : start ≡ started rt a) where
    accepts : (first_fault s rt a (length bs.response)).number ≡ 0
    accepts = sym (ap (λ (k : Refusal). k.number) q) ∙ h

    afresh : start.sweep ≡ fresh rt a
    afresh = ap (λ (x : Step). x.sweep) b ∙ first_fresh s rt a (length bs.response) accepts

    -- what the rounds ask for
    pub bench_ready : Accepted s × (most start.sweep.allocation ≤ length bs.response) × (start.sweep.commands ≡ 0)
    unfolding fresh
    bench_ready = rw afresh (first_accepted s rt a (length bs.response) accepts, first_room s rt a (length bs.response) accepts, refl)

    module _ {t : Refusal} {w : State} (ran : Ran (meaning s) (state start.sweep bs) t w) where
      ends : benched s rt a bs ≡ unless t (failing bs) (succeeding w)
      ends = opens ∙ unless_none r (failing bs) rest h ∙ ap (λ (x : Sweep). run_from (meaning s) (state x bs)) (sym afresh) ∙ sym ran.ends

      -- refused in a round
      pub bench_later : {o : Ending} → (t.number ≡ 0 → ⊥) → o ≡ failing w.buffers t → o ≡ benched s rt a bs
      bench_later k e = e ∙ refused_kept t ran.kept ∙ sym (ends ∙ unless_fault t (failing bs) (succeeding w) k)

      -- refused nowhere
      pub bench_done : t.number ≡ 0 → ending record { refusal = accept; commands = w.sweep.commands; collected = w.sweep.collected } w.buffers ≡ benched s rt a bs
      unfolding succeeding
      bench_done k = sym (ends ∙ unless_none t (failing bs) (succeeding w) k)
