-- `bench::all_rounds` meets its contract: the loop carries the run from where it stands, the first entry and the bytes that are left, and how many of the
-- response buffer can be dirty; a refused round, or the mark that it has ended, ends it.
use mathlib.Core.Path.{sym, ◌∙◌}
use native.Mathlib.Omega.{arith}
use borrow.Author.Tests.{not-true}
use Rattle.base.specs.Lists.{Bytes}
use Rattle.layout.specs.Layout.{stored}
use Rattle.sheet.proofs.Meaning.{meaning_fine}
use Rattle.responder.specs.inner.Index.{taken_from}
use Rattle.bench.proofs.Carried.{clean_all, taken_wanted, first_left}
use Rattle.bench.proofs.Loop.{standing_start, standing_room, standing_kept, standing_fault, standing_again, standing_less, standing_ended, along_gains, along_within, along_forward, along_again}
use Rattle.bench.proofs.all_rounds.Goals as goal

pub loop-sweep-init : goal.loop-sweep-init
unfolding taken_from
loop-sweep-init c = let o = c in
    let bytes : Bytes o.args.s.now = (λ i. omega (arith, c.type_inv.s i)) in
    (standing_start o.requires.2, record { size = λ _. c.size-left.ensures ∙ sym (taken_wanted (stored o.args.lay o.args.s.now) bytes o.requires.0 o.args.w); clean = clean_all o.args.response.now }, λ _. rw (← c.feature_count-n.ensures) c.first_from-from.ensures)

pub one_round-step-requires : goal.one_round-step-requires
one_round-step-requires c = let early = c in
    let o = early in
    let inv = c.loop-sweep.invariant in
    let goes = not-true _ c.loop-sweep-test.true in
    (o.requires.0, standing_room inv.0 o.requires.1, inv.1.size goes, inv.1.clean, inv.2 goes)

pub shape_of-response-then-fault-ne0 : goal.shape_of-response-then-fault-ne0
shape_of-response-then-fault-ne0 c = let k = c in (standing_kept k.loop-sweep.invariant.0 k.loop-sweep-test.true k.one_round-step.ensures).response

pub shape_of-collected-then-fault-ne0 : goal.shape_of-collected-then-fault-ne0
shape_of-collected-then-fault-ne0 c = let k = c in (standing_kept k.loop-sweep.invariant.0 k.loop-sweep-test.true k.one_round-step.ensures).collected

pub shape_of-starts-then-fault-ne0 : goal.shape_of-starts-then-fault-ne0
shape_of-starts-then-fault-ne0 c = let k = c in (standing_kept k.loop-sweep.invariant.0 k.loop-sweep-test.true k.one_round-step.ensures).starts

pub returns-then-fault-ne0 : goal.returns-then-fault-ne0
returns-then-fault-ne0 c = let k = c in standing_fault k.loop-sweep.invariant.0 k.loop-sweep-test.true k.one_round-step.ensures c.if-fault-ne0.true

pub overflow_sub-left : goal.overflow_sub-left
overflow_sub-left c = let k = c in
    let m = k in let o = m in
    along_gains k.loop-sweep.invariant.0 k.loop-sweep-test.true k.one_round-step.ensures c.if-fault-ne0.false (meaning_fine (stored o.args.lay o.args.s.now) (λ i. (m.type_inv.s i).fits) o.requires.0).sound o.requires.1 k.loop-sweep.invariant.1

pub overflow_sub-left-in-loop-sweep : goal.overflow_sub-left-in-loop-sweep
overflow_sub-left-in-loop-sweep c = let k = c in
    let m = k in let o = m in
    along_within k.loop-sweep.invariant.0 k.loop-sweep-test.true k.one_round-step.ensures c.if-fault-ne0.false (meaning_fine (stored o.args.lay o.args.s.now) (λ i. (m.type_inv.s i).fits) o.requires.0).sound o.requires.1 k.loop-sweep.invariant.1

pub loop-sweep-smaller : goal.loop-sweep-smaller
loop-sweep-smaller c = let early = c in
    let k = early in standing_less k.loop-sweep.invariant.0 k.loop-sweep-test.true k.one_round-step.ensures c.if-fault-ne0.false

pub loop-sweep-preserved : goal.loop-sweep-preserved
loop-sweep-preserved c = let early = c in
    let origin = early in
    let k = early in
    let o = origin in
    let bytes : Bytes o.args.s.now = (λ i. omega (arith, origin.type_inv.s i)) in
    let forward = along_forward k.loop-sweep.invariant.0 k.loop-sweep-test.true k.one_round-step.ensures c.if-fault-ne0.false (meaning_fine (stored o.args.lay o.args.s.now) bytes o.requires.0).sound in
    let was = k.loop-sweep.invariant.2 (not-true _ k.loop-sweep-test.true) in
    (standing_again k.loop-sweep.invariant.0 k.loop-sweep-test.true k.one_round-step.ensures c.if-fault-ne0.false, along_again k.loop-sweep.invariant.0 k.loop-sweep-test.true k.one_round-step.ensures c.if-fault-ne0.false (meaning_fine (stored o.args.lay o.args.s.now) bytes o.requires.0).sound o.requires.1 k.loop-sweep.invariant.1 origin.most-most.ensures, λ e. first_left (stored o.args.lay o.args.s.now) bytes o.requires.0 origin.feature_count-n.ensures was (forward e) c.next_from-from.ensures)

pub shape_of-response : goal.shape_of-response
shape_of-response c = c.loop-sweep.invariant.0.kept.response

pub shape_of-collected : goal.shape_of-collected
shape_of-collected c = c.loop-sweep.invariant.0.kept.collected

pub shape_of-starts : goal.shape_of-starts
shape_of-starts c = c.loop-sweep.invariant.0.kept.starts

pub returns : goal.returns
returns c = standing_ended c.loop-sweep.invariant.0 c.loop-sweep-test.false
