-- `command::Command::build` meets its contract: 9, 11, 12, or the front of the packet.
use mathlib.Core.Path.{sym}
use lib.Seq.{length-take-le}
use Rattle.std.proofs.lemmas.Bool.{not_from_true, not_from_false}
use Rattle.command.proofs.Built.{long, other, refused_length, refused_rt, refused_short, front_written}
use Rattle.command.proofs.Command.build.Goals as goal

pub returns-then-not-admits : goal.returns-then-not-admits
returns-then-not-admits c = refused_length _ _ _ _ _ (other _ _ c.admits.ensures (not_from_false _ c.if-not-admits.true)) c.refused.ensures

pub returns-then-rt-gt2 : goal.returns-then-rt-gt2
returns-then-rt-gt2 c = refused_rt _ _ _ _ _ (long _ _ c.admits.ensures (not_from_true _ c.if-not-admits.false)) c.if-rt-gt2.true c.refused-then-rt-gt2.ensures

pub returns-then-out-length : goal.returns-then-out-length
returns-then-out-length c = let b = c in
    refused_short _ _ _ _ _ (long _ _ b.admits.ensures (not_from_true _ b.if-not-admits.false)) b.if-rt-gt2.false c.if-out-length.true c.refused-then-out-length.ensures

pub slice_bounds-put_packet-end-2 : goal.slice_bounds-put_packet-end-2
slice_bounds-put_packet-end-2 c = let a = c.args in
    sym (length-take-le a.length a.out.now c.if-out-length.false)

pub returns : goal.returns
returns c = let p = c in
    let b = p in
    front_written _ _ _ _ _ (long _ _ b.admits.ensures (not_from_true _ b.if-not-admits.false)) p.if-rt-gt2.false p.if-out-length.false p.put_packet-count.ensures c.written.ensures
