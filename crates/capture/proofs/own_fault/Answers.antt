-- `capture::own_fault` meets its contract: each early return is a case of the rule.
use Rattle.refusal.proofs.First.{tests}
use Rattle.capture.proofs.Faults.{own_none, own_some}
use Rattle.capture.proofs.own_fault.Goals as goal

pub returns-then-s-le-LENGTH : goal.returns-then-s-le-LENGTH
returns-then-s-le-LENGTH c = search own_none

pub returns-then-first-ne0 : goal.returns-then-first-ne0
returns-then-first-ne0 c = rw (own_some c.args.s.now c.if-s-le-LENGTH.false) (search (tests, ← c.number_at-first.ensures))

pub returns-then-flags_at-ne3 : goal.returns-then-flags_at-ne3
returns-then-flags_at-ne3 c = rw (own_some c.args.s.now c.if-s-le-LENGTH.false) (search (tests, ← c.number_at-first.ensures, ← c.flags_at.ensures))

pub returns-then-get2-ne0 : goal.returns-then-get2-ne0
returns-then-get2-ne0 c = rw (own_some c.args.s.now c.if-s-le-LENGTH.false) (search (tests, ← c.number_at-first.ensures, ← c.flags_at.ensures, ← c.get2.ensures))

pub returns-then-stated-current : goal.returns-then-stated-current
returns-then-stated-current c = let early = c in
    rw (own_some early.args.s.now early.if-s-le-LENGTH.false) (search (tests, ← early.number_at-first.ensures, ← early.flags_at.ensures, ← c.get2.ensures, ← c.body_at.ensures.holds, ← c.current-current.ensures, ← c.get2-2.ensures))

pub returns : goal.returns
returns c = let early = c in
    rw (own_some early.args.s.now early.if-s-le-LENGTH.false) (search (tests, ← early.number_at-first.ensures, ← early.flags_at.ensures, ← c.get2.ensures, ← c.body_at.ensures.holds, ← c.current-current.ensures, ← c.get2-2.ensures))
