-- `reading::scan_judging` meets its contract: a refusal of the header or of the walk, or the walk's numbers.
use mathlib.Core.Path.{ap, ◌∙◌}
use Rattle.reading.specs.declared.WalkJudged.{WalkJudged}
use Rattle.reading.proofs.Outcome.{scan_room, scan_header, scan_walk, odd_header, odd_walk, judged_taken, both_scanned}
use Rattle.reading.proofs.scan_judging.Goals as goal

pub returns-then-fault-ne0 : goal.returns-then-fault-ne0
returns-then-fault-ne0 c = both_scanned (c.refusing-refused.ensures ∙ search scan_header) (search odd_header)

pub walk_judging-judged-requires : goal.walk_judging-judged-requires
walk_judging-judged-requires c = scan_room _ _ _ _ _ c.header_rule-fault.ensures c.if-fault-ne0.false

pub returns-in-Refused : goal.returns-in-Refused
returns-in-Refused c = let v = ap (λ (j : WalkJudged). j.walk) c.walk_judging-judged.ensures in
    both_scanned (c.refusing-refused-in-Refused.ensures ∙ search (scan_walk, v)) (search (odd_walk, v))

pub returns-in-Whole : goal.returns-in-Whole
returns-in-Whole c = let v = ap (λ (j : WalkJudged). j.walk) c.walk_judging-judged.ensures in
    let o = ap (λ (j : WalkJudged). j.odd) c.walk_judging-judged.ensures in
    judged_taken _ _ _ _ _ _ c.get4-stated.ensures c.header_rule-fault.ensures c.if-fault-ne0.false _ v _ o _ _ _ c.in-Whole.is _ c.get2.ensures
