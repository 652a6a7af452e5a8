-- `bench::bench` meets its contract: refused before any round, refused in a round, or refused nowhere.
use Rattle.layout.specs.Layout.{stored}
use Rattle.bench.specs.Bench.{buffers}
use Rattle.bench.proofs.Loop.{bench_first, bench_ready, bench_later, bench_done}
use Rattle.bench.proofs.bench.Goals as goal

pub returns-then-fault-ne0 : goal.returns-then-fault-ne0
returns-then-fault-ne0 c = let early = c in
    let a = early.args in
    bench_first (stored a.lay a.s.now) a.rt a.a (buffers a.response.now a.collected.now a.starts.now) early.first_fault-fault.ensures early.if-fault-ne0.true c.refuse.ensures

pub all_rounds-end-requires : goal.all_rounds-end-requires
all_rounds-end-requires c = let a = c.args in
    bench_ready (stored a.lay a.s.now) a.rt a.a (buffers a.response.now a.collected.now a.starts.now) c.first_fault-fault.ensures c.if-fault-ne0.false c.start-start.ensures

pub returns-then-fault-ne0-2 : goal.returns-then-fault-ne0-2
returns-then-fault-ne0-2 c = let early = c in
    let origin = early in
    let a = origin.args in
    bench_later (stored a.lay a.s.now) a.rt a.a (buffers a.response.now a.collected.now a.starts.now) origin.first_fault-fault.ensures origin.if-fault-ne0.false origin.start-start.ensures early.all_rounds-end.ensures c.if-fault-ne0-2.true c.refuse-then-fault-ne0-2.ensures

pub returns : goal.returns
returns c = let early = c in
    let origin = early in
    let a = origin.args in
    bench_done (stored a.lay a.s.now) a.rt a.a (buffers a.response.now a.collected.now a.starts.now) origin.first_fault-fault.ensures early.if-fault-ne0.false early.start-start.ensures early.all_rounds-end.ensures c.if-fault-ne0-2.false
