use Rattle.hse_shell.specs.SoFar.{Start}
use Rattle.hse_shell.proofs.CompleteLemmas.{runs_to_its_end, kept_unmarked, ends_early}
use Rattle.hse_shell.proofs.run.run_script.Goals as goal

pub returns-in-Done-clause-complete : goal.returns-in-Done-clause-complete
returns-in-Done-clause-complete g c told formed good read wrote failed =
    let start : Start g.row.D.Denot = record { device = c.args.disk.now; input = g.S.Source.remaining c.args.source.now; held = g.K.Sink.contents c.args.sink.now } in
    runs_to_its_end g.D.Device c.serve-outcome.result.status start (g.S.Source.remaining c.serve-outcome.new.source) (g.K.Sink.contents c.serve-outcome.new.sink)
    (g.K.Sink.faults c.args.sink.now) (g.K.Sink.faults c.serve-outcome.new.sink) c.serve-outcome.new.disk c.serve-outcome.result.marks.items
    c.serve-outcome.ensures.ends told formed good
    (λ is. read (c.serve-outcome.ensures.read is)) (λ is. wrote (c.serve-outcome.ensures.write is)) (λ is. failed (c.serve-outcome.ensures.device is))

pub returns-in_default-clause-ends : goal.returns-in_default-clause-ends
returns-in_default-clause-ends g c =
    let start : Start g.row.D.Denot = record { device = c.args.disk.now; input = g.S.Source.remaining c.args.source.now; held = g.K.Sink.contents c.args.sink.now } in
    ends_early g.D.Device c.serve-outcome.result.status start (g.S.Source.remaining c.serve-outcome.new.source) (g.K.Sink.contents c.serve-outcome.new.sink)
    (g.K.Sink.contents c.tell.new.sink) (g.K.Sink.faults c.args.sink.now) (g.K.Sink.faults c.serve-outcome.new.sink) (g.K.Sink.faults c.tell.new.sink)
    c.serve-outcome.new.disk c.serve-outcome.result.marks.items c.serve-outcome.ensures.later c.serve-outcome.ensures.ends c.tell.ensures.told
    c.in_default.not-Done c.in_default.not-WriteFault c.in_default.not-NotFormed

pub returns-in_default-clause-complete : goal.returns-in_default-clause-complete
returns-in_default-clause-complete g c told formed good read wrote failed =
    let start : Start g.row.D.Denot = record { device = c.args.disk.now; input = g.S.Source.remaining c.args.source.now; held = g.K.Sink.contents c.args.sink.now } in
    runs_to_its_end g.D.Device c.serve-outcome.result.status start (g.S.Source.remaining c.serve-outcome.new.source) (g.K.Sink.contents c.serve-outcome.new.sink)
    (g.K.Sink.faults c.args.sink.now) (g.K.Sink.faults c.serve-outcome.new.sink) c.serve-outcome.new.disk c.serve-outcome.result.marks.items
    c.serve-outcome.ensures.ends told formed good
    (λ is. read (c.serve-outcome.ensures.read is)) (λ is. absurd (c.in_default.not-WriteFault is)) (λ is. failed (c.serve-outcome.ensures.device is))

pub returns-in_default-clause-kept : goal.returns-in_default-clause-kept
returns-in_default-clause-kept g c =
    let start : Start g.row.D.Denot = record { device = c.args.disk.now; input = g.S.Source.remaining c.args.source.now; held = g.K.Sink.contents c.args.sink.now } in
    kept_unmarked g.D.Device c.serve-outcome.result.status start (g.S.Source.remaining c.serve-outcome.new.source) (g.K.Sink.contents c.serve-outcome.new.sink)
    (g.K.Sink.faults c.args.sink.now) (g.K.Sink.faults c.serve-outcome.new.sink) c.serve-outcome.new.disk c.serve-outcome.result.marks.items
    c.serve-outcome.ensures.ends
