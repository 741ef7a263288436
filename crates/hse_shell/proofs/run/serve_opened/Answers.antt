use Rattle.std.proofs.Common.{subst, sym, arith}
use Rattle.hse_io.specs.declared.outcome.Status.{Status}
use Rattle.hse_shell.specs.Ends.{EndsServed, Stops}
use Rattle.hse_shell.specs.Machine.{opening}
use Rattle.hse_shell.specs.Marks.{Marked}
use Rattle.hse_shell.specs.SoFar.{Start, SoFar}
use Rattle.hse_shell.specs.Stands.{base_in}
use Rattle.hse_shell.proofs.MarkLemmas.{marked_of}
use Rattle.hse_shell.proofs.RunLemmas.{so_far_opened}
use Rattle.hse_shell.proofs.StopLemmas.{ends_closed, ends_stopped, stops_greeting}
use Rattle.hse_shell.proofs.run.serve_opened.Goals as goal

pub returns-in-Err-clause-ends : goal.returns-in-Err-clause-ends
returns-in-Err-clause-ends g c device o =
    let start : Start g.row.D.Denot = record { device = device; input = g.S.Source.remaining c.args.source.now; held = g.K.Sink.contents c.args.sink.now } in
    let marked : Marked g.D.Device c.args.disk.now c.ended.result.marks.items (opening (base_in c.args.engine)) =
    subst (λ marks. Marked g.D.Device c.args.disk.now marks.items (opening (base_in c.args.engine))) (sym c.ended.ensures.marks)
    (marked_of g.D.Device (λ disk clock image told le now. g.met.D.Disk.counts_now disk clock image told le now)
    c.args.disk.now c.args.engine (opening (base_in c.args.engine)) o.serves) in
    let stops = stops_greeting g.D.Device c.in-Err.status start (g.K.Sink.contents c.greet.new.sink) c.args.disk.now c.ended.result.marks.items
    (base_in c.args.engine) o.begins marked c.in-Err.ensures.stops in
    subst (λ (ended : Status). EndsServed g.D.Device ended start start.input (g.K.Sink.contents c.greet.new.sink) c.args.disk.now c.ended.result.marks.items)
    (sym c.ended.ensures.status)
    (ends_stopped g.D.Device c.in-Err.status start start.input (g.K.Sink.contents c.greet.new.sink) c.args.disk.now c.ended.result.marks.items stops)

pub returns-in-Ok-answer_all-clause-ends : goal.returns-in-Ok-answer_all-clause-ends
returns-in-Ok-answer_all-clause-ends g c device o =
    let start : Start g.row.D.Denot = record { device = device; input = g.S.Source.remaining c.args.source.now; held = g.K.Sink.contents c.args.sink.now } in
    let opened = so_far_opened g.D.Device start (base_in c.args.engine) o.begins (g.K.Sink.contents c.greet.new.sink) c.args.disk.now c.args.engine
    o.serves c.in-Ok.ensures.greeted in
    let ended = c.in-Ok-answer_all.ensures.ended start
    (subst (SoFar g.D.Device start start.input (g.K.Sink.contents c.greet.new.sink) c.args.disk.now c.args.engine) (sym c.requires.fresh) opened) in
    ends_closed g.D.Device (λ disk clock image told le now. g.met.D.Disk.counts_now disk clock image told le now)
    start (g.S.Source.remaining c.answer_all.new.source) (g.K.Sink.contents c.answer_all.new.sink) c.answer_all.new.disk c.answer_all.new.engine
    c.answer_all.new.script.taken (omega (arith, c.answer_all.new.script.within)) ended.0 c.close.result.status (g.K.Sink.contents c.close.new.sink)
    c.close.new.disk c.close.result.marks.items ended.1 (c.close.ensures.closes ended.0.ran.state ended.0.serves)

pub returns-in-Err-answer_all-clause-ends : goal.returns-in-Err-answer_all-clause-ends
returns-in-Err-answer_all-clause-ends g c device o =
    let start : Start g.row.D.Denot = record { device = device; input = g.S.Source.remaining c.args.source.now; held = g.K.Sink.contents c.args.sink.now } in
    let opened = so_far_opened g.D.Device start (base_in c.args.engine) o.begins (g.K.Sink.contents c.greet.new.sink) c.args.disk.now c.args.engine
    o.serves c.in-Ok.ensures.greeted in
    let stops = c.in-Err-answer_all.ensures.stops start
    (subst (SoFar g.D.Device start start.input (g.K.Sink.contents c.greet.new.sink) c.args.disk.now c.args.engine) (sym c.requires.fresh) opened) in
    let marked : Stops g.D.Device c.in-Err-answer_all.status start (g.S.Source.remaining c.answer_all.new.source) (g.K.Sink.contents c.answer_all.new.sink)
    c.answer_all.new.disk c.ended-in-Err-answer_all.result.marks.items =
    subst (λ marks. Stops g.D.Device c.in-Err-answer_all.status start (g.S.Source.remaining c.answer_all.new.source) (g.K.Sink.contents c.answer_all.new.sink)
    c.answer_all.new.disk marks.items) (sym c.ended-in-Err-answer_all.ensures.marks) stops in
    subst (λ (ended : Status). EndsServed g.D.Device ended start (g.S.Source.remaining c.answer_all.new.source) (g.K.Sink.contents c.answer_all.new.sink)
    c.answer_all.new.disk c.ended-in-Err-answer_all.result.marks.items) (sym c.ended-in-Err-answer_all.ensures.status)
    (ends_stopped g.D.Device c.in-Err-answer_all.status start (g.S.Source.remaining c.answer_all.new.source) (g.K.Sink.contents c.answer_all.new.sink)
    c.answer_all.new.disk c.ended-in-Err-answer_all.result.marks.items marked)
