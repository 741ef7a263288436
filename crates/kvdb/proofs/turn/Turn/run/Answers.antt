use Rattle.kvdb.proofs.RunLemmas.{calls_where, ran_well, ran_badly}
use Rattle.kvdb.proofs.turn.Turn.run.Goals as goal

pub returns-in-Ok-clause-ran : goal.returns-in-Ok-clause-ran
returns-in-Ok-clause-ran g c m t =
    ran_well g.D.Device c.args.self m t c.write_all.new.back c.in-Ok.ensures.put
    (λ told. let r = t.ready told in c.in-Ok.ensures.written told m c.args.self.number r.loaded r.rests r.carries)

pub returns-in-Ok-clause-crash : goal.returns-in-Ok-clause-crash
returns-in-Ok-clause-crash g c m t told =
    let r = t.ready told in c.write_all.ensures.crash told m c.args.self.number r.loaded r.rests r.same t.of.low r.carries

pub returns-clause-ran : goal.returns-clause-ran
returns-clause-ran g c m t =
    ran_badly g.D.Device c.args.self m t c.write_all.new.back g.met.D.Disk.counts_now g.met.D.Disk.only_now
    c.write_all.ensures.calls.forward
    (λ told. let r = t.ready told in c.write_all.ensures.crash told m c.args.self.number r.loaded r.rests r.same t.of.low r.carries)

pub returns-clause-crash : goal.returns-clause-crash
returns-clause-crash g c m t told =
    let r = t.ready told in c.write_all.ensures.crash told m c.args.self.number r.loaded r.rests r.same t.of.low r.carries

pub returns-clause-works : goal.returns-clause-works
returns-clause-works g c m t failed = calls_where g.D.Device c.args.self m t c.in-Err.ensures.works
