use Rattle.std.proofs.Common.{◌∙◌, ap}
use Rattle.hse_rows.specs.machine.Turn as machine
use Rattle.hse_rows.specs.machine.CoreRefusal.{take_refusal}
use Rattle.kvdb.proofs.TakeLemmas.{drop_refused, enters_drop, number_behind}
use Rattle.kvdb.proofs.engine.Kvdb.take_drop.Goals as goal

pub returns-clause-takes : goal.returns-clause-takes
returns-clause-takes g c m sound s =
    let prepared = c.in-Ok.ensures.prepared m sound s.state in
    c.take_entry.ensures.takes m (machine.drop c.args.name.now) sound s
    (enters_drop m c.args.name.now c.number.result c.store.result.0 c.in-Ok.event prepared
    (c.number.ensures ∙ number_behind m c.args.self.now.state.view c.in-Ok.event.view s.state.view c.in-Ok.ensures.number)
    (ap (λ x. x.0) c.store.ensures))

pub returns-in-Err-clause-takes : goal.returns-in-Err-clause-takes
returns-in-Err-clause-takes g c m sound s = (
  c.drop_fault.ensures (take_refusal m (machine.drop c.args.name.now))
      (drop_refused m c.args.name.now c.in-Err.fault s.jobs (c.in-Err.ensures.prepared m sound s.state)),
  s,
)
