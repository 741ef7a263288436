use Rattle.std.proofs.Common.{◌∙◌}
use Rattle.hse_rows.specs.machine.Turn as machine
use Rattle.kvdb.proofs.TakeLemmas.{enters_create, number_behind}
use Rattle.kvdb.proofs.engine.Kvdb.take_create.Goals as goal

pub returns-clause-takes : goal.returns-clause-takes
returns-clause-takes g c m sound s =
    let prepared = c.in-Ok.ensures.prepared m sound s.state in
    c.take_entry.ensures.takes m (machine.create c.args.name.now c.args.mode c.args.prefix) sound s
    (enters_create m c.args.name.now c.in-Ok-share.text c.args.mode c.args.prefix c.number.result c.in-Ok.event
    (c.number.ensures ∙ number_behind m c.args.self.now.state.view c.in-Ok.event.view s.state.view c.in-Ok.ensures.number)
    c.in-Ok-share.ensures c.bytes-bytes.ensures.within c.in-Ok.ensures.prefix prepared)
