use Rattle.std.proofs.Common.{◌≡◌, ℕ, Ok, arith}
use Rattle.kvdb.proofs.NewLemmas.{none_seen, nothing_seen, prepared_none}
use Rattle.kvdb.proofs.new_device.prepare.Goals as goal

pub returns-in-Ok-format-clause-prepared : goal.returns-in-Ok-format-clause-prepared
returns-in-Ok-format-clause-prepared g c told =
    let empty : g.D.Device.extent c.size.new.self ≡ 0 = grind (arith, c.in-Ok.ensures.size, c.if-size-ne0.false) in
    prepared_none g.D.Device c.args.disk.now c.format.new.disk (g.D.Device.seen c.args.disk.now) (Ok tt)
    (nothing_seen g.D.Device c.args.disk.now c.size.new.self (c.size.ensures.seen told) (g.met.D.Disk.as_long c.size.new.self told) empty)
    (c.in-Ok-format.ensures.formed told, c.in-Ok-format.ensures.durable told)

pub returns-in-Ok-format-clause-asked : goal.returns-in-Ok-format-clause-asked
returns-in-Ok-format-clause-asked g c told some =
    let empty : g.D.Device.extent c.size.new.self ≡ 0 = grind (arith, c.in-Ok.ensures.size, c.if-size-ne0.false) in
    none_seen _ (g.D.Device.seen c.args.disk.now)
    (nothing_seen g.D.Device c.args.disk.now c.size.new.self (c.size.ensures.seen told) (g.met.D.Disk.as_long c.size.new.self told) empty)
    some
