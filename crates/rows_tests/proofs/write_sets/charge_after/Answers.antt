use Rattle.std.proofs.Common.{arith}
use Rattle.hse_rows.specs.writes.Change.{write_of}
use Rattle.rows_tests.proofs.write_sets.charge_after.Goals as goal

pub charge_with-requires : goal.charge_with-requires
charge_with-requires c =
    let grown = c.charges_grow_by_the_change_at_most.ensures c.args.set.now (write_of c.args.store c.args.change.now) in
    omega (arith, grown, c.charge-charge.ensures, c.bytes-bytes.ensures, c.if-charge-gt1000.false, c.if-bytes-gt1000.false)
