use Rattle.std.proofs.Common.{arith, ap}
use Rattle.hse_rows.proofs.ChargeLemmas.{walk-fits, bytes_of}
use Rattle.hse_rows.proofs.places.walk_kept.Goals as goal

pub overflow_add-kept : goal.overflow_add-kept
overflow_add-kept c =
    let fits = walk-fits (record { store = c.args.store; change = c.args.change.now }) _ c.loop-write.write-index c.write-item.result c.loop-write-test.true in
    let same = ap bytes_of c.write-item.is in
    omega (arith, fits, same, c.loop-write.invariant, c.bytes-kept.ensures, c.requires)
