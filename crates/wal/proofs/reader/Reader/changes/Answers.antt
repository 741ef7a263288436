use Rattle.std.proofs.Common.{arith}
use Rattle.wal.specs.Live.{prefix_fits}
use Rattle.wal.proofs.LengthLemmas.{writes_rise, writes_long}
use Rattle.wal.proofs.reader.Reader.changes.Goals as goal

pub overflow_sub-size : goal.overflow_sub-size
overflow_sub-size c =
    let long = writes_long (prefix_fits c.args.self.live.now) c.args.self.most c.in_ok-count.count c.in_ok-count.rest.now c.in_ok-writes.writes.items c.in_ok-writes.behind.now
    c.are_bytes.ensures.bytes c.in_ok-writes.ensures in
    omega (arith, long)

pub of_sorted-requires-clause-rising : goal.of_sorted-requires-clause-rising
of_sorted-requires-clause-rising c =
    writes_rise (prefix_fits c.args.self.live.now) c.args.self.most c.in_ok-count.count c.in_ok-count.rest.now c.in_ok-writes.writes.items c.in_ok-writes.behind.now
    c.are_bytes.ensures.bytes c.in_ok-writes.ensures

pub of_sorted-requires-clause-counted : goal.of_sorted-requires-clause-counted
of_sorted-requires-clause-counted c =
    let long = writes_long (prefix_fits c.args.self.live.now) c.args.self.most c.in_ok-count.count c.in_ok-count.rest.now c.in_ok-writes.writes.items c.in_ok-writes.behind.now
    c.are_bytes.ensures.bytes c.in_ok-writes.ensures in
    omega (arith, long)

pub of_sorted-requires-clause-fits : goal.of_sorted-requires-clause-fits
of_sorted-requires-clause-fits c =
    let long = writes_long (prefix_fits c.args.self.live.now) c.args.self.most c.in_ok-count.count c.in_ok-count.rest.now c.in_ok-writes.writes.items c.in_ok-writes.behind.now
    c.are_bytes.ensures.bytes c.in_ok-writes.ensures in
    omega (arith, long, c.are_bytes.ensures.short)
