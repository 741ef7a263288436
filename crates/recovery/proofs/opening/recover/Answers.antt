use Rattle.recovery.proofs.KeepsLemmas.{barrier_behind, barrier_if, behind_sync, reads_behind, more_reads_behind}
use Rattle.recovery.proofs.opening.recover.Goals as goal

pub returns-in_err-layout-clause-keeps : goal.returns-in_err-layout-clause-keeps
returns-in_err-layout-clause-keeps g c =
    behind_sync g.D.Device c.args.disk.now c.sync.new.self c.read_layout.new.disk c.sync.ensures.call c.sync.ensures.seen c.in-Ok.ensures.durable c.sync.ensures.extent
    c.read_layout.ensures.calls c.read_layout.ensures.keeps

pub returns-in-Err-Damaged-clause-keeps : goal.returns-in-Err-Damaged-clause-keeps
returns-in-Err-Damaged-clause-keeps g c =
    reads_behind g.D.Device c.args.disk.now c.sync.new.self c.read_layout.new.disk c.sync.ensures.call c.sync.ensures.seen c.in-Ok.ensures.durable c.sync.ensures.extent
    c.read_layout.ensures.calls c.read_layout.ensures.keeps c.load.new.disk c.load.ensures.reads

pub returns-in-Err-Device-clause-keeps : goal.returns-in-Err-Device-clause-keeps
returns-in-Err-Device-clause-keeps g c =
    reads_behind g.D.Device c.args.disk.now c.sync.new.self c.read_layout.new.disk c.sync.ensures.call c.sync.ensures.seen c.in-Ok.ensures.durable c.sync.ensures.extent
    c.read_layout.ensures.calls c.read_layout.ensures.keeps c.load.new.disk c.load.ensures.reads

pub returns-in-Err-NoMemory-clause-keeps : goal.returns-in-Err-NoMemory-clause-keeps
returns-in-Err-NoMemory-clause-keeps g c =
    reads_behind g.D.Device c.args.disk.now c.sync.new.self c.read_layout.new.disk c.sync.ensures.call c.sync.ensures.seen c.in-Ok.ensures.durable c.sync.ensures.extent
    c.read_layout.ensures.calls c.read_layout.ensures.keeps c.load.new.disk c.load.ensures.reads

pub returns-in_err-log-clause-keeps : goal.returns-in_err-log-clause-keeps
returns-in_err-log-clause-keeps g c =
    more_reads_behind g.D.Device c.args.disk.now c.sync.new.self c.read_layout.new.disk c.sync.ensures.call c.sync.ensures.seen c.in-Ok.ensures.durable c.sync.ensures.extent
    c.read_layout.ensures.calls c.read_layout.ensures.keeps
    c.load.new.disk c.read_log.new.disk c.load.ensures.calls c.load.ensures.reads c.read_log.ensures.reads

pub returns-clause-keeps : goal.returns-clause-keeps
returns-clause-keeps g c =
    more_reads_behind g.D.Device c.args.disk.now c.sync.new.self c.read_layout.new.disk c.sync.ensures.call c.sync.ensures.seen c.in-Ok.ensures.durable c.sync.ensures.extent
    c.read_layout.ensures.calls c.read_layout.ensures.keeps
    c.load.new.disk c.read_log.new.disk c.load.ensures.calls c.load.ensures.reads c.read_log.ensures.reads

pub returns-clause-barrier : goal.returns-clause-barrier
returns-clause-barrier g c =
    barrier_if g.D.Device c.args.disk.now c.read_log.new.disk c.in_ok-layout.layout c.clock-moment.result c.recovered_of.result c.recovered_of.ensures.given
    (barrier_behind g.D.Device c.args.disk.now c.sync.new.self c.read_layout.new.disk c.sync.ensures.call c.sync.ensures.seen c.in-Ok.ensures.durable c.sync.ensures.extent
    c.read_layout.ensures.calls c.read_layout.ensures.keeps g.met.D.Disk.only_now c.read_layout.ensures.pending c.load.new.disk c.read_log.new.disk
    c.load.ensures.calls c.read_log.ensures.calls c.load.ensures.reads c.read_log.ensures.reads c.clock-moment.result c.clock-moment.ensures)
