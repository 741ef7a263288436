use Rattle.std.proofs.Common.{List, ℕ}
use Rattle.hse_fields.specs.BlockReading.{keys_of}
use Rattle.hse_fields.specs.BlockText.{KeyEntry}
use Rattle.kblock.specs.Entries.{entry_of}
use Rattle.hse_fields.specs.BlockGiven.{lent}
use Rattle.kblock.specs.Reading.{ends}
use Rattle.kblock.proofs.ReadingLoops.{keys_go_on, keys_stop, keys_are_done}
use Rattle.kblock.proofs.page.keys_end.Goals as goal

pub returns-in-Err : goal.returns-in-Err
returns-in-Err c =
    keys_stop (lent c.loop.above) c.args.count c.loop.counter c.loop.rest.now (ends (lent c.args.last) (keys_of (lent c.args.last) c.args.count c.args.bytes.now)) c.in-Err.refusal.left c.loop-test.true c.in-Err.ensures c.loop.invariant

pub loop-preserved : goal.loop-preserved
loop-preserved c =
    let first : KeyEntry × List ℕ = (entry_of c.in-Ok.entry, c.in-Ok.behind.now) in
    keys_go_on (lent c.loop.above) c.args.count c.loop.counter c.loop.rest.now (ends (lent c.args.last) (keys_of (lent c.args.last) c.args.count c.args.bytes.now)) first c.loop-test.true c.in-Ok.ensures c.loop.invariant

pub returns : goal.returns
returns c =
    keys_are_done (lent c.loop.above) c.args.count c.loop.counter c.loop.rest.now (ends (lent c.args.last) (keys_of (lent c.args.last) c.args.count c.args.bytes.now)) c.loop-test.false c.loop.invariant
