use Rattle.std.proofs.Common.{ap, Some}
use Rattle.key_locks.specs.declared.lock.Lock.{Lock}
use Rattle.key_locks.proofs.TableLemmas.{part-same, put-inserted}
use Rattle.key_locks.proofs.table.lock_name.Goals as goal

pub returns-clause-newest : goal.returns-clause-newest
returns-clause-newest c =
    let lock : Lock = record { holder = Some c.args.txn; newest = c.lock_of.result.newest } in
    part-same c.args.table.now c.insert.new.self c.args.name lock
    (put-inserted c.args.table.now c.insert.new.self c.args.name lock c.in_ok-insert.ensures.updates)
    (λ (l : Lock). l.newest) (ap (λ (l : Lock). l.newest) c.lock_of.ensures)
