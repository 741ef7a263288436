use Rattle.std.proofs.Common.{ap, None}
use Rattle.key_locks.specs.declared.lock.Lock.{Lock}
use Rattle.key_locks.proofs.TableLemmas.{part-same}
use Rattle.key_locks.proofs.table.free_name.Goals as goal

pub returns-clause-newest : goal.returns-clause-newest
returns-clause-newest c =
    let lock : Lock = record { holder = None; newest = c.lock_of-lock.result.newest } in
    part-same c.args.table.now c.put_lock.new.table c.args.name.now lock c.put_lock.ensures
    (λ (l : Lock). l.newest) (ap (λ (l : Lock). l.newest) c.lock_of-lock.ensures)
