use Rattle.std.proofs.Common.{ap, ◌∙◌, None, max}
use Rattle.key_locks.specs.declared.lock.Lock.{Lock}
use Rattle.key_locks.specs.declared.name.Name.{Name}
use Rattle.key_locks.specs.Table.{lock_at}
use Rattle.key_locks.proofs.NameLemmas.{same-name}
use Rattle.key_locks.proofs.TableLemmas.{part-put}
use Rattle.key_locks.proofs.table.log_name.Goals as goal

pub returns-clause-newest : goal.returns-clause-newest
returns-clause-newest c = λ q.
    let old = c.args.table.now in
    let number = c.args.number in
    let lock : Lock = record { holder = None; newest = c.max.result } in
    part-put old c.put_lock.new.table c.args.name.now lock c.put_lock.ensures (λ (l : Lock). l.newest) q (max (lock_at old q).newest number)
    (λ same. c.max.ensures ∙ ap (λ (l : Lock). max l.newest number) c.lock_of-lock.ensures
    ∙ ap (λ (n : Name). max (lock_at old n).newest number) (same-name c.args.name.now q same))
