use Rattle.std.proofs.Common.{ap, ◌∙◌, arith}
use Rattle.key_locks.specs.declared.lock.Lock.{Lock}
use Rattle.key_locks.specs.declared.name.Name.{Name}
use Rattle.key_locks.specs.Table.{lock_at}
use Rattle.key_locks.proofs.NameLemmas.{same-name}
use Rattle.key_locks.proofs.TableLemmas.{part-same, part-kept}
use Rattle.key_locks.proofs.table.unlog_name.Goals as goal

pub returns-then-lock-least-clause-newest : goal.returns-then-lock-least-clause-newest
returns-then-lock-least-clause-newest c = λ q less.
    let old = c.args.table.now in
    let lock : Lock = record { holder = c.lock_of-lock.result.holder; newest = 0 } in
    part-kept old c.put_lock.new.table c.args.name.now lock c.put_lock.ensures (λ (l : Lock). l.newest) q
    (λ same.
    let most = c.if-lock-least.true in
    let is = ap (λ (l : Lock). l.newest) c.lock_of-lock.ensures ∙ ap (λ (n : Name). (lock_at old n).newest) (same-name c.args.name.now q same) in
    absurd (omega (arith, most, is, less)))

pub returns-then-lock-least-clause-holder : goal.returns-then-lock-least-clause-holder
returns-then-lock-least-clause-holder c =
    let lock : Lock = record { holder = c.lock_of-lock.result.holder; newest = 0 } in
    part-same c.args.table.now c.put_lock.new.table c.args.name.now lock c.put_lock.ensures
    (λ (l : Lock). l.holder) (ap (λ (l : Lock). l.holder) c.lock_of-lock.ensures)
