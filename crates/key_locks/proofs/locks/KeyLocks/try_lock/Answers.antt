use Rattle.std.proofs.Common.{Ok, subst, rules}
use Rattle.hse_rows.specs.writes.Change.{write_of}
use Rattle.key_locks.specs.Answers.{IsAnswer}
use Rattle.key_locks.specs.Names.{name_of, write_at}
use Rattle.key_locks.proofs.PutLemmas.{answer-alike, put-alike}
use Rattle.key_locks.proofs.AnswerLemmas.{agrees-taken}
use Rattle.key_locks.proofs.locks.KeyLocks.try_lock.Goals as goal

pub invariant_of-self : goal.invariant_of-self
invariant_of-self c = record {
  agrees = agrees-taken c.add_name.result c.args.self.now c.add_name.new.table c.add_name.new.held c.use_length.new.lengths c.args.txn c.in-Ok.name
      c.add_name.ensures.newest c.add_name.ensures.holder c.add_name.ensures.held c.add_name.ensures.same c.add_name.ensures.same_held
      c.in_ok-check.ensures.0 c.use_length.ensures.used c.use_length.ensures.others;
}

pub returns-in_err-check-clause-answer : goal.returns-in_err-check-clause-answer
returns-in_err-check-clause-answer c =
    let locks = c.args.self.now in
    let txn = c.args.txn in
    let snapshot = c.args.snapshot in
    let result = c.from_residual.result in
    answer-alike (write_at (name_of c.args.store c.args.change.now)) (write_of c.args.store c.args.change.now) (put-alike c.args.store c.args.change.now) locks txn snapshot result
    (subst (λ n. IsAnswer locks txn snapshot (write_at n) result) c.in-Ok.ensures.name (search rules))

pub returns-clause-answer : goal.returns-clause-answer
returns-clause-answer c =
    let locks = c.args.self.now in
    let txn = c.args.txn in
    let snapshot = c.args.snapshot in
    answer-alike (write_at (name_of c.args.store c.args.change.now)) (write_of c.args.store c.args.change.now) (put-alike c.args.store c.args.change.now) locks txn snapshot (Ok tt)
    (subst (λ n. IsAnswer locks txn snapshot (write_at n) (Ok tt)) c.in-Ok.ensures.name c.in_ok-check.ensures)
