use Rattle.std.proofs.Common.{◌∙◌, arith}
use Rattle.key_locks.specs.Held.{has}
use Rattle.key_locks.specs.Table.{lock_at}
use Rattle.key_locks.proofs.MoveLemmas.{released, lengths-kept, commits-kept, knows-lengths, locks-agree, cond-none}
use Rattle.key_locks.proofs.locks.KeyLocks.release.Goals as goal

pub invariant_of-self : goal.invariant_of-self
invariant_of-self c =
    let locks = c.args.self.now in
    let old = locks.table in
    let new = c.free_names.new.table in
    let names = c.in-Some.names in
    let free = c.free_names.ensures in
    record {
      agrees = record {
        holders = released old new locks.held c.take_names.new.held c.args.txn names c.in-Some.ensures.taken free.holder c.in-Some.ensures.others locks.agrees.holders;
        commits = commits-kept old new locks.logged.items locks.least (λ q. let same = free.newest q in omega (arith, same)) locks.agrees.commits;
        lengths_known = locks-agree new locks.lengths (lengths-kept old new locks.lengths
            (λ q none. free.holder q ∙ cond-none (has names q) (lock_at old q).holder none)
            (λ q. let same = free.newest q in omega (arith, same)) (knows-lengths old locks.lengths locks.agrees.lengths_known));
      };
    }
