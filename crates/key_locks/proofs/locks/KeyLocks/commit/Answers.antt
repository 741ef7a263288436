use Rattle.std.proofs.Common.{◌++◌, ap, sym, subst, ◌∙◌, map, arith, List, ℕ}
use Rattle.hse_rows.specs.declared.write.Write.{Write}
use Rattle.key_locks.specs.declared.name.Name.{Name}
use Rattle.std.proofs.lemmas.List.{map-append}
use Rattle.key_locks.specs.Held.{has}
use Rattle.key_locks.specs.Locks.{commits_of}
use Rattle.key_locks.specs.Logged.{entries_of, logged_write}
use Rattle.key_locks.specs.Names.{write_at}
use Rattle.key_locks.specs.Agrees.{CommitsAgree}
use Rattle.key_locks.specs.Table.{lock_at}
use Rattle.key_locks.proofs.MoveLemmas.{released, lengths-logged, commits-kept, commits-both, commits-new, knows-lengths, locks-agree, cond-more, cond-number, entries-written}
use Rattle.key_locks.proofs.locks.KeyLocks.commit.Goals as goal

pub invariant_of-self : goal.invariant_of-self
invariant_of-self c =
    let locks = c.args.self.now in
    let old = locks.table in
    let new = c.log_names.new.table in
    let names = c.in-Some.names in
    let number = c.args.number in
    let log = c.log_names.ensures in
    record {
      agrees = record {
        holders = released old new locks.held c.take_names.new.held c.args.txn names c.in-Some.ensures.taken log.holder c.in-Some.ensures.others locks.agrees.holders;
        commits = subst (λ l. CommitsAgree new l locks.least) (sym log.logged) (commits-both new locks.logged.items (entries_of number names) locks.least
            (commits-kept old new locks.logged.items locks.least
            (λ q. let more = cond-more (has names q) (lock_at old q).newest number in let same = log.newest q in omega (arith, more, same)) locks.agrees.commits)
            (commits-new new number locks.least names
            (λ q at. let more = cond-number (has names q) (lock_at old q).newest number at in let same = log.newest q in omega (arith, more, same))));
        lengths_known = locks-agree new locks.lengths (lengths-logged old new locks.held c.take_names.new.held c.args.txn names c.in-Some.ensures.taken log.holder c.in-Some.ensures.others locks.agrees.holders
            locks.lengths number log.newest (knows-lengths old locks.lengths locks.agrees.lengths_known));
      };
    }

pub returns-in-Some-clause-commits : goal.returns-in-Some-clause-commits
returns-in-Some-clause-commits c =
    let locks = c.args.self.now in
    let number = c.args.number in
    ap (map logged_write) c.log_names.ensures.logged ∙ map-append logged_write locks.logged.items (entries_of number c.in-Some.names)
    ∙ ap (λ (l : List (ℕ × Write)). commits_of locks ++ l) (entries-written write_at number c.in-Some.names ∙ ap (λ (names : List Name). map {B = ℕ × Write} (λ (x : Write). (number, x)) (map write_at names)) c.in-Some.ensures.taken)
