use Rattle.std.proofs.Common.{ap, sym, subst, ◌∙◌, max, map, arith}
use Rattle.key_locks.specs.Agrees.{CommitsAgree}
use Rattle.key_locks.specs.Logged.{logged_write}
use Rattle.key_locks.proofs.MoveLemmas.{lengths-kept, knows-lengths, locks-agree}
use Rattle.key_locks.proofs.UndoLemmas.{commits-pruned, without-map}
use Rattle.key_locks.proofs.KeptLemmas.{kept}
use Rattle.key_locks.specs.Since.{has_commit}
use Rattle.key_locks.proofs.locks.KeyLocks.prune.Goals as goal

pub invariant_of-self : goal.invariant_of-self
invariant_of-self c =
    let locks = c.args.self.now in
    let old = locks.table in
    let new = c.forget.new.table in
    let gone = c.forget.ensures in
    record {
      agrees = record {
        holders = record {
          known = λ u q at. gone.holder q ∙ locks.agrees.holders.known u q at;
          taken = λ u q is. locks.agrees.holders.taken u q (sym (gone.holder q) ∙ is);
        };
        commits = subst (λ n. CommitsAgree new c.forget.new.logged.items n) (sym c.max-self.ensures)
            (subst (λ l. CommitsAgree new l (max locks.least c.args.least)) (sym gone.logged)
            (commits-pruned old new locks.least c.args.least gone.newest locks.logged.items locks.agrees.commits));
        lengths_known = locks-agree new locks.lengths (lengths-kept old new locks.lengths (λ q none. gone.holder q ∙ none) gone.below
            (knows-lengths old locks.lengths locks.agrees.lengths_known));
      };
    }

pub returns-clause-commits : goal.returns-clause-commits
returns-clause-commits c = ap (map logged_write) c.forget.ensures.logged ∙ without-map c.args.least c.args.self.now.logged.items

pub returns-clause-kept : goal.returns-clause-kept
returns-clause-kept c = λ write number above.
    ap (has_commit write number) (ap (map logged_write) c.forget.ensures.logged ∙ without-map c.args.least c.args.self.now.logged.items)
    ∙ kept write c.args.least number (omega (arith, above)) (map logged_write c.args.self.now.logged.items)
