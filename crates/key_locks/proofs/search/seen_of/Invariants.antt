use Rattle.key_locks.specs.Seen.{IsSeen}
use Rattle.key_locks.proofs.AboveLemmas.{IsMetUpTo}
use Rattle.key_locks.proofs.search.seen_of.Given as goal

abbrev pub invariant-loop-length : goal.invariant-loop-length
invariant-loop-length l = IsSeen l.table l.txn (IsMetUpTo l.name l.length) l.seen
