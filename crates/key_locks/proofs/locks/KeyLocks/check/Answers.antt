use Rattle.key_locks.proofs.AnswerLemmas.{holder-is, unheld, none-since}
use Rattle.key_locks.proofs.MoveLemmas.{knows-lengths}
use Rattle.key_locks.proofs.locks.KeyLocks.check.Goals as goal

pub seen_of-requires : goal.seen_of-requires
seen_of-requires c = knows-lengths c.args.self.now.table c.args.self.now.lengths c.args.self.now.agrees.lengths_known

pub returns-in-Some : goal.returns-in-Some
returns-in-Some c = holder-is c.args.self.now c.args.txn c.args.name.now c.in-Ok.seen c.in-Ok.ensures c.in-Some.holder c.in-Some.is

pub returns-then-seen-snapshot : goal.returns-then-seen-snapshot
returns-then-seen-snapshot c = (
  unheld c.args.self.now c.args.txn c.args.name.now c.in-Ok.seen c.in-Ok.ensures c.in_default-holder.is,
  none-since c.args.self.now c.args.txn c.args.name.now c.in-Ok.seen c.in-Ok.ensures c.args.snapshot c.requires c.if-seen-snapshot.true,
)

pub returns-in-Some-first_since : goal.returns-in-Some-first_since
returns-in-Some-first_since c = (
  unheld c.args.self.now c.args.txn c.args.name.now c.in-Ok.seen c.in-Ok.ensures c.in_default-holder.is,
  c.in-Some-first_since.ensures,
)

pub returns-in-None : goal.returns-in-None
returns-in-None c = (
  unheld c.args.self.now c.args.txn c.args.name.now c.in-Ok.seen c.in-Ok.ensures c.in_default-holder.is,
  c.in-None.ensures,
)
