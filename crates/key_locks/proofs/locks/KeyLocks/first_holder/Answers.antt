use Rattle.std.proofs.Common.{◌≡◌, sym, subst}
use Rattle.key_locks.specs.Holders.{IsFirstIn}
use Rattle.key_locks.proofs.HolderLemmas.{walk-finds}
use Rattle.key_locks.proofs.locks.KeyLocks.first_holder.Goals as goal

pub returns : goal.returns
returns c =
    subst (IsFirstIn c.args.self.now c.args.store.0) (sym c.first_of.ensures) (walk-finds c.args.self.now c.args.store.0 c.len-count.ensures.ordered)
