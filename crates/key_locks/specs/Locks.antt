-- What locks say: the writes of each active transaction, and those of commits since the last prune.
use Rattle.std.specs.Prelude.{ℕ, ◌-◌, List, map}
use Rattle.std.specs.VecDeque.{deque_capacity, deque_len}
use Rattle.hse_rows.specs.declared.change.Change.{Change}
use Rattle.hse_rows.specs.declared.store.StoreId.{StoreId}
use Rattle.hse_rows.specs.declared.write.Write.{Write}
use Rattle.key_locks.specs.declared.locks.KeyLocks.{KeyLocks}
use Rattle.key_locks.specs.Logged.{logged_write}
use Rattle.key_locks.specs.Held.{held_by}
use Rattle.key_locks.specs.Names.{name_of, write_at}

-- the writes of a transaction in the order taken, each put as a deletion of its key
abbrev pub writes_of : KeyLocks → ℕ → List Write
writes_of locks txn = map write_at (held_by locks.held txn)

-- the writes of commits with their numbers, in the order of the commits
abbrev pub commits_of : KeyLocks → List (ℕ × Write)
commits_of locks = map logged_write locks.logged.items

-- how many changes commits may still log without memory
abbrev pub spare_of : KeyLocks → ℕ
spare_of locks = deque_capacity locks.logged - deque_len locks.logged

-- what a change of a store locks
abbrev pub locked : StoreId → Change → Write
locked store change = write_at (name_of store change)
