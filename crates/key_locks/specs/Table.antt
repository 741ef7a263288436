-- The locks of names.
use Rattle.std.specs.Prelude.{None}
use Rattle.std.specs.Option.{unwrap_or}
use Rattle.std.specs.BTreeMap.{BTreeMap, get}
use Rattle.key_locks.specs.declared.lock.Lock.{Lock}
use Rattle.key_locks.specs.declared.name.Name.{Name}
use Rattle.key_locks.specs.Names.{name_cmp}

abbrev pub no_lock : Lock
no_lock = record { holder = None; newest = 0 }

-- the lock of a name
abbrev pub lock_at : BTreeMap Name Lock → Name → Lock
lock_at table name = unwrap_or (get name_cmp table name) no_lock
