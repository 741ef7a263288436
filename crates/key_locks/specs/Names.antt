-- Names of keys and prefixes, and the writes that they stand for.
use Rattle.std.specs.Prelude.{Bool, true, false, cond}
use Rattle.std.specs.declared.cmp.Ordering.{Ordering}
use Rattle.hse_rows.specs.declared.change.Change.{Change}
use Rattle.hse_rows.specs.declared.change.Change.TheVariants.{Put, Del, PDel}
use Rattle.hse_rows.specs.declared.store.StoreId.{StoreId}
use Rattle.hse_rows.specs.declared.write.Write.{Write}
use Rattle.key_locks.specs.declared.name.Name.{Name}
use Rattle.key_locks.specs.contracts.name.NameOrd.TheImpl as name_ord
use Rattle.key_locks.specs.contracts.name.NamePartialEq.TheImpl as name_partial_eq

-- the order of names, and whether two are the same
abbrev pub name_cmp : Name → Name → Ordering
name_cmp = (name_ord.ghosts).cmp

abbrev pub name_eq : Name → Name → Bool
name_eq = (name_partial_eq.ghosts).eq

-- the name that a change locks
abbrev pub name_of : StoreId → Change → Name
name_of store (Put key value) = record { store = store.0; bytes = key; is_key = true }
name_of store (Del key) = record { store = store.0; bytes = key; is_key = true }
name_of store (PDel prefix) = record { store = store.0; bytes = prefix; is_key = false }

-- a write that locks a name
abbrev pub write_at : Name → Write
write_at name = record { store = record { 0 = name.store }; change = cond name.is_key (Del name.bytes) (PDel name.bytes) }
