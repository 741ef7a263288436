-- How the locks of names stand to what transactions took and commits wrote.
use Rattle.std.specs.Prelude.{◌≡◌, ◌<◌, ◌≤◌, ℕ, Bool, true, false, List, Some, length, ◌||◌, is_some, nat_lt}
use Rattle.std.specs.List.{AllByRecursion}
use Rattle.std.specs.BTreeMap.{BTreeMap}
use Rattle.key_locks.specs.declared.lock.Lock.{Lock}
use Rattle.key_locks.specs.declared.logged.Logged.{Logged}
use Rattle.key_locks.specs.declared.name.Name.{Name}
use Rattle.key_locks.specs.Held.{held_by, has}
use Rattle.key_locks.specs.Seen.{IsUsed}
use Rattle.key_locks.specs.Table.{lock_at}

-- a name has the lock of the transaction that took it, and of no other
pub record HoldersAgree (table : BTreeMap Name Lock) (held : BTreeMap ℕ (List Name)) : Type 0 where
  pub known : (txn : ℕ) (name : Name) → has (held_by held txn) name ≡ true → (lock_at table name).holder ≡ Some txn
  pub taken : (txn : ℕ) (name : Name) → (lock_at table name).holder ≡ Some txn → has (held_by held txn) name ≡ true

-- a name's newest commit is no older than any of its commits above the last prune
abbrev pub CommitsAgree : BTreeMap Name Lock → List Logged → ℕ → Type 0
CommitsAgree table entries least = AllByRecursion (λ (entry : Logged). least < entry.number → entry.number ≤ (lock_at table entry.name).newest) entries

-- whether a lock has a holder or a commit
abbrev pub is_locked : Lock → Bool
is_locked lock = is_some lock.holder || nat_lt 0 lock.newest

-- only prefixes of lengths in use have locks
abbrev pub LocksAgree : BTreeMap Name Lock → List Bool → Type 0
LocksAgree table lengths = (name : Name) → name.is_key ≡ false → is_locked (lock_at table name) ≡ true → IsUsed lengths (length name.bytes)

pub record Agrees (table : BTreeMap Name Lock) (held : BTreeMap ℕ (List Name)) (entries : List Logged) (lengths : List Bool) (least : ℕ) : Type 0 where
  pub holders : HoldersAgree table held
  pub commits : CommitsAgree table entries least
  pub lengths_known : LocksAgree table lengths
