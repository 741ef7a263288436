-- What several locks say of a write.
use Rattle.std.specs.Prelude.{◌≡◌, ◌<◌, ◌≤◌, ◌⊎◌, ℕ, Bool, true, false, cond, ◌==◌, ◌&&◌, Option, Some, None, List, [], ◌∷◌, min, max, length, slice_index_or}
use Rattle.std.specs.Option.{IfSome}
use Rattle.std.specs.BTreeMap.{BTreeMap}
use Rattle.hse_rows.specs.writes.Change.{covers}
use Rattle.key_locks.specs.declared.lock.Lock.{Lock}
use Rattle.key_locks.specs.declared.lock.Seen.{Seen}
use Rattle.key_locks.specs.declared.name.Name.{Name}
use Rattle.key_locks.specs.Table.{lock_at, no_lock}

-- the first of the other transactions
abbrev pub first_of : Option ℕ → ℕ → Option ℕ
first_of None holder = Some holder
first_of (Some first) holder = Some (min first holder)

abbrev pub first_other : ℕ → Option ℕ → Option ℕ → Option ℕ
first_other txn first None = first
first_other txn first (Some holder) = cond (holder == txn) first (first_of first holder)

abbrev pub nothing_seen : Seen
nothing_seen = record { holder = None; newest = 0 }

abbrev pub seen_with : ℕ → Seen → Lock → Seen
seen_with txn seen lock = record { holder = first_other txn seen.holder lock.holder; newest = max seen.newest lock.newest }

-- one transaction began before another, or is it
abbrev pub IsUpTo : Option ℕ → ℕ → Type 0
IsUpTo None other = ⊥
IsUpTo (Some first) other = first ≤ other

-- What the locks of some names say of a write of a transaction: the first other holder, and a number that no commit is above.
pub record IsSeen (table : BTreeMap Name Lock) (txn : ℕ) (among : Name → Type 0) (seen : Seen) : Type 0 where
  pub first : (name : Name) (other : ℕ) → among name → (lock_at table name).holder ≡ Some other → (other ≡ txn → ⊥) → IsUpTo seen.holder other
  pub newest : (name : Name) → among name → (lock_at table name).newest ≤ seen.newest
  pub holder : IfSome seen.holder (λ other. (other ≡ txn → ⊥) × ((name : Name) × (among name × ((lock_at table name).holder ≡ Some other))))

-- a name begins with another, and both are of one store
abbrev pub begins_with : Name → Name → Bool
begins_with start name = (start.store == name.store) && covers start.bytes name.bytes

-- a prefix that a name begins with, of one store
abbrev pub IsAbove : Name → Name → Type 0
IsAbove start name = (name.is_key ≡ false) × (begins_with name start ≡ true)

abbrev pub IsBelow : Name → Name → Type 0
IsBelow start name = begins_with start name ≡ true

-- a key's own name; a prefix and all that begins with it
abbrev pub IsOwn : Name → Name → Type 0
IsOwn start name = cond start.is_key (name ≡ start) (IsBelow start name)

-- all names whose writes meet a write of a name
abbrev pub IsMet : Name → Name → Type 0
IsMet start name = IsOwn start name ⊎ IsAbove start name

-- a prefix of this length may have a lock
abbrev pub IsUsed : List Bool → ℕ → Type 0
IsUsed lengths length = (0 < length) × (slice_index_or lengths length false ≡ true)

-- only prefixes of lengths in use have locks
abbrev pub KnowsLengths : BTreeMap Name Lock → List Bool → Type 0
KnowsLengths table lengths = (name : Name) → name.is_key ≡ false → (lock_at table name ≡ no_lock) ⊎ IsUsed lengths (length name.bytes)

-- what the locks of the first entries that begin with a name add
abbrev pub seen_below : ℕ → Name → List (Name × Lock) → Seen → Seen
seen_below txn start [] seen = seen
seen_below txn start (entry ∷ entries) seen =
    cond (begins_with start entry.0) (seen_below txn start entries (seen_with txn seen entry.1)) seen
