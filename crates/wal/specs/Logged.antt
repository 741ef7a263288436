-- Commits as the log spells them.
use Rattle.std.specs.Prelude.{ℕ, ◌+◌, List, [], length, map, Option, Some, None}
use Rattle.std.specs.Borrow.{Bor}
use Rattle.hse_fields.specs.LogLimits.{frame}
use Rattle.hse_fields.specs.LogText as log
use Rattle.hse_rows.specs.declared.change.Change.{Change}
use Rattle.hse_rows.specs.declared.change.Change.TheVariants.{Put, Del, PDel}
use Rattle.hse_rows.specs.declared.write.Write.{Write}
use Rattle.wal.specs.declared.commit.Commit.{Commit}

abbrev pub logged_change : ℕ → Change → log.Change
logged_change store (Put key value) = record { kind = log.put; store = store; name = key; value = value }
logged_change store (Del key) = record { kind = log.del; store = store; name = key; value = [] }
logged_change store (PDel prefix) = record { kind = log.pdel; store = store; name = prefix; value = [] }

abbrev pub logged : Write → log.Change
logged w = logged_change w.store.0 w.change

abbrev pub logged_all : List Write → List log.Change
logged_all writes = map logged writes

-- by its number and its writes
abbrev pub entry_with : ℕ → List Write → log.Entry
entry_with number writes = record { number = number; changes = logged_all writes }

abbrev pub entry_of : Commit → log.Entry
entry_of c = entry_with c.number c.writes

abbrev pub entries_of : List Commit → List log.Entry
entries_of commits = map entry_of commits

-- what an entry takes of a segment's room: its bytes, and its frame
abbrev pub charge : log.Entry → ℕ
charge e = length (log.entry_text e) + frame

-- the last change of those that were read, if there is one
abbrev pub last_of : Option (Bor Write) → Option log.Change
last_of None = None
last_of (Some w) = Some (logged w.now)
