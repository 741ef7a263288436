-- The script machine: the core with names, and with the list and position of each cursor.
use Rattle.std.specs.Prelude.{ℕ, ◌+◌, ◌-◌, ◌==◌, not, Bool, false, if◌then◌else◌, List, [], ◌∷◌, map, Option, Some, None, is_some}
use Rattle.std.specs.List.{find, filter}
use Rattle.hse_rows.specs.writes.NormalForm.{same}
use Rattle.hse_rows.specs.transactions.Transaction.{is_active}
use Rattle.hse_rows.specs.transactions.Timeline.{transaction_of, for_some}
use Rattle.hse_rows.specs.script.Cursor.{CursorState}
use Rattle.hse_rows.specs.rows.Job.{job_of}
use Rattle.hse_rows.specs.machine.Core.{Core}

pub record NamedCursor : Type 0 where
  pub name : List ℕ
  pub cursor : CursorState

pub record Script : Type 0 where
  pub core : Core
  -- the names of all transactions that began since the opening, by begin order
  pub begun_names : List (List ℕ)
  -- and of all jobs that were picked, by their ids: one that was picked within a line has no name
  pub picked_names : List (List ℕ)
  -- the open cursors
  pub cursors : List NamedCursor

-- a life has no names
abbrev pub begins_with : Core → Script
begins_with core = record { core = core; begun_names = []; picked_names = []; cursors = [] }

-- ---- what a name means now

-- the last place of a name, of these from this place on
abbrev pub last_place : List ℕ → ℕ → List (List ℕ) → Option ℕ → Option ℕ
last_place name place [] found = found
last_place name place (first ∷ names) found =
    last_place name (place + 1) names (if same first name then Some place else found)

-- the begin order of the transaction that has this name now
abbrev pub order_of : Script → List ℕ → Option ℕ
order_of s name = last_place name 0 s.begun_names None

-- it is live
abbrev pub is_begun : Script → List ℕ → Bool
is_begun s name =
    for_some (order_of s name) false (λ order.
    for_some (transaction_of s.core.timeline order) false (λ transaction. is_active transaction.state))

-- the id of the live job that has this name
abbrev pub job_named : Script → List ℕ → Option ℕ
job_named s name =
    for_some (last_place name 0 s.picked_names None) None (λ id.
    if is_some (job_of s.core.jobs id) then Some id else None)

-- the open cursor that has this name
abbrev pub cursor_named : Script → List ℕ → Option CursorState
cursor_named s name =
    for_some (find (λ named. same named.name name) s.cursors) None (λ named. Some named.cursor)

-- ---- names in refusals

-- the name at this place
abbrev pub name_at : List (List ℕ) → ℕ → List ℕ
name_at [] place = []
name_at (name ∷ names) place = if place == 0 then name else name_at names (place - 1)

-- ---- cursors

abbrev pub with_cursor : List NamedCursor → List ℕ → CursorState → List NamedCursor
with_cursor cursors name cursor =
    map (λ (named : NamedCursor). if same named.name name then record named { cursor = cursor } else named) cursors

abbrev pub without_cursor : List NamedCursor → List ℕ → List NamedCursor
without_cursor cursors name = filter (λ named. not (same named.name name)) cursors
