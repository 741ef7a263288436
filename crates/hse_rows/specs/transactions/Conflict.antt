-- When a write of a transaction is canceled.
use Rattle.std.specs.Prelude.{ℕ, ◌+◌, ◌==◌, Bool, ◌&&◌, not, cond, List, [], ◌∷◌, Option, Some, None}
use Rattle.std.specs.List.{find}
use Rattle.hse_rows.specs.declared.write.Write.{Write}
use Rattle.hse_rows.specs.states.State.{State}
use Rattle.hse_rows.specs.states.History.{Event, commits, creates, drops, events_since}
use Rattle.hse_rows.specs.writes.Overlap.{overlaps_some}
use Rattle.hse_rows.specs.transactions.Transaction.{Transaction, is_active}

pub data Conflict : Type 0 where
  -- the other transaction of this begin order, the first begun of these, has a write that overlaps
  held : ℕ → Conflict
  -- this commit after the snapshot, the first of these, has a write that overlaps
  since : ℕ → Conflict

-- another active transaction with a write that overlaps
abbrev pub holds : Transaction → Write → Transaction → Bool
holds own write other = is_active other.state && not (other.begun == own.begun) && overlaps_some write other.writes

-- the first begun that holds, of these in the order of begins
abbrev pub holder : Transaction → Write → List Transaction → Option Transaction
holder own write begun = find (holds own write) begun

-- the first commit with a write that overlaps, of these events, numbered from this on
abbrev pub first_overlap : Write → ℕ → List Event → Option ℕ
first_overlap write number [] = None
first_overlap write number (commits writes ∷ events) =
    cond (overlaps_some write writes) (Some number) (first_overlap write (number + 1) events)
first_overlap write number (creates name mode prefix_length ∷ events) = first_overlap write (number + 1) events
first_overlap write number (drops id ∷ events) = first_overlap write (number + 1) events

-- A holder comes before a commit since the snapshot.
abbrev pub conflict_by : Option Transaction → Option ℕ → Option Conflict
conflict_by (Some other) commit = Some (held other.begun)
conflict_by None (Some number) = Some (since number)
conflict_by None None = None

-- What cancels a write of the transaction, where all begun ones stand in order.
abbrev pub conflict_of : State → List Event → List Transaction → Transaction → Write → Option Conflict
conflict_of base events begun own write =
    conflict_by (holder own write begun)
    (first_overlap write (own.snapshot + 1) (events_since base events own.snapshot))
