-- Laws of the definitions, each the clause of a function of `src/laws.rt`.
use Rattle.std.specs.Prelude.{◌≡◌, ℕ, ◌≤◌, List, ◌++◌, map, flat_map}
use Rattle.std.specs.FinMap as fin_map
use Rattle.hse_rows.specs.declared.write.Write.{Write}
use Rattle.hse_rows.specs.writes.NormalForm.{normal_form}
use Rattle.hse_rows.specs.writes.Reach.{left_by}
use Rattle.hse_rows.specs.states.State.{State, Contents, contents_after_all, applied_all}
use Rattle.hse_rows.specs.writes.Overlap.{overlaps, overlaps_some}
use Rattle.hse_rows.specs.states.History.{Event, folded, fold, last_number}
use Rattle.hse_rows.specs.states.Rooted.{AreRooted, bare, writes_of}
use Rattle.hse_rows.specs.machine.Recorded.{commits_in}

-- A key holds what the last write that touches it leaves there.
abbrev pub KeysHoldLastEffects : Type 0
KeysHoldLastEffects =
    (id : ℕ) (contents : Contents) (writes : List Write) (key : List ℕ)
    → fin_map.get (contents_after_all id contents writes) key
    ≡ left_by id key (fin_map.get contents key) writes

-- Applying a normal form does what applying the writes does.
abbrev pub NormalFormsDoTheSame : Type 0
NormalFormsDoTheSame =
    (state : State) (writes : List Write) → applied_all state (normal_form writes) ≡ applied_all state writes

-- The same writes overlap a normal form.
abbrev pub NormalFormsOverlapTheSame : Type 0
NormalFormsOverlapTheSame =
    (write : Write) (writes : List Write) → overlaps_some write (normal_form writes) ≡ overlaps_some write writes

-- One write overlaps another where that overlaps it.
abbrev pub OverlapsGoBothWays : Type 0
OverlapsGoBothWays = (one other : Write) → overlaps one other ≡ overlaps other one

-- The state after all events has the last number, and is the fold up to it.
abbrev pub LastStateHasLastNumber : Type 0
LastStateHasLastNumber =
    (base : State) (events : List Event)
    → ((folded base events).number ≡ last_number base events)
    × (fold base events (last_number base events) ≡ folded base events)

-- Later events change no state of an earlier number.
abbrev pub SnapshotsStay : Type 0
SnapshotsStay =
    (base : State) (events later : List Event) (number : ℕ) → number ≤ last_number base events
    → fold base (events ++ later) number ≡ fold base events number

-- Where commits write to stores that were created before, creations and drops may come before all writes.
abbrev pub CreationsMayComeFirst : Type 0
CreationsMayComeFirst =
    (base : State) (events : List Event) → AreRooted base.number events
    → folded base events ≡ applied_all (folded base (map bare events)) (writes_of events)

-- A front of such a history is one.
abbrev pub FrontsAreRooted : Type 0
FrontsAreRooted =
    (number : ℕ) (events later : List Event) → AreRooted number (events ++ later) → AreRooted number events

-- The writes of the commits are those of the history.
abbrev pub CommitsHaveTheWrites : Type 0
CommitsHaveTheWrites =
    (number : ℕ) (events : List Event)
    → flat_map (λ commit. commit.writes) (commits_in number events) ≡ writes_of events
