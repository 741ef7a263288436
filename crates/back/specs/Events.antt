-- Commits of the log as events of a history.
use Rattle.std.specs.Prelude.{List, map}
use Rattle.hse_fields.specs.LogText.{Entry}
use Rattle.hse_rows.specs.states.History.{Event, commits}
use Rattle.recovery.specs.Image.{Loaded}
use Rattle.recovery.specs.Stored.{write_in}

abbrev pub event_of : Entry → Event
event_of entry = commits (map write_in entry.changes)

abbrev pub events_of : List Entry → List Event
events_of entries = map event_of entries
