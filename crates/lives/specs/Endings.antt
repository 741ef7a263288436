-- The end of a run.
use Rattle.std.specs.Prelude.{ℕ, Result, Ok, Err}
use Rattle.kvdb.specs.declared.leaving.CloseFault.{CloseFault}
use Rattle.lives.specs.Stories.{Story, closed}

-- the story of the marks that a closing leaves: where it failed it has none of its own
abbrev pub left_by : Story → Result ℕ CloseFault → Story
left_by s (Ok number) = closed s number
left_by s (Err fault) = s
