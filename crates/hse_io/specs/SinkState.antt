-- What a sink in memory holds, and how its calls are counted.
use Rattle.std.specs.Prelude.{ℕ, List, Contains}
use Rattle.hse_io.specs.Faults.{next_count}

-- the bytes appended, the numbers of the calls that fail, the calls so far, and the faults of
-- listed calls and of others
pub record SinkState : Type 0 where
  pub held : List ℕ
  pub fails : List ℕ
  pub calls : ℕ
  pub listed : ℕ
  pub refused : ℕ

-- the next call is one that fails
abbrev pub IsFailing : SinkState → Type 0
IsFailing s = Contains s.fails (next_count s.calls)
