-- What a source in memory holds, and how its calls are counted.
use Rattle.std.specs.Prelude.{ℕ, List, Contains}
use Rattle.hse_io.specs.Faults.{next_count}

-- the bytes that are left, the numbers of the calls that fail, the calls and the faults so far
pub record SourceState : Type 0 where
  pub left : List ℕ
  pub fails : List ℕ
  pub calls : ℕ
  pub faults : ℕ

-- the next call is one that fails
abbrev pub IsFailing : SourceState → Type 0
IsFailing s = Contains s.fails (next_count s.calls)
