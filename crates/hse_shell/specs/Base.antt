-- What a device stores, as a run begins with it.
use Rattle.std.specs.Prelude.{ℕ}
use Rattle.hse_shell.specs.Change.{Contents}

pub record Base : Type 0 where
  -- the last number
  pub number : ℕ
  pub contents : Contents
  -- what the log's commits take of its room
  pub charges : ℕ
