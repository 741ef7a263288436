-- What an adapter over a reader or a writer tells.
use Rattle.std.specs.Prelude.{ℕ, List, Option}

-- the bytes that the reader has left or the writer holds, where it tells them, and the faults
pub record AdapterState : Type 0 where
  pub told : Option (List ℕ)
  pub faults : ℕ
