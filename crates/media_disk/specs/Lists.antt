-- Which calls of a disk in memory are to fail.
use Rattle.std.specs.Prelude.{ℕ, ◌-◌, ◌^◌, Bool, ◌||◌, ◌==◌, nat_le, List, []}
use Rattle.std.specs.List.{list_any}

-- the calls at these clocks, all calls from a clock on, and one of the next writes, counted from 1, or none at 0
pub record Lists : Type 0 where
  pub calls : List ℕ
  pub from : ℕ
  pub write : ℕ

-- no call is to fail but at the clock's last value
abbrev pub no_lists : Lists
no_lists = record { calls = []; from = 2 ^ 64 - 1; write = 0 }

-- a call at this clock is to fail
abbrev pub fails : Lists → ℕ → Bool
fails lists clock = list_any (λ call. call == clock) lists.calls || nat_le lists.from clock

-- a write at this clock is to fail
abbrev pub fails_write : Lists → ℕ → Bool
fails_write lists clock = lists.write == 1 || fails lists clock

-- the lists after one more write
abbrev pub after_write : Lists → Lists
after_write lists = record lists { write = lists.write - 1 }
