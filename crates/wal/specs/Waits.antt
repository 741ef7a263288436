-- Commits that wait for the device, as they are encoded one by one.
use Rattle.std.specs.Prelude.{◌≡◌, ℕ, ◌+◌, ◌*◌, ◌^◌, ◌<◌, ◌≤◌, List, [], ◌++◌, length, drop, vec_len, vec_capacity}
use Rattle.std.specs.List.{flat_map}
use Rattle.byteorder.specs.Endian.{big_bytes}
use Rattle.hse_fields.specs.LogLimits.{frame}
use Rattle.hse_fields.specs.LogText.{Entry, entry_text}
use Rattle.wal.specs.declared.waiting.Waiting.TheInside.{Inside}

-- how many they are, and their entries
pub record WaitingState : Type 0 where
  pub count : ℕ
  pub text : List ℕ

abbrev pub none_waits : WaitingState
none_waits = record { count = 0; text = [] }

-- one more behind them
abbrev pub with_entry : WaitingState → Entry → WaitingState
with_entry waiting entry = record { count = waiting.count + 1; text = waiting.text ++ entry_text entry }

-- these wait
abbrev pub waiting_of : List Entry → WaitingState
waiting_of entries = record { count = length entries; text = flat_map entry_text entries }

-- the payload of their batch
abbrev pub batch_of : WaitingState → List ℕ
batch_of waiting = big_bytes 4 waiting.count ++ waiting.text

-- what their commits take of a segment's room
abbrev pub charge_in : WaitingState → ℕ
charge_in waiting = length waiting.text + frame * waiting.count

-- what stands before the entries: room for the length of the frame, and for the count
abbrev pub head : ℕ
head = 8

abbrev pub waiting_in : Inside → WaitingState
waiting_in inside = record { count = inside.count; text = drop head inside.bytes.items }

-- There is room for the head and the closed gate, and the length of the frame has four bytes.
pub record AreWaiting (inside : Inside) : Type 0 where
  pub begun : head ≤ vec_len inside.bytes
  pub room : vec_len inside.bytes < vec_capacity inside.bytes
  pub fits : vec_len inside.bytes < 2 ^ 32
  pub counted : head + inside.count ≤ vec_len inside.bytes
