-- Reading the manifest's text from left to right. A field is a value and the bytes behind it. A refusal is the number of
-- bytes that stand from the first refused field on, to the end of the payload.
use Rattle.std.specs.Prelude.{ℕ, zero, suc, ◌+◌, List, [], ◌∷◌, ◌++◌, length, Bool, true, nat_lt, nat_le, ◌==◌, ◌&&◌, ◌||◌, not, Option, Some, None, Result, Ok, Err, if◌then◌else◌}
use Rattle.std.specs.List.{list_all}
use Rattle.hse_fields.specs.Fields.{number_of, bytes_of}
use Rattle.hse_fields.specs.LogReading.{◌>>=◌, ensure, given, size_of}
use Rattle.hse_rows.specs.declared.store.Mode.{Mode}
use Rattle.hse_rows.specs.declared.store.Mode.TheVariants.{Plain, Tx}
use Rattle.hse_rows.specs.machine.TakenRuns.{NumberRun, longest_run}
use Rattle.hse_rows.specs.writes.Lengths.{longest_prefix}
use Rattle.hse_rows.specs.writes.Names.{is_name_byte}
use Rattle.manifest.specs.Metadata.{LiveStore, Metadata, greatest_number, last_of_run, last_id, is_taken, is_used, is_live, may_be_number, with_store, without_store}
use Rattle.manifest.specs.Text.{base_kind, create_kind, drop_kind}

-- so many steps, one after another
unfoldable pub many : {S : Type 0} → (S → List ℕ → Result (S × List ℕ) ℕ) → S → ℕ → List ℕ → Result (S × List ℕ) ℕ
many step state zero bytes = Ok (state, bytes)
many step state (suc n) bytes = do
  after ← step state bytes
  many step after.0 n after.1

-- ---- taken numbers

-- A run of count numbers behind a gap, above this number. A gap of 0 stands only where the run may join the one before
-- it. A first number above the greatest one is refused at the gap, any other at the count.
unfoldable pub run_of : ℕ → Bool → List ℕ → Result (NumberRun × List ℕ) ℕ
run_of low joins bytes = do
  gap ← number_of 4 bytes
  apart ← ensure (nat_lt 0 gap.0 || joins) (length bytes)
  small ← ensure (nat_lt (low + gap.0) greatest_number) (length bytes)
  count ← number_of 4 gap.1
  some ← ensure (nat_lt 0 count.0) (length gap.1)
  fits ← ensure (nat_le (low + gap.0 + count.0) greatest_number) (length gap.1)
  Ok (record { first = low + gap.0 + 1; count = count.0 }, count.1)

-- The runs that were read, the last number of them, and whether the next one may join: the first run may, and one behind
-- a run that has no room left.
pub record RunsRead : Type 0 where
  pub runs : List NumberRun
  pub low : ℕ
  pub joins : Bool

abbrev pub no_runs : ℕ → RunsRead
no_runs horizon = record { runs = []; low = horizon; joins = true }

abbrev pub with_run : RunsRead → NumberRun → RunsRead
with_run read run =
    record { runs = read.runs ++ run ∷ []; low = last_of_run run; joins = run.count == longest_run }

unfoldable pub run_step : RunsRead → List ℕ → Result (RunsRead × List ℕ) ℕ
run_step read bytes = do
  run ← run_of read.low read.joins bytes
  Ok (with_run read run.0, run.1)

-- so many runs above this number
abbrev pub runs_of : ℕ → ℕ → List ℕ → Result (List NumberRun × List ℕ) ℕ
runs_of horizon count bytes = many run_step (no_runs horizon) count bytes >>= λ x. Ok (x.0.runs, x.1)

-- ---- stores

-- A byte that no name may have, and a name that another store has, are refused at the name.
unfoldable pub name_of : List LiveStore → List ℕ → Result (List ℕ × List ℕ) ℕ
name_of stores bytes = do
  size ← size_of 1 1 31 bytes
  name ← bytes_of size.0 size.1
  letters ← ensure (list_all is_name_byte name.0) (length size.1)
  free ← ensure (not (is_used name.0 stores)) (length size.1)
  Ok name

abbrev pub mode_with : ℕ → Option Mode
mode_with byte = if byte == 0 then Some Plain else (if byte == 1 then Some Tx else None)

unfoldable pub mode_of : List ℕ → Result (Mode × List ℕ) ℕ
mode_of bytes = do
  byte ← number_of 1 bytes
  mode ← given (mode_with byte.0) (length bytes)
  Ok (mode, byte.1)

-- a store but for its id
unfoldable pub described_of : List LiveStore → ℕ → List ℕ → Result (LiveStore × List ℕ) ℕ
described_of stores id bytes = do
  name ← name_of stores bytes
  mode ← mode_of name.1
  prefix ← number_of 1 mode.1
  short ← ensure (nat_le prefix.0 longest_prefix) (length mode.1)
  Ok (record { id = id; name = name.0; mode = mode.0; prefix_length = prefix.0 }, prefix.1)

-- A store of this id may come next in a base: there is room for it, ids rise, and an id is a number up to the horizon or
-- a taken one.
abbrev pub may_be_next : ℕ → ℕ → List NumberRun → List LiveStore → ℕ → Bool
may_be_next most horizon runs stores id =
    nat_lt (length stores) most && nat_lt (last_id stores) id && (nat_le id horizon || is_taken id runs)

-- The nodes of a store are none: others are not read yet, and refused at their count.
unfoldable pub store_of : ℕ → ℕ → List NumberRun → List LiveStore → List ℕ → Result (LiveStore × List ℕ) ℕ
store_of most horizon runs stores bytes = do
  id ← number_of 8 bytes
  next ← ensure (may_be_next most horizon runs stores id.0) (length bytes)
  store ← described_of stores id.0 id.1
  nodes ← number_of 4 store.1
  none ← ensure (nodes.0 == 0) (length store.1)
  Ok (store.0, nodes.1)

unfoldable pub store_step : ℕ → ℕ → List NumberRun → List LiveStore → List ℕ → Result (List LiveStore × List ℕ) ℕ
store_step most horizon runs stores bytes = do
  store ← store_of most horizon runs stores bytes
  Ok (stores ++ store.0 ∷ [], store.1)

-- so many stores
abbrev pub stores_of : ℕ → ℕ → List NumberRun → ℕ → List ℕ → Result (List LiveStore × List ℕ) ℕ
stores_of most horizon runs count bytes = many (store_step most horizon runs) [] count bytes

-- ---- entries, behind their kind

-- The first segment is 1: others are not read yet, and refused at themselves.
unfoldable pub base_of : ℕ → List ℕ → Result (Metadata × List ℕ) ℕ
base_of most bytes = do
  horizon ← number_of 8 bytes
  small ← ensure (nat_le horizon.0 greatest_number) (length bytes)
  first ← number_of 8 horizon.1
  one ← ensure (first.0 == 1) (length horizon.1)
  runs ← number_of 4 first.1
  taken ← runs_of horizon.0 runs.0 runs.1
  count ← number_of 4 taken.1
  stores ← stores_of most horizon.0 taken.0 count.0 count.1
  Ok (record { horizon = horizon.0; first_segment = first.0; taken = taken.0; stores = stores.0 }, stores.1)

-- A store above the limit is refused at its number.
unfoldable pub create_of : ℕ → Metadata → List ℕ → Result (Metadata × List ℕ) ℕ
create_of most m bytes = do
  number ← number_of 8 bytes
  next ← ensure (may_be_number m number.0 && nat_lt (length m.stores) most) (length bytes)
  store ← described_of m.stores number.0 number.1
  Ok (with_store m number.0 store.0, store.1)

unfoldable pub drop_of : Metadata → List ℕ → Result (Metadata × List ℕ) ℕ
drop_of m bytes = do
  number ← number_of 8 bytes
  next ← ensure (may_be_number m number.0) (length bytes)
  id ← number_of 8 number.1
  live ← ensure (is_live id.0 m.stores) (length number.1)
  Ok (without_store m number.0 id.0, id.1)

-- ---- payloads

-- An entry of any other kind is refused at its kind. The first one is a base, and no other is.
unfoldable pub entry_of : ℕ → Option Metadata → ℕ → ℕ → List ℕ → Result (Metadata × List ℕ) ℕ
entry_of most None kind left bytes = if kind == base_kind then base_of most bytes else Err left
entry_of most (Some m) kind left bytes =
    if kind == create_kind then create_of most m bytes
    else (if kind == drop_kind then drop_of m bytes else Err left)

-- What the metadata are after one entry more, whose payload this is. Bytes left over behind it are refused at the length
-- of the batch, the four bytes before it.
unfoldable pub payload_of : ℕ → Option Metadata → List ℕ → Result Metadata ℕ
payload_of most before bytes = do
  kind ← number_of 1 bytes
  after ← entry_of most before kind.0 (length bytes) kind.1
  ended ← ensure (length after.1 == 0) (4 + length bytes)
  Ok after.0
