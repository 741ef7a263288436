-- The manifest's text: what a batch's payload says.
--
--     base    u8 6, u64 horizon, u64 first segment, u32 t, t runs of taken numbers, u32 s, s stores by id
--     run     u32 gap, u32 count, at least 1
--     store   u64 id, u8 n, name, u8 mode, u8 prefix length, u32 0, the count of its nodes
--     create  u8 2, u64 number, u8 n, name, u8 mode, u8 prefix length
--     drop    u8 3, u64 number, u64 id
use Rattle.std.specs.Prelude.{ℕ, ◌-◌, List, [], ◌∷◌, ◌++◌, length}
use Rattle.std.specs.List.{flat_map}
use Rattle.byteorder.specs.Endian.{big_bytes}
use Rattle.hse_fields.specs.LogText.{sized}
use Rattle.hse_rows.specs.declared.store.Mode.{Mode}
use Rattle.hse_rows.specs.declared.store.Mode.TheVariants.{Plain, Tx}
use Rattle.hse_rows.specs.machine.TakenRuns.{NumberRun}
use Rattle.manifest.specs.Metadata.{LiveStore, Metadata, last_of_run}

pub data Entry : Type 0 where
  base : Metadata → Entry
  -- a creation, whose number is the store's id
  create : LiveStore → Entry
  -- the drop of this number, of the store of this id
  drop : ℕ → ℕ → Entry

abbrev pub base_kind : ℕ
base_kind = 6

abbrev pub create_kind : ℕ
create_kind = 2

abbrev pub drop_kind : ℕ
drop_kind = 3

abbrev pub mode_code : Mode → ℕ
mode_code Plain = 0
mode_code Tx = 1

-- a run behind this number: how many numbers between are not taken, and how many are
abbrev pub run_text : ℕ → NumberRun → List ℕ
run_text low run = big_bytes 4 (run.first - low - 1) ++ big_bytes 4 run.count

abbrev pub runs_text : ℕ → List NumberRun → List ℕ
runs_text low [] = []
runs_text low (run ∷ runs) = run_text low run ++ runs_text (last_of_run run) runs

-- a store but for its id
abbrev pub described_text : LiveStore → List ℕ
described_text store =
    sized 1 store.name ++ (big_bytes 1 (mode_code store.mode) ++ big_bytes 1 store.prefix_length)

abbrev pub store_text : LiveStore → List ℕ
store_text store = big_bytes 8 store.id ++ (described_text store ++ big_bytes 4 0)

abbrev pub base_text : Metadata → List ℕ
base_text m =
    big_bytes 1 base_kind
    ++ (big_bytes 8 m.horizon ++ (big_bytes 8 m.first_segment
    ++ (big_bytes 4 (length m.taken) ++ (runs_text m.horizon m.taken
    ++ (big_bytes 4 (length m.stores) ++ flat_map store_text m.stores)))))

abbrev pub create_text : LiveStore → List ℕ
create_text store = big_bytes 1 create_kind ++ (big_bytes 8 store.id ++ described_text store)

abbrev pub drop_text : ℕ → ℕ → List ℕ
drop_text number id = big_bytes 1 drop_kind ++ (big_bytes 8 number ++ big_bytes 8 id)

abbrev pub entry_text : Entry → List ℕ
entry_text (base m) = base_text m
entry_text (create store) = create_text store
entry_text (drop number id) = drop_text number id
