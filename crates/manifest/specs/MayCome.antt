-- Which entries may come next.
use Rattle.std.specs.Prelude.{◌≡◌, ℕ, ◌-◌, ◌^◌, ◌<◌, ◌≤◌, Bool, true, false, nat_lt, ◌||◌, ◌==◌, List, [], ◌∷◌, ◌++◌, length, Option, Some, None}
use Rattle.hse_rows.specs.machine.TakenRuns.{NumberRun, longest_run}
use Rattle.hse_rows.specs.writes.Lengths.{longest_prefix}
use Rattle.hse_rows.specs.writes.Names.{IsName}
use Rattle.manifest.specs.Metadata.{LiveStore, Metadata, greatest_number, last_of_run, is_used, is_live, may_be_number, with_store, without_store}
use Rattle.manifest.specs.Reading.{may_be_next}
use Rattle.manifest.specs.Text.{Entry, base, create, drop, entry_text}

-- a store with a name that none of these has
pub record IsDescribed (stores : List LiveStore) (store : LiveStore) : Type 0 where
  pub name : IsName store.name
  pub free : is_used store.name stores ≡ false
  pub short : store.prefix_length ≤ longest_prefix

pub record MayCreate (most : ℕ) (m : Metadata) (store : LiveStore) : Type 0 where
  pub number : may_be_number m store.id ≡ true
  pub room : length m.stores < most
  pub described : IsDescribed m.stores store

pub record MayDrop (m : Metadata) (number id : ℕ) : Type 0 where
  pub next : may_be_number m number ≡ true
  pub live : is_live id m.stores ≡ true
  pub id_fits : id < 2 ^ 64

-- A run behind this number, which may join the one before it or not.
pub record MayFollow (low : ℕ) (joins : Bool) (run : NumberRun) : Type 0 where
  pub above : low < run.first
  pub gap : run.first - low - 1 < 2 ^ 32
  pub apart : (nat_lt 0 (run.first - low - 1) || joins) ≡ true
  pub some : 0 < run.count
  pub count : run.count < 2 ^ 32
  pub small : last_of_run run ≤ greatest_number

-- runs that stand one behind another
abbrev pub AreRuns : ℕ → Bool → List NumberRun → Type 0
AreRuns low joins [] = Unit {0}
AreRuns low joins (run ∷ runs) = MayFollow low joins run × AreRuns (last_of_run run) (run.count == longest_run) runs

-- stores that may stand behind these in a base
abbrev pub AreStores : ℕ → ℕ → List NumberRun → List LiveStore → List LiveStore → Type 0
AreStores most horizon runs known [] = Unit {0}
AreStores most horizon runs known (store ∷ stores) =
    (may_be_next most horizon runs known store.id ≡ true) × (store.id < 2 ^ 64) × IsDescribed known store
    × AreStores most horizon runs (known ++ store ∷ []) stores

pub record MayBeBase (most : ℕ) (m : Metadata) : Type 0 where
  pub horizon : m.horizon ≤ greatest_number
  pub first : m.first_segment ≡ 1
  pub runs : AreRuns m.horizon true m.taken
  pub runs_counted : length m.taken < 2 ^ 32
  pub stores : AreStores most m.horizon m.taken [] m.stores
  pub stores_counted : length m.stores < 2 ^ 32

-- The entry may come after these metadata, or first where there are none.
abbrev pub MayCome : ℕ → Option Metadata → Entry → Type 0
MayCome most None (base m) = MayBeBase most m
MayCome most None (create store) = ⊥
MayCome most None (drop number id) = ⊥
MayCome most (Some m) (base n) = ⊥
MayCome most (Some m) (create store) = MayCreate most m store
MayCome most (Some m) (drop number id) = MayDrop m number id

-- the metadata after an entry
abbrev pub after : Option Metadata → Entry → Option Metadata
after before (base m) = Some m
after (Some m) (create store) = Some (with_store m store.id store)
after (Some m) (drop number id) = Some (without_store m number id)
after None entry = None

-- The payload is the text of an entry that may come, behind which these are the metadata.
pub record SpellsEntry (most : ℕ) (before : Option Metadata) (payload : List ℕ) (m : Metadata) : Type 0 where
  pub entry : Entry
  pub may : MayCome most before entry
  pub after_is : after before entry ≡ Some m
  pub spelled : payload ≡ entry_text entry
