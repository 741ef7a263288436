-- What a manifest says: its metadata, and what a creation and a drop make of them.
use Rattle.std.specs.Prelude.{◌≡◌, ℕ, ◌+◌, ◌-◌, ◌^◌, ◌<◌, ◌≤◌, false, nat_lt, nat_le, ◌==◌, ◌&&◌, not, Bool, if◌then◌else◌, List, [], ◌∷◌, ◌++◌}
use Rattle.std.specs.List.{filter, list_any}
use Rattle.hse_rows.specs.declared.store.Mode.{Mode}
use Rattle.hse_rows.specs.machine.TakenRuns.{NumberRun, longest_run}
use Rattle.hse_rows.specs.writes.NormalForm.{same}

-- a live store, without what it holds
pub record LiveStore : Type 0 where
  pub id : ℕ
  pub name : List ℕ
  pub mode : Mode
  pub prefix_length : ℕ

pub record Metadata : Type 0 where
  -- the last number when the layer was frozen that was ingested last
  pub horizon : ℕ
  -- the least sequence of the log that is still needed
  pub first_segment : ℕ
  -- the numbers of creations and drops above the horizon, ascending, in runs
  pub taken : List NumberRun
  -- by id
  pub stores : List LiveStore

-- the greatest number of a history, and the greatest sequence of a half
abbrev pub greatest_number : ℕ
greatest_number = 2 ^ 62

-- what f gives of the last one, and low where there is none
abbrev pub last_by : {A : Type 0} → (A → ℕ) → ℕ → List A → ℕ
last_by f low [] = low
last_by f low (x ∷ xs) = last_by f (f x) xs

abbrev pub last_of_run : NumberRun → ℕ
last_of_run run = run.first + run.count - 1

-- the greatest number that the metadata know of
abbrev pub last_known : Metadata → ℕ
last_known m = last_by last_of_run m.horizon m.taken

abbrev pub last_id : List LiveStore → ℕ
last_id stores = last_by (λ (store : LiveStore). store.id) 0 stores

abbrev pub is_in_run : ℕ → NumberRun → Bool
is_in_run number run = nat_le run.first number && nat_lt number (run.first + run.count)

abbrev pub is_taken : ℕ → List NumberRun → Bool
is_taken number runs = list_any (is_in_run number) runs

abbrev pub is_named : List ℕ → LiveStore → Bool
is_named name store = same store.name name

abbrev pub is_used : List ℕ → List LiveStore → Bool
is_used name stores = list_any (is_named name) stores

abbrev pub has_id : ℕ → LiveStore → Bool
has_id id store = store.id == id

abbrev pub is_live : ℕ → List LiveStore → Bool
is_live id stores = list_any (has_id id) stores

abbrev pub without : ℕ → List LiveStore → List LiveStore
without id stores = filter (λ store. not (has_id id store)) stores

-- the number follows the run, which has room for it
abbrev pub is_joined : NumberRun → ℕ → Bool
is_joined run number = (number == run.first + run.count) && nat_lt run.count longest_run

-- a run with the number that follows it, while it has room; else the run and one of the number alone
abbrev pub joined : NumberRun → ℕ → List NumberRun
joined run number =
    if is_joined run number
    then record { first = run.first; count = run.count + 1 } ∷ []
    else (run ∷ record { first = number; count = 1 } ∷ [])

-- the runs with one number more, above them all
abbrev pub with_taken : List NumberRun → ℕ → List NumberRun
with_taken [] number = record { first = number; count = 1 } ∷ []
with_taken (run ∷ []) number = joined run number
with_taken (run ∷ next ∷ runs) number = run ∷ with_taken (next ∷ runs) number

-- the creation of this number, of this store
abbrev pub with_store : Metadata → ℕ → LiveStore → Metadata
with_store m number store = record m { taken = with_taken m.taken number; stores = m.stores ++ store ∷ [] }

-- the drop of this number, of the store of this id
abbrev pub without_store : Metadata → ℕ → ℕ → Metadata
without_store m number id = record m { taken = with_taken m.taken number; stores = without id m.stores }

-- ids strictly rise from above this one on, and none is above the number
abbrev pub AreRising : ℕ → ℕ → List LiveStore → Type 0
AreRising low number [] = Unit {0}
AreRising low number (store ∷ stores) = (low < store.id) × (store.id ≤ number) × AreRising store.id number stores

-- no two stores have one name
abbrev pub AreNamedApart : List LiveStore → Type 0
AreNamedApart [] = Unit {0}
AreNamedApart (store ∷ stores) = (is_used store.name stores ≡ false) × AreNamedApart stores

-- Two names have two ids, and an id is a number that the metadata know of.
pub record AreApart (m : Metadata) : Type 0 where
  pub rising : AreRising 0 (last_known m) m.stores
  pub named : AreNamedApart m.stores

-- the number of the next creation or drop is above all that are known
abbrev pub may_be_number : Metadata → ℕ → Bool
may_be_number m number = nat_lt (last_known m) number && nat_le number greatest_number
