-- What commits, a creation and a drop make of what is loaded of a device, and when they may come.
use Rattle.std.specs.Prelude.{◌≡◌, ℕ, ◌+◌, ◌-◌, ◌≤◌, nat_le, Bool, if◌then◌else◌, List, [], ◌∷◌, ◌++◌, length, Some}
use Rattle.hse_fields.specs.LogForm.{ArePayload}
use Rattle.hse_fields.specs.LogReading.{PrefixesFit}
use Rattle.hse_fields.specs.LogText as log
use Rattle.gate_log.specs.Places.{need_of}
use Rattle.manifest.specs.Half.{head_size}
use Rattle.manifest.specs.MayCome.{MayBeBase, MayCome}
use Rattle.manifest.specs.Metadata.{Metadata, with_store, without_store}
use Rattle.manifest.specs.Text.{Entry, base, create, drop, base_text, entry_text}
use Rattle.recovery.specs.Image.{Loaded, Log, longest_value, number_of, prefixes_of}
use Rattle.wal.specs.Charges.{charges, end_size}
use Rattle.wal.specs.Live.{prefix_fits}
use Rattle.wal.specs.Numbered.{AreNumbered}
use Rattle.wal.specs.Stores.{OfEachStore}

-- the last number of what is loaded
abbrev pub last_number : Loaded → ℕ
last_number loaded = number_of loaded.metadata loaded.log

-- ---- commits

-- the log with one batch more, of these entries, the last of which has this number
abbrev pub log_with : Log → List log.Entry → ℕ → Log
log_with old entries number = record {
  entries = old.entries ++ entries;
  next = number + 1;
  place = old.place + need_of (log.payload_text entries);
}

-- What is loaded after one batch of these commits, and nothing else where there are none.
abbrev pub with_commits : Loaded → List log.Entry → Loaded
with_commits loaded [] = loaded
with_commits loaded (entry ∷ entries) =
    record loaded { log = log_with loaded.log (entry ∷ entries) (last_number loaded + length (entry ∷ entries)) }

-- These commits may come next as one batch: each has a text, their prefix deletes are no longer than their live stores'
-- prefixes, they have the numbers from the next one on, up to the greatest, they name no store id above the last number,
-- and there is room for them.
pub record MayCommit (loaded : Loaded) (entries : List log.Entry) : Type 0 where
  pub formed : ArePayload (longest_value loaded.layout) entries
  pub prefixes : PrefixesFit (prefix_fits (prefixes_of loaded.metadata.stores)) entries
  pub numbered : AreNumbered (last_number loaded + 1) entries
  pub small : last_number loaded + length entries ≤ 4611686018427387904
  pub known : OfEachStore (λ (store : ℕ). store ≤ last_number loaded) entries
  pub fits : charges loaded.log.entries + charges entries ≤ loaded.layout.log - end_size

-- the same of no commits, or some
abbrev pub MayCommitAny : Loaded → List log.Entry → Type 0
MayCommitAny loaded [] = Unit {0}
MayCommitAny loaded (entry ∷ entries) = MayCommit loaded (entry ∷ entries)

-- ---- creations and drops

-- the metadata after a creation or a drop; a base is all of them
abbrev pub metadata_with : Metadata → Entry → Metadata
metadata_with m (base n) = n
metadata_with m (create store) = with_store m store.id store
metadata_with m (drop number id) = without_store m number id

-- its number
abbrev pub number_in : Entry → ℕ
number_in (base m) = m.horizon
number_in (create store) = store.id
number_in (drop number id) = number

-- the half in force has room for the entry
abbrev pub has_room : Loaded → Entry → Bool
has_room loaded entry = nat_le (need_of (entry_text entry)) (loaded.layout.manifest - (loaded.place + 1))

-- the entry behind those of the half in force
abbrev pub logged : Loaded → Entry → Loaded
logged loaded entry = record loaded {
  place = loaded.place + need_of (entry_text entry);
  metadata = metadata_with loaded.metadata entry;
}

-- the state after it as a base in the other half, which has the next sequence
abbrev pub rolled : Loaded → Entry → Loaded
rolled loaded entry = record loaded {
  half = 1 - loaded.half;
  sequence = loaded.sequence + 1;
  place = head_size - 1 + need_of (base_text (metadata_with loaded.metadata entry));
  metadata = metadata_with loaded.metadata entry;
}

-- What is loaded after the entry: it is logged where it has room, and else the manifest rolls.
abbrev pub with_entry : Loaded → Entry → Loaded
with_entry loaded entry = if has_room loaded entry then logged loaded entry else rolled loaded entry

-- The entry may come next: it has the next number, the manifest's rules allow it, and the state after it may be a base.
pub record MayEnter (loaded : Loaded) (entry : Entry) : Type 0 where
  pub next : number_in entry ≡ last_number loaded + 1
  pub comes : MayCome loaded.layout.stores (Some loaded.metadata) entry
  pub base_may : MayBeBase loaded.layout.stores (metadata_with loaded.metadata entry)
