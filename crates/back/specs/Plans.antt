-- Plans of creations and drops.
use Rattle.std.specs.Prelude.{◌≡◌, ℕ, ◌+◌, ◌≤◌, ◌<◌, List, [], length, Option, Some, None, Result, Ok, Err}
use denote.Ref.{Bor}
use Rattle.hse_fields.specs.LogText as log
use Rattle.gate_log.specs.Places.{need_of}
use Rattle.gate_log.specs.declared.batch.Batch.{Batch}
use Rattle.hse_rows.specs.machine.ManifestRoom.{ManifestState, head_bytes}
use Rattle.manifest.specs.Metadata.{Metadata}
use Rattle.manifest.specs.Text.{Entry, base_text, entry_text}
use Rattle.manifest.specs.Writing.{IsRollFull, room_in, room_of_half}
use Rattle.manifest.specs.declared.manifest.Manifest.{Manifest}
use Rattle.wal.specs.Charges.{entries_charge, HasEntries}
use Rattle.wal.specs.Writing as writing
use Rattle.wal.specs.declared.ring.Ring.{Ring}
use Rattle.recovery.specs.Image.{Loaded}
use Rattle.back.specs.Steps.{metadata_with, with_commits, MayCommitAny, MayEnter}
use Rattle.back.specs.declared.plan.EntryPlan.{EntryPlan}
use Rattle.back.specs.declared.plan.EntryPlan.TheVariants.{Log, Roll}
use Rattle.back.specs.declared.plan.PlanFault.{PlanFault}
use Rattle.back.specs.declared.plan.PlanFault.TheVariants.{Full, ManifestFull, NoMemory}

-- An entry is logged where the half in force has room for it. Else the manifest rolls to the base after it, unless that is
-- full: then the base's need and the room of a new half are answered.
abbrev pub IsPlan : Manifest → List ℕ → List ℕ → Result EntryPlan PlanFault → Type 0
IsPlan m entry after (Ok (Log batch)) = (batch ≡ entry) × (need_of entry ≤ room_in m)
IsPlan m entry after (Ok (Roll batch)) = (batch ≡ after) × (room_in m < need_of entry) × ¬ IsRollFull m after
IsPlan m entry after (Err (ManifestFull need room)) =
    (room_in m < need_of entry) × IsRollFull m after × (need ≡ need_of after) × (room ≡ room_of_half m.layout)
IsPlan m entry after (Err (Full need free)) = ⊥
IsPlan m entry after (Err NoMemory) = Unit {0}

-- the manifest has room for what is planned
abbrev pub HasRoomFor : Manifest → EntryPlan → Type 0
HasRoomFor m (Log batch) = need_of batch ≤ room_in m
HasRoomFor m (Roll batch) = ¬ IsRollFull m batch

-- the plan is that of this entry behind these metadata
abbrev pub IsPlanOf : Manifest → Metadata → Entry → EntryPlan → Type 0
IsPlanOf m before entry plan = IsPlan m (entry_text entry) (base_text (metadata_with before entry)) (Ok plan)

-- where the manifest is behind a planned entry
abbrev pub IsPlacedBy : Manifest → EntryPlan → Manifest → Type 0
IsPlacedBy old (Log batch) new =
    (new.layout ≡ old.layout) × (new.sequence ≡ old.sequence) × (new.tail.place ≡ old.tail.place + need_of batch)
IsPlacedBy old (Roll batch) new =
    (new.layout ≡ old.layout) × (new.sequence ≡ old.sequence + 1) × (new.tail.place + 1 ≡ head_bytes + need_of batch)

-- the log has room for the commits that are given
abbrev pub LogHasRoomFor : Ring → Option (Bor Batch) → Type 0
LogHasRoomFor ring None = Unit {0}
LogHasRoomFor ring (Some batch) = HasEntries batch.now × (entries_charge batch.now ≤ writing.room_in ring)

-- what is given is one batch of these commits, or nothing where there are none
abbrev pub IsBatchOf : Option (Bor Batch) → List log.Entry → Type 0
IsBatchOf None entries = entries ≡ []
IsBatchOf (Some batch) entries = (batch.now ≡ log.payload_text entries) × (1 ≤ length entries)

-- These commits, given as this batch, may come, and behind them this entry, which is planned.
pub record MayTurn (loaded : Loaded) (commits : List log.Entry) (entry : Entry) (manifest : Manifest) (batch : Option (Bor Batch)) (plan : EntryPlan) : Type 0 where
  pub batch_is : IsBatchOf batch commits
  pub commits_may : MayCommitAny loaded commits
  pub entry_may : MayEnter (with_commits loaded commits) entry
  pub planned : IsPlanOf manifest loaded.metadata entry plan

-- the place of the manifest is where the machine counts it
pub record IsCounted (m : Manifest) (state : ManifestState) : Type 0 where
  pub sequence : state.sequence ≡ m.sequence
  pub used : state.used ≡ m.tail.place + 1
