-- The room that a turn needs, in numbers.
use Rattle.std.proofs.Props.{props}
use Rattle.std.specs.Prelude.{ℕ, List, length, Option, Some, None}
use Rattle.wal.specs.Charges.{count_in, entries_charge}
use Rattle.manifest.specs.declared.manifest.Manifest.{Manifest}
use Rattle.back.specs.Plans.{HasRoomFor}
use Rattle.back.specs.declared.plan.EntryPlan.{EntryPlan}
use Rattle.back.specs.declared.plan.EntryPlan.TheVariants.{Log, Roll}

-- what a batch takes of the log's room
abbrev pub need_of : Option (List ℕ) → ℕ
need_of None = 0
need_of (Some batch) = entries_charge batch

-- its bytes, of which its count takes four, and its count; no batch is none that is too short
abbrev pub bytes_of : Option (List ℕ) → ℕ
bytes_of None = 4
bytes_of (Some batch) = length batch

abbrev pub count_of : Option (List ℕ) → ℕ
count_of None = 1
count_of (Some batch) = count_in batch

-- the manifest has room for the entry that is planned, if one is
abbrev pub HasRoomForAny : Manifest → Option EntryPlan → Type 0
HasRoomForAny manifest None = Unit {0}
HasRoomForAny manifest (Some plan) = HasRoomFor manifest plan

pub HasRoomForAny-prop : (manifest : Manifest) (plan : Option EntryPlan) → IsProp (HasRoomForAny manifest plan)
HasRoomForAny-prop manifest None = Prim.hlevel props
HasRoomForAny-prop manifest (Some (Log batch)) = Prim.hlevel props
HasRoomForAny-prop manifest (Some (Roll batch)) = Prim.hlevel props
