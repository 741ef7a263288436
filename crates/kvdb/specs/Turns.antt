-- Which states of the machine a turn that is out stands for.
use Rattle.std.specs.Prelude.{◌≡◌, ◌≢◌, ◌⊎◌, ℕ, ◌+◌, ◌-◌, ◌≤◌, ◌<◌, true, false, List, [], Option, Some, None}
use Rattle.media_disk.specs.declared.device.Device.{Ghosts}
use Rattle.hse_fields.specs.LogText.{Entry, payload_text}
use Rattle.hse_rows.specs.machine.Turn.{TakenTurn, Plan, settles, enters, removes, installs, taken, ran}
use Rattle.hse_rows.specs.machine.Core.{Core, number_of, layout_but}
use Rattle.hse_rows.specs.rows.Job.{installed}
use Rattle.recovery.specs.Image.{Loaded}
use Rattle.recovery.specs.Machine.{stored_of}
use Rattle.gate_log.specs.Places.{need_of}
use Rattle.hse_rows.specs.machine.ManifestRoom.{ManifestState, head_bytes}
use Rattle.manifest.specs.Metadata.{LiveStore, Metadata}
use Rattle.manifest.specs.Text as a_manifest
use Rattle.manifest.specs.declared.manifest.Manifest.{Manifest}
use Rattle.back.specs.Home.{AtRest}
use Rattle.back.specs.Plans as plans
use Rattle.back.specs.Steps.{with_commits, with_entry, MayCommitAny, MayEnter}
use Rattle.back.specs.declared.plan.EntryPlan.{EntryPlan}
use Rattle.back.specs.declared.plan.EntryPlan.TheVariants.{Log, Roll}
use Rattle.kvdb.specs.declared.side.TurnKind.{TurnKind}
use Rattle.kvdb.specs.declared.side.TurnKind.TheVariants as kind
use Rattle.kvdb.specs.declared.turn.Turn.{Turn}
use Rattle.kvdb.specs.declared.turn.Ran.{Ran}
use Rattle.kvdb.specs.Found.{Entered, stored_at, entered_at}
use Rattle.kvdb.specs.Serves.{RestsAt, IsPlaced, IsUnsure, IsTurn}

-- ---- what a turn carries

-- these commits, where there are any, as one batch
abbrev pub IsBatchOf : Option (List ℕ) → List Entry → Type 0
IsBatchOf None entries = entries ≡ []
IsBatchOf (Some batch) entries = (entries ≢ []) × (batch ≡ payload_text entries)

-- What a sync writes leads from what is loaded to what the life has at its number.
pub record LeadsTo (m : Core) (number : ℕ) (batch : Option (List ℕ)) (loaded : Loaded) : Type 0 where
  pub entries : List Entry
  pub batch_is : IsBatchOf batch entries
  pub may : MayCommitAny loaded entries
  pub leads : stored_of (with_commits loaded entries) ≡ stored_at m number

-- The entry is planned behind these metadata.
abbrev pub IsPlanned : Manifest → Metadata → a_manifest.Entry → Option EntryPlan → Type 0
IsPlanned manifest before entry None = ⊥
IsPlanned manifest before entry (Some plan) = plans.IsPlanOf manifest before entry plan

-- What a creation or a drop writes leads from what is loaded to what the life has before it, and then to what it has at its number.
pub record EntersAs (m : Core) (number : ℕ) (entry : a_manifest.Entry) (manifest : Manifest) (batch : Option (List ℕ)) (plan : Option EntryPlan) (loaded : Loaded) : Type 0 where
  pub entries : List Entry
  pub batch_is : IsBatchOf batch entries
  pub may : MayCommitAny loaded entries
  pub enters : MayEnter (with_commits loaded entries) entry
  pub planned : IsPlanned manifest loaded.metadata entry plan
  pub above : m.safe < number
  pub committed : stored_of (with_commits loaded entries) ≡ stored_at m (number - 1)
  pub entered : stored_of (with_entry (with_commits loaded entries) entry) ≡ stored_at m number

-- What a turn of this kind writes leads to what the life has at its number.
abbrev pub Carries : Core → TurnKind → ℕ → Manifest → Option (List ℕ) → Option EntryPlan → Loaded → Type 0
Carries m kind.Sync number manifest batch plan loaded = (plan ≡ None) × LeadsTo m number batch loaded
Carries m kind.Freeze number manifest batch plan loaded = ⊥
Carries m kind.Install number manifest batch plan loaded = ⊥
Carries m kind.Create number manifest batch plan loaded =
    (store : LiveStore) × EntersAs m number (a_manifest.create store) manifest batch plan loaded
Carries m kind.Drop number manifest batch plan loaded =
    (id : ℕ) × EntersAs m number (a_manifest.drop number id) manifest batch plan loaded

-- ---- turns

-- the manifest after it stands where a planned entry puts it
abbrev pub IsPutBy : ManifestState → EntryPlan → ManifestState → Type 0
IsPutBy before (Log batch) after =
    (after.sequence ≡ before.sequence) × (after.used ≡ before.used + need_of batch)
IsPutBy before (Roll batch) after =
    (after.sequence ≡ before.sequence + 1) × (after.used ≡ head_bytes + need_of batch)

-- the manifest stays where it was, or stands where the planned entry puts it
abbrev pub IsPutAt : Manifest → Option EntryPlan → Manifest → Type 0
IsPutAt old None new = new ≡ old
IsPutAt old (Some plan) new = plans.IsPlacedBy old plan new

-- the machine's plan, as it is planned here
abbrev pub IsPut : ManifestState → Plan → Option EntryPlan → Type 0
IsPut before settles plan = plan ≡ None
IsPut before (enters manifest) None = ⊥
IsPut before (enters manifest) (Some plan) = IsPutBy before plan manifest
IsPut before (removes id manifest) None = ⊥
IsPut before (removes id manifest) (Some plan) = IsPutBy before plan manifest
IsPut before (installs id work new manifest) plan = ⊥

-- the manifest and the sets that it names, once a plan is done
abbrev pub entered_after : Core → Plan → Entered
entered_after m settles = record { manifest = m.manifest; layout = m.layout }
entered_after m (enters manifest) = record { manifest = manifest; layout = m.layout }
entered_after m (removes id manifest) = record { manifest = manifest; layout = layout_but m.layout id }
entered_after m (installs id work new manifest) = record { manifest = manifest; layout = installed m.layout work new }

-- the plan of a turn of this kind; no other kinds are there yet
abbrev pub IsPlanOf : TurnKind → Plan → Type 0
IsPlanOf kind.Sync plan = plan ≡ settles
IsPlanOf kind.Freeze plan = ⊥
IsPlanOf kind.Install plan = ⊥
IsPlanOf kind.Create plan = (manifest : ManifestState) × (plan ≡ enters manifest)
IsPlanOf kind.Drop plan = (id : ℕ) × (manifest : ManifestState) × (plan ≡ removes id manifest)

-- The machine's turn is this one, and the events up to its number have the entries that it plans.
pub record IsOf (m : Core) (what : TurnKind) (number : ℕ) (out : TakenTurn) : Type 0 where
  pub is : IsTurn what number out
  pub plan : IsPlanOf what out.plan
  pub entered : entered_at m number ≡ entered_after m out.plan
  pub low : m.safe ≤ number
  pub high : number ≤ number_of m

-- Nothing is pending, the device stores what is safe, and the turn carries what leads on.
pub record IsReady {D : Type 0} (g : Ghosts D) (turn : Turn D g) (m : Core) : Type 0 where
  pub loaded : Loaded
  pub rests : AtRest g turn.back.disk turn.back.layout turn.back.log turn.back.manifest loaded
  pub same : stored_of loaded ≡ stored_at m m.safe
  pub carries : Carries m turn.kind turn.number turn.back.manifest turn.batch turn.plan loaded

-- there is nothing to write
abbrev pub IsIdle : Option (List ℕ) → Option EntryPlan → Type 0
IsIdle batch plan = (batch ≡ None) × (plan ≡ None)

-- The turn is the machine's, which was taken.
pub record TurnOf {D : Type 0} (g : Ghosts D) (turn : Turn D g) (m : Core) : Type 0 where
  pub out : TakenTurn
  pub phase : m.turn ≡ taken out
  pub of : IsOf m turn.kind turn.number out
  pub whole : m.is_broken ≡ false
  pub placed : IsPlaced turn.back m.sizes m.manifest
  pub put : IsPut m.manifest out.plan turn.plan
  -- the machine's turn calls the device where this one has something to write
  pub calls : IsIdle turn.batch turn.plan ⊎ (out.calls ≡ true)
  pub ready : g.tells → IsReady g turn m

-- The turn is the machine's, which has run. Where no device call failed the device stores the life at its number.
pub record RanOf {D : Type 0} (g : Ghosts D) (done : Ran D g) (m : Core) : Type 0 where
  pub out : TakenTurn
  pub phase : m.turn ≡ ran out done.has_failed
  pub of : IsOf m done.kind done.number out
  pub broken : m.is_broken ≡ done.has_failed
  pub placed : done.has_failed ≡ false → IsPlaced done.back m.sizes (entered_after m out.plan).manifest
  pub settled : done.has_failed ≡ false → g.tells → RestsAt g done.back (stored_at m done.number)
  pub failed : done.has_failed ≡ true → IsUnsure g done.back.disk m
