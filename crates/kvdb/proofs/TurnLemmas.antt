-- What stands where a turn is taken and where it ends.
use Rattle.std.specs.Prelude.{Ok}
use Rattle.std.proofs.Common.{◌≡◌, ◌⊎◌, inl, inr, ℕ, ◌+◌, ◌-◌, ◌≤◌, Bool, true, false, List, [], ◌∷◌, ◌++◌, length, Option, Some, None, refl, sym, ◌∙◌, ap, subst, arith}
use Rattle.std.proofs.lemmas.List.{append-nil, length-drop}
use Rattle.media_disk.specs.declared.device.Device.{Ghosts}
use Rattle.hse_rows.specs.declared.row_set.RowSet as rows
use Rattle.hse_rows.specs.states.History.{Event, events_since}
use Rattle.hse_rows.specs.machine.TakenRuns.{runs_as, runs_of}
use Rattle.hse_rows.specs.machine.Log.{LogState, Numbered}
use Rattle.hse_rows.specs.machine.Turn.{TakenTurn, Plan, Turn as machine_turn, home, taken, ran, written, syncing, settles, enters, removes, installs, sync}
use Rattle.hse_rows.specs.machine.Calls.{write_turn}
use Rattle.hse_rows.specs.machine.ManifestRoom.{ManifestState}
use Rattle.hse_rows.specs.rows.Layout.{Layout}
use Rattle.hse_rows.specs.machine.Core.{Core, Stored, number_of, blocks_in, layout_but}
use Rattle.hse_rows.specs.machine.Recorded.{commits_in, taken_in, due, due_by}
use Rattle.hse_rows.specs.machine.Replies.{broken, ok}
use Rattle.hse_rows.specs.machine.CoreRefusal.{refuse, unless_busy, unless_run_well}
use Rattle.hse_rows.specs.machine.CoreReply.{end_reply, number_for}
use Rattle.hse_rows.specs.machine.CoreDone.{taking, failing, has_pending, planned, brought_home, given_up, ending, ending_failed}
use Rattle.hse_rows.specs.machine.Replies.{Figures}
use Rattle.recovery.specs.Image.{Loaded, HasNoGap}
use Rattle.recovery.specs.Machine.{stored_of}
use Rattle.device_layout.specs.Layouts.{IsGood}
use Rattle.engine_state.specs.Serves.{IsSound, ServesAbove, handed, handed_by, entries_of}
use Rattle.engine_state.specs.Turns.{IsBatch, Hands}
use Rattle.engine_state.specs.declared.state.EngineState.{EngineState}
use Rattle.manifest.specs.declared.manifest.Manifest.{Manifest}
use Rattle.back.specs.declared.back.Back.{Back}
use Rattle.back.specs.declared.plan.EntryPlan.{EntryPlan}
use Rattle.kvdb.specs.Found.{Entered, entered_at, events_to, stored_at, StoresFrom}
use Rattle.kvdb.specs.Pending.{IsPending, unsafe_events}
use Rattle.kvdb.specs.Serves.{of_sets, IsHome, IsOut, SideIs, Serves, StartServes}
use Rattle.kvdb.specs.Sides.{kind_as}
use Rattle.kvdb.specs.Taking.{Took}
use Rattle.kvdb.specs.Turns.{entered_after, Carries, IsBatchOf, IsIdle, IsPlanOf, LeadsTo, RanOf}
use Rattle.kvdb.specs.declared.log_start.LogStart.{LogStart}
use Rattle.kvdb.specs.declared.turn.Turn.{Turn}
use Rattle.kvdb.specs.declared.engine.Kvdb.{Kvdb}
use Rattle.kvdb.specs.declared.turn.Ran.{Ran}
use Rattle.kvdb.proofs.EndLemmas.{settled_at, due_parts, pending_ended, stored_ended, taken_at}
use Rattle.kvdb.specs.laws.Written.{above_turn, pending_taken}
use Rattle.kvdb.specs.declared.side.Side.{Side}
use Rattle.kvdb.specs.declared.side.Side.TheVariants as side
use Rattle.kvdb.specs.declared.side.TurnKind.{TurnKind}
use Rattle.kvdb.specs.declared.side.TurnKind.TheVariants as kind
use Rattle.kvdb.proofs.SyncLemmas.{may_commit, numbered-entries, sync_leads, entered-last}
use Rattle.kvdb.proofs.WritableLemmas.{CommitsArePayload}

-- ---- sides

pub side_in : {D : Type 0} (g : Ghosts D) (s : Side D g) (back : Back D g) (m : Core) → s ≡ side.In back → SideIs g s m → IsHome g back m
side_in {D = D} g s back m is at = subst (λ (x : Side D g). SideIs g x m) is at

pub side_home : {D : Type 0} (g : Ghosts D) (s : Side D g) (back : Back D g) (m : Core) → s ≡ side.In back → IsHome g back m → SideIs g s m
side_home {D = D} g s back m is at = subst (λ (x : Side D g). SideIs g x m) (sym is) at

pub side_out : {D : Type 0} (g : Ghosts D) (s : Side D g) (what : TurnKind) (number : ℕ) (m : Core) → s ≡ side.Out what number → IsOut what number m.turn
    → SideIs g s m
side_out {D = D} g s what number m is at = subst (λ (x : Side D g). SideIs g x m) (sym is) at

pub out_side : {D : Type 0} (g : Ghosts D) (s : Side D g) (what : TurnKind) (number : ℕ) (m : Core) → s ≡ side.Out what number → SideIs g s m
    → IsOut what number m.turn
out_side {D = D} g s what number m is at = subst (λ (x : Side D g). SideIs g x m) is at

-- ---- the state in memory sees neither the turn nor the manifest

-- a broken engine gives no batch
pub above_broken : {R : Type 0} (g : rows.Ghosts R) (state : EngineState R g) (m : Core) (turn : machine_turn) (later : ℕ) → m.is_broken ≡ true
    → ServesAbove g state (record m { is_broken = true }) later → ServesAbove g state (record m { turn = turn }) later
above_broken g state m turn later failed s = record {
  view = record { state = s.view.state; stores = s.view.stores };
  locks = s.locks;
  live = s.live;
  begins = s.begins;
  charge = s.charge;
  waits = λ whole. absurd cc;
  safe = s.safe;
  is_broken = s.is_broken ∙ sym failed;
  cursors = s.cursors;
  sizes = s.sizes;
}

-- ---- what waits, as a batch

entries-none : (these : List Numbered) → entries_of these ≡ [] → these ≡ []
entries-none [] none = refl
entries-none (commit ∷ these) none = absurd cc

pub batch_is : (m : Core) (batch : Option (List ℕ)) → IsBatch m.timeline m.safe batch
    → IsBatchOf batch (entries_of (commits_in (m.safe + 1) (unsafe_events m)))
batch_is m None is = ap entries_of is
batch_is m (Some bytes) is = (λ none. is.0 (entries-none (commits_in (m.safe + 1) (unsafe_events m)) none), is.1)

-- what a sync carries
pub sync_carries : CommitsArePayload → (m then : Core) (number : ℕ) (batch : Option (List ℕ)) (loaded : Loaded)
    → stored_at m (number_of m) ≡ stored_at then number
    → IsSound m → IsPending m → m.is_broken ≡ false → m.turn ≡ home
    → HasNoGap loaded.metadata loaded.log → IsGood loaded.layout → stored_of loaded ≡ stored_at m m.safe
    → IsBatch m.timeline m.safe batch → LeadsTo then number batch loaded
sync_carries law m then number batch loaded leads sound p whole at full good same is =
    let none : taken_in (m.safe + 1) (unsafe_events m) ≡ [] = p.due whole ∙ ap due at in
    let segment : m.sizes.segment_size ≤ 67108864 =
    omega (arith, good.params.segment.most, ap (λ (s : Stored). s.sizes.segment_size) same) in
    record {
      entries = entries_of (commits_in (m.safe + 1) (unsafe_events m));
      batch_is = batch_is m batch is;
      may = may_commit m p sound.limits.since_base sound.limits.until_now loaded full same none law
          sound.limits.history.numbers sound.limits.log.room segment
          (let was : handed m ≡ m.safe = ap (handed_by m.safe) at in
          let most : p.named ≤ handed m = p.known whole in let e : p.named ≤ m.safe = omega (arith, was, most) in e);
      leads = sync_leads m p sound.limits.since_base sound.limits.until_now loaded full same none
          (entries_of (commits_in (m.safe + 1) (unsafe_events m))) (numbered-entries (commits_in (m.safe + 1) (unsafe_events m))) ∙ leads;
    }

-- ---- the turn of a sync

pub pending_broken : (m : Core) (turn : machine_turn) → m.is_broken ≡ true → IsPending m → IsPending (record m { turn = turn })
pending_broken m turn failed p = record {
  settled = p.settled;
  below = p.below;
  active = p.active;
  due = λ whole. absurd cc;
  waiting = p.waiting;
  written = p.written;
  named = p.named;
  known = λ whole. absurd cc;
  stores = p.stores;
  waiting_named = p.waiting_named;
  written_named = p.written_named;
}

-- ---- figures

-- a device call fails
pub pending_failed : (m : Core) → IsPending m → IsPending (record m { is_broken = true })
pending_failed m p = record {
  settled = p.settled;
  below = p.below;
  active = p.active;
  due = λ whole. absurd cc;
  waiting = p.waiting;
  written = p.written;
  named = p.named;
  known = λ whole. absurd cc;
  stores = p.stores;
  waiting_named = p.waiting_named;
  written_named = p.written_named;
}

-- what a broken engine keeps of the log's start
pub start_broken : (start new : LogStart) (m then : Core) → new ≡ start → then.log ≡ m.log → then.is_broken ≡ true → StartServes start m → StartServes new then
start_broken start new m then same log failed s = record {
  horizon = ap (λ (x : LogStart). x.horizon) same ∙ s.horizon ∙ sym (ap (λ (x : LogState). x.horizon) log);
  first = ap (λ (x : LogStart). x.first) same ∙ s.first ∙ sym (ap (λ (x : LogState). x.first_segment) log);
  taken = λ whole. absurd cc;
}

pub serves_marked : {D : Type 0} (g : Ghosts D) (engine new : Kvdb D g) (m : Core) (out : TakenTurn) (what : TurnKind) (number : ℕ)
    → m.turn ≡ taken out → Serves g engine m
    → ((later : ℕ) → ServesAbove of_sets new.state (record m { is_broken = true }) later)
    → engine.side ≡ side.Out what number → new.side ≡ engine.side → new.sequence ≡ engine.sequence → new.free ≡ engine.free
    → new.log_start ≡ engine.log_start → Serves g new (failing m write_turn)
serves_marked g engine new m out what number phase s above out_is side_is sequence free start = record {
  state = above_turn of_sets new.state (record m { is_broken = true }) (written m.turn true) (handed (failing m write_turn))
      (above (handed (failing m write_turn)));
  pending = pending_broken (record m { is_broken = true }) (written m.turn true) refl (pending_failed m s.pending);
  start = start_broken engine.log_start new.log_start m (failing m write_turn) start refl refl s.start;
  manifest = sequence ∙ s.manifest;
  free = free ∙ s.free;
  frozen = s.frozen;
  layout = s.layout;
  jobs = s.jobs;
  side = side_out g new.side what number (failing m write_turn) (side_is ∙ out_is)
      (subst (IsOut what number) (sym (ap (λ (t : machine_turn). written t true) phase))
      (subst (IsOut what number) phase (out_side g engine.side what number m out_is s.side)));
}

pub figures_same : (one other : Figures) → one.number ≡ other.number → one.frozen ≡ other.frozen → one.charge ≡ other.charge → one.free ≡ other.free
    → one.manifest ≡ other.manifest → one ≡ other
figures_same one other number frozen charge free manifest =
    ap (λ (n : ℕ). record { number = n; frozen = one.frozen; charge = one.charge; free = one.free; manifest = one.manifest }) number
    ∙ ap (λ (n : ℕ). record { number = other.number; frozen = n; charge = one.charge; free = one.free; manifest = one.manifest }) frozen
    ∙ ap (λ (n : ℕ). record { number = other.number; frozen = other.frozen; charge = n; free = one.free; manifest = one.manifest }) charge
    ∙ ap (λ (n : ℕ). record { number = other.number; frozen = other.frozen; charge = other.charge; free = n; manifest = one.manifest }) free
    ∙ ap (λ (n : ℕ). record { number = other.number; frozen = other.frozen; charge = other.charge; free = other.free; manifest = n }) manifest

-- ---- the end of a turn

pub above_settled : {R : Type 0} (g : rows.Ghosts R) (state : EngineState R g) (m : Core) (number : ℕ) (manifest : ManifestState) (layout : Layout) (used handed : ℕ)
    → ServesAbove g state (record m { safe = number }) handed → ServesAbove g state (settled_at m number manifest layout used) handed
above_settled g state m number manifest layout used handed s = record {
  view = record { state = s.view.state; stores = s.view.stores };
  locks = s.locks;
  live = s.live;
  begins = s.begins;
  charge = s.charge;
  waits = s.waits;
  safe = s.safe;
  is_broken = s.is_broken;
  cursors = s.cursors;
  sizes = s.sizes;
}

-- ---- plans

-- a plan of a turn of these kinds is no install
abbrev IsNoInstall : Plan → Type 0
IsNoInstall settles = Unit {0}
IsNoInstall (enters manifest) = Unit {0}
IsNoInstall (removes id manifest) = Unit {0}
IsNoInstall (installs id work new manifest) = ⊥

no_install : (what : TurnKind) (plan : Plan) → IsPlanOf what plan → IsNoInstall plan
no_install kind.Sync plan is = subst IsNoInstall (sym is) tt
no_install kind.Freeze plan is = absurd is
no_install kind.Install plan is = absurd is
no_install kind.Create plan is = subst IsNoInstall (sym is.1) tt
no_install kind.Drop plan is = subst IsNoInstall (sym is.2) tt

due_is : (number : ℕ) (plan : Plan) → IsNoInstall plan → (due_by number plan ≡ []) ⊎ (due_by number plan ≡ number ∷ [])
due_is number settles is = inl refl
due_is number (enters manifest) is = inr refl
due_is number (removes id manifest) is = inr refl
due_is number (installs id work new manifest) is = absurd is

-- the slots in use after it
abbrev used_after : Core → Plan → ℕ
used_after m settles = m.used_slots
used_after m (enters manifest) = m.used_slots
used_after m (removes id manifest) = m.used_slots - (blocks_in m.layout - blocks_in (layout_but m.layout id))
used_after m (installs id work new manifest) = m.used_slots

used_same : (m : Core) (plan : Plan) → IsNoInstall plan → m.layout ≡ [] → used_after m plan ≡ m.used_slots
used_same m settles is none = refl
used_same m (enters manifest) is none = refl
used_same m (removes id manifest) is none = let nothing : blocks_in m.layout ≡ 0 = ap blocks_in none in omega (arith, nothing)
used_same m (installs id work new manifest) is none = absurd is

layout_none : (m : Core) (plan : Plan) → IsNoInstall plan → m.layout ≡ [] → (entered_after m plan).layout ≡ []
layout_none m settles is none = none
layout_none m (enters manifest) is none = none
layout_none m (removes id manifest) is none = ap (λ (l : Layout). layout_but l id) none
layout_none m (installs id work new manifest) is none = absurd is

-- the state after the end of a turn of this plan
abbrev ended_by : Core → ℕ → Plan → Core
ended_by m number plan = settled_at m number (entered_after m plan).manifest (entered_after m plan).layout (used_after m plan)

module _ {D : Type 0} (g : Ghosts D) (new : Kvdb D g) (m : Core) where
  ended_is : (number : ℕ) (plan : Plan) → IsNoInstall plan → Serves g new (ended_by m number plan) → Serves g new (brought_home (planned m number plan))
  ended_is number settles is serves = serves
  ended_is number (enters manifest) is serves = serves
  ended_is number (removes id manifest) is serves = serves
  ended_is number (installs id work sets manifest) is serves = absurd is

  given_is : (plan : Plan) → IsNoInstall plan → Serves g new (record m { turn = home }) → Serves g new (brought_home (given_up m plan))
  given_is settles is serves = serves
  given_is (enters manifest) is serves = serves
  given_is (removes id manifest) is serves = serves
  given_is (installs id work sets manifest) is serves = absurd is

number_is_for : (out : TakenTurn) (plan : Plan) → IsNoInstall plan → number_for out plan ≡ out.number
number_is_for out settles is = refl
number_is_for out (enters manifest) is = refl
number_is_for out (removes id manifest) is = refl
number_is_for out (installs id work new manifest) is = absurd is

-- ---- the end of a turn

module _ {D : Type 0} (g : Ghosts D) (engine new : Kvdb D g) (done : Ran D g) (m : Core) (s : Serves g engine m) (r : RanOf g done m)
    (from : m.timeline.base.number ≤ m.safe) (home_is : new.side ≡ side.In done.back) (start_is : new.log_start ≡ engine.log_start) where
  plan_is : IsNoInstall r.out.plan
  plan_is = no_install done.kind r.out.plan r.of.plan

  number_is : r.out.number ≡ done.number
  number_is = r.of.is.number_is

  due_out : due m.turn ≡ due_by done.number r.out.plan
  due_out = ap due r.phase ∙ ap (λ (n : ℕ). due_by n r.out.plan) number_is

  parts : m.is_broken ≡ false
      → (taken_in (m.safe + 1) (events_to m done.number) ≡ due_by done.number r.out.plan)
      × (taken_in (done.number + 1) (events_since m.timeline.base m.timeline.history done.number) ≡ [])
  parts whole =
      due_parts m done.number from r.of.low r.of.high (due_by done.number r.out.plan) (due_is done.number r.out.plan plan_is)
      (s.pending.due whole ∙ due_out)

  start_ended : StartServes new.log_start (ended_by m done.number r.out.plan)
  start_ended = record {
    horizon = ap (λ (x : LogStart). x.horizon) start_is ∙ s.start.horizon;
    first = ap (λ (x : LogStart). x.first) start_is ∙ s.start.first;
    taken = λ whole.
        ap (λ (x : LogStart). runs_as x.taken.items) start_is
        ∙ s.start.taken whole
        ∙ ap (λ (l : List ℕ). runs_of (m.manifest.taken ++ l)) (due_out ∙ sym (parts whole).0)
        ∙ ap runs_of (sym (taken_at m done.number from r.of.low r.of.high))
        ∙ ap (λ (e : Entered). runs_of e.manifest.taken) r.of.entered
        ∙ ap runs_of (sym (append-nil (entered_after m r.out.plan).manifest.taken));
  }

  -- an engine whose turn ended well
  pub serves_ended : done.has_failed ≡ false
      → ServesAbove of_sets new.state (record m { safe = done.number }) (handed m)
      → new.sequence ≡ done.back.manifest.sequence → new.free ≡ engine.free
      → Serves g new (ended_by m done.number r.out.plan)
  serves_ended fine above sequence free = record {
    state = above_settled of_sets new.state m done.number (entered_after m r.out.plan).manifest (entered_after m r.out.plan).layout
        (used_after m r.out.plan) done.number
        (subst (ServesAbove of_sets new.state (record m { safe = done.number })) handed_is above);
    pending = pending_ended m done.number from r.of.low r.of.high (entered_after m r.out.plan).manifest (entered_after m r.out.plan).layout
        (used_after m r.out.plan) s.pending handed_is (λ whole. (parts whole).1);
    start = start_ended;
    manifest = sequence ∙ (r.placed fine).sequence;
    free = free ∙ s.free ∙ ap (λ (n : ℕ). m.sizes.slots - n) (sym (used_same m r.out.plan plan_is s.layout));
    frozen = s.frozen;
    layout = layout_none m r.out.plan plan_is s.layout;
    jobs = s.jobs;
    side = side_home g new.side done.back (ended_by m done.number r.out.plan) home_is (record {
      turn = refl;
      placed = λ whole. let p = r.placed fine in record { sizes_are = p.sizes_are; sequence = p.sequence; used = p.used };
      settled = λ whole told.
          let at = r.settled fine told in
          record {
            loaded = at.loaded;
            rests = at.rests;
            same = at.same ∙ stored_ended m done.number from r.of.low r.of.high (entered_after m r.out.plan).manifest
                (entered_after m r.out.plan).layout (used_after m r.out.plan) r.of.entered;
          };
      broken = λ failed_is. absurd (let e : m.is_broken ≡ done.has_failed = r.broken in cc);
    });
  }
    where
      handed_is : handed m ≡ done.number
      handed_is = ap (handed_by m.safe) r.phase ∙ r.of.is.number_is

  -- and one whose turn failed
  pub serves_failed : done.has_failed ≡ true
      → ((later : ℕ) → ServesAbove of_sets new.state (record m { is_broken = true }) later)
      → new.sequence ≡ engine.sequence → new.free ≡ engine.free → Serves g new (record m { turn = home })
  serves_failed failed above sequence free = record {
    state = above_broken of_sets new.state m home m.safe failed_is (above m.safe);
    pending = pending_broken m home failed_is s.pending;
    start = start_broken engine.log_start new.log_start m (record m { turn = home }) start_is refl failed_is s.start;
    manifest = sequence ∙ s.manifest;
    free = free ∙ s.free;
    frozen = s.frozen;
    layout = s.layout;
    jobs = s.jobs;
    side = side_home g new.side done.back (record m { turn = home }) home_is (record {
      turn = refl;
      placed = λ whole. absurd (let e : m.is_broken ≡ true = failed_is in cc);
      settled = λ whole. absurd (let e : m.is_broken ≡ true = failed_is in cc);
      broken = λ broken_is told image left. same_from (r.failed failed told image left);
    });
  }
    where
      failed_is : m.is_broken ≡ true
      failed_is = r.broken ∙ failed

      same_from : {image : List ℕ} → StoresFrom m (number_of m) image → StoresFrom (record m { turn = home }) (number_of m) image
      same_from from = record { number = from.number; reaches = from.reaches; within = from.within; stored = record { loaded = from.stored.loaded; is = from.stored.is; same = from.stored.same } }

-- the machine's answers
module _ {D : Type 0} (g : Ghosts D) (new : Kvdb D g) (done : Ran D g) (m : Core) (r : RanOf g done m) where
  pub ended_as : done.has_failed ≡ false → Serves g new (ended_by m done.number r.out.plan)
      → (unless_run_well m.turn ≡ None) × (end_reply m.turn ≡ ok done.number) × Serves g new (ending m m.turn)
  ended_as fine serves =
      subst (λ (t : machine_turn). (unless_run_well t ≡ None) × (end_reply t ≡ ok done.number) × Serves g new (ending m t))
      (sym (r.phase ∙ ap (ran r.out) fine)) (
        refl,
        ap ok (number_is_for r.out r.out.plan (no_install done.kind r.out.plan r.of.plan)) ∙ ap ok r.of.is.number_is,
        ended_is g new m r.out.number r.out.plan (no_install done.kind r.out.plan r.of.plan)
            (subst (λ (n : ℕ). Serves g new (ended_by m n r.out.plan)) (sym r.of.is.number_is) serves),
      )

  pub failed_as : done.has_failed ≡ true → Serves g new (record m { turn = home })
      → (unless_run_well m.turn ≡ Some broken) × Serves g new (ending_failed m m.turn)
  failed_as failed serves =
      subst (λ (t : machine_turn). (unless_run_well t ≡ Some broken) × Serves g new (ending_failed m t))
      (sym (r.phase ∙ ap (ran r.out) failed))
      (refl, given_is g new m r.out.plan (no_install done.kind r.out.plan r.of.plan) serves)

-- ---- a sync is taken

carries_sync : (m : Core) (what : TurnKind) (number : ℕ) (manifest : Manifest) (batch : Option (List ℕ)) (plan : Option EntryPlan) (loaded : Loaded)
    → what ≡ kind.Sync → plan ≡ None → LeadsTo m number batch loaded → Carries m what number manifest batch plan loaded
carries_sync m what number manifest batch plan loaded is none leads =
    subst (λ (k : TurnKind). Carries m k number manifest batch plan loaded) (sym is) (none, leads)

-- where commits wait the machine's sync calls the device
sync_calls : (m : Core) (batch : Option (List ℕ)) (plan : Option EntryPlan) → plan ≡ None → IsBatch m.timeline m.safe batch
    → IsIdle batch plan ⊎ (has_pending m ≡ true)
sync_calls m None plan none is = inl (refl, none)
sync_calls m (Some bytes) plan none is = inr (by (has_pending m) refl)
  where
    nothing : (events : List Event) → length events ≡ 0 → commits_in (m.safe + 1) events ≡ []
    nothing [] long = refl
    nothing (event ∷ events) long = absurd cc

    by : (b : Bool) → has_pending m ≡ b → has_pending m ≡ true
    by true is_so = is_so
    by false is_so =
        let low : number_of m ≤ m.safe = grind (arith, is_so) in
        absurd (is.0 (nothing (unsafe_events m) (omega (arith, low, length-drop (m.safe - m.timeline.base.number) m.timeline.history))))

module _ {D : Type 0} (g : Ghosts D) (engine new : Kvdb D g) (m : Core) (turn : Turn D g) (batch : Option (List ℕ)) (law : CommitsArePayload)
    (sound : IsSound m) (s : Serves g engine m) (whole : m.is_broken ≡ false) (home_is : IsHome g turn.back m)
    (number_is : turn.number ≡ number_of m) where
  abbrev sync_turn : TakenTurn
  sync_turn = record { kind = syncing; number = number_of m; plan = settles; calls = has_pending m }

  none_waits : taken_in (m.safe + 1) (unsafe_events m) ≡ []
  none_waits = s.pending.due whole ∙ ap due home_is.turn

  pub took_sync : Hands of_sets m (handed m) (Ok batch) new.state → new.side ≡ side.Out turn.kind turn.number
      → turn.kind ≡ kind.Sync → turn.batch ≡ batch → turn.plan ≡ None → new.sequence ≡ engine.sequence → new.free ≡ engine.free
      → new.log_start ≡ engine.log_start → Took g m sync turn new
  took_sync hands side_is kind_is batch_same plan_none sequence free start_is = record {
    unrefused = ap (λ (b : Bool). refuse b broken (unless_busy m.turn None)) whole ∙ ap (λ (t : machine_turn). unless_busy t None) home_is.turn;
    serves = record {
      state = above_turn of_sets new.state m (taken sync_turn) (number_of m) hands.1;
      pending = pending_taken m (taken sync_turn) (sym (ap due home_is.turn))
          (let was : handed m ≡ m.safe = ap (handed_by m.safe) home_is.turn in
          let e : handed m ≤ number_of m = omega (arith, was, sound.limits.until_now) in e) s.pending;
      start = record {
        horizon = ap (λ (x : LogStart). x.horizon) start_is ∙ s.start.horizon;
        first = ap (λ (x : LogStart). x.first) start_is ∙ s.start.first;
        taken = λ fine.
            ap (λ (x : LogStart). runs_as x.taken.items) start_is ∙ s.start.taken fine
            ∙ ap (λ (t : machine_turn). runs_of (m.manifest.taken ++ due t)) home_is.turn;
      };
      manifest = sequence ∙ s.manifest;
      free = free ∙ s.free;
      frozen = s.frozen;
      layout = s.layout;
      jobs = s.jobs;
      side = side_out g new.side turn.kind turn.number (taking m sync) side_is
          (record { kind = sym (ap kind_as kind_is); number_is = sym number_is });
    };
    turns = record {
      out = sync_turn;
      phase = refl;
      of = record {
        is = record { kind = sym (ap kind_as kind_is); number_is = sym number_is };
        plan = subst (λ (k : TurnKind). IsPlanOf k settles) (sym kind_is) refl;
        entered = ap (entered_at m) number_is ∙ entered-last m s.pending sound.limits.since_base sound.limits.until_now none_waits;
        low = omega (arith, number_is, sound.limits.until_now);
        high = omega (arith, number_is);
      };
      whole = whole;
      placed = home_is.placed whole;
      put = plan_none;
      calls = sync_calls m turn.batch turn.plan plan_none
          (subst (IsBatch m.timeline m.safe) (sym batch_same)
          (subst (λ (n : ℕ). IsBatch m.timeline n batch) (ap (handed_by m.safe) home_is.turn) hands.0));
      ready = λ told.
          let at = home_is.settled whole told in
          record {
            loaded = at.loaded;
            rests = at.rests;
            same = at.same;
            carries = carries_sync (taking m sync) turn.kind turn.number turn.back.manifest turn.batch turn.plan at.loaded kind_is plan_none
                (subst (λ (b : Option (List ℕ)). LeadsTo (taking m sync) turn.number b at.loaded) (sym batch_same)
                (sync_carries law m (taking m sync) turn.number batch at.loaded (ap (stored_at m) (sym number_is)) sound s.pending whole home_is.turn
                at.rests.says.full at.rests.says.layout.good at.same
                (subst (λ (n : ℕ). IsBatch m.timeline n batch) (ap (handed_by m.safe) home_is.turn) hands.0)));
          };
    };
  }
