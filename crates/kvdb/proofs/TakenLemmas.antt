-- What taking the turn of a creation or a drop leads to.
use Rattle.std.specs.Prelude.{Result, Ok, Err, is_some}
use Rattle.std.proofs.Common.{◌≡◌, ◌⊎◌, inr, ℕ, ◌+◌, ◌≤◌, Bool, true, false, List, [], ◌∷◌, ◌++◌, length, map, Option, Some, None, nat_le, nat_lt, refl, sym, ◌∙◌, ap, subst, arith}
use Rattle.std.proofs.lemmas.List.{append-nil}
use Rattle.media_disk.specs.declared.device.Device.{Ghosts}
use Rattle.gate_log.specs.Places.{need_of}
use Rattle.hse_rows.specs.declared.store.Mode.{Mode}
use Rattle.hse_rows.specs.writes.Lengths.{longest_prefix}
use Rattle.hse_rows.specs.states.State.{State, Store, store_named}
use Rattle.hse_rows.specs.states.History.{Event, creates, drops, new_store, without}
use Rattle.hse_rows.specs.transactions.Moves as moves
use Rattle.hse_rows.specs.transactions.Moves.{Move}
use Rattle.hse_rows.specs.transactions.Timeline.{for_some}
use Rattle.hse_rows.specs.rows.Job.{Job, first_on, live_ingest}
use Rattle.hse_rows.specs.rows.Layout.{Layout}
use Rattle.hse_rows.specs.machine.Calls.{take}
use Rattle.hse_rows.specs.machine.Core.{Core, base_need, layout_but, now, number_of, taken_with, with_move}
use Rattle.hse_rows.specs.machine.CoreDone.{done, taking, with_turn}
use Rattle.hse_rows.specs.machine.CoreRefusal.{drop_refusal, entry_refusal, first_in_store, is_spent, refusal, refuse, unless_busy, unless_busy_with, unless_held}
use Rattle.hse_rows.specs.machine.ManifestEntry.{ManifestEntry, creation_entry, drop_entry, entered, whole_need}
use Rattle.hse_rows.specs.machine.ManifestRoom.{ManifestState, base_bytes, batch_bytes, creation_bytes, drop_bytes, gained}
use Rattle.hse_rows.specs.machine.Recorded.{due, due_by, taken_in}
use Rattle.hse_rows.specs.machine.Replies.{Refusal, broken, busy, no_store, prefix_length, spent, store_exists, too_many}
use Rattle.hse_rows.specs.machine.TakenRuns.{runs_as, runs_of}
use Rattle.hse_rows.specs.machine.Turn as machine
use Rattle.hse_rows.specs.machine.Turn.{Plan, TakenTurn, Turn as machine_turn, enters, home, removes, taken}
use Rattle.manifest.specs.Machine.{live_of}
use Rattle.manifest.specs.Metadata.{LiveStore, Metadata, with_taken}
use Rattle.manifest.specs.Text as a_manifest
use Rattle.manifest.specs.Text.{base_text, entry_text}
use Rattle.manifest.specs.Views.{metadata_as}
use Rattle.manifest.specs.laws.Sizes.{base_length, creation_length, drop_length, one_taken}
use Rattle.manifest.specs.declared.base.Base.{Base}
use Rattle.kvset.specs.Reading.{Contents}
use Rattle.kvset.specs.Parts.{contents_rows}
use Rattle.view.specs.Means as meaning
use Rattle.view.specs.Views.{ViewState}
use Rattle.view.specs.declared.view_store.ViewStore.{ViewStore}
use Rattle.ingest_tree.specs.declared.store_row.StoreRow.{StoreRow}
use Rattle.back.specs.Bases.{AreCounted}
use Rattle.back.specs.Home.{AtRest}
use Rattle.back.specs.Plans.{IsPlan}
use Rattle.back.specs.declared.back.Back.{Back}
use Rattle.back.specs.declared.plan.EntryPlan.{EntryPlan}
use Rattle.engine_state.specs.Serves.{IsSound, ServesAbove, ViewServes}
use Rattle.engine_state.specs.Turns.{IsBatch}
use Rattle.recovery.specs.Image.{IsLoaded, Loaded}
use Rattle.recovery.specs.Machine.{stored_of}
use Rattle.hse_rows.specs.writes.Names.{IsName}
use Rattle.manifest.specs.declared.manifest.Manifest.{Manifest}
use Rattle.engine_state.specs.Stores.{Creates, FrontsBy, IsDropOf, IsOfStores, SaysCreate, SaysDrop, create_front, drop_front}
use Rattle.engine_state.specs.declared.state.EngineState.{EngineState}
use Rattle.engine_state.specs.declared.store_event.StoreEvent.{StoreEvent}
use Rattle.kvdb.specs.Entering.{Enters, IsPlanFault, SidePlans, base_in, creation_as, live_in}
use Rattle.kvdb.specs.Found.{Entered, entered_at, entered_with, stored_at}
use Rattle.kvdb.specs.Pending.{IsPending}
use Rattle.kvdb.specs.Says.{SaysTurn}
use Rattle.kvdb.specs.Serves.{of_sets, IsHome, IsOut, IsPlaced, IsTurn, SideIs, Serves, StartServes}
use Rattle.kvdb.specs.Sides.{kind_as}
use Rattle.kvdb.specs.Taking.{Took}
use Rattle.kvdb.specs.Turns.{entered_after, Carries, EntersAs, IsPlanOf, IsPut, IsPutBy, TurnOf}
use Rattle.kvdb.specs.declared.engine.Kvdb.{Kvdb}
use Rattle.kvdb.specs.declared.log_start.LogStart.{LogStart}
use Rattle.kvdb.specs.declared.side.Side.{Side}
use Rattle.kvdb.specs.declared.side.Side.TheVariants as side
use Rattle.kvdb.specs.declared.side.TurnKind.{TurnKind}
use Rattle.kvdb.specs.declared.side.TurnKind.TheVariants as kind
use Rattle.kvdb.specs.declared.turn.Turn.{Turn}
use Rattle.kvdb.specs.declared.turn.TurnFault.{TurnFault}
use Rattle.kvdb.specs.declared.turn.TurnFault.TheVariants as fault
use Rattle.kvdb.specs.laws.Written.{above_turn}
use Rattle.kvdb.proofs.CarryLemmas.{EntryLaws, enters_created, enters_dropped}
use Rattle.kvdb.proofs.WritableLemmas.{CommitsArePayload}
use Rattle.kvdb.proofs.EnteredLemmas.{none_waits, now_number, pending_created, pending_dropped, start_entered}
use Rattle.kvdb.proofs.EventLemmas.{IsEntry, creation_is, drop_is, entered_next, now_next, number_next, stored_safe, with_one}
use Rattle.kvdb.proofs.RoomLemmas.{FullCounts, PlansCount, entry_fits, entry_full, put_by}
use Rattle.kvdb.proofs.TurnLemmas.{side_in, side_out}

-- ---- what is asked for

-- what an engine keeps of a base
pub record IsStartOf (start : LogStart) (base : Base) : Type 0 where
  pub horizon : start.horizon ≡ base.horizon
  pub first : start.first ≡ base.first
  pub taken : start.taken ≡ base.taken

-- the turn of an event
abbrev pub out_of : Core → TurnKind → Plan → Event → TakenTurn
out_of m k plan event = record { kind = kind_as k; number = number_of (with_one m event); plan = plan; calls = true }

abbrev pub with_out : Core → TurnKind → Plan → Event → Core
with_out m k plan event = record (with_one m event) { turn = taken (out_of m k plan event) }

-- What is written then leads on, over what is loaded of a device that stores what is safe.
abbrev pub EntersWhere : Core → LogStart → ViewState Contents → Event → a_manifest.Entry → Type 0
EntersWhere m start view event entry =
    m.is_broken ≡ false → m.turn ≡ home
    → (t : machine_turn) (manifest : Manifest) (plan : EntryPlan) (batch : Option (List ℕ)) (image : List ℕ) (loaded : Loaded)
    → IsLoaded image loaded → AreCounted loaded.metadata.taken → stored_of loaded ≡ stored_at m m.safe → IsBatch m.timeline m.safe batch
    → IsPlan manifest (entry_text entry) (base_text (base_in start view (number_of m + 1))) (Ok plan)
    → EntersAs (record (with_one m event) { turn = t }) (number_of m + 1) entry manifest batch (Some plan) loaded

-- A wish that is refused by nothing but the device side: its event, the manifest's entry, and what they lead to.
pub record Happens (m : Core) (what : machine.TurnWish) (k : TurnKind) (entry : a_manifest.Entry) (start : LogStart) (view : ViewState Contents) : Type 0 where
  pub event : Event
  pub is : IsEntry event
  pub move : Move
  pub of_stores : IsOfStores move
  pub moved : with_move m move ≡ with_one m event
  pub e : ManifestEntry
  pub plan : Plan
  pub whole : m.is_broken ≡ false
  pub refusal_is : refusal m (take what) ≡ unless_busy m.turn (entry_refusal m e)
  pub done_is : done m (take what) ≡ with_out m k plan event
  pub plan_is : IsPlanOf k plan
  pub due_is : (number : ℕ) → due_by number plan ≡ number ∷ []
  pub put : (p : EntryPlan) → IsPutBy m.manifest p (entered m e) → IsPut m.manifest plan (Some p)
  pub after : entered_with m.sizes (now m) (record { manifest = m.manifest; layout = m.layout }) (event ∷ []) ≡ entered_after (with_out m k plan event) plan
  pub pending : m.turn ≡ home → IsPending (with_out m k plan event)
  pub need : need_of (entry_text entry) ≡ e.need
  pub taken_is : e.taken ≡ taken_with m
  pub stores_are : e.stores ≡ (now (with_one m event)).stores
  pub layout_is : e.layout ≡ []
  pub serves : ViewServes of_sets view (with_one m event)
  pub carries : m.turn ≡ home → (manifest : Manifest) (p : EntryPlan) (batch : Option (List ℕ)) (image : List ℕ) (loaded : Loaded)
      → IsLoaded image loaded → AreCounted loaded.metadata.taken → stored_of loaded ≡ stored_at m m.safe → IsBatch m.timeline m.safe batch
      → IsPlan manifest (entry_text entry) (base_text (base_in start view (number_of m + 1))) (Ok p)
      → Carries (with_out m k plan event) k (number_of m + 1) manifest batch (Some p) loaded

-- the manifest and the layout with the entry of this number
abbrev created_as : Core → List ℕ → Mode → ℕ → ℕ → Entered
created_as m name mode prefix n = record {
  manifest = gained m.sizes.half_size m.manifest (batch_bytes (creation_bytes name))
      (base_need (m.manifest.taken ++ n ∷ []) ((now m).stores ++ new_store n name mode prefix ∷ []) m.layout) (m.manifest.taken ++ n ∷ []);
  layout = m.layout;
}

abbrev dropped_as : Core → ℕ → ℕ → Entered
dropped_as m id n = record {
  manifest = gained m.sizes.half_size m.manifest (batch_bytes drop_bytes)
      (base_need (m.manifest.taken ++ n ∷ []) (without id (now m).stores) (layout_but m.layout id)) (m.manifest.taken ++ n ∷ []);
  layout = layout_but m.layout id;
}

not_refused : (b : Bool) (reason : Refusal ℕ) (later : Option (Refusal ℕ)) → refuse b reason later ≡ None → (b ≡ false) × (later ≡ None)
not_refused true reason later is = absurd cc
not_refused false reason later is = (refl, is)

module _ (m : Core) (from : m.timeline.base.number ≤ m.safe) (until : m.safe ≤ number_of m) (p : IsPending m) (layout : m.layout ≡ []) (start : LogStart) where
  happens_created : (name : List ℕ) (mode : Mode) (prefix : ℕ) (view : ViewState Contents) → prefix ≤ longest_prefix
      → FrontsBy SaysCreate None (create_front m name prefix) → ViewServes of_sets view (with_one m (creates name mode prefix))
      → EntersWhere m start view (creates name mode prefix) (creation_as m name mode prefix)
      → Happens m (machine.create name mode prefix) kind.Create (creation_as m name mode prefix) start view
  happens_created name mode prefix view short front serves entering = record {
    event = event;
    is = creation_is name mode prefix;
    move = moves.create name mode prefix;
    of_stores = tt;
    moved = refl;
    e = creation_entry m name mode prefix;
    plan = enters (entered m (creation_entry m name mode prefix));
    whole = whole;
    refusal_is = front (unless_busy m.turn (entry_refusal m (creation_entry m name mode prefix)));
    done_is = refl;
    plan_is = (entered m (creation_entry m name mode prefix), refl);
    due_is = λ number. refl;
    put = λ p is. is;
    after = ap (created_as m name mode prefix) (ap (λ (n : ℕ). n + 1) (now_number m));
    pending = λ at. pending_created m from until p whole at (out_of m kind.Create (enters (entered m (creation_entry m name mode prefix))) event)
        (number_next m event (creation_is name mode prefix) from until) refl name mode prefix short;
    need = ap (λ (n : ℕ). 5 + n) (creation_length (record { id = number_of m + 1; name = name; mode = mode; prefix_length = prefix }));
    taken_is = refl;
    stores_are =
        ap (λ (n : ℕ). (now m).stores ++ new_store n name mode prefix ∷ []) (sym (ap (λ (n : ℕ). n + 1) (now_number m)))
        ∙ sym (ap (λ (s : State). s.stores) (now_next m event (creation_is name mode prefix) from until));
    layout_is = layout;
    serves = serves;
    carries = λ at manifest p batch image loaded is counted same given planned. (
      record { id = number_of m + 1; name = name; mode = mode; prefix_length = prefix },
      entering whole at (taken (out_of m kind.Create (enters (entered m (creation_entry m name mode prefix))) event)) manifest p batch image loaded
          is counted same given planned,
    );
  }
    where
      event : Event
      event = creates name mode prefix

      whole : m.is_broken ≡ false
      whole =
          let one = not_refused (is_some (store_named (now m) name)) store_exists _ (front None) in
          let two = not_refused (nat_lt longest_prefix prefix) (prefix_length prefix) _ one.1 in
          (not_refused m.is_broken broken _ two.1).0

  happens_dropped : (name : List ℕ) (store : Store) (view : ViewState Contents) → m.jobs ≡ [] → store_named (now m) name ≡ Some store
      → FrontsBy SaysDrop None (drop_front m store) → ViewServes of_sets view (with_one m (drops store.id))
      → EntersWhere m start view (drops store.id) (a_manifest.drop (number_of m + 1) store.id)
      → Happens m (machine.drop name) kind.Drop (a_manifest.drop (number_of m + 1) store.id) start view
  happens_dropped name store view jobs named front serves entering = record {
    event = event;
    is = drop_is store.id;
    move = moves.remove store.id;
    of_stores = tt;
    moved = refl;
    e = drop_entry m store;
    plan = plan;
    whole = whole;
    refusal_is =
        ap (λ (f : Option Store). for_some f (Some no_store) (drop_refusal m)) named
        ∙ ap (λ (js : List Job). refuse m.is_broken broken
        (unless_held (first_in_store m.timeline.begun store.id)
        (unless_busy_with (live_ingest js)
        (unless_busy_with (first_on js store.id)
        (refuse (is_spent m) spent
        (unless_busy m.turn (entry_refusal m (drop_entry m store)))))))) jobs
        ∙ front (unless_busy m.turn (entry_refusal m (drop_entry m store)));
    done_is = ap (λ (f : Option Store). for_some f m (λ (one : Store).
        with_turn (with_one m (drops one.id)) machine.dropping (removes one.id (entered m (drop_entry m one))) true)) named;
    plan_is = (store.id, entered m (drop_entry m store), refl);
    due_is = λ number. refl;
    put = λ p is. is;
    after = ap (dropped_as m store.id) (ap (λ (n : ℕ). n + 1) (now_number m));
    pending = λ at. pending_dropped m from until p whole at (out_of m kind.Drop plan event)
        (number_next m event (drop_is store.id) from until) refl store.id;
    need = ap (λ (n : ℕ). 5 + n) (drop_length (number_of m + 1) store.id);
    taken_is = refl;
    stores_are = sym (ap (λ (s : State). s.stores) (now_next m event (drop_is store.id) from until));
    layout_is = ap (λ (l : Layout). layout_but l store.id) layout;
    serves = serves;
    carries = λ at manifest p batch image loaded is counted same given planned.
        (store.id, entering whole at (taken (out_of m kind.Drop plan event)) manifest p batch image loaded is counted same given planned);
  }
    where
      event : Event
      event = drops store.id

      plan : Plan
      plan = removes store.id (entered m (drop_entry m store))

      whole : m.is_broken ≡ false
      whole = (not_refused m.is_broken broken _ (front None)).0

-- what `take_entry` is told
abbrev pub Entering : Core → LogStart → machine.TurnWish → StoreEvent Contents → Type 0
Entering m start machine.sync event = Unit {0}
Entering m start machine.freeze event = Unit {0}
Entering m start (machine.create name mode prefix) event =
    IsName name → prefix ≤ longest_prefix → Creates of_sets m name mode prefix (Ok event)
    → EntersWhere m start event.view (creates name mode prefix) (creation_as m name mode prefix)
Entering m start (machine.drop name) event =
    (dropped : IsDropOf of_sets m name event)
    → EntersWhere m start event.view (drops dropped.store.id) (a_manifest.drop (number_of m + 1) dropped.store.id)

pub entering : EntryLaws → CommitsArePayload → {D : Type 0} (g : Ghosts D) (engine : Kvdb D g) (m : Core) → IsSound m → Serves g engine m
    → (what : machine.TurnWish) (event : StoreEvent Contents) → Entering m engine.log_start what event
entering laws law g engine m sound s machine.sync event = tt
entering laws law g engine m sound s machine.freeze event = tt
entering laws law g engine m sound s (machine.create name mode prefix) event =
    λ named short creation whole at t manifest plan batch image loaded is counted same given planned.
    enters_created laws law m name mode prefix t engine.log_start event.view manifest plan batch image loaded sound s.pending whole at s.layout s.start
    creation.2 named short creation.0 is counted same given planned
entering laws law g engine m sound s (machine.drop name) event =
    λ dropped whole at t manifest plan batch image loaded is counted same given planned.
    enters_dropped laws law m name event dropped t engine.log_start event.view manifest plan batch image loaded sound s.pending whole at s.layout s.start
    dropped.serves is counted same given planned

pub happens : {D : Type 0} (g : Ghosts D) (engine : Kvdb D g) (m : Core) (what : machine.TurnWish) (k : TurnKind) (entry : a_manifest.Entry)
    (event : StoreEvent Contents) → m.timeline.base.number ≤ m.safe → m.safe ≤ number_of m → Serves g engine m
    → Entering m engine.log_start what event → Enters m what k entry event → Happens m what k entry engine.log_start event.view
happens g engine m machine.sync k entry event from until s entering asked = absurd asked
happens g engine m machine.freeze k entry event from until s entering asked = absurd asked
happens g engine m (machine.create name mode prefix) k entry event from until s entering (kind_is, entry_is, named, short, creation) =
    subst (λ (x : TurnKind). Happens m (machine.create name mode prefix) x entry engine.log_start event.view) (sym kind_is)
    (subst (λ (x : a_manifest.Entry). Happens m (machine.create name mode prefix) kind.Create x engine.log_start event.view) (sym entry_is)
    (happens_created m from until s.pending s.layout engine.log_start name mode prefix event.view short creation.0 creation.2
    (entering named short creation)))
happens g engine m (machine.drop name) k entry event from until s entering (dropped, kind_is, entry_is) =
    subst (λ (x : TurnKind). Happens m (machine.drop name) x entry engine.log_start event.view) (sym kind_is)
    (subst (λ (x : a_manifest.Entry). Happens m (machine.drop name) kind.Drop x engine.log_start event.view) (sym entry_is)
    (happens_dropped m from until s.pending s.layout engine.log_start name dropped.store event.view s.jobs dropped.named dropped.front dropped.serves
    (entering dropped)))

-- ---- the base, as the machine counts it

pub base_same : (start : LogStart) (one other : ViewState Contents) (number : ℕ) (base : Base) → one ≡ other → number ≡ other.number
    → metadata_as base ≡ base_in start one number → metadata_as base ≡ base_in start other other.number
base_same start one other number base same number_is is =
    is ∙ ap (λ (v : ViewState Contents). base_in start v number) same ∙ ap (base_in start other) number_is

pub planned_in : {D : Type 0} (g : Ghosts D) (s : Side D g) (back : Back D g) (charge : ℕ) (text base : List ℕ) (plan : EntryPlan) → s ≡ side.In back
    → SidePlans s charge text base (Ok plan) → IsPlan back.manifest text base (Ok plan)
planned_in {D = D} g s back charge text base plan is planned =
    let there : SidePlans (side.In back) charge text base (Ok plan) = subst (λ (x : Side D g). SidePlans x charge text base (Ok plan)) is planned in there.2

-- the state in memory once the event happened
pub above_event : {D : Type 0} (g : Ghosts D) (m : Core) (what : machine.TurnWish) (k : TurnKind) (entry : a_manifest.Entry) (start : LogStart)
    (view : ViewState Contents) (h : Happens m what k entry start view) (old new : EngineState Contents of_sets)
    → ((move : Move) → IsOfStores move → ServesAbove of_sets old m (number_of m) → ViewServes of_sets view (with_move m move)
    → ServesAbove of_sets new (with_move m move) (number_of (with_move m move)))
    → ServesAbove of_sets old m (number_of m) → ServesAbove of_sets new (with_one m h.event) (number_of (with_one m h.event))
above_event g m what k entry start view h old new enter above =
    subst (λ (x : Core). ServesAbove of_sets new x (number_of x)) h.moved
    (enter h.move h.of_stores above (subst (ViewServes of_sets view) (sym h.moved) h.serves))

live_stores : (layers : List (List StoreRow)) (stores : List (ViewStore Contents))
    → map live_in stores ≡ map live_of (map (meaning.store_in contents_rows layers) stores)
live_stores layers [] = refl
live_stores layers (store ∷ stores) = ap (λ (l : List LiveStore). live_in store ∷ l) (live_stores layers stores)

module _ {D : Type 0} (g : Ghosts D) (engine : Kvdb D g) (m : Core) (from : m.timeline.base.number ≤ m.safe) (until : m.safe ≤ number_of m)
    (s : Serves g engine m) (at : m.turn ≡ home) (what : machine.TurnWish) (k : TurnKind) (entry : a_manifest.Entry) (view : ViewState Contents)
    (h : Happens m what k entry engine.log_start view) (base : Base) (base_is : metadata_as base ≡ base_in engine.log_start view view.number) where
  view_number : view.number ≡ number_of m + 1
  view_number =
      ap (λ (x : State). x.number) h.serves.state
      ∙ now_number (with_one m h.event)
      ∙ number_next m h.event h.is from until

  runs_before : runs_as engine.log_start.taken.items ≡ runs_of m.manifest.taken
  runs_before =
      s.start.taken h.whole ∙ ap (λ (t : machine_turn). runs_of (m.manifest.taken ++ due t)) at ∙ ap runs_of (append-nil m.manifest.taken)

  pub runs_with : (metadata_as base).taken ≡ with_taken (runs_as engine.log_start.taken.items) (number_of m + 1)
  runs_with =
      ap (λ (x : Metadata). x.taken) base_is
      ∙ ap (with_taken (runs_as engine.log_start.taken.items)) view_number

  base_taken : (metadata_as base).taken ≡ runs_of h.e.taken
  base_taken =
      runs_with
      ∙ ap (λ l. with_taken l (number_of m + 1)) runs_before
      ∙ one_taken m.manifest.taken (number_of m + 1)
      ∙ ap runs_of (sym h.taken_is)

  base_stores : (metadata_as base).stores ≡ map live_of h.e.stores
  base_stores =
      ap (λ (x : Metadata). x.stores) base_is
      ∙ live_stores view.layers view.stores
      ∙ ap (λ (x : State). map live_of x.stores) h.serves.state
      ∙ ap (map live_of) (sym h.stores_are)

  pub base_needs : need_of (base_text (metadata_as base)) ≡ whole_need h.e
  base_needs =
      ap (λ (n : ℕ). 5 + n) (base_length (metadata_as base) h.e.taken h.e.stores base_taken base_stores)
      ∙ ap (λ (l : Layout). batch_bytes (base_bytes h.e.taken h.e.stores l)) (sym h.layout_is)

  -- ---- refusals by the device side

  in_faults : FullCounts → (back : Back D g) → IsPlaced back m.sizes m.manifest → (why : TurnFault)
      → IsPlanFault back.manifest (entry_text entry) (base_text (metadata_as base)) why → SaysTurn why (refusal m (take what))
  in_faults law back placed fault.StoreExists is = absurd is
  in_faults law back placed fault.NoStore is = absurd is
  in_faults law back placed (fault.PrefixLength given) is = absurd is
  in_faults law back placed fault.Broken is = absurd is
  in_faults law back placed (fault.StoreHeld order) is = absurd is
  in_faults law back placed (fault.TooMany most) is = absurd is
  in_faults law back placed fault.Spent is = absurd is
  in_faults law back placed (fault.Busy other) is = absurd is
  in_faults law back placed (fault.ManifestFull need room) is =
      h.refusal_is
      ∙ ap (λ (t : machine_turn). unless_busy t (entry_refusal m h.e)) at
      ∙ entry_full g back m placed h.e (entry_text entry) (base_text (metadata_as base)) h.need base_needs law need room is
  in_faults law back placed fault.NoMemory is = tt

  -- ---- the turn

  module _ (turn : Turn D g) (home_is : IsHome g turn.back m) (plan : EntryPlan)
      (planned : IsPlan turn.back.manifest (entry_text entry) (base_text (metadata_as base)) (Ok plan)) (number_is : turn.number ≡ view.number)
      (kind_is : turn.kind ≡ k) (plan_is : turn.plan ≡ Some plan) where
    number_same : number_of (with_one m h.event) ≡ turn.number
    number_same = number_next m h.event h.is from until ∙ sym view_number ∙ sym number_is

    is_out : IsTurn turn.kind turn.number (out_of m k h.plan h.event)
    is_out = record { kind = sym (ap kind_as kind_is); number_is = number_same }

    entered_out : entered_at (with_out m k h.plan h.event) turn.number ≡ entered_after (with_out m k h.plan h.event) h.plan
    entered_out =
        ap (entered_at (with_one m h.event)) (number_is ∙ view_number)
        ∙ entered_next m h.event h.is from until (s.pending.due h.whole ∙ ap due at)
        ∙ h.after

    carries_out : IsBatch m.timeline m.safe turn.batch → (loaded : Loaded)
        → AtRest g turn.back.disk turn.back.layout turn.back.log turn.back.manifest loaded → stored_of loaded ≡ stored_at m m.safe
        → Carries (with_out m k h.plan h.event) turn.kind turn.number turn.back.manifest turn.batch turn.plan loaded
    carries_out given loaded rests same =
        subst (λ (x : TurnKind). Carries (with_out m k h.plan h.event) x turn.number turn.back.manifest turn.batch turn.plan loaded) (sym kind_is)
        (subst (λ (x : Option EntryPlan). Carries (with_out m k h.plan h.event) k turn.number turn.back.manifest turn.batch x loaded) (sym plan_is)
        (subst (λ (n : ℕ). Carries (with_out m k h.plan h.event) k n turn.back.manifest turn.batch (Some plan) loaded) (sym (number_is ∙ view_number))
        (h.carries at turn.back.manifest plan turn.batch (g.seen turn.back.disk) loaded rests.says rests.counted same given
        (subst (λ (x : Metadata). IsPlan turn.back.manifest (entry_text entry) (base_text x) (Ok plan))
        (base_is ∙ ap (base_in engine.log_start view) view_number) planned))))

    turn_out : IsBatch m.timeline m.safe turn.batch → TurnOf g turn (with_out m k h.plan h.event)
    turn_out given = record {
      out = out_of m k h.plan h.event;
      phase = refl;
      of = record {
        is = is_out;
        plan = subst (λ (x : TurnKind). IsPlanOf x h.plan) (sym kind_is) h.plan_is;
        entered = entered_out;
        low = omega (arith, number_is, view_number, until);
        high = omega (arith, number_same);
      };
      whole = h.whole;
      placed = home_is.placed h.whole;
      put = subst (λ (x : Option EntryPlan). IsPut m.manifest h.plan x) (sym plan_is)
          (h.put plan (put_by g turn.back m (home_is.placed h.whole) h.e (entry_text entry) (base_text (metadata_as base)) h.need base_needs plan planned));
      calls = inr refl;
      ready = λ told.
          let rests = home_is.settled h.whole told in
          let same : stored_of rests.loaded ≡ stored_at m m.safe = rests.same in
          record {
            loaded = rests.loaded;
            rests = rests.rests;
            same = same ∙ sym (stored_safe m h.event h.is from until);
            carries = carries_out given rests.loaded rests.rests same;
          };
    }

    module _ (new : Kvdb D g) (side_is : new.side ≡ side.Out turn.kind turn.number) (sequence : new.sequence ≡ engine.sequence)
        (free : new.free ≡ engine.free) where
      serves_out : ServesAbove of_sets new.state (with_one m h.event) (number_of (with_one m h.event)) → IsStartOf new.log_start base
          → Serves g new (with_out m k h.plan h.event)
      serves_out above start = record {
        state = above_turn of_sets new.state (with_one m h.event) (taken (out_of m k h.plan h.event)) (number_of (with_one m h.event)) above;
        pending = h.pending at;
        start = start_entered m h.event h.is from until s.pending h.whole at (out_of m k h.plan h.event) (number_next m h.event h.is from until)
            (h.due_is (number_of (with_one m h.event))) engine.log_start new.log_start
            (start.horizon ∙ ap (λ (x : Metadata). x.horizon) base_is) (start.first ∙ ap (λ (x : Metadata). x.first_segment) base_is)
            (ap (λ v. runs_as v.items) start.taken ∙ runs_with) s.start;
        manifest = sequence ∙ s.manifest;
        free = free ∙ s.free;
        frozen = s.frozen;
        layout = s.layout;
        jobs = s.jobs;
        side = side_out g new.side turn.kind turn.number (with_out m k h.plan h.event) side_is is_out;
      }

      pub took_entry : PlansCount → IsBatch m.timeline m.safe turn.batch
          → ServesAbove of_sets new.state (with_one m h.event) (number_of (with_one m h.event)) → IsStartOf new.log_start base
          → Took g m what turn new
      took_entry law given above start = record {
        unrefused =
            h.refusal_is
            ∙ ap (λ (t : machine_turn). unless_busy t (entry_refusal m h.e)) at
            ∙ entry_fits g turn.back m (home_is.placed h.whole) h.e (entry_text entry) (base_text (metadata_as base)) h.need base_needs law plan planned;
        serves = subst (Serves g new) (sym h.done_is) (serves_out above start);
        turns = subst (TurnOf g turn) (sym h.done_is) (turn_out given);
      }

-- ---- a turn that is out

busy_out : (what : TurnKind) (number : ℕ) (turn : machine_turn) (later : Option (Refusal ℕ)) → IsOut what number turn
    → unless_busy turn later ≡ Some (busy (kind_as what))
busy_out what number home later is = absurd is
busy_out what number (taken turn) later is = ap (λ k. Some (busy k)) is.kind
busy_out what number (machine.ran turn has_failed) later is = ap (λ k. Some (busy k)) is.kind

-- a plan that the device side refuses
pub refused_entry : {D : Type 0} (g : Ghosts D) (engine : Kvdb D g) (m : Core) → m.timeline.base.number ≤ m.safe → m.safe ≤ number_of m → Serves g engine m
    → (what : machine.TurnWish) (k : TurnKind) (entry : a_manifest.Entry) (view : ViewState Contents) → Happens m what k entry engine.log_start view
    → (base : Base) → metadata_as base ≡ base_in engine.log_start view view.number → FullCounts → (charge : ℕ) (s : Side D g) → SideIs g s m → (why : TurnFault)
    → SidePlans s charge (entry_text entry) (base_text (metadata_as base)) (Err why) → SaysTurn why (refusal m (take what))
refused_entry g engine m from until serves what k entry view h base base_is law charge (side.In back) home_is why is =
    in_faults g engine m from until serves home_is.turn what k entry view h base base_is law back (home_is.placed h.whole) why is
refused_entry g engine m from until serves what k entry view h base base_is law charge (side.Out other number) out why is =
    subst (λ (x : TurnFault). SaysTurn x (refusal m (take what))) (sym is) (h.refusal_is ∙ busy_out other number m.turn (entry_refusal m h.e) out)
