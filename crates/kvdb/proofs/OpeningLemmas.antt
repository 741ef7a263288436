-- What stands when an engine is opened.
use Rattle.std.specs.List.{All, AllByRecursion}
use Rattle.std.proofs.Common.{◌≡◌, ℕ, Some, Ok, Err, zero, suc, ◌+◌, ◌-◌, ◌<◌, ◌≤◌, List, [], ◌∷◌, ◌++◌, map, take, refl, sym, ◌∙◌, ap, subst, arith}
use Rattle.std.proofs.lemmas.List.{append-nil}
use Rattle.std.proofs.lemmas.List.Elements.{recursion_from_All}
use Rattle.std.proofs.Math.Seq.{drop-nil}
use Rattle.media_disk.specs.declared.device.Device.{Ghosts}
use Rattle.gate_log.specs.Places.{LiesIn}
use Rattle.gate_log.specs.declared.front.End.TheVariants.{Closed}
use Rattle.hse_fields.specs.LogText as log
use Rattle.hse_fields.specs.LogText.{Entry}
use Rattle.hse_fields.specs.LogReading.{Follow}
use Rattle.hse_rows.specs.states.History.{Event, fold, folded, events_since}
use Rattle.hse_rows.specs.writes.Lengths.{longest_prefix}
use Rattle.manifest.specs.Metadata.{LiveStore, Metadata}
use Rattle.manifest.specs.declared.base.Base.{Base}
use Rattle.hse_rows.specs.machine.Log.{Numbered}
use Rattle.hse_rows.specs.machine.Core.{Stored, life, now}
use Rattle.hse_rows.specs.machine.Recorded.{commits_in, taken_in, CommitsUpTo}
use Rattle.hse_rows.specs.machine.TakenRuns.{numbers_of, runs_as, runs_of}
use Rattle.device_layout.specs.Layouts.{IsGood, params_of, size_of_device, sizes_of}
use Rattle.device_layout.specs.declared.layout.Layout.{Layout}
use Rattle.manifest.specs.declared.manifest.Manifest.{Manifest}
use Rattle.kvset.specs.Reading.{Contents}
use Rattle.ingest_tree.specs.declared.store_row.StoreRow.{StoreRow}
use Rattle.ingest_tree.specs.Rows.{rows_with, store_row, row_numbered}
use Rattle.view.specs.Views.{ViewState}
use Rattle.view.specs.Commits.{with_writes}
use Rattle.view.specs.Layers.{each-with}
use Rattle.wal.specs.Numbering.{Numbers, numbering}
use Rattle.wal.specs.declared.ring.Ring.{Ring}
use Rattle.wal.specs.declared.live.StorePrefix.{StorePrefix}
use Rattle.wal.specs.laws.Batches.{batches_follow, closed_read}
use Rattle.wal.specs.laws.Free.{free_least}
use Rattle.wal.specs.laws.Numbering.{came, number_is}
use Rattle.recovery.specs.Image.{Loaded, IsLoaded, NamesKnown, before_log, log_region, longest_value, number_of, prefixes_of}
use Rattle.recovery.specs.Answers.{Finds, OpenReports}
use Rattle.recovery.specs.Keeps.{IsBarrier, Keeps}
use Rattle.recovery.specs.declared.fault.OpenFault.{OpenFault}
use Rattle.recovery.specs.declared.fault.OpenFault.TheVariants.{NotFormed, Version, Device, NoMemory}
use Rattle.media_disk.specs.Calls.{CallsMade}
use Rattle.hse_io.specs.Faults.{Rose}
use Rattle.media_disk.specs.laws.Calls.{calls_joined, calls_started}
use Rattle.kvdb.specs.Opening.{AsksSize, LeavesDevice, Prepares}
use Rattle.kvdb.proofs.NewLemmas.{keeps_started}
use Rattle.kvdb.specs.Sides.{device_in}
use Rattle.recovery.specs.declared.recovered.Recovered.{Recovered}
use Rattle.recovery.specs.Layer.{layer_after, layer_with}
use Rattle.recovery.specs.Machine.{numbered_of, stored_of}
use Rattle.recovery.specs.Stored.{store_in, write_in}
use Rattle.back.specs.Home.{AtRest}
use Rattle.back.specs.Bases.{AreCounted}
use Rattle.back.specs.laws.Counted.{are_counted}
use Rattle.back.specs.declared.back.Back.{Back}
use Rattle.engine_state.specs.Serves as state
use Rattle.engine_state.specs.Serves.{AreOfStores, IsOpened, SizesServe}
use Rattle.engine_state.specs.declared.sizes.EngineSizes.{EngineSizes}
use Rattle.kvdb.specs.Found.{Entered, entered_at, entered_with, events_to, stored_at}
use Rattle.kvdb.specs.Pending.{CommitsName, IsKnown, IsLoggable, IsPending}
use Rattle.kvdb.specs.Serves.{of_sets, Serves, StartServes}
use Rattle.kvdb.specs.declared.engine.Kvdb.{Kvdb}
use Rattle.kvdb.specs.declared.side.Side.TheVariants as side
use Rattle.kvdb.proofs.TurnLemmas.{side_home}
use Rattle.back.specs.laws.Charged.{entries_charged}
use Rattle.kvdb.specs.laws.Events.{up_to-all}
use Rattle.kvdb.specs.laws.Growth.{stored_same}

-- ---- the rows of the opened layer

abbrev AreUnder : ℕ → List StoreRow → Type 0
AreUnder high layer = AllByRecursion (λ (row : StoreRow). row.store.0 ≤ high) layer

rows-of : (high number : ℕ) (layer : List StoreRow) (changes : List log.Change) → AllByRecursion (λ (c : log.Change). c.store ≤ high) changes
    → AreUnder high layer → AreUnder high (with_writes number layer (map write_in changes))
rows-of high number layer [] up all = all
rows-of high number layer (c ∷ changes) up all =
    rows-of high number (rows_with layer (store_row (write_in c).store (row_numbered number (write_in c).change))) changes up.1
    (each-with (λ (row : StoreRow). row.store.0 ≤ high) layer (store_row (write_in c).store (row_numbered number (write_in c).change)) all up.0)

rows-after : (high : ℕ) (layer : List StoreRow) (entries : List Entry)
    → AllByRecursion (λ (e : Entry). All (λ (c : log.Change). c.store ≤ high) e.changes) entries
    → AreUnder high layer → AreUnder high (layer_after layer entries)
rows-after high layer [] up all = all
rows-after high layer (entry ∷ entries) up all =
    rows-after high (layer_with layer entry) entries up.1
    (rows-of high entry.number layer entry.changes (recursion_from_All (λ (c : log.Change). c.store ≤ high) entry.changes up.0) all)

pub rows_opened : (loaded : Loaded) → NamesKnown loaded.metadata loaded.log
    → AreUnder (number_of loaded.metadata loaded.log) (layer_after [] loaded.log.entries)
rows_opened loaded named =
    rows-after (number_of loaded.metadata loaded.log) [] loaded.log.entries
    (recursion_from_All (λ (e : Entry). All (λ (c : log.Change). c.store ≤ number_of loaded.metadata loaded.log) e.changes) loaded.log.entries named) tt

-- ---- numbers

-- each number is below the next one
record IsBelow (from to : ℕ) (entries : List Entry) : Type 0 where
  grows : from ≤ to
  below : AllByRecursion (λ (e : Entry). e.number < to) entries

followed : (live : List StorePrefix) (state last : Numbers) (entries : List Entry) → Follow (numbering live) state entries last
    → IsBelow state.next last.next entries
followed live state last [] follow = record { grows = let e : state.next ≡ last.next = ap (λ (n : Numbers). n.next) follow in omega (arith, e); below = tt }
followed live state last (e ∷ entries) follow =
    let number = number_is state e.number follow.0 in
    let least = free_least state.next state.taken in
    let next : follow.1.next ≡ e.number + 1 = sym (ap (λ (n : Numbers). n.next) (came state follow.1 e follow.2).is) in
    let rest = followed live follow.1 last entries follow.3 in
    record {
      grows = omega (arith, number, least, next, rest.grows);
      below = (omega (arith, next, rest.grows), rest.below);
    }

commits-up : (next number : ℕ) (entries : List Entry) → next ≤ number + 1 → AllByRecursion (λ (e : Entry). e.number < next) entries
    → CommitsUpTo number (map numbered_of entries)
commits-up next number [] le all = tt
commits-up next number (e ∷ entries) le all =
    (let less : e.number < next = all.0 in let up : e.number ≤ number = omega (arith, less, le) in up, commits-up next number entries le all.1)

pub commits_loaded : (image : List ℕ) (loaded : Loaded) → IsLoaded image loaded
    → CommitsUpTo (number_of loaded.metadata loaded.log) (map numbered_of loaded.log.entries)
commits_loaded image loaded is =
    let live = prefixes_of loaded.metadata.stores in
    let start = before_log loaded.layout loaded.metadata in
    let most = longest_value loaded.layout in
    let x : List Entry × Numbers = (loaded.log.entries, is.log.last) in
    let follow = batches_follow live most start 9 is.log.payloads x (closed_read live most start is.log.payloads (Closed is.log.tail) x is.log.read) in
    let below = followed live start is.log.last loaded.log.entries follow in
    let least = free_least loaded.log.next (numbers_of loaded.metadata.taken) in
    commits-up is.log.last.next (number_of loaded.metadata loaded.log) loaded.log.entries (omega (arith, least, is.log.next)) below.below

-- ---- the life that begins

take-none : (n : ℕ) → take {A = Event} n [] ≡ []
take-none zero = refl
take-none (suc n) = refl

module _ (stored : Stored) (below : CommitsUpTo stored.base.number stored.log.active) where
  none-since : events_since stored.base [] stored.base.number ≡ []
  none-since = drop-nil (stored.base.number - stored.base.number)

  none-to : events_to (life stored) stored.base.number ≡ []
  none-to =
      ap (take (stored.base.number - stored.base.number)) none-since
      ∙ take-none (stored.base.number - stored.base.number)

  -- nothing waits
  pub pending_life : AllByRecursion (IsKnown stored.base.number) stored.base.stores → IsPending (life stored)
  pending_life known = record {
    settled = stored.log.active;
    below = below;
    active =
        sym (append-nil stored.log.active)
        ∙ ap (λ (events : List Event). stored.log.active ++ commits_in (stored.base.number + 1) events) (sym none-since);
    due = λ whole. ap (taken_in (stored.base.number + 1)) none-since;
    waiting =
        subst (λ (events : List Event). AllByRecursion (IsLoggable stored.sizes (now (life stored)).stores) (commits_in (stored.base.number + 1) events))
        (sym none-since) tt;
    written = tt;
    named = stored.base.number;
    known = λ whole. let e : stored.base.number ≤ stored.base.number = omega arith in e;
    stores = known;
    waiting_named = subst (λ (events : List Event). CommitsName stored.base.number (commits_in (stored.base.number + 1) events)) (sym none-since) tt;
    written_named = tt;
  }

  entered-life : entered_at (life stored) stored.base.number ≡ record { manifest = stored.manifest; layout = stored.layout }
  entered-life =
      ap (entered_with stored.sizes (fold stored.base [] stored.base.number) (record { manifest = stored.manifest; layout = stored.layout })) none-to

  -- the device has what was loaded
  pub stored_life : stored ≡ stored_at (life stored) stored.base.number
  stored_life = stored_same stored (stored_at (life stored) stored.base.number) refl
      (ap (folded stored.base) (sym (take-none (stored.base.number - stored.base.number))))
      (ap (λ (l : List Numbered). record stored.log { active = l }) (sym (up_to-all stored.base.number stored.log.active below)))
      (ap (λ (e : Entered). e.manifest) (sym entered-life))
      (ap (λ (e : Entered). e.layout) (sym entered-life))

-- ---- its stores

-- each live store's id is up to the last number, and its prefixes are as long as may be
abbrev pub StoresKnown : Loaded → Type 0
StoresKnown loaded =
    AllByRecursion (λ (store : LiveStore). (store.id ≤ number_of loaded.metadata loaded.log) × (store.prefix_length ≤ longest_prefix)) loaded.metadata.stores

stores-known : (most : ℕ) (entries : List Entry) (stores : List LiveStore)
    → AllByRecursion (λ (store : LiveStore). (store.id ≤ most) × (store.prefix_length ≤ longest_prefix)) stores
    → AllByRecursion (IsKnown most) (map (store_in entries) stores)
stores-known most entries [] all = tt
stores-known most entries (store ∷ stores) all = (record { id = all.0.0; short = all.0.1 }, stores-known most entries stores all.1)

-- ---- the engine

module _ (image : List ℕ) (loaded : Loaded) (r : Recovered) (is : IsLoaded image loaded) (finds : Finds loaded r) where
  pub opened : (sizes : EngineSizes) → SizesServe sizes (sizes_of (params_of loaded.layout))
      → IsOpened of_sets r.view r.log.charges sizes (stored_of loaded)
  opened sizes sized = record {
    state = finds.state;
    stores = subst (λ (v : ViewState Contents). AreOfStores v.number v.layers) (sym finds.view) (
      subst (λ (n : ℕ). AllByRecursion (λ (row : StoreRow). row.store.0 ≤ n) (layer_after [] loaded.log.entries)) (sym finds.number)
          (rows_opened loaded is.named),
      tt,
    );
    charged = finds.log.charges ∙ entries_charged loaded.log.entries;
    sized = sized;
  }

module _ {D : Type 0} (g : Ghosts D) (image : List ℕ) (db : Kvdb D g) (back : Back D g) (loaded : Loaded) (r : Recovered) (is : IsLoaded image loaded)
    (finds : Finds loaded r) (known : StoresKnown loaded) (few : AreCounted loaded.metadata.taken → loaded.metadata.taken ≡ runs_of (numbers_of loaded.metadata.taken)) where
  -- the runs of a value that was read
  counted : AreCounted loaded.metadata.taken
  counted = subst AreCounted (ap (λ (x : Metadata). x.taken) finds.metadata) (are_counted r.base.taken.items)

  -- the device side has the parts that were found
  pub record HasFound : Type 0 where
    pub layout : back.layout ≡ r.layout
    pub log : back.log ≡ r.log
    pub manifest : back.manifest ≡ r.manifest
    pub seen : g.tells → g.seen back.disk ≡ image
    pub still : g.tells → g.pending back.disk ≡ []

  rests : HasFound → g.tells → AtRest g back.disk back.layout back.log back.manifest loaded
  rests has told = record {
    says = subst (λ (bytes : List ℕ). IsLoaded bytes loaded) (sym (has.seen told)) is;
    counted = counted;
    still = has.still told;
    home = record {
      layout_is = has.layout ∙ finds.layout;
      region_is = ap (λ (ring : Ring). ring.region) has.log ∙ finds.log.region;
      log_sequence = ap (λ (ring : Ring). ring.sequence) has.log ∙ finds.log.sequence;
      log_place = ap (λ (ring : Ring). ring.tail.place) has.log ∙ finds.log.place;
      charged = ap (λ (ring : Ring). ring.charges) has.log ∙ finds.log.charges;
      manifest_layout = ap (λ (m : Manifest). m.layout) has.manifest ∙ finds.manifest.layout;
      half = ap (λ (m : Manifest). m.half) has.manifest ∙ finds.manifest.half;
      sequence = ap (λ (m : Manifest). m.sequence) has.manifest ∙ finds.manifest.sequence;
      place = ap (λ (m : Manifest). m.tail.place) has.manifest ∙ finds.manifest.place;
    };
  }

  -- the engine keeps what the base says beside its stores
  pub record HasStart (base : Base) : Type 0 where
    pub horizon : db.log_start.horizon ≡ base.horizon
    pub first : db.log_start.first ≡ base.first
    pub taken : db.log_start.taken ≡ base.taken

  start_opened : HasStart r.base → StartServes db.log_start (life (stored_of loaded))
  start_opened has = record {
    horizon = has.horizon ∙ ap (λ (x : Metadata). x.horizon) finds.metadata;
    first = has.first ∙ ap (λ (x : Metadata). x.first_segment) finds.metadata;
    taken = λ whole.
        ap (λ v. runs_as v.items) has.taken
        ∙ ap (λ (x : Metadata). x.taken) finds.metadata
        ∙ few counted
        ∙ ap runs_of (sym (append-nil (numbers_of loaded.metadata.taken)));
  }

  pub serves_opened : HasFound → HasStart r.base → db.side ≡ side.In back → state.Serves of_sets db.state (life (stored_of loaded))
      → db.sequence ≡ r.manifest.sequence → db.free ≡ r.layout.slots → Serves g db (life (stored_of loaded))
  serves_opened has start side_is above sequence free =
      let below = commits_loaded image loaded is in
      record {
        state = above;
        pending = pending_life (stored_of loaded) below (stores-known (number_of loaded.metadata loaded.log) loaded.log.entries loaded.metadata.stores known);
        start = start_opened start;
        manifest = sequence ∙ finds.manifest.sequence;
        free = let e : db.free ≡ loaded.layout.slots = free ∙ ap (λ (l : Layout). l.slots) finds.layout in omega (arith, e);
        frozen = refl;
        layout = refl;
        jobs = refl;
        side = side_home g db.side back (life (stored_of loaded)) side_is (record {
          turn = refl;
          placed = λ whole. record {
            sizes_are = ap (λ (m : Manifest). sizes_of (params_of m.layout)) has.manifest ∙ ap (λ (l : Layout). sizes_of (params_of l)) finds.manifest.layout;
            sequence = ap (λ (m : Manifest). m.sequence) has.manifest ∙ finds.manifest.sequence;
            used = ap (λ (m : Manifest). m.tail.place + 1) has.manifest ∙ ap (λ (n : ℕ). n + 1) finds.manifest.place;
          };
          settled = λ whole told. record {
            loaded = loaded;
            rests = rests has told;
            same = stored_life (stored_of loaded) below;
          };
          broken = λ failed. absurd cc;
        });
      }

-- ---- the parts of the device side

pub log_inside : (layout : Layout) (extent : ℕ) → IsGood layout → size_of_device layout ≤ extent → LiesIn (log_region layout) extent
log_inside layout extent good inside =
    let small : size_of_device layout ≤ 1073741824 = good.params.device in
    let within : (log_region layout).at + (log_region layout).size ≤ size_of_device layout = omega arith in
    (omega (arith, within, inside), omega (arith, within, small))

-- ---- what an opening leaves

reports_same : {D : Type 0} (A B : Type 0) (g : Ghosts D) (old new : D) (fault : OpenFault) → OpenReports {T = A} g old new (Err fault) → OpenReports {T = B} g old new (Err fault)
reports_same A B g old new (NotFormed region place) has = has
reports_same A B g old new (Version version) has = has
reports_same A B g old new Device has = has
reports_same A B g old new NoMemory has = has

reports_since : {D : Type 0} (A : Type 0) (g : Ghosts D) (old between new : D) (fault : OpenFault) → g.faults between ≡ g.faults old
    → OpenReports {T = Recovered} g between new (Err fault) → OpenReports {T = A} g old new (Err fault)
reports_since A g old between new (NotFormed region place) same has = has ∙ same
reports_since A g old between new (Version version) same has = has ∙ same
reports_since A g old between new Device same has = subst (λ (n : ℕ). Rose n (g.faults new)) same has
reports_since A g old between new NoMemory same has = has ∙ same

-- the device behind it was read
pub left_read : {D : Type 0} (g : Ghosts D) (old between new : D) (fault : OpenFault) → (g.tells → Prepares g (g.seen old) old between (Ok tt))
    → (g.tells → (g.seen old ≡ [] → ⊥) → AsksSize g old between (Ok tt)) → CallsMade g old between → CallsMade g between new → g.faults between ≡ g.faults old → OpenReports {T = Recovered} g between new (Err fault)
    → Keeps g between new → LeavesDevice g old (Err (new, fault))
left_read {D = D} g old between new fault prepared asked first second same reports keeps = record {
  between = between;
  made = Ok tt;
  prepared = prepared;
  asked = asked;
  reached = first;
  tied = tt;
  new = new;
  left = refl;
  went_on = second;
  calls = calls_joined g old between new first second;
  reports = reports_since (Kvdb D g) g old between new fault same reports;
  keeps = keeps;
  barrier = tt;
}

-- or it was not prepared
pub left_unprepared : {D : Type 0} (g : Ghosts D) (old new : D) (fault : OpenFault) → (g.tells → Prepares g (g.seen old) old new (Err fault))
    → (g.tells → (g.seen old ≡ [] → ⊥) → AsksSize g old new (Err fault)) → CallsMade g old new → OpenReports {T = Unit {0}} g old new (Err fault) → LeavesDevice g old (Err (new, fault))
left_unprepared {D = D} g old new fault prepared asked calls reports = record {
  between = new;
  made = Err fault;
  prepared = prepared;
  asked = asked;
  reached = calls;
  tied = refl;
  new = new;
  left = refl;
  went_on = calls_started g new;
  calls = calls;
  reports = reports_same (Unit {0}) (Kvdb D g) g old new fault reports;
  keeps = keeps_started g new;
  barrier = tt;
}

-- or the engine began
pub left_started : {D : Type 0} (g : Ghosts D) (old between new : D) (db : Kvdb D g) (moment : ℕ) → (g.tells → Prepares g (g.seen old) old between (Ok tt))
    → (g.tells → (g.seen old ≡ [] → ⊥) → AsksSize g old between (Ok tt)) → device_in db.side ≡ Some new → CallsMade g old between → CallsMade g between new → g.faults between ≡ g.faults old
    → g.faults new ≡ g.faults between → Keeps g between new → db.moment ≡ moment → IsBarrier g between new moment → LeavesDevice g old (Ok db)
left_started g old between new db moment prepared asked left first second same later keeps moment_is barrier = record {
  between = between;
  made = Ok tt;
  prepared = prepared;
  asked = asked;
  reached = first;
  tied = tt;
  new = new;
  left = left;
  went_on = second;
  calls = calls_joined g old between new first second;
  reports = later ∙ same;
  keeps = keeps;
  barrier = subst (λ (n : ℕ). IsBarrier g between new n) (sym moment_is) barrier;
}
