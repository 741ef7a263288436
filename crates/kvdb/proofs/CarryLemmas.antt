-- What the entry of a creation or a drop makes of what is stored, behind the commits that wait.
use Rattle.std.specs.Prelude.{Ok, is_some, nat_le, nat_lt, if◌then◌else◌, ◌==◌, ◌||◌, ◌&&◌}
use Rattle.std.specs.List.{find, list_any}
use Rattle.std.proofs.Common.{◌≡◌, ℕ, zero, suc, ◌+◌, ◌-◌, ◌^◌, ◌<◌, ◌≤◌, Bool, true, false, cond, List, [], ◌∷◌, ◌++◌, length, map, Option, Some, None, refl, sym, ◌∙◌, ap, subst, arith, append_assoc}
use Rattle.std.proofs.lemmas.Bool.{and_parts, eq-eqb, eqb-true, leb-false}
use Rattle.std.proofs.lemmas.List.{append-nil, length-map}
use Rattle.std.proofs.lemmas.Option.{same_Some}
use Rattle.gate_log.specs.Places.{need_of}
use Rattle.hse_fields.specs.LogText as log
use Rattle.hse_rows.specs.declared.store.Mode.{Mode}
use Rattle.hse_rows.specs.writes.Lengths.{longest_prefix}
use Rattle.hse_rows.specs.writes.Names.{IsName}
use Rattle.hse_rows.specs.writes.NormalForm.{same}
use Rattle.hse_rows.specs.states.State.{State, Store, store_named}
use Rattle.hse_rows.specs.states.History.{Event, creates, drops, happened, new_store}
use Rattle.hse_rows.specs.states.History as history
use Rattle.hse_rows.specs.laws.Folding.{fold-last, folded-number}
use Rattle.hse_rows.specs.rows.Layout.{Layout}
use Rattle.hse_rows.specs.machine.ManifestRoom.{ManifestState, base_bytes, batch_bytes, creation_bytes, drop_bytes, gained}
use Rattle.hse_rows.specs.machine.TakenRuns.{NumberRun, counted, longest_run, numbers_of, runs_as, runs_from, runs_of}
use Rattle.hse_rows.specs.machine.Turn.{Turn as machine_turn, home}
use Rattle.hse_rows.specs.machine.Replies.{Refusal, broken, prefix_length, spent, store_exists, too_many}
use Rattle.hse_rows.specs.transactions.Transaction.{Transaction}
use Rattle.hse_rows.specs.machine.CoreRefusal.{first_in_store, is_spent, refuse, unless_held}
use Rattle.hse_rows.specs.machine.Core.{Core, Stored, base_need, layout_but, now, number_of}
use Rattle.hse_rows.specs.machine.Recorded.{due, taken_in}
use Rattle.kvset.specs.Reading.{Contents}
use Rattle.kvset.specs.Parts.{contents_rows}
use Rattle.view.specs.Means as means
use Rattle.view.specs.Views.{ViewState}
use Rattle.view.specs.declared.view_store.ViewStore.{ViewStore}
use Rattle.ingest_tree.specs.declared.store_row.StoreRow.{StoreRow}
use Rattle.device_layout.specs.Layouts.{params_of, sizes_of}
use Rattle.device_layout.specs.declared.layout.Layout.{Layout as a_layout}
use Rattle.manifest.specs.Machine.{live_of}
use Rattle.manifest.specs.MayCome.{IsDescribed}
use Rattle.manifest.specs.Metadata.{LiveStore, Metadata, has_id, is_live, is_named, is_used, with_taken}
use Rattle.manifest.specs.Text as a_manifest
use Rattle.manifest.specs.Text.{base_text, create_text, drop_text, entry_text}
use Rattle.manifest.specs.declared.manifest.Manifest.{Manifest}
use Rattle.recovery.specs.Image.{IsLoaded, Loaded}
use Rattle.recovery.specs.Machine.{log_of, manifest_of, numbered_of, stored_of}
use Rattle.recovery.specs.Stored.{state_of, store_in}
use Rattle.back.specs.Bases.{AreCounted}
use Rattle.back.specs.Plans.{IsPlan}
use Rattle.back.specs.Steps.{MayCommitAny, MayEnter, has_room, last_number, logged, metadata_with, rolled, with_commits, with_entry}
use Rattle.back.specs.declared.plan.EntryPlan.{EntryPlan}
use Rattle.engine_state.specs.Serves.{IsSound, ViewServes}
use Rattle.engine_state.specs.Stores.{FrontsBy, IsDropOf, SaysCreate, SaysDrop, create_front, drop_front}
use Rattle.engine_state.specs.Turns.{IsBatch}
use Rattle.engine_state.specs.declared.store_event.StoreEvent.{StoreEvent}
use Rattle.kvdb.specs.Entering.{base_in, creation_as, live_in}
use Rattle.kvdb.specs.Found.{Entered, entered_at, entered_with, log_to, stored_at}
use Rattle.kvdb.specs.Pending.{IsPending, unsafe_events}
use Rattle.kvdb.specs.Serves.{of_sets, StartServes}
use Rattle.kvdb.specs.Turns.{EntersAs, LeadsTo}
use Rattle.kvdb.specs.declared.log_start.LogStart.{LogStart}
use Rattle.kvdb.specs.laws.Growth.{stored_same}
use Rattle.kvdb.proofs.EventLemmas.{IsEntry, base_next, creation_is, drop_is, entered_next, log_next, now_next, stored_before, with_one}
use Rattle.kvdb.proofs.StoreLemmas.{passes}
use Rattle.kvdb.proofs.SyncLemmas.{entered-last, entered-safe}
use Rattle.kvdb.proofs.TurnLemmas.{sync_carries}
use Rattle.kvdb.proofs.WritableLemmas.{CommitsArePayload}

-- ---- laws that calls give

pub record EntryLaws : Type 0 where
  pub creation_may : (image : List ℕ) (loaded : Loaded) (commits : List log.Entry) (store : LiveStore) → IsLoaded image loaded
      → AreCounted loaded.metadata.taken → MayCommitAny loaded commits → store.id ≡ last_number (with_commits loaded commits) + 1 → store.id ≤ 2 ^ 62
      → length loaded.metadata.stores < loaded.layout.stores → IsDescribed loaded.metadata.stores store
      → MayEnter (with_commits loaded commits) (a_manifest.create store)
  pub drop_may : (image : List ℕ) (loaded : Loaded) (commits : List log.Entry) (number id : ℕ) → IsLoaded image loaded
      → AreCounted loaded.metadata.taken → MayCommitAny loaded commits → number ≡ last_number (with_commits loaded commits) + 1 → number ≤ 2 ^ 62
      → is_live id loaded.metadata.stores ≡ true → MayEnter (with_commits loaded commits) (a_manifest.drop number id)
  pub creation_happens : (image : List ℕ) (loaded : Loaded) (commits : List log.Entry) (store : LiveStore) → IsLoaded image loaded → MayCommitAny loaded commits
      → MayEnter (with_commits loaded commits) (a_manifest.create store)
      → state_of (with_entry (with_commits loaded commits) (a_manifest.create store))
      ≡ happened (state_of (with_commits loaded commits)) (creates store.name store.mode store.prefix_length)
  pub drop_happens : (image : List ℕ) (loaded : Loaded) (commits : List log.Entry) (number id : ℕ) → IsLoaded image loaded → MayCommitAny loaded commits
      → MayEnter (with_commits loaded commits) (a_manifest.drop number id)
      → state_of (with_entry (with_commits loaded commits) (a_manifest.drop number id)) ≡ happened (state_of (with_commits loaded commits)) (drops id)
  pub gains : (loaded : Loaded) (entry : a_manifest.Entry) → manifest_of (with_entry loaded entry)
      ≡ gained loaded.layout.manifest (manifest_of loaded) (need_of (entry_text entry)) (need_of (base_text (metadata_with loaded.metadata entry)))
      (numbers_of (metadata_with loaded.metadata entry).taken)
  pub runs : (image : List ℕ) (loaded : Loaded) → IsLoaded image loaded → AreCounted loaded.metadata.taken
      → loaded.metadata.taken ≡ runs_of (numbers_of loaded.metadata.taken)
  pub creation_size : (store : LiveStore) → length (create_text store) ≡ creation_bytes store.name
  pub drop_size : (number id : ℕ) → length (drop_text number id) ≡ drop_bytes
  pub base_size : (m : Metadata) (taken : List ℕ) (stores : List Store) → m.taken ≡ runs_of taken → m.stores ≡ map live_of stores
      → length (base_text m) ≡ base_bytes taken stores []
  pub one_taken : (taken : List ℕ) (number : ℕ) → with_taken (runs_of taken) number ≡ runs_of (taken ++ number ∷ [])

-- ---- the numbers of runs

counted_more : (first count : ℕ) → counted first (count + 1) ≡ counted first count ++ (first + count) ∷ []
counted_more first count = ap (counted first) (let e : count + 1 ≡ suc count = omega arith in e) ∙ by first count
  where
    by : (first count : ℕ) → counted first (suc count) ≡ counted first count ++ (first + count) ∷ []
    by first zero = ap (λ (n : ℕ). n ∷ []) (let e : first ≡ first + 0 = omega arith in e)
    by first (suc count) =
        ap (λ (l : List ℕ). first ∷ l) (by (first + 1) count
        ∙ ap (λ (n : ℕ). counted (first + 1) count ++ n ∷ []) (let e : first + 1 + count ≡ first + suc count = omega arith in e))

runs_by : (joins : Bool) (first count number : ℕ) (numbers : List ℕ) → (joins ≡ true → number ≡ first + count)
    → numbers_of (runs_from first (count + 1) numbers) ≡ counted first (count + 1) ++ numbers
    → numbers_of (runs_from number 1 numbers) ≡ counted number 1 ++ numbers
    → numbers_of (if joins then runs_from first (count + 1) numbers else (record { first = first; count = count } ∷ runs_from number 1 numbers))
    ≡ counted first count ++ number ∷ numbers
runs_by true first count number numbers next one other =
    one ∙ ap (λ (l : List ℕ). l ++ numbers) (counted_more first count)
    ∙ append_assoc (counted first count) ((first + count) ∷ []) numbers
    ∙ ap (λ (n : ℕ). counted first count ++ n ∷ numbers) (sym (next refl))
runs_by false first count number numbers next one other = ap (λ (l : List ℕ). counted first count ++ l) other

numbers_from : (first count : ℕ) (numbers : List ℕ) → numbers_of (runs_from first count numbers) ≡ counted first count ++ numbers
numbers_from first count [] = refl
numbers_from first count (number ∷ numbers) =
    runs_by ((number == first + count) && nat_lt count longest_run) first count number numbers
    (λ joins. eqb-true number (first + count) (and_parts (number == first + count) (nat_lt count longest_run) joins).0)
    (numbers_from first (count + 1) numbers) (numbers_from number 1 numbers)

numbers_back : (numbers : List ℕ) → numbers_of (runs_of numbers) ≡ numbers
numbers_back [] = refl
numbers_back (number ∷ numbers) = numbers_from number 1 numbers

-- ---- stores

stored_back : (entries : List log.Entry) (stores : List LiveStore) → stores ≡ map live_of (map (store_in entries) stores)
stored_back entries [] = refl
stored_back entries (store ∷ stores) = ap (λ (l : List LiveStore). store ∷ l) (stored_back entries stores)

view_back : (layers : List (List StoreRow)) (stores : List (ViewStore Contents)) → map live_of (map (means.store_in contents_rows layers) stores) ≡ map live_in stores
view_back layers [] = refl
view_back layers (store ∷ stores) = ap (λ (l : List LiveStore). live_in store ∷ l) (view_back layers stores)

free_name : (name : List ℕ) (stores : List Store) → find (λ (store : Store). same store.name name) stores ≡ None → is_used name (map live_of stores) ≡ false
free_name name [] none = refl
free_name name (store ∷ stores) none = by (same store.name name) none (free_name name stores)
  where
    by : (b : Bool) → cond b (Some store) (find (λ (s : Store). same s.name name) stores) ≡ None
        → (find (λ (s : Store). same s.name name) stores ≡ None → is_used name (map live_of stores) ≡ false)
        → (b || is_used name (map live_of stores)) ≡ false
    by true gone rest = absurd cc
    by false gone rest = rest gone

lives : (p : Store → Bool) (stores : List Store) (store : Store) → find p stores ≡ Some store → is_live store.id (map live_of stores) ≡ true
lives p [] store found = absurd cc
lives p (first ∷ stores) store found = by (p first) found (lives p stores store)
  where
    here : first ≡ store → (has_id store.id (live_of first) || is_live store.id (map live_of stores)) ≡ true
    here is =
        let id : (first.id == store.id) ≡ true = eq-eqb first.id store.id (ap (λ (s : Store). s.id) is) in
        rw id refl

    later : (b : Bool) → is_live store.id (map live_of stores) ≡ true → (b || is_live store.id (map live_of stores)) ≡ true
    later true there = refl
    later false there = there

    by : (b : Bool) → cond b (Some first) (find p stores) ≡ Some store → (find p stores ≡ Some store → is_live store.id (map live_of stores) ≡ true)
        → (has_id store.id (live_of first) || is_live store.id (map live_of stores)) ≡ true
    by true is rest = here (same_Some first store is)
    by false is rest = later (has_id store.id (live_of first)) (rest is)

-- ---- what is loaded behind commits and an entry

kept : {X : Type 0} (fits : Bool) (one other : Loaded) (f : Loaded → X) (x : X) → f one ≡ x → f other ≡ x → f (if fits then one else other) ≡ x
kept true one other f x first second = first
kept false one other f x first second = second

metadata_still : (loaded : Loaded) (commits : List log.Entry) → (with_commits loaded commits).metadata ≡ loaded.metadata
metadata_still loaded [] = refl
metadata_still loaded (commit ∷ commits) = refl

-- an entry keeps horizon and first segment, and takes this number
abbrev pub Heads : ℕ → a_manifest.Entry → Type 0
Heads number entry =
    (x : Metadata) → metadata_with x entry
    ≡ record { horizon = x.horizon; first_segment = x.first_segment; taken = with_taken x.taken number; stores = (metadata_with x entry).stores }

module _ (laws : EntryLaws) (law : CommitsArePayload) (m : Core) (event : Event) (is : IsEntry event) (entry : a_manifest.Entry) (start : LogStart)
    (view : ViewState Contents) (manifest : Manifest) (plan : EntryPlan) (batch : Option (List ℕ)) (image : List ℕ) (loaded : Loaded)
    (sound : IsSound m) (p : IsPending m) (whole : m.is_broken ≡ false) (at : m.turn ≡ home) (bare : m.layout ≡ []) (st : StartServes start m)
    (shows : ViewServes of_sets view (with_one m event)) (says : IsLoaded image loaded) (few : AreCounted loaded.metadata.taken)
    (loads : stored_of loaded ≡ stored_at m m.safe) (waits : IsBatch m.timeline m.safe batch) (heads : Heads (number_of m + 1) entry) where
  from : m.timeline.base.number ≤ m.safe
  from = sound.limits.since_base

  until : m.safe ≤ number_of m
  until = sound.limits.until_now

  none : taken_in (m.safe + 1) (unsafe_events m) ≡ []
  none = p.due whole ∙ ap due at

  pub leads : LeadsTo (with_one m event) (number_of m) batch loaded
  leads =
      sync_carries law m (with_one m event) (number_of m) batch loaded (sym (stored_before m event is from until)) sound p whole at
      says.full says.layout.good loads waits

  abbrev pub before : Loaded
  before = with_commits loaded leads.entries

  committed : stored_of before ≡ stored_at m (number_of m)
  committed = leads.leads ∙ stored_before m event is from until

  state_before : state_of before ≡ now m
  state_before = ap (λ (s : Stored). s.base) committed ∙ fold-last m.timeline.base m.timeline.history

  pub number_before : last_number before ≡ number_of m
  number_before = ap (λ (s : State). s.number) state_before ∙ folded-number m.timeline.base m.timeline.history

  pub stores_before : loaded.metadata.stores ≡ map live_of (now m).stores
  stores_before =
      ap (λ (x : Metadata). x.stores) (sym (metadata_still loaded leads.entries))
      ∙ stored_back before.log.entries before.metadata.stores
      ∙ ap (λ (s : State). map live_of s.stores) state_before

  -- ---- the base

  runs_start : runs_as start.taken.items ≡ runs_of m.manifest.taken
  runs_start =
      st.taken whole ∙ ap (λ (t : machine_turn). runs_of (m.manifest.taken ++ due t)) at ∙ ap runs_of (append-nil m.manifest.taken)

  runs_before : loaded.metadata.taken ≡ runs_as start.taken.items
  runs_before =
      laws.runs image loaded says few
      ∙ ap runs_of (ap (λ (s : Stored). s.manifest.taken) loads ∙ ap (λ (e : Entered). e.manifest.taken) (entered-safe m p from until))
      ∙ sym runs_start

  module _ (may : MayEnter before entry) (happens : state_of (with_entry before entry) ≡ happened (state_of before) event) where
    state_after : state_of (with_entry before entry) ≡ now (with_one m event)
    state_after = happens ∙ ap (λ (s : State). happened s event) state_before ∙ sym (now_next m event is from until)

    metadata_after : (with_entry before entry).metadata ≡ metadata_with loaded.metadata entry
    metadata_after =
        kept (has_room before entry) (logged before entry) (rolled before entry) (λ (l : Loaded). l.metadata) (metadata_with before.metadata entry) refl refl
        ∙ ap (λ (x : Metadata). metadata_with x entry) (metadata_still loaded leads.entries)

    stores_after : (metadata_with loaded.metadata entry).stores ≡ map live_in view.stores
    stores_after =
        ap (λ (x : Metadata). x.stores) (sym metadata_after)
        ∙ stored_back (with_entry before entry).log.entries (with_entry before entry).metadata.stores
        ∙ ap (λ (s : State). map live_of s.stores) (state_after ∙ sym shows.state)
        ∙ view_back view.layers view.stores

    base_is : metadata_with loaded.metadata entry ≡ base_in start view (number_of m + 1)
    base_is =
        let horizon : loaded.metadata.horizon ≡ start.horizon = ap (λ (s : Stored). s.log.horizon) loads ∙ sym st.horizon in
        let first : loaded.metadata.first_segment ≡ start.first = ap (λ (s : Stored). s.log.first_segment) loads ∙ sym st.first in
        heads loaded.metadata
        ∙ (λ i. record {
          horizon = horizon i;
          first_segment = first i;
          taken = with_taken (runs_before i) (number_of m + 1);
          stores = stores_after i;
        })

    after_is : metadata_with before.metadata entry ≡ base_in start view (number_of m + 1)
    after_is = ap (λ (x : Metadata). metadata_with x entry) (metadata_still loaded leads.entries) ∙ base_is

    runs_after : with_taken (runs_as start.taken.items) (number_of m + 1) ≡ runs_of (m.manifest.taken ++ (number_of m + 1) ∷ [])
    runs_after = ap (λ (l : List NumberRun). with_taken l (number_of m + 1)) runs_start ∙ laws.one_taken m.manifest.taken (number_of m + 1)

    base_size : length (base_text (metadata_with before.metadata entry))
        ≡ base_bytes (m.manifest.taken ++ (number_of m + 1) ∷ []) (now (with_one m event)).stores []
    base_size =
        ap (λ (x : Metadata). length (base_text x)) after_is
        ∙ laws.base_size (base_in start view (number_of m + 1)) (m.manifest.taken ++ (number_of m + 1) ∷ []) (now (with_one m event)).stores runs_after
        (sym (view_back view.layers view.stores) ∙ ap (λ (s : State). map live_of s.stores) shows.state)

    -- ---- what is stored

    module _ (size : ℕ) (need : need_of (entry_text entry) ≡ batch_bytes size)
        (with_is : entered_with m.sizes (now m) (record { manifest = m.manifest; layout = m.layout }) (event ∷ [])
        ≡ record {
          manifest = gained m.sizes.half_size m.manifest (batch_bytes size)
              (base_need (m.manifest.taken ++ (number_of m + 1) ∷ []) (now (with_one m event)).stores [])
              (m.manifest.taken ++ (number_of m + 1) ∷ []);
          layout = [];
        }) where
      gains : manifest_of (with_entry before entry)
          ≡ gained m.sizes.half_size m.manifest (batch_bytes size)
          (base_need (m.manifest.taken ++ (number_of m + 1) ∷ []) (now (with_one m event)).stores []) (m.manifest.taken ++ (number_of m + 1) ∷ [])
      gains =
          let half : before.layout.manifest ≡ m.sizes.half_size = ap (λ (s : Stored). s.sizes.half_size) committed in
          let was : manifest_of before ≡ m.manifest =
          ap (λ (s : Stored). s.manifest) committed ∙ ap (λ (e : Entered). e.manifest) (entered-last m p from until none) in
          let base : need_of (base_text (metadata_with before.metadata entry))
          ≡ base_need (m.manifest.taken ++ (number_of m + 1) ∷ []) (now (with_one m event)).stores [] = ap (λ (n : ℕ). 5 + n) base_size in
          let numbers : numbers_of (metadata_with before.metadata entry).taken ≡ m.manifest.taken ++ (number_of m + 1) ∷ [] =
          ap (λ (x : Metadata). numbers_of x.taken) after_is ∙ ap numbers_of runs_after ∙ numbers_back (m.manifest.taken ++ (number_of m + 1) ∷ []) in
          laws.gains before entry ∙ (λ i. gained (half i) (was i) (need i) (base i) (numbers i))

      log_still : log_of (with_entry before entry) ≡ log_of before
      log_still =
          let one : log_of (logged before entry) ≡ log_of before =
          λ i. record {
            horizon = (heads before.metadata i).horizon;
            first_segment = (heads before.metadata i).first_segment;
            frozen = [];
            active = map numbered_of before.log.entries;
          } in
          kept (has_room before entry) (logged before entry) (rolled before entry) log_of (log_of before) one one

      entered : stored_of (with_entry before entry) ≡ stored_at (with_one m event) (number_of m + 1)
      entered =
          let last = entered_next m event is from until none ∙ with_is in
          stored_same (stored_of (with_entry before entry)) (stored_at (with_one m event) (number_of m + 1))
          (kept (has_room before entry) (logged before entry) (rolled before entry) (λ (l : Loaded). sizes_of (params_of l.layout))
          (sizes_of (params_of before.layout)) refl refl ∙ ap (λ (s : Stored). s.sizes) committed)
          (happens ∙ ap (λ (s : State). happened s event) state_before ∙ sym (base_next m event is from until))
          (log_still ∙ ap (λ (s : Stored). s.log) committed ∙ sym (log_next m event is from until p))
          (gains ∙ ap (λ (e : Entered). e.manifest) (sym last))
          (ap (λ (e : Entered). e.layout) (sym last))

      pub enters_as : (t : machine_turn) → IsPlan manifest (entry_text entry) (base_text (base_in start view (number_of m + 1))) (Ok plan)
          → EntersAs (record (with_one m event) { turn = t }) (number_of m + 1) entry manifest batch (Some plan) loaded
      enters_as t planned = record {
        entries = leads.entries;
        batch_is = leads.batch_is;
        may = leads.may;
        enters = may;
        planned = subst (λ (x : Metadata). IsPlan manifest (entry_text entry) (base_text x) (Ok plan)) (sym base_is) planned;
        above = omega (arith, until);
        committed = leads.leads ∙ ap (stored_at (with_one m event)) (let e : number_of m ≡ number_of m + 1 - 1 = omega arith in e);
        entered = entered;
      }

-- ---- a creation

passed : (m : Core) (name : List ℕ) (prefix : ℕ) → FrontsBy SaysCreate None (create_front m name prefix)
    → (store_named (now m) name ≡ None) × (length (now m).stores < m.sizes.most_stores) × (number_of m < 2 ^ 62)
passed m name prefix front =
    let first = passes (is_some (store_named (now m) name)) store_exists _ (front None) in
    let second = passes (nat_lt longest_prefix prefix) (prefix_length prefix) _ first.1 in
    let third = passes m.is_broken broken _ second.1 in
    let fourth = passes (nat_le m.sizes.most_stores (length (now m).stores)) (too_many m.sizes.most_stores) _ third.1 in
    let fifth = passes (is_spent m) spent None fourth.1 in (
      none_is (store_named (now m) name) first.0,
      leb-false m.sizes.most_stores (length (now m).stores) fourth.0,
      leb-false (2 ^ 62) (number_of m) fifth.0,
    )
  where
    none_is : (found : Option Store) → is_some found ≡ false → found ≡ None
    none_is None no_one = refl
    none_is (Some store) no_one = absurd cc

module _ (laws : EntryLaws) (law : CommitsArePayload) (m : Core) where
  pub enters_created : (name : List ℕ) (mode : Mode) (prefix : ℕ) (t : machine_turn) (start : LogStart) (view : ViewState Contents) (manifest : Manifest)
      (plan : EntryPlan) (batch : Option (List ℕ)) (image : List ℕ) (loaded : Loaded) → IsSound m → IsPending m → m.is_broken ≡ false → m.turn ≡ home
      → m.layout ≡ [] → StartServes start m → ViewServes of_sets view (with_one m (creates name mode prefix)) → IsName name → prefix ≤ longest_prefix
      → FrontsBy SaysCreate None (create_front m name prefix) → IsLoaded image loaded → AreCounted loaded.metadata.taken
      → stored_of loaded ≡ stored_at m m.safe → IsBatch m.timeline m.safe batch
      → IsPlan manifest (entry_text (creation_as m name mode prefix)) (base_text (base_in start view (number_of m + 1))) (Ok plan)
      → EntersAs (record (with_one m (creates name mode prefix)) { turn = t }) (number_of m + 1) (creation_as m name mode prefix) manifest batch (Some plan) loaded
  enters_created name mode prefix t start view manifest plan batch image loaded sound p whole at bare st shows letters short front says few loads waits planned =
      let event : Event = creates name mode prefix in
      let store : LiveStore = record { id = number_of m + 1; name = name; mode = mode; prefix_length = prefix } in
      let entry : a_manifest.Entry = creation_as m name mode prefix in
      let is : IsEntry (creates name mode prefix) = creation_is name mode prefix in
      let heads : Heads (number_of m + 1) (creation_as m name mode prefix) = λ x. refl in
      let has = passed m name prefix front in
      let leading = leads laws law m (creates name mode prefix) is (creation_as m name mode prefix) start view manifest plan batch image loaded sound p whole at bare st shows says few loads waits heads in
      let stores = stores_before laws law m (creates name mode prefix) is (creation_as m name mode prefix) start view manifest plan batch image loaded sound p whole at bare st shows says few loads waits heads in
      let number = number_before laws law m (creates name mode prefix) is (creation_as m name mode prefix) start view manifest plan batch image loaded sound p whole at bare st shows says few loads waits heads in
      let may : MayEnter (with_commits loaded leading.entries) (creation_as m name mode prefix) =
      laws.creation_may image loaded leading.entries (record { id = number_of m + 1; name = name; mode = mode; prefix_length = prefix }) says few leading.may
      (omega (arith, number)) (omega (arith, has.2))
      (omega (arith, has.1, ap (λ (l : List LiveStore). length l) stores, length-map (now m).stores live_of, ap (λ (s : Stored). s.sizes.most_stores) loads))
      (record {
        name = letters;
        free = ap (is_used name) stores ∙ free_name name (now m).stores has.0;
        short = short;
      }) in
      let happens = laws.creation_happens image loaded leading.entries (record { id = number_of m + 1; name = name; mode = mode; prefix_length = prefix }) says leading.may may in
      let count : (now m).number ≡ number_of m = folded-number m.timeline.base m.timeline.history in
      let after : (now m).stores ++ new_store ((now m).number + 1) name mode prefix ∷ [] ≡ (now (with_one m (creates name mode prefix))).stores =
      ap (λ (s : State). s.stores) (sym (now_next m (creates name mode prefix) is sound.limits.since_base sound.limits.until_now)) in
      enters_as laws law m (creates name mode prefix) is (creation_as m name mode prefix) start view manifest plan batch image loaded sound p whole at bare st shows says few loads waits heads
      may happens (creation_bytes name) (ap (λ (n : ℕ). 5 + n) (laws.creation_size (record { id = number_of m + 1; name = name; mode = mode; prefix_length = prefix })))
      (λ i. record {
        manifest = gained m.sizes.half_size m.manifest (batch_bytes (creation_bytes name))
            (base_need (m.manifest.taken ++ (count i + 1) ∷ []) (after i) (bare i))
            (m.manifest.taken ++ (count i + 1) ∷ []);
        layout = bare i;
      })
      t planned

  -- ---- a drop

  pub enters_dropped : (name : List ℕ) (event : StoreEvent Contents) (d : IsDropOf of_sets m name event) (t : machine_turn) (start : LogStart)
      (view : ViewState Contents) (manifest : Manifest) (plan : EntryPlan) (batch : Option (List ℕ)) (image : List ℕ) (loaded : Loaded) → IsSound m → IsPending m
      → m.is_broken ≡ false → m.turn ≡ home → m.layout ≡ [] → StartServes start m → ViewServes of_sets view (with_one m (drops d.store.id))
      → IsLoaded image loaded → AreCounted loaded.metadata.taken → stored_of loaded ≡ stored_at m m.safe → IsBatch m.timeline m.safe batch
      → IsPlan manifest (entry_text (a_manifest.drop (number_of m + 1) d.store.id)) (base_text (base_in start view (number_of m + 1))) (Ok plan)
      → EntersAs (record (with_one m (drops d.store.id)) { turn = t }) (number_of m + 1) (a_manifest.drop (number_of m + 1) d.store.id) manifest batch (Some plan) loaded
  enters_dropped name event d t start view manifest plan batch image loaded sound p whole at bare st shows says few loads waits planned =
      let id : ℕ = d.store.id in
      let is : IsEntry (drops d.store.id) = drop_is d.store.id in
      let heads : Heads (number_of m + 1) (a_manifest.drop (number_of m + 1) d.store.id) = λ x. refl in
      let leading = leads laws law m (drops d.store.id) is (a_manifest.drop (number_of m + 1) d.store.id) start view manifest plan batch image loaded sound p whole at bare st shows says few loads waits heads in
      let stores = stores_before laws law m (drops d.store.id) is (a_manifest.drop (number_of m + 1) d.store.id) start view manifest plan batch image loaded sound p whole at bare st shows says few loads waits heads in
      let number = number_before laws law m (drops d.store.id) is (a_manifest.drop (number_of m + 1) d.store.id) start view manifest plan batch image loaded sound p whole at bare st shows says few loads waits heads in
      let may : MayEnter (with_commits loaded leading.entries) (a_manifest.drop (number_of m + 1) d.store.id) =
      laws.drop_may image loaded leading.entries (number_of m + 1) d.store.id says few leading.may (omega (arith, number)) (omega (arith, unspent d.front))
      (ap (is_live d.store.id) stores ∙ lives (λ (s : Store). same s.name name) (now m).stores d.store d.named) in
      let happens = laws.drop_happens image loaded leading.entries (number_of m + 1) d.store.id says leading.may may in
      let count : (now m).number ≡ number_of m = folded-number m.timeline.base m.timeline.history in
      let after : history.without d.store.id (now m).stores ≡ (now (with_one m (drops d.store.id))).stores =
      ap (λ (s : State). s.stores) (sym (now_next m (drops d.store.id) is sound.limits.since_base sound.limits.until_now)) in
      enters_as laws law m (drops d.store.id) is (a_manifest.drop (number_of m + 1) d.store.id) start view manifest plan batch image loaded sound p whole at bare st shows says few loads waits heads
      may happens drop_bytes (ap (λ (n : ℕ). 5 + n) (laws.drop_size (number_of m + 1) d.store.id))
      (λ i. record {
        manifest = gained m.sizes.half_size m.manifest (batch_bytes drop_bytes)
            (base_need (m.manifest.taken ++ (count i + 1) ∷ []) (after i) (layout_but (bare i) d.store.id))
            (m.manifest.taken ++ (count i + 1) ∷ []);
        layout = layout_but (bare i) d.store.id;
      })
      t planned
    where
      unheld : (found : Option Transaction) → unless_held found (refuse (is_spent m) spent None) ≡ None → refuse (is_spent m) spent None ≡ None
      unheld None free = free
      unheld (Some transaction) free = absurd cc

      unspent : FrontsBy SaysDrop None (drop_front m d.store) → number_of m < 2 ^ 62
      unspent front =
          let first = passes m.is_broken broken _ (front None) in
          leb-false (2 ^ 62) (number_of m)
          (passes (is_spent m) spent None (unheld (first_in_store m.timeline.begun d.store.id) first.1)).0
