-- What is stored after commits, a creation and a drop.
use Rattle.std.proofs.Common.{◌≡◌, ◌≢◌, ◌∙◌, ℕ, ◌+◌, ◌-◌, Bool, true, false, List, [], ◌∷◌, ◌++◌, length, map, refl, sym, ap, arith, cond, append_assoc}
use Rattle.std.specs.Prelude.{◌==◌, not, if◌then◌else◌}
use Rattle.std.specs.FinMap as fin_map
use Rattle.std.specs.List.{All, AllByRecursion}
use Rattle.std.proofs.lemmas.Bool.{ne_eqb}
use Rattle.std.proofs.lemmas.List.{append-nil}
use Rattle.std.proofs.lemmas.List.Concat.{flat_map-append}
use Rattle.std.proofs.lemmas.List.Elements.{recursion_from_All}
use Rattle.hse_fields.specs.LogText as log
use Rattle.hse_rows.specs.declared.change.Change.{Change}
use Rattle.hse_rows.specs.declared.change.Change.TheVariants.{Put, Del, PDel}
use Rattle.hse_rows.specs.declared.write.Write.{Write}
use Rattle.gate_log.specs.Places.{need_of}
use Rattle.hse_rows.specs.machine.ManifestRoom.{ManifestState, gained}
use Rattle.hse_rows.specs.machine.TakenRuns.{numbers_of}
use Rattle.hse_rows.specs.states.History.{Event, commits, creates, drops, folded, happened, new_store}
use Rattle.hse_rows.specs.states.History as history
use Rattle.hse_rows.specs.states.State.{Contents, Store, State, applied_all, contents_after, contents_after_all}
use Rattle.hse_rows.specs.laws.Holding.{applied_all-stores, written_all}
use Rattle.manifest.specs.Metadata.{LiveStore, with_taken, without}
use Rattle.manifest.specs.Text.{Entry, base, create, drop, base_text, entry_text}
use Rattle.recovery.specs.Image.{IsLoaded, Loaded, HasNoGap, NamesKnown, prefixes_of}
use Rattle.recovery.specs.Stored.{state_of, store_in, write_in, writes_in}
use Rattle.wal.specs.Logged.{entry_of, logged, logged_all}
use Rattle.wal.specs.Numbering.{free_from}
use Rattle.wal.specs.Stores.{LacksStore}
use Rattle.wal.specs.declared.commit.Commit.{Commit}
use Rattle.back.specs.Events.{event_of, events_of}
use Rattle.recovery.specs.Machine.{manifest_of}
use Rattle.back.proofs.NamedLemmas.{next_unnamed}
use Rattle.back.specs.Steps.{MayCommitAny, MayEnter, has_room, last_number, logged as with_logged, metadata_with, rolled, with_commits, with_entry}
use Rattle.back.proofs.CommitLemmas.{last_behind}
use Rattle.back.proofs.LogLemmas.{behind_log, names_more, next_is}
use Rattle.back.proofs.NumberLemmas.{now_taken}
use Rattle.back.proofs.StoreLemmas.{numbers_more}

-- ---- contents

after_both : (id : ℕ) (contents : Contents) (writes more : List Write)
    → contents_after_all id contents (writes ++ more) ≡ contents_after_all id (contents_after_all id contents writes) more
after_both id contents [] more = refl
after_both id contents (write ∷ writes) more = after_both id (contents_after id contents write) writes more

writes_more : (before : List log.Entry) (entry : log.Entry) → writes_in (before ++ entry ∷ []) ≡ writes_in before ++ map write_in entry.changes
writes_more before entry =
    flat_map-append (λ (e : log.Entry). map write_in e.changes) before (entry ∷ [])
    ∙ ap (λ (l : List Write). writes_in before ++ l) (append-nil (map write_in entry.changes))

-- one entry more in one store
one_more : (before : List log.Entry) (entry : log.Entry) (store : LiveStore)
    → written_all (map write_in entry.changes) (store_in before store) ≡ store_in (before ++ entry ∷ []) store
one_more before entry store i = record {
  id = store.id;
  name = store.name;
  mode = store.mode;
  prefix_length = store.prefix_length;
  contents = (sym (ap (contents_after_all store.id fin_map.empty) (writes_more before entry)
      ∙ after_both store.id fin_map.empty (writes_in before) (map write_in entry.changes))) i;
}

each_more : (before : List log.Entry) (entry : log.Entry) (stores : List LiveStore)
    → map (written_all (map write_in entry.changes)) (map (store_in before) stores) ≡ map (store_in (before ++ entry ∷ [])) stores
each_more before entry [] = refl
each_more before entry (store ∷ stores) = λ i. one_more before entry store i ∷ each_more before entry stores i

-- ---- commits

-- the state of these entries and stores, at this number
abbrev pub at_number : ℕ → List log.Entry → List LiveStore → State
at_number number entries stores = record { number = number; stores = map (store_in entries) stores }

happens : (number : ℕ) (before : List log.Entry) (entry : log.Entry) (stores : List LiveStore)
    → happened (at_number number before stores) (event_of entry) ≡ at_number (number + 1) (before ++ entry ∷ []) stores
happens number before entry stores =
    ap (λ (s : State). record { number = number + 1; stores = s.stores }) (applied_all-stores (at_number number before stores) (map write_in entry.changes))
    ∙ (λ i. record { number = number + 1; stores = each_more before entry stores i })

folds : (number : ℕ) (before entries : List log.Entry) (stores : List LiveStore)
    → folded (at_number number before stores) (events_of entries) ≡ at_number (number + length entries) (before ++ entries) stores
folds number before [] stores =
    let same : number ≡ number + 0 = omega arith in
    λ i. at_number (same i) (sym (append-nil before) i) stores
folds number before (entry ∷ entries) stores =
    let count : number + 1 + length entries ≡ number + length (entry ∷ entries) = omega arith in
    ap (λ (s : State). folded s (events_of entries)) (happens number before entry stores)
    ∙ folds (number + 1) (before ++ entry ∷ []) entries stores
    ∙ (λ i. at_number (count i) (append_assoc before (entry ∷ []) entries i) stores)

-- the last number behind some commits
pub number_more : (image : List ℕ) (loaded : Loaded) (entries : List log.Entry) → IsLoaded image loaded
    → last_number (with_commits loaded entries) ≡ last_number loaded + length entries
number_more image loaded [] says = omega arith
number_more image loaded (entry ∷ entries) says =
    let next = next_is loaded.layout image loaded.metadata loaded.log says.log says.full in
    let last = last_behind _ (loaded.metadata.horizon + 1) (numbers_of loaded.metadata.taken) loaded.layout.log loaded.log.entries says.log.last
    (behind_log loaded.layout image loaded.metadata loaded.log says.log says.full)
    (last_number loaded + length (entry ∷ entries) + 1) (omega (arith, next)) in
    omega (arith, last.free)

pub commits_fold : (image : List ℕ) (loaded : Loaded) (entries : List log.Entry) → IsLoaded image loaded
    → state_of (with_commits loaded entries) ≡ folded (state_of loaded) (events_of entries)
commits_fold image loaded [] says = refl
commits_fold image loaded (entry ∷ entries) says =
    ap (λ (n : ℕ). at_number n (loaded.log.entries ++ entry ∷ entries) loaded.metadata.stores) (number_more image loaded (entry ∷ entries) says)
    ∙ sym (folds (last_number loaded) loaded.log.entries (entry ∷ entries) loaded.metadata.stores)

-- ---- the event of a commit

written_back : (write : Write) → write_in (logged write) ≡ write
written_back write = go write.store.0 write.change where
  go : (store : ℕ) (change : Change) → write_in (logged (record { store = record { 0 = store }; change = change })) ≡ record { store = record { 0 = store }; change = change }
  go store (Put key value) = refl
  go store (Del key) = refl
  go store (PDel prefix) = refl

all_back : (writes : List Write) → map write_in (logged_all writes) ≡ writes
all_back [] = refl
all_back (write ∷ writes) = λ i. written_back write i ∷ all_back writes i

pub event_back : (commit : Commit) → event_of (entry_of commit) ≡ commits commit.writes
event_back commit = ap (λ (writes : List Write). commits writes) (all_back commit.writes)

-- ---- a creation and a drop

-- where the manifest stands is no part of what is stored
pub either : {X : Type 0} (fits : Bool) (loaded other : Loaded) (f : Loaded → X) → f loaded ≡ f other → f (if fits then loaded else other) ≡ f loaded
either true loaded other f same = refl
either false loaded other f same = sym same

entered_state : (loaded : Loaded) (entry : Entry) → state_of (with_entry loaded entry) ≡ state_of (with_logged loaded entry)
entered_state loaded entry = either (has_room loaded entry) (with_logged loaded entry) (rolled loaded entry) state_of refl

-- What an entry needs of what it comes behind: the next number is free, no taken one is behind it, and no commit names it.
pub record HasNext (loaded : Loaded) : Type 0 where
  pub next : last_number loaded + 1 ≡ free_from loaded.log.next (numbers_of loaded.metadata.taken)
  pub full : HasNoGap loaded.metadata loaded.log
  pub named : NamesKnown loaded.metadata loaded.log

-- so it is behind what is loaded of an image, and commits that may come
pub has_next : (image : List ℕ) (loaded : Loaded) (entries : List log.Entry) → IsLoaded image loaded → MayCommitAny loaded entries
    → HasNext (with_commits loaded entries)
has_next image loaded [] says may = record {
  next = next_is loaded.layout image loaded.metadata loaded.log says.log says.full
      ∙ ap (λ (n : ℕ). free_from n (numbers_of loaded.metadata.taken)) (sym says.log.next);
  full = says.full;
  named = says.named;
}
has_next image loaded (entry ∷ entries) says may =
    let next = next_is loaded.layout image loaded.metadata loaded.log says.log says.full in
    let last = last_behind (prefixes_of loaded.metadata.stores) (loaded.metadata.horizon + 1) (numbers_of loaded.metadata.taken) loaded.layout.log loaded.log.entries says.log.last
    (behind_log loaded.layout image loaded.metadata loaded.log says.log says.full)
    (last_number loaded + length (entry ∷ entries) + 1) (omega (arith, next)) in
    record {
      next = omega (arith, last.free);
      full = last.none;
      named = names_more loaded (entry ∷ entries) last.free says.named may.known;
    }

number_entered : (loaded : Loaded) (number : ℕ) → HasNext loaded → number ≡ last_number loaded + 1
    → free_from loaded.log.next (numbers_of (with_taken loaded.metadata.taken number)) - 1 ≡ last_number loaded + 1
number_entered loaded number has next =
    let one : free_from loaded.log.next (numbers_of (with_taken loaded.metadata.taken number)) ≡ number + 1 =
    ap (free_from loaded.log.next) (numbers_more loaded.metadata.taken number)
    ∙ (now_taken loaded.log.next number (numbers_of loaded.metadata.taken) has.full (next ∙ has.next)).free in
    omega (arith, one, next)

pub number_with : (loaded : Loaded) (entry : Entry) → HasNext loaded → MayEnter loaded entry
    → last_number (with_entry loaded entry) ≡ last_number loaded + 1
number_with loaded (base m) has may = absurd may.comes
number_with loaded (create store) has may =
    either (has_room loaded (create store)) (with_logged loaded (create store)) (rolled loaded (create store)) last_number refl
    ∙ number_entered loaded store.id has may.next
number_with loaded (drop number id) has may =
    either (has_room loaded (drop number id)) (with_logged loaded (drop number id)) (rolled loaded (drop number id)) last_number refl
    ∙ number_entered loaded number has may.next

-- writes of other stores change nothing of a store
unwritten : (id : ℕ) (contents : Contents) (changes : List log.Change) → AllByRecursion (λ (c : log.Change). c.store ≢ id) changes
    → contents_after_all id contents (map write_in changes) ≡ contents
unwritten id contents [] lacks = refl
unwritten id contents (c ∷ changes) lacks =
    let other : (c.store == id) ≡ false = ne_eqb c.store id lacks.0 in
    ap (λ (b : Bool). contents_after_all id (cond b (Rattle.hse_rows.specs.states.State.changed contents (write_in c).change) contents) (map write_in changes)) other
    ∙ unwritten id contents changes lacks.1

all_unwritten : (id : ℕ) (contents : Contents) (entries : List log.Entry)
    → AllByRecursion (λ (e : log.Entry). All (λ (c : log.Change). c.store ≢ id) e.changes) entries
    → contents_after_all id contents (writes_in entries) ≡ contents
all_unwritten id contents [] lacks = refl
all_unwritten id contents (entry ∷ entries) lacks =
    after_both id contents (map write_in entry.changes) (writes_in entries)
    ∙ ap (λ (c : Contents). contents_after_all id c (writes_in entries))
    (unwritten id contents entry.changes (recursion_from_All (λ (c : log.Change). c.store ≢ id) entry.changes lacks.0))
    ∙ all_unwritten id contents entries lacks.1

-- so a new store that no commit names holds nothing
holds_nothing : (entries : List log.Entry) (store : LiveStore) (number : ℕ) → store.id ≡ number → LacksStore store.id entries
    → store_in entries store ≡ new_store number store.name store.mode store.prefix_length
holds_nothing entries store number is lacks i = record {
  id = is i;
  name = store.name;
  mode = store.mode;
  prefix_length = store.prefix_length;
  contents = all_unwritten store.id fin_map.empty entries
      (recursion_from_All (λ (e : log.Entry). All (λ (c : log.Change). c.store ≢ store.id) e.changes) entries lacks) i;
}

one_store : (entries : List log.Entry) (stores : List LiveStore) (store : LiveStore)
    → map (store_in entries) (stores ++ store ∷ []) ≡ map (store_in entries) stores ++ store_in entries store ∷ []
one_store entries [] store = refl
one_store entries (first ∷ stores) store = ap (λ (l : List Store). store_in entries first ∷ l) (one_store entries stores store)

pub creation_happens : (loaded : Loaded) (store : LiveStore) → HasNext loaded → MayEnter loaded (create store)
    → state_of (with_entry loaded (create store)) ≡ happened (state_of loaded) (creates store.name store.mode store.prefix_length)
creation_happens loaded store has may =
    let number = number_entered loaded store.id has may.next in
    let stores : map (store_in loaded.log.entries) (loaded.metadata.stores ++ store ∷ [])
    ≡ map (store_in loaded.log.entries) loaded.metadata.stores ++ new_store (last_number loaded + 1) store.name store.mode store.prefix_length ∷ [] =
    one_store loaded.log.entries loaded.metadata.stores store
    ∙ ap (λ (s : Store). map (store_in loaded.log.entries) loaded.metadata.stores ++ s ∷ [])
    (holds_nothing loaded.log.entries store (last_number loaded + 1) may.next
    (next_unnamed (last_number loaded) store.id loaded.log.entries may.next has.named)) in
    entered_state loaded (create store) ∙ (λ i. record { number = number i; stores = stores i })

kept_by : (gone : Bool) (entries : List log.Entry) (store : LiveStore) (stores : List LiveStore) (others : List Store) → map (store_in entries) stores ≡ others
    → map (store_in entries) (cond (not gone) (store ∷ stores) stores) ≡ cond (not gone) (store_in entries store ∷ others) others
kept_by true entries store stores others is = is
kept_by false entries store stores others is = ap (λ (l : List Store). store_in entries store ∷ l) is

stores_without : (id : ℕ) (entries : List log.Entry) (stores : List LiveStore)
    → map (store_in entries) (without id stores) ≡ history.without id (map (store_in entries) stores)
stores_without id entries [] = refl
stores_without id entries (store ∷ stores) =
    kept_by (store.id == id) entries store (without id stores) (history.without id (map (store_in entries) stores)) (stores_without id entries stores)

pub drop_happens : (loaded : Loaded) (number id : ℕ) → HasNext loaded → MayEnter loaded (drop number id)
    → state_of (with_entry loaded (drop number id)) ≡ happened (state_of loaded) (drops id)
drop_happens loaded number id has may =
    let count = number_entered loaded number has may.next in
    entered_state loaded (drop number id)
    ∙ (λ i. record { number = count i; stores = stores_without id loaded.log.entries loaded.metadata.stores i })

-- ---- the manifest's room

pushed : (fits : Bool) (one other : Loaded) → manifest_of (if fits then one else other) ≡ (if fits then manifest_of one else manifest_of other)
pushed true one other = refl
pushed false one other = refl

pub gains : (fits : Bool) (sequence place need base_need : ℕ) (taken : List ℕ) (logged rolled : ManifestState)
    → logged ≡ record { sequence = sequence; used = place + need + 1; taken = taken }
    → rolled ≡ record { sequence = sequence + 1; used = 10 - 1 + base_need + 1; taken = taken }
    → (if fits then logged else rolled)
    ≡ (if fits then record { sequence = sequence; used = place + 1 + need; taken = taken } else record { sequence = sequence + 1; used = 10 + base_need; taken = taken })
gains true sequence place need base_need taken logged rolled one other =
    let same : place + need + 1 ≡ place + 1 + need = omega arith in
    one ∙ (λ i. record { sequence = sequence; used = same i; taken = taken })
gains false sequence place need base_need taken logged rolled one other =
    let same : 10 - 1 + base_need + 1 ≡ 10 + base_need = omega arith in
    other ∙ (λ i. record { sequence = sequence + 1; used = same i; taken = taken })

pub manifest_gains : (loaded : Loaded) (entry : Entry) → manifest_of (with_entry loaded entry)
    ≡ gained loaded.layout.manifest (manifest_of loaded) (need_of (entry_text entry)) (need_of (base_text (metadata_with loaded.metadata entry)))
    (numbers_of (metadata_with loaded.metadata entry).taken)
manifest_gains loaded entry =
    pushed (has_room loaded entry) (with_logged loaded entry) (rolled loaded entry)
    ∙ gains (has_room loaded entry) loaded.sequence loaded.place (need_of (entry_text entry)) (need_of (base_text (metadata_with loaded.metadata entry)))
    (numbers_of (metadata_with loaded.metadata entry).taken) (manifest_of (with_logged loaded entry)) (manifest_of (rolled loaded entry)) refl refl
