-- What is asked for with an event that was prepared.
use Rattle.std.specs.Prelude.{Ok}
use Rattle.std.proofs.Common.{◌≡◌, ℕ, ◌+◌, ◌≤◌, List, [], Option, Some, None, refl, sym, ◌∙◌, ap, subst}
use Rattle.hse_rows.specs.declared.store.Mode.{Mode}
use Rattle.hse_rows.specs.writes.Lengths.{longest_prefix}
use Rattle.hse_rows.specs.writes.Names.{IsName}
use Rattle.hse_rows.specs.states.State.{State, Store, store_named}
use Rattle.hse_rows.specs.laws.Folding.{folded-number}
use Rattle.hse_rows.specs.rows.Job.{Job, first_on, live_ingest}
use Rattle.hse_rows.specs.transactions.Timeline.{for_some}
use Rattle.hse_rows.specs.machine.Turn as machine
use Rattle.hse_rows.specs.machine.Replies.{Refusal, broken, no_store, spent}
use Rattle.hse_rows.specs.machine.ManifestEntry.{drop_entry}
use Rattle.hse_rows.specs.machine.CoreRefusal.{drop_refusal, entry_refusal, first_in_store, is_spent, refuse, take_refusal, unless_busy, unless_busy_with, unless_held}
use Rattle.hse_rows.specs.machine.Core.{Core, now, number_of}
use Rattle.kvset.specs.Reading.{Contents}
use Rattle.view.specs.Views.{ViewState}
use Rattle.manifest.specs.Text as a_manifest
use Rattle.engine_state.specs.Serves.{ViewServes}
use Rattle.engine_state.specs.Stores.{Creates, IsDropOf, SaysDrop, drop_front}
use Rattle.engine_state.specs.declared.faults.DropFault.{DropFault}
use Rattle.engine_state.specs.declared.store_event.StoreEvent.{StoreEvent}
use Rattle.kvdb.specs.Entering.{Enters, creation_as}
use Rattle.kvdb.specs.Serves.{of_sets}
use Rattle.kvdb.specs.declared.side.TurnKind.TheVariants as kind

-- the number behind that of the present view
pub number_behind : (m : Core) (view after : ViewState Contents) → ViewServes of_sets view m → after.number ≡ view.number + 1
    → after.number ≡ number_of m + 1
number_behind m view after shows next =
    next ∙ ap (λ (n : ℕ). n + 1) (ap (λ (s : State). s.number) shows.state ∙ folded-number m.timeline.base m.timeline.history)

pub enters_create : (m : Core) (name text : List ℕ) (mode : Mode) (prefix number : ℕ) (event : StoreEvent Contents) → number ≡ number_of m + 1 → text ≡ name
    → IsName name → prefix ≤ longest_prefix → Creates of_sets m name mode prefix (Ok event)
    → Enters m (machine.create name mode prefix) kind.Create
    (a_manifest.create (record { id = number; name = text; mode = mode; prefix_length = prefix })) event
enters_create m name text mode prefix number event count same letters short creates = (
  refl,
  (λ i. a_manifest.create (record { id = count i; name = same i; mode = mode; prefix_length = prefix })),
  letters,
  short,
  creates,
)

pub enters_drop : (m : Core) (name : List ℕ) (number id : ℕ) (event : StoreEvent Contents) (dropped : IsDropOf of_sets m name event) → number ≡ number_of m + 1
    → id ≡ event.store.0 → Enters m (machine.drop name) kind.Drop (a_manifest.drop number id) event
enters_drop m name number id event dropped count same =
    (dropped, refl, (λ i. a_manifest.drop (count i) ((same ∙ dropped.its_id) i)))

-- where no job runs, a drop's fault is the first of the whole table
pub drop_refused : (m : Core) (name : List ℕ) (why : DropFault) → m.jobs ≡ []
    → ((later : Option (Refusal ℕ)) → SaysDrop why (for_some (store_named (now m) name) (Some no_store) (λ store. drop_front m store later)))
    → SaysDrop why (take_refusal m (machine.drop name))
drop_refused m name why jobs says = by (store_named (now m) name) says
  where
    table : (store : Store) → drop_refusal m store ≡ drop_front m store (unless_busy m.turn (entry_refusal m (drop_entry m store)))
    table store =
        ap (λ (js : List Job). refuse m.is_broken broken
        (unless_held (first_in_store m.timeline.begun store.id)
        (unless_busy_with (live_ingest js)
        (unless_busy_with (first_on js store.id)
        (refuse (is_spent m) spent
        (unless_busy m.turn (entry_refusal m (drop_entry m store)))))))) jobs

    by : (found : Option Store) → ((later : Option (Refusal ℕ)) → SaysDrop why (for_some found (Some no_store) (λ store. drop_front m store later)))
        → SaysDrop why (for_some found (Some no_store) (drop_refusal m))
    by None tells = tells None
    by (Some store) tells =
        subst (SaysDrop why) (sym (table store)) (tells (unless_busy m.turn (entry_refusal m (drop_entry m store))))
