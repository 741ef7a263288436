-- What a table says that refuses nothing.
use Rattle.std.specs.Prelude.{nat_lt, ◌==◌}
use Rattle.std.proofs.Common.{◌≡◌, ℕ, suc, Bool, true, false, not, cond, List, [], ◌∷◌, length, ◌||◌, Option, Some, None, is_some, refl}
use Rattle.std.specs.List.{slice_get, find}
use Rattle.hse_rows.specs.declared.store.Mode.{Mode}
use Rattle.hse_rows.specs.declared.store.Mode.TheVariants.{Plain, Tx}
use Rattle.hse_rows.specs.declared.change.Change.{Change}
use Rattle.hse_rows.specs.declared.change.Change.TheVariants.{Put, Del, PDel}
use Rattle.hse_rows.specs.writes.NormalForm.{same}
use Rattle.hse_rows.specs.states.State.{Store, State, store_named}
use Rattle.hse_rows.specs.transactions.Transaction.{TransactionState, active, committed, aborted, Transaction}
use Rattle.hse_rows.specs.transactions.Conflict.{Conflict, held, since}
use Rattle.hse_rows.specs.transactions.Timeline.{transaction_of, HasStore, IsActive, for_some}
use Rattle.hse_rows.specs.rows.Job.{Job, JobState, job_of}
use Rattle.hse_rows.specs.machine.Turn.{Turn, home, taken, ran}
use Rattle.hse_rows.specs.machine.Replies.{Refusal, no_name}
use Rattle.hse_rows.specs.machine.Replies as replies
use Rattle.hse_rows.specs.machine.Sizes.{Sizes}
use Rattle.hse_rows.specs.writes.Lengths.{longest_key}
use Rattle.hse_rows.specs.machine.Core.{Core, whole_room, longest_value}
use Rattle.hse_rows.specs.machine.CoreRefusal.{refuse, key_refusal, value_refusal, change_refusal, size_refusal, is_tx, unless_ended, in_transaction, unless_canceled, unless_busy, unless_busy_with, unless_held, with_job}

-- a test that does not refuse
pub passes : (test : Bool) (reason : Refusal ℕ) (later : Option (Refusal ℕ)) → refuse test reason later ≡ None → (test ≡ false) × (later ≡ None)
passes true reason later none = absurd cc
passes false reason later none = (refl, none)

-- the parts of a table that several calls share
pub key_passes : (key : List ℕ) (later : Option (Refusal ℕ)) → key_refusal key later ≡ None → later ≡ None
key_passes key later none = (passes ((length key == 0) || nat_lt longest_key (length key)) (replies.key_length (length key)) later none).1

pub change_passes : (sizes : Sizes) (store : Store) (change : Change) (later : Option (Refusal ℕ)) → change_refusal sizes store change later ≡ None → later ≡ None
change_passes sizes store (Put key bytes) later none =
    (passes (nat_lt (longest_value sizes) (length bytes)) (replies.value_length (length bytes)) later
    (key_passes key (value_refusal sizes bytes later) none)).1
change_passes sizes store (Del key) later none = key_passes key later none
change_passes sizes store (PDel prefix) later none =
    (passes ((length prefix == 0) || nat_lt store.prefix_length (length prefix)) (replies.prefix_length (length prefix)) later none).1

pub size_passes : (m : Core) (charge : ℕ) (later : Option (Refusal ℕ)) → size_refusal m charge later ≡ None → later ≡ None
size_passes m charge later none = (passes (nat_lt (whole_room m) charge) (replies.txn_size charge (whole_room m)) later none).1

pub not_ended : (state : TransactionState) (later : Option (Refusal ℕ)) → unless_ended state later ≡ None → (state ≡ active) × (later ≡ None)
not_ended active later none = (refl, none)
not_ended (committed number) later none = absurd cc
not_ended aborted later none = absurd cc

pub not_canceled : (conflict : Option Conflict) → unless_canceled conflict ≡ None → conflict ≡ None
not_canceled None none = refl
not_canceled (Some (held order)) none = absurd cc
not_canceled (Some (since number)) none = absurd cc

pub not_busy : (turn : Turn) (later : Option (Refusal ℕ)) → unless_busy turn later ≡ None → (turn ≡ home) × (later ≡ None)
not_busy home later none = (refl, none)
not_busy (taken turn) later none = absurd cc
not_busy (ran turn has_failed) later none = absurd cc

pub not_busy_with : (job : Option Job) (later : Option (Refusal ℕ)) → unless_busy_with job later ≡ None → (job ≡ None) × (later ≡ None)
not_busy_with None later none = (refl, none)
not_busy_with (Some job) later none = absurd cc

pub not_held : (transaction : Option Transaction) (later : Option (Refusal ℕ)) → unless_held transaction later ≡ None → (transaction ≡ None) × (later ≡ None)
not_held None later none = (refl, none)
not_held (Some transaction) later none = absurd cc

-- what is not there
pub not_found : {X : Type 0} (looked_up : Option X) → is_some looked_up ≡ false → looked_up ≡ None
not_found None none = refl
not_found (Some x) none = absurd cc

-- what is looked up is there, and leads on
pub found : {X : Type 0} (P : Core → Type 0) (looked_up : Option X) (reason : Refusal ℕ) (later : X → Option (Refusal ℕ)) (otherwise : Core) (leads_to : X → Core)
    → ((x : X) → looked_up ≡ Some x → later x ≡ None → P (leads_to x))
    → for_some looked_up (Some reason) later ≡ None → P (for_some looked_up otherwise leads_to)
found P None reason later otherwise leads_to each none = absurd cc
found P (Some x) reason later otherwise leads_to each none = each x refl none

-- the live transaction that a call speaks of
pub found_transaction : (P : Core → Type 0) (m : Core) (order : ℕ) (later : Transaction → Option (Refusal ℕ)) (leads_to : Transaction → Core)
    → ((transaction : Transaction) → IsActive m.timeline order transaction → later transaction ≡ None → P (leads_to transaction))
    → in_transaction m order later ≡ None → P (for_some (transaction_of m.timeline order) m leads_to)
found_transaction P m order later leads_to each =
    found P (transaction_of m.timeline order) no_name (λ transaction. unless_ended transaction.state (later transaction)) m leads_to
    (λ transaction at none.
    let two : (transaction.state ≡ active) × (later transaction ≡ None) = not_ended transaction.state (later transaction) none in
    each transaction (record { at = at; going = two.0 }) two.1)

pub is_there : (m : Core) (order : ℕ) (later : Transaction → Option (Refusal ℕ)) → in_transaction m order later ≡ None
    → (transaction : Transaction) × IsActive m.timeline order transaction
is_there m order later none = by (transaction_of m.timeline order) refl none
  where
    by : (looked_up : Option Transaction) → transaction_of m.timeline order ≡ looked_up
        → for_some looked_up (Some no_name) (λ transaction. unless_ended transaction.state (later transaction)) ≡ None
        → (transaction : Transaction) × IsActive m.timeline order transaction
    by None at none = absurd cc
    by (Some transaction) at none =
        (transaction, record { at = at; going = (not_ended transaction.state (later transaction) none).0 })

-- the job that a call speaks of
pub found_job : (P : Core → Type 0) (m : Core) (id : ℕ) (is_asked : JobState → Bool) (later : Job → Option (Refusal ℕ)) (leads_to : Job → Core)
    → ((job : Job) → job_of m.jobs id ≡ Some job → later job ≡ None → P (leads_to job))
    → with_job m id is_asked later ≡ None → P (for_some (job_of m.jobs id) m leads_to)
found_job P m id is_asked later leads_to each =
    found P (job_of m.jobs id) no_name (λ job. refuse (not (is_asked job.state)) (replies.job_state job.state) (later job)) m leads_to
    (λ job at none. each job at (passes (not (is_asked job.state)) (replies.job_state job.state) (later job) none).1)

-- ---- a look-up by name

find_at : (p : Store → Bool) (stores : List Store) (store : Store) → find p stores ≡ Some store → (place : ℕ) × (slice_get stores place ≡ Some store)
find_at p [] store is = absurd cc
find_at p (first ∷ stores) store is = by (p first) is (find_at p stores store)
  where
    by : (b : Bool) → cond b (Some first) (find p stores) ≡ Some store → (find p stores ≡ Some store → (place : ℕ) × (slice_get stores place ≡ Some store))
        → (place : ℕ) × (slice_get (first ∷ stores) place ≡ Some store)
    by true is rest = (0, is)
    by false is rest = let later : (place : ℕ) × (slice_get stores place ≡ Some store) = rest is in (suc later.0, later.1)

pub is_plain : (mode : Mode) → is_tx mode ≡ false → mode ≡ Plain
is_plain Plain is = refl
is_plain Tx is = absurd cc

pub is_tx_store : (mode : Mode) → not (is_tx mode) ≡ false → mode ≡ Tx
is_tx_store Plain is = absurd cc
is_tx_store Tx is = refl

pub has_store : (state : State) (name : List ℕ) (store : Store) (mode : Mode) → store_named state name ≡ Some store → store.mode ≡ mode → HasStore state store.id mode
has_store state name store mode is its_mode =
    let at : (place : ℕ) × (slice_get state.stores place ≡ Some store) = find_at (λ s. same s.name name) state.stores store is in
    record { place = at.0; store = store; at = at.1; its_id = refl; its_mode = its_mode }
