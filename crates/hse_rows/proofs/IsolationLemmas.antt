-- Moves keep transactions isolated.
use Rattle.std.proofs.Common.{◌≡◌, ◌≢◌, ℕ, ◌+◌, ◌-◌, ◌≤◌, List, [], ◌∷◌, ◌++◌, length, set, Option, Some, None, refl, sym, ◌∙◌, ap, subst, ◌⊎◌, inl, inr, arith}
use Rattle.std.specs.List.{slice_get, AllByRecursion}
use Rattle.std.proofs.lemmas.List.{length-append}
use Rattle.hse_rows.specs.declared.write.Write.{Write}
use Rattle.hse_rows.specs.writes.NormalForm.{normal_form}
use Rattle.hse_rows.specs.states.State.{State}
use Rattle.hse_rows.specs.states.History.{Event, commits, creates, drops, fold, last_number}
use Rattle.hse_rows.specs.laws.Folding.{fold-stays}
use Rattle.hse_rows.specs.declared.store.Mode.TheVariants.{Tx}
use Rattle.hse_rows.specs.transactions.Transaction.{TransactionState, active, committed, aborted, Transaction, begins, staged, ended}
use Rattle.hse_rows.specs.transactions.Conflict.{conflict_of}
use Rattle.hse_rows.specs.transactions.Moves.{Move, begin, write_in, write_out, commit, abort, create, remove}
use Rattle.hse_rows.specs.transactions.Timeline.{Timeline, opened, number_of, transaction_of, snapshot_of, HasStore, IsActive, Allows, for_some, with_event, with_transaction, committing, moved, Goes, stays, moves, opens}
use Rattle.hse_rows.specs.transactions.Isolation.{IsCommitted, IsTransaction, IsBeforeCommit, AreApart, IsIsolated, AreIsolated, Reached, starts, goes_on}
use Rattle.hse_rows.proofs.PlaceLemmas.{get-append, get_last, get_push, get-set}
use Rattle.hse_rows.proofs.ApartLemmas.{apart_from_none, apart_turned, apart_push, free_of}

-- ---- more events

-- a history that begins with another
record Grows (events later : List Event) : Type 0 where
  few : length events ≤ length later
  kept : (i : ℕ) (event : Event) → slice_get events i ≡ Some event → slice_get later i ≡ Some event
  folds : (base : State) (number : ℕ) → number ≤ last_number base events → fold base later number ≡ fold base events number

unchanged : (events : List Event) → Grows events events
unchanged events = record { few = omega arith; kept = λ i event at. at; folds = λ base number within. refl }

grows : (events : List Event) (event : Event) → Grows events (events ++ event ∷ [])
grows events event =
    let long : length (events ++ event ∷ []) ≡ length events + length (event ∷ []) = length-append events (event ∷ []) in
    record { few = omega (arith, long); kept = λ i e at. get-append events (event ∷ []) i e at; folds = λ base number within. fold-stays base events (event ∷ []) number within }

recorded_grows : (base : State) (events later : List Event) (writes : List Write) (state : TransactionState) → Grows events later
    → IsCommitted base events writes state → IsCommitted base later writes state
recorded_grows base events later writes active more recorded = tt
recorded_grows base events later writes aborted more recorded = tt
recorded_grows base events later writes (committed number) more recorded =
    λ some. ((recorded some).0, more.kept (number - (base.number + 1)) (commits (normal_form writes)) (recorded some).1)

-- the stores of a snapshot are those that it had
stores_grow : (base : State) (events later : List Event) (transaction : Transaction) → Grows events later → {order : ℕ}
    → IsTransaction base events order transaction
    → AllByRecursion (λ (write : Write). HasStore (fold base later transaction.snapshot) write.store.0 Tx) transaction.writes
stores_grow base events later transaction more is =
    subst (λ (s : State). AllByRecursion (λ (write : Write). HasStore s write.store.0 Tx) transaction.writes)
    (sym (more.folds base transaction.snapshot is.until_now)) is.of_tx

all_push : (P : Write → Type 0) (writes : List Write) (write : Write) → AllByRecursion P writes → P write → AllByRecursion P (writes ++ write ∷ [])
all_push P [] write all one = (one, tt)
all_push P (first ∷ writes) write all one = (all.0, all_push P writes write all.1 one)

transaction_grows : (base : State) (events later : List Event) (order : ℕ) (transaction : Transaction) → Grows events later
    → IsTransaction base events order transaction → IsTransaction base later order transaction
transaction_grows base events later order transaction more is =
    let few : length events ≤ length later = more.few in
    let until_now : transaction.snapshot ≤ base.number + length events = is.until_now in
    record {
      placed = is.placed;
      since_base = is.since_base;
      until_now = omega (arith, few, until_now);
      recorded = recorded_grows base events later transaction.writes transaction.state more is.recorded;
      of_tx = stores_grow base events later transaction more is;
    }

event_isolated : (m : Timeline) (event : Event) → IsIsolated m → IsIsolated (with_event m event)
event_isolated m event good = record {
  each = λ order transaction at. transaction_grows m.base m.history (m.history ++ event ∷ []) order transaction (grows m.history event) (good.each order transaction at);
  apart = good.apart;
}

-- ---- another transaction in a place

apart_both : (one other : Transaction) → AreApart one other → AreApart other one
apart_both one other apart = λ other_first one_first. apart_turned one.writes other.writes (apart one_first other_first)

module _ (m : Timeline) (good : IsIsolated m) (order : ℕ) (old new : Transaction) (old_at : transaction_of m order ≡ Some old)
    (later : List Event) (more : Grows m.history later) where
  -- the state after it
  abbrev after : Timeline
  after = record { base = m.base; history = later; begun = set m.begun order new }

  replaced_isolated : IsTransaction m.base later order new
      → ((j : ℕ) (other : Transaction) → j ≢ order → transaction_of m j ≡ Some other → AreApart new other)
      → IsIsolated after
  replaced_isolated new_is new_apart = record {
    each = λ i transaction at. each_by i transaction (get-set m.begun order i old new transaction old_at at);
    apart = λ i j one other different one_at other_at.
        apart_by i j one other different (get-set m.begun order i old new one old_at one_at) (get-set m.begun order j old new other old_at other_at);
  }
    where
      each_by : (i : ℕ) (transaction : Transaction) → ((i ≡ order) × (transaction ≡ new)) ⊎ ((i ≢ order) × (transaction_of m i ≡ Some transaction))
          → IsTransaction m.base later i transaction
      each_by i transaction (inl is) =
          subst (λ (t : Transaction). IsTransaction m.base later i t) (sym is.1)
          (subst (λ (n : ℕ). IsTransaction m.base later n new) (sym is.0) new_is)
      each_by i transaction (inr is) = transaction_grows m.base m.history later i transaction more (good.each i transaction is.1)

      apart_by : (i j : ℕ) (one other : Transaction) → i ≢ j → ((i ≡ order) × (one ≡ new)) ⊎ ((i ≢ order) × (transaction_of m i ≡ Some one))
          → ((j ≡ order) × (other ≡ new)) ⊎ ((j ≢ order) × (transaction_of m j ≡ Some other)) → AreApart one other
      apart_by i j one other different (inl one_is) (inl other_is) = absurd (different (one_is.0 ∙ sym other_is.0))
      apart_by i j one other different (inl one_is) (inr other_is) =
          subst (λ (t : Transaction). AreApart t other) (sym one_is.1) (new_apart j other other_is.0 other_is.1)
      apart_by i j one other different (inr one_is) (inl other_is) =
          subst (λ (t : Transaction). AreApart one t) (sym other_is.1) (apart_both new one (new_apart i one one_is.0 one_is.1))
      apart_by i j one other different (inr one_is) (inr other_is) = good.apart i j one other different one_is.1 other_is.1

-- ---- the moves

module _ (m : Timeline) (good : IsIsolated m) where
  -- the transaction that begins
  abbrev fresh : Transaction
  fresh = begins (length m.begun) (number_of m)

  begun_isolated : IsIsolated (moved m begin)
  begun_isolated = record {
    each = λ i transaction at. each_by i transaction (get_push m.begun fresh i transaction at);
    apart = λ i j one other different one_at other_at.
        apart_by i j one other different (get_push m.begun fresh i one one_at) (get_push m.begun fresh j other other_at);
  }
    where
      fresh_is : IsTransaction m.base m.history (length m.begun) fresh
      fresh_is = record { placed = refl; since_base = omega arith; until_now = omega arith; recorded = tt; of_tx = tt }

      each_by : (i : ℕ) (transaction : Transaction) → (transaction_of m i ≡ Some transaction) ⊎ ((i ≡ length m.begun) × (transaction ≡ fresh))
          → IsTransaction m.base m.history i transaction
      each_by i transaction (inl at) = good.each i transaction at
      each_by i transaction (inr is) =
          subst (λ (t : Transaction). IsTransaction m.base m.history i t) (sym is.1)
          (subst (λ (n : ℕ). IsTransaction m.base m.history n fresh) (sym is.0) fresh_is)

      apart_by : (i j : ℕ) (one other : Transaction) → i ≢ j → (transaction_of m i ≡ Some one) ⊎ ((i ≡ length m.begun) × (one ≡ fresh))
          → (transaction_of m j ≡ Some other) ⊎ ((j ≡ length m.begun) × (other ≡ fresh)) → AreApart one other
      apart_by i j one other different (inl one_at) (inl other_at) = good.apart i j one other different one_at other_at
      apart_by i j one other different (inl one_at) (inr other_is) =
          subst (λ (t : Transaction). AreApart one t) (sym other_is.1) (λ before after. apart_from_none one.writes)
      apart_by i j one other different (inr one_is) (inl other_at) =
          subst (λ (t : Transaction). AreApart t other) (sym one_is.1) (λ before after. refl)
      apart_by i j one other different (inr one_is) (inr other_is) = absurd (different (one_is.0 ∙ sym other_is.0))

  module _ (order : ℕ) (transaction : Transaction) (is : IsActive m order transaction) where
    -- another commits, where this one is active
    may_commit : (snapshot : ℕ) → IsBeforeCommit snapshot transaction.state
    may_commit snapshot = subst (IsBeforeCommit snapshot) (sym is.going) tt

    written_isolated : (write : Write) → HasStore (snapshot_of m transaction) write.store.0 Tx
        → conflict_of m.base m.history m.begun transaction write ≡ None
        → IsIsolated (with_transaction m order (staged transaction write))
    written_isolated write has free =
        let own : IsTransaction m.base m.history order transaction = good.each order transaction is.at in
        replaced_isolated m good order transaction (staged transaction write) is.at m.history (unchanged m.history)
        (record {
          placed = own.placed;
          since_base = own.since_base;
          until_now = own.until_now;
          recorded = subst (IsCommitted m.base m.history (transaction.writes ++ write ∷ [])) (sym is.going) tt;
          of_tx = all_push (λ (w : Write). HasStore (snapshot_of m transaction) w.store.0 Tx) transaction.writes write own.of_tx has;
        })
        (λ j other another other_at before after.
        let its : IsTransaction m.base m.history j other = good.each j other other_at in
        apart_push transaction.writes write other.writes
        (good.apart order j transaction other (λ e. another (sym e)) is.at other_at before after)
        (free_of m.base m.history m.begun transaction write free own.since_base j other other_at
        (λ e. another (sym its.placed ∙ e ∙ own.placed)) before its.recorded))

    aborted_isolated : IsIsolated (with_transaction m order (ended transaction aborted))
    aborted_isolated =
        let own : IsTransaction m.base m.history order transaction = good.each order transaction is.at in
        replaced_isolated m good order transaction (ended transaction aborted) is.at m.history (unchanged m.history)
        (record { placed = own.placed; since_base = own.since_base; until_now = own.until_now; recorded = tt; of_tx = own.of_tx })
        (λ j other another other_at before after. absurd after)

    -- a commit with this number, after which these are the events
    ended_isolated : (number : ℕ) (later : List Event) → Grows m.history later → IsCommitted m.base later transaction.writes (committed number)
        → IsIsolated (record { base = m.base; history = later; begun = set m.begun order (ended transaction (committed number)) })
    ended_isolated number later more recorded =
        let own : IsTransaction m.base m.history order transaction = good.each order transaction is.at in
        let few : length m.history ≤ length later = more.few in
        let until_now : transaction.snapshot ≤ m.base.number + length m.history = own.until_now in
        replaced_isolated m good order transaction (ended transaction (committed number)) is.at later more
        (record { placed = own.placed; since_base = own.since_base; until_now = omega (arith, few, until_now); recorded = recorded; of_tx = stores_grow m.base m.history later transaction more own })
        (λ j other another other_at before after.
        good.apart order j transaction other (λ e. another (sym e)) is.at other_at before (may_commit other.snapshot))

    committed_isolated : (writes : List Write) → transaction.writes ≡ writes → IsIsolated (committing m order transaction writes)
    committed_isolated [] none = ended_isolated transaction.snapshot m.history (unchanged m.history) (λ some. absurd (some none))
    committed_isolated (write ∷ writes) all =
        let event : Event = commits (normal_form transaction.writes) in
        let place : m.base.number + length m.history + 1 - (m.base.number + 1) ≡ length m.history = omega arith in
        ended_isolated (number_of m + 1) (m.history ++ event ∷ []) (grows m.history event)
        (λ some. (omega arith, ap (slice_get (m.history ++ event ∷ [])) place ∙ get_last m.history event))

    -- where the core goes by what this transaction makes of it
    isolated_at : (leads_to : Transaction → Timeline) → IsIsolated (leads_to transaction) → IsIsolated (for_some (transaction_of m order) m leads_to)
    isolated_at leads_to there = subst (λ (found : Option Transaction). IsIsolated (for_some found m leads_to)) (sym is.at) there

  moved_isolated : (move : Move) → Allows m move → IsIsolated (moved m move)
  moved_isolated begin allowed = begun_isolated
  moved_isolated (write_in order write) allowed =
      isolated_at order allowed.0 allowed.1 (λ transaction. with_transaction m order (staged transaction write))
      (written_isolated order allowed.0 allowed.1 write allowed.2 allowed.3)
  moved_isolated (write_out write) allowed = event_isolated m (commits (normal_form (write ∷ []))) good
  moved_isolated (commit order) allowed =
      isolated_at order allowed.0 allowed.1 (λ transaction. committing m order transaction transaction.writes)
      (committed_isolated order allowed.0 allowed.1 allowed.0.writes refl)
  moved_isolated (abort order) allowed =
      isolated_at order allowed.0 allowed.1 (λ transaction. with_transaction m order (ended transaction aborted))
      (aborted_isolated order allowed.0 allowed.1)
  moved_isolated (create name mode prefix_length) allowed = event_isolated m (creates name mode prefix_length) good
  moved_isolated (remove id) allowed = event_isolated m (drops id) good

pub opened_isolated : (base : State) → IsIsolated (opened base)
opened_isolated base = record {
  each = λ order transaction at. absurd cc;
  apart = λ i j one other different one_at other_at. absurd cc;
}

-- Where the core goes it stays isolated.
pub goes_isolated : (old new : Timeline) → Goes old new → IsIsolated old → IsIsolated new
goes_isolated old new stays good = good
goes_isolated old new (moves move allowed) good = moved_isolated old good move allowed
goes_isolated old new (opens base) good = opened_isolated base

-- and committed transactions are
pub are_isolated : (m : Timeline) → IsIsolated m → AreIsolated m
are_isolated m good i j one other different one_at other_at first second one_did other_did one_first other_first =
    good.apart i j one other different one_at other_at
    (subst (IsBeforeCommit one.snapshot) (sym other_did) one_first)
    (subst (IsBeforeCommit other.snapshot) (sym one_did) other_first)

pub reached_isolated : (m : Timeline) → Reached m → IsIsolated m
reached_isolated m (starts base) = opened_isolated base
reached_isolated m (goes_on old new before goes) = goes_isolated old new goes (reached_isolated old before)
