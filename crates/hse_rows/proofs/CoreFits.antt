-- A core within the limits with one part changed.
use Rattle.std.specs.List.{AllByRecursion}
use Rattle.std.proofs.Common.{◌≡◌, ℕ, ◌+◌, ◌-◌, ◌<◌, ◌≤◌, nat_lt, nat_le, Bool, false, List, [], ◌∷◌, ◌++◌, length, Option, Some, None, refl, sym, subst, arith}
use Rattle.hse_rows.specs.declared.change.Change.{Change}
use Rattle.hse_rows.specs.declared.write.Write.{Write}
use Rattle.hse_rows.specs.writes.Charge.{charge_of}
use Rattle.hse_rows.specs.writes.NormalForm.{normal_form}
use Rattle.hse_rows.specs.states.State.{Store, State, store_named}
use Rattle.hse_rows.specs.states.History.{Event, commits, last_number}
use Rattle.hse_rows.specs.transactions.Transaction.{Transaction, committed, aborted, begins, staged, ended}
use Rattle.hse_rows.specs.transactions.Moves as move
use Rattle.hse_rows.specs.transactions.Timeline.{Timeline, transaction_of, for_some, committing, moved}
use Rattle.hse_rows.specs.machine.Log.{LogState, logged}
use Rattle.hse_rows.specs.machine.ManifestRoom.{fits}
use Rattle.hse_rows.specs.rows.Job.{JobWish, ingest, of_run, Work, ingesting, on_run, Job, AreApart, JobState, is_ingest, claims, job_of, needed_blocks, live_ingest, claimer, first_on, is_picked, is_built}
use Rattle.hse_rows.specs.rows.Job as job_states
use Rattle.hse_rows.specs.machine.Turn.{TurnKind, Plan, Turn}
use Rattle.hse_rows.specs.machine.Replies as replies
use Rattle.hse_rows.specs.machine.Replies.{Refusal, Answer}
use Rattle.hse_rows.specs.machine.Calls.{begin, take_place, give_place}
use Rattle.hse_rows.specs.machine.Core.{Core, live, now, number_of, most_transactions, greatest_number, free_slots, write_to, with_move, most_jobs, most_cursors}
use Rattle.hse_rows.specs.machine.ManifestEntry.{entered, install_entry}
use Rattle.hse_rows.specs.machine.CoreRefusal.{refusal, is_tx, is_spent, room_refusal, outside_refusal, commit_refusal, pick_refusal, install_refusal}
use Rattle.hse_rows.specs.machine.CoreDone.{done, without_job, with_picked, picking, building, log_with, committing_write, with_installing, run_of}
use Rattle.hse_rows.specs.machine.Limits.{HistoryFits, LogFits, ManifestFits, TransactionsFit, JobsFit, PlanFits, TurnFits, IsWithinLimits}
use Rattle.hse_rows.proofs.PassLemmas.{passes, change_passes, size_passes, not_busy, not_busy_with, found}
use Rattle.hse_rows.proofs.JobLemmas.{none_found}
use Rattle.hse_rows.proofs.FitLemmas.{at_most, below, commit_fits, entered_fits, later_turn, led_fits, logged_fits, one_begins, one_other, or_parts, picked_fits, pushed_number, without_fits}

-- ---- a core with another history and another log

module _ (m : Core) (good : IsWithinLimits m) where
  pub grown : (timeline : Timeline) (log : LogState) → timeline.base ≡ m.timeline.base → HistoryFits m.sizes timeline.base timeline.history
      → number_of m ≤ last_number timeline.base timeline.history → LogFits m.sizes log → TransactionsFit timeline.begun
      → IsWithinLimits (record m { timeline = timeline; log = log })
  grown timeline log is fits more log_fits few =
      let since : m.timeline.base.number ≤ m.safe = good.since_base in
      let until : m.safe ≤ number_of m = good.until_now in
      record {
        history = fits;
        log = log_fits;
        manifest = good.manifest;
        slots = good.slots;
        since_base = subst (λ (s : State). s.number ≤ m.safe) (sym is) since;
        until_now = omega (arith, until, more);
        transactions = few;
        jobs = good.jobs;
        cursors = good.cursors;
        turn = later_turn m.sizes m.safe (number_of m) (last_number timeline.base timeline.history) m.turn more good.turn;
      }

  -- the same history, and other transactions
  pub same_history : (timeline : Timeline) → timeline.base ≡ m.timeline.base → timeline.history ≡ m.timeline.history → TransactionsFit timeline.begun
      → IsWithinLimits (record m { timeline = timeline })
  same_history timeline base_is history_is few =
      let number_is : last_number timeline.base timeline.history ≡ number_of m = λ i. last_number (base_is i) (history_is i) in
      grown timeline m.log base_is (subst (λ (t : Timeline). HistoryFits m.sizes t.base t.history) both good.history) (omega (arith, number_is)) good.log few
    where
      both : record m.timeline { begun = timeline.begun } ≡ timeline
      both = λ i. record { base = sym base_is i; history = sym history_is i; begun = timeline.begun }

  -- one event more
  pub one_more : (timeline : Timeline) (log : LogState) (event : Event) → timeline.base ≡ m.timeline.base
      → timeline.history ≡ m.timeline.history ++ event ∷ [] → HistoryFits m.sizes m.timeline.base (m.timeline.history ++ event ∷ []) → LogFits m.sizes log
      → TransactionsFit timeline.begun → IsWithinLimits (record m { timeline = timeline; log = log })
  one_more timeline log event base_is history_is fits log_fits few =
      let number_is : last_number timeline.base timeline.history ≡ last_number m.timeline.base (m.timeline.history ++ event ∷ []) =
      λ i. last_number (base_is i) (history_is i) in
      let next = pushed_number m.timeline.base m.timeline.history event in
      grown timeline log base_is
      (subst (λ (t : Timeline). HistoryFits m.sizes t.base t.history) both fits)
      (omega (arith, number_is, next)) log_fits few
    where
      both : record { base = m.timeline.base; history = m.timeline.history ++ event ∷ []; begun = timeline.begun } ≡ timeline
      both = λ i. record { base = sym base_is i; history = sym history_is i; begun = timeline.begun }

-- ---- calls

module _ (m : Core) (good : IsWithinLimits m) where
  pub begin_within : refusal m begin ≡ None → IsWithinLimits (with_move m move.begin)
  begin_within none =
      let first = passes (nat_le most_transactions (length (live m))) (replies.too_many most_transactions) _ none in
      let second = or_parts (is_spent m) (nat_le greatest_number (length m.timeline.begun)) (passes _ replies.spent None first.1).0 in
      same_history m good (moved m.timeline move.begin) refl refl
      (one_begins m.timeline.begun (begins (length m.timeline.begun) (number_of m)) good.transactions
      (below most_transactions (length (live m)) first.0) (below greatest_number (length m.timeline.begun) second.1))

  -- of a transaction that is there
  pub at_transaction : (order : ℕ) (transaction : Transaction) (later : Transaction → Timeline) (log : LogState) → transaction_of m.timeline order ≡ Some transaction
      → IsWithinLimits (record m { timeline = later transaction; log = log })
      → IsWithinLimits (record m { timeline = for_some (transaction_of m.timeline order) m.timeline later; log = log })
  at_transaction order transaction later log is there =
      subst (λ (looked_up : Option Transaction). IsWithinLimits (record m { timeline = for_some looked_up m.timeline later; log = log })) (sym is) there

  pub write_in_within : (order : ℕ) (transaction : Transaction) (write : Write) → transaction_of m.timeline order ≡ Some transaction
      → IsWithinLimits (with_move m (move.write_in order write))
  write_in_within order transaction write is = at_transaction order transaction _ m.log is
      (same_history m good _ refl refl (one_other m.timeline.begun order transaction (staged transaction write) is (λ e. e) good.transactions))

  pub abort_within : (order : ℕ) (transaction : Transaction) → transaction_of m.timeline order ≡ Some transaction → IsWithinLimits (with_move m (move.abort order))
  abort_within order transaction is =
      at_transaction order transaction _ m.log is
      (same_history m good _ refl refl (one_other m.timeline.begun order transaction (ended transaction aborted) is (λ e. absurd cc) good.transactions))

  pub committing_within : (order : ℕ) (transaction : Transaction) (writes : List Write) → transaction_of m.timeline order ≡ Some transaction → commit_refusal m writes ≡ None
      → IsWithinLimits (record m { timeline = committing m.timeline order transaction writes; log = log_with m writes })
  committing_within order transaction [] is none =
      same_history m good _ refl refl
      (one_other m.timeline.begun order transaction (ended transaction (committed transaction.snapshot)) is (λ e. absurd cc) good.transactions)
  committing_within order transaction (write ∷ writes) is none =
      let first = passes m.is_broken replies.broken _ none in
      let second = passes (is_spent m) replies.spent _ first.1 in
      one_more m good _ (log_with m (write ∷ writes)) (commits (normal_form transaction.writes)) refl refl
      (commit_fits m.sizes m.timeline.base m.timeline.history good.history (normal_form transaction.writes) second.0)
      (logged_fits m (number_of m + 1) (normal_form (write ∷ writes)) good.log second.1)
      (one_other m.timeline.begun order transaction (ended transaction (committed (number_of m + 1))) is (λ e. absurd cc) good.transactions)

  pub outside_within : (change : Change) (store : Store) → outside_refusal m change store ≡ None → IsWithinLimits (committing_write m (write_to store change))
  outside_within change store none =
      let writes : List Write = write_to store change ∷ [] in
      let first = change_passes m.sizes store change _ (passes (is_tx store.mode) replies.store_mode _ none).1 in
      let second = passes m.is_broken replies.broken _ first in
      let third = passes (is_spent m) replies.spent _ second.1 in
      let room : room_refusal m (charge_of (normal_form writes)) ≡ None = size_passes m (charge_of (normal_form writes)) _ third.1 in
      one_more m good _ (logged m.log (number_of m + 1) (normal_form writes)) (commits (normal_form writes)) refl refl
      (commit_fits m.sizes m.timeline.base m.timeline.history good.history (normal_form writes) third.0)
      (logged_fits m (number_of m + 1) (normal_form writes) good.log room) good.transactions

  -- ---- jobs

  pub with_jobs : (jobs : List Job) (picked : ℕ) → JobsFit jobs picked → IsWithinLimits (record m { jobs = jobs; picked = picked })
  with_jobs jobs picked fits = record {
    history = good.history;
    log = good.log;
    manifest = good.manifest;
    slots = good.slots;
    since_base = good.since_base;
    until_now = good.until_now;
    transactions = good.transactions;
    jobs = fits;
    cursors = good.cursors;
    turn = good.turn;
  }

  pub picked_within : (work : Work) → nat_le 64 (length m.jobs) ≡ false → AllByRecursion (λ job. AreApart job.work work) m.jobs
      → IsWithinLimits (with_picked m work)
  picked_within work room apart =
      with_jobs (with_picked m work).jobs (m.picked + 1) (picked_fits m.jobs m.picked work good.jobs (below 64 (length m.jobs) room) apart)

  pub without_within : (id : ℕ) → IsWithinLimits (record m { jobs = without_job m.jobs id })
  without_within id = with_jobs (without_job m.jobs id) m.picked (without_fits m.jobs m.picked id good.jobs)

  pub building_within : (job : Job) → IsWithinLimits (building m job)
  building_within job = with_jobs (building m job).jobs m.picked (led_fits m.jobs m.picked job.id job_states.built _ good.jobs)

  pub picking_within : (wish : JobWish) → pick_refusal m wish ≡ None → IsWithinLimits (picking m wish)
  picking_within ingest none =
      let first = passes m.is_broken replies.broken _ none in
      let second = passes (nat_le most_jobs (length m.jobs)) (replies.too_many most_jobs) _ first.1 in
      let third = not_busy_with (live_ingest m.jobs) _ second.1 in
      picked_within ingesting second.0 (none_found (λ job. is_ingest job.work) m.jobs third.0)
  picking_within (of_run kind name path from len) none =
      found IsWithinLimits (store_named (now m) name) replies.no_store _ m
      (λ store. with_picked m (on_run (run_of m kind store path from len)))
      (λ store is none.
      let first = passes m.is_broken replies.broken _ none in
      let second = passes (nat_le most_jobs (length m.jobs)) (replies.too_many most_jobs) _ first.1 in
      let third = not_busy_with (claimer m.jobs store.id path) _ second.1 in
      picked_within (on_run (run_of m kind store path from len)) second.0
      (none_found (λ job. claims store.id path job.work) m.jobs third.0)) none

  -- ---- cursors

  pub with_cursors : (cursors : ℕ) → cursors ≤ 1024 → IsWithinLimits (record m { cursors = cursors })
  with_cursors cursors few = record {
    history = good.history;
    log = good.log;
    manifest = good.manifest;
    slots = good.slots;
    since_base = good.since_base;
    until_now = good.until_now;
    transactions = good.transactions;
    jobs = good.jobs;
    cursors = few;
    turn = good.turn;
  }

  pub take_place_within : refusal m take_place ≡ None → IsWithinLimits (done m take_place)
  take_place_within none =
      let few : m.cursors < 1024 = below 1024 m.cursors (passes (nat_le most_cursors m.cursors) (replies.too_many most_cursors) None none).0 in
      with_cursors (m.cursors + 1) (omega (arith, few))

  pub give_place_within : IsWithinLimits (done m give_place)
  give_place_within =
      let few : m.cursors ≤ 1024 = good.cursors in
      with_cursors (m.cursors - 1) (omega (arith, few))

  -- ---- turns

  pub with_turn_within : (turn : Turn) (is_broken : Bool) → TurnFits m.sizes m.safe (number_of m) turn → IsWithinLimits (record m { turn = turn; is_broken = is_broken })
  with_turn_within turn is_broken fits = record {
    history = good.history;
    log = good.log;
    manifest = good.manifest;
    slots = good.slots;
    since_base = good.since_base;
    until_now = good.until_now;
    transactions = good.transactions;
    jobs = good.jobs;
    cursors = good.cursors;
    turn = fits;
  }

  -- a turn up to the last number
  pub up_to_now : (kind : TurnKind) (plan : Plan) → PlanFits m.sizes m.safe kind (number_of m) plan
      → (m.safe ≤ number_of m) × (number_of m ≤ number_of m) × PlanFits m.sizes m.safe kind (number_of m) plan
  up_to_now kind plan fits =
      let self : number_of m ≤ number_of m = omega arith in
      (good.until_now, self, fits)

  -- a turn up to what is safe
  pub up_to_safe : (kind : TurnKind) (plan : Plan) → PlanFits m.sizes m.safe kind m.safe plan
      → (m.safe ≤ m.safe) × (m.safe ≤ number_of m) × PlanFits m.sizes m.safe kind m.safe plan
  up_to_safe kind plan fits =
      let self : m.safe ≤ m.safe = omega arith in
      (self, good.until_now, fits)

  pub with_log : (log : LogState) → LogFits m.sizes log → IsWithinLimits (record m { log = log })
  with_log log fits = record {
    history = good.history;
    log = fits;
    manifest = good.manifest;
    slots = good.slots;
    since_base = good.since_base;
    until_now = good.until_now;
    transactions = good.transactions;
    jobs = good.jobs;
    cursors = good.cursors;
    turn = good.turn;
  }

  pub installing_within : (job : Job) → install_refusal m job ≡ None → IsWithinLimits (with_installing m job)
  installing_within job none =
      let first = passes m.is_broken replies.broken _ none in
      let second = not_busy m.turn _ first.1 in
      let need : ℕ = needed_blocks job.work job.sets in
      let third = passes (nat_lt (free_slots m) need) (replies.full need (free_slots m)) _ second.1 in
      let small : need ≤ m.sizes.slots - m.used_slots = at_most (free_slots m) need third.0 in
      let before : m.used_slots ≤ m.sizes.slots = good.slots in
      record {
        history = good.history;
        log = good.log;
        manifest = good.manifest;
        slots = omega (arith, small, before);
        since_base = good.since_base;
        until_now = good.until_now;
        transactions = good.transactions;
        jobs = led_fits m.jobs m.picked job.id job_states.installing job.sets good.jobs;
        cursors = good.cursors;
        turn = good.turn;
      }

  pub install_entry_fits : (job : Job) → install_refusal m job ≡ None → ManifestFits m.sizes (entered m (install_entry m job.work job.sets))
  install_entry_fits job none =
      let first = passes m.is_broken replies.broken _ none in
      let second = not_busy m.turn _ first.1 in
      let third = passes (nat_lt (free_slots m) (needed_blocks job.work job.sets)) _ _ second.1 in
      entered_fits m (install_entry m job.work job.sets) good.manifest third.1
