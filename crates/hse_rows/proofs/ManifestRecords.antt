-- The manifest keeps the numbers of creations and drops.
use Rattle.std.specs.List.{AllByRecursion}
use Rattle.std.proofs.Common.{◌≡◌, ℕ, ◌+◌, ◌<◌, ◌≤◌, ◌==◌, nat_lt, Bool, true, false, cond, List, [], ◌∷◌, ◌++◌, length, Option, Some, None, is_some, refl, sym, ◌∙◌, ap, subst, arith, append_assoc, length-append}
use Rattle.std.proofs.lemmas.Bool.Decides.{nat_tests}
use Rattle.hse_rows.specs.declared.write.Write.{Write}
use Rattle.hse_rows.specs.states.State.{store_named}
use Rattle.hse_rows.specs.states.History.{Event, commits, creates, drops, last_number}
use Rattle.hse_rows.specs.transactions.Transaction.{Transaction}
use Rattle.hse_rows.specs.writes.NormalForm.{normal_form}
use Rattle.hse_rows.specs.transactions.Moves as move
use Rattle.hse_rows.specs.transactions.Timeline.{Timeline, transaction_of, snapshot_of, for_some, committing}
use Rattle.hse_rows.specs.machine.Log.{LogState, Frozen}
use Rattle.hse_rows.specs.rows.Layout.{NewSet}
use Rattle.hse_rows.specs.machine.ManifestRoom.{ManifestState, head_bytes, fits}
use Rattle.hse_rows.specs.machine.ManifestEntry.{ManifestEntry, whole_need, taken_above, entered, creation_entry, drop_entry, install_entry}
use Rattle.hse_rows.specs.rows.Job.{JobWish, ingest, of_run, Work, ingesting, on_run, Job, job_of, live_ingest, first_on, is_built}
use Rattle.hse_rows.specs.machine.Turn.{TurnWish, sync, freeze, create, drop, Plan, settles, enters, removes, installs, TakenTurn, Turn, home, taken, ran, written}
use Rattle.hse_rows.specs.machine.Turn as turns
use Rattle.hse_rows.specs.machine.Replies as replies
use Rattle.hse_rows.specs.machine.Calls.{outside, inside, Call, begin, write_by, get, commit, abort, list_stores, tree, info, take_place, give_place, pick, build, drop_job, next_job, take, take_install, write_turn, end_turn, reopen}
use Rattle.hse_rows.specs.machine.Core.{Core, now, number_of, oldest, write_to, with_move}
use Rattle.hse_rows.specs.machine.CoreRefusal.{refusal, is_spent, first_in_store, entry_refusal, take_refusal, install_refusal, drop_refusal, unless_run_well}
use Rattle.hse_rows.specs.machine.CoreDone.{taking_install, done, refused_to, failing, committing_write, with_turn_up_to, with_installing, log_with, frozen_log, taking, oldest_gone, picking, building, planned, ending, ending_failed, given_up}
use Rattle.hse_rows.specs.machine.Recorded.{taken_in, AreLayers, above, due_by, due, PlanRecords, TurnRecords, BreaksBy}
use Rattle.hse_rows.proofs.PassLemmas.{passes, not_busy, not_held, not_busy_with, found, found_job}
use Rattle.hse_rows.proofs.RecordLemmas.{taken_push}
use Rattle.hse_rows.proofs.CoreRecords.{none_added, horizon_below, leaves}

-- ---- numbers above a horizon

above_joined : (horizon : ℕ) (ones others : List ℕ) → above horizon (ones ++ others) ≡ above horizon ones ++ above horizon others
above_joined horizon [] others = refl
above_joined horizon (one ∷ ones) others =
    let rest : above horizon (ones ++ others) ≡ above horizon ones ++ above horizon others = above_joined horizon ones others in
    elim (nat_lt horizon one)
    as (λ b. cond b (one ∷ above horizon (ones ++ others)) (above horizon (ones ++ others)) ≡ cond b (one ∷ above horizon ones) (above horizon ones) ++ above horizon others) [
      | true ↦ ap (λ (l : List ℕ). one ∷ l) rest
      | false ↦ rest
    ]

above_one : (horizon number : ℕ) → horizon < number → above horizon (number ∷ []) ≡ number ∷ []
above_one horizon number less =
    let test : nat_lt horizon number ≡ true = grind (arith, nat_tests) in
    ap (λ (b : Bool). cond b (number ∷ []) []) test

above_twice : (low high : ℕ) (numbers : List ℕ) → low ≤ high → above high (above low numbers) ≡ above high numbers
above_twice low high [] less = refl
above_twice low high (number ∷ numbers) less = by (nat_lt low number) refl (nat_lt high number) refl (above_twice low high numbers less)
  where
    by : (b : Bool) → nat_lt low number ≡ b → (c : Bool) → nat_lt high number ≡ c → above high (above low numbers) ≡ above high numbers
        → above high (cond b (number ∷ above low numbers) (above low numbers)) ≡ cond c (number ∷ above high numbers) (above high numbers)
    by true low_is true high_is rest =
        ap (λ (t : Bool). cond t (number ∷ above high (above low numbers)) (above high (above low numbers))) high_is ∙ ap (λ (l : List ℕ). number ∷ l) rest
    by true low_is false high_is rest =
        ap (λ (t : Bool). cond t (number ∷ above high (above low numbers)) (above high (above low numbers))) high_is ∙ rest
    by false low_is true high_is rest = absurd (let no : nat_lt low number ≡ true = grind (arith, nat_tests) in let never : false ≡ true = sym low_is ∙ no in cc)
    by false low_is false high_is rest = rest

pub all_above : (horizon : ℕ) (numbers : List ℕ) → AllByRecursion (λ number. horizon < number) numbers → above horizon numbers ≡ numbers
all_above horizon [] high = refl
all_above horizon (number ∷ numbers) high =
    let less : horizon < number = high.0 in
    let test : nat_lt horizon number ≡ true = grind (arith, nat_tests) in
    ap (λ (b : Bool). cond b (number ∷ above horizon numbers) (above horizon numbers)) test
    ∙ ap (λ (l : List ℕ). number ∷ l) (all_above horizon numbers high.1)

frozen_horizon : (log : LogState) (last : ℕ) → (frozen_log log last).horizon ≡ log.horizon
frozen_horizon log last =
    elim (length log.active == 0)
    as (λ b. (cond b log (record log { frozen = record { last = last; commits = log.active } ∷ log.frozen; active = [] })).horizon ≡ log.horizon) [
      | true ↦ refl
      | false ↦ refl
    ]

entered_taken : (m : Core) (entry : ManifestEntry) → (entered m entry).taken ≡ entry.taken
entered_taken m entry =
    elim (fits m.sizes.half_size m.manifest entry.need) as (λ b. (cond {A = ManifestState} b
    (record { sequence = m.manifest.sequence; used = m.manifest.used + entry.need; taken = entry.taken })
    (record { sequence = m.manifest.sequence + 1; used = head_bytes + whole_need entry; taken = entry.taken })).taken ≡ entry.taken) [ true ↦ refl | false ↦ refl ]

installed_taken : (m : Core) (number id : ℕ) (work : Work) (sets : List NewSet)
    → PlanRecords (oldest m.log.frozen) m.manifest.taken number (installs id work sets (entered m (install_entry m work sets)))
installed_taken m number id ingesting sets = entered_taken m (install_entry m ingesting sets)
installed_taken m number id (on_run run) sets = entered_taken m (install_entry m (on_run run) sets)

-- ---- turns

broke_by : (turn : Turn) → BreaksBy true turn
broke_by home = tt
broke_by (taken turn) = tt
broke_by (ran turn true) = refl
broke_by (ran turn false) = tt

written_records : (layer : Option Frozen) (numbers : List ℕ) (has_failed : Bool) (turn : Turn) → TurnRecords layer numbers turn → TurnRecords layer numbers (written turn has_failed)
written_records layer numbers has_failed home records = tt
written_records layer numbers has_failed (taken turn) records = records
written_records layer numbers has_failed (ran turn before) records = records

written_due : (turn : Turn) (has_failed : Bool) → due (written turn has_failed) ≡ due turn
written_due home has_failed = refl
written_due (taken turn) has_failed = refl
written_due (ran turn before) has_failed = refl

written_breaks : (is_broken : Bool) (turn : Turn) → BreaksBy is_broken turn → BreaksBy is_broken (written turn false)
written_breaks is_broken home breaks = tt
written_breaks is_broken (taken turn) breaks = tt
written_breaks is_broken (ran turn true) breaks = breaks
written_breaks is_broken (ran turn false) breaks = tt

-- ---- the manifest's half

pub record InManifest (before : List ℕ) (m : Core) : Type 0 where
  pub manifest :
      m.is_broken ≡ false
      → m.manifest.taken ++ due m.turn ≡ above m.log.horizon (before ++ taken_in (m.timeline.base.number + 1) m.timeline.history)
  pub turn : TurnRecords (oldest m.log.frozen) m.manifest.taken m.turn
  pub broken : BreaksBy m.is_broken m.turn

module _ (before : List ℕ) (m : Core) (good : InManifest before m) where
  abbrev expected : List Event → List ℕ
  expected events = above m.log.horizon (before ++ taken_in (m.timeline.base.number + 1) events)

  found_kept : {X : Type 0} (it : Option X) (leads_to : X → Core) → ((x : X) → InManifest before (leads_to x)) → InManifest before (for_some it m leads_to)
  found_kept None leads_to each = good
  found_kept (Some x) leads_to each = each x

  -- other transactions
  same_events : (it : Option Transaction) (leads_to : Transaction → Timeline)
      → ((t : Transaction) → InManifest before (record m { timeline = leads_to t }))
      → InManifest before (record m { timeline = for_some it m.timeline leads_to })
  same_events None leads_to each = good
  same_events (Some t) leads_to each = each t

  -- a commit takes no such number
  commit_taken : (writes : List Write) → expected (m.timeline.history ++ commits writes ∷ []) ≡ expected m.timeline.history
  commit_taken writes =
      ap (λ (l : List ℕ). above m.log.horizon (before ++ l))
      (taken_push (m.timeline.base.number + 1) m.timeline.history (commits writes)
      ∙ none_added (taken_in (m.timeline.base.number + 1) m.timeline.history))

  -- a creation or a drop takes the next one
  event_taken : (event : Event) → taken_in (m.timeline.base.number + 1 + length m.timeline.history) (event ∷ []) ≡ (m.timeline.base.number + 1 + length m.timeline.history) ∷ []
      → AreLayers m.log.horizon (number_of m) m.log.frozen
      → expected (m.timeline.history ++ event ∷ []) ≡ expected m.timeline.history ++ last_number m.timeline.base (m.timeline.history ++ event ∷ []) ∷ []
  event_taken event its are =
      let next : ℕ = m.timeline.base.number + 1 + length m.timeline.history in
      let low : m.log.horizon ≤ number_of m = horizon_below m.log.horizon (number_of m) m.log.frozen are in
      let less : m.log.horizon < m.timeline.base.number + 1 + length m.timeline.history = omega (arith, low) in
      let longer = length-append m.timeline.history (event ∷ []) in
      let number : m.timeline.base.number + 1 + length m.timeline.history ≡ last_number m.timeline.base (m.timeline.history ++ event ∷ []) = omega (arith, longer) in
      ap (λ (l : List ℕ). above m.log.horizon (before ++ l))
      (taken_push (m.timeline.base.number + 1) m.timeline.history event
      ∙ ap (λ (l : List ℕ). taken_in (m.timeline.base.number + 1) m.timeline.history ++ l) its)
      ∙ ap (above m.log.horizon) (sym (append_assoc before (taken_in (m.timeline.base.number + 1) m.timeline.history) (next ∷ [])))
      ∙ above_joined m.log.horizon (before ++ taken_in (m.timeline.base.number + 1) m.timeline.history) (next ∷ [])
      ∙ ap (λ (l : List ℕ). expected m.timeline.history ++ l) (above_one m.log.horizon next less)
      ∙ ap (λ (n : ℕ). expected m.timeline.history ++ n ∷ []) number

  -- a call that leaves history, log, manifest and turn
  committed_kept : (order : ℕ) (transaction : Transaction) (writes : List Write)
      → InManifest before (record m { timeline = committing m.timeline order transaction writes; log = log_with m writes })
  committed_kept order transaction [] = record { manifest = good.manifest; turn = good.turn; broken = good.broken }
  committed_kept order transaction (write ∷ writes) = record {
    manifest = λ whole. good.manifest whole ∙ sym (commit_taken (normal_form transaction.writes));
    turn = good.turn;
    broken = good.broken;
  }

  commit_call : (order : ℕ) (it : Option Transaction) → transaction_of m.timeline order ≡ it
      → InManifest before (for_some it m (λ transaction. record (with_move m (move.commit order)) { log = log_with m transaction.writes }))
  commit_call order None is = good
  commit_call order (Some transaction) is =
      subst
      (λ (t : Option Transaction). InManifest before
      (record m { timeline = for_some t m.timeline (λ x. committing m.timeline order x x.writes); log = log_with m transaction.writes }))
      (sym is) (committed_kept order transaction transaction.writes)

  outside_kept : (write : Write) → InManifest before (committing_write m write)
  outside_kept write = record {
    manifest = λ whole. good.manifest whole ∙ sym (commit_taken (normal_form (write ∷ [])));
    turn = good.turn;
    broken = good.broken;
  }

  -- ---- turns

  -- no turn is out
  at_home : m.turn ≡ home → m.is_broken ≡ false → m.manifest.taken ≡ expected m.timeline.history
  at_home is whole =
      sym (none_added m.manifest.taken) ∙ ap (λ (t : Turn). m.manifest.taken ++ due t) (sym is) ∙ good.manifest whole

  settled : (log : LogState) (turn : TakenTurn) → log.horizon ≡ m.log.horizon → turn.plan ≡ settles → m.turn ≡ home
      → InManifest before (record m { log = log; turn = taken turn })
  settled log turn horizon plan is = record {
    manifest = λ whole.
        ap (λ (p : Plan). m.manifest.taken ++ due_by turn.number p) plan ∙ none_added m.manifest.taken ∙ at_home is whole
        ∙ ap (λ (n : ℕ). above n (before ++ taken_in (m.timeline.base.number + 1) m.timeline.history)) (sym horizon);
    turn = subst (PlanRecords (oldest log.frozen) m.manifest.taken turn.number) (sym plan) tt;
    broken = tt;
  }

  -- a creation or a drop is an event, and its turn is out
  event_kept : (timeline : Timeline) (event : Event) (turn : TakenTurn)
      → timeline ≡ record m.timeline { history = m.timeline.history ++ event ∷ [] }
      → taken_in (m.timeline.base.number + 1 + length m.timeline.history) (event ∷ []) ≡ (m.timeline.base.number + 1 + length m.timeline.history) ∷ []
      → AreLayers m.log.horizon (number_of m) m.log.frozen
      → due_by turn.number turn.plan ≡ last_number m.timeline.base (m.timeline.history ++ event ∷ []) ∷ []
      → PlanRecords (oldest m.log.frozen) m.manifest.taken turn.number turn.plan
      → m.turn ≡ home
      → InManifest before (record m { timeline = timeline; turn = taken turn })
  event_kept timeline event turn leads its are number plan is = record {
    manifest = λ whole.
        ap (λ (l : List ℕ). m.manifest.taken ++ l) number
        ∙ ap (λ (l : List ℕ). l ++ last_number m.timeline.base (m.timeline.history ++ event ∷ []) ∷ []) (at_home is whole)
        ∙ sym (event_taken event its are)
        ∙ ap (λ (t : Timeline). above m.log.horizon (before ++ taken_in (t.base.number + 1) t.history)) (sym leads);
    turn = plan;
    broken = tt;
  }

  next_taken : (event : Event) → m.manifest.taken ++ (number_of m + 1) ∷ [] ≡ m.manifest.taken ++ last_number m.timeline.base (m.timeline.history ++ event ∷ []) ∷ []
  next_taken event =
      let longer = length-append m.timeline.history (event ∷ []) in
      let number : number_of m + 1 ≡ last_number m.timeline.base (m.timeline.history ++ event ∷ []) = omega (arith, longer) in
      ap (λ (n : ℕ). m.manifest.taken ++ n ∷ []) number

  install_kept : (id : ℕ) (job : Job) → m.turn ≡ home → InManifest before (with_turn_up_to (with_installing m job) m.safe turns.installing
      (installs id job.work job.sets (entered m (install_entry m job.work job.sets))) true)
  install_kept id job is = record {
    manifest = λ whole. none_added m.manifest.taken ∙ at_home is whole;
    turn = installed_taken m m.safe id job.work job.sets;
    broken = tt;
  }

  taking_kept : AreLayers m.log.horizon (number_of m) m.log.frozen → (wish : TurnWish) → take_refusal m wish ≡ None → InManifest before (taking m wish)
  taking_kept are sync none =
      let first = passes m.is_broken replies.broken _ none in
      settled m.log _ refl refl (not_busy m.turn _ first.1).0
  taking_kept are freeze none =
      let first = passes m.is_broken replies.broken _ none in
      settled (frozen_log m.log (number_of m)) _ (frozen_horizon m.log (number_of m)) refl (not_busy m.turn _ first.1).0
  taking_kept are (create name mode prefix) none =
      let first = passes (is_some (store_named (now m) name)) replies.store_exists _ none in
      let second = passes _ (replies.prefix_length prefix) _ first.1 in
      let third = passes m.is_broken replies.broken _ second.1 in
      let fourth = passes _ (replies.too_many m.sizes.most_stores) _ third.1 in
      let fifth = passes _ replies.spent _ fourth.1 in
      let event : Event = creates name mode prefix in
      event_kept _ event _ refl refl are refl
      (entered_taken m (creation_entry m name mode prefix) ∙ next_taken event) (not_busy m.turn _ fifth.1).0
  taking_kept are (drop name) none =
      found (InManifest before) (store_named (now m) name) replies.no_store (drop_refusal m) m _
      (λ store is passed.
      let first = passes m.is_broken replies.broken _ passed in
      let second = not_held (first_in_store m.timeline.begun store.id) _ first.1 in
      let third = not_busy_with (live_ingest m.jobs) _ second.1 in
      let fourth = not_busy_with (first_on m.jobs store.id) _ third.1 in
      let fifth = passes (is_spent m) replies.spent _ fourth.1 in
      let event : Event = drops store.id in
      event_kept _ event _ refl refl are refl
      (entered_taken m (drop_entry m store) ∙ next_taken event) (not_busy m.turn (entry_refusal m (drop_entry m store)) fifth.1).0) none

  taking_install_kept : (id : ℕ) → refusal m (take_install id) ≡ None → InManifest before (taking_install m id)
  taking_install_kept id none =
      found_job (InManifest before) m id is_built (install_refusal m) _
      (λ job is passed.
      let first = passes m.is_broken replies.broken _ passed in
      install_kept id job (not_busy m.turn _ first.1).0) none

  -- ---- the end of a turn

  -- the oldest layer leaves
  ingest_kept : AreLayers m.log.horizon (number_of m) m.log.frozen → (layer : Option Frozen) → oldest m.log.frozen ≡ layer → (after : List ℕ)
      → after ≡ taken_above layer m.manifest.taken → m.manifest.taken ++ [] ≡ expected m.timeline.history
      → after ++ [] ≡ above (oldest_gone m.log layer).horizon (before ++ taken_in (m.timeline.base.number + 1) m.timeline.history)
  ingest_kept are None is after its known = ap (λ (l : List ℕ). l ++ []) its ∙ known
  ingest_kept are (Some layer) is after its known =
      let gone = leaves m.log.horizon (number_of m) m.log.frozen layer is are in
      none_added after ∙ its ∙ ap (above layer.last) (sym (none_added m.manifest.taken) ∙ known)
      ∙ above_twice m.log.horizon layer.last (before ++ taken_in (m.timeline.base.number + 1) m.timeline.history) gone.above

  planned_kept : AreLayers m.log.horizon (number_of m) m.log.frozen → (number : ℕ) (plan : Plan) → PlanRecords (oldest m.log.frozen) m.manifest.taken number plan
      → (m.is_broken ≡ false → m.manifest.taken ++ due_by number plan ≡ expected m.timeline.history)
      → InManifest before (record (planned m number plan) { turn = home })
  planned_kept are number settles its known = record { manifest = known; turn = tt; broken = tt }
  planned_kept are number (enters manifest) its known =
      record { manifest = λ whole. none_added manifest.taken ∙ its ∙ known whole; turn = tt; broken = tt }
  planned_kept are number (removes id manifest) its known =
      record { manifest = λ whole. none_added manifest.taken ∙ its ∙ known whole; turn = tt; broken = tt }
  planned_kept are number (installs id ingesting new manifest) its known =
      record { manifest = λ whole. ingest_kept are (oldest m.log.frozen) refl manifest.taken its (known whole); turn = tt; broken = tt }
  planned_kept are number (installs id (on_run run) new manifest) its known =
      record { manifest = λ whole. ap (λ (l : List ℕ). l ++ []) its ∙ known whole; turn = tt; broken = tt }

  ending_kept : AreLayers m.log.horizon (number_of m) m.log.frozen → (t : Turn) → m.turn ≡ t → unless_run_well t ≡ None → InManifest before (ending m t)
  ending_kept are home is none = good
  ending_kept are (taken turn) is none = good
  ending_kept are (ran turn true) is none = absurd cc
  ending_kept are (ran turn false) is none =
      planned_kept are turn.number turn.plan (subst (TurnRecords (oldest m.log.frozen) m.manifest.taken) is good.turn)
      (λ whole. ap (λ (t : Turn). m.manifest.taken ++ due t) (sym is) ∙ good.manifest whole)

  given_up_kept : (plan : Plan) → m.is_broken ≡ true → InManifest before (record (given_up m plan) { turn = home })
  given_up_kept settles failed = record { manifest = λ whole. absurd cc; turn = tt; broken = tt }
  given_up_kept (enters manifest) failed = record { manifest = λ whole. absurd cc; turn = tt; broken = tt }
  given_up_kept (removes id manifest) failed = record { manifest = λ whole. absurd cc; turn = tt; broken = tt }
  given_up_kept (installs id work new manifest) failed = record { manifest = λ whole. absurd cc; turn = tt; broken = tt }

  ending_failed_kept : (t : Turn) → m.turn ≡ t → InManifest before (ending_failed m t)
  ending_failed_kept home is = good
  ending_failed_kept (taken turn) is = good
  ending_failed_kept (ran turn false) is = good
  ending_failed_kept (ran turn true) is = given_up_kept turn.plan (subst (BreaksBy m.is_broken) is good.broken)

  pub refused_kept : (call : Call) → InManifest before (refused_to m call)
  refused_kept end_turn = ending_failed_kept m.turn refl
  refused_kept call = good

  pub failing_kept : (call : Call) → InManifest before (failing m call)
  failing_kept write_turn = record {
    manifest = λ whole. absurd cc;
    turn = written_records (oldest m.log.frozen) m.manifest.taken true m.turn good.turn;
    broken = broke_by (written m.turn true);
  }
  failing_kept call = record { manifest = λ whole. absurd cc; turn = good.turn; broken = broke_by m.turn }

  -- ---- calls

  picking_kept : (wish : JobWish) → InManifest before (picking m wish)
  picking_kept ingest = record { manifest = good.manifest; turn = good.turn; broken = good.broken }
  picking_kept (of_run kind name path from len) =
      found_kept (store_named (now m) name) _ (λ store. record { manifest = good.manifest; turn = good.turn; broken = good.broken })

  pub done_kept : AreLayers m.log.horizon (number_of m) m.log.frozen → (call : Call) → refusal m call ≡ None → InManifest before (done m call)
  done_kept are begin none = record { manifest = good.manifest; turn = good.turn; broken = good.broken }
  done_kept are (write_by outside name change) none = found_kept (store_named (now m) name) _ (λ store. outside_kept (write_to store change))
  done_kept are (write_by (inside order) name change) none =
      found_kept (transaction_of m.timeline order) _ (λ transaction.
      found_kept (store_named (snapshot_of m.timeline transaction) name) _ (λ store.
      same_events (transaction_of m.timeline order) _ (λ t. record { manifest = good.manifest; turn = good.turn; broken = good.broken })))
  done_kept are (get actor name key) none = good
  done_kept are (commit order) none = commit_call order (transaction_of m.timeline order) refl
  done_kept are (abort order) none =
      same_events (transaction_of m.timeline order) _ (λ t. record { manifest = good.manifest; turn = good.turn; broken = good.broken })
  done_kept are list_stores none = good
  done_kept are (tree name) none = good
  done_kept are info none = good
  done_kept are take_place none = record { manifest = good.manifest; turn = good.turn; broken = good.broken }
  done_kept are give_place none = record { manifest = good.manifest; turn = good.turn; broken = good.broken }
  done_kept are (pick wish) none = picking_kept wish
  done_kept are (build id) none =
      found_kept (job_of m.jobs id) (building m) (λ job. record { manifest = good.manifest; turn = good.turn; broken = good.broken })
  done_kept are (drop_job id) none = record { manifest = good.manifest; turn = good.turn; broken = good.broken }
  done_kept are next_job none = good
  done_kept are (take wish) none = taking_kept are wish none
  done_kept are (take_install id) none = taking_install_kept id none
  done_kept are write_turn none = record {
    manifest = λ whole. ap (λ (l : List ℕ). m.manifest.taken ++ l) (written_due m.turn false) ∙ good.manifest whole;
    turn = written_records (oldest m.log.frozen) m.manifest.taken false m.turn good.turn;
    broken = written_breaks m.is_broken m.turn good.broken;
  }
  done_kept are end_turn none = ending_kept are m.turn refl none
  done_kept are reopen none = good
