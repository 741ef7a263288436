-- The log keeps the commits.
use Rattle.std.specs.List.{AllByRecursion}
use Rattle.std.proofs.Common.{◌≡◌, ℕ, ◌+◌, ◌<◌, ◌≤◌, ◌==◌, true, false, cond, List, [], ◌∷◌, ◌++◌, length, Option, Some, None, refl, sym, ◌∙◌, ap, subst, arith, append_assoc, length-append}
use Rattle.hse_rows.specs.declared.write.Write.{Write}
use Rattle.hse_rows.specs.writes.NormalForm.{normal_form}
use Rattle.hse_rows.specs.machine.Rising.{rise-below, rise-from, rise-further, rise-push}
use Rattle.hse_rows.specs.states.State.{State, store_named}
use Rattle.hse_rows.specs.states.History.{Event, commits, creates, drops, last_number}
use Rattle.hse_rows.specs.transactions.Transaction.{Transaction}
use Rattle.hse_rows.specs.transactions.Moves as move
use Rattle.hse_rows.specs.transactions.Timeline.{Timeline, transaction_of, snapshot_of, for_some, committing}
use Rattle.hse_rows.specs.machine.Log.{LogState, Frozen, Numbered, logged}
use Rattle.hse_rows.specs.rows.Job.{JobWish, ingest, of_run, Work, ingesting, on_run, job_of}
use Rattle.hse_rows.specs.machine.Turn.{TurnWish, sync, freeze, create, drop, Plan, settles, enters, removes, installs, Turn, home, taken, ran}
use Rattle.hse_rows.specs.machine.Calls.{outside, inside, Call, begin, write_by, get, commit, abort, list_stores, tree, info, take_place, give_place, pick, build, drop_job, next_job, take, take_install, write_turn, end_turn, reopen}
use Rattle.hse_rows.specs.machine.Core.{Core, now, number_of, oldest, write_to, with_move}
use Rattle.hse_rows.specs.machine.CoreDone.{done, refused_to, log_with, frozen_log, taking, without_oldest, oldest_gone, log_after, picking, building, planned, ending, ending_failed, given_up}
use Rattle.hse_rows.specs.machine.Recorded.{commits_in, CommitsUpTo, CommitsBetween, last_frozen, AreLayers, frozen_commits, commits_of, Records}
use Rattle.hse_rows.proofs.RecordLemmas.{commits_push}

pub none_added : {A : Type 0} (xs : List A) → xs ++ [] ≡ xs
none_added [] = refl
none_added {A = A} (x ∷ xs) = ap (λ (l : List A). x ∷ l) (none_added xs)

-- ---- numbers

further : (low high : ℕ) (these : List Numbered) → low ≤ high → CommitsUpTo low these → CommitsUpTo high these
further low high [] more up_to = tt
further low high (first ∷ rest) more up_to =
    let here : first.number ≤ low = up_to.0 in
    let there : first.number ≤ high = omega (arith, here, more) in
    (there, further low high rest more up_to.1)

joined : (number : ℕ) (ones others : List Numbered) → CommitsUpTo number ones → CommitsUpTo number others → CommitsUpTo number (ones ++ others)
joined number [] others first second = second
joined number (one ∷ ones) others first second = (first.0, joined number ones others first.1 second)

higher_layers : (horizon low high : ℕ) (layers : List Frozen) → low ≤ high → AreLayers horizon low layers → AreLayers horizon high layers
higher_layers horizon low high [] more are =
    let below : horizon ≤ low = are in
    omega (arith, below, more)
higher_layers horizon low high (layer ∷ layers) more are =
    let below : layer.last ≤ low = are.0 in
    let there : layer.last ≤ high = omega (arith, below, more) in
    (there, are.1, are.2)

-- ---- numbers above

abbrev AreAbove : ℕ → List Numbered → Type 0
AreAbove number these = AllByRecursion (λ commit. number < commit.number) these

between_up_to : (low high : ℕ) (these : List Numbered) → CommitsBetween low high these → CommitsUpTo high these
between_up_to low high these between = up_to these (rise-below (λ (commit : Numbered). commit.number) (low + 1) (high + 1) these between)
  where
    up_to : (ones : List Numbered) → AllByRecursion (λ commit. commit.number < high + 1) ones → CommitsUpTo high ones
    up_to [] are = tt
    up_to (one ∷ ones) are =
        let here : one.number < high + 1 = are.0 in
        let there : one.number ≤ high = omega (arith, here) in
        (there, up_to ones are.1)

between_above : (lower low high : ℕ) (these : List Numbered) → lower ≤ low → CommitsBetween low high these → AreAbove lower these
between_above lower low high these less between = above these (rise-from (λ (commit : Numbered). commit.number) (low + 1) (high + 1) these between)
  where
    above : (ones : List Numbered) → AllByRecursion (λ commit. low + 1 ≤ commit.number) ones → AreAbove lower ones
    above [] are = tt
    above (one ∷ ones) are =
        let here : low + 1 ≤ one.number = are.0 in
        let there : lower < one.number = omega (arith, here, less) in
        (there, above ones are.1)

between_further : (low high higher : ℕ) (these : List Numbered) → high ≤ higher → CommitsBetween low high these → CommitsBetween low higher these
between_further low high higher these more between =
    let next : high + 1 ≤ higher + 1 = omega (arith, more) in
    rise-further (λ (commit : Numbered). commit.number) (low + 1) (high + 1) (higher + 1) these next between

joined_above : (number : ℕ) (ones others : List Numbered) → AreAbove number ones → AreAbove number others → AreAbove number (ones ++ others)
joined_above number [] others first second = second
joined_above number (one ∷ ones) others first second = (first.0, joined_above number ones others first.1 second)

-- the horizon is not above the last number
pub horizon_below : (horizon last : ℕ) (layers : List Frozen) → AreLayers horizon last layers → horizon ≤ last
horizon_below horizon last [] are = are
horizon_below horizon last (layer ∷ layers) are =
    let rest : horizon ≤ layer.last = horizon_below horizon layer.last layers are.2 in
    let here : layer.last ≤ last = are.0 in
    omega (arith, rest, here)

horizon_below_frozen : (horizon last : ℕ) (layers : List Frozen) → AreLayers horizon last layers → horizon ≤ last_frozen horizon layers
horizon_below_frozen horizon last [] are = omega arith
horizon_below_frozen horizon last (layer ∷ layers) are = horizon_below horizon layer.last layers are.2

frozen_above : (horizon last : ℕ) (layers : List Frozen) → AreLayers horizon last layers → AreAbove horizon (frozen_commits layers)
frozen_above horizon last [] are = tt
frozen_above horizon last (layer ∷ layers) are =
    joined_above horizon (frozen_commits layers) layer.commits (frozen_above horizon layer.last layers are.2)
    (between_above horizon (last_frozen horizon layers) layer.last layer.commits (horizon_below_frozen horizon layer.last layers are.2) are.1)

pub recorded : (before : List Numbered) (log : LogState) (base : State) (events : List Event) (gone : List Numbered)
    → gone ++ commits_of log ≡ before ++ commits_in (base.number + 1) events → CommitsUpTo log.horizon gone
    → AreLayers log.horizon (last_number base events) log.frozen
    → CommitsBetween (last_frozen log.horizon log.frozen) (last_number base events) log.active → Records before log base events
recorded before log base events gone all below layers active = record {
  gone = gone;
  all = all;
  below = below;
  above =
      joined_above log.horizon (frozen_commits log.frozen) log.active (frozen_above log.horizon (last_number base events) log.frozen layers)
      (between_above log.horizon (last_frozen log.horizon log.frozen) (last_number base events) log.active
      (horizon_below_frozen log.horizon (last_number base events) log.frozen layers) active);
  layers = layers;
  active = active;
}

-- ---- one event more

module _ (before : List Numbered) (log : LogState) (base : State) (events : List Event) (good : Records before log base events) where
  next_number : (event : Event) → last_number base (events ++ event ∷ []) ≡ last_number base events + 1
  next_number event = omega (arith, length-append events (event ∷ []))

  commit_recorded : (writes : List Write) → Records before (logged log (last_number base events + 1) writes) base (events ++ commits writes ∷ [])
  commit_recorded writes =
      let one : Numbered = record { number = last_number base events + 1; writes = writes } in
      let next = next_number (commits writes) in
      let more : last_number base events ≤ last_number base (events ++ commits writes ∷ []) = omega (arith, next) in
      let its : last_number base events + 1 ≤ last_number base events + 1 = omega arith in
      let less : last_number base events + 1 < last_number base (events ++ commits writes ∷ []) + 1 = omega (arith, next) in
      let place : base.number + 1 + length events ≡ last_number base events + 1 = omega arith in
      recorded before (logged log (last_number base events + 1) writes) base (events ++ commits writes ∷ []) good.gone
      (ap (λ (l : List Numbered). good.gone ++ l) (sym (append_assoc (frozen_commits log.frozen) log.active (one ∷ [])))
      ∙ sym (append_assoc good.gone (commits_of log) (one ∷ []))
      ∙ ap (λ (l : List Numbered). l ++ one ∷ []) good.all
      ∙ append_assoc before (commits_in (base.number + 1) events) (one ∷ [])
      ∙ ap (λ (n : ℕ). before ++ (commits_in (base.number + 1) events ++ record { number = n; writes = writes } ∷ [])) (sym place)
      ∙ ap (λ (l : List Numbered). before ++ l) (sym (commits_push (base.number + 1) events (commits writes))))
      good.below (higher_layers log.horizon _ _ log.frozen more good.layers)
      (rise-push (λ (commit : Numbered). commit.number) (last_frozen log.horizon log.frozen + 1) (last_number base events + 1)
      (last_number base (events ++ commits writes ∷ []) + 1) log.active one good.active its less)

  other_recorded : (event : Event) → commits_in (base.number + 1 + length events) (event ∷ []) ≡ [] → Records before log base (events ++ event ∷ [])
  other_recorded event none =
      let next = next_number event in
      let more : last_number base events ≤ last_number base (events ++ event ∷ []) = omega (arith, next) in
      recorded before log base (events ++ event ∷ []) good.gone
      (good.all
      ∙ ap (λ (l : List Numbered). before ++ l)
      (sym (none_added (commits_in (base.number + 1) events))
      ∙ ap (λ (l : List Numbered). commits_in (base.number + 1) events ++ l) (sym none)
      ∙ sym (commits_push (base.number + 1) events event)))
      good.below (higher_layers log.horizon _ _ log.frozen more good.layers)
      (between_further (last_frozen log.horizon log.frozen) _ _ log.active more good.active)

  frozen_recorded : Records before (frozen_log log (last_number base events)) base events
  frozen_recorded =
      elim (length log.active == 0)
      as (λ b. Records before
      (cond b log (record log { frozen = record { last = last_number base events; commits = log.active } ∷ log.frozen; active = [] })) base events) [
        | true ↦ good
        | false ↦
            let self : last_number base events ≤ last_number base events = omega arith in
            let next : last_number base events + 1 ≤ last_number base events + 1 = omega arith in
            recorded before (record log { frozen = record { last = last_number base events; commits = log.active } ∷ log.frozen; active = [] }) base events good.gone
            (ap (λ (l : List Numbered). good.gone ++ l) (none_added (frozen_commits log.frozen ++ log.active)) ∙ good.all)
            good.below (self, good.active, good.layers) next
      ]

-- ---- the oldest layer leaves

pub record Leaves (horizon last : ℕ) (layers : List Frozen) (layer : Frozen) : Type 0 where
  split : frozen_commits layers ≡ layer.commits ++ frozen_commits (without_oldest layers)
  up_to : CommitsUpTo layer.last layer.commits
  pub above : horizon ≤ layer.last
  rest : AreLayers layer.last last (without_oldest layers)
  newest : last_frozen layer.last (without_oldest layers) ≡ last_frozen horizon layers

pub leaves : (horizon last : ℕ) (layers : List Frozen) (layer : Frozen) → oldest layers ≡ Some layer → AreLayers horizon last layers → Leaves horizon last layers layer
leaves horizon last [] layer is are = absurd cc
leaves horizon last (first ∷ []) layer is are =
    let same : first ≡ layer = cc in
    subst (Leaves horizon last (first ∷ [])) same (record {
      split = sym (none_added first.commits);
      up_to = between_up_to horizon first.last first.commits are.1;
      above = are.2;
      rest = are.0;
      newest = refl;
    })
leaves horizon last (first ∷ next ∷ layers) layer is are =
    let there : Leaves horizon first.last (next ∷ layers) layer = leaves horizon first.last (next ∷ layers) layer is are.2 in
    record {
      split =
          ap (λ (l : List Numbered). l ++ first.commits) there.split
          ∙ append_assoc layer.commits (frozen_commits (without_oldest (next ∷ layers))) first.commits;
      up_to = there.up_to;
      above = there.above;
      rest = (are.0, subst (λ (n : ℕ). CommitsBetween n first.last first.commits) (sym there.newest) are.1, there.rest);
      newest = refl;
    }

gone_recorded : (before : List Numbered) (log : LogState) (base : State) (events : List Event) (layer : Option Frozen) → oldest log.frozen ≡ layer
    → Records before log base events → Records before (oldest_gone log layer) base events
gone_recorded before log base events None is good = good
gone_recorded before log base events (Some layer) is good =
    let there : Leaves log.horizon (last_number base events) log.frozen layer =
    leaves log.horizon (last_number base events) log.frozen layer is good.layers in
    recorded before (oldest_gone log (Some layer)) base events (good.gone ++ layer.commits)
    (append_assoc good.gone layer.commits (frozen_commits (without_oldest log.frozen) ++ log.active)
    ∙ ap (λ (l : List Numbered). good.gone ++ l)
    (sym (append_assoc layer.commits (frozen_commits (without_oldest log.frozen)) log.active)
    ∙ ap (λ (l : List Numbered). l ++ log.active) (sym there.split))
    ∙ good.all)
    (joined layer.last good.gone layer.commits (further log.horizon layer.last good.gone there.above good.below) there.up_to) there.rest
    (subst (λ (n : ℕ). CommitsBetween n (last_number base events) log.active) (sym there.newest) good.active)

log_after_recorded : (before : List Numbered) (log : LogState) (base : State) (events : List Event) (work : Work) → Records before log base events
    → Records before (log_after log work) base events
log_after_recorded before log base events ingesting good = gone_recorded before log base events (oldest log.frozen) refl good
log_after_recorded before log base events (on_run run) good = good

-- ---- calls

abbrev pub InLog : List Numbered → Core → Type 0
InLog before m = Records before m.log m.timeline.base m.timeline.history

module _ (before : List Numbered) (m : Core) (good : InLog before m) where
  looked_up : {X : Type 0} (it : Option X) (leads_to : X → Core) → ((x : X) → InLog before (leads_to x)) → InLog before (for_some it m leads_to)
  looked_up None leads_to each = good
  looked_up (Some x) leads_to each = each x

  -- other transactions
  same_events : (it : Option Transaction) (leads_to : Transaction → Timeline) → ((t : Transaction) → Records before m.log (leads_to t).base (leads_to t).history)
      → InLog before (record m { timeline = for_some it m.timeline leads_to })
  same_events None leads_to each = good
  same_events (Some t) leads_to each = each t

  committed_recorded : (order : ℕ) (transaction : Transaction) (writes : List Write) → transaction.writes ≡ writes
      → InLog before (record m { timeline = committing m.timeline order transaction writes; log = log_with m writes })
  committed_recorded order transaction [] is = good
  committed_recorded order transaction (write ∷ writes) is =
      subst
      (λ (ws : List Write). Records before (logged m.log (number_of m + 1) (normal_form (write ∷ writes))) m.timeline.base
      (m.timeline.history ++ commits (normal_form ws) ∷ [])) (sym is)
      (commit_recorded before m.log m.timeline.base m.timeline.history good (normal_form (write ∷ writes)))

  commit_call : (order : ℕ) (it : Option Transaction) → transaction_of m.timeline order ≡ it
      → InLog before (for_some it m (λ transaction. record (with_move m (move.commit order)) { log = log_with m transaction.writes }))
  commit_call order None is = good
  commit_call order (Some transaction) is =
      subst
      (λ (t : Option Transaction). InLog before
      (record m { timeline = for_some t m.timeline (λ x. committing m.timeline order x x.writes); log = log_with m transaction.writes }))
      (sym is) (committed_recorded order transaction transaction.writes refl)

  taking_recorded : (wish : TurnWish) → InLog before (taking m wish)
  taking_recorded sync = good
  taking_recorded freeze = frozen_recorded before m.log m.timeline.base m.timeline.history good
  taking_recorded (create name mode prefix) = other_recorded before m.log m.timeline.base m.timeline.history good (creates name mode prefix) refl
  taking_recorded (drop name) =
      looked_up (store_named (now m) name) _ (λ store. other_recorded before m.log m.timeline.base m.timeline.history good (drops store.id) refl)

  picking_recorded : (wish : JobWish) → InLog before (picking m wish)
  picking_recorded ingest = good
  picking_recorded (of_run kind name path from len) = looked_up (store_named (now m) name) _ (λ store. good)

  planned_recorded : (number : ℕ) (plan : Plan) → InLog before (planned m number plan)
  planned_recorded number settles = good
  planned_recorded number (enters manifest) = good
  planned_recorded number (removes id manifest) = good
  planned_recorded number (installs id work new manifest) = log_after_recorded before m.log m.timeline.base m.timeline.history work good

  ending_recorded : (turn : Turn) → InLog before (ending m turn)
  ending_recorded home = good
  ending_recorded (taken turn) = good
  ending_recorded (ran turn has_failed) = planned_recorded turn.number turn.plan

  given_up_recorded : (plan : Plan) → InLog before (given_up m plan)
  given_up_recorded settles = good
  given_up_recorded (enters manifest) = good
  given_up_recorded (removes id manifest) = good
  given_up_recorded (installs id work new manifest) = good

  ending_failed_recorded : (turn : Turn) → InLog before (ending_failed m turn)
  ending_failed_recorded home = good
  ending_failed_recorded (taken turn) = good
  ending_failed_recorded (ran turn false) = good
  ending_failed_recorded (ran turn true) = given_up_recorded turn.plan

  pub refused_recorded : (call : Call) → InLog before (refused_to m call)
  refused_recorded end_turn = ending_failed_recorded m.turn
  refused_recorded call = good

  pub done_recorded : (call : Call) → InLog before (done m call)
  done_recorded begin = good
  done_recorded (write_by outside name change) =
      looked_up (store_named (now m) name) _ (λ store. commit_recorded before m.log m.timeline.base m.timeline.history good (normal_form (write_to store change ∷ [])))
  done_recorded (write_by (inside order) name change) =
      looked_up (transaction_of m.timeline order) _ (λ transaction.
      looked_up (store_named (snapshot_of m.timeline transaction) name) _ (λ store. same_events (transaction_of m.timeline order) _ (λ t. good)))
  done_recorded (get actor name key) = good
  done_recorded (commit order) = commit_call order (transaction_of m.timeline order) refl
  done_recorded (abort order) = same_events (transaction_of m.timeline order) _ (λ t. good)
  done_recorded list_stores = good
  done_recorded (tree name) = good
  done_recorded info = good
  done_recorded take_place = good
  done_recorded give_place = good
  done_recorded (pick wish) = picking_recorded wish
  done_recorded (build id) = looked_up (job_of m.jobs id) (building m) (λ job. good)
  done_recorded (drop_job id) = good
  done_recorded next_job = good
  done_recorded (take wish) = taking_recorded wish
  done_recorded (take_install id) = looked_up (job_of m.jobs id) _ (λ job. good)
  done_recorded write_turn = good
  done_recorded end_turn = ending_recorded m.turn
  done_recorded reopen = good
