-- Steps keep states sound, and transactions of others.
use Rattle.std.proofs.Common.{◌≡◌, ◌⊎◌, inl, inr, refl, sym, ap, ◌∙◌, subst, arith, ℕ, zero, suc, ◌+◌, ◌≤◌, Bool, true, List, [], ◌∷◌, ◌++◌, set, slice_get, Option, Some, None}
use Rattle.std.specs.FinMap as fin_map
use Rattle.hse_rows.specs.declared.row.Row.{Row}
use Rattle.hse_rows.specs.declared.row_set.RowSet.{Ghosts}
use Rattle.hse_rows.specs.declared.write.Write.{Write}
use Rattle.hse_rows.specs.states.State.{State, IsState, store_named}
use Rattle.hse_rows.specs.states.History.{Event}
use Rattle.hse_rows.specs.laws.CoreLaws.{LoadsState, LoadsWithinLimits, LivesStand, StepsKeepStanding, StepsKeepLimits, StepsMoveTimelines, OthersKeepTimelines, ChangesTimeline}
use Rattle.hse_rows.specs.transactions.Transaction.{Transaction, staged, ended, committed, aborted, read_of}
use Rattle.hse_rows.specs.transactions.Moves.{Move}
use Rattle.hse_rows.specs.transactions.Moves as move
use Rattle.hse_rows.specs.transactions.Timeline.{Timeline, Goes, stays, moves, opens, committing, for_some, moved, number_of, snapshot_of, transaction_of, with_transaction}
use Rattle.hse_rows.specs.rows.Job.{JobWish, job_of}
use Rattle.hse_rows.specs.rows.Schedule.{next_wish}
use Rattle.hse_rows.specs.machine.Turn.{Turn, TurnWish, sync, freeze, create, drop, home, taken, ran, written}
use Rattle.hse_rows.specs.machine.Sizes.{Sizes, AreSizes}
use Rattle.hse_rows.specs.machine.Replies.{Refusal, Answer, accepted, none, refused, no_memory, device_fault}
use Rattle.hse_rows.specs.machine.Calls.{outside, inside, Call, begin, write_by, get, commit, abort, tree, build, next_job, take, write_turn, end_turn, reopen}
use Rattle.hse_rows.specs.machine.Core.{Core, Stored, life, formatted, now, write_to}
use Rattle.hse_rows.specs.machine.Core as core
use Rattle.hse_rows.specs.machine.CoreRefusal.{refusal}
use Rattle.hse_rows.specs.machine.CoreReply.{reply, end_reply, found_value, next_reply, value_in}
use Rattle.hse_rows.specs.machine.CoreDone.{done, refused_to, failing, taking}
use Rattle.hse_rows.specs.machine.CoreStep.{Found, loads, breaks_off, has_version, Step}
use Rattle.hse_rows.specs.machine.Limits.{IsWithinLimits, TurnFits}
use Rattle.transactions.specs.Txns.{TxnKept}
use Rattle.transactions.specs.Stands.{StandsFor}
use Rattle.engine_state.specs.Keeping.{ChangesTransaction, LoadsSound}
use Rattle.engine_state.specs.Serves.{IsSound, IsTxnOf}
use Rattle.engine_state.proofs.TxnLemmas.{stands-grow}

-- ---- a call that nothing refuses is a step

-- an answer that is no refusal and no want
abbrev IsReply : Answer ℕ → Type 0
IsReply (refused reason) = ⊥
IsReply no_memory = ⊥
IsReply device_fault = ⊥
IsReply answer = Unit {0}

found-reply : {X : Type 0} (looked_up : Option X) (otherwise : Answer ℕ) (of_it : X → Answer ℕ) → IsReply otherwise → ((x : X) → IsReply (of_it x))
    → IsReply (for_some looked_up otherwise of_it)
found-reply None otherwise of_it plain each = plain
found-reply (Some x) otherwise of_it plain each = each x

value-reply : (held : Option (List ℕ)) → IsReply (found_value held)
value-reply None = tt
value-reply (Some bytes) = tt

in-reply : (state : State) (name key : List ℕ) → IsReply (value_in state name key)
in-reply state name key = found-reply (store_named state name) none _ tt (λ store. value-reply (fin_map.get store.contents key))

next-is-reply : (wish : Option JobWish) → IsReply (next_reply wish)
next-is-reply None = tt
next-is-reply (Some wish) = tt

end-is-reply : (out : Turn) → IsReply (end_reply out)
end-is-reply home = tt
end-is-reply (taken turn) = tt
end-is-reply (ran turn has_failed) = tt

is-reply : (m : Core) (call : Call) → IsReply (reply m call)
is-reply m (get outside name key) = in-reply (now m) name key
is-reply m (get (inside order) name key) =
    found-reply (transaction_of m.timeline order) none _ tt (λ transaction. in-reply (read_of m.timeline.base m.timeline.history transaction) name key)
is-reply m (commit order) = found-reply (transaction_of m.timeline order) accepted _ tt (λ transaction. tt)
is-reply m (tree name) = found-reply (store_named (now m) name) accepted _ tt (λ store. tt)
is-reply m (build id) = found-reply (job_of m.jobs id) accepted _ tt (λ job. tt)
is-reply m next_job = next-is-reply (next_wish m)
is-reply m end_turn = end-is-reply m.turn
is-reply m (write_by outside name change) = tt
is-reply m (write_by (inside order) name change) = tt
is-reply m call = tt

-- a call that reopens nothing
abbrev IsOther : Call → Type 0
IsOther reopen = ⊥
IsOther call = Unit {0}

module _ (found : Found) (m : Core) where
  step-by : (call : Call) (answer : Answer ℕ) → IsOther call → IsReply answer → refusal m call ≡ None → answer ≡ reply m call
      → Step found m call answer (done m call)
  step-by reopen answer other plain passed is = absurd other
  step-by call (refused reason) other plain passed is = absurd plain
  step-by call no_memory other plain passed is = absurd plain
  step-by call device_fault other plain passed is = absurd plain
  step-by call answer other plain passed is = (passed, is, refl)

  pub step-done : (call : Call) → IsOther call → refusal m call ≡ None → Step found m call (reply m call) (done m call)
  step-done call other passed = step-by call (reply m call) other (is-reply m call) passed refl

  step-refused : (call : Call) (reason : Refusal ℕ) → IsOther call → refusal m call ≡ Some reason
      → Step found m call (refused reason) (refused_to m call)
  step-refused reopen reason other is = absurd other
  step-refused call reason other is = (is, refl)

-- ---- sound states

loads-limits : (found : Found) → LoadsSound found → LoadsWithinLimits found
loads-limits (loads stored) sound = sound.limits
loads-limits (breaks_off part place) sound = tt
loads-limits (has_version version) sound = tt

loads-state : (found : Found) → LoadsSound found → LoadsState found
loads-state (loads stored) sound = sound.stands.base
loads-state (breaks_off part place) sound = tt
loads-state (has_version version) sound = tt

pub life_sound : LivesStand → (stored : Stored) → IsWithinLimits (life stored) → IsState stored.base → IsSound (life stored)
life_sound stand stored limits state = record { limits = limits; stands = stand stored state }

new_fits : (sizes : Sizes) (power : ℕ) → AreSizes sizes power → IsWithinLimits (life (formatted sizes))
new_fits sizes power are =
    let half : 65536 ≤ sizes.half_size = are.half.least in
    record {
      history = record { numbers = omega arith; stores = omega arith };
      log = record { room = omega arith; layers = omega arith; frozen = tt; segments = omega arith };
      manifest = record { used = omega (arith, half); sequence = omega arith };
      slots = omega arith;
      since_base = omega arith;
      until_now = omega arith;
      transactions = record { live = omega arith; begins = omega arith };
      jobs = record { live = omega arith; ids = omega arith; claims = tt };
      cursors = omega arith;
      turn = tt;
    }

pub new_sound : LivesStand → (sizes : Sizes) (power : ℕ) → AreSizes sizes power → IsSound (life (formatted sizes))
new_sound stand sizes power are =
    life_sound stand (formatted sizes) (new_fits sizes power are) (record { rising = tt; named = tt })

module _ (keep : StepsKeepLimits) (stand : StepsKeepStanding) where
  pub step_sound : (found : Found) (old new : Core) (call : Call) (answer : Answer ℕ) → LoadsSound found → IsSound old → Step found old call answer new
      → IsSound new
  step_sound found old new call answer loaded sound step = record {
    limits = keep found old new call answer sound.limits (loads-limits found loaded) step;
    stands = stand found old new call answer (loads-state found loaded) sound.stands step;
  }

  pub done_sound : (m : Core) (call : Call) → IsSound m → refusal m call ≡ None → IsSound (done m call)
  done_sound m reopen sound passed = sound
  done_sound m call sound passed = step_sound (has_version 0) m (done m call) call (reply m call) tt sound (step-done (has_version 0) m call tt passed)

  pub refused_sound : (m : Core) (call : Call) (reason : Refusal ℕ) → IsSound m → refusal m call ≡ Some reason → IsSound (refused_to m call)
  refused_sound m reopen reason sound is = sound
  refused_sound m call reason sound is =
      step_sound (has_version 0) m (refused_to m call) call (refused reason) tt sound (step-refused (has_version 0) m call reason tt is)

written-fits : (sizes : Sizes) (safe number : ℕ) (turn : Turn) (has_failed : Bool) → TurnFits sizes safe number turn
    → TurnFits sizes safe number (written turn has_failed)
written-fits sizes safe number home has_failed fits = tt
written-fits sizes safe number (taken turn) has_failed fits = fits
written-fits sizes safe number (ran turn failed) has_failed fits = fits

-- a broken engine, with a turn
broken-sound : (m : Core) (turn : Turn) → IsSound m → TurnFits m.sizes m.safe (core.number_of m) turn
    → IsSound (record m { turn = turn; is_broken = true })
broken-sound m turn sound fits = record {
  limits = record {
    history = sound.limits.history;
    log = sound.limits.log;
    manifest = sound.limits.manifest;
    slots = sound.limits.slots;
    since_base = sound.limits.since_base;
    until_now = sound.limits.until_now;
    transactions = sound.limits.transactions;
    jobs = sound.limits.jobs;
    cursors = sound.limits.cursors;
    turn = fits;
  };
  stands = sound.stands;
}

pub failing_sound : (m : Core) (call : Call) → IsSound m → IsSound (failing m call)
failing_sound m write_turn sound =
    broken-sound m (written m.turn true) sound (written-fits m.sizes m.safe (core.number_of m) m.turn true sound.limits.turn)
failing_sound m call sound = broken-sound m m.turn sound sound.limits.turn

-- ---- what moves leave of a transaction

some-is : {X Y : Type 0} (P : Y → Type 0) (looked_up : Option X) (otherwise : Y) (of_it : X → Y) → P otherwise → ((x : X) → P (of_it x))
    → P (for_some looked_up otherwise of_it)
some-is P None otherwise of_it plain each = plain
some-is P (Some x) otherwise of_it plain each = each x

get-push : (xs : List Transaction) (i : ℕ) (more at : Transaction) → slice_get xs i ≡ Some at → slice_get (xs ++ more ∷ []) i ≡ Some at
get-push [] i more at is = absurd (let e : None ≡ Some at = is in cc)
get-push (x ∷ xs) zero more at is = is
get-push (x ∷ xs) (suc i) more at is = get-push xs i more at is

get-other : (xs : List Transaction) (other i : ℕ) (new : Transaction) → (other ≡ i → ⊥) → slice_get (set xs other new) i ≡ slice_get xs i
get-other [] other i new apart = refl
get-other (x ∷ xs) zero zero new apart = absurd (apart refl)
get-other (x ∷ xs) zero (suc i) new apart = refl
get-other (x ∷ xs) (suc other) zero new apart = refl
get-other (x ∷ xs) (suc other) (suc i) new apart = get-other xs other i new (λ is. apart (ap suc is))

-- the transaction of this begin order is this one
abbrev HasAt : ℕ → Transaction → Timeline → Type 0
HasAt order transaction m = transaction_of m order ≡ Some transaction

module _ (m : Timeline) (order : ℕ) (transaction : Transaction) (at : HasAt order transaction m) where
  other-has : (other : ℕ) (new : Transaction) → (other ≡ order → ⊥) → HasAt order transaction (with_transaction m other new)
  other-has other new apart = get-other m.begun other order new apart ∙ at

  committing-has : (other : ℕ) (one : Transaction) (writes : List Write) → (other ≡ order → ⊥)
      → HasAt order transaction (committing m other one writes)
  committing-has other one [] apart = other-has other (ended one (committed one.snapshot)) apart
  committing-has other one (write ∷ writes) apart = other-has other (ended one (committed (number_of m + 1))) apart

  write-has : (other : ℕ) (write : Write) → (other ≡ order → ⊥) → HasAt order transaction (moved m (move.write_in other write))
  write-has other write apart =
      some-is (HasAt order transaction) (transaction_of m other) m _ at (λ one. other-has other (staged one write) apart)

  commit-has : (other : ℕ) → (other ≡ order → ⊥) → HasAt order transaction (moved m (move.commit other))
  commit-has other apart =
      some-is (HasAt order transaction) (transaction_of m other) m _ at (λ one. committing-has other one one.writes apart)

  abort-has : (other : ℕ) → (other ≡ order → ⊥) → HasAt order transaction (moved m (move.abort other))
  abort-has other apart =
      some-is (HasAt order transaction) (transaction_of m other) m _ at (λ one. other-has other (ended one aborted) apart)

-- ---- what calls leave of it

module _ (m : Core) (order : ℕ) (transaction : Transaction) (at : HasAt order transaction m.timeline) where
  abbrev Holds : Core → Type 0
  Holds m = HasAt order transaction m.timeline

  take-has : (wish : TurnWish) → Holds (taking m wish)
  take-has sync = at
  take-has freeze = at
  take-has (create name mode prefix) = at
  take-has (drop name) = some-is Holds (store_named (now m) name) m _ at (λ store. at)

  done-has : (call : Call) → ChangesTimeline call → (ChangesTransaction order call → ⊥) → Holds (done m call)
  done-has begin changes apart = get-push m.timeline.begun order _ transaction at
  done-has (write_by outside name change) changes apart = some-is Holds (store_named (now m) name) m _ at (λ store. at)
  done-has (write_by (inside other) name change) changes apart =
      some-is Holds (transaction_of m.timeline other) m _ at (λ one.
      some-is Holds (store_named (snapshot_of m.timeline one) name) m _ at (λ store.
      write-has m.timeline order transaction at other (write_to store change) apart))
  done-has (commit other) changes apart =
      some-is Holds (transaction_of m.timeline other) m _ at (λ one. commit-has m.timeline order transaction at other apart)
  done-has (abort other) changes apart = abort-has m.timeline order transaction at other apart
  done-has (take wish) changes apart = take-has wish
  done-has reopen changes apart = absurd (apart tt)
  done-has call changes apart = absurd changes

  -- the same over a step of a call that may change the timeline
  step-has : (found : Found) (new : Core) (call : Call) (answer : Answer ℕ) → ChangesTimeline call → (ChangesTransaction order call → ⊥)
      → Step found m call answer new → Holds new
  step-has found new call no_memory changes apart step = subst Holds (sym step) at
  step-has found new reopen answer changes apart step = absurd (apart tt)
  step-has found new write_turn answer changes apart step = absurd changes
  step-has found new end_turn answer changes apart step = absurd changes
  step-has found new call device_fault changes apart step = absurd step
  step-has found new call (refused reason) changes apart step = subst Holds (sym step.1) at
  step-has found new call answer changes apart step = subst Holds (sym step.2) (done-has call changes apart)

changes-or : (call : Call) → ChangesTimeline call ⊎ (ChangesTimeline call → ⊥)
changes-or begin = inl tt
changes-or (write_by actor name change) = inl tt
changes-or (commit order) = inl tt
changes-or (abort order) = inl tt
changes-or reopen = inl tt
changes-or (take sync) = inr (λ bad. bad)
changes-or (take freeze) = inr (λ bad. bad)
changes-or (take (create name mode prefix)) = inl tt
changes-or (take (drop name)) = inl tt
changes-or call = inr (λ bad. bad)

-- ---- what a transaction stands for

module _ {R : Type 0} (rows : R → List Row) (m : Timeline) (kept : TxnKept R) (transaction : Transaction) (low : transaction.snapshot ≤ number_of m)
    (s : StandsFor rows m.base m.history kept transaction) where
  abbrev StandsIn : Timeline → Type 0
  StandsIn m = StandsFor rows m.base m.history kept transaction

  event-stands : (event : Event) → StandsFor rows m.base (m.history ++ event ∷ []) kept transaction
  event-stands event = stands-grow rows m.base m.history (event ∷ []) kept transaction low s

  committing-stands : (order : ℕ) (one : Transaction) (writes : List Write) → StandsIn (committing m order one writes)
  committing-stands order one [] = s
  committing-stands order one (write ∷ writes) = event-stands _

  moved-stands : (move : Move) → StandsIn (moved m move)
  moved-stands move.begin = s
  moved-stands (move.write_in order write) = some-is StandsIn (transaction_of m order) m _ s (λ one. s)
  moved-stands (move.write_out write) = event-stands _
  moved-stands (move.commit order) = some-is StandsIn (transaction_of m order) m _ s (λ one. committing-stands order one one.writes)
  moved-stands (move.abort order) = some-is StandsIn (transaction_of m order) m _ s (λ one. s)
  moved-stands (move.create name mode prefix_length) = event-stands _
  moved-stands (move.remove id) = event-stands _

module _ {R : Type 0} (g : Ghosts R) where
  goes-stays : (old new : Timeline) (txn : TxnKept R) (transaction : Transaction) → transaction.snapshot ≤ number_of old → Goes old new
      → IsTxnOf g txn old transaction → transaction_of new txn.id ≡ Some transaction → IsTxnOf g txn new transaction
  goes-stays old new txn transaction low stays of at = of
  goes-stays old new txn transaction low (moves move allowed) of at =
      record { at = at; stands = moved-stands g.rows old txn transaction low of.stands move }
  goes-stays old new txn transaction low (opens base) of at = absurd (let e : None ≡ Some transaction = at in cc)

  module _ (move : StepsMoveTimelines) where
    pub txn_stays : (found : Found) (old new : Core) (call : Call) (answer : Answer ℕ) (txn : TxnKept R) (transaction : Transaction)
        → IsSound old → Step found old call answer new → IsTxnOf g txn old.timeline transaction
        → transaction_of new.timeline txn.id ≡ Some transaction → IsTxnOf g txn new.timeline transaction
    txn_stays found old new call answer txn transaction sound step of at =
        goes-stays old.timeline new.timeline txn transaction (sound.stands.isolated.each txn.id transaction of.at).until_now
        (move found old new call answer step) of at

    module _ (others : OthersKeepTimelines) where
      pub others_keep : (found : Found) (old new : Core) (call : Call) (answer : Answer ℕ) (txn : TxnKept R) (transaction : Transaction)
          → (ChangesTransaction txn.id call → ⊥) → IsSound old → Step found old call answer new
          → IsTxnOf g txn old.timeline transaction → IsTxnOf g txn new.timeline transaction
      others_keep found old new call answer txn transaction apart sound step of = elim (changes-or call) [
        | inl changes ↦
            txn_stays found old new call answer txn transaction sound step of
            (step-has old txn.id transaction of.at found new call answer changes apart step)
        | inr other ↦
            subst (λ (m : Timeline). IsTxnOf g txn m transaction) (sym (others found old new call answer step other)) of
      ]

      pub calls_keep : (m : Core) (call : Call) (txn : TxnKept R) (transaction : Transaction)
          → (ChangesTransaction txn.id call → ⊥) → IsSound m → refusal m call ≡ None
          → IsTxnOf g txn m.timeline transaction → IsTxnOf g txn (done m call).timeline transaction
      calls_keep m reopen txn transaction apart sound passed of = absurd (apart tt)
      calls_keep m call txn transaction apart sound passed of =
          others_keep (has_version 0) m (done m call) call (reply m call) txn transaction apart sound (step-done (has_version 0) m call tt passed) of
