-- What locks answer is what the machine says.
use Rattle.std.proofs.Common.{◌≡◌, ℕ, ◌+◌, ◌-◌, ◌<◌, ◌≤◌, ◌==◌, ◌&&◌, Bool, true, false, cond, not, List, [], Option, Some, None, Result, Ok, Err, refl, sym, ◌∙◌, ap, arith}
use Rattle.std.specs.List.{slice_get}
use Rattle.std.proofs.Math.Bool.{true≢false}
use Rattle.std.proofs.lemmas.Bool.{eq-eqb, eqb-true}
use Rattle.std.proofs.lemmas.Option.{same_Some}
use Rattle.hse_rows.specs.declared.store.Mode.TheVariants.{Tx}
use Rattle.hse_rows.specs.declared.write.Write.{Write}
use Rattle.hse_rows.specs.writes.Overlap.{overlaps_some}
use Rattle.hse_rows.specs.states.State.{AreRising}
use Rattle.hse_rows.specs.states.History.{Event, commits, creates, drops, events_since}
use Rattle.hse_rows.specs.transactions.Transaction.{Transaction, is_active}
use Rattle.hse_rows.specs.transactions.Conflict.{held, since, holds, holder, first_overlap, conflict_by, conflict_of}
use Rattle.hse_rows.specs.transactions.Timeline.{Timeline, transaction_of, snapshot_of, HasStore, IsActive}
use Rattle.hse_rows.specs.transactions.Isolation.{event_of, IsIsolated}
use Rattle.hse_rows.specs.transactions.Sources.{IsOfTransaction, IsSourced, ConflictsAreOfTransactions}
use Rattle.key_locks.specs.declared.lock_fault.LockFault.{LockFault}
use Rattle.key_locks.specs.declared.lock_fault.LockFault.TheVariants.{Held, Since, NoMemory}
use Rattle.key_locks.specs.declared.locks.KeyLocks.{KeyLocks}
use Rattle.key_locks.specs.Answers.{IsUnheld, IsAnswer}
use Rattle.key_locks.specs.Holders.{IsFirst}
use Rattle.key_locks.specs.Locks.{writes_of, commits_of}
use Rattle.key_locks.specs.Since.{has_commit, IsFirstSince}
use Rattle.key_locks.specs.Standing.{active_writes, written, written_by, StandFor, Tells}
use Rattle.key_locks.specs.laws.Laws.{LocksAnswerTheConflict}
use Rattle.key_locks.proofs.RangeLemmas.{both, and-true}
use Rattle.key_locks.proofs.FirstLemmas.{one_first, first-as, At, first_overlap-is, get-drop, begun_of, Passes, find-is}

module _ (of_transactions : ConflictsAreOfTransactions) (locks : KeyLocks) (m : Timeline) (above : ℕ) (stand : StandFor locks m above)
    (rising : AreRising 0 m.base.number m.base.stores) (isolated : IsIsolated m) (sourced : IsSourced m)
    (order : ℕ) (transaction : Transaction) (is : IsActive m order transaction) (up : above ≤ transaction.snapshot)
    (write : Write) (has_store : HasStore (snapshot_of m transaction) write.store.0 Tx) where
  since_base : m.base.number ≤ transaction.snapshot
  since_base = let base = stand.since_base in omega (arith, base, up)

  -- the commits after the snapshot that something overlaps, by the history and by the locks
  abbrev Happened : ℕ → Type 0
  Happened n = (transaction.snapshot < n) × (overlaps_some write (written_by m n) ≡ true)

  abbrev Logged : ℕ → Type 0
  Logged n = (transaction.snapshot < n) × (has_commit write n (commits_of locks) ≡ true)

  of_one : (n : ℕ) → transaction.snapshot < n → (event : Option Event) → event_of m.base m.history n ≡ event
      → overlaps_some write (written event) ≡ true → IsOfTransaction m n (written event)
  of_one n less None at over = absurd (true≢false (sym over))
  of_one n less (Some (commits writes)) at over = of_transactions m rising sourced transaction write since_base has_store n writes less at over
  of_one n less (Some (creates name mode prefix_length)) at over = absurd (true≢false (sym over))
  of_one n less (Some (drops id)) at over = absurd (true≢false (sym over))

  logged_happened : (n : ℕ) → Logged n → Happened n
  logged_happened n (less, has) = (less, stand.made n write (omega (arith, less, up)) has)

  happened_logged : (n : ℕ) → Happened n → Logged n
  happened_logged n (less, over) =
      (less, stand.logged n write (omega (arith, less, up)) (of_one n less (event_of m.base m.history n) refl over) over)

  abbrev events : List Event
  events = events_since m.base m.history transaction.snapshot

  place_of : (n i : ℕ) → n ≡ transaction.snapshot + 1 + i → slice_get events i ≡ event_of m.base m.history n
  place_of n i same =
      let number : transaction.snapshot - m.base.number + i ≡ n - (m.base.number + 1) = omega (arith, same, since_base) in
      get-drop (transaction.snapshot - m.base.number) m.history i ∙ ap (slice_get m.history) number

  at_happened : (n : ℕ) → At write (transaction.snapshot + 1) events n → Happened n
  at_happened n (i, (same, over)) =
      (omega (arith, same), sym (ap (λ (event : Option Event). overlaps_some write (written event)) (place_of n i same)) ∙ over)

  happened_at : (n : ℕ) → Happened n → At write (transaction.snapshot + 1) events n
  happened_at n (less, over) =
      let same : n ≡ transaction.snapshot + 1 + (n - (transaction.snapshot + 1)) = omega (arith, less) in (
        n - (transaction.snapshot + 1),
        (
          same,
          ap (λ (event : Option Event). overlaps_some write (written event)) (place_of n (n - (transaction.snapshot + 1)) same) ∙ over,
        ),
      )

  commit_is : (first : Option ℕ) → IsFirstSince write transaction.snapshot (commits_of locks) first
      → first_overlap write (transaction.snapshot + 1) events ≡ first
  commit_is first since_is =
      one_first Happened (first_overlap write (transaction.snapshot + 1) events) first
      (first-as (At write (transaction.snapshot + 1) events) Happened at_happened happened_at
      (first_overlap write (transaction.snapshot + 1) events) (first_overlap-is write (transaction.snapshot + 1) events))
      (first-as Logged Happened logged_happened happened_logged first
      (record { least = λ n at. since_is.least n at.0 at.1; found = since_is.found }))

  -- the others that have a write that overlaps, by the locks and by their writes
  abbrev Holding : ℕ → Type 0
  Holding n = (n ≡ order → ⊥) × (overlaps_some write (writes_of locks n) ≡ true)

  own_begun : transaction.begun ≡ order
  own_begun = (isolated.each order transaction is.at).placed

  not-true : (b : Bool) → not b ≡ true → b ≡ false
  not-true true at = absurd (true≢false (sym at))
  not-true false at = refl

  not_one : (a b : ℕ) → (a ≡ b → ⊥) → (c : Bool) → (a == b) ≡ c → not (a == b) ≡ true
  not_one a b apart true at = absurd (apart (eqb-true a b at))
  not_one a b apart false at = ap not at

  passes_holding : (n : ℕ) → Passes (holds transaction write) 0 m.begun n → Holding n
  passes_holding n (i, (same, (other, (at, passes)))) =
      let all = both (is_active other.state && not (other.begun == transaction.begun)) (overlaps_some write other.writes) passes in
      let first = both (is_active other.state) (not (other.begun == transaction.begun)) all.0 in
      let place : i ≡ n = omega (arith, same) in
      let placed : other.begun ≡ i = (isolated.each i other at).placed in (
        λ own. true≢false (sym (eq-eqb other.begun transaction.begun (placed ∙ place ∙ own ∙ sym own_begun))
            ∙ not-true (other.begun == transaction.begun) first.1),
        stand.active n write
            ∙ ap (λ (found : Option Transaction). overlaps_some write (active_writes found)) (ap (slice_get m.begun) (sym place) ∙ at)
            ∙ ap (λ (b : Bool). overlaps_some write (cond b other.writes [])) first.0
            ∙ all.1,
      )

  holding_passes : (n : ℕ) → Holding n → Passes (holds transaction write) 0 m.begun n
  holding_passes n (apart, over) = by (transaction_of m n) refl (sym (stand.active n write) ∙ over)
    where
      at_one : (other : Transaction) → transaction_of m n ≡ Some other → (b : Bool) → is_active other.state ≡ b
          → overlaps_some write (cond b other.writes []) ≡ true → Passes (holds transaction write) 0 m.begun n
      at_one other at true going met =
          let placed : other.begun ≡ n = (isolated.each n other at).placed in (
            n,
            (
              omega arith,
              (
                other,
                (
                  at,
                  and-true (is_active other.state && not (other.begun == transaction.begun)) (overlaps_some write other.writes)
                      (and-true (is_active other.state) (not (other.begun == transaction.begun)) going
                      (not_one other.begun transaction.begun (λ same. apart (sym placed ∙ same ∙ own_begun)) (other.begun == transaction.begun) refl)) met,
                ),
              ),
            ),
          )
      at_one other at false going met = absurd (true≢false (sym met))

      by : (found : Option Transaction) → transaction_of m n ≡ found → overlaps_some write (active_writes found) ≡ true
          → Passes (holds transaction write) 0 m.begun n
      by None at met = absurd (true≢false (sym met))
      by (Some other) at met = at_one other at (is_active other.state) refl met

  holder_is : (first : Option ℕ) → IsFirst Holding first → begun_of (holder transaction write m.begun) ≡ first
  holder_is first held_is =
      one_first Holding (begun_of (holder transaction write m.begun)) first
      (first-as (Passes (holds transaction write) 0 m.begun) Holding passes_holding holding_passes (begun_of (holder transaction write m.begun))
      (find-is (holds transaction write) 0 m.begun (λ i other at. let placed = (isolated.each i other at).placed in omega (arith, placed))))
      held_is

  unheld_is : IsUnheld locks order write → begun_of (holder transaction write m.begun) ≡ None
  unheld_is unheld = holder_is None (record { least = λ n at. true≢false (sym at.1 ∙ unheld n at.0); found = tt })

  by_holder : (found : Option Transaction) (commit : Option ℕ) (n : ℕ) → begun_of found ≡ Some n → conflict_by found commit ≡ Some (held n)
  by_holder None commit n at = absurd cc
  by_holder (Some other) commit n at = ap (λ (k : ℕ). Some (held k)) (same_Some other.begun n at)

  by_commit : (found : Option Transaction) (commit : Option ℕ) (n : ℕ) → begun_of found ≡ None → commit ≡ Some n → conflict_by found commit ≡ Some (since n)
  by_commit (Some other) commit n none at = absurd cc
  by_commit None None n none at = absurd cc
  by_commit None (Some k) n none at = ap (λ (k : ℕ). Some (since k)) (same_Some k n at)

  by_none : (found : Option Transaction) (commit : Option ℕ) → begun_of found ≡ None → commit ≡ None → conflict_by found commit ≡ None
  by_none (Some other) commit none at = absurd cc
  by_none None (Some k) none at = absurd cc
  by_none None None none at = refl

  tells : (result : Result (Unit {0}) LockFault) → IsAnswer locks order transaction.snapshot write result
      → Tells (conflict_of m.base m.history m.begun transaction write) result
  tells (Ok done) answer =
      by_none (holder transaction write m.begun) (first_overlap write (transaction.snapshot + 1) events) (unheld_is answer.0) (commit_is None answer.1)
  tells (Err (Held n)) answer =
      by_holder (holder transaction write m.begun) (first_overlap write (transaction.snapshot + 1) events) n
      (holder_is (Some n) (record { least = λ k at. answer.first k at.0 at.1; found = (answer.other, answer.overlapping) }))
  tells (Err (Since n)) answer =
      by_commit (holder transaction write m.begun) (first_overlap write (transaction.snapshot + 1) events) n (unheld_is answer.0) (commit_is (Some n) answer.1)
  tells (Err NoMemory) answer = tt

pub answers-conflict : ConflictsAreOfTransactions → LocksAnswerTheConflict
answers-conflict of_transactions locks m above stand rising isolated sourced order transaction is up write has_store result answer =
    tells of_transactions locks m above stand rising isolated sourced order transaction is up write has_store result answer
