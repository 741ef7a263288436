-- The end of a transaction: its locks, the live ones, and what the engine stands for then.
use Rattle.std.proofs.Common.{◌≡◌, sym, ap, ◌∙◌, subst, ℕ, ◌+◌, ◌==◌, false, not, List, [], map, set, Some, arith}
use Rattle.std.specs.Prelude.{max}
use Rattle.std.specs.List.{filter}
use Rattle.std.proofs.lemmas.List.{length-set}
use Rattle.hse_rows.specs.declared.write.Write.{Write}
use Rattle.hse_rows.specs.declared.row_set.RowSet.{Ghosts}
use Rattle.hse_rows.specs.transactions.Moves as moves
use Rattle.hse_rows.specs.transactions.Transaction.{Transaction, TransactionState, committed, aborted, is_active, ended}
use Rattle.hse_rows.specs.transactions.Timeline.{Timeline, transaction_of, with_transaction, committing, for_some, moved, number_of}
use Rattle.hse_rows.specs.machine.Core as machine
use Rattle.hse_rows.specs.machine.Core.{Core}
use Rattle.key_locks.specs.declared.locks.KeyLocks.{KeyLocks}
use Rattle.key_locks.specs.Locks.{writes_of, commits_of}
use Rattle.key_locks.specs.Logged.{without_old}
use Rattle.key_locks.specs.Standing.{StandFor}
use Rattle.key_locks.specs.laws.Laws.{PrunedLocksStand}
use Rattle.engine_state.specs.declared.live.LiveTxn.{LiveTxn}
use Rattle.engine_state.specs.declared.state.EngineState.{EngineState}
use Rattle.engine_state.specs.Kept.{least_of, IsSame}
use Rattle.engine_state.specs.Serves.{IsSound, AreBetween, live_of, handed, LocksServe, ViewServes, ServesAbove, Serves}
use Rattle.engine_state.proofs.LiveLemmas.{is_live, is_not, live-ended, kept-filter, between-least}
use Rattle.engine_state.proofs.SoundLemmas.{placed}

-- what moves make of an active transaction
pub aborts-to : (m : Timeline) (order : ℕ) (transaction : Transaction) → transaction_of m order ≡ Some transaction
    → moved m (moves.abort order) ≡ with_transaction m order (ended transaction aborted)
aborts-to m order transaction at = ap (λ o. for_some o m (λ (t : Transaction). with_transaction m order (ended t aborted))) at

pub commits-to : (m : Timeline) (order : ℕ) (transaction : Transaction) → transaction_of m order ≡ Some transaction
    → transaction.writes ≡ []
    → moved m (moves.commit order) ≡ with_transaction m order (ended transaction (committed transaction.snapshot))
commits-to m order transaction at none =
    ap (λ o. for_some o m (λ (t : Transaction). committing m order t t.writes)) at ∙ ap (committing m order transaction) none

-- what a prune leaves
pub pruned-locks : PrunedLocksStand → (old new : KeyLocks) (m : Timeline) (above : ℕ) (txns : List LiveTxn) (least : ℕ)
    → StandFor old m above → AreBetween above (number_of m) txns → least ≡ least_of (number_of m) txns
    → commits_of new ≡ without_old (λ (commit : ℕ × Write). commit.0) least (commits_of old) → new.least ≡ max old.least least
    → ((order : ℕ) → writes_of new order ≡ writes_of old order) → LocksServe new txns m
pruned-locks pruned old new m above txns least stand reach is commits greatest writes = record {
  above = max above least;
  stand = pruned old new m above stand least commits greatest writes;
  reach = subst (λ n. AreBetween (max above n) (number_of m) txns) (sym is) (between-least above (number_of m) txns reach);
}

-- the live ones, when one is live no more
pub live-left : (m : Core) → IsSound m → (order : ℕ) (transaction : Transaction) (state : TransactionState)
    → transaction_of m.timeline order ≡ Some transaction → is_active state ≡ false → (txns : List LiveTxn) → txns ≡ map live_of (machine.live m)
    → filter (λ (t : LiveTxn). not (t.order == order)) txns ≡ map live_of (filter is_live (set m.timeline.begun order (ended transaction state)))
live-left m sound order transaction state at off txns is =
    let same : 0 + order ≡ order = omega arith in
    ap (filter (λ (t : LiveTxn). not (t.order == order))) is
    ∙ kept-filter order (machine.live m)
    ∙ ap (λ n. map live_of (filter (is_not n) (machine.live m))) (sym same)
    ∙ sym (ap (map live_of) (live-ended 0 order m.timeline.begun transaction state (placed m sound) at off))

module _ {R : Type 0} (g : Ghosts R) where
  -- the engine after the end of a transaction without an event
  pub ended-serves : (old new : EngineState R g) (m : Core) (order : ℕ) (transaction : Transaction) (then : Timeline)
      → then ≡ with_transaction m.timeline order transaction → Serves g old m
      → LocksServe new.locks new.live.items (with_transaction m.timeline order transaction)
      → new.live.items ≡ map live_of (filter is_live (set m.timeline.begun order transaction))
      → new.view ≡ old.view → new.begins ≡ old.begins → new.charge ≡ old.charge → new.waiting ≡ old.waiting → new.safe ≡ old.safe
      → new.is_broken ≡ old.is_broken → new.cursors ≡ old.cursors → new.sizes ≡ old.sizes
      → ServesAbove g new (record m { timeline = then }) (handed m)
  ended-serves old new m order transaction then to s locks live view begins charge waiting safe is_broken cursors sizes =
      subst (λ (t : Timeline). ServesAbove g new (record m { timeline = t }) (handed m)) (sym to) (record {
        view = subst (λ v. ViewServes g v (record m { timeline = with_transaction m.timeline order transaction })) (sym view)
            (record { state = s.view.state; stores = s.view.stores });
        locks = locks;
        live = live;
        begins = begins ∙ s.begins ∙ sym (length-set m.timeline.begun order transaction);
        charge = charge ∙ s.charge;
        waits = λ whole. waiting ∙ s.waits whole;
        safe = safe ∙ s.safe;
        is_broken = is_broken ∙ s.is_broken;
        cursors = cursors ∙ s.cursors;
        sizes = record { slot = ap (λ x. x.slot_size) sizes ∙ s.sizes.slot; segment = ap (λ x. x.segment_size) sizes ∙ s.sizes.segment; stores = ap (λ x. x.most_stores) sizes ∙ s.sizes.stores };
      })

  -- the engine where all is as it was but the locks, which stand for the same
  pub same-serves : (old new : EngineState R g) (m : Core) (handed : ℕ) → ServesAbove g old m handed → LocksServe new.locks new.live.items m.timeline
      → new.live ≡ old.live → new.view ≡ old.view → new.begins ≡ old.begins → new.charge ≡ old.charge → new.waiting ≡ old.waiting → new.safe ≡ old.safe
      → new.is_broken ≡ old.is_broken → new.cursors ≡ old.cursors → new.sizes ≡ old.sizes → ServesAbove g new m handed
  same-serves old new m handed s locks live view begins charge waiting safe is_broken cursors sizes = record {
    view = subst (λ v. ViewServes g v m) (sym view) s.view;
    locks = locks;
    live = ap (λ l. l.items) live ∙ s.live;
    begins = begins ∙ s.begins;
    charge = charge ∙ s.charge;
    waits = λ whole. waiting ∙ s.waits whole;
    safe = safe ∙ s.safe;
    is_broken = is_broken ∙ s.is_broken;
    cursors = cursors ∙ s.cursors;
    sizes = record { slot = ap (λ x. x.slot_size) sizes ∙ s.sizes.slot; segment = ap (λ x. x.segment_size) sizes ∙ s.sizes.segment; stores = ap (λ x. x.most_stores) sizes ∙ s.sizes.stores };
  }

  pub all-same : (old new : EngineState R g) (m : Core) (handed : ℕ) → IsSame old new → ServesAbove g old m handed → ServesAbove g new m handed
  all-same old new m handed same s =
      same-serves old new m handed s
      (subst (λ l. LocksServe l new.live.items m.timeline) (sym same.locks) (subst (λ l. LocksServe old.locks l.items m.timeline) (sym same.live) s.locks))
      same.live same.view same.begins same.charge same.waiting same.safe same.is_broken same.cursors same.sizes
