-- The engine after a commit.
use Rattle.std.proofs.Common.{◌≡◌, ◌≢◌, refl, sym, ap, ◌∙◌, subst, arith, ℕ, ◌+◌, ◌≤◌, List, [], ◌∷◌, ◌++◌, map, set, length, drop, Some}
use Rattle.std.specs.List.{AllByRecursion, filter}
use Rattle.hse_rows.specs.declared.write.Write.{Write}
use Rattle.hse_rows.specs.declared.row_set.RowSet.{Ghosts}
use Rattle.hse_rows.specs.writes.NormalForm.{normal_form}
use Rattle.hse_rows.specs.writes.Charge.{charge_of}
use Rattle.hse_rows.specs.states.State.{State}
use Rattle.hse_rows.specs.states.History.{commits, happened}
use Rattle.hse_rows.specs.states.Rooted.{AreUpTo, AreRooted}
use Rattle.hse_rows.specs.laws.Folding.{folded_push}
use Rattle.hse_rows.specs.transactions.Moves as moves
use Rattle.hse_rows.specs.transactions.Transaction.{Transaction, committed, ended}
use Rattle.hse_rows.specs.transactions.Timeline.{Timeline, transaction_of, committing, for_some, moved, number_of}
use Rattle.hse_rows.specs.transactions.Sources.{MovesKeepRoots}
use Rattle.hse_rows.specs.transactions.Timeline.{IsActive}
use Rattle.hse_rows.specs.machine.Log.{Numbered, LogState, logged}
use Rattle.hse_rows.specs.machine.Calls as call
use Rattle.hse_rows.specs.machine.Core.{Core, with_move}
use Rattle.hse_rows.specs.machine.CoreDone.{done, log_with}
use Rattle.ingest_tree.specs.declared.store_row.StoreRow.{StoreRow}
use Rattle.ingest_tree.specs.Rows.{store_row, row_numbered, rows_with}
use Rattle.sorted_lists.specs.laws.Lists.{each-weaker}
use Rattle.view.specs.Views.{ViewState}
use Rattle.view.specs.Means.{IsView}
use Rattle.view.specs.Commits.{with_writes, active_of}
use Rattle.view.specs.Commits as views
use Rattle.view.specs.Laws.{CommitsHappen}
use Rattle.view.specs.Layers.{each-with}
use Rattle.wal.specs.Logged.{entry_with}
use Rattle.wal.specs.Waits.{WaitingState, waiting_of, with_entry}
use Rattle.engine_state.specs.declared.state.EngineState.{EngineState}
use Rattle.engine_state.specs.declared.sizes.EngineSizes.{EngineSizes}
use Rattle.engine_state.specs.Serves.{IsSound, live_of, handed, commits_above, entries_of, AreOfStores, LocksServe, ViewServes, Serves}
use Rattle.engine_state.proofs.LiveLemmas.{is_live}
use Rattle.engine_state.proofs.LoggedLemmas.{above-push, waiting-push, charge-push, rooted-last}
use Rattle.engine_state.proofs.SoundLemmas.{handed-low, handed-high, view-number}

-- one commit more in a history
abbrev pub with_commit : Timeline → List Write → List Transaction → Timeline
with_commit m writes begun = record { base = m.base; history = m.history ++ commits writes ∷ []; begun = begun }

-- ---- rows of stores

stores-written : (high number : ℕ) (layer : List StoreRow) (writes : List Write) → AreUpTo high writes
    → AllByRecursion (λ (row : StoreRow). row.store.0 ≤ high) layer
    → AllByRecursion (λ (row : StoreRow). row.store.0 ≤ high) (with_writes number layer writes)
stores-written high number layer [] up all = all
stores-written high number layer (write ∷ writes) up all =
    stores-written high number (rows_with layer (store_row write.store (row_numbered number write.change))) writes up.1
    (each-with (λ (row : StoreRow). row.store.0 ≤ high) layer (store_row write.store (row_numbered number write.change)) all up.0)

pub higher : (low high : ℕ) → low ≤ high → (layers : List (List StoreRow)) → AreOfStores low layers → AreOfStores high layers
higher low high up layers = each-weaker (λ (layer : List StoreRow) all. each-weaker (λ (row : StoreRow) less. omega (arith, less, up)) layer all) layers

active-all : (high : ℕ) (layers : List (List StoreRow)) → AreOfStores high layers → AllByRecursion (λ (row : StoreRow). row.store.0 ≤ high) (active_of layers)
active-all high [] all = tt
active-all high (layer ∷ layers) all = all.0

rest-all : (high : ℕ) (layers : List (List StoreRow)) → AreOfStores high layers → AreOfStores high (drop 1 layers)
rest-all high [] all = tt
rest-all high (layer ∷ layers) all = all.1

-- ---- what the moves of a commit make

pub commit-to : (m : Timeline) (order : ℕ) (transaction : Transaction) → transaction_of m order ≡ Some transaction → transaction.writes ≢ []
    → moved m (moves.commit order) ≡ with_commit m (normal_form transaction.writes) (set m.begun order (ended transaction (committed (number_of m + 1))))
commit-to m order transaction at some =
    ap (λ o. for_some o m (λ (t : Transaction). committing m order t t.writes)) at ∙ by transaction.writes some
  where
    by : (writes : List Write) → writes ≢ []
        → committing m order transaction writes ≡ with_commit m (normal_form transaction.writes) (set m.begun order (ended transaction (committed (number_of m + 1))))
    by [] some = absurd (some refl)
    by (write ∷ writes) some = refl

pub done-commit : (m : Core) (order : ℕ) (transaction : Transaction) → transaction_of m.timeline order ≡ Some transaction → transaction.writes ≢ []
    → done m (call.commit order)
    ≡ record m {
      timeline = with_commit m.timeline (normal_form transaction.writes) (set m.timeline.begun order (ended transaction (committed (number_of m.timeline + 1))));
      log = logged m.log (number_of m.timeline + 1) (normal_form transaction.writes);
    }
done-commit m order transaction at some =
    ap (λ o. for_some o m (λ (t : Transaction). record (with_move m (moves.commit order)) { log = log_with m t.writes })) at
    ∙ ap (λ (t : Timeline). record m { timeline = t; log = log_with m transaction.writes }) (commit-to m.timeline order transaction at some)
    ∙ ap (λ l. record m { timeline = with_commit m.timeline (normal_form transaction.writes) (set m.timeline.begun order (ended transaction (committed (number_of m.timeline + 1)))); log = l })
    (by transaction.writes some)
  where
    by : (writes : List Write) → writes ≢ [] → log_with m writes ≡ logged m.log (number_of m.timeline + 1) (normal_form writes)
    by [] some = absurd (some refl)
    by (write ∷ writes) some = refl

-- the writes of a commit are of stores that were created before
pub written-before : MovesKeepRoots → (m : Core) → IsSound m → (order : ℕ) (transaction : Transaction) → IsActive m.timeline order transaction
    → transaction.writes ≢ [] → AreUpTo (number_of m.timeline) (normal_form transaction.writes)
written-before keep m sound order transaction is some =
    rooted-last m.timeline.base.number m.timeline.history (commits (normal_form transaction.writes))
    (subst (λ (t : Timeline). AreRooted t.base.number t.history) (commit-to m.timeline order transaction is.at some)
    (keep m.timeline sound.stands.base.rising sound.stands.isolated sound.stands.rooted (moves.commit order) (transaction, is)))

module _ {R : Type 0} (g : Ghosts R) where
  committed-view : CommitsHappen R g.rows → (view : ViewState R) (m : Core) (writes : List Write) (begun : List Transaction) (log : LogState)
      → IsView g.rows view → ViewServes g view m → AreUpTo (number_of m.timeline) (normal_form writes)
      → ViewServes g (views.committed view (normal_form writes)) (record m { timeline = with_commit m.timeline (normal_form writes) begun; log = log })
  committed-view happen view m writes begun log is v up =
      let number : view.number ≡ number_of m.timeline = view-number g view m v in
      record {
        state =
            (happen view writes is).1 ∙ ap (λ (s : State). happened s (commits (normal_form writes))) v.state
            ∙ sym (folded_push m.timeline.base m.timeline.history (commits (normal_form writes)));
        stores = (
          stores-written (view.number + 1) (view.number + 1) (active_of view.layers) (normal_form writes)
              (each-weaker (λ (w : Write) less. omega (arith, less, number)) (normal_form writes) up)
              (active-all (view.number + 1) view.layers (higher view.number (view.number + 1) (omega arith) view.layers v.stores)),
          rest-all (view.number + 1) view.layers (higher view.number (view.number + 1) (omega arith) view.layers v.stores),
        );
      }

  pub logged-serves : CommitsHappen R g.rows → (old new : EngineState R g) (m then : Core) (writes : List Write) (begun : List Transaction)
      → then ≡ record m { timeline = with_commit m.timeline (normal_form writes) begun; log = logged m.log (number_of m.timeline + 1) (normal_form writes) }
      → IsSound m → IsView g.rows old.view → Serves g old m → AreUpTo (number_of m.timeline) (normal_form writes)
      → LocksServe new.locks new.live.items (with_commit m.timeline (normal_form writes) begun)
      → new.live.items ≡ map live_of (filter is_live begun) → new.begins ≡ length begun
      → new.view ≡ views.committed old.view (normal_form writes) → new.charge ≡ old.charge + charge_of (normal_form writes)
      → new.waiting ≡ with_entry old.waiting (entry_with (old.view.number + 1) (normal_form writes))
      → new.safe ≡ old.safe → new.is_broken ≡ old.is_broken → new.cursors ≡ old.cursors → new.sizes ≡ old.sizes
      → Serves g new then
  logged-serves happen old new m then writes begun to sound is s up locks live begins view charge waiting safe is_broken cursors sizes =
      let nf = normal_form writes in
      let after : Core = record m { timeline = with_commit m.timeline nf begun; log = logged m.log (number_of m.timeline + 1) nf } in
      let number : old.view.number ≡ number_of m.timeline = view-number g old.view m s.view in
      let above = commits_above m.timeline (handed m) in
      subst (Serves g new) (sym to) (record {
        view = subst (λ v. ViewServes g v after) (sym view) (committed-view happen old.view m writes begun after.log is s.view up);
        locks = locks;
        live = live;
        begins = begins;
        charge = charge ∙ ap (λ (n : ℕ). n + charge_of nf) s.charge ∙ sym (charge-push m.log.active (number_of m.timeline + 1) nf);
        waits = λ whole.
            waiting ∙ ap (λ (w : WaitingState). with_entry w (entry_with (old.view.number + 1) nf)) (s.waits whole)
            ∙ ap (λ (n : ℕ). with_entry (waiting_of (entries_of above)) (entry_with (n + 1) nf)) number
            ∙ sym (waiting-push above (number_of m.timeline + 1) nf)
            ∙ ap (λ (l : List Numbered). waiting_of (entries_of l)) (sym (above-push m.timeline.base m.timeline.history (handed m) (handed-low m sound) (handed-high m sound) nf));
        safe = safe ∙ s.safe;
        is_broken = is_broken ∙ s.is_broken;
        cursors = cursors ∙ s.cursors;
        sizes = record {
          slot = ap (λ (x : EngineSizes). x.slot_size) sizes ∙ s.sizes.slot;
          segment = ap (λ (x : EngineSizes). x.segment_size) sizes ∙ s.sizes.segment;
          stores = ap (λ (x : EngineSizes). x.most_stores) sizes ∙ s.sizes.stores;
        };
      })
