-- A write in a transaction, from its parts.
use Rattle.std.proofs.Common.{◌≡◌, ◌≤◌, ◌==◌, refl, sym, ap, ◌∙◌, subst, arith, ℕ, zero, suc, Bool, true, false, cond, not, List, [], ◌∷◌, ◌++◌, map, set, slice_get, Option, Some, None, Result, Ok, Err, IfOk}
use Rattle.std.specs.List.{filter, find}
use Rattle.std.specs.Option.{option_map}
use Rattle.std.proofs.lemmas.Option.{same_Some}
use Rattle.std.specs.Prelude.{is_some}
use Rattle.hse_rows.specs.declared.change.Change.{Change}
use Rattle.hse_rows.specs.declared.row_set.RowSet.{Ghosts}
use Rattle.hse_rows.specs.declared.store.Mode.{Mode}
use Rattle.hse_rows.specs.declared.store.Mode.TheVariants.{Plain, Tx}
use Rattle.hse_rows.specs.declared.write.Write.{Write}
use Rattle.hse_rows.specs.writes.NormalForm.{normal_form}
use Rattle.hse_rows.specs.states.State.{Store, store_named, store_of}
use Rattle.hse_rows.specs.transactions.Moves as moves
use Rattle.hse_rows.specs.transactions.Transaction.{Transaction, active, is_active, staged}
use Rattle.hse_rows.specs.transactions.Timeline.{Timeline, HasStore, IsActive, for_some, moved, number_of, snapshot_of, transaction_of, with_transaction}
use Rattle.hse_rows.specs.transactions.Conflict.{conflict_of}
use Rattle.hse_rows.specs.machine.Replies.{store_mode, broken, no_store, accepted}
use Rattle.hse_rows.specs.machine.Calls.{inside, write_by}
use Rattle.hse_rows.specs.machine.Core.{Core, now, write_to, with_move}
use Rattle.hse_rows.specs.machine.CoreRefusal.{refusal, refuse, is_tx, change_refusal, inside_refusal}
use Rattle.hse_rows.specs.machine.CoreDone.{done}
use Rattle.key_locks.specs.declared.lock_fault.LockFault.{LockFault}
use Rattle.key_locks.specs.declared.locks.KeyLocks.{KeyLocks}
use Rattle.key_locks.specs.Answers.{IsAnswer}
use Rattle.key_locks.specs.Standing.{StandFor, Tells}
use Rattle.key_locks.specs.laws.Laws.{LocksAnswerTheConflict}
use Rattle.view.specs.declared.get_fault.TxnState.TheVariants.{Active}
use Rattle.view.specs.declared.view_store.ViewStore.{ViewStore}
use Rattle.view.specs.Views.{ViewState}
use Rattle.view.specs.Means.{store_in}
use Rattle.transactions.specs.Txns.{TxnKept, StagedState, with_staged}
use Rattle.transactions.specs.Stages.{IsStage}
use Rattle.transactions.specs.Stands.{StandsFor, StagesStand}
use Rattle.engine_state.specs.declared.live.LiveTxn.{LiveTxn}
use Rattle.engine_state.specs.declared.faults.WriteFault.{WriteFault}
use Rattle.engine_state.specs.declared.state.EngineState.{EngineState}
use Rattle.engine_state.specs.Serves.{IsSound, ViewServes, Serves, IsTxnOf, AreBetween, live_of}
use Rattle.engine_state.specs.Says.{SaysWrite, Fronts}
use Rattle.engine_state.specs.Steps.{Steps}
use Rattle.engine_state.specs.Inside.{inside_front, inside_rest, IsStaged, WasKept, IsWritten}
use Rattle.engine_state.proofs.CommitTables.{in-active}
use Rattle.engine_state.proofs.LiveLemmas.{is_live, get-set}
use Rattle.engine_state.proofs.SoundLemmas.{id-in}
use Rattle.engine_state.proofs.TxnLemmas.{is-going}

-- ---- the live ones

-- one that is live has a snapshot from the lower bound on
pub between-live : (low high : ℕ) (begun : List Transaction) (i : ℕ) (transaction : Transaction) → slice_get begun i ≡ Some transaction
    → is_live transaction ≡ true → AreBetween low high (map live_of (filter is_live begun)) → low ≤ transaction.snapshot
between-live low high [] i transaction at on all = absurd (let e : None ≡ Some transaction = at in cc)
between-live low high (one ∷ begun) zero transaction at on all =
    let same : one ≡ transaction = same_Some one transaction at in
    let here : AreBetween low high (live_of one ∷ map live_of (filter is_live begun)) =
    subst (λ (b : Bool). AreBetween low high (map live_of (cond b (one ∷ filter is_live begun) (filter is_live begun)))) (ap is_live same ∙ on) all in
    subst (λ (t : Transaction). low ≤ t.snapshot) same here.0
between-live low high (one ∷ begun) (suc i) transaction at on all =
    by (λ (least : ℕ). between-live least high begun i transaction at on) (is_live one) all
  where
    by : ((least : ℕ) → AreBetween least high (map live_of (filter is_live begun)) → least ≤ transaction.snapshot)
        → (b : Bool) → AreBetween low high (map live_of (cond b (one ∷ filter is_live begun) (filter is_live begun))) → low ≤ transaction.snapshot
    by rest true more = let up : one.snapshot ≤ transaction.snapshot = rest one.snapshot more.1 in omega (arith, up, more.0)
    by rest false more = rest low more

-- a write more changes nothing of what is kept of a live one
pub live-staged : (begun : List Transaction) (i : ℕ) (transaction : Transaction) (write : Write) → slice_get begun i ≡ Some transaction
    → map live_of (filter is_live (set begun i (staged transaction write))) ≡ map live_of (filter is_live begun)
live-staged [] i transaction write at = absurd (let e : None ≡ Some transaction = at in cc)
live-staged (one ∷ begun) zero transaction write at =
    subst
    (λ (t : Transaction). map live_of (cond (is_live t) (staged t write ∷ filter is_live begun) (filter is_live begun))
    ≡ map live_of (cond (is_live one) (one ∷ filter is_live begun) (filter is_live begun)))
    (same_Some one transaction at) (by (is_live one))
  where
    by : (b : Bool) → map live_of (cond b (staged one write ∷ filter is_live begun) (filter is_live begun))
        ≡ map live_of (cond b (one ∷ filter is_live begun) (filter is_live begun))
    by true = refl
    by false = refl
live-staged (one ∷ begun) (suc i) transaction write at =
    elim (is_live one)
    as (λ b. map live_of (cond b (one ∷ filter is_live (set begun i (staged transaction write))) (filter is_live (set begun i (staged transaction write))))
    ≡ map live_of (cond b (one ∷ filter is_live begun) (filter is_live begun)))
    [ true ↦ ap (λ (l : List LiveTxn). live_of one ∷ l) (live-staged begun i transaction write at) | false ↦ live-staged begun i transaction write at ]

-- ---- the machine's part

pub writes-to : (m : Timeline) (order : ℕ) (transaction : Transaction) (write : Write) → transaction_of m order ≡ Some transaction
    → moved m (moves.write_in order write) ≡ with_transaction m order (staged transaction write)
writes-to m order transaction write at = ap (λ o. for_some o m (λ (t : Transaction). with_transaction m order (staged t write))) at

module _ (m : Core) (order : ℕ) (name : List ℕ) (change : Change) (transaction : Transaction) (at : transaction_of m.timeline order ≡ Some transaction) where
  pub table-none : transaction.state ≡ active → store_named (snapshot_of m.timeline transaction) name ≡ None
      → refusal m (write_by (inside order) name change) ≡ Some no_store
  table-none going none =
      in-active m order transaction (λ (t : Transaction). for_some (store_named (snapshot_of m.timeline t) name) (Some no_store) (inside_refusal m change t)) at going
      ∙ ap (λ o. for_some o (Some no_store) (inside_refusal m change transaction)) none

  pub table : transaction.state ≡ active → (store : Store) → store_named (snapshot_of m.timeline transaction) name ≡ Some store
      → refusal m (write_by (inside order) name change) ≡ inside_front m change store (inside_rest m change transaction store)
  table going store is =
      in-active m order transaction (λ (t : Transaction). for_some (store_named (snapshot_of m.timeline t) name) (Some no_store) (inside_refusal m change t)) at going
      ∙ ap (λ o. for_some o (Some no_store) (inside_refusal m change transaction)) is

  pub done-inside : (store : Store) → store_named (snapshot_of m.timeline transaction) name ≡ Some store
      → done m (write_by (inside order) name change) ≡ with_move m (moves.write_in order (write_to store change))
  done-inside store is =
      ap (λ o. for_some o m (λ (t : Transaction).
      for_some (store_named (snapshot_of m.timeline t) name) m (λ (st : Store). with_move m (moves.write_in order (write_to st change))))) at
      ∙ ap (λ o. for_some o m (λ (st : Store). with_move m (moves.write_in order (write_to st change)))) is

-- where the front refuses nothing, the store is a `tx` one
pub is-inside : (m : Core) (change : Change) (store : Store) → Fronts None (inside_front m change store) → store.mode ≡ Tx
is-inside m change store front = by (is_some (store_of (now m) store.id)) store.mode (front None)
  where
    by : (live : Bool) (mode : Mode) → refuse (not live) no_store (refuse (not (is_tx mode)) store_mode
        (change_refusal m.sizes store change (refuse m.is_broken broken None))) ≡ None → mode ≡ Tx
    by true Tx is = refl
    by true Plain is = absurd cc
    by false mode is = absurd cc

-- what the locks answered is the machine's conflict
pub answers : LocksAnswerTheConflict → (m : Core) → IsSound m → (locks : KeyLocks) (above : ℕ) → StandFor locks m.timeline above
    → (order : ℕ) (transaction : Transaction) → IsActive m.timeline order transaction → above ≤ transaction.snapshot
    → (write : Write) → HasStore (snapshot_of m.timeline transaction) write.store.0 Tx → (result : Result (Unit {0}) LockFault)
    → (txn snapshot : ℕ) (asked : Write) → txn ≡ order → snapshot ≡ transaction.snapshot → asked ≡ write → IsAnswer locks txn snapshot asked result
    → Tells (conflict_of m.timeline.base m.timeline.history m.timeline.begun transaction write) result
answers law m sound locks above stand order transaction going low write has result txn snapshot asked is-order is-snapshot is-write answer =
    law locks m.timeline above stand sound.stands.base.rising sound.stands.isolated sound.stands.sourced order transaction going low write has result
    (subst (λ (n : ℕ). IsAnswer locks n transaction.snapshot write result) is-order
    (subst (λ (n : ℕ). IsAnswer locks txn n write result) is-snapshot
    (subst (λ (w : Write). IsAnswer locks txn snapshot w result) is-write answer)))

module _ {R : Type 0} (g : Ghosts R) where
  some-map : {X Y : Type 0} (f : X → Y) (o : Option X) → is_some (option_map f o) ≡ is_some o
  some-map f None = refl
  some-map f (Some x) = refl

  -- a store is live where the view has its id
  pub live-store : (view : ViewState R) (m : Core) → ViewServes g view m → (id asked : ℕ) → id ≡ asked → (found : Option (ViewStore R))
      → found ≡ find (λ (store : ViewStore R). store.id.0 == asked) view.stores → is_some (store_of (now m) id) ≡ is_some found
  live-store view m v id asked same found is =
      ap (λ (n : ℕ). is_some (store_of (now m) n)) same
      ∙ ap is_some (id-in g view (now m) v.state asked)
      ∙ some-map (store_in g.rows view.layers) (find (λ (store : ViewStore R). store.id.0 == asked) view.stores)
      ∙ ap is_some (sym is)

  -- the snapshot of an active transaction is from the locks' number on
  pub low-snapshot : (state : EngineState R g) (m : Core) (order : ℕ) (transaction : Transaction)
      → transaction_of m.timeline order ≡ Some transaction → is_live transaction ≡ true → (s : Serves g state m) → s.locks.above ≤ transaction.snapshot
  low-snapshot state m order transaction at on s =
      between-live s.locks.above (number_of m.timeline) m.timeline.begun order transaction at on
      (subst (AreBetween s.locks.above (number_of m.timeline)) s.live s.locks.reach)

  -- the staged writes are the normal form with the write
  pub stage-form : StagesStand R g.rows → (m : Core) (kept : TxnKept R) (transaction : Transaction) → IsTxnOf g kept m.timeline transaction
      → (asked write : Write) → asked ≡ write → (more : StagedState) → IsStage kept asked more
      → more.writes ≡ normal_form (transaction.writes ++ write ∷ [])
  stage-form stages m kept transaction of asked write is more stage =
      (stages m.timeline.base m.timeline.history kept transaction asked more of.stands stage).writes
      ∙ ap (λ (w : Write). normal_form (transaction.writes ++ w ∷ [])) is

  pub inside-steps : (m : Core) (order : ℕ) (name : List ℕ) (change : Change) (transaction : Transaction) → transaction_of m.timeline order ≡ Some transaction
      → transaction.state ≡ active → (store : Store) → store_named (snapshot_of m.timeline transaction) name ≡ Some store
      → Fronts None (inside_front m change store) → (result : Result (Unit {0}) WriteFault) (new : EngineState R g)
      → IsStaged g m change order transaction store result new
      → Steps g (λ x. accepted) SaysWrite m (write_by (inside order) name change) result new
  inside-steps m order name change transaction at going store is front (Ok made) new rest = record {
    unrefused = table m order name change transaction at going store is ∙ front (inside_rest m change transaction store) ∙ rest.0;
    replied = refl;
    serves = subst (Serves g new) (sym (done-inside m order name change transaction at store is)) rest.1;
  }
  inside-steps m order name change transaction at going store is front (Err fault) new rest =
      (subst (SaysWrite fault) (sym (table m order name change transaction at going store is ∙ front (inside_rest m change transaction store))) rest.0, rest.1)

  -- the transaction with the write
  pub written-txn : StagesStand R g.rows → (m : Core) (change : Change) (name : List ℕ) (transaction : Transaction) (old new : TxnKept R)
      → IsTxnOf g old m.timeline transaction → (store : Store) → store_named (snapshot_of m.timeline transaction) name ≡ Some store
      → (write : Write) → write ≡ write_to store change → (result : Result (Unit {0}) WriteFault) → IfOk result (λ x. WasKept old write new)
      → IfOk result (λ x. IsWritten g m change name transaction old new)
  written-txn stages m change name transaction old new of store named write is (Err fault) kept = tt
  written-txn stages m change name transaction old new of store named write is (Ok made) kept =
      let order = old.id in
      let w : Write = write_to store change in
      let after : Timeline = with_transaction m.timeline order (staged transaction w) in
      let to : (done m (write_by (inside order) name change)).timeline ≡ after =
      ap (λ (c : Core). c.timeline) (done-inside m order name change transaction of.at store named) ∙ writes-to m.timeline order transaction w of.at in
      record {
        store = store;
        named = named;
        txn =
            subst (λ (t : Timeline). IsTxnOf g new t (staged transaction w)) (sym to)
            (subst (λ (k : TxnKept R). IsTxnOf g k after (staged transaction w)) (sym kept.kept)
            (record {
              at = get-set m.timeline.begun order transaction (staged transaction w) of.at;
              stands =
                  subst (λ (v : Write). StandsFor g.rows m.timeline.base m.timeline.history (with_staged old kept.more) (staged transaction v)) is
                  (stages m.timeline.base m.timeline.history old transaction write kept.more of.stands kept.is);
            }));
      }

  -- no commit after the snapshot of an active transaction is forgotten
  pub remembered : (state : EngineState R g) (m : Core) (kept : TxnKept R) (transaction : Transaction) → Serves g state m
      → IsTxnOf g kept m.timeline transaction → kept.state ≡ Active → state.locks.least ≤ kept.view.number
  remembered state m kept transaction s of on =
      let going : transaction.state ≡ active = is-going transaction.state (sym on ∙ of.stands.state) in
      let low : s.locks.above ≤ transaction.snapshot = low-snapshot state m kept.id transaction of.at (ap is_active going) s in
      omega (arith, low, s.locks.stand.since_prune, of.stands.snapshot)
