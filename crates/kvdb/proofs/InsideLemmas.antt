-- What waits when a transaction writes.
use Rattle.std.specs.List.{AllByRecursion, find, slice_get}
use Rattle.std.specs.Prelude.{◌==◌, not, is_some}
use Rattle.std.proofs.Common.{◌≡◌, ℕ, ◌-◌, ◌≤◌, Bool, true, false, cond, List, [], ◌∷◌, set, take, Option, Some, None, refl, sym, ◌∙◌, ap, subst, arith}
use Rattle.hse_rows.specs.declared.change.Change.{Change}
use Rattle.hse_rows.specs.declared.write.Write.{Write}
use Rattle.hse_rows.specs.writes.NormalForm.{same}
use Rattle.hse_rows.specs.states.State.{Store, State, store_named, store_of}
use Rattle.hse_rows.specs.states.History.{events_since}
use Rattle.hse_rows.specs.laws.Folding.{folded-number}
use Rattle.hse_rows.specs.transactions.Transaction.{Transaction, TransactionState, active, committed, aborted, is_active, staged}
use Rattle.hse_rows.specs.transactions.Timeline.{transaction_of, snapshot_of, with_transaction, for_some}
use Rattle.hse_rows.specs.machine.Calls as call
use Rattle.hse_rows.specs.machine.Core.{Core, now, number_of, greatest_number, live, write_to}
use Rattle.hse_rows.specs.machine.Replies.{Refusal, no_name, no_store, store_mode}
use Rattle.hse_rows.specs.machine.CoreRefusal.{refusal, unless_ended, inside_refusal, is_tx}
use Rattle.hse_rows.specs.machine.CoreDone.{done}
use Rattle.engine_state.specs.Serves.{IsSound}
use Rattle.kvdb.specs.Pending.{CanBeLogged, IsKnown, IsPending}
use Rattle.kvdb.proofs.EndLemmas.{all-append}
use Rattle.kvdb.proofs.HistoryLemmas.{Have, have-folded, rising-folded}
use Rattle.kvdb.proofs.SessionLemmas.{Names, Written, active-set, filtered, pending_still}
use Rattle.kvdb.proofs.StateLemmas.{fold-since}
use Rattle.kvdb.proofs.StoreLemmas.{OneOfId, all-at, can-change, found-at, only-one, passes, up-to}

going-on : (s : TransactionState) (later : Option (Refusal ℕ)) → unless_ended s later ≡ None → (is_active s ≡ true) × (later ≡ None)
going-on active later none = (refl, none)
going-on (committed number) later none = absurd cc
going-on aborted later none = absurd cc

some-found : (o : Option Store) → not (is_some o) ≡ false → (s : Store) × (o ≡ Some s)
some-found None is = absurd cc
some-found (Some s) is = (s, refl)

found-passes : (p : Store → Bool) (xs : List Store) (x : Store) → find p xs ≡ Some x → p x ≡ true
found-passes p [] x is = absurd cc
found-passes p (y ∷ xs) x is = by (p y) refl is (found-passes p xs x)
  where
    by : (b : Bool) → p y ≡ b → cond b (Some y) (find p xs) ≡ Some x → (find p xs ≡ Some x → p x ≡ true) → p x ≡ true
    by true passed is rest = let same_is : y ≡ x = cc in ap p (sym same_is) ∙ passed
    by false passed is rest = rest is

same-id : (a b : ℕ) → (a == b) ≡ true → a ≡ b
same-id a b is = grind (arith, is)

module _ (m : Core) (sound : IsSound m) (p : IsPending m) (transaction : Transaction) (there : Store) (name : List ℕ)
    (named : store_named (snapshot_of m.timeline transaction) name ≡ Some there) where
  at-snapshot : (i : ℕ) × (slice_get (snapshot_of m.timeline transaction).stores i ≡ Some there)
  at-snapshot = found-at (λ (s : Store). same s.name name) (snapshot_of m.timeline transaction).stores there named

  one-of-id : OneOfId (now m).stores there
  one-of-id P has =
      let state : State = snapshot_of m.timeline transaction in
      let rising = rising-folded (take (transaction.snapshot - m.timeline.base.number) m.timeline.history) m.timeline.base sound.stands.base.rising in
      let id : there.id ≤ state.number =
      all-at (λ (s : Store). s.id ≤ state.number) state.stores at-snapshot.0 there at-snapshot.1 (up-to 0 state.number state.stores rising) in
      subst (λ (s : State). Have P there.id s.stores) (fold-since m.timeline.base m.timeline.history transaction.snapshot)
      (have-folded P there.id (events_since m.timeline.base m.timeline.history transaction.snapshot) state id
      (only-one (λ (s : Store). P s.prefix_length) 0 state.number state.stores at-snapshot.0 there rising at-snapshot.1 has))

  pub can-inside : (change : Change) → inside_refusal m change transaction there ≡ None
      → CanBeLogged m.sizes (now m).stores (write_to there change) × (there.id ≤ p.named)
  can-inside change none =
      let first = passes (not (is_some (store_of (now m) there.id))) no_store _ none in
      let second = passes (not (is_tx there.mode)) store_mode _ first.1 in
      let found = some-found (store_of (now m) there.id) first.0 in
      let at : (i : ℕ) × (slice_get (now m).stores i ≡ Some found.0) = found-at (λ (s : Store). s.id == there.id) (now m).stores found.0 found.1 in
      let id : found.0.id ≡ there.id = same-id found.0.id there.id (found-passes (λ (s : Store). s.id == there.id) (now m).stores found.0 found.1) in
      let known : IsKnown p.named found.0 = all-at (IsKnown p.named) (now m).stores at.0 found.0 at.1 p.stores in
      let few : found.0.id ≤ (now m).number =
      all-at (λ (s : Store). s.id ≤ (now m).number) (now m).stores at.0 found.0 at.1 (up-to 0 (now m).number (now m).stores sound.stands.now.rising) in
      let long : found.0.prefix_length ≡ there.prefix_length =
      all-at (λ (s : Store). s.id ≡ there.id → s.prefix_length ≡ there.prefix_length) (now m).stores at.0 found.0 at.1
      (one-of-id (λ n. n ≡ there.prefix_length) refl) id in
      let most : number_of m ≤ greatest_number = sound.limits.history.numbers in (
        can-change m.sizes (now m).stores there one-of-id (omega (arith, long, known.short))
            (let e : there.id ≤ greatest_number = omega (arith, id, few, most, folded-number m.timeline.base m.timeline.history) in e) change _ second.1,
        let e : there.id ≤ p.named = omega (arith, id, known.id) in e,
      )

pub pending_inside : (m : Core) (order : ℕ) (name : List ℕ) (change : Change) (transaction : Transaction) → IsSound m
    → transaction_of m.timeline order ≡ Some transaction → refusal m (call.write_by (call.inside order) name change) ≡ None → IsPending m
    → IsPending (done m (call.write_by (call.inside order) name change))
pending_inside m order name change transaction sound at unrefused p =
    let going = going-on transaction.state
    (for_some (store_named (snapshot_of m.timeline transaction) name) (Some no_store) (inside_refusal m change transaction))
    (subst (λ (o : Option Transaction). for_some o (Some no_name) (λ t. unless_ended t.state
    (for_some (store_named (snapshot_of m.timeline t) name) (Some no_store) (inside_refusal m change t))) ≡ None) at unrefused) in
    subst (λ (o : Option Transaction). IsPending (for_some o m (λ t.
    for_some (store_named (snapshot_of m.timeline t) name) m (λ store. record m {
      timeline = for_some o m.timeline (λ u. with_transaction m.timeline order (staged u (write_to store change)));
    })))) (sym at)
    (by going.0 (store_named (snapshot_of m.timeline transaction) name) refl going.1)
  where
    of-live : (P : Transaction → Type 0) → is_active transaction.state ≡ true → AllByRecursion P (live m) → P transaction
    of-live P going all =
        all-at (λ (t : Transaction). is_active t.state ≡ true → P t) m.timeline.begun order transaction at
        (filtered (λ t. is_active t.state) P m.timeline.begun all) going

    by : is_active transaction.state ≡ true → (found : Option Store) → store_named (snapshot_of m.timeline transaction) name ≡ found
        → for_some found (Some no_store) (inside_refusal m change transaction) ≡ None
        → IsPending (for_some found m (λ store. record m { timeline = with_transaction m.timeline order (staged transaction (write_to store change)) }))
    by going None is none = absurd cc
    by going (Some there) is none =
        let can = can-inside m sound p transaction there name is change none in
        pending_still m (set m.timeline.begun order (staged transaction (write_to there change))) m.cursors p
        (active-set (Written m) m.timeline.begun order (staged transaction (write_to there change)) p.written (λ still.
        all-append (CanBeLogged m.sizes (now m).stores) transaction.writes (write_to there change ∷ []) (of-live (Written m) going p.written) (can.0, tt)))
        (active-set (Names p.named) m.timeline.begun order (staged transaction (write_to there change)) p.written_named (λ still.
        all-append (λ (w : Write). w.store.0 ≤ p.named) transaction.writes (write_to there change ∷ []) (of-live (Names p.named) going p.written_named) (can.1, tt)))
