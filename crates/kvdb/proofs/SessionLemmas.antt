-- What waits when sessions call.
use Rattle.std.specs.List.{AllByRecursion, filter, slice_get}
use Rattle.std.proofs.Common.{◌≡◌, ℕ, zero, suc, ◌+◌, ◌-◌, ◌≤◌, Bool, true, false, cond, List, [], ◌∷◌, ◌++◌, length, map, set, Option, Some, None, refl, sym, ◌∙◌, ap, subst, arith, append_assoc}
use Rattle.std.proofs.lemmas.List.Elements.{filter-append}
use Rattle.std.proofs.lemmas.List.{append-nil, drop-append-le, length-drop}
use Rattle.hse_rows.specs.declared.change.Change.{Change}
use Rattle.hse_rows.specs.declared.write.Write.{Write}
use Rattle.hse_rows.specs.writes.NormalForm.{normal_form, same}
use Rattle.hse_rows.specs.laws.Orderly.{NormalFormsAreInOrder}
use Rattle.hse_rows.specs.states.State.{Store, State, store_named}
use Rattle.hse_rows.specs.states.History.{commits}
use Rattle.hse_rows.specs.states.Rooted.{AreUpTo}
use Rattle.hse_rows.specs.laws.Holding.{written_all, applied_all-stores}
use Rattle.hse_rows.specs.laws.Folding.{folded_push, folded-number}
use Rattle.hse_rows.specs.transactions.Transaction.{Transaction, TransactionState, active, committed, is_active, begins, ended, aborted}
use Rattle.hse_rows.specs.transactions.Timeline.{transaction_of, with_transaction, for_some, committing}
use Rattle.hse_rows.specs.machine.Calls as call
use Rattle.hse_rows.specs.machine.Log.{Numbered}
use Rattle.hse_rows.specs.machine.Sizes.{Sizes}
use Rattle.hse_rows.specs.machine.Core.{Core, now, live, number_of, greatest_number, write_to}
use Rattle.hse_rows.specs.machine.Replies.{Refusal, no_name, no_store, store_mode}
use Rattle.hse_rows.specs.machine.CoreRefusal.{refusal, unless_ended, commit_refusal, outside_refusal, is_tx}
use Rattle.hse_rows.specs.machine.CoreDone.{done, log_with, committing_write}
use Rattle.hse_rows.specs.machine.Recorded.{commits_in, taken_in, due}
use Rattle.kvdb.specs.Pending.{CanBeLogged, IsLoggable, AllCanBeLogged, IsKnown, IsPending, CommitsName, PrefixFits, unsafe_events}
use Rattle.kvdb.specs.laws.Events.{commits_in-append, taken_in-append}
use Rattle.engine_state.specs.Serves.{IsSound}
use Rattle.kvdb.proofs.EndLemmas.{all-append}
use Rattle.kvdb.proofs.FormLemmas.{form-all, some-form}
use Rattle.kvdb.proofs.StoreLemmas.{all-at, can-change, found-at, only-one, passes, up-to}

-- ---- live transactions

pub filtered : {A : Type 0} (p : A → Bool) (P : A → Type 0) (xs : List A) → AllByRecursion P (filter p xs) → AllByRecursion (λ x. p x ≡ true → P x) xs
filtered p P [] all = tt
filtered p P (x ∷ xs) all = by (p x) refl all (λ rest. filtered p P xs rest)
  where
    by : (b : Bool) → p x ≡ b → AllByRecursion P (cond b (x ∷ filter p xs) (filter p xs))
        → (AllByRecursion P (filter p xs) → AllByRecursion (λ y. p y ≡ true → P y) xs)
        → (p x ≡ true → P x) × AllByRecursion (λ y. p y ≡ true → P y) xs
    by true is these rest = (λ yes_is. these.0, rest these.1)
    by false is these rest = (λ yes_is. absurd cc, rest these)

unfiltered : {A : Type 0} (p : A → Bool) (P : A → Type 0) (xs : List A) → AllByRecursion (λ x. p x ≡ true → P x) xs → AllByRecursion P (filter p xs)
unfiltered p P [] all = tt
unfiltered p P (x ∷ xs) all = by (p x) refl (unfiltered p P xs all.1)
  where
    by : (b : Bool) → p x ≡ b → AllByRecursion P (filter p xs) → AllByRecursion P (cond b (x ∷ filter p xs) (filter p xs))
    by true is rest = (all.0 is, rest)
    by false is rest = rest

all-set : {A : Type 0} (P : A → Type 0) (xs : List A) (i : ℕ) (x : A) → AllByRecursion P xs → P x → AllByRecursion P (set xs i x)
all-set P [] i x all has = tt
all-set P (first ∷ xs) zero x all has = (has, all.1)
all-set P (first ∷ xs) (suc i) x all has = (all.0, all-set P xs i x all.1 has)

abbrev pub Written : Core → Transaction → Type 0
Written m transaction = AllCanBeLogged m transaction.writes

abbrev pub Names : ℕ → Transaction → Type 0
Names most transaction = AreUpTo most transaction.writes

-- with another transaction in a place
pub active-set : (P : Transaction → Type 0) (begun : List Transaction) (order : ℕ) (transaction : Transaction)
    → AllByRecursion P (filter (λ t. is_active t.state) begun) → (is_active transaction.state ≡ true → P transaction)
    → AllByRecursion P (filter (λ t. is_active t.state) (set begun order transaction))
active-set P begun order transaction all has =
    unfiltered (λ t. is_active t.state) P (set begun order transaction)
    (all-set (λ t. is_active t.state ≡ true → P t) begun order transaction (filtered (λ t. is_active t.state) P begun all) has)

-- no event
pub pending_still : (m : Core) (begun : List Transaction) (cursors : ℕ) (p : IsPending m)
    → AllByRecursion (Written m) (filter (λ t. is_active t.state) begun)
    → AllByRecursion (Names p.named) (filter (λ t. is_active t.state) begun)
    → IsPending (record m { timeline = record { base = m.timeline.base; history = m.timeline.history; begun = begun }; cursors = cursors })
pending_still m begun cursors p written names = record {
  settled = p.settled;
  below = p.below;
  active = p.active;
  due = p.due;
  waiting = p.waiting;
  written = written;
  named = p.named;
  known = p.known;
  stores = p.stores;
  waiting_named = p.waiting_named;
  written_named = names;
}

-- ---- one commit

can-later : (sizes : Sizes) (stores : List Store) (more : List Write) (write : Write) → CanBeLogged sizes stores write
    → CanBeLogged sizes (map (written_all more) stores) write
can-later sizes stores more write can = record {
  store = can.store;
  limits = can.limits;
  value_fits = can.value_fits;
  prefixes = by stores can.prefixes;
}
  where
    by : (these : List Store) → AllByRecursion (λ (s : Store). s.id ≡ write.store.0 → PrefixFits s write.change) these
        → AllByRecursion (λ (s : Store). s.id ≡ write.store.0 → PrefixFits s write.change) (map (written_all more) these)
    by [] all = tt
    by (s ∷ these) all = (all.0, by these all.1)

all-later : (sizes : Sizes) (stores : List Store) (more writes : List Write) → AllByRecursion (CanBeLogged sizes stores) writes
    → AllByRecursion (CanBeLogged sizes (map (written_all more) stores)) writes
all-later sizes stores more [] all = tt
all-later sizes stores more (write ∷ writes) all = (can-later sizes stores more write all.0, all-later sizes stores more writes all.1)

commits-later : (sizes : Sizes) (stores : List Store) (more : List Write) (these : List Numbered) → AllByRecursion (IsLoggable sizes stores) these
    → AllByRecursion (IsLoggable sizes (map (written_all more) stores)) these
commits-later sizes stores more [] all = tt
commits-later sizes stores more (commit ∷ these) all = (
  record { some = all.0.some; in_order = all.0.in_order; writes = all-later sizes stores more commit.writes all.0.writes },
  commits-later sizes stores more these all.1,
)

known-later : (most : ℕ) (stores : List Store) (more : List Write) → AllByRecursion (IsKnown most) stores
    → AllByRecursion (IsKnown most) (map (written_all more) stores)
known-later most [] more all = tt
known-later most (s ∷ stores) more all = (record { id = all.0.id; short = all.0.short }, known-later most stores more all.1)

transactions-later : (sizes : Sizes) (stores : List Store) (more : List Write) (these : List Transaction)
    → AllByRecursion (λ (t : Transaction). AllByRecursion (CanBeLogged sizes stores) t.writes) these
    → AllByRecursion (λ (t : Transaction). AllByRecursion (CanBeLogged sizes (map (written_all more) stores)) t.writes) these
transactions-later sizes stores more [] all = tt
transactions-later sizes stores more (t ∷ these) all =
    (all-later sizes stores more t.writes all.0, transactions-later sizes stores more these all.1)

abbrev pub with_commit : Core → List Transaction → List Write → Core
with_commit m begun writes = record m {
  timeline = record { base = m.timeline.base; history = m.timeline.history ++ commits writes ∷ []; begun = begun };
  log = record m.log { active = m.log.active ++ record { number = number_of m + 1; writes = writes } ∷ [] };
}

module _ (m : Core) (begun : List Transaction) (writes : List Write) (from : m.timeline.base.number ≤ m.safe) (until : m.safe ≤ number_of m) where
  stores-after : (now (with_commit m begun writes)).stores ≡ map (written_all writes) (now m).stores
  stores-after =
      ap (λ (s : State). s.stores) (folded_push m.timeline.base m.timeline.history (commits writes))
      ∙ ap (λ (s : State). s.stores) (applied_all-stores (now m) writes)

  unsafe-after : unsafe_events (with_commit m begun writes) ≡ unsafe_events m ++ commits writes ∷ []
  unsafe-after = drop-append-le (m.safe - m.timeline.base.number) m.timeline.history (commits writes ∷ []) (omega (arith, until))

  next : m.safe + 1 + length (unsafe_events m) ≡ number_of m + 1
  next = omega (arith, from, until, length-drop (m.safe - m.timeline.base.number) m.timeline.history)

  commits-after : commits_in (m.safe + 1) (unsafe_events (with_commit m begun writes))
      ≡ commits_in (m.safe + 1) (unsafe_events m) ++ record { number = number_of m + 1; writes = writes } ∷ []
  commits-after =
      ap (commits_in (m.safe + 1)) unsafe-after
      ∙ commits_in-append (m.safe + 1) (unsafe_events m) (commits writes ∷ [])
      ∙ ap (λ (n : ℕ). commits_in (m.safe + 1) (unsafe_events m) ++ record { number = n; writes = writes } ∷ []) next

  taken-after : taken_in (m.safe + 1) (unsafe_events (with_commit m begun writes)) ≡ taken_in (m.safe + 1) (unsafe_events m)
  taken-after =
      ap (taken_in (m.safe + 1)) unsafe-after
      ∙ taken_in-append (m.safe + 1) (unsafe_events m) (commits writes ∷ [])
      ∙ append-nil (taken_in (m.safe + 1) (unsafe_events m))

  pub pending_committed : (p : IsPending m) → IsLoggable m.sizes (now m).stores (record { number = number_of m + 1; writes = writes })
      → AreUpTo p.named writes → AllByRecursion (Written m) (filter (λ t. is_active t.state) begun)
      → AllByRecursion (Names p.named) (filter (λ t. is_active t.state) begun) → IsPending (with_commit m begun writes)
  pending_committed p new new_names written names = record {
    settled = p.settled;
    below = p.below;
    active = ap (λ (l : List Numbered). l ++ record { number = number_of m + 1; writes = writes } ∷ []) p.active
        ∙ append_assoc p.settled (commits_in (m.safe + 1) (unsafe_events m)) (record { number = number_of m + 1; writes = writes } ∷ [])
        ∙ ap (λ (l : List Numbered). p.settled ++ l) (sym commits-after);
    due = λ whole. taken-after ∙ p.due whole;
    waiting =
        subst (λ (l : List Store). AllByRecursion (IsLoggable m.sizes l) (commits_in (m.safe + 1) (unsafe_events (with_commit m begun writes)))) (sym stores-after)
        (subst (AllByRecursion (IsLoggable m.sizes (map (written_all writes) (now m).stores))) (sym commits-after)
        (commits-later m.sizes (now m).stores writes
        (commits_in (m.safe + 1) (unsafe_events m) ++ record { number = number_of m + 1; writes = writes } ∷ [])
        (all-append (IsLoggable m.sizes (now m).stores) (commits_in (m.safe + 1) (unsafe_events m))
        (record { number = number_of m + 1; writes = writes } ∷ []) p.waiting (new, tt))));
    written =
        subst (λ (l : List Store). AllByRecursion (λ (t : Transaction). AllByRecursion (CanBeLogged m.sizes l) t.writes) (filter (λ t. is_active t.state) begun))
        (sym stores-after) (transactions-later m.sizes (now m).stores writes (filter (λ t. is_active t.state) begun) written);
    named = p.named;
    known = p.known;
    stores = subst (AllByRecursion (IsKnown p.named)) (sym stores-after) (known-later p.named (now m).stores writes p.stores);
    waiting_named = subst (CommitsName p.named) (sym commits-after)
        (all-append (λ (commit : Numbered). AreUpTo p.named commit.writes) (commits_in (m.safe + 1) (unsafe_events m))
        (record { number = number_of m + 1; writes = writes } ∷ []) p.waiting_named (new_names, tt));
    written_named = names;
  }

-- ---- calls without an event

pub pending_begun : (m : Core) → IsPending m → IsPending (done m call.begin)
pending_begun m p =
    pending_still m (m.timeline.begun ++ begins (length m.timeline.begun) (number_of m) ∷ []) m.cursors p
    (one_more (Written m) p.written tt) (one_more (Names p.named) p.written_named tt)
  where
    one_more : (P : Transaction → Type 0) → AllByRecursion P (filter (λ t. is_active t.state) m.timeline.begun)
        → P (begins (length m.timeline.begun) (number_of m))
        → AllByRecursion P (filter (λ t. is_active t.state) (m.timeline.begun ++ begins (length m.timeline.begun) (number_of m) ∷ []))
    one_more P all has =
        subst (AllByRecursion P)
        (sym (filter-append (λ t. is_active t.state) m.timeline.begun (begins (length m.timeline.begun) (number_of m) ∷ [])))
        (all-append P (filter (λ t. is_active t.state) m.timeline.begun) (begins (length m.timeline.begun) (number_of m) ∷ []) all (has, tt))

pub pending_placed : (m : Core) (cursors : ℕ) → IsPending m → IsPending (record m { cursors = cursors })
pending_placed m cursors p = pending_still m m.timeline.begun cursors p p.written p.written_named

pub pending_aborted : (m : Core) (order : ℕ) (transaction : Transaction) → transaction_of m.timeline order ≡ Some transaction → IsPending m
    → IsPending (done m (call.abort order))
pending_aborted m order transaction at p =
    subst (λ (o : Option Transaction). IsPending (record m { timeline = for_some o m.timeline (λ t. with_transaction m.timeline order (ended t aborted)) }))
    (sym at)
    (pending_still m (set m.timeline.begun order (ended transaction aborted)) m.cursors p
    (active-set (Written m) m.timeline.begun order (ended transaction aborted) p.written (λ going. absurd cc))
    (active-set (Names p.named) m.timeline.begun order (ended transaction aborted) p.written_named (λ going. absurd cc)))

-- ---- commits

still_going : (s : TransactionState) (later : Option (Refusal ℕ)) → unless_ended s later ≡ None → is_active s ≡ true
still_going active later none = refl
still_going (committed number) later none = absurd cc
still_going aborted later none = absurd cc

-- what holds of live transactions holds of one that may commit
pub going-has : (P : Transaction → Type 0) (m : Core) (order : ℕ) (transaction : Transaction) → transaction_of m.timeline order ≡ Some transaction
    → refusal m (call.commit order) ≡ None → AllByRecursion P (live m) → P transaction
going-has P m order transaction at unrefused all =
    all-at (λ (t : Transaction). is_active t.state ≡ true → P t) m.timeline.begun order transaction at
    (filtered (λ t. is_active t.state) P m.timeline.begun all)
    (still_going transaction.state (commit_refusal m transaction.writes)
    (subst (λ (o : Option Transaction). for_some o (Some no_name) (λ t. unless_ended t.state (commit_refusal m t.writes)) ≡ None) at unrefused))

module _ (law : NormalFormsAreInOrder) (m : Core) (from : m.timeline.base.number ≤ m.safe) (until : m.safe ≤ number_of m) (p : IsPending m) where
  loggable : (w : Write) (ws : List Write) → AllCanBeLogged m (w ∷ ws)
      → IsLoggable m.sizes (now m).stores (record { number = number_of m + 1; writes = normal_form (w ∷ ws) })
  loggable w ws can = record {
    some = some-form w ws;
    in_order = (law (w ∷ ws)).rising;
    writes = form-all (CanBeLogged m.sizes (now m).stores) (w ∷ ws) can;
  }

  pub pending_form : (begun : List Transaction) (w : Write) (ws : List Write) → AllCanBeLogged m (w ∷ ws) → AreUpTo p.named (w ∷ ws)
      → AllByRecursion (Written m) (filter (λ t. is_active t.state) begun)
      → AllByRecursion (Names p.named) (filter (λ t. is_active t.state) begun)
      → IsPending (with_commit m begun (normal_form (w ∷ ws)))
  pending_form begun w ws can names written written_names =
      pending_committed m begun (normal_form (w ∷ ws)) from until p (loggable w ws can)
      (form-all (λ (write : Write). write.store.0 ≤ p.named) (w ∷ ws) names) written written_names

  module _ (order : ℕ) (transaction : Transaction) (at : transaction_of m.timeline order ≡ Some transaction)
      (can : AllCanBeLogged m transaction.writes) (names : AreUpTo p.named transaction.writes) where
    -- another state in its place
    written-by : (state : TransactionState) → is_active state ≡ false
        → AllByRecursion (Written m) (filter (λ t. is_active t.state) (set m.timeline.begun order (ended transaction state)))
    written-by state over = active-set (Written m) m.timeline.begun order (ended transaction state) p.written (λ going. absurd (let e : true ≡ false = sym going ∙ over in cc))

    names-by : (state : TransactionState) → is_active state ≡ false
        → AllByRecursion (Names p.named) (filter (λ t. is_active t.state) (set m.timeline.begun order (ended transaction state)))
    names-by state over = active-set (Names p.named) m.timeline.begun order (ended transaction state) p.written_named (λ going. absurd (let e : true ≡ false = sym going ∙ over in cc))

    by-writes : (ws : List Write) → ws ≡ transaction.writes
        → IsPending (record m { timeline = committing m.timeline order transaction ws; log = log_with m ws })
    by-writes [] is =
        pending_still m (set m.timeline.begun order (ended transaction (committed transaction.snapshot))) m.cursors p
        (written-by (committed transaction.snapshot) refl) (names-by (committed transaction.snapshot) refl)
    by-writes (w ∷ ws) is =
        subst (λ (form : List Write). IsPending (record m {
          timeline = record {
            base = m.timeline.base;
            history = m.timeline.history ++ commits form ∷ [];
            begun = set m.timeline.begun order (ended transaction (committed (number_of m + 1)));
          };
          log = record m.log { active = m.log.active ++ record { number = number_of m + 1; writes = normal_form (w ∷ ws) } ∷ [] };
        })) (ap normal_form is)
        (pending_form (set m.timeline.begun order (ended transaction (committed (number_of m + 1)))) w ws
        (subst (AllCanBeLogged m) (sym is) can) (subst (AreUpTo p.named) (sym is) names)
        (written-by (committed (number_of m + 1)) refl) (names-by (committed (number_of m + 1)) refl))

    pub pending_commit : IsPending (done m (call.commit order))
    pending_commit =
        subst (λ (o : Option Transaction). IsPending (for_some o m (λ t. record m {
          timeline = for_some o m.timeline (λ u. committing m.timeline order u u.writes);
          log = log_with m t.writes;
        }))) (sym at)
        (by-writes transaction.writes refl)

-- ---- writes outside of transactions

pub pending_plain : NormalFormsAreInOrder → (m : Core) (name : List ℕ) (change : Change) → IsSound m
    → refusal m (call.write_by call.outside name change) ≡ None → IsPending m → IsPending (done m (call.write_by call.outside name change))
pending_plain law m name change sound unrefused p = by (store_named (now m) name) refl unrefused
  where
    of-store : (store : Store) → store_named (now m) name ≡ Some store → outside_refusal m change store ≡ None → IsPending (committing_write m (write_to store change))
    of-store store is none =
        let at : (i : ℕ) × (slice_get (now m).stores i ≡ Some store) = found-at (λ (s : Store). same s.name name) (now m).stores store is in
        let known : IsKnown p.named store = all-at (IsKnown p.named) (now m).stores at.0 store at.1 p.stores in
        let most : AllByRecursion (λ (s : Store). s.id ≤ (now m).number) (now m).stores = up-to 0 (now m).number (now m).stores sound.stands.now.rising in
        let id : store.id ≤ (now m).number = all-at (λ (s : Store). s.id ≤ (now m).number) (now m).stores at.0 store at.1 most in
        let can : CanBeLogged m.sizes (now m).stores (write_to store change) =
        can-change m.sizes (now m).stores store
        (λ P has. only-one (λ (s : Store). P s.prefix_length) 0 (now m).number (now m).stores at.0 store sound.stands.now.rising at.1 has) known.short
        (let few : number_of m ≤ greatest_number = sound.limits.history.numbers in
        let e : store.id ≤ greatest_number = omega (arith, id, few, folded-number m.timeline.base m.timeline.history) in e) change _
        (passes (is_tx store.mode) store_mode _ none).1 in
        pending_form law m sound.limits.since_base sound.limits.until_now p m.timeline.begun (write_to store change) [] (can, tt) (known.id, tt) p.written p.written_named

    by : (found : Option Store) → store_named (now m) name ≡ found → for_some found (Some no_store) (outside_refusal m change) ≡ None
        → IsPending (for_some found m (λ store. committing_write m (write_to store change)))
    by None is none = absurd cc
    by (Some store) is none = of-store store is none
