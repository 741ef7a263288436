-- What waits, and what a base says, once a creation or a drop is out with its turn.
use Rattle.std.specs.List.{AllByRecursion, filter}
use Rattle.std.proofs.Common.{◌≡◌, ℕ, suc, ◌+◌, ◌≤◌, ◌<◌, ◌==◌, not, Bool, true, false, cond, List, [], ◌∷◌, ◌++◌, map, refl, sym, ◌∙◌, ap, subst, arith}
use Rattle.std.proofs.lemmas.List.{append-nil}
use Rattle.hse_rows.specs.declared.change.Change.{Change}
use Rattle.hse_rows.specs.declared.change.Change.TheVariants.{Put, Del, PDel}
use Rattle.hse_rows.specs.declared.store.Mode.{Mode}
use Rattle.hse_rows.specs.declared.write.Write.{Write}
use Rattle.hse_rows.specs.writes.Lengths.{longest_prefix}
use Rattle.hse_rows.specs.states.State.{Store, State}
use Rattle.hse_rows.specs.states.History.{Event, creates, drops, happened, new_store, without}
use Rattle.hse_rows.specs.states.Rooted.{AreUpTo}
use Rattle.hse_rows.specs.laws.Folding.{folded-number}
use Rattle.hse_rows.specs.transactions.Transaction.{Transaction}
use Rattle.hse_rows.specs.machine.Log.{Numbered}
use Rattle.hse_rows.specs.machine.Sizes.{Sizes}
use Rattle.hse_rows.specs.machine.TakenRuns.{runs_as, runs_of}
use Rattle.hse_rows.specs.machine.Turn.{TakenTurn, Turn, home, taken}
use Rattle.hse_rows.specs.machine.Core.{Core, live, now, number_of}
use Rattle.hse_rows.specs.machine.Recorded.{commits_in, taken_in, due, due_by}
use Rattle.manifest.specs.Metadata.{with_taken}
use Rattle.manifest.specs.laws.Sizes.{one_taken}
use Rattle.engine_state.specs.Serves.{handed, handed_by}
use Rattle.kvdb.specs.Pending.{AllCanBeLogged, CanBeLogged, CommitsName, IsKnown, IsLoggable, IsPending, PrefixFits, TransactionsName, unsafe_events}
use Rattle.kvdb.specs.Serves.{StartServes}
use Rattle.kvdb.specs.declared.log_start.LogStart.{LogStart}
use Rattle.kvdb.proofs.EndLemmas.{all-append}
use Rattle.kvdb.proofs.EventLemmas.{IsEntry, commits_next, creation_is, drop_is, now_next, number_next, taken_next, with_one}

all-filter : {A : Type 0} (P : A → Type 0) (keeps : A → Bool) (xs : List A) → AllByRecursion P xs → AllByRecursion P (filter keeps xs)
all-filter P keeps [] all = tt
all-filter {A = A} P keeps (x ∷ xs) all = by (keeps x) (all-filter P keeps xs all.1)
  where
    by : (b : Bool) → AllByRecursion P (filter keeps xs) → AllByRecursion P (cond b (x ∷ filter keeps xs) (filter keeps xs))
    by true rest = (all.0, rest)
    by false rest = rest

-- ---- names

up_to_more : (most later : ℕ) (writes : List Write) → most ≤ later → AreUpTo most writes → AreUpTo later writes
up_to_more most later [] le up = tt
up_to_more most later (write ∷ writes) le up =
    (let was : write.store.0 ≤ most = up.0 in let is : write.store.0 ≤ later = omega (arith, was, le) in is, up_to_more most later writes le up.1)

commits_name_more : (most later : ℕ) (these : List Numbered) → most ≤ later → CommitsName most these → CommitsName later these
commits_name_more most later [] le up = tt
commits_name_more most later (commit ∷ these) le up =
    (up_to_more most later commit.writes le up.0, commits_name_more most later these le up.1)

transactions_name_more : (most later : ℕ) (these : List Transaction) → most ≤ later → TransactionsName most these → TransactionsName later these
transactions_name_more most later [] le up = tt
transactions_name_more most later (transaction ∷ these) le up =
    (up_to_more most later transaction.writes le up.0, transactions_name_more most later these le up.1)

known_more : (most later : ℕ) (stores : List Store) → most ≤ later → AllByRecursion (IsKnown most) stores → AllByRecursion (IsKnown later) stores
known_more most later [] le known = tt
known_more most later (store ∷ stores) le known =
    (record { id = omega (arith, known.0.id, le); short = known.0.short }, known_more most later stores le known.1)

-- ---- what can be logged beside other stores

-- Writes of stores up to this number can be logged beside these stores where they can beside those.
abbrev Keeps : Sizes → ℕ → List Store → List Store → Type 0
Keeps sizes most old new = (write : Write) → write.store.0 ≤ most → CanBeLogged sizes old write → CanBeLogged sizes new write

writes_kept : (sizes : Sizes) (most : ℕ) (old new : List Store) → Keeps sizes most old new → (writes : List Write) → AreUpTo most writes
    → AllByRecursion (CanBeLogged sizes old) writes → AllByRecursion (CanBeLogged sizes new) writes
writes_kept sizes most old new keeps [] up all = tt
writes_kept sizes most old new keeps (write ∷ writes) up all =
    (keeps write up.0 all.0, writes_kept sizes most old new keeps writes up.1 all.1)

commits_kept : (sizes : Sizes) (most : ℕ) (old new : List Store) → Keeps sizes most old new → (these : List Numbered) → CommitsName most these
    → AllByRecursion (IsLoggable sizes old) these → AllByRecursion (IsLoggable sizes new) these
commits_kept sizes most old new keeps [] up all = tt
commits_kept sizes most old new keeps (commit ∷ these) up all = (
  record {
    some = all.0.some;
    in_order = all.0.in_order;
    writes = writes_kept sizes most old new keeps commit.writes up.0 all.0.writes;
  },
  commits_kept sizes most old new keeps these up.1 all.1,
)

transactions_kept : (sizes : Sizes) (most : ℕ) (old new : List Store) → Keeps sizes most old new → (these : List Transaction) → TransactionsName most these
    → AllByRecursion (λ (transaction : Transaction). AllByRecursion (CanBeLogged sizes old) transaction.writes) these
    → AllByRecursion (λ (transaction : Transaction). AllByRecursion (CanBeLogged sizes new) transaction.writes) these
transactions_kept sizes most old new keeps [] up all = tt
transactions_kept sizes most old new keeps (transaction ∷ these) up all =
    (writes_kept sizes most old new keeps transaction.writes up.0 all.0, transactions_kept sizes most old new keeps these up.1 all.1)

-- beside a store more, whose id is above them
keeps_more : (sizes : Sizes) (most : ℕ) (stores : List Store) (store : Store) → most < store.id → Keeps sizes most stores (stores ++ store ∷ [])
keeps_more sizes most stores store above write up can = record {
  store = can.store;
  limits = can.limits;
  value_fits = can.value_fits;
  prefixes = all-append (λ (one : Store). one.id ≡ write.store.0 → PrefixFits one write.change) stores (store ∷ []) can.prefixes
      (λ same. absurd (omega (arith, same, above, up)), tt);
}

-- and beside fewer stores
keeps_fewer : (sizes : Sizes) (most : ℕ) (stores : List Store) (id : ℕ) → Keeps sizes most stores (without id stores)
keeps_fewer sizes most stores id write up can = record {
  store = can.store;
  limits = can.limits;
  value_fits = can.value_fits;
  prefixes = all-filter (λ (one : Store). one.id ≡ write.store.0 → PrefixFits one write.change) (λ (store : Store). not (store.id == id)) stores can.prefixes;
}

-- ---- a creation or a drop, whose turn is out

module _ (m : Core) (event : Event) (is : IsEntry event) (from : m.timeline.base.number ≤ m.safe) (until : m.safe ≤ number_of m)
    (p : IsPending m) (whole : m.is_broken ≡ false) (at : m.turn ≡ home) (out : TakenTurn) (number_is : out.number ≡ number_of m + 1)
    (due_is : due_by out.number out.plan ≡ out.number ∷ []) where
  pub none_waits : taken_in (m.safe + 1) (unsafe_events m) ≡ []
  none_waits = p.due whole ∙ ap due at

  pub all_named : p.named ≤ number_of m
  all_named =
      let most : p.named ≤ handed m = p.known whole in
      let was : handed m ≡ m.safe = ap (handed_by m.safe) at in
      omega (arith, most, was, until)

  pub due_out : (number_of m + 1) ∷ [] ≡ due_by out.number out.plan
  due_out = ap (λ (n : ℕ). n ∷ []) (sym number_is) ∙ sym due_is

  pub pending_entered : Keeps m.sizes p.named (now m).stores (now (with_one m event)).stores
      → AllByRecursion (IsKnown (number_of m + 1)) (now (with_one m event)).stores
      → IsPending (record (with_one m event) { turn = taken out })
  pending_entered keeps stores = record {
    settled = p.settled;
    below = p.below;
    active = p.active ∙ ap (λ (l : List Numbered). p.settled ++ l) (sym (commits_next m event is from until));
    due = λ fine. taken_next m event is from until none_waits ∙ due_out;
    waiting = subst (AllByRecursion (IsLoggable m.sizes (now (with_one m event)).stores)) (sym (commits_next m event is from until))
        (commits_kept m.sizes p.named (now m).stores (now (with_one m event)).stores keeps (commits_in (m.safe + 1) (unsafe_events m)) p.waiting_named p.waiting);
    written = transactions_kept m.sizes p.named (now m).stores (now (with_one m event)).stores keeps (live m) p.written_named p.written;
    named = number_of m + 1;
    known = λ fine. let e : number_of m + 1 ≤ out.number = omega (arith, number_is) in e;
    stores = stores;
    waiting_named = subst (CommitsName (number_of m + 1)) (sym (commits_next m event is from until))
        (commits_name_more p.named (number_of m + 1) (commits_in (m.safe + 1) (unsafe_events m)) (omega (arith, all_named)) p.waiting_named);
    written_named = transactions_name_more p.named (number_of m + 1) (live m) (omega (arith, all_named)) p.written_named;
  }

  -- the base after it
  pub start_entered : (start new : LogStart) → new.horizon ≡ start.horizon → new.first ≡ start.first
      → runs_as new.taken.items ≡ with_taken (runs_as start.taken.items) (number_of m + 1) → StartServes start m
      → StartServes new (record (with_one m event) { turn = taken out })
  start_entered start new horizon first runs s = record {
    horizon = horizon ∙ s.horizon;
    first = first ∙ s.first;
    taken = λ fine.
        runs
        ∙ ap (λ l. with_taken l (number_of m + 1))
        (s.taken whole ∙ ap (λ (t : Turn). runs_of (m.manifest.taken ++ due t)) at ∙ ap runs_of (append-nil m.manifest.taken))
        ∙ one_taken m.manifest.taken (number_of m + 1)
        ∙ ap (λ (l : List ℕ). runs_of (m.manifest.taken ++ l)) due_out;
  }

pub now_number : (m : Core) → (now m).number ≡ number_of m
now_number m = folded-number m.timeline.base m.timeline.history

module _ (m : Core) (from : m.timeline.base.number ≤ m.safe) (until : m.safe ≤ number_of m)
    (p : IsPending m) (whole : m.is_broken ≡ false) (at : m.turn ≡ home) (out : TakenTurn) (number_is : out.number ≡ number_of m + 1)
    (due_is : due_by out.number out.plan ≡ out.number ∷ []) where
  known_now : AllByRecursion (IsKnown (number_of m + 1)) (now m).stores
  known_now =
      known_more p.named (number_of m + 1) (now m).stores
      (let most : p.named ≤ number_of m = all_named m (drops 0) (drop_is 0) from until p whole at out number_is due_is in omega (arith, most)) p.stores

  pub pending_created : (name : List ℕ) (mode : Mode) (prefix : ℕ) → prefix ≤ longest_prefix
      → IsPending (record (with_one m (creates name mode prefix)) { turn = taken out })
  pending_created name mode prefix short =
      pending_entered m (creates name mode prefix) (creation_is name mode prefix) from until p whole at out number_is due_is
      (subst (λ (l : List Store). Keeps m.sizes p.named (now m).stores l) (sym stores_are)
      (keeps_more m.sizes p.named (now m).stores new
      (let most : p.named ≤ number_of m = all_named m (drops 0) (drop_is 0) from until p whole at out number_is due_is in
      let id : new.id ≡ number_of m + 1 = ap (λ (n : ℕ). n + 1) (now_number m) in
      omega (arith, most, id))))
      (subst (AllByRecursion (IsKnown (number_of m + 1))) (sym stores_are)
      (all-append (IsKnown (number_of m + 1)) (now m).stores (new ∷ []) known_now
      (record { id = omega (arith, now_number m); short = short }, tt)))
    where
      new : Store
      new = new_store ((now m).number + 1) name mode prefix

      stores_are : (now (with_one m (creates name mode prefix))).stores ≡ (now m).stores ++ new ∷ []
      stores_are = ap (λ (s : State). s.stores) (now_next m (creates name mode prefix) (creation_is name mode prefix) from until)

  pub pending_dropped : (id : ℕ) → IsPending (record (with_one m (drops id)) { turn = taken out })
  pending_dropped id =
      pending_entered m (drops id) (drop_is id) from until p whole at out number_is due_is
      (subst (λ (l : List Store). Keeps m.sizes p.named (now m).stores l) (sym stores_are)
      (keeps_fewer m.sizes p.named (now m).stores id))
      (subst (AllByRecursion (IsKnown (number_of m + 1))) (sym stores_are)
      (all-filter (IsKnown (number_of m + 1)) (λ (store : Store). not (store.id == id)) (now m).stores known_now))
    where
      stores_are : (now (with_one m (drops id))).stores ≡ without id (now m).stores
      stores_are = ap (λ (s : State). s.stores) (now_next m (drops id) (drop_is id) from until)
