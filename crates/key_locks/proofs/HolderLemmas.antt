-- The first transaction that has a write in a store, by the names that transactions took and by the machine.
use Rattle.std.proofs.Common.{◌≡◌, ℕ, ◌+◌, ◌<◌, ◌≤◌, ◌==◌, ◌&&◌, ◌||◌, Bool, true, false, cond, List, [], ◌∷◌, map, Option, Some, None, refl, sym, ◌∙◌, ap, ◌⊎◌, inl, inr, arith}
use Rattle.std.specs.declared.cmp.Ordering.{Ordering}
use Rattle.std.specs.declared.cmp.Ordering.TheVariants.{Less, Equal, Greater}
use Rattle.std.specs.Cmp.{nat_cmp_is}
use Rattle.std.specs.Cmp.Lexicographic.{nat_list_eq_equiv}
use Rattle.std.specs.List.{list_any, slice_get, AllByRecursion}
use Rattle.std.specs.List.Sorted.{IsStrictlySortedBy}
use Rattle.std.specs.Map.{keys_of, lookup}
use Rattle.std.specs.Option.{option_map, unwrap_or}
use Rattle.std.specs.Ordering.{is_eq, nat_cmp}
use Rattle.std.proofs.Math.Bool.{true≢false}
use Rattle.std.proofs.lemmas.Map.Lookups.{exact_unsigned}
use Rattle.hse_rows.specs.declared.change.Change.{Change}
use Rattle.hse_rows.specs.declared.change.Change.TheVariants.{Put, Del, PDel}
use Rattle.hse_rows.specs.declared.write.Write.{Write}
use Rattle.hse_rows.specs.machine.CoreRefusal.{first_in_store}
use Rattle.hse_rows.specs.transactions.Isolation.{IsIsolated}
use Rattle.hse_rows.specs.transactions.Timeline.{Timeline, transaction_of}
use Rattle.hse_rows.specs.transactions.Transaction.{Transaction, is_active}
use Rattle.hse_rows.specs.writes.Change.{covers}
use Rattle.hse_rows.specs.writes.Overlap.{meets, overlaps, overlaps_some}
use Rattle.key_locks.specs.declared.locks.KeyLocks.{KeyLocks}
use Rattle.key_locks.specs.declared.name.Name.{Name}
use Rattle.key_locks.specs.Holders.{IsFirst, HoldsIn, IsFirstIn, first_of_store}
use Rattle.key_locks.specs.Locks.{writes_of}
use Rattle.key_locks.specs.Names.{write_at}
use Rattle.key_locks.specs.Standing.{StandFor, active_writes}
use Rattle.key_locks.specs.laws.Laws.{FirstHoldersTell}
use Rattle.key_locks.proofs.AnswerLemmas.{covers-self}
use Rattle.key_locks.proofs.FirstLemmas.{one_first, first-as, begun_of, Passes, find-is}
use Rattle.key_locks.proofs.OverlapLemmas.{or-true, or-left, or-right}
use Rattle.key_locks.proofs.RangeLemmas.{both, and-true, lt_from_cmp}

-- ---- by the names that transactions took

abbrev is_of : ℕ → Name → Bool
is_of id name = name.store == id

-- a transaction has a name of the store
abbrev Has : ℕ → List (ℕ × List Name) → ℕ → Type 0
Has id entries txn = list_any (is_of id) (unwrap_or (lookup (λ k. is_eq (nat_cmp txn k)) entries) []) ≡ true

equal-is : (o : Ordering) → is_eq o ≡ true → o ≡ Equal
equal-is Less is = absurd (true≢false (sym is))
equal-is Equal is = refl
equal-is Greater is = absurd (true≢false (sym is))

-- a transaction that has one behind others is greater than these
behind : (id k txn : ℕ) (entries : List (ℕ × List Name)) → AllByRecursion (λ y. nat_cmp k y ≡ Less) (keys_of entries) → Has id entries txn → k < txn
behind id k txn [] all is = absurd (true≢false (sym is))
behind id k txn (entry ∷ entries) all is = by (λ has. behind id k txn entries all.1 has) (is_eq (nat_cmp txn entry.0)) refl is
  where
    by : (Has id entries txn → k < txn) → (b : Bool) → is_eq (nat_cmp txn entry.0) ≡ b → list_any (is_of id) (unwrap_or (cond b (Some entry.1) (lookup (λ k. is_eq (nat_cmp txn k)) entries)) []) ≡ true → k < txn
    by later true same has =
        let at : txn ≡ entry.0 = exact_unsigned txn entry.0 (equal-is (nat_cmp txn entry.0) same) in
        let less : k < entry.0 = lt_from_cmp k entry.0 all.0 in
        omega (arith, at, less)
    by later false apart has = later has

pub first-found : (id : ℕ) (entries : List (ℕ × List Name)) → IsStrictlySortedBy nat_cmp (keys_of entries) → IsFirst (Has id entries) (first_of_store id entries)
unfolding IsStrictlySortedBy
first-found id [] sorted = record { least = λ txn is. true≢false (sym is); found = tt }
first-found id (entry ∷ entries) sorted = by (first-found id entries sorted.1) (list_any (is_of id) entry.1) refl
  where
    at : Bool → ℕ → List Name
    at b txn = unwrap_or (cond b (Some entry.1) (lookup (λ k. is_eq (nat_cmp txn k)) entries)) []

    up : list_any (is_of id) entry.1 ≡ true → (txn : ℕ) (b : Bool) → is_eq (nat_cmp txn entry.0) ≡ b → list_any (is_of id) (at b txn) ≡ true → entry.0 ≤ txn
    up has txn true same is =
        let at : txn ≡ entry.0 = exact_unsigned txn entry.0 (equal-is (nat_cmp txn entry.0) same) in omega (arith, at)
    up has txn false apart is = let less : entry.0 < txn = behind id entry.0 txn entries sorted.0 is in omega (arith, less)

    there : (txn : ℕ) → Has id entries txn → Has id (entry ∷ entries) txn
    there txn is =
        let less : entry.0 < txn = behind id entry.0 txn entries sorted.0 is in
        let greater : nat_cmp txn entry.0 ≡ Greater = sym (nat_cmp_is txn entry.0 Greater less) in
        ap (λ (o : Ordering). list_any (is_of id) (at (is_eq o) txn)) greater ∙ is

    back-by : list_any (is_of id) entry.1 ≡ false → (txn : ℕ) (b : Bool) → list_any (is_of id) (at b txn) ≡ true → Has id entries txn
    back-by none txn true is = absurd (true≢false (sym is ∙ none))
    back-by none txn false is = is

    by : IsFirst (Has id entries) (first_of_store id entries) → (b : Bool) → list_any (is_of id) entry.1 ≡ b → IsFirst (Has id (entry ∷ entries)) (cond b (Some entry.0) (first_of_store id entries))
    by later true has = record {
      least = λ txn is. up has txn (is_eq (nat_cmp txn entry.0)) refl is;
      found = ap (λ (o : Ordering). list_any (is_of id) (at (is_eq o) entry.0)) (sym (nat_cmp_is entry.0 entry.0 Equal refl)) ∙ has;
    }
    by later false none =
        first-as (Has id entries) (Has id (entry ∷ entries)) there (λ txn is. back-by none txn (is_eq (nat_cmp txn entry.0)) is)
        (first_of_store id entries) later

any-map : (id : ℕ) (names : List Name) → list_any (λ (write : Write). write.store.0 == id) (map write_at names) ≡ list_any (is_of id) names
any-map id [] = refl
any-map id (name ∷ names) = by (any-map id names) (name.store == id)
  where
    by : list_any (λ (write : Write). write.store.0 == id) (map write_at names) ≡ list_any (is_of id) names → (b : Bool) → (b || list_any (λ (write : Write). write.store.0 == id) (map write_at names)) ≡ (b || list_any (is_of id) names)
    by later true = refl
    by later false = later

-- what the walk finds is the first that has a write
pub walk-finds : (locks : KeyLocks) (id : ℕ) → IsStrictlySortedBy nat_cmp (keys_of locks.held.entries) → IsFirstIn locks id (first_of_store id locks.held.entries)
walk-finds locks id sorted =
    first-as (Has id locks.held.entries) (HoldsIn locks id)
    (λ txn is. any-map id (unwrap_or (lookup (λ k. is_eq (nat_cmp txn k)) locks.held.entries) []) ∙ is)
    (λ txn is. sym (any-map id (unwrap_or (lookup (λ k. is_eq (nat_cmp txn k)) locks.held.entries) [])) ∙ is)
    (first_of_store id locks.held.entries) (first-found id locks.held.entries sorted)

-- ---- by the machine

meets-self : (change : Change) → meets change change ≡ true
meets-self (Put key bytes) = nat_list_eq_equiv.refl key
meets-self (Del key) = nat_list_eq_equiv.refl key
meets-self (PDel prefix) = or-left (covers prefix prefix) (covers prefix prefix) (covers-self prefix)

overlaps-self : (write : Write) → overlaps write write ≡ true
overlaps-self write = and-true (write.store.0 == write.store.0) (meets write.change write.change) (grind arith) (meets-self write.change)

module _ (id : ℕ) where
  abbrev in_store : Write → Bool
  in_store write = write.store.0 == id

  some-in : (writes : List Write) → list_any in_store writes ≡ true → (write : Write) × ((write.store.0 ≡ id) × (overlaps_some write writes ≡ true))
  some-in [] is = absurd (true≢false (sym is))
  some-in (first ∷ writes) is = by (λ later. some-in writes later) (or-true (in_store first) (list_any in_store writes) is)
    where
      by : (list_any in_store writes ≡ true → (write : Write) × ((write.store.0 ≡ id) × (overlaps_some write writes ≡ true)))
          → (in_store first ≡ true) ⊎ (list_any in_store writes ≡ true) → (write : Write) × ((write.store.0 ≡ id) × (overlaps_some write (first ∷ writes) ≡ true))
      by rest-in (inl here) = (first, (grind (arith, here), or-left (overlaps first first) (overlaps_some first writes) (overlaps-self first)))
      by rest-in (inr later) = let rest = rest-in later in (rest.0, (rest.1.0, or-right (overlaps rest.0 first) (overlaps_some rest.0 writes) rest.1.1))

  in-some : (write : Write) (writes : List Write) → write.store.0 ≡ id → overlaps_some write writes ≡ true → list_any in_store writes ≡ true
  in-some write [] at over = absurd (true≢false (sym over))
  in-some write (first ∷ writes) at over = by (λ later. in-some write writes at later) (or-true (overlaps write first) (overlaps_some write writes) over)
    where
      by : (overlaps_some write writes ≡ true → list_any in_store writes ≡ true) → (overlaps write first ≡ true) ⊎ (overlaps_some write writes ≡ true) → list_any in_store (first ∷ writes) ≡ true
      by rest-in (inl here) =
          let same = (both (write.store.0 == first.store.0) (meets write.change first.change) here).0 in
          or-left (in_store first) (list_any in_store writes) (grind (arith, same, at))
      by rest-in (inr later) = or-right (in_store first) (list_any in_store writes) (rest-in later)

  module _ (locks : KeyLocks) (m : Timeline) (above : ℕ) (stand : StandFor locks m above) (isolated : IsIsolated m) where
    abbrev test : Transaction → Bool
    test transaction = is_active transaction.state && list_any in_store transaction.writes

    locked-active : (n : ℕ) → HoldsIn locks id n → list_any in_store (active_writes (transaction_of m n)) ≡ true
    locked-active n is =
        let some = some-in (writes_of locks n) is in
        in-some some.0 (active_writes (transaction_of m n)) some.1.0 (sym (stand.active n some.0) ∙ some.1.1)

    active-locked : (n : ℕ) → list_any in_store (active_writes (transaction_of m n)) ≡ true → HoldsIn locks id n
    active-locked n is =
        let some = some-in (active_writes (transaction_of m n)) is in
        in-some some.0 (writes_of locks n) some.1.0 (stand.active n some.0 ∙ some.1.1)

    passes-locked : (n : ℕ) → Passes test 0 m.begun n → HoldsIn locks id n
    passes-locked n (i, (same, (transaction, (at, passes)))) =
        let all = both (is_active transaction.state) (list_any in_store transaction.writes) passes in
        let place : i ≡ n = omega (arith, same) in
        active-locked n (ap (λ (found : Option Transaction). list_any in_store (active_writes found)) (ap (slice_get m.begun) (sym place) ∙ at)
        ∙ ap (λ (b : Bool). list_any in_store (cond b transaction.writes [])) all.0 ∙ all.1)

    locked-passes : (n : ℕ) → HoldsIn locks id n → Passes test 0 m.begun n
    locked-passes n is = by (transaction_of m n) refl (locked-active n is)
      where
        at-one : (transaction : Transaction) → transaction_of m n ≡ Some transaction → (b : Bool) → is_active transaction.state ≡ b
            → list_any in_store (cond b transaction.writes []) ≡ true → Passes test 0 m.begun n
        at-one transaction at true going has =
            (n, (omega arith, (transaction, (at, and-true (is_active transaction.state) (list_any in_store transaction.writes) going has))))
        at-one transaction at false going has = absurd (true≢false (sym has))

        by : (found : Option Transaction) → transaction_of m n ≡ found → list_any in_store (active_writes found) ≡ true → Passes test 0 m.begun n
        by None at has = absurd (true≢false (sym has))
        by (Some transaction) at has = at-one transaction at (is_active transaction.state) refl has

    first-is : (first : Option ℕ) → IsFirstIn locks id first → begun_of (first_in_store m.begun id) ≡ first
    first-is first is =
        one_first (HoldsIn locks id) (begun_of (first_in_store m.begun id)) first
        (first-as (Passes test 0 m.begun) (HoldsIn locks id) passes-locked locked-passes (begun_of (first_in_store m.begun id))
        (find-is test 0 m.begun (λ i other at. let placed = (isolated.each i other at).placed in omega (arith, placed))))
        is

as-map : (found : Option Transaction) → option_map (λ (transaction : Transaction). transaction.begun) found ≡ begun_of found
as-map None = refl
as-map (Some transaction) = refl

pub holders-tell : FirstHoldersTell
holders-tell locks m above stand isolated id first is = as-map (first_in_store m.begun id) ∙ first-is id locks m above stand isolated first is
