-- What waits may be written: the log can spell it, and has room for it.
use Rattle.std.specs.List.{All, AllByRecursion, flat_map}
use Rattle.std.proofs.Common.{◌≡◌, ℕ, suc, ◌+◌, ◌-◌, ◌^◌, ◌<◌, ◌≤◌, nat_le, ◌==◌, Bool, true, false, cond, List, [], ◌∷◌, ◌++◌, length, map, refl, sym, ◌∙◌, ap, subst, arith, length-append}
use Rattle.std.proofs.lemmas.List.Elements.{All-from_recursion}
use Rattle.std.proofs.lemmas.List.Sums.{sum_by-cons}
use Rattle.hse_fields.specs.LogForm.{ArePayload}
use Rattle.hse_fields.specs.LogReading.{PrefixesFit}
use Rattle.hse_fields.specs.LogReading as reading
use Rattle.hse_fields.specs.LogText as log
use Rattle.hse_fields.specs.LogText.{Entry}
use Rattle.hse_rows.specs.declared.change.Change.{Change}
use Rattle.hse_rows.specs.declared.change.Change.TheVariants.{Put, Del, PDel}
use Rattle.hse_rows.specs.declared.write.Write.{Write}
use Rattle.hse_rows.specs.writes.Charge.{change_bytes, writes_bytes, charge_of}
use Rattle.hse_rows.specs.states.State.{Store}
use Rattle.hse_rows.specs.states.History.{Event, commits, creates, drops}
use Rattle.hse_rows.specs.states.Rooted.{AreUpTo}
use Rattle.hse_rows.specs.laws.Holding.{written_all}
use Rattle.hse_rows.specs.machine.Log.{Numbered, charge_of_commits}
use Rattle.hse_rows.specs.machine.Sizes.{Sizes}
use Rattle.hse_rows.specs.machine.Core.{longest_value}
use Rattle.hse_rows.specs.machine.Recorded.{commits_in, taken_in}
use Rattle.manifest.specs.Metadata.{LiveStore}
use Rattle.recovery.specs.Image.{prefixes_of}
use Rattle.recovery.specs.laws.Names.{named_below}
use Rattle.recovery.specs.Stored.{store_in}
use Rattle.wal.specs.Charges.{charges}
use Rattle.wal.specs.Live.{prefix_fits}
use Rattle.wal.specs.Logged as wal
use Rattle.wal.specs.Logged.{logged, logged_all, entry_with}
use Rattle.wal.specs.Numbered.{AreNumbered}
use Rattle.wal.specs.Stores.{OfEachStore}
use Rattle.wal.specs.Writable.{IsWritable, IsWritableCommit}
use Rattle.wal.specs.declared.commit.Commit.{Commit}
use Rattle.engine_state.specs.Serves.{entries_of}
use Rattle.kvdb.specs.Pending.{CanBeLogged, CommitsName, IsLoggable, PrefixFits, ValueFits}

-- ---- numbers

pub numbered-commits : (number : ℕ) (events : List Event) → taken_in number events ≡ []
    → AreNumbered number (entries_of (commits_in number events))
numbered-commits number [] none = tt
numbered-commits number (commits writes ∷ events) none = (refl, numbered-commits (number + 1) events none)
numbered-commits number (creates name mode prefix_length ∷ events) none = absurd cc
numbered-commits number (drops id ∷ events) none = absurd cc

pub length-entries : (these : List Numbered) → length (entries_of these) ≡ length these
length-entries [] = refl
length-entries (commit ∷ these) = ap suc (length-entries these)

-- ---- charges

-- each write takes bytes
few-writes : (writes : List Write) → length writes ≤ charge_of writes
few-writes writes = let less : length writes ≤ writes_bytes writes = by writes in omega (arith, less)
  where
    some : (change : Change) → 1 ≤ change_bytes change
    some (Put key bytes) = omega arith
    some (Del key) = omega arith
    some (PDel prefix) = omega arith

    by : (ws : List Write) → length ws ≤ writes_bytes ws
    by [] = omega arith
    by (w ∷ ws) =
        let one : 1 ≤ change_bytes w.change = some w.change in
        omega (arith, one, by ws, sum_by-cons (λ (x : Write). change_bytes x.change) w ws)

-- ---- text

abbrev as_commit : Numbered → Commit
as_commit commit = record { number = commit.number; writes = commit.writes }

entries-as : (these : List Numbered) → entries_of these ≡ wal.entries_of (map as_commit these)
entries-as [] = refl
entries-as (commit ∷ these) = ap (λ (l : List Entry). entry_with commit.number commit.writes ∷ l) (entries-as these)

writable : (sizes : Sizes) (stores : List Store) (write : Write) → CanBeLogged sizes stores write → IsWritable (longest_value sizes) write
writable sizes stores write can = record {
  store = omega (arith, can.store);
  limits = can.limits;
  value = by write.change refl can.value_fits;
}
  where
    by : (change : Change) → write.change ≡ change → ValueFits sizes change → length (logged write).value ≤ longest_value sizes
    by (Put key bytes) is fits = subst (λ (c : Change). length (wal.logged_change write.store.0 c).value ≤ longest_value sizes) (sym is) fits
    by (Del key) is fits = subst (λ (c : Change). length (wal.logged_change write.store.0 c).value ≤ longest_value sizes) (sym is) (omega arith)
    by (PDel prefix) is fits = subst (λ (c : Change). length (wal.logged_change write.store.0 c).value ≤ longest_value sizes) (sym is) (omega arith)

all-writable : (sizes : Sizes) (stores : List Store) (writes : List Write) → AllByRecursion (CanBeLogged sizes stores) writes
    → AllByRecursion (IsWritable (longest_value sizes)) writes
all-writable sizes stores [] all = tt
all-writable sizes stores (write ∷ writes) all = (writable sizes stores write all.0, all-writable sizes stores writes all.1)

-- the charges of some of the commits
charge-within : (commit : Numbered) (these : List Numbered) (most : ℕ) → charge_of_commits (commit ∷ these) ≤ most
    → (charge_of commit.writes ≤ most) × (charge_of_commits these ≤ most)
charge-within commit these most within =
    let sums = sum_by-cons (λ (c : Numbered). charge_of c.writes) commit these in
    (omega (arith, within, sums), omega (arith, within, sums))

writable_commits : (sizes : Sizes) (stores : List Store) (number : ℕ) (events : List Event) → number + length events ≤ 2 ^ 62 + 1
    → charge_of_commits (commits_in number events) < 2 ^ 32 → AllByRecursion (IsLoggable sizes stores) (commits_in number events)
    → AllByRecursion (IsWritableCommit (longest_value sizes)) (map as_commit (commits_in number events))
writable_commits sizes stores number [] small fits all = tt
writable_commits sizes stores number (commits writes ∷ events) small fits all =
    let parts = charge-within (record { number = number; writes = writes }) (commits_in (number + 1) events) (2 ^ 32 - 1) (omega (arith, fits)) in (
      record {
        number = omega (arith, small);
        some = all.0.some;
        counted = omega (arith, parts.0, few-writes writes);
        in_order = all.0.in_order;
        writes = All-from_recursion (IsWritable (longest_value sizes)) writes (all-writable sizes stores writes all.0.writes);
      },
      writable_commits sizes stores (number + 1) events (omega (arith, small)) (omega (arith, parts.1)) all.1,
    )
writable_commits sizes stores number (creates name mode prefix_length ∷ events) small fits all =
    writable_commits sizes stores (number + 1) events (omega (arith, small)) fits all
writable_commits sizes stores number (drops id ∷ events) small fits all =
    writable_commits sizes stores (number + 1) events (omega (arith, small)) fits all

-- each commit takes room
few-commits : (these : List Numbered) → length these ≤ charge_of_commits these
few-commits [] = omega arith
few-commits (commit ∷ these) =
    omega (arith, few-commits these, sum_by-cons (λ (c : Numbered). charge_of c.writes) commit these)

length-commits : (these : List Numbered) → length (map as_commit these) ≡ length these
length-commits [] = refl
length-commits (commit ∷ these) = ap suc (length-commits these)

abbrev pub CommitsArePayload : Type 0
CommitsArePayload =
    (most : ℕ) (these : List Commit) → 1 ≤ length these → length these < 2 ^ 32 → All (IsWritableCommit most) these
    → ArePayload most (wal.entries_of these)

pub are_payload : CommitsArePayload → (sizes : Sizes) (stores : List Store) (number : ℕ) (events : List Event) → number + length events ≤ 2 ^ 62 + 1
    → charge_of_commits (commits_in number events) < 2 ^ 32 → AllByRecursion (IsLoggable sizes stores) (commits_in number events)
    → 1 ≤ length (commits_in number events) → ArePayload (longest_value sizes) (entries_of (commits_in number events))
are_payload law sizes stores number events small fits all some =
    subst (ArePayload (longest_value sizes)) (sym (entries-as (commits_in number events)))
    (law (longest_value sizes) (map as_commit (commits_in number events))
    (omega (arith, some, length-commits (commits_in number events)))
    (omega (arith, fits, few-commits (commits_in number events), length-commits (commits_in number events)))
    (All-from_recursion (IsWritableCommit (longest_value sizes)) (map as_commit (commits_in number events))
    (writable_commits sizes stores number events small fits all)))

-- ---- prefixes

-- the ids and prefix lengths of stores
abbrev FitsAll : ℕ → ℕ → List Store → Type 0
FitsAll id size stores = AllByRecursion (λ (store : Store). store.id ≡ id → size ≤ store.prefix_length) stores

nat_same : (a b : ℕ) → (a == b) ≡ true → a ≡ b
nat_same a b same = grind (arith, same)

-- a live store's prefix length, by its id
prefix-fits : (entries : List Entry) (writes : List Write) (live : List LiveStore) (id size : ℕ)
    → FitsAll id size (map (written_all writes) (map (store_in entries) live)) → prefix_fits (prefixes_of live) id size ≡ true
prefix-fits entries writes [] id size all = refl
prefix-fits entries writes (store ∷ live) id size all =
    by (store.id == id) refl (prefix-fits entries writes live id size all.1)
  where
    by : (same : Bool) → (store.id == id) ≡ same → prefix_fits (prefixes_of live) id size ≡ true
        → cond same (nat_le size store.prefix_length) (prefix_fits (prefixes_of live) id size) ≡ true
    by true is later = let le : size ≤ store.prefix_length = all.0 (nat_same store.id id is) in grind (arith, le)
    by false is later = later

change-fits : (entries : List Entry) (writes : List Write) (live : List LiveStore) (sizes : Sizes) (write : Write)
    → CanBeLogged sizes (map (written_all writes) (map (store_in entries) live)) write
    → reading.PrefixFits (prefix_fits (prefixes_of live)) (logged write)
change-fits entries writes live sizes write can = by write.change refl can.prefixes
  where
    by : (change : Change) → write.change ≡ change
        → AllByRecursion (λ (store : Store). store.id ≡ write.store.0 → PrefixFits store change) (map (written_all writes) (map (store_in entries) live))
        → reading.PrefixFits (prefix_fits (prefixes_of live)) (logged write)
    by (Put key bytes) is fits =
        subst (λ (c : Change). reading.PrefixFits (prefix_fits (prefixes_of live)) (wal.logged_change write.store.0 c)) (sym is) refl
    by (Del key) is fits =
        subst (λ (c : Change). reading.PrefixFits (prefix_fits (prefixes_of live)) (wal.logged_change write.store.0 c)) (sym is) refl
    by (PDel prefix) is fits =
        subst (λ (c : Change). reading.PrefixFits (prefix_fits (prefixes_of live)) (wal.logged_change write.store.0 c)) (sym is)
        (prefix-fits entries writes live write.store.0 (length prefix) fits)

changes-fit : (entries : List Entry) (writes : List Write) (live : List LiveStore) (sizes : Sizes) (these : List Write)
    → AllByRecursion (CanBeLogged sizes (map (written_all writes) (map (store_in entries) live))) these
    → AllByRecursion (reading.PrefixFits (prefix_fits (prefixes_of live))) (logged_all these)
changes-fit entries writes live sizes [] all = tt
changes-fit entries writes live sizes (write ∷ these) all =
    (change-fits entries writes live sizes write all.0, changes-fit entries writes live sizes these all.1)

pub prefixes-fit : (entries : List Entry) (writes : List Write) (live : List LiveStore) (sizes : Sizes) (these : List Numbered)
    → AllByRecursion (IsLoggable sizes (map (written_all writes) (map (store_in entries) live))) these
    → PrefixesFit (prefix_fits (prefixes_of live)) (entries_of these)
prefixes-fit entries writes live sizes [] all = tt
prefixes-fit entries writes live sizes (commit ∷ these) all =
    (changes-fit entries writes live sizes commit.writes all.0.writes, prefixes-fit entries writes live sizes these all.1)

-- ---- names

named-change : (most id : ℕ) (change : Change) → id ≤ most → (wal.logged_change id change).store ≤ most
named-change most id (Put key bytes) le = le
named-change most id (Del key) le = le
named-change most id (PDel prefix) le = le

named-changes : (most : ℕ) (writes : List Write) → AreUpTo most writes → AllByRecursion (λ (c : log.Change). c.store ≤ most) (logged_all writes)
named-changes most [] all = tt
named-changes most (write ∷ writes) all = (named-change most write.store.0 write.change all.0, named-changes most writes all.1)

named-entries : (most : ℕ) (these : List Numbered) → CommitsName most these
    → AllByRecursion (λ (e : Entry). All (λ (c : log.Change). c.store ≤ most) e.changes) (entries_of these)
named-entries most [] all = tt
named-entries most (commit ∷ these) all = (
  All-from_recursion (λ (c : log.Change). c.store ≤ most) (logged_all commit.writes) (named-changes most commit.writes all.0),
  named-entries most these all.1,
)

pub names_known : (most last : ℕ) → most ≤ last → (these : List Numbered) → CommitsName most these
    → OfEachStore (λ (store : ℕ). store ≤ last) (entries_of these)
names_known most last le these all =
    named_below most last (entries_of these) le
    (All-from_recursion (λ (e : Entry). All (λ (c : log.Change). c.store ≤ most) e.changes) (entries_of these) (named-entries most these all))
