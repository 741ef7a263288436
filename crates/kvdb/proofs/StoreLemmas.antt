-- Live stores, and writes to them that nothing refuses.
use Rattle.std.specs.List.{AllByRecursion, find, slice_get}
use Rattle.std.specs.Prelude.{◌==◌, ◌||◌, nat_lt, if◌then◌else◌}
use Rattle.std.proofs.Common.{◌≡◌, ℕ, zero, suc, ◌<◌, ◌≤◌, Bool, true, false, cond, List, [], ◌∷◌, length, Option, Some, None, refl, sym, ap, subst, arith}
use Rattle.std.proofs.lemmas.Option.{same_Some}
use Rattle.hse_rows.specs.declared.change.Change.{Change}
use Rattle.hse_rows.specs.declared.change.Change.TheVariants.{Put, Del, PDel}
use Rattle.hse_rows.specs.writes.Lengths.{longest_key, longest_prefix}
use Rattle.hse_rows.specs.states.State.{Store, AreRising}
use Rattle.hse_rows.specs.machine.Replies.{Refusal, key_length, value_length, prefix_length}
use Rattle.hse_rows.specs.machine.CoreRefusal.{refuse, change_refusal}
use Rattle.hse_rows.specs.machine.Sizes.{Sizes}
use Rattle.hse_rows.specs.machine.Core.{longest_value, greatest_number, write_to}
use Rattle.kvdb.specs.Pending.{CanBeLogged}

-- ---- what stands in a list

pub all-at : {A : Type 0} (P : A → Type 0) (xs : List A) (i : ℕ) (x : A) → slice_get xs i ≡ Some x → AllByRecursion P xs → P x
all-at P [] i x at all = absurd cc
all-at P (y ∷ xs) zero x at all = subst P (same_Some y x at) all.0
all-at P (y ∷ xs) (suc i) x at all = all-at P xs i x at all.1

pub found-at : {A : Type 0} (p : A → Bool) (xs : List A) (x : A) → find p xs ≡ Some x → (i : ℕ) × (slice_get xs i ≡ Some x)
found-at p [] x is = absurd cc
found-at {A = A} p (y ∷ xs) x is = by (p y) is (found-at p xs x)
  where
    by : (b : Bool) → cond b (Some y) (find p xs) ≡ Some x → (find p xs ≡ Some x → (i : ℕ) × (slice_get xs i ≡ Some x))
        → (i : ℕ) × (slice_get (y ∷ xs) i ≡ Some x)
    by true is rest = (0, is)
    by false is rest = let later : (i : ℕ) × (slice_get xs i ≡ Some x) = rest is in (suc later.0, later.1)

-- ---- ids

above-low : (low number : ℕ) (stores : List Store) (i : ℕ) (store : Store) → AreRising low number stores → slice_get stores i ≡ Some store → low < store.id
above-low low number [] i store rising at = absurd cc
above-low low number (s ∷ stores) zero store rising at =
    let is : s.id ≡ store.id = ap (λ (t : Store). t.id) (same_Some s store at) in
    omega (arith, is, rising.0)
above-low low number (s ∷ stores) (suc i) store rising at = omega (arith, rising.0, above-low s.id number stores i store rising.2 at)

none-other : (P : Store → Type 0) (low number id : ℕ) (stores : List Store) → AreRising low number stores → id ≤ low
    → AllByRecursion (λ (s : Store). s.id ≡ id → P s) stores
none-other P low number id [] rising le = tt
none-other P low number id (s ∷ stores) rising le =
    (λ same. absurd (let e : ⊥ = omega (arith, same, le, rising.0) in e), none-other P s.id number id stores rising.2 (omega (arith, le, rising.0)))

-- only one has its id
pub only-one : (P : Store → Type 0) (low number : ℕ) (stores : List Store) (i : ℕ) (store : Store) → AreRising low number stores
    → slice_get stores i ≡ Some store → P store → AllByRecursion (λ (s : Store). s.id ≡ store.id → P s) stores
only-one P low number [] i store rising at has = absurd cc
only-one P low number (s ∷ stores) zero store rising at has =
    let is : s ≡ store = same_Some s store at in (
      λ same. subst P (sym is) has,
      none-other P s.id number store.id stores rising.2 (let e : s.id ≡ store.id = ap (λ (t : Store). t.id) is in omega (arith, e)),
    )
only-one P low number (s ∷ stores) (suc i) store rising at has = (
  λ same. absurd (let e : ⊥ = omega (arith, same, above-low s.id number stores i store rising.2 at) in e),
  only-one P s.id number stores i store rising.2 at has,
)

-- all ids are up to the number
pub up-to : (low number : ℕ) (stores : List Store) → AreRising low number stores → AllByRecursion (λ (s : Store). s.id ≤ number) stores
up-to low number [] rising = tt
up-to low number (s ∷ stores) rising = (rising.1, up-to s.id number stores rising.2)

-- ---- what no test refuses

pub passes : (test : Bool) (reason : Refusal ℕ) (later : Option (Refusal ℕ)) → refuse test reason later ≡ None → (test ≡ false) × (later ≡ None)
passes true reason later none = absurd cc
passes false reason later none = (refl, none)

neither : (a b : Bool) → (a || b) ≡ false → (a ≡ false) × (b ≡ false)
neither true b none = absurd cc
neither false b none = (refl, none)

some-bytes : (n : ℕ) → (n == 0) ≡ false → 1 ≤ n
some-bytes n is = grind (arith, is)

within : (most n : ℕ) → nat_lt most n ≡ false → n ≤ most
within most n is = grind (arith, is)

-- what all stores of this id have, of their prefixes, if this one has it
abbrev pub OneOfId : List Store → Store → Type 1
OneOfId stores store = (P : ℕ → Type 0) → P store.prefix_length → AllByRecursion (λ (s : Store). s.id ≡ store.id → P s.prefix_length) stores

module _ (sizes : Sizes) (stores : List Store) (store : Store) (one : OneOfId stores store) (short : store.prefix_length ≤ longest_prefix)
    (small : store.id ≤ greatest_number) where
  key-fits : (key : List ℕ) (later : Option (Refusal ℕ)) → refuse ((length key == 0) || nat_lt longest_key (length key)) (key_length (length key)) later ≡ None
      → (1 ≤ length key) × (length key ≤ longest_key) × (later ≡ None)
  key-fits key later none =
      let first = passes ((length key == 0) || nat_lt longest_key (length key)) (key_length (length key)) later none in
      let tests = neither (length key == 0) (nat_lt longest_key (length key)) first.0 in
      (some-bytes (length key) tests.0, within longest_key (length key) tests.1, first.1)

  pub can-change : (change : Change) (later : Option (Refusal ℕ)) → change_refusal sizes store change later ≡ None
      → CanBeLogged sizes stores (write_to store change)
  can-change (Put key bytes) later none =
      let first = key-fits key (refuse (nat_lt (longest_value sizes) (length bytes)) (value_length (length bytes)) later) none in
      let next = passes (nat_lt (longest_value sizes) (length bytes)) (value_length (length bytes)) later first.2 in
      record {
        store = small;
        limits = (first.0, first.1);
        value_fits = within (longest_value sizes) (length bytes) next.0;
        prefixes = one (λ n. Unit {0}) tt;
      }
  can-change (Del key) later none =
      let first = key-fits key later none in
      record {
        store = small;
        limits = (first.0, first.1);
        value_fits = tt;
        prefixes = one (λ n. Unit {0}) tt;
      }
  can-change (PDel prefix) later none =
      let first = passes ((length prefix == 0) || nat_lt store.prefix_length (length prefix)) (prefix_length (length prefix)) later none in
      let tests = neither (length prefix == 0) (nat_lt store.prefix_length (length prefix)) first.0 in
      let fits : length prefix ≤ store.prefix_length = within store.prefix_length (length prefix) tests.1 in
      record {
        store = small;
        limits = (some-bytes (length prefix) tests.0, let e : length prefix ≤ longest_prefix = omega (arith, fits, short) in e);
        value_fits = tt;
        prefixes = one (λ n. length prefix ≤ n) fits;
      }
