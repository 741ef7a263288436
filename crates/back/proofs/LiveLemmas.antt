-- Stores that may stand in a base: with one more, without one, and with one number more taken.
use Rattle.std.proofs.Common.{◌≡◌, ◌∙◌, ℕ, ◌+◌, ◌-◌, ◌*◌, ◌^◌, ◌<◌, ◌≤◌, ◌==◌, ◌||◌, Bool, true, false, List, [], ◌∷◌, ◌++◌, length, refl, sym, subst, arith, cond, append_assoc, length-append}
use Rattle.std.specs.Prelude.{nat_lt, nat_le, ◌&&◌, not}
use Rattle.std.specs.List.{flat_map, list_any}
use Rattle.std.proofs.lemmas.Bool.{and_parts, and_from, cases_eq, eqb-true, leb-true, lt-ltb, le-leb, ltb-true}
use Rattle.std.proofs.lemmas.List.{append-nil}
use Rattle.byteorder.specs.Endian.{big_bytes}
use Rattle.byteorder.specs.Numbers.{length-bytes_high_first}
use Rattle.hse_rows.specs.machine.TakenRuns.{NumberRun}
use Rattle.manifest.specs.MayCome.{AreStores, IsDescribed}
use Rattle.manifest.specs.Metadata.{LiveStore, has_id, is_live, is_named, is_taken, is_used, last_by, last_id, with_taken, without}
use Rattle.manifest.specs.Reading.{may_be_next}
use Rattle.manifest.specs.Text.{described_text, mode_code, store_text}
use Rattle.back.specs.Bases.{AreKnown}
use Rattle.back.proofs.RunLemmas.{last_push, or_left, or_more, or_right, or_true, taken_still}

-- ---- names

pub or_none : (a b : Bool) → a ≡ false → b ≡ false → (a || b) ≡ false
or_none false b p q = q
or_none true b p q = absurd cc

none_left : (a b : Bool) → (a || b) ≡ false → a ≡ false
none_left false b p = refl
none_left true b p = absurd cc

none_right : (a b : Bool) → (a || b) ≡ false → b ≡ false
none_right false b p = p
none_right true b p = absurd cc

pub free_front : (name : List ℕ) (stores : List LiveStore) (store : LiveStore) → is_used name (stores ++ store ∷ []) ≡ false → is_used name stores ≡ false
free_front name [] store free = refl
free_front name (first ∷ stores) store free =
    or_none (is_named name first) (is_used name stores) (none_left (is_named name first) (is_used name (stores ++ store ∷ [])) free)
    (free_front name stores store (none_right (is_named name first) (is_used name (stores ++ store ∷ [])) free))

pub free_last : (name : List ℕ) (stores : List LiveStore) (store : LiveStore) → is_used name (stores ++ store ∷ []) ≡ false → is_named name store ≡ false
free_last name [] store free = none_left (is_named name store) false free
free_last name (first ∷ stores) store free =
    free_last name stores store (none_right (is_named name first) (is_used name (stores ++ store ∷ [])) free)

free_both : (name : List ℕ) (stores : List LiveStore) (store : LiveStore) → is_used name stores ≡ false → is_named name store ≡ false
    → is_used name (stores ++ store ∷ []) ≡ false
free_both name [] store free last = or_none (is_named name store) false last refl
free_both name (first ∷ stores) store free last =
    or_none (is_named name first) (is_used name (stores ++ store ∷ [])) (none_left (is_named name first) (is_used name stores) free)
    (free_both name stores store (none_right (is_named name first) (is_used name stores) free) last)

-- ---- what comes next

pub record MayBeNext (most horizon : ℕ) (runs : List NumberRun) (known : List LiveStore) (id : ℕ) : Type 0 where
  pub room : length known < most
  pub above : last_id known < id
  pub is_known : (nat_le id horizon || is_taken id runs) ≡ true

pub next_from : (most horizon : ℕ) (runs : List NumberRun) (known : List LiveStore) (id : ℕ) → may_be_next most horizon runs known id ≡ true
    → MayBeNext most horizon runs known id
next_from most horizon runs known id is =
    let both = and_parts (nat_lt (length known) most && nat_lt (last_id known) id) (nat_le id horizon || is_taken id runs) is in
    let first = and_parts (nat_lt (length known) most) (nat_lt (last_id known) id) both.0 in
    record { room = ltb-true _ _ first.0; above = ltb-true _ _ first.1; is_known = both.1 }

pub next_to : (most horizon : ℕ) (runs : List NumberRun) (known : List LiveStore) (id : ℕ) → MayBeNext most horizon runs known id
    → may_be_next most horizon runs known id ≡ true
next_to most horizon runs known id may =
    and_from (nat_lt (length known) most && nat_lt (last_id known) id) (nat_le id horizon || is_taken id runs)
    (and_from (nat_lt (length known) most) (nat_lt (last_id known) id) (lt-ltb _ _ may.room) (lt-ltb _ _ may.above)) may.is_known

-- with one number more that is taken
pub stores_taken : (most horizon : ℕ) (runs : List NumberRun) (number : ℕ) (known stores : List LiveStore) → AreStores most horizon runs known stores
    → AreStores most horizon (with_taken runs number) known stores
stores_taken most horizon runs number known [] are = tt
stores_taken most horizon runs number known (store ∷ stores) are =
    let next = next_from most horizon runs known store.id are.0 in (
      next_to most horizon (with_taken runs number) known store.id
          (record {
            room = next.room;
            above = next.above;
            is_known = or_more (nat_le store.id horizon) (is_taken store.id runs) (is_taken store.id (with_taken runs number)) next.is_known
                (taken_still store.id runs number);
          }),
      are.1,
      are.2,
      stores_taken most horizon runs number (known ++ store ∷ []) stores are.3,
    )

-- with one store more
pub stores_push : (most horizon : ℕ) (runs : List NumberRun) (known stores : List LiveStore) (store : LiveStore) → AreStores most horizon runs known stores
    → may_be_next most horizon runs (known ++ stores) store.id ≡ true → store.id < 2 ^ 64 → IsDescribed (known ++ stores) store
    → AreStores most horizon runs known (stores ++ store ∷ [])
stores_push most horizon runs known [] store are next fits is =
    let same : known ++ [] ≡ known = append-nil known in (
      subst (λ (l : List LiveStore). may_be_next most horizon runs l store.id ≡ true) same next,
      fits,
      subst (λ (l : List LiveStore). IsDescribed l store) same is,
      tt,
    )
stores_push most horizon runs known (first ∷ stores) store are next fits is =
    let same : known ++ first ∷ stores ≡ (known ++ first ∷ []) ++ stores = sym (append_assoc known (first ∷ []) stores) in (
      are.0,
      are.1,
      are.2,
      stores_push most horizon runs (known ++ first ∷ []) stores store are.3
          (subst (λ (l : List LiveStore). may_be_next most horizon runs l store.id ≡ true) same next) fits
          (subst (λ (l : List LiveStore). IsDescribed l store) same is),
    )

-- ---- without a store

-- fewer stores, with no other names
record AreFewer (fewer known : List LiveStore) : Type 0 where
  count : length fewer ≤ length known
  last : last_id fewer ≤ last_id known
  free : (name : List ℕ) → is_used name known ≡ false → is_used name fewer ≡ false

pub last_is : (known : List LiveStore) (store : LiveStore) → last_id (known ++ store ∷ []) ≡ store.id
last_is known store = last_push (λ (s : LiveStore). s.id) 0 known store

-- where one is not there
fewer_by : (fewer known : List LiveStore) (store : LiveStore) → last_id known < store.id → AreFewer fewer known → AreFewer fewer (known ++ store ∷ [])
fewer_by fewer known store above are = record {
  count = omega (arith, are.count, length-append known (store ∷ []));
  last = omega (arith, are.last, above, last_is known store);
  free = λ name free. are.free name (free_front name known store free);
}

both_more : (fewer known : List LiveStore) (store : LiveStore) → AreFewer fewer known → AreFewer (fewer ++ store ∷ []) (known ++ store ∷ [])
both_more fewer known store are = record {
  count = omega (arith, are.count, length-append known (store ∷ []), length-append fewer (store ∷ []));
  last = omega (arith, last_is known store, last_is fewer store);
  free = λ name free. free_both name fewer store (are.free name (free_front name known store free)) (free_last name known store free);
}

less_stores : (most horizon : ℕ) (runs : List NumberRun) (id : ℕ) (fewer known stores : List LiveStore) → AreFewer fewer known
    → AreStores most horizon runs known stores → AreStores most horizon runs fewer (without id stores)
less_stores most horizon runs id fewer known [] less are = tt
less_stores most horizon runs id fewer known (store ∷ stores) less are =
    let next = next_from most horizon runs known store.id are.0 in
    let above : last_id known < store.id = next.above in
    let kept : AreStores most horizon runs (fewer ++ store ∷ []) (without id stores) =
    less_stores most horizon runs id (fewer ++ store ∷ []) (known ++ store ∷ []) stores (both_more fewer known store less) are.3 in
    let gone : AreStores most horizon runs fewer (without id stores) =
    less_stores most horizon runs id fewer (known ++ store ∷ []) stores (fewer_by fewer known store above less) are.3 in
    elim (not (store.id == id)) as (λ b. AreStores most horizon runs fewer (cond b (store ∷ without id stores) (without id stores))) [
      | true ↦ (
        next_to most horizon runs fewer store.id
            (record { room = omega (arith, next.room, less.count); above = omega (arith, above, less.last); is_known = next.is_known }),
        are.1,
        record { name = are.2.name; free = less.free store.name are.2.free; short = are.2.short },
        kept,
      )
      | false ↦ gone
    ]

pub stores_without : (most horizon : ℕ) (runs : List NumberRun) (id : ℕ) (stores : List LiveStore) → AreStores most horizon runs [] stores
    → AreStores most horizon runs [] (without id stores)
stores_without most horizon runs id stores are =
    less_stores most horizon runs id [] [] stores (record { count = omega arith; last = omega arith; free = λ name free. refl }) are

-- ---- what is known of them

pub stores_few : (most horizon : ℕ) (runs : List NumberRun) (known stores : List LiveStore) → length known ≤ most → AreStores most horizon runs known stores
    → length known + length stores ≤ most
stores_few most horizon runs known [] few are = omega (arith, few)
stores_few most horizon runs known (store ∷ stores) few are =
    let next = next_from most horizon runs known store.id are.0 in
    let one : length (known ++ store ∷ []) ≡ length known + 1 = length-append known (store ∷ []) in
    let rest = stores_few most horizon runs (known ++ store ∷ []) stores (omega (arith, one, next.room)) are.3 in
    omega (arith, one, rest)

-- all are up to a number that the horizon and the taken ones are up to
pub stores_known : (most horizon number : ℕ) (runs : List NumberRun) (known stores : List LiveStore) → horizon ≤ number
    → ((id : ℕ) → is_taken id runs ≡ true → id ≤ number) → AreStores most horizon runs known stores → AreKnown number stores
stores_known most horizon number runs known [] low up are = tt
stores_known most horizon number runs known (store ∷ stores) low up are =
    let next = next_from most horizon runs known store.id are.0 in
    let within : store.id ≤ number =
    or_true (nat_le store.id horizon) (is_taken store.id runs) (store.id ≤ number) next.is_known (λ le. omega (arith, leb-true _ _ le, low)) (up store.id) in
    ((within, are.2.short), stores_known most horizon number runs (known ++ store ∷ []) stores low up are.3)

-- a live store's id has eight bytes
pub live_fits : (most horizon : ℕ) (runs : List NumberRun) (known stores : List LiveStore) (id : ℕ) → AreStores most horizon runs known stores
    → is_live id stores ≡ true → id < 2 ^ 64
live_fits most horizon runs known [] id are live = absurd cc
live_fits most horizon runs known (store ∷ stores) id are live =
    or_true (has_id id store) (is_live id stores) (id < 2 ^ 64) live
    (λ here. omega (arith, are.1, eqb-true store.id id here))
    (λ there. live_fits most horizon runs (known ++ store ∷ []) stores id are.3 there)

-- ids rise
rising_last : (most horizon low : ℕ) (runs : List NumberRun) (known stores : List LiveStore) → AreStores most horizon runs known stores
    → last_id known ≤ low → horizon ≤ low → ((id : ℕ) → is_taken id runs ≡ true → id ≤ low) → last_id (known ++ stores) ≤ low
rising_last most horizon low runs known [] are last le up = subst (λ (l : List LiveStore). last_id l ≤ low) (sym (append-nil known)) last
rising_last most horizon low runs known (store ∷ stores) are last le up =
    let next = next_from most horizon runs known store.id are.0 in
    let within : store.id ≤ low =
    or_true (nat_le store.id horizon) (is_taken store.id runs) (store.id ≤ low) next.is_known (λ e. omega (arith, leb-true _ _ e, le)) (up store.id) in
    let one : last_id (known ++ store ∷ []) ≤ low = omega (arith, last_is known store, within) in
    subst (λ (l : List LiveStore). last_id l ≤ low) (append_assoc known (store ∷ []) stores)
    (rising_last most horizon low runs (known ++ store ∷ []) stores are.3 one le up)

pub last_known_id : (most horizon low : ℕ) (runs : List NumberRun) (stores : List LiveStore) → AreStores most horizon runs [] stores → horizon ≤ low
    → ((id : ℕ) → is_taken id runs ≡ true → id ≤ low) → last_id stores ≤ low
last_known_id most horizon low runs stores are le up = rising_last most horizon low runs [] stores are (omega arith) le up

-- ---- their text

described_length : (store : LiveStore) → length (described_text store) ≡ 3 + length store.name
described_length store =
    omega (
      arith,
      length-append (big_bytes 1 (length store.name) ++ store.name) (big_bytes 1 (mode_code store.mode) ++ big_bytes 1 store.prefix_length),
      length-append (big_bytes 1 (length store.name)) store.name,
      length-append (big_bytes 1 (mode_code store.mode)) (big_bytes 1 store.prefix_length),
      length-bytes_high_first 1 (length store.name),
      length-bytes_high_first 1 (mode_code store.mode),
      length-bytes_high_first 1 store.prefix_length,
    )

store_length : (store : LiveStore) → length (store_text store) ≡ 15 + length store.name
store_length store =
    omega (
      arith,
      length-append (big_bytes 8 store.id) (described_text store ++ big_bytes 4 0),
      length-append (described_text store) (big_bytes 4 0),
      length-bytes_high_first 8 store.id,
      length-bytes_high_first 4 0,
      described_length store,
    )

pub stores_length : (most horizon : ℕ) (runs : List NumberRun) (known stores : List LiveStore) → AreStores most horizon runs known stores
    → length (flat_map store_text stores) ≤ 46 * length stores
stores_length most horizon runs known [] are = omega arith
stores_length most horizon runs known (store ∷ stores) are =
    let rest = stores_length most horizon runs (known ++ store ∷ []) stores are.3 in
    let short : length store.name ≤ 31 = are.2.name.most in
    omega (arith, length-append (store_text store) (flat_map store_text stores), store_length store, rest, short)
