-- The stores that a manifest says are apart: ids rise, and names differ.
use Rattle.std.proofs.Common.{◌≡◌, ◌∙◌, ℕ, zero, suc, ◌+◌, ◌-◌, ◌<◌, ◌≤◌, ◌==◌, Bool, true, false, not, cond, ◌||◌, ◌&&◌, List, [], ◌∷◌, ◌++◌, length, Option, Some, None, Ok, Err, refl, subst, arith}
use Rattle.std.specs.Prelude.{Result, nat_lt, nat_le, if◌then◌else◌}
use Rattle.std.specs.List.{list_any, list_all}
use Rattle.std.specs.Cmp.Lexicographic.{nat_list_eq_equiv}
use Rattle.std.proofs.lemmas.Bool.{and_parts, leb-true, ltb-true, eqb-true}
use Rattle.hse_fields.specs.Fields.{number_of, bytes_of}
use Rattle.hse_fields.specs.LogReading.{ensure, size_of}
use Rattle.hse_fields.specs.laws.Fields.{bind_ok, ensure_ok, ok_is}
use Rattle.hse_rows.specs.machine.TakenRuns.{NumberRun, longest_run}
use Rattle.hse_rows.specs.writes.Names.{is_name_byte}
use Rattle.hse_rows.specs.writes.NormalForm.{same}
use Rattle.gate_log.specs.Places.{need_of}
use Rattle.manifest.specs.Half.{entries_of, placed}
use Rattle.manifest.specs.Metadata.{LiveStore, Metadata, AreRising, AreNamedApart, AreApart, greatest_number, is_in_run, is_joined, is_named, is_live, is_taken, is_used, joined, last_by, last_id, last_known, last_of_run, may_be_number, with_store, with_taken, without, without_store}
use Rattle.manifest.specs.Reading.{RunsRead, many, no_runs, with_run, run_of, run_step, runs_of, name_of, mode_of, described_of, store_of, store_step, stores_of, may_be_next, base_of, create_of, drop_of, entry_of, payload_of}
use Rattle.manifest.specs.Text.{base_kind, create_kind, drop_kind}

-- ---- tests of one or another

or_none : (a b : Bool) → a ≡ false → b ≡ false → (a || b) ≡ false
or_none false b p q = q
or_none true b p q = absurd cc

or_left : (a b : Bool) → (a || b) ≡ false → a ≡ false
or_left false b p = refl
or_left true b p = absurd cc

or_right : (a b : Bool) → (a || b) ≡ false → b ≡ false
or_right false b p = p
or_right true b p = absurd cc

-- ---- one store more

rising_more : (low number more : ℕ) (stores : List LiveStore) → number ≤ more → AreRising low number stores → AreRising low more stores
rising_more low number more [] le rising = tt
rising_more low number more (store ∷ stores) le rising = (rising.0, omega (arith, le, rising.1), rising_more store.id number more stores le rising.2)

rising_push : (low number : ℕ) (stores : List LiveStore) (store : LiveStore) → last_by (λ (s : LiveStore). s.id) low stores < store.id → store.id ≤ number
    → AreRising low number stores → AreRising low number (stores ++ store ∷ [])
rising_push low number [] store above within rising = (above, within, tt)
rising_push low number (first ∷ stores) store above within rising = (rising.0, rising.1, rising_push first.id number stores store above within rising.2)

rising_last : (low number : ℕ) (stores : List LiveStore) → low ≤ number → AreRising low number stores → last_by (λ (s : LiveStore). s.id) low stores ≤ number
rising_last low number [] le rising = le
rising_last low number (store ∷ stores) le rising = rising_last store.id number stores rising.1 rising.2

any_push : (p : LiveStore → Bool) (stores : List LiveStore) (store : LiveStore) → list_any p stores ≡ false → p store ≡ false → list_any p (stores ++ store ∷ []) ≡ false
any_push p [] store none last = or_none (p store) false last refl
any_push p (first ∷ stores) store none last =
    or_none (p first) (list_any p (stores ++ store ∷ [])) (or_left (p first) (list_any p stores) none)
    (any_push p stores store (or_right (p first) (list_any p stores) none) last)

named_push : (stores : List LiveStore) (store : LiveStore) → is_used store.name stores ≡ false → AreNamedApart stores → AreNamedApart (stores ++ store ∷ [])
named_push [] store free apart = (refl, tt)
named_push (first ∷ stores) store free apart = (
  any_push (is_named first.name) stores store apart.0
      (nat_list_eq_equiv.symm store.name first.name ∙ or_left (same first.name store.name) (is_used store.name stores) free),
  named_push stores store (or_right (same first.name store.name) (is_used store.name stores) free) apart.1,
)

-- ---- one store less

rising_lower : (low high number : ℕ) (stores : List LiveStore) → low ≤ high → AreRising high number stores → AreRising low number stores
rising_lower low high number [] below rising = tt
rising_lower low high number (store ∷ stores) below rising = (omega (arith, below, rising.0), rising.1, rising.2)

rising_without : (id low number : ℕ) (stores : List LiveStore) → AreRising low number stores → AreRising low number (without id stores)
rising_without id low number [] rising = tt
rising_without id low number (store ∷ stores) rising =
    let rest : AreRising store.id number (without id stores) = rising_without id store.id number stores rising.2 in
    elim (not (store.id == id)) as (λ b. AreRising low number (cond b (store ∷ without id stores) (without id stores))) [
      | true ↦ (rising.0, rising.1, rest)
      | false ↦ rising_lower low store.id number (without id stores) (omega (arith, rising.0)) rest
    ]

any_without : (p : LiveStore → Bool) (id : ℕ) (stores : List LiveStore) → list_any p stores ≡ false → list_any p (without id stores) ≡ false
any_without p id [] none = refl
any_without p id (store ∷ stores) none =
    let rest : list_any p (without id stores) ≡ false = any_without p id stores (or_right (p store) (list_any p stores) none) in
    elim (not (store.id == id)) as (λ b. list_any p (cond b (store ∷ without id stores) (without id stores)) ≡ false) [
      | true ↦ or_none (p store) (list_any p (without id stores)) (or_left (p store) (list_any p stores) none) rest
      | false ↦ rest
    ]

named_without : (id : ℕ) (stores : List LiveStore) → AreNamedApart stores → AreNamedApart (without id stores)
named_without id [] apart = tt
named_without id (store ∷ stores) apart =
    let rest : AreNamedApart (without id stores) = named_without id stores apart.1 in
    elim (not (store.id == id)) as (λ b. AreNamedApart (cond b (store ∷ without id stores) (without id stores))) [
      | true ↦ (any_without (is_named store.name) id stores apart.0, rest)
      | false ↦ rest
    ]

-- ---- taken numbers

last_push : {A : Type 0} (f : A → ℕ) (low : ℕ) (xs : List A) (x : A) → last_by f low (xs ++ x ∷ []) ≡ f x
last_push {A = A} f low [] x = refl
last_push {A = A} f low (y ∷ xs) x = last_push f (f y) xs x

last_joined : (low : ℕ) (run : NumberRun) (number : ℕ) → last_by last_of_run low (joined run number) ≡ number
last_joined low run number = by (is_joined run number) refl
  where
    by : (b : Bool) → is_joined run number ≡ b → last_by last_of_run low (joined run number) ≡ number
    by true is = rw is (omega (arith, eqb-true _ _ (and_parts (number == run.first + run.count) (nat_lt run.count longest_run) is).0))
    by false is = rw is (omega arith)

last_taken : (low : ℕ) (runs : List NumberRun) (number : ℕ) → last_by last_of_run low (with_taken runs number) ≡ number
last_taken low [] number = omega arith
last_taken low (run ∷ []) number = last_joined low run number
last_taken low (run ∷ next ∷ runs) number = last_taken (last_of_run run) (next ∷ runs) number

-- what is known of runs that were read: the last number of them, below which all their numbers are
record AreBelow (horizon : ℕ) (read : RunsRead) : Type 0 where
  low : horizon ≤ read.low
  last : last_by last_of_run horizon read.runs ≡ read.low
  within : (id : ℕ) → is_taken id read.runs ≡ true → id ≤ read.low

or_true : (a b : Bool) (P : Type 0) → (a || b) ≡ true → (a ≡ true → P) → (b ≡ true → P) → P
or_true true b P is one other = one refl
or_true false b P is one other = other is

any_push_true : (id : ℕ) (runs : List NumberRun) (run : NumberRun) (P : Type 0) → is_taken id (runs ++ run ∷ []) ≡ true
    → (is_taken id runs ≡ true → P) → (is_in_run id run ≡ true → P) → P
any_push_true id [] run P is old new = or_true (is_in_run id run) false P is new (λ bad. absurd cc)
any_push_true id (first ∷ runs) run P is old new =
    or_true (is_in_run id first) (is_taken id (runs ++ run ∷ [])) P is (λ here. old (first_true (is_in_run id first) (is_taken id runs) here))
    (λ more. any_push_true id runs run P more (λ there. old (second_true (is_in_run id first) (is_taken id runs) there)) new)
  where
    first_true : (a b : Bool) → a ≡ true → (a || b) ≡ true
    first_true a b is = rw is refl

    second_true : (a b : Bool) → b ≡ true → (a || b) ≡ true
    second_true true b is = refl
    second_true false b is = is

-- a run behind this number has at least one number
record IsRunBehind (low : ℕ) (run : NumberRun) : Type 0 where
  above : low < run.first
  some : 1 ≤ run.count

run_behind : (low : ℕ) (joins : Bool) (bytes : List ℕ) (x : NumberRun × List ℕ) → run_of low joins bytes ≡ Ok x → IsRunBehind low x.0
unfolding run_of
run_behind low joins bytes x e =
    let gap = bind_ok (number_of 4 bytes) _ x e in
    let apart = bind_ok (ensure (nat_lt 0 gap.0.0 || joins) (length bytes)) _ x gap.2 in
    let small = bind_ok (ensure (nat_lt (low + gap.0.0) greatest_number) (length bytes)) _ x apart.2 in
    let count = bind_ok (number_of 4 gap.0.1) _ x small.2 in
    let some = bind_ok (ensure (nat_lt 0 count.0.0) (length gap.0.1)) _ x count.2 in
    let fits = bind_ok (ensure (nat_le (low + gap.0.0 + count.0.0) greatest_number) (length gap.0.1)) _ x some.2 in
    let run : NumberRun = record { first = low + gap.0.0 + 1; count = count.0.0 } in
    let one : 0 < count.0.0 = ltb-true _ _ (ensure_ok (nat_lt 0 count.0.0) (length gap.0.1) some.0 some.1) in
    subst (λ (y : NumberRun × List ℕ). IsRunBehind low y.0) (ok_is (run, count.0.1) x fits.2) (record { above = omega arith; some = omega (arith, one) })

runs_more : (horizon : ℕ) (read : RunsRead) (bytes : List ℕ) (x : RunsRead × List ℕ) → AreBelow horizon read → run_step read bytes ≡ Ok x → AreBelow horizon x.0
unfolding run_step
runs_more horizon read bytes x so_far e =
    let run = bind_ok (run_of read.low read.joins bytes) _ x e in
    let behind = run_behind read.low read.joins bytes run.0 run.1 in
    subst (λ (y : RunsRead × List ℕ). AreBelow horizon y.0) (ok_is (with_run read run.0.0, run.0.1) x run.2)
    (record {
      low = omega (arith, so_far.low, behind.above, behind.some);
      last = last_push last_of_run horizon read.runs run.0.0;
      within = λ id is. any_push_true id read.runs run.0.0 (id ≤ last_of_run run.0.0) is
          (λ old. omega (arith, so_far.within id old, behind.above, behind.some))
          (λ new. omega (arith, ltb-true _ _ (and_parts (nat_le run.0.0.first id) (nat_lt id (run.0.0.first + run.0.0.count)) new).1));
    })

many_keeps : {S : Type 0} (Holds : S → Type 0) (step : S → List ℕ → Result (S × List ℕ) ℕ)
    → ((state : S) (bytes : List ℕ) (x : S × List ℕ) → Holds state → step state bytes ≡ Ok x → Holds x.0)
    → (n : ℕ) (state : S) (bytes : List ℕ) (x : S × List ℕ) → Holds state → many step state n bytes ≡ Ok x → Holds x.0
unfolding many
many_keeps {S = S} Holds step keeps zero state bytes x holds e = subst (λ (y : S × List ℕ). Holds y.0) (ok_is (state, bytes) x e) holds
many_keeps {S = S} Holds step keeps (suc n) state bytes x holds e =
    let after = bind_ok (step state bytes) _ x e in
    many_keeps Holds step keeps n after.0.0 after.0.1 x (keeps state bytes after.0 holds after.1) after.2

-- all numbers of runs that were read are known
runs_known : (horizon count : ℕ) (bytes : List ℕ) (x : List NumberRun × List ℕ) → runs_of horizon count bytes ≡ Ok x
    → (horizon ≤ last_by last_of_run horizon x.0) × ((id : ℕ) → is_taken id x.0 ≡ true → id ≤ last_by last_of_run horizon x.0)
runs_known horizon count bytes x e =
    let read = bind_ok (many run_step (no_runs horizon) count bytes) _ x e in
    let below = many_keeps (AreBelow horizon) run_step (runs_more horizon) count (no_runs horizon) bytes read.0
    (record { low = omega arith; last = refl; within = λ id bad. absurd cc }) read.1 in
    subst (λ (y : List NumberRun × List ℕ). (horizon ≤ last_by last_of_run horizon y.0) × ((id : ℕ) → is_taken id y.0 ≡ true → id ≤ last_by last_of_run horizon y.0))
    (ok_is (read.0.0.runs, read.0.1) x read.2)
    (omega (arith, below.low, below.last), λ id is. omega (arith, below.within id is, below.last))

-- ---- stores

record IsNewStore (stores : List LiveStore) (id : ℕ) (store : LiveStore) : Type 0 where
  id_is : store.id ≡ id
  free : is_used store.name stores ≡ false

pub not_true : (b : Bool) → not b ≡ true → b ≡ false
not_true true is = absurd cc
not_true false is = refl

named_new : (stores : List LiveStore) (bytes : List ℕ) (x : List ℕ × List ℕ) → name_of stores bytes ≡ Ok x → is_used x.0 stores ≡ false
unfolding name_of
named_new stores bytes x e =
    let size = bind_ok (size_of 1 1 31 bytes) _ x e in
    let name = bind_ok (bytes_of size.0.0 size.0.1) _ x size.2 in
    let letters = bind_ok (ensure (list_all is_name_byte name.0.0) (length size.0.1)) _ x name.2 in
    let free = bind_ok (ensure (not (is_used name.0.0 stores)) (length size.0.1)) _ x letters.2 in
    subst (λ (y : List ℕ × List ℕ). is_used y.0 stores ≡ false) (ok_is name.0 x free.2)
    (not_true (is_used name.0.0 stores) (ensure_ok (not (is_used name.0.0 stores)) (length size.0.1) free.0 free.1))

described_new : (stores : List LiveStore) (id : ℕ) (bytes : List ℕ) (x : LiveStore × List ℕ) → described_of stores id bytes ≡ Ok x → IsNewStore stores id x.0
unfolding described_of
described_new stores id bytes x e =
    let name = bind_ok (name_of stores bytes) _ x e in
    let mode = bind_ok (mode_of name.0.1) _ x name.2 in
    let prefix = bind_ok (number_of 1 mode.0.1) _ x mode.2 in
    let short = bind_ok (ensure (nat_le prefix.0.0 32) (length mode.0.1)) _ x prefix.2 in
    let store : LiveStore = record { id = id; name = name.0.0; mode = mode.0.0; prefix_length = prefix.0.0 } in
    subst (λ (y : LiveStore × List ℕ). IsNewStore stores id y.0) (ok_is (store, prefix.0.1) x short.2)
    (record { id_is = refl; free = named_new stores bytes name.0 name.1 })

record AreStoresApart (number : ℕ) (stores : List LiveStore) : Type 0 where
  rising : AreRising 0 number stores
  named : AreNamedApart stores

store_more : (most horizon number : ℕ) (runs : List NumberRun) → horizon ≤ number → ((id : ℕ) → is_taken id runs ≡ true → id ≤ number)
    → (stores : List LiveStore) (bytes : List ℕ) (x : List LiveStore × List ℕ) → AreStoresApart number stores
    → store_step most horizon runs stores bytes ≡ Ok x → AreStoresApart number x.0
unfolding store_step store_of
store_more most horizon number runs low known stores bytes x apart e =
    let store = bind_ok (store_of most horizon runs stores bytes) _ x e in
    let id = bind_ok (number_of 8 bytes) _ store.0 store.1 in
    let next = bind_ok (ensure (may_be_next most horizon runs stores id.0.0) (length bytes)) _ store.0 id.2 in
    let described = bind_ok (described_of stores id.0.0 id.0.1) _ store.0 next.2 in
    let nodes = bind_ok (number_of 4 described.0.1) _ store.0 described.2 in
    let none = bind_ok (ensure (nodes.0.0 == 0) (length described.0.1)) _ store.0 nodes.2 in
    let new : IsNewStore stores id.0.0 store.0.0 =
    subst (λ (y : LiveStore × List ℕ). IsNewStore stores id.0.0 y.0) (ok_is (described.0.0, nodes.0.1) store.0 none.2)
    (described_new stores id.0.0 id.0.1 described.0 described.1) in
    let may = and_parts (nat_lt (length stores) most && nat_lt (last_id stores) id.0.0) (nat_le id.0.0 horizon || is_taken id.0.0 runs)
    (ensure_ok (may_be_next most horizon runs stores id.0.0) (length bytes) next.0 next.1) in
    let above = ltb-true (last_id stores) id.0.0 (and_parts (nat_lt (length stores) most) (nat_lt (last_id stores) id.0.0) may.0).1 in
    let within : id.0.0 ≤ number =
    or_true (nat_le id.0.0 horizon) (is_taken id.0.0 runs) (id.0.0 ≤ number) may.1 (λ le. omega (arith, leb-true _ _ le, low)) (known id.0.0) in
    subst (λ (y : List LiveStore × List ℕ). AreStoresApart number y.0) (ok_is (stores ++ store.0.0 ∷ [], store.0.1) x store.2)
    (record {
      rising = rising_push 0 number stores store.0.0 (omega (arith, above, new.id_is)) (omega (arith, within, new.id_is)) apart.rising;
      named = named_push stores store.0.0 new.free apart.named;
    })

-- ---- entries

base_apart : (most : ℕ) (bytes : List ℕ) (x : Metadata × List ℕ) → base_of most bytes ≡ Ok x → AreApart x.0
unfolding base_of
base_apart most bytes x e =
    let horizon = bind_ok (number_of 8 bytes) _ x e in
    let small = bind_ok (ensure (nat_le horizon.0.0 greatest_number) (length bytes)) _ x horizon.2 in
    let first = bind_ok (number_of 8 horizon.0.1) _ x small.2 in
    let one = bind_ok (ensure (first.0.0 == 1) (length horizon.0.1)) _ x first.2 in
    let runs = bind_ok (number_of 4 first.0.1) _ x one.2 in
    let taken = bind_ok (runs_of horizon.0.0 runs.0.0 runs.0.1) _ x runs.2 in
    let count = bind_ok (number_of 4 taken.0.1) _ x taken.2 in
    let stores = bind_ok (stores_of most horizon.0.0 taken.0.0 count.0.0 count.0.1) _ x count.2 in
    let known = runs_known horizon.0.0 runs.0.0 runs.0.1 taken.0 taken.1 in
    let number : ℕ = last_by last_of_run horizon.0.0 taken.0.0 in
    let apart : AreStoresApart (last_by last_of_run horizon.0.0 taken.0.0) stores.0.0 =
    many_keeps (AreStoresApart (last_by last_of_run horizon.0.0 taken.0.0)) (store_step most horizon.0.0 taken.0.0)
    (store_more most horizon.0.0 (last_by last_of_run horizon.0.0 taken.0.0) taken.0.0 known.0 known.1) count.0.0 [] count.0.1 stores.0
    (record { rising = tt; named = tt }) stores.1 in
    let m : Metadata = record { horizon = horizon.0.0; first_segment = first.0.0; taken = taken.0.0; stores = stores.0.0 } in
    subst (λ (y : Metadata × List ℕ). AreApart y.0) (ok_is (m, stores.0.1) x stores.2) (record { rising = apart.rising; named = apart.named })

create_apart : (most : ℕ) (m : Metadata) (bytes : List ℕ) (x : Metadata × List ℕ) → AreApart m → create_of most m bytes ≡ Ok x → AreApart x.0
unfolding create_of
create_apart most m bytes x apart e =
    let number = bind_ok (number_of 8 bytes) _ x e in
    let next = bind_ok (ensure (may_be_number m number.0.0 && nat_lt (length m.stores) most) (length bytes)) _ x number.2 in
    let store = bind_ok (described_of m.stores number.0.0 number.0.1) _ x next.2 in
    let new = described_new m.stores number.0.0 number.0.1 store.0 store.1 in
    let may = and_parts (may_be_number m number.0.0) (nat_lt (length m.stores) most)
    (ensure_ok (may_be_number m number.0.0 && nat_lt (length m.stores) most) (length bytes) next.0 next.1) in
    let above : last_known m < number.0.0 = ltb-true _ _ (and_parts (nat_lt (last_known m) number.0.0) (nat_le number.0.0 greatest_number) may.0).0 in
    let known : last_by last_of_run m.horizon (with_taken m.taken number.0.0) ≡ number.0.0 = last_taken m.horizon m.taken number.0.0 in
    let last = rising_last 0 (last_known m) m.stores (omega arith) apart.rising in
    subst (λ (y : Metadata × List ℕ). AreApart y.0) (ok_is (with_store m number.0.0 store.0.0, store.0.1) x store.2)
    (record {
      rising = rising_push 0 (last_by last_of_run m.horizon (with_taken m.taken number.0.0)) m.stores store.0.0
          (omega (arith, last, above, new.id_is)) (omega (arith, known, new.id_is))
          (rising_more 0 (last_known m) (last_by last_of_run m.horizon (with_taken m.taken number.0.0)) m.stores (omega (arith, known, above)) apart.rising);
      named = named_push m.stores store.0.0 new.free apart.named;
    })

drop_apart : (m : Metadata) (bytes : List ℕ) (x : Metadata × List ℕ) → AreApart m → drop_of m bytes ≡ Ok x → AreApart x.0
unfolding drop_of
drop_apart m bytes x apart e =
    let number = bind_ok (number_of 8 bytes) _ x e in
    let next = bind_ok (ensure (may_be_number m number.0.0) (length bytes)) _ x number.2 in
    let id = bind_ok (number_of 8 number.0.1) _ x next.2 in
    let live = bind_ok (ensure (is_live id.0.0 m.stores) (length number.0.1)) _ x id.2 in
    let above : last_known m < number.0.0 =
    ltb-true _ _ (and_parts (nat_lt (last_known m) number.0.0) (nat_le number.0.0 greatest_number) (ensure_ok (may_be_number m number.0.0) (length bytes) next.0 next.1)).0 in
    let known : last_by last_of_run m.horizon (with_taken m.taken number.0.0) ≡ number.0.0 = last_taken m.horizon m.taken number.0.0 in
    subst (λ (y : Metadata × List ℕ). AreApart y.0) (ok_is (without_store m number.0.0 id.0.0, id.0.1) x live.2)
    (record {
      rising = rising_more 0 (last_known m) (last_by last_of_run m.horizon (with_taken m.taken number.0.0)) (without id.0.0 m.stores) (omega (arith, known, above))
          (rising_without id.0.0 0 (last_known m) m.stores apart.rising);
      named = named_without id.0.0 m.stores apart.named;
    })

AreApartIf : Option Metadata → Type 0
AreApartIf None = Unit {0}
AreApartIf (Some m) = AreApart m

chosen : {A : Type 0} (P : A → Type 0) (b : Bool) (one other : Result A ℕ) (x : A) → (if b then one else other) ≡ Ok x → (one ≡ Ok x → P x) → (other ≡ Ok x → P x) → P x
chosen {A = A} P true one other x e first second = first e
chosen {A = A} P false one other x e first second = second e

pub refused_ok : {A : Type 0} (left : ℕ) (x : A) → Err left ≡ Ok x → ⊥
refused_ok {A = A} left x e = cc

entry_apart : (most : ℕ) (before : Option Metadata) (kind left : ℕ) (bytes : List ℕ) (x : Metadata × List ℕ) → AreApartIf before
    → entry_of most before kind left bytes ≡ Ok x → AreApart x.0
unfolding entry_of AreApartIf
entry_apart most None kind left bytes x apart e =
    chosen (λ (y : Metadata × List ℕ). AreApart y.0) (kind == base_kind) (base_of most bytes) (Err left) x e (base_apart most bytes x) (λ bad. absurd (refused_ok left x bad))
entry_apart most (Some m) kind left bytes x apart e =
    chosen (λ (y : Metadata × List ℕ). AreApart y.0) (kind == create_kind) (create_of most m bytes) _ x e (create_apart most m bytes x apart)
    (λ more. chosen (λ (y : Metadata × List ℕ). AreApart y.0) (kind == drop_kind) (drop_of m bytes) (Err left) x more (drop_apart m bytes x apart)
    (λ bad. absurd (refused_ok left x bad)))

payload_apart : (most : ℕ) (before : Option Metadata) (bytes : List ℕ) (m : Metadata) → AreApartIf before → payload_of most before bytes ≡ Ok m → AreApart m
unfolding payload_of
payload_apart most before bytes m apart e =
    let kind = bind_ok (number_of 1 bytes) _ m e in
    let after = bind_ok (entry_of most before kind.0.0 (length bytes) kind.0.1) _ m kind.2 in
    let ended = bind_ok (ensure (length after.0.1 == 0) (4 + length bytes)) _ m after.2 in
    subst AreApart (ok_is after.0.0 m ended.2) (entry_apart most before kind.0.0 (length bytes) kind.0.1 after.0 apart after.1)

placed_ok : {A : Type 0} (end : ℕ) (r : Result A ℕ) (x : A) → placed end r ≡ Ok x → r ≡ Ok x
placed_ok {A = A} end (Ok y) x e = e
placed_ok {A = A} end (Err left) x e = absurd (refused_ok (end - left) x e)

-- The metadata after batches are apart where those before them are.
entries_apart : (most : ℕ) (before : Option Metadata) (gate : ℕ) (payloads : List (List ℕ)) (after : Option Metadata) → AreApartIf before
    → entries_of most before gate payloads ≡ Ok after → AreApartIf after
unfolding entries_of AreApartIf
entries_apart most before gate [] after apart e = subst AreApartIf (ok_is before after e) apart
entries_apart most before gate (payload ∷ payloads) after apart e =
    let one = bind_ok (placed (gate + need_of payload) (payload_of most before payload)) _ after e in
    entries_apart most (Some one.0) (gate + need_of payload) payloads after
    (payload_apart most before payload one.0 apart (placed_ok (gate + need_of payload) (payload_of most before payload) one.0 one.1)) one.2

-- So are those that batches say.
pub all_apart : (most gate : ℕ) (payloads : List (List ℕ)) (m : Metadata) → entries_of most None gate payloads ≡ Ok (Some m) → AreApart m
unfolding AreApartIf
all_apart most gate payloads m e = entries_apart most None gate payloads (Some m) tt e
