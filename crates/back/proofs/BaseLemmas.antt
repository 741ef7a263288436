-- What a manifest says may be a base, but for the gaps between its taken numbers and the counts of its runs.
use Rattle.std.proofs.Common.{◌≡◌, ◌∙◌, ℕ, zero, suc, ◌+◌, ◌-◌, ◌*◌, ◌^◌, ◌<◌, ◌≤◌, ◌==◌, ◌||◌, Bool, true, false, List, [], ◌∷◌, ◌++◌, length, Option, Some, None, Ok, Err, refl, sym, ap, subst, arith}
use Rattle.std.specs.Prelude.{Result, nat_lt, nat_le, ◌&&◌, not, if◌then◌else◌}
use Rattle.std.specs.List.{list_all, sum_by}
use Rattle.std.proofs.lemmas.Bool.{and_parts, eqb-true, eq-eqb, le-leb, leb-true, ltb-true}
use Rattle.std.proofs.lemmas.List.{length-append}
use Rattle.std.proofs.lemmas.List.Sums.{sum_by-cons}
use Rattle.hse_fields.specs.Fields.{number_of, bytes_of}
use Rattle.hse_fields.specs.LogReading.{ensure, size_of}
use Rattle.hse_fields.specs.laws.Fields.{bind_ok, bytes_length, ensure_ok, number_length, ok_is}
use Rattle.hse_rows.specs.machine.TakenRuns.{NumberRun, longest_run}
use Rattle.hse_rows.specs.writes.Lengths.{longest_prefix}
use Rattle.hse_rows.specs.writes.Names.{IsName, is_name_byte}
use Rattle.gate_log.specs.Places.{need_of}
use Rattle.manifest.specs.Half.{entries_of, placed}
use Rattle.manifest.specs.MayCome.{AreStores, IsDescribed, MayCreate, MayDrop}
use Rattle.manifest.specs.Metadata.{LiveStore, Metadata, greatest_number, is_live, is_taken, is_used, last_by, last_id, last_known, last_of_run, may_be_number, with_store, with_taken, without_store}
use Rattle.manifest.specs.Reading.{RunsRead, base_of, create_of, described_of, drop_of, entry_of, many, may_be_next, mode_of, name_of, no_runs, payload_of, run_of, run_step, runs_of, store_of, store_step, stores_of, with_run}
use Rattle.manifest.specs.Text.{base_kind, create_kind, drop_kind}
use Rattle.back.proofs.LiveLemmas.{MayBeNext, last_known_id, next_from, next_to, stores_push, stores_taken, stores_without}
use Rattle.back.proofs.RunLemmas.{AreStanding, MayStand, full_by, full_push, is_full, last_push, low_last, or_more, or_right, or_true, standing_push, taken_count, taken_last, taken_now, taken_small, taken_stand}

-- these may be a base, but for gaps and counts
pub record IsLoose (most : ℕ) (m : Metadata) : Type 0 where
  pub horizon : m.horizon ≤ greatest_number
  pub first : m.first_segment ≡ 1
  pub runs : AreStanding m.horizon true m.taken
  pub stores : AreStores most m.horizon m.taken [] m.stores

-- ---- a creation and a drop

record IsNumber (m : Metadata) (number : ℕ) : Type 0 where
  above : last_known m < number
  small : number ≤ greatest_number

number_from : (m : Metadata) (number : ℕ) → may_be_number m number ≡ true → IsNumber m number
number_from m number is =
    let both = and_parts (nat_lt (last_known m) number) (nat_le number greatest_number) is in
    record { above = ltb-true _ _ both.0; small = leb-true _ _ both.1 }

pub loose_created : (most : ℕ) (m : Metadata) (store : LiveStore) → IsLoose most m → MayCreate most m store → IsLoose most (with_store m store.id store)
loose_created most m store loose may =
    let number = number_from m store.id may.number in
    let last : last_id m.stores ≤ last_known m =
    last_known_id most m.horizon (last_known m) m.taken m.stores loose.stores (low_last m.horizon true m.taken loose.runs)
    (λ id is. taken_last id m.horizon true m.taken loose.runs is) in
    record {
      horizon = loose.horizon;
      first = loose.first;
      runs = taken_stand m.horizon m.taken store.id loose.runs number.above number.small;
      stores = stores_push most m.horizon (with_taken m.taken store.id) [] m.stores store
          (stores_taken most m.horizon m.taken store.id [] m.stores loose.stores)
          (next_to most m.horizon (with_taken m.taken store.id) m.stores store.id
          (record {
            room = may.room;
            above = omega (arith, last, number.above);
            is_known = or_right (nat_le store.id m.horizon) (is_taken store.id (with_taken m.taken store.id)) (taken_now m.taken store.id);
          }))
          (omega (arith, number.small)) may.described;
    }

pub loose_dropped : (most : ℕ) (m : Metadata) (number id : ℕ) → IsLoose most m → may_be_number m number ≡ true → IsLoose most (without_store m number id)
loose_dropped most m number id loose may =
    let next = number_from m number may in
    record {
      horizon = loose.horizon;
      first = loose.first;
      runs = taken_stand m.horizon m.taken number loose.runs next.above next.small;
      stores = stores_without most m.horizon (with_taken m.taken number) id m.stores
          (stores_taken most m.horizon m.taken number [] m.stores loose.stores);
    }

-- ---- runs that are read

-- what so many bytes said, with so many bytes behind it
record AreRead (horizon total : ℕ) (read : RunsRead) (bytes : List ℕ) : Type 0 where
  standing : AreStanding horizon true read.runs
  last : last_by last_of_run horizon read.runs ≡ read.low
  joins : read.joins ≡ true → full_by true read.runs ≡ true
  long : 8 * length read.runs + length bytes ≤ total

record IsRunRead (low : ℕ) (joins full : Bool) (bytes : List ℕ) (x : NumberRun × List ℕ) : Type 0 where
  stands : MayStand low full x.0
  length_is : 8 + length x.1 ≡ length bytes

run_stands : (low : ℕ) (joins full : Bool) (bytes : List ℕ) (x : NumberRun × List ℕ) → (joins ≡ true → full ≡ true) → run_of low joins bytes ≡ Ok x
    → IsRunRead low joins full bytes x
unfolding run_of
run_stands low joins full bytes x fills e =
    let gap = bind_ok (number_of 4 bytes) _ x e in
    let apart = bind_ok (ensure (nat_lt 0 gap.0.0 || joins) (length bytes)) _ x gap.2 in
    let small = bind_ok (ensure (nat_lt (low + gap.0.0) greatest_number) (length bytes)) _ x apart.2 in
    let count = bind_ok (number_of 4 gap.0.1) _ x small.2 in
    let some = bind_ok (ensure (nat_lt 0 count.0.0) (length gap.0.1)) _ x count.2 in
    let fits = bind_ok (ensure (nat_le (low + gap.0.0 + count.0.0) greatest_number) (length gap.0.1)) _ x some.2 in
    let run : NumberRun = record { first = low + gap.0.0 + 1; count = count.0.0 } in
    let one : 0 < count.0.0 = ltb-true _ _ (ensure_ok (nat_lt 0 count.0.0) (length gap.0.1) some.0 some.1) in
    let within : low + gap.0.0 + count.0.0 ≤ greatest_number =
    leb-true _ _ (ensure_ok (nat_le (low + gap.0.0 + count.0.0) greatest_number) (length gap.0.1) fits.0 fits.1) in
    let between : gap.0.0 ≡ low + gap.0.0 + 1 - low - 1 = omega arith in
    let parted : (nat_lt 0 gap.0.0 || full) ≡ true =
    or_more (nat_lt 0 gap.0.0) joins full (ensure_ok (nat_lt 0 gap.0.0 || joins) (length bytes) apart.0 apart.1) fills in
    subst (λ (y : NumberRun × List ℕ). IsRunRead low joins full bytes y) (ok_is (run, count.0.1) x fits.2)
    (record {
      stands = record {
        above = omega arith;
        apart = subst (λ (n : ℕ). (nat_lt 0 n || full) ≡ true) between parted;
        some = one;
        small = omega (arith, within, one);
      };
      length_is = omega (arith, number_length 4 bytes gap.0 gap.1, number_length 4 gap.0.1 count.0 count.1);
    })

full_from : (run : NumberRun) → (run.count == longest_run) ≡ true → is_full run ≡ true
full_from run is = let same : run.count ≡ longest_run = eqb-true _ _ is in le-leb longest_run run.count (omega (arith, same))

read_more : (horizon total : ℕ) (read : RunsRead) (bytes : List ℕ) (x : RunsRead × List ℕ) → AreRead horizon total read bytes
    → run_step read bytes ≡ Ok x → AreRead horizon total x.0 x.1
unfolding run_step
read_more horizon total read bytes x are e =
    let run = bind_ok (run_of read.low read.joins bytes) _ x e in
    let is = run_stands read.low read.joins (full_by true read.runs) bytes run.0 are.joins run.1 in
    let stands : MayStand read.low (full_by true read.runs) run.0.0 = is.stands in
    let took : 8 + length run.0.1 ≡ length bytes = is.length_is in
    subst (λ (y : RunsRead × List ℕ). AreRead horizon total y.0 y.1) (ok_is (with_run read run.0.0, run.0.1) x run.2)
    (record {
      standing = standing_push horizon true read.runs run.0.0 are.standing
          (subst (λ (low : ℕ). MayStand low (full_by true read.runs) run.0.0) (sym are.last) stands);
      last = last_push last_of_run horizon read.runs run.0.0;
      joins = λ joins. full_push true read.runs run.0.0 ∙ full_from run.0.0 joins;
      long = omega (arith, are.long, took, length-append read.runs (run.0.0 ∷ []));
    })

many_keep : {S : Type 0} (Holds : S → List ℕ → Type 0) (step : S → List ℕ → Result (S × List ℕ) ℕ)
    → ((state : S) (bytes : List ℕ) (x : S × List ℕ) → Holds state bytes → step state bytes ≡ Ok x → Holds x.0 x.1)
    → (n : ℕ) (state : S) (bytes : List ℕ) (x : S × List ℕ) → Holds state bytes → many step state n bytes ≡ Ok x → Holds x.0 x.1
unfolding many
many_keep {S = S} Holds step keeps zero state bytes x holds e = subst (λ (y : S × List ℕ). Holds y.0 y.1) (ok_is (state, bytes) x e) holds
many_keep {S = S} Holds step keeps (suc n) state bytes x holds e =
    let after = bind_ok (step state bytes) _ x e in
    many_keep Holds step keeps n after.0.0 after.0.1 x (keeps state bytes after.0 holds after.1) after.2

record AreRunsRead (horizon : ℕ) (bytes : List ℕ) (x : List NumberRun × List ℕ) : Type 0 where
  standing : AreStanding horizon true x.0
  long : 8 * length x.0 ≤ length bytes

runs_stand : (horizon count : ℕ) (bytes : List ℕ) (x : List NumberRun × List ℕ) → runs_of horizon count bytes ≡ Ok x → AreRunsRead horizon bytes x
runs_stand horizon count bytes x e =
    let read = bind_ok (many run_step (no_runs horizon) count bytes) _ x e in
    let are = many_keep (AreRead horizon (length bytes)) run_step (read_more horizon (length bytes)) count (no_runs horizon) bytes read.0
    (record { standing = tt; last = refl; joins = λ is. refl; long = omega arith }) read.1 in
    let standing : AreStanding horizon true read.0.0.runs = are.standing in
    let long : 8 * length read.0.0.runs + length read.0.1 ≤ length bytes = are.long in
    subst (λ (y : List NumberRun × List ℕ). AreRunsRead horizon bytes y) (ok_is (read.0.0.runs, read.0.1) x read.2)
    (record { standing = standing; long = omega (arith, long) })

-- ---- stores that are read

not_true : (b : Bool) → not b ≡ true → b ≡ false
not_true true is = absurd cc
not_true false is = refl

record IsNameRead (stores : List LiveStore) (x : List ℕ × List ℕ) : Type 0 where
  name : IsName x.0
  free : is_used x.0 stores ≡ false

sized_name : (bytes : List ℕ) (x : ℕ × List ℕ) → size_of 1 1 31 bytes ≡ Ok x → (1 ≤ x.0) × (x.0 ≤ 31)
unfolding size_of
sized_name bytes x e =
    let size = bind_ok (number_of 1 bytes) _ x e in
    let within = bind_ok (ensure (nat_le 1 size.0.0 && nat_le size.0.0 31) (length bytes)) _ x size.2 in
    let limits = and_parts (nat_le 1 size.0.0) (nat_le size.0.0 31) (ensure_ok (nat_le 1 size.0.0 && nat_le size.0.0 31) (length bytes) within.0 within.1) in
    subst (λ (y : ℕ × List ℕ). (1 ≤ y.0) × (y.0 ≤ 31)) (ok_is (size.0.0, size.0.1) x within.2) (leb-true _ _ limits.0, leb-true _ _ limits.1)

name_read : (stores : List LiveStore) (bytes : List ℕ) (x : List ℕ × List ℕ) → name_of stores bytes ≡ Ok x → IsNameRead stores x
unfolding name_of
name_read stores bytes x e =
    let size = bind_ok (size_of 1 1 31 bytes) _ x e in
    let name = bind_ok (bytes_of size.0.0 size.0.1) _ x size.2 in
    let letters = bind_ok (ensure (list_all is_name_byte name.0.0) (length size.0.1)) _ x name.2 in
    let free = bind_ok (ensure (not (is_used name.0.0 stores)) (length size.0.1)) _ x letters.2 in
    let limits = sized_name bytes size.0 size.1 in
    let long = bytes_length size.0.0 size.0.1 name.0 name.1 in
    subst (λ (y : List ℕ × List ℕ). IsNameRead stores y) (ok_is name.0 x free.2)
    (record {
      name = record {
        some = omega (arith, limits.0, long.0);
        most = omega (arith, limits.1, long.0);
        letters = ensure_ok (list_all is_name_byte name.0.0) (length size.0.1) letters.0 letters.1;
      };
      free = not_true (is_used name.0.0 stores) (ensure_ok (not (is_used name.0.0 stores)) (length size.0.1) free.0 free.1);
    })

record IsStoreRead (stores : List LiveStore) (id : ℕ) (store : LiveStore) : Type 0 where
  id_is : store.id ≡ id
  described : IsDescribed stores store

described_read : (stores : List LiveStore) (id : ℕ) (bytes : List ℕ) (x : LiveStore × List ℕ) → described_of stores id bytes ≡ Ok x → IsStoreRead stores id x.0
unfolding described_of
described_read stores id bytes x e =
    let name = bind_ok (name_of stores bytes) _ x e in
    let mode = bind_ok (mode_of name.0.1) _ x name.2 in
    let prefix = bind_ok (number_of 1 mode.0.1) _ x mode.2 in
    let short = bind_ok (ensure (nat_le prefix.0.0 longest_prefix) (length mode.0.1)) _ x prefix.2 in
    let store : LiveStore = record { id = id; name = name.0.0; mode = mode.0.0; prefix_length = prefix.0.0 } in
    let is = name_read stores bytes name.0 name.1 in
    subst (λ (y : LiveStore × List ℕ). IsStoreRead stores id y.0) (ok_is (store, prefix.0.1) x short.2)
    (record {
      id_is = refl;
      described = record {
        name = is.name;
        free = is.free;
        short = leb-true _ _ (ensure_ok (nat_le prefix.0.0 longest_prefix) (length mode.0.1) short.0 short.1);
      };
    })

store_read : (most horizon : ℕ) (runs : List NumberRun) → ((id : ℕ) → nat_le id horizon ≡ true → id ≤ greatest_number)
    → ((id : ℕ) → is_taken id runs ≡ true → id ≤ greatest_number) → (stores : List LiveStore) (bytes : List ℕ) (x : List LiveStore × List ℕ)
    → AreStores most horizon runs [] stores → store_step most horizon runs stores bytes ≡ Ok x → AreStores most horizon runs [] x.0
unfolding store_step store_of
store_read most horizon runs low small stores bytes x are e =
    let store = bind_ok (store_of most horizon runs stores bytes) _ x e in
    let id = bind_ok (number_of 8 bytes) _ store.0 store.1 in
    let next = bind_ok (ensure (may_be_next most horizon runs stores id.0.0) (length bytes)) _ store.0 id.2 in
    let described = bind_ok (described_of stores id.0.0 id.0.1) _ store.0 next.2 in
    let nodes = bind_ok (number_of 4 described.0.1) _ store.0 described.2 in
    let none = bind_ok (ensure (nodes.0.0 == 0) (length described.0.1)) _ store.0 nodes.2 in
    let new : IsStoreRead stores id.0.0 store.0.0 =
    subst (λ (y : LiveStore × List ℕ). IsStoreRead stores id.0.0 y.0) (ok_is (described.0.0, nodes.0.1) store.0 none.2)
    (described_read stores id.0.0 id.0.1 described.0 described.1) in
    let may : may_be_next most horizon runs stores id.0.0 ≡ true = ensure_ok (may_be_next most horizon runs stores id.0.0) (length bytes) next.0 next.1 in
    let within : id.0.0 ≤ greatest_number =
    or_true (nat_le id.0.0 horizon) (is_taken id.0.0 runs) (id.0.0 ≤ greatest_number) (next_from most horizon runs stores id.0.0 may).is_known (low id.0.0) (small id.0.0) in
    subst (λ (y : List LiveStore × List ℕ). AreStores most horizon runs [] y.0) (ok_is (stores ++ store.0.0 ∷ [], store.0.1) x store.2)
    (stores_push most horizon runs [] stores store.0.0 are
    (subst (λ (n : ℕ). may_be_next most horizon runs stores n ≡ true) (sym new.id_is) may)
    (omega (arith, within, new.id_is)) new.described)

-- ---- entries that are read

-- what was read of bytes has no more runs than they have room for
pub record IsRead (most total : ℕ) (m : Metadata) : Type 0 where
  pub loose : IsLoose most m
  pub few : 8 * length m.taken ≤ total

base_read : (most : ℕ) (bytes : List ℕ) (x : Metadata × List ℕ) → base_of most bytes ≡ Ok x → IsRead most (length bytes) x.0
unfolding base_of
base_read most bytes x e =
    let horizon = bind_ok (number_of 8 bytes) _ x e in
    let small = bind_ok (ensure (nat_le horizon.0.0 greatest_number) (length bytes)) _ x horizon.2 in
    let first = bind_ok (number_of 8 horizon.0.1) _ x small.2 in
    let one = bind_ok (ensure (first.0.0 == 1) (length horizon.0.1)) _ x first.2 in
    let runs = bind_ok (number_of 4 first.0.1) _ x one.2 in
    let taken = bind_ok (runs_of horizon.0.0 runs.0.0 runs.0.1) _ x runs.2 in
    let count = bind_ok (number_of 4 taken.0.1) _ x taken.2 in
    let stores = bind_ok (stores_of most horizon.0.0 taken.0.0 count.0.0 count.0.1) _ x count.2 in
    let are = runs_stand horizon.0.0 runs.0.0 runs.0.1 taken.0 taken.1 in
    let standing : AreStanding horizon.0.0 true taken.0.0 = are.standing in
    let long : 8 * length taken.0.0 ≤ length runs.0.1 = are.long in
    let low : horizon.0.0 ≤ greatest_number = leb-true _ _ (ensure_ok (nat_le horizon.0.0 greatest_number) (length bytes) small.0 small.1) in
    let live : AreStores most horizon.0.0 taken.0.0 [] stores.0.0 =
    many_keep (λ (l : List LiveStore) (rest : List ℕ). AreStores most horizon.0.0 taken.0.0 [] l) (store_step most horizon.0.0 taken.0.0)
    (store_read most horizon.0.0 taken.0.0 (λ id le. omega (arith, leb-true _ _ le, low))
    (λ id is. taken_small id horizon.0.0 true taken.0.0 standing is)) count.0.0 [] count.0.1 stores.0 tt stores.1 in
    let m : Metadata = record { horizon = horizon.0.0; first_segment = first.0.0; taken = taken.0.0; stores = stores.0.0 } in
    subst (λ (y : Metadata × List ℕ). IsRead most (length bytes) y.0) (ok_is (m, stores.0.1) x stores.2)
    (record {
      loose = record {
        horizon = low;
        first = eqb-true _ _ (ensure_ok (first.0.0 == 1) (length horizon.0.1) one.0 one.1);
        runs = standing;
        stores = live;
      };
      few = omega (
        arith,
        long,
        number_length 8 bytes horizon.0 horizon.1,
        number_length 8 horizon.0.1 first.0 first.1,
        number_length 4 first.0.1 runs.0 runs.1,
      );
    })

create_read : (most total : ℕ) (m : Metadata) (bytes : List ℕ) (x : Metadata × List ℕ) → IsRead most total m → create_of most m bytes ≡ Ok x
    → IsRead most (total + length bytes) x.0
unfolding create_of
create_read most total m bytes x is e =
    let number = bind_ok (number_of 8 bytes) _ x e in
    let next = bind_ok (ensure (may_be_number m number.0.0 && nat_lt (length m.stores) most) (length bytes)) _ x number.2 in
    let store = bind_ok (described_of m.stores number.0.0 number.0.1) _ x next.2 in
    let new = described_read m.stores number.0.0 number.0.1 store.0 store.1 in
    let may = and_parts (may_be_number m number.0.0) (nat_lt (length m.stores) most)
    (ensure_ok (may_be_number m number.0.0 && nat_lt (length m.stores) most) (length bytes) next.0 next.1) in
    let id_is : store.0.0.id ≡ number.0.0 = new.id_is in
    let creates : MayCreate most m store.0.0 = record {
      number = subst (λ (n : ℕ). may_be_number m n ≡ true) (sym id_is) may.0;
      room = ltb-true _ _ may.1;
      described = new.described;
    } in
    subst (λ (y : Metadata × List ℕ). IsRead most (total + length bytes) y.0) (ok_is (with_store m number.0.0 store.0.0, store.0.1) x store.2)
    (record {
      loose = subst (λ (n : ℕ). IsLoose most (with_store m n store.0.0)) id_is (loose_created most m store.0.0 is.loose creates);
      few = omega (arith, is.few, taken_count m.taken number.0.0, number_length 8 bytes number.0 number.1);
    })

drop_read : (most total : ℕ) (m : Metadata) (bytes : List ℕ) (x : Metadata × List ℕ) → IsRead most total m → drop_of m bytes ≡ Ok x
    → IsRead most (total + length bytes) x.0
unfolding drop_of
drop_read most total m bytes x is e =
    let number = bind_ok (number_of 8 bytes) _ x e in
    let next = bind_ok (ensure (may_be_number m number.0.0) (length bytes)) _ x number.2 in
    let id = bind_ok (number_of 8 number.0.1) _ x next.2 in
    let live = bind_ok (ensure (is_live id.0.0 m.stores) (length number.0.1)) _ x id.2 in
    let may : may_be_number m number.0.0 ≡ true = ensure_ok (may_be_number m number.0.0) (length bytes) next.0 next.1 in
    subst (λ (y : Metadata × List ℕ). IsRead most (total + length bytes) y.0) (ok_is (without_store m number.0.0 id.0.0, id.0.1) x live.2)
    (record {
      loose = loose_dropped most m number.0.0 id.0.0 is.loose may;
      few = omega (arith, is.few, taken_count m.taken number.0.0, number_length 8 bytes number.0 number.1);
    })

IsReadIf : ℕ → ℕ → Option Metadata → Type 0
IsReadIf most total None = Unit {0}
IsReadIf most total (Some m) = IsRead most total m

chosen : {A : Type 0} (P : A → Type 0) (b : Bool) (one other : Result A ℕ) (x : A) → (if b then one else other) ≡ Ok x → (one ≡ Ok x → P x) → (other ≡ Ok x → P x) → P x
chosen {A = A} P true one other x e first second = first e
chosen {A = A} P false one other x e first second = second e

refused_ok : {A : Type 0} (left : ℕ) (x : A) → Err left ≡ Ok x → ⊥
refused_ok {A = A} left x e = cc

entry_is_read : (most total : ℕ) (before : Option Metadata) (kind left : ℕ) (bytes : List ℕ) (x : Metadata × List ℕ) → IsReadIf most total before
    → entry_of most before kind left bytes ≡ Ok x → IsRead most (total + length bytes) x.0
unfolding entry_of IsReadIf
entry_is_read most total None kind left bytes x is e =
    chosen (λ (y : Metadata × List ℕ). IsRead most (total + length bytes) y.0) (kind == base_kind) (base_of most bytes) (Err left) x e
    (λ one. let read = base_read most bytes x one in record { loose = read.loose; few = omega (arith, read.few) })
    (λ bad. absurd (refused_ok left x bad))
entry_is_read most total (Some m) kind left bytes x is e =
    chosen (λ (y : Metadata × List ℕ). IsRead most (total + length bytes) y.0) (kind == create_kind) (create_of most m bytes) _ x e
    (create_read most total m bytes x is)
    (λ more. chosen (λ (y : Metadata × List ℕ). IsRead most (total + length bytes) y.0) (kind == drop_kind) (drop_of m bytes) (Err left) x more
    (drop_read most total m bytes x is)
    (λ bad. absurd (refused_ok left x bad)))

payload_is_read : (most total : ℕ) (before : Option Metadata) (bytes : List ℕ) (m : Metadata) → IsReadIf most total before
    → payload_of most before bytes ≡ Ok m → IsRead most (total + length bytes) m
unfolding payload_of
payload_is_read most total before bytes m is e =
    let kind = bind_ok (number_of 1 bytes) _ m e in
    let after = bind_ok (entry_of most before kind.0.0 (length bytes) kind.0.1) _ m kind.2 in
    let ended = bind_ok (ensure (length after.0.1 == 0) (4 + length bytes)) _ m after.2 in
    let read = entry_is_read most total before kind.0.0 (length bytes) kind.0.1 after.0 is after.1 in
    let long : 1 + length kind.0.1 ≡ length bytes = number_length 1 bytes kind.0 kind.1 in
    subst (IsRead most (total + length bytes)) (ok_is after.0.0 m ended.2) (record { loose = read.loose; few = omega (arith, read.few, long) })

placed_ok : {A : Type 0} (end : ℕ) (r : Result A ℕ) (x : A) → placed end r ≡ Ok x → r ≡ Ok x
placed_ok {A = A} end (Ok y) x e = e
placed_ok {A = A} end (Err left) x e = absurd (refused_ok (end - left) x e)

later : (most low high : ℕ) (gate : ℕ) (m : Metadata) → low + gate ≤ high → IsRead most (low + gate) m → IsReadIf most high (Some m)
unfolding IsReadIf
later most low high gate m le is = record { loose = is.loose; few = omega (arith, le, is.few) }

entries_are_read : (most : ℕ) (before : Option Metadata) (gate : ℕ) (payloads : List (List ℕ)) (m : Metadata) → IsReadIf most gate before
    → entries_of most before gate payloads ≡ Ok (Some m) → IsReadIf most (gate + sum_by need_of payloads) (Some m)
unfolding entries_of
entries_are_read most before gate [] m is e =
    let same : gate ≡ gate + sum_by need_of [] = omega arith in
    subst (λ (n : ℕ). IsReadIf most n (Some m)) same (subst (IsReadIf most gate) (ok_is before (Some m) e) is)
entries_are_read most before gate (payload ∷ payloads) m is e =
    let one = bind_ok (placed (gate + need_of payload) (payload_of most before payload)) _ (Some m) e in
    let read = payload_is_read most gate before payload one.0 is (placed_ok (gate + need_of payload) (payload_of most before payload) one.0 one.1) in
    let sum : gate + need_of payload + sum_by need_of payloads ≡ gate + sum_by need_of (payload ∷ payloads) = omega (arith, sum_by-cons need_of payload payloads) in
    subst (λ (n : ℕ). IsReadIf most n (Some m)) sum
    (entries_are_read most (Some one.0) (gate + need_of payload) payloads m (later most gate (gate + need_of payload) (length payload) one.0 (omega arith) read) one.2)

-- So is what batches say.
pub all_read : (most gate : ℕ) (payloads : List (List ℕ)) (m : Metadata) → entries_of most None gate payloads ≡ Ok (Some m)
    → IsRead most (gate + sum_by need_of payloads) m
unfolding IsReadIf
all_read most gate payloads m e = entries_are_read most None gate payloads m tt e
