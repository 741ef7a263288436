-- Entries are as long as the machine counts them, and their runs are those of the machine's taken numbers.
use Rattle.std.proofs.Common.{◌≡◌, ◌∙◌, ℕ, ◌+◌, ◌-◌, ◌*◌, ◌<◌, Bool, true, false, List, [], ◌∷◌, ◌++◌, length, map, refl, ap, arith, length-append}
use Rattle.std.specs.Prelude.{◌==◌, ◌&&◌, nat_lt, if◌then◌else◌}
use Rattle.std.specs.List.{flat_map, sum_by}
use Rattle.std.proofs.lemmas.List.Sums.{sum_by-cons}
use Rattle.byteorder.specs.Endian.{big_bytes}
use Rattle.byteorder.specs.Numbers.{length-bytes_high_first}
use Rattle.hse_rows.specs.machine.ManifestRoom.{creation_bytes, drop_bytes, base_bytes, store_bytes}
use Rattle.hse_rows.specs.machine.TakenRuns.{NumberRun, longest_run, runs_from, runs_of}
use Rattle.hse_rows.specs.states.State.{Store}
use Rattle.manifest.specs.Machine.{live_of}
use Rattle.manifest.specs.Metadata.{LiveStore, Metadata, last_of_run, with_taken}
use Rattle.manifest.specs.Text.{base_text, create_text, described_text, drop_text, mode_code, run_text, runs_text, store_text}

described_length : (store : LiveStore) → length (described_text store) ≡ 3 + length store.name
described_length store =
    omega (
      arith,
      length-append (big_bytes 1 (length store.name) ++ store.name) (big_bytes 1 (mode_code store.mode) ++ big_bytes 1 store.prefix_length),
      length-append (big_bytes 1 (length store.name)) store.name,
      length-append (big_bytes 1 (mode_code store.mode)) (big_bytes 1 store.prefix_length),
      length-bytes_high_first 1 (length store.name),
      length-bytes_high_first 1 (mode_code store.mode),
      length-bytes_high_first 1 store.prefix_length,
    )

pub creation_length : (store : LiveStore) → length (create_text store) ≡ creation_bytes store.name
creation_length store =
    omega (
      arith,
      length-append (big_bytes 1 2) (big_bytes 8 store.id ++ described_text store),
      length-append (big_bytes 8 store.id) (described_text store),
      length-bytes_high_first 1 2,
      length-bytes_high_first 8 store.id,
      described_length store,
    )

pub drop_length : (number id : ℕ) → length (drop_text number id) ≡ drop_bytes
drop_length number id =
    omega (
      arith,
      length-append (big_bytes 1 3) (big_bytes 8 number ++ big_bytes 8 id),
      length-append (big_bytes 8 number) (big_bytes 8 id),
      length-bytes_high_first 1 3,
      length-bytes_high_first 8 number,
      length-bytes_high_first 8 id,
    )

store_length : (store : Store) → length (store_text (live_of store)) ≡ store_bytes store
store_length store =
    omega (
      arith,
      length-append (big_bytes 8 store.id) (described_text (live_of store) ++ big_bytes 4 0),
      length-append (described_text (live_of store)) (big_bytes 4 0),
      length-bytes_high_first 8 store.id,
      length-bytes_high_first 4 0,
      described_length (live_of store),
    )

stores_length : (stores : List Store) → length (flat_map store_text (map live_of stores)) ≡ sum_by store_bytes stores
stores_length [] = refl
stores_length (store ∷ stores) =
    omega (
      arith,
      length-append (store_text (live_of store)) (flat_map store_text (map live_of stores)),
      store_length store,
      stores_length stores,
      sum_by-cons store_bytes store stores,
    )

run_length : (low : ℕ) (run : NumberRun) → length (run_text low run) ≡ 8
run_length low run =
    omega (
      arith,
      length-append (big_bytes 4 (run.first - low - 1)) (big_bytes 4 run.count),
      length-bytes_high_first 4 (run.first - low - 1),
      length-bytes_high_first 4 run.count,
    )

runs_length : (low : ℕ) (runs : List NumberRun) → length (runs_text low runs) ≡ 8 * length runs
runs_length low [] = refl
runs_length low (run ∷ runs) =
    omega (arith, length-append (run_text low run) (runs_text (last_of_run run) runs), run_length low run, runs_length (last_of_run run) runs)

pub base_length_of : (m : Metadata) → length (base_text m) ≡ 25 + 8 * length m.taken + length (flat_map store_text m.stores)
base_length_of m =
    let stores : List ℕ = flat_map store_text m.stores in
    let counted : List ℕ = big_bytes 4 (length m.stores) ++ flat_map store_text m.stores in
    let runs : List ℕ = runs_text m.horizon m.taken ++ (big_bytes 4 (length m.stores) ++ flat_map store_text m.stores) in
    let taken : List ℕ = big_bytes 4 (length m.taken) ++ (runs_text m.horizon m.taken ++ (big_bytes 4 (length m.stores) ++ flat_map store_text m.stores)) in
    omega (
      arith,
      length-append (big_bytes 1 6) (big_bytes 8 m.horizon ++ (big_bytes 8 m.first_segment ++ taken)),
      length-append (big_bytes 8 m.horizon) (big_bytes 8 m.first_segment ++ taken),
      length-append (big_bytes 8 m.first_segment) taken,
      length-append (big_bytes 4 (length m.taken)) runs,
      length-append (runs_text m.horizon m.taken) counted,
      length-append (big_bytes 4 (length m.stores)) stores,
      length-bytes_high_first 1 6,
      length-bytes_high_first 8 m.horizon,
      length-bytes_high_first 8 m.first_segment,
      length-bytes_high_first 4 (length m.taken),
      length-bytes_high_first 4 (length m.stores),
      runs_length m.horizon m.taken,
    )

pub base_length : (m : Metadata) (taken : List ℕ) (stores : List Store) → m.taken ≡ runs_of taken → m.stores ≡ map live_of stores
    → length (base_text m) ≡ base_bytes taken stores []
base_length m taken stores runs are =
    let text : length (flat_map store_text m.stores) ≡ sum_by store_bytes stores =
    ap (λ (l : List LiveStore). length (flat_map store_text l)) are ∙ stores_length stores in
    omega (arith, base_length_of m, ap length runs, text)

-- ---- taken numbers

some_by : (joins : Bool) (runs others : List NumberRun) (run : NumberRun) → 0 < length runs
    → 0 < length (if joins then runs else (run ∷ others))
some_by true runs others run some = some
some_by false runs others run some = omega arith

some_runs : (first count : ℕ) (numbers : List ℕ) → 0 < length (runs_from first count numbers)
some_runs first count [] = omega arith
some_runs first count (number ∷ numbers) =
    some_by ((number == first + count) && nat_lt count longest_run) (runs_from first (count + 1) numbers) (runs_from number 1 numbers)
    (record { first = first; count = count }) (some_runs first (count + 1) numbers)

behind : (run : NumberRun) (runs : List NumberRun) (number : ℕ) → 0 < length runs → with_taken (run ∷ runs) number ≡ run ∷ with_taken runs number
behind run [] number some = absurd (omega (arith, some))
behind run (next ∷ runs) number some = refl

-- one number more behind runs, the first of which takes the next number or not
step_by : (joins : Bool) (run : NumberRun) (one more new_one new_more : List NumberRun) (number : ℕ) → 0 < length more
    → with_taken one number ≡ new_one → with_taken more number ≡ new_more
    → with_taken (if joins then one else (run ∷ more)) number ≡ (if joins then new_one else (run ∷ new_more))
step_by true run one more new_one new_more number some first second = first
step_by false run one more new_one new_more number some first second = behind run more number some ∙ ap (λ (l : List NumberRun). run ∷ l) second

from_taken : (first count : ℕ) (numbers : List ℕ) (number : ℕ)
    → with_taken (runs_from first count numbers) number ≡ runs_from first count (numbers ++ number ∷ [])
from_taken first count [] number = refl
from_taken first count (next ∷ numbers) number =
    step_by ((next == first + count) && nat_lt count longest_run) (record { first = first; count = count })
    (runs_from first (count + 1) numbers) (runs_from next 1 numbers) (runs_from first (count + 1) (numbers ++ number ∷ [])) (runs_from next 1 (numbers ++ number ∷ []))
    number (some_runs next 1 numbers) (from_taken first (count + 1) numbers number) (from_taken next 1 numbers number)

-- one number more, above them all
pub one_taken : (taken : List ℕ) (number : ℕ) → with_taken (runs_of taken) number ≡ runs_of (taken ++ number ∷ [])
one_taken [] number = refl
one_taken (first ∷ taken) number = from_taken first 1 taken number
