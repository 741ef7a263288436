-- What is spelled of an entry that may come is read.
use Rattle.std.proofs.Common.{◌≡◌, ◌∙◌, ℕ, suc, ◌+◌, ◌-◌, ◌^◌, ◌<◌, ◌≤◌, Bool, true, false, List, [], ◌∷◌, ◌++◌, length, Option, Some, None, Result, Ok, refl, sym, ap, arith, append_assoc}
use Rattle.std.specs.Prelude.{nat_lt, nat_le, ◌==◌}
use Rattle.std.specs.List.{flat_map}
use Rattle.std.proofs.lemmas.Bool.{and_parts, leb-true, le-leb, lt-ltb, eq-eqb}
use Rattle.std.proofs.lemmas.List.{append-nil}
use Rattle.byteorder.specs.Endian.{big_bytes}
use Rattle.hse_fields.specs.Fields.{number_of}
use Rattle.hse_fields.specs.LogReading.{◌>>=◌}
use Rattle.hse_fields.specs.LogText.{sized}
use Rattle.hse_fields.specs.laws.Fields.{number_again, bytes_again, size_again}
use Rattle.hse_rows.specs.writes.Lengths.{longest_prefix}
use Rattle.hse_rows.specs.declared.store.Mode.{Mode}
use Rattle.hse_rows.specs.declared.store.Mode.TheVariants.{Plain, Tx}
use Rattle.hse_rows.specs.machine.TakenRuns.{NumberRun, longest_run}
use Rattle.hse_rows.specs.writes.Names.{IsName}
use Rattle.manifest.specs.MayCome.{IsDescribed, MayCreate, MayDrop, MayFollow, AreRuns, AreStores, MayBeBase, MayCome, after}
use Rattle.manifest.specs.Metadata.{LiveStore, Metadata, greatest_number, last_of_run, is_used, with_store, without_store}
use Rattle.manifest.specs.Reading.{RunsRead, many, run_of, run_step, runs_of, name_of, mode_of, described_of, store_of, store_step, may_be_next, base_of, create_of, drop_of, entry_of, payload_of}
use Rattle.manifest.specs.Text.{Entry, base, create, drop, entry_text, mode_code, described_text, store_text, run_text, runs_text, base_text, create_text, drop_text}

name_again : (stores : List LiveStore) (name rest : List ℕ) → IsName name → is_used name stores ≡ false
    → name_of stores (sized 1 name ++ rest) ≡ Ok (name, rest)
unfolding name_of
name_again stores name rest is free =
    rw (size_again 1 1 31 (length name) (name ++ rest) (omega (arith, is.most)) (omega (arith, is.some)) is.most, bytes_again name rest, is.letters, free) refl

mode_again : (mode : Mode) (rest : List ℕ) → mode_of (big_bytes 1 (mode_code mode) ++ rest) ≡ Ok (mode, rest)
unfolding mode_of
mode_again Plain rest = rw (number_again 1 0 rest (omega arith)) refl
mode_again Tx rest = rw (number_again 1 1 rest (omega arith)) refl

described_again : (stores : List LiveStore) (store : LiveStore) (rest : List ℕ) → IsDescribed stores store
    → described_of stores store.id (described_text store ++ rest) ≡ Ok (store, rest)
unfolding described_of
described_again stores store rest is =
    let text : described_text store ++ rest ≡ sized 1 store.name ++ (big_bytes 1 (mode_code store.mode) ++ (big_bytes 1 store.prefix_length ++ rest)) =
    append_assoc (sized 1 store.name) (big_bytes 1 (mode_code store.mode) ++ big_bytes 1 store.prefix_length) rest in
    let short : nat_le store.prefix_length longest_prefix ≡ true = le-leb _ _ is.short in
    ap (described_of stores store.id) text
    ∙ rw (
      name_again stores store.name (big_bytes 1 (mode_code store.mode) ++ (big_bytes 1 store.prefix_length ++ rest)) is.name is.free,
      mode_again store.mode (big_bytes 1 store.prefix_length ++ rest),
      number_again 1 store.prefix_length rest (omega (arith, is.short)),
      short,
    ) refl

pub create_again : (most : ℕ) (m : Metadata) (store : LiveStore) → MayCreate most m store
    → payload_of most (Some m) (create_text store) ≡ Ok (with_store m store.id store)
unfolding payload_of entry_of create_of
create_again most m store may =
    let small : store.id ≤ greatest_number = leb-true _ _ (and_parts _ _ may.number).1 in
    let room : nat_lt (length m.stores) most ≡ true = lt-ltb _ _ may.room in
    let text : create_text store ≡ big_bytes 1 2 ++ (big_bytes 8 store.id ++ (described_text store ++ [])) =
    ap (λ (l : List ℕ). big_bytes 1 2 ++ (big_bytes 8 store.id ++ l)) (sym (append-nil (described_text store))) in
    ap (payload_of most (Some m)) text
    ∙ rw (
      number_again 1 2 (big_bytes 8 store.id ++ (described_text store ++ [])) (omega arith),
      number_again 8 store.id (described_text store ++ []) (omega (arith, small)),
      may.number,
      room,
      described_again m.stores store [] may.described,
    ) refl

drop_reads : (most : ℕ) (m : Metadata) (bytes behind rest : List ℕ) (number id : ℕ) → number_of 1 bytes ≡ Ok (3, behind)
    → number_of 8 behind ≡ Ok (number, rest) → number_of 8 rest ≡ Ok (id, []) → MayDrop m number id
    → payload_of most (Some m) bytes ≡ Ok (without_store m number id)
unfolding payload_of entry_of drop_of
drop_reads most m bytes behind rest number id first second third may = rw (first, second, may.next, third, may.live) refl

pub drop_again : (most : ℕ) (m : Metadata) (number id : ℕ) → MayDrop m number id
    → payload_of most (Some m) (drop_text number id) ≡ Ok (without_store m number id)
drop_again most m number id may =
    let small : number ≤ greatest_number = leb-true _ _ (and_parts _ _ may.next).1 in
    let fits : number < 256 ^ 8 = omega (arith, small) in
    let kind : 3 < 256 ^ 1 = omega arith in
    drop_reads most m (drop_text number id) (big_bytes 8 number ++ big_bytes 8 id) (big_bytes 8 id) number id
    (number_again 1 3 (big_bytes 8 number ++ big_bytes 8 id) kind) (number_again 8 number (big_bytes 8 id) fits) (number_again 8 id [] may.id_fits) may

run_again : (low : ℕ) (joins : Bool) (run : NumberRun) (rest : List ℕ) → MayFollow low joins run
    → run_of low joins (run_text low run ++ rest) ≡ Ok (run, rest)
unfolding run_of
run_again low joins run rest may =
    let gap : ℕ = run.first - low - 1 in
    let small : nat_lt (low + (run.first - low - 1)) greatest_number ≡ true = lt-ltb _ _ (omega (arith, may.above, may.some, may.small)) in
    let some : nat_lt 0 run.count ≡ true = lt-ltb _ _ may.some in
    let fits : nat_le (low + (run.first - low - 1) + run.count) greatest_number ≡ true = le-leb _ _ (omega (arith, may.above, may.some, may.small)) in
    let first : low + (run.first - low - 1) + 1 ≡ run.first = omega (arith, may.above) in
    rw (
      number_again 4 (run.first - low - 1) (big_bytes 4 run.count ++ rest) may.gap,
      may.apart,
      small,
      number_again 4 run.count rest may.count,
      some,
      fits,
    )
    (ap (λ (n : ℕ). Ok (record { first = n; count = run.count }, rest)) first)

abbrev keep_runs : Result (RunsRead × List ℕ) ℕ → Result (List NumberRun × List ℕ) ℕ
keep_runs read = read >>= λ x. Ok (x.0.runs, x.1)

runs_again : (runs : List NumberRun) (done : List NumberRun) (low : ℕ) (joins : Bool) (rest : List ℕ) → AreRuns low joins runs
    → keep_runs (many run_step (record { runs = done; low = low; joins = joins }) (length runs) (runs_text low runs ++ rest)) ≡ Ok (done ++ runs, rest)
unfolding many run_step
runs_again [] done low joins rest are = ap (λ (l : List NumberRun). Ok (l, rest)) (sym (append-nil done))
runs_again (run ∷ runs) done low joins rest are =
    ap (λ (l : List ℕ). keep_runs (many run_step (record { runs = done; low = low; joins = joins }) (suc (length runs)) l))
    (append_assoc (run_text low run) (runs_text (last_of_run run) runs) rest)
    ∙ rw (run_again low joins run (runs_text (last_of_run run) runs ++ rest) are.0)
    (runs_again runs (done ++ run ∷ []) (last_of_run run) (run.count == longest_run) rest are.1
    ∙ ap (λ (l : List NumberRun). Ok (l, rest)) (append_assoc done (run ∷ []) runs))

store_again : (most horizon : ℕ) (runs : List NumberRun) (known : List LiveStore) (store : LiveStore) (rest : List ℕ)
    → may_be_next most horizon runs known store.id ≡ true → store.id < 2 ^ 64 → IsDescribed known store
    → store_of most horizon runs known (store_text store ++ rest) ≡ Ok (store, rest)
unfolding store_of
store_again most horizon runs known store rest next fits is =
    let text : store_text store ++ rest ≡ big_bytes 8 store.id ++ (described_text store ++ (big_bytes 4 0 ++ rest)) =
    ap (λ (l : List ℕ). big_bytes 8 store.id ++ l) (append_assoc (described_text store) (big_bytes 4 0) rest) in
    ap (store_of most horizon runs known) text
    ∙ rw (
      number_again 8 store.id (described_text store ++ (big_bytes 4 0 ++ rest)) fits,
      next,
      described_again known store (big_bytes 4 0 ++ rest) is,
      number_again 4 0 rest (omega arith),
    ) refl

stores_again : (most horizon : ℕ) (runs : List NumberRun) (stores known : List LiveStore) (rest : List ℕ) → AreStores most horizon runs known stores
    → many (store_step most horizon runs) known (length stores) (flat_map store_text stores ++ rest) ≡ Ok (known ++ stores, rest)
unfolding many store_step
stores_again most horizon runs [] known rest are = ap (λ (l : List LiveStore). Ok (l, rest)) (sym (append-nil known))
stores_again most horizon runs (store ∷ stores) known rest are =
    ap (many (store_step most horizon runs) known (suc (length stores))) (append_assoc (store_text store) (flat_map store_text stores) rest)
    ∙ rw (store_again most horizon runs known store (flat_map store_text stores ++ rest) are.0 are.1 are.2)
    (stores_again most horizon runs stores (known ++ store ∷ []) rest are.3
    ∙ ap (λ (l : List LiveStore). Ok (l, rest)) (append_assoc known (store ∷ []) stores))

pub base_again : (most : ℕ) (m : Metadata) → MayBeBase most m → payload_of most None (base_text m) ≡ Ok m
unfolding payload_of entry_of base_of
base_again most m may =
    let small : nat_le m.horizon greatest_number ≡ true = le-leb _ _ may.horizon in
    let one : (m.first_segment == 1) ≡ true = eq-eqb _ _ may.first in
    let stores : List ℕ = flat_map store_text m.stores ++ [] in
    let text : base_text m ≡ big_bytes 1 6 ++ (big_bytes 8 m.horizon ++ (big_bytes 8 m.first_segment ++ (big_bytes 4 (length m.taken)
    ++ (runs_text m.horizon m.taken ++ (big_bytes 4 (length m.stores) ++ (flat_map store_text m.stores ++ [])))))) =
    ap (λ (l : List ℕ). big_bytes 1 6 ++ (big_bytes 8 m.horizon ++ (big_bytes 8 m.first_segment ++ (big_bytes 4 (length m.taken)
    ++ (runs_text m.horizon m.taken ++ (big_bytes 4 (length m.stores) ++ l)))))) (sym (append-nil (flat_map store_text m.stores))) in
    let read : runs_of m.horizon (length m.taken) (runs_text m.horizon m.taken ++ (big_bytes 4 (length m.stores) ++ (flat_map store_text m.stores ++ [])))
    ≡ Ok (m.taken, big_bytes 4 (length m.stores) ++ (flat_map store_text m.stores ++ [])) =
    runs_again m.taken [] m.horizon true (big_bytes 4 (length m.stores) ++ (flat_map store_text m.stores ++ [])) may.runs in
    ap (payload_of most None) text
    ∙ rw (
      number_again 1 6 (big_bytes 8 m.horizon ++ (big_bytes 8 m.first_segment ++ (big_bytes 4 (length m.taken)
          ++ (runs_text m.horizon m.taken ++ (big_bytes 4 (length m.stores) ++ (flat_map store_text m.stores ++ [])))))) (omega arith),
      number_again 8 m.horizon (big_bytes 8 m.first_segment ++ (big_bytes 4 (length m.taken)
          ++ (runs_text m.horizon m.taken ++ (big_bytes 4 (length m.stores) ++ (flat_map store_text m.stores ++ []))))) (omega (arith, may.horizon)),
      small,
      number_again 8 m.first_segment (big_bytes 4 (length m.taken)
          ++ (runs_text m.horizon m.taken ++ (big_bytes 4 (length m.stores) ++ (flat_map store_text m.stores ++ [])))) (omega (arith, may.first)),
      one,
      number_again 4 (length m.taken) (runs_text m.horizon m.taken ++ (big_bytes 4 (length m.stores) ++ (flat_map store_text m.stores ++ []))) may.runs_counted,
      read,
      number_again 4 (length m.stores) (flat_map store_text m.stores ++ []) may.stores_counted,
      stores_again most m.horizon m.taken m.stores [] [] may.stores,
    ) refl

some_is : (x y : Metadata) → Some x ≡ Some y → x ≡ y
some_is x y is = cc

pub entry_again : (most : ℕ) (before : Option Metadata) (entry : Entry) (m : Metadata) → MayCome most before entry → after before entry ≡ Some m
    → payload_of most before (entry_text entry) ≡ Ok m
entry_again most None (base n) m may is = base_again most n may ∙ ap Ok (some_is n m is)
entry_again most None (create store) m may is = absurd may
entry_again most None (drop number id) m may is = absurd may
entry_again most (Some old) (base n) m may is = absurd may
entry_again most (Some old) (create store) m may is = create_again most old store may ∙ ap Ok (some_is (with_store old store.id store) m is)
entry_again most (Some old) (drop number id) m may is = drop_again most old number id may ∙ ap Ok (some_is (without_store old number id) m is)
