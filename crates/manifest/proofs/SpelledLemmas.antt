-- What is read of a payload is spelled so, of an entry that may come.
use Rattle.std.proofs.Common.{◌≡◌, ◌⊎◌, inl, inr, ◌∙◌, ℕ, zero, suc, ◌+◌, ◌-◌, ◌^◌, ◌<◌, ◌≤◌, Bool, true, false, not, cond, ◌||◌, ◌&&◌, List, [], ◌∷◌, ◌++◌, length, Option, Some, None, Ok, Err, refl, sym, ap, subst, arith, append_assoc}
use Rattle.std.specs.Prelude.{Result, nat_lt, nat_le, ◌==◌, if◌then◌else◌}
use Rattle.std.specs.List.{flat_map, list_all}
use Rattle.std.proofs.lemmas.Bool.{and_parts, leb-true, ltb-true, eqb-true}
use Rattle.std.proofs.lemmas.List.{append-nil, nil_from_length}
use Rattle.byteorder.specs.Endian.{big_bytes}
use Rattle.hse_fields.specs.Fields.{number_of, bytes_of}
use Rattle.hse_fields.specs.LogReading.{ensure, given, size_of}
use Rattle.hse_fields.specs.LogText.{sized}
use Rattle.hse_fields.specs.laws.Fields.{IsBytes, Takes, Takes-then, bind_ok, ensure_ok, given_ok, ok_is, number_takes, bytes_takes, size_takes, behind_size, width_1, width_4, width_8}
use Rattle.hse_rows.specs.declared.store.Mode.{Mode}
use Rattle.hse_rows.specs.declared.store.Mode.TheVariants.{Plain, Tx}
use Rattle.hse_rows.specs.machine.TakenRuns.{NumberRun, longest_run}
use Rattle.hse_rows.specs.writes.Lengths.{longest_prefix}
use Rattle.hse_rows.specs.writes.Names.{IsName, is_name_byte}
use Rattle.manifest.specs.MayCome.{AreRuns, AreStores, IsDescribed, MayBeBase, MayCome, MayFollow, SpellsEntry, after}
use Rattle.manifest.specs.Metadata.{LiveStore, Metadata, greatest_number, is_live, is_used, last_of_run, may_be_number, with_store, without_store}
use Rattle.manifest.specs.Reading.{RunsRead, many, no_runs, with_run, run_of, run_step, runs_of, name_of, mode_with, mode_of, described_of, store_of, store_step, stores_of, may_be_next, base_of, create_of, drop_of, entry_of, payload_of}
use Rattle.manifest.proofs.ApartLemmas.{not_true, refused_ok}
use Rattle.manifest.specs.Text.{Entry, base, create, drop, base_kind, create_kind, drop_kind, mode_code, described_text, store_text, run_text, runs_text, entry_text}

-- ---- a store

record TakesName (stores : List LiveStore) (bytes : List ℕ) (x : List ℕ × List ℕ) : Type 0 where
  taken : Takes bytes (sized 1 x.0) x.1
  name : IsName x.0
  free : is_used x.0 stores ≡ false

name_takes : (stores : List LiveStore) (bytes : List ℕ) (x : List ℕ × List ℕ) → IsBytes bytes → name_of stores bytes ≡ Ok x → TakesName stores bytes x
unfolding name_of
name_takes stores bytes x small e =
    let size = bind_ok (size_of 1 1 31 bytes) _ x e in
    let name = bind_ok (bytes_of size.0.0 size.0.1) _ x size.2 in
    let letters = bind_ok (ensure (list_all is_name_byte name.0.0) (length size.0.1)) _ x name.2 in
    let free = bind_ok (ensure (not (is_used name.0.0 stores)) (length size.0.1)) _ x letters.2 in
    let head = size_takes 1 width_1 1 31 bytes size.0.0 size.0.1 small size.1 in
    let body = bytes_takes size.0.0 size.0.1 name.0.0 name.0.1 head.0.rest_fits name.1 in
    subst (TakesName stores bytes) (ok_is name.0 x free.2)
    (record {
      taken = behind_size 1 size.0.0 bytes size.0.1 name.0.0 name.0.1 head.0 body.0 body.1;
      name = record {
        some = omega (arith, head.1, body.1);
        most = omega (arith, head.2, body.1);
        letters = ensure_ok (list_all is_name_byte name.0.0) (length size.0.1) letters.0 letters.1;
      };
      free = not_true (is_used name.0.0 stores) (ensure_ok (not (is_used name.0.0 stores)) (length size.0.1) free.0 free.1);
    })

same_mode : (x y : Mode) → Some x ≡ Some y → x ≡ y
same_mode x y e = cc

no_mode : (x : Mode) → None ≡ Some x → ⊥
no_mode x e = cc

mode_by : (plain tx : Bool) (byte : ℕ) (mode : Mode) → (plain ≡ true → byte ≡ 0) → (tx ≡ true → byte ≡ 1)
    → (if plain then Some Plain else (if tx then Some Tx else None)) ≡ Some mode → byte ≡ mode_code mode
mode_by true tx byte mode zero_is one_is e = zero_is refl ∙ ap mode_code (same_mode Plain mode e)
mode_by false true byte mode zero_is one_is e = one_is refl ∙ ap mode_code (same_mode Tx mode e)
mode_by false false byte mode zero_is one_is e = absurd (no_mode mode e)

mode_takes : (bytes : List ℕ) (x : Mode × List ℕ) → IsBytes bytes → mode_of bytes ≡ Ok x → Takes bytes (big_bytes 1 (mode_code x.0)) x.1
unfolding mode_of
mode_takes bytes x small e =
    let byte = bind_ok (number_of 1 bytes) _ x e in
    let mode = bind_ok (given (mode_with byte.0.0) (length bytes)) _ x byte.2 in
    let head = number_takes 1 width_1 bytes byte.0.0 byte.0.1 small byte.1 in
    let code : byte.0.0 ≡ mode_code mode.0 =
    mode_by (byte.0.0 == 0) (byte.0.0 == 1) byte.0.0 mode.0 (eqb-true _ _) (eqb-true _ _) (given_ok (mode_with byte.0.0) (length bytes) mode.0 mode.1) in
    subst (λ (y : Mode × List ℕ). Takes bytes (big_bytes 1 (mode_code y.0)) y.1) (ok_is (mode.0, byte.0.1) x mode.2)
    (subst (λ (k : ℕ). Takes bytes (big_bytes 1 k) byte.0.1) code head.0)

record TakesDescribed (stores : List LiveStore) (id : ℕ) (bytes : List ℕ) (x : LiveStore × List ℕ) : Type 0 where
  taken : Takes bytes (described_text x.0) x.1
  described : IsDescribed stores x.0
  id_is : x.0.id ≡ id

described_takes : (stores : List LiveStore) (id : ℕ) (bytes : List ℕ) (x : LiveStore × List ℕ) → IsBytes bytes → described_of stores id bytes ≡ Ok x
    → TakesDescribed stores id bytes x
unfolding described_of
described_takes stores id bytes x small e =
    let name = bind_ok (name_of stores bytes) _ x e in
    let mode = bind_ok (mode_of name.0.1) _ x name.2 in
    let prefix = bind_ok (number_of 1 mode.0.1) _ x mode.2 in
    let short = bind_ok (ensure (nat_le prefix.0.0 longest_prefix) (length mode.0.1)) _ x prefix.2 in
    let named = name_takes stores bytes name.0 small name.1 in
    let by_mode = mode_takes name.0.1 mode.0 named.taken.rest_fits mode.1 in
    let length_of = number_takes 1 width_1 mode.0.1 prefix.0.0 prefix.0.1 by_mode.rest_fits prefix.1 in
    let store : LiveStore = record { id = id; name = name.0.0; mode = mode.0.0; prefix_length = prefix.0.0 } in
    subst (TakesDescribed stores id bytes) (ok_is (store, prefix.0.1) x short.2)
    (record {
      taken = Takes-then bytes (sized 1 name.0.0) name.0.1 (big_bytes 1 (mode_code mode.0.0) ++ big_bytes 1 prefix.0.0) prefix.0.1 named.taken
          (Takes-then name.0.1 (big_bytes 1 (mode_code mode.0.0)) mode.0.1 (big_bytes 1 prefix.0.0) prefix.0.1 by_mode length_of.0);
      described = record { name = named.name; free = named.free; short = leb-true _ _ (ensure_ok (nat_le prefix.0.0 longest_prefix) (length mode.0.1) short.0 short.1) };
      id_is = refl;
    })

-- ---- runs

record TakesRun (low : ℕ) (joins : Bool) (bytes : List ℕ) (x : NumberRun × List ℕ) : Type 0 where
  taken : Takes bytes (run_text low x.0) x.1
  follows : MayFollow low joins x.0

run_takes : (low : ℕ) (joins : Bool) (bytes : List ℕ) (x : NumberRun × List ℕ) → IsBytes bytes → run_of low joins bytes ≡ Ok x → TakesRun low joins bytes x
unfolding run_of
run_takes low joins bytes x small e =
    let gap = bind_ok (number_of 4 bytes) _ x e in
    let apart = bind_ok (ensure (nat_lt 0 gap.0.0 || joins) (length bytes)) _ x gap.2 in
    let first = bind_ok (ensure (nat_lt (low + gap.0.0) greatest_number) (length bytes)) _ x apart.2 in
    let count = bind_ok (number_of 4 gap.0.1) _ x first.2 in
    let some = bind_ok (ensure (nat_lt 0 count.0.0) (length gap.0.1)) _ x count.2 in
    let fits = bind_ok (ensure (nat_le (low + gap.0.0 + count.0.0) greatest_number) (length gap.0.1)) _ x some.2 in
    let head = number_takes 4 width_4 bytes gap.0.0 gap.0.1 small gap.1 in
    let behind = number_takes 4 width_4 gap.0.1 count.0.0 count.0.1 head.0.rest_fits count.1 in
    let run : NumberRun = record { first = low + gap.0.0 + 1; count = count.0.0 } in
    let same : gap.0.0 ≡ low + gap.0.0 + 1 - low - 1 = omega arith in
    let one : 0 < count.0.0 = ltb-true _ _ (ensure_ok (nat_lt 0 count.0.0) (length gap.0.1) some.0 some.1) in
    let most : low + gap.0.0 + count.0.0 ≤ greatest_number = leb-true _ _ (ensure_ok (nat_le (low + gap.0.0 + count.0.0) greatest_number) (length gap.0.1) fits.0 fits.1) in
    subst (TakesRun low joins bytes) (ok_is (run, count.0.1) x fits.2)
    (record {
      taken = subst (λ (k : ℕ). Takes bytes (big_bytes 4 k ++ big_bytes 4 count.0.0) count.0.1) same
          (Takes-then bytes (big_bytes 4 gap.0.0) gap.0.1 (big_bytes 4 count.0.0) count.0.1 head.0 behind.0);
      follows = record {
        above = omega arith;
        gap = omega (arith, head.1);
        apart = subst (λ (k : ℕ). (nat_lt 0 k || joins) ≡ true) same (ensure_ok (nat_lt 0 gap.0.0 || joins) (length bytes) apart.0 apart.1);
        some = one;
        count = omega (arith, behind.1);
        small = omega (arith, most);
      };
    })

-- the runs that were read behind others
record TakesRuns (read : RunsRead) (n : ℕ) (bytes : List ℕ) (x : RunsRead × List ℕ) : Type 0 where
  runs : List NumberRun
  all : x.0.runs ≡ read.runs ++ runs
  taken : Takes bytes (runs_text read.low runs) x.1
  counted : length runs ≡ n
  are : AreRuns read.low read.joins runs

runs_take : (n : ℕ) (read : RunsRead) (bytes : List ℕ) (x : RunsRead × List ℕ) → IsBytes bytes → many run_step read n bytes ≡ Ok x → TakesRuns read n bytes x
unfolding many run_step
runs_take zero read bytes x small e =
    subst (TakesRuns read 0 bytes) (ok_is (read, bytes) x e)
    (record { runs = []; all = sym (append-nil read.runs); taken = record { parts = refl; rest_fits = small }; counted = refl; are = tt })
runs_take (suc n) read bytes x small e =
    let step = bind_ok (run_step read bytes) _ x e in
    let run = bind_ok (run_of read.low read.joins bytes) _ step.0 step.1 in
    let first = run_takes read.low read.joins bytes run.0 small run.1 in
    let is : (with_run read run.0.0, run.0.1) ≡ step.0 = ok_is (with_run read run.0.0, run.0.1) step.0 run.2 in
    let others = runs_take n (with_run read run.0.0) run.0.1 x first.taken.rest_fits
    (subst (λ (s : RunsRead × List ℕ). many run_step s.0 n s.1 ≡ Ok x) (sym is) step.2) in
    record {
      runs = run.0.0 ∷ others.runs;
      all = others.all ∙ append_assoc read.runs (run.0.0 ∷ []) others.runs;
      taken = Takes-then bytes (run_text read.low run.0.0) run.0.1 (runs_text (last_of_run run.0.0) others.runs) x.1 first.taken others.taken;
      counted = ap suc others.counted;
      are = (first.follows, others.are);
    }

-- ---- stores

record TakesStore (most horizon : ℕ) (runs : List NumberRun) (known : List LiveStore) (bytes : List ℕ) (x : LiveStore × List ℕ) : Type 0 where
  taken : Takes bytes (store_text x.0) x.1
  next : may_be_next most horizon runs known x.0.id ≡ true
  id_fits : x.0.id < 2 ^ 64
  described : IsDescribed known x.0

store_takes : (most horizon : ℕ) (runs : List NumberRun) (known : List LiveStore) (bytes : List ℕ) (x : LiveStore × List ℕ) → IsBytes bytes
    → store_of most horizon runs known bytes ≡ Ok x → TakesStore most horizon runs known bytes x
unfolding store_of
store_takes most horizon runs known bytes x small e =
    let id = bind_ok (number_of 8 bytes) _ x e in
    let next = bind_ok (ensure (may_be_next most horizon runs known id.0.0) (length bytes)) _ x id.2 in
    let store = bind_ok (described_of known id.0.0 id.0.1) _ x next.2 in
    let nodes = bind_ok (number_of 4 store.0.1) _ x store.2 in
    let none = bind_ok (ensure (nodes.0.0 == 0) (length store.0.1)) _ x nodes.2 in
    let head = number_takes 8 width_8 bytes id.0.0 id.0.1 small id.1 in
    let body = described_takes known id.0.0 id.0.1 store.0 head.0.rest_fits store.1 in
    let end = number_takes 4 width_4 store.0.1 nodes.0.0 nodes.0.1 body.taken.rest_fits nodes.1 in
    let zero_is : nodes.0.0 ≡ 0 = eqb-true _ _ (ensure_ok (nodes.0.0 == 0) (length store.0.1) none.0 none.1) in
    let same : id.0.0 ≡ store.0.0.id = sym body.id_is in
    subst (TakesStore most horizon runs known bytes) (ok_is (store.0.0, nodes.0.1) x none.2)
    (record {
      taken = Takes-then bytes (big_bytes 8 store.0.0.id) id.0.1 (described_text store.0.0 ++ big_bytes 4 0) nodes.0.1
          (subst (λ (k : ℕ). Takes bytes (big_bytes 8 k) id.0.1) same head.0)
          (Takes-then id.0.1 (described_text store.0.0) store.0.1 (big_bytes 4 0) nodes.0.1 body.taken
          (subst (λ (k : ℕ). Takes store.0.1 (big_bytes 4 k) nodes.0.1) zero_is end.0));
      next = subst (λ (k : ℕ). may_be_next most horizon runs known k ≡ true) same (ensure_ok (may_be_next most horizon runs known id.0.0) (length bytes) next.0 next.1);
      id_fits = omega (arith, head.1, same);
      described = body.described;
    })

-- the stores that were read behind others
record TakesStores (most horizon : ℕ) (runs : List NumberRun) (known : List LiveStore) (n : ℕ) (bytes : List ℕ) (x : List LiveStore × List ℕ) : Type 0 where
  stores : List LiveStore
  all : x.0 ≡ known ++ stores
  taken : Takes bytes (flat_map store_text stores) x.1
  counted : length stores ≡ n
  are : AreStores most horizon runs known stores

stores_take : (most horizon : ℕ) (runs : List NumberRun) (n : ℕ) (known : List LiveStore) (bytes : List ℕ) (x : List LiveStore × List ℕ) → IsBytes bytes
    → many (store_step most horizon runs) known n bytes ≡ Ok x → TakesStores most horizon runs known n bytes x
unfolding many store_step
stores_take most horizon runs zero known bytes x small e =
    subst (TakesStores most horizon runs known 0 bytes) (ok_is (known, bytes) x e)
    (record { stores = []; all = sym (append-nil known); taken = record { parts = refl; rest_fits = small }; counted = refl; are = tt })
stores_take most horizon runs (suc n) known bytes x small e =
    let step = bind_ok (store_step most horizon runs known bytes) _ x e in
    let store = bind_ok (store_of most horizon runs known bytes) _ step.0 step.1 in
    let first = store_takes most horizon runs known bytes store.0 small store.1 in
    let is : (known ++ store.0.0 ∷ [], store.0.1) ≡ step.0 = ok_is (known ++ store.0.0 ∷ [], store.0.1) step.0 store.2 in
    let others = stores_take most horizon runs n (known ++ store.0.0 ∷ []) store.0.1 x first.taken.rest_fits
    (subst (λ (s : List LiveStore × List ℕ). many (store_step most horizon runs) s.0 n s.1 ≡ Ok x) (sym is) step.2) in
    record {
      stores = store.0.0 ∷ others.stores;
      all = others.all ∙ append_assoc known (store.0.0 ∷ []) others.stores;
      taken = Takes-then bytes (store_text store.0.0) store.0.1 (flat_map store_text others.stores) x.1 first.taken others.taken;
      counted = ap suc others.counted;
      are = (first.next, first.id_fits, first.described, others.are);
    }

-- ---- entries

-- an entry that may come is behind its kind
record TakesEntry (most : ℕ) (before : Option Metadata) (kind : ℕ) (bytes : List ℕ) (x : Metadata × List ℕ) : Type 0 where
  entry : Entry
  may : MayCome most before entry
  after_is : after before entry ≡ Some x.0
  text : List ℕ
  taken : Takes bytes text x.1
  spelled : entry_text entry ≡ big_bytes 1 kind ++ text

-- what is read as the taken numbers of a base
record TakesTaken (horizon count : ℕ) (bytes : List ℕ) (x : List NumberRun × List ℕ) : Type 0 where
  taken : Takes bytes (runs_text horizon x.0) x.1
  counted : length x.0 ≡ count
  are : AreRuns horizon true x.0

taken_from_runs : (horizon count : ℕ) (bytes : List ℕ) (read : RunsRead × List ℕ) → TakesRuns (no_runs horizon) count bytes read
    → TakesTaken horizon count bytes (read.0.runs, read.1)
taken_from_runs horizon count bytes read takes = record {
  taken = subst (λ (l : List NumberRun). Takes bytes (runs_text horizon l) read.1) (sym takes.all) takes.taken;
  counted = ap length takes.all ∙ takes.counted;
  are = subst (AreRuns horizon true) (sym takes.all) takes.are;
}

taken_takes : (horizon count : ℕ) (bytes : List ℕ) (x : List NumberRun × List ℕ) → IsBytes bytes → runs_of horizon count bytes ≡ Ok x
    → TakesTaken horizon count bytes x
taken_takes horizon count bytes x small e =
    let read = bind_ok (many run_step (no_runs horizon) count bytes) _ x e in
    subst (TakesTaken horizon count bytes) (ok_is (read.0.0.runs, read.0.1) x read.2)
    (taken_from_runs horizon count bytes read.0 (runs_take count (no_runs horizon) bytes read.0 small read.1))

-- and as its stores
record TakesLive (most horizon : ℕ) (runs : List NumberRun) (count : ℕ) (bytes : List ℕ) (x : List LiveStore × List ℕ) : Type 0 where
  taken : Takes bytes (flat_map store_text x.0) x.1
  counted : length x.0 ≡ count
  are : AreStores most horizon runs [] x.0

live_takes : (most horizon : ℕ) (runs : List NumberRun) (count : ℕ) (bytes : List ℕ) (x : List LiveStore × List ℕ) → IsBytes bytes
    → stores_of most horizon runs count bytes ≡ Ok x → TakesLive most horizon runs count bytes x
live_takes most horizon runs count bytes x small e =
    let takes = stores_take most horizon runs count [] bytes x small e in
    record {
      taken = subst (λ (l : List LiveStore). Takes bytes (flat_map store_text l) x.1) (sym takes.all) takes.taken;
      counted = ap length takes.all ∙ takes.counted;
      are = subst (AreStores most horizon runs []) (sym takes.all) takes.are;
    }

-- a list behind its count, of four bytes
record TakesCounted (bytes text rest : List ℕ) (count : ℕ) : Type 0 where
  taken : Takes bytes (big_bytes 4 count ++ text) rest
  fits : count < 2 ^ 32

counted_takes : (bytes middle text rest : List ℕ) (n count : ℕ) → Takes bytes (big_bytes 4 n) middle → n < 256 ^ 4 → Takes middle text rest → count ≡ n
    → TakesCounted bytes text rest count
counted_takes bytes middle text rest n count head fits list is = record {
  taken = Takes-then bytes (big_bytes 4 count) middle text rest (subst (λ (k : ℕ). Takes bytes (big_bytes 4 k) middle) (sym is) head) list;
  fits = omega (arith, fits, is);
}

-- the lists of a base, behind its horizon and its first segment
record TakesLists (most horizon : ℕ) (taken : List NumberRun) (stores : List LiveStore) (bytes rest : List ℕ) : Type 0 where
  text : Takes bytes (big_bytes 4 (length taken) ++ (runs_text horizon taken ++ (big_bytes 4 (length stores) ++ flat_map store_text stores))) rest
  are_runs : AreRuns horizon true taken
  runs_counted : length taken < 2 ^ 32
  are_stores : AreStores most horizon taken [] stores
  stores_counted : length stores < 2 ^ 32

lists_take : (most horizon n m : ℕ) (taken : List NumberRun) (stores : List LiveStore) (bytes runs_at count_at stores_at rest : List ℕ) → IsBytes bytes
    → number_of 4 bytes ≡ Ok (n, runs_at) → runs_of horizon n runs_at ≡ Ok (taken, count_at) → number_of 4 count_at ≡ Ok (m, stores_at)
    → stores_of most horizon taken m stores_at ≡ Ok (stores, rest) → TakesLists most horizon taken stores bytes rest
lists_take most horizon n m taken stores bytes runs_at count_at stores_at rest small count runs more live =
    let a = number_takes 4 width_4 bytes n runs_at small count in
    let b = taken_takes horizon n runs_at (taken, count_at) a.0.rest_fits runs in
    let c = number_takes 4 width_4 count_at m stores_at b.taken.rest_fits more in
    let d = live_takes most horizon taken m stores_at (stores, rest) c.0.rest_fits live in
    let behind = counted_takes count_at stores_at (flat_map store_text stores) rest m (length stores) c.0 c.1 d.taken d.counted in
    let both : Takes runs_at (runs_text horizon taken ++ (big_bytes 4 (length stores) ++ flat_map store_text stores)) rest =
    Takes-then runs_at (runs_text horizon taken) count_at (big_bytes 4 (length stores) ++ flat_map store_text stores) rest b.taken behind.taken in
    let all = counted_takes bytes runs_at (runs_text horizon taken ++ (big_bytes 4 (length stores) ++ flat_map store_text stores)) rest n (length taken) a.0 a.1 both b.counted in
    record { text = all.taken; are_runs = b.are; runs_counted = all.fits; are_stores = d.are; stores_counted = behind.fits }

base_from : (most horizon first : ℕ) (taken : List NumberRun) (stores : List LiveStore) (bytes first_at lists_at rest : List ℕ) → IsBytes bytes
    → number_of 8 bytes ≡ Ok (horizon, first_at) → nat_le horizon greatest_number ≡ true → number_of 8 first_at ≡ Ok (first, lists_at) → (first == 1) ≡ true
    → (IsBytes lists_at → TakesLists most horizon taken stores lists_at rest)
    → TakesEntry most None base_kind bytes (record { horizon = horizon; first_segment = first; taken = taken; stores = stores }, rest)
base_from most horizon first taken stores bytes first_at lists_at rest small low_read low first_read one lists =
    let a = number_takes 8 width_8 bytes horizon first_at small low_read in
    let b = number_takes 8 width_8 first_at first lists_at a.0.rest_fits first_read in
    let c = lists b.0.rest_fits in
    let text : List ℕ = big_bytes 4 (length taken) ++ (runs_text horizon taken ++ (big_bytes 4 (length stores) ++ flat_map store_text stores)) in
    record {
      entry = base (record { horizon = horizon; first_segment = first; taken = taken; stores = stores });
      may = record {
        horizon = leb-true _ _ low;
        first = eqb-true _ _ one;
        runs = c.are_runs;
        runs_counted = c.runs_counted;
        stores = c.are_stores;
        stores_counted = c.stores_counted;
      };
      after_is = refl;
      text = big_bytes 8 horizon ++ (big_bytes 8 first ++ text);
      taken = Takes-then bytes (big_bytes 8 horizon) first_at (big_bytes 8 first ++ text) rest a.0
          (Takes-then first_at (big_bytes 8 first) lists_at text rest b.0 c.text);
      spelled = refl;
    }

base_takes : (most : ℕ) (bytes : List ℕ) (x : Metadata × List ℕ) → IsBytes bytes → base_of most bytes ≡ Ok x → TakesEntry most None base_kind bytes x
unfolding base_of
base_takes most bytes x small e =
    let horizon = bind_ok (number_of 8 bytes) _ x e in
    let low = bind_ok (ensure (nat_le horizon.0.0 greatest_number) (length bytes)) _ x horizon.2 in
    let first = bind_ok (number_of 8 horizon.0.1) _ x low.2 in
    let one = bind_ok (ensure (first.0.0 == 1) (length horizon.0.1)) _ x first.2 in
    let runs = bind_ok (number_of 4 first.0.1) _ x one.2 in
    let taken = bind_ok (runs_of horizon.0.0 runs.0.0 runs.0.1) _ x runs.2 in
    let count = bind_ok (number_of 4 taken.0.1) _ x taken.2 in
    let stores = bind_ok (stores_of most horizon.0.0 taken.0.0 count.0.0 count.0.1) _ x count.2 in
    let m : Metadata = record { horizon = horizon.0.0; first_segment = first.0.0; taken = taken.0.0; stores = stores.0.0 } in
    subst (TakesEntry most None base_kind bytes) (ok_is (m, stores.0.1) x stores.2)
    (base_from most horizon.0.0 first.0.0 taken.0.0 stores.0.0 bytes horizon.0.1 first.0.1 stores.0.1 small
    horizon.1 (ensure_ok (nat_le horizon.0.0 greatest_number) (length bytes) low.0 low.1) first.1 (ensure_ok (first.0.0 == 1) (length horizon.0.1) one.0 one.1)
    (λ fits. lists_take most horizon.0.0 runs.0.0 count.0.0 taken.0.0 stores.0.0 first.0.1 runs.0.1 taken.0.1 count.0.1 stores.0.1 fits runs.1 taken.1 count.1 stores.1))

create_takes : (most : ℕ) (m : Metadata) (bytes : List ℕ) (x : Metadata × List ℕ) → IsBytes bytes → create_of most m bytes ≡ Ok x
    → TakesEntry most (Some m) create_kind bytes x
unfolding create_of
create_takes most m bytes x small e =
    let number = bind_ok (number_of 8 bytes) _ x e in
    let next = bind_ok (ensure (may_be_number m number.0.0 && nat_lt (length m.stores) most) (length bytes)) _ x number.2 in
    let store = bind_ok (described_of m.stores number.0.0 number.0.1) _ x next.2 in
    let head = number_takes 8 width_8 bytes number.0.0 number.0.1 small number.1 in
    let body = described_takes m.stores number.0.0 number.0.1 store.0 head.0.rest_fits store.1 in
    let both = and_parts (may_be_number m number.0.0) (nat_lt (length m.stores) most)
    (ensure_ok (may_be_number m number.0.0 && nat_lt (length m.stores) most) (length bytes) next.0 next.1) in
    let same : number.0.0 ≡ store.0.0.id = sym body.id_is in
    subst (TakesEntry most (Some m) create_kind bytes) (ok_is (with_store m number.0.0 store.0.0, store.0.1) x store.2)
    (record {
      entry = create store.0.0;
      may = record {
        number = subst (λ (k : ℕ). may_be_number m k ≡ true) same both.0;
        room = ltb-true _ _ both.1;
        described = body.described;
      };
      after_is = ap (λ (k : ℕ). Some (with_store m k store.0.0)) (sym same);
      text = big_bytes 8 store.0.0.id ++ described_text store.0.0;
      taken = Takes-then bytes (big_bytes 8 store.0.0.id) number.0.1 (described_text store.0.0) store.0.1
          (subst (λ (k : ℕ). Takes bytes (big_bytes 8 k) number.0.1) same head.0) body.taken;
      spelled = refl;
    })

drop_takes : (most : ℕ) (m : Metadata) (bytes : List ℕ) (x : Metadata × List ℕ) → IsBytes bytes → drop_of m bytes ≡ Ok x
    → TakesEntry most (Some m) drop_kind bytes x
unfolding drop_of
drop_takes most m bytes x small e =
    let number = bind_ok (number_of 8 bytes) _ x e in
    let next = bind_ok (ensure (may_be_number m number.0.0) (length bytes)) _ x number.2 in
    let id = bind_ok (number_of 8 number.0.1) _ x next.2 in
    let live = bind_ok (ensure (is_live id.0.0 m.stores) (length number.0.1)) _ x id.2 in
    let head = number_takes 8 width_8 bytes number.0.0 number.0.1 small number.1 in
    let body = number_takes 8 width_8 number.0.1 id.0.0 id.0.1 head.0.rest_fits id.1 in
    subst (TakesEntry most (Some m) drop_kind bytes) (ok_is (without_store m number.0.0 id.0.0, id.0.1) x live.2)
    (record {
      entry = drop number.0.0 id.0.0;
      may = record {
        next = ensure_ok (may_be_number m number.0.0) (length bytes) next.0 next.1;
        live = ensure_ok (is_live id.0.0 m.stores) (length number.0.1) live.0 live.1;
        id_fits = omega (arith, body.1);
      };
      after_is = refl;
      text = big_bytes 8 number.0.0 ++ big_bytes 8 id.0.0;
      taken = Takes-then bytes (big_bytes 8 number.0.0) number.0.1 (big_bytes 8 id.0.0) id.0.1 head.0 body.0;
      spelled = refl;
    })

by_test : {A : Type 0} (P : A → Type 0) (test : Bool) (one other : Result A ℕ) (x : A) → (if test then one else other) ≡ Ok x
    → (test ≡ true → one ≡ Ok x → P x) → (other ≡ Ok x → P x) → P x
by_test {A = A} P true one other x e first second = first refl e
by_test {A = A} P false one other x e first second = second e

entry_takes : (most : ℕ) (before : Option Metadata) (kind left : ℕ) (bytes : List ℕ) (x : Metadata × List ℕ) → IsBytes bytes
    → entry_of most before kind left bytes ≡ Ok x → TakesEntry most before kind bytes x
unfolding entry_of
entry_takes most None kind left bytes x small e =
    by_test (TakesEntry most None kind bytes) (kind == base_kind) (base_of most bytes) (Err left) x e
    (λ is read. subst (λ (k : ℕ). TakesEntry most None k bytes x) (sym (eqb-true kind base_kind is)) (base_takes most bytes x small read))
    (λ bad. absurd (refused_ok left x bad))
entry_takes most (Some m) kind left bytes x small e =
    by_test (TakesEntry most (Some m) kind bytes) (kind == create_kind) (create_of most m bytes) _ x e
    (λ is read. subst (λ (k : ℕ). TakesEntry most (Some m) k bytes x) (sym (eqb-true kind create_kind is)) (create_takes most m bytes x small read))
    (λ more. by_test (TakesEntry most (Some m) kind bytes) (kind == drop_kind) (drop_of m bytes) (Err left) x more
    (λ is read. subst (λ (k : ℕ). TakesEntry most (Some m) k bytes x) (sym (eqb-true kind drop_kind is)) (drop_takes most m bytes x small read))
    (λ bad. absurd (refused_ok left x bad)))

pub payload_takes : (most : ℕ) (before : Option Metadata) (payload : List ℕ) (m : Metadata) → IsBytes payload → payload_of most before payload ≡ Ok m
    → SpellsEntry most before payload m
unfolding payload_of
payload_takes most before payload m small e =
    let kind = bind_ok (number_of 1 payload) _ m e in
    let read = bind_ok (entry_of most before kind.0.0 (length payload) kind.0.1) _ m kind.2 in
    let ended = bind_ok (ensure (length read.0.1 == 0) (4 + length payload)) _ m read.2 in
    let head = number_takes 1 width_1 payload kind.0.0 kind.0.1 small kind.1 in
    let body = entry_takes most before kind.0.0 (length payload) kind.0.1 read.0 head.0.rest_fits read.1 in
    let none : read.0.1 ≡ [] = nil_from_length read.0.1 (eqb-true _ _ (ensure_ok (length read.0.1 == 0) (4 + length payload) ended.0 ended.1)) in
    let all = Takes-then payload (big_bytes 1 kind.0.0) kind.0.1 body.text read.0.1 head.0 body.taken in
    record {
      entry = body.entry;
      may = body.may;
      after_is = body.after_is ∙ ap Some (ok_is read.0.0 m ended.2);
      spelled = all.parts ∙ ap (λ (l : List ℕ). (big_bytes 1 kind.0.0 ++ body.text) ++ l) none
          ∙ append-nil (big_bytes 1 kind.0.0 ++ body.text) ∙ sym body.spelled;
    }
