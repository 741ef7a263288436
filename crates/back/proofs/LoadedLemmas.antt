-- What is loaded of a device may be a base, and so what an entry leaves, also behind commits.
use Rattle.std.proofs.Common.{◌≡◌, ◌∙◌, ℕ, ◌+◌, ◌-◌, ◌*◌, ◌^◌, ◌<◌, ◌≤◌, true, List, [], ◌∷◌, ◌++◌, length, Some, refl, sym, ap, subst, arith, inl, inr}
use Rattle.std.specs.Prelude.{nat_le, nat_lt}
use Rattle.std.proofs.lemmas.Bool.{and_from, le-leb, lt-ltb}
use Rattle.std.proofs.lemmas.List.{length-append, length-take}
use Rattle.hse_fields.specs.LogText as log
use Rattle.gate_log.specs.Places.{region_of, tail_of}
use Rattle.gate_log.specs.Gates.{first_gate, open_part}
use Rattle.gate_log.specs.laws.Spelling.{length-open_part}
use Rattle.device_layout.specs.Layouts.{half_of}
use Rattle.hse_rows.specs.machine.ManifestRoom.{creation_bytes, drop_bytes}
use Rattle.hse_rows.specs.machine.TakenRuns.{NumberRun, numbers_of, runs_of}
use Rattle.manifest.specs.MayCome.{IsDescribed, MayBeBase, MayCome, MayCreate, MayDrop}
use Rattle.manifest.specs.Metadata.{LiveStore, Metadata, greatest_number, is_live, is_taken, may_be_number, last_by, last_known, last_of_run, with_store, with_taken, without_store}
use Rattle.manifest.specs.Text.{Entry, base, create, drop, base_text, entry_text}
use Rattle.manifest.specs.laws.Sizes.{base_length_of, creation_length, drop_length}
use Rattle.media_disk.specs.Content.{part}
use Rattle.recovery.specs.Image.{IsLoaded, Loaded, prefixes_of}
use Rattle.wal.specs.Charges.{charges}
use Rattle.wal.specs.Numbering.{free_from}
use Rattle.wal.specs.Replaying.{starting}
use Rattle.wal.specs.laws.Free.{IsIn}
use Rattle.wal.specs.laws.Numbering.{counted}
use Rattle.back.specs.Bases.{AreCounted, AreKnown}
use Rattle.back.specs.Steps.{MayCommit, MayCommitAny, MayEnter, last_number, metadata_with, number_in, with_commits}
use Rattle.back.proofs.BaseLemmas.{IsLoose, IsRead, all_read, loose_created, loose_dropped}
use Rattle.back.proofs.CommitLemmas.{Behind, next_free, next_least, room_left}
use Rattle.back.proofs.CountLemmas.{HasFew, HasNoMore, all_below, entries_fill, has_few}
use Rattle.back.proofs.FewLemmas.{few_as_numbers}
use Rattle.back.proofs.FoldLemmas.{number_more}
use Rattle.back.proofs.LiveLemmas.{live_fits, stores_few, stores_known, stores_length}
use Rattle.back.proofs.LogLemmas.{behind_log, next_is}
use Rattle.back.proofs.RunLemmas.{AreNear, are_runs, last_in, near_more, taken_count, taken_counted, taken_in, taken_near}

-- ---- what is loaded

module _ (image : List ℕ) (loaded : Loaded) (says : IsLoaded image loaded) where
  pub read : IsRead loaded.layout.stores (tail_of says.manifest.payloads) loaded.metadata
  read = all_read loaded.layout.stores first_gate says.manifest.payloads loaded.metadata says.manifest.says

  -- the taken numbers stand in as few runs as say them
  pub few_taken : AreCounted loaded.metadata.taken → loaded.metadata.taken ≡ runs_of (numbers_of loaded.metadata.taken)
  few_taken = few_as_numbers loaded.metadata.horizon true loaded.metadata.taken read.loose.runs

  -- the half in force has room for its batches, and for the gate behind them
  pub inside : tail_of says.manifest.payloads < loaded.layout.manifest
  inside =
      let gated = says.manifest.gated in
      let region : List ℕ = region_of (half_of loaded.layout loaded.half) image in
      omega (
        arith,
        ap length gated.spelled,
        length-append (open_part loaded.sequence says.manifest.payloads) (gated.gate ∷ gated.rest),
        length-open_part loaded.sequence says.manifest.payloads,
        length-take loaded.layout.manifest (Rattle.std.specs.Prelude.drop (half_of loaded.layout loaded.half).at image),
      )

  few_runs : 8 * length loaded.metadata.taken ≤ 67108864
  few_runs =
      let most : loaded.layout.manifest ≤ 67108864 = says.layout.good.params.half.most in
      omega (arith, read.few, inside, most)

  few_stores : (stores : List LiveStore) → length stores ≤ loaded.layout.stores → length stores ≤ 4096
  few_stores stores few =
      let most : loaded.layout.stores ≤ 4096 = says.layout.good.params.stores in omega (arith, few, most)

  -- ---- the log

  pub behind : Behind (prefixes_of loaded.metadata.stores) (loaded.metadata.horizon + 1) (numbers_of loaded.metadata.taken) loaded.layout.log loaded.log.entries says.log.last
  behind = behind_log loaded.layout image loaded.metadata loaded.log says.log says.full

  pub top_is : last_number loaded + 1 ≡ free_from says.log.last.next (numbers_of loaded.metadata.taken)
  top_is = next_is loaded.layout image loaded.metadata loaded.log says.log says.full

  no_more : HasNoMore (loaded.metadata.horizon + 1) (last_number loaded + 1) (numbers_of loaded.metadata.taken) (length loaded.log.entries)
  no_more low high from to none =
      let free : free_from says.log.last.next says.log.last.taken ≡ free_from says.log.last.next (numbers_of loaded.metadata.taken) =
      next_free (prefixes_of loaded.metadata.stores) (loaded.metadata.horizon + 1) (numbers_of loaded.metadata.taken) loaded.layout.log loaded.log.entries says.log.last behind in
      let top : last_number loaded + 1 ≡ free_from says.log.last.next says.log.last.taken = top_is ∙ sym free in
      entries_fill (prefixes_of loaded.metadata.stores) (starting (loaded.metadata.horizon + 1) (numbers_of loaded.metadata.taken) loaded.layout.log) says.log.last
      loaded.log.entries behind.follow low high from (subst (λ (n : ℕ). high ≤ n) top to) none

  below_top : (n : ℕ) → IsIn n (numbers_of loaded.metadata.taken) → n < last_number loaded + 1
  below_top n here =
      subst (λ (top : ℕ). n < top) (sym top_is) (all_below says.log.last.next (numbers_of loaded.metadata.taken) n behind.none here)

  few : HasFew (length loaded.log.entries) (last_number loaded + 1) loaded.metadata.horizon loaded.metadata.taken
  few =
      has_few (length loaded.log.entries) (loaded.metadata.horizon + 1) (last_number loaded + 1) (numbers_of loaded.metadata.taken) no_more
      loaded.metadata.horizon true loaded.metadata.taken read.loose.runs (omega arith) (λ n above here. here) below_top

  few_entries : length loaded.log.entries ≤ 67108864
  few_entries =
      let sum : charges loaded.log.entries + says.log.last.room ≡ loaded.layout.log - 64 =
      room_left (prefixes_of loaded.metadata.stores) (loaded.metadata.horizon + 1) (numbers_of loaded.metadata.taken) loaded.layout.log loaded.log.entries says.log.last behind in
      let most : loaded.layout.log ≤ 67108864 = says.layout.good.params.segment.most in
      omega (arith, sum, most, counted loaded.log.entries)

  few_commits : (commits : List log.Entry) → MayCommitAny loaded commits → length loaded.log.entries + length commits ≤ 67108864
  few_commits [] may = omega (arith, few_entries)
  few_commits (commit ∷ commits) may =
      let most : loaded.layout.log ≤ 67108864 = says.layout.good.params.segment.most in
      let fits : charges loaded.log.entries + charges (commit ∷ commits) ≤ loaded.layout.log - 64 = may.fits in
      omega (arith, fits, most, counted loaded.log.entries, counted (commit ∷ commits))

  -- ---- a base

  -- So metadata may be that have no more runs and stores, and no larger gaps.
  base_by : (m : Metadata) (most : ℕ) → most ≤ 67108864 → IsLoose loaded.layout.stores m → AreCounted m.taken → AreNear most m.horizon m.taken
      → length m.taken ≤ length loaded.metadata.taken + 1 → MayBeBase loaded.layout.stores m
  base_by m most small loose counts near count =
      let stores = stores_few loaded.layout.stores m.horizon m.taken [] m.stores (omega arith) loose.stores in
      record {
        horizon = loose.horizon;
        first = loose.first;
        runs = are_runs most m.horizon true true m.taken (omega (arith, small)) (λ is. is) loose.runs counts near;
        runs_counted = omega (arith, count, few_runs);
        stores = loose.stores;
        stores_counted = omega (arith, few_stores m.stores (omega (arith, stores)));
      }

  pub loaded_base : AreCounted loaded.metadata.taken → MayBeBase loaded.layout.stores loaded.metadata
  loaded_base counts =
      base_by loaded.metadata (length loaded.log.entries) few_entries read.loose counts few.near (omega arith)

  text_by : (m : Metadata) → IsLoose loaded.layout.stores m → length m.taken ≤ length loaded.metadata.taken + 1 → length (base_text m) < 2 ^ 32
  text_by m loose count =
      let stores = stores_few loaded.layout.stores m.horizon m.taken [] m.stores (omega arith) loose.stores in
      let least = few_stores m.stores (omega (arith, stores)) in
      let text = stores_length loaded.layout.stores m.horizon m.taken [] m.stores loose.stores in
      omega (arith, base_length_of m, count, few_runs, least, text)

  -- the number that comes next behind so many commits leaves no larger gap
  near_next : (number count : ℕ) → number ≡ last_number loaded + count + 1
      → AreNear (length loaded.log.entries + count) loaded.metadata.horizon (with_taken loaded.metadata.taken number)
  near_next number count is =
      taken_near (length loaded.log.entries + count) loaded.metadata.horizon loaded.metadata.taken number
      (near_more (length loaded.log.entries) (length loaded.log.entries + count) loaded.metadata.horizon loaded.metadata.taken (omega arith) few.near)
      (omega (arith, is, few.behind))

  pub base_after : (count : ℕ) (entry : Entry) → length loaded.log.entries + count ≤ 67108864 → AreCounted loaded.metadata.taken
      → number_in entry ≡ last_number loaded + count + 1 → MayCome loaded.layout.stores (Some loaded.metadata) entry
      → MayBeBase loaded.layout.stores (metadata_with loaded.metadata entry)
  base_after count (base n) small counts next may = absurd may
  base_after count (create store) small counts next may =
      base_by (with_store loaded.metadata store.id store) (length loaded.log.entries + count) small
      (loose_created loaded.layout.stores loaded.metadata store read.loose may) (taken_counted loaded.metadata.taken store.id counts)
      (near_next store.id count next) (taken_count loaded.metadata.taken store.id)
  base_after count (drop number id) small counts next may =
      base_by (without_store loaded.metadata number id) (length loaded.log.entries + count) small
      (loose_dropped loaded.layout.stores loaded.metadata number id read.loose may.next) (taken_counted loaded.metadata.taken number counts)
      (near_next number count next) (taken_count loaded.metadata.taken number)

  pub text_after : (entry : Entry) → MayCome loaded.layout.stores (Some loaded.metadata) entry → length (base_text (metadata_with loaded.metadata entry)) < 2 ^ 32
  text_after (base n) may = absurd may
  text_after (create store) may =
      text_by (with_store loaded.metadata store.id store) (loose_created loaded.layout.stores loaded.metadata store read.loose may)
      (taken_count loaded.metadata.taken store.id)
  text_after (drop number id) may =
      text_by (without_store loaded.metadata number id) (loose_dropped loaded.layout.stores loaded.metadata number id read.loose may.next)
      (taken_count loaded.metadata.taken number)

  entered : (commits : List log.Entry) (entry : Entry) → AreCounted loaded.metadata.taken → MayCommitAny loaded commits
      → number_in entry ≡ last_number (with_commits loaded commits) + 1 → MayCome loaded.layout.stores (Some loaded.metadata) entry
      → MayEnter (with_commits loaded commits) entry
  entered commits entry counts may next comes =
      enter_by commits next comes
      (base_after (length commits) entry (few_commits commits may) counts (next ∙ ap (λ (n : ℕ). n + 1) (number_more image loaded commits says)) comes)
    where
      enter_by : (commits : List log.Entry) → number_in entry ≡ last_number (with_commits loaded commits) + 1
          → MayCome loaded.layout.stores (Some loaded.metadata) entry → MayBeBase loaded.layout.stores (metadata_with loaded.metadata entry)
          → MayEnter (with_commits loaded commits) entry
      enter_by [] next comes base_may = record { next = next; comes = comes; base_may = base_may }
      enter_by (commit ∷ commits) next comes base_may = record { next = next; comes = comes; base_may = base_may }

  -- ---- what may come next

  -- the numbers that the manifest knows of are up to the last one
  last_low : last_known loaded.metadata ≤ last_number loaded
  last_low =
      let least : loaded.metadata.horizon + 1 ≤ free_from says.log.last.next (numbers_of loaded.metadata.taken) =
      next_least (prefixes_of loaded.metadata.stores) (loaded.metadata.horizon + 1) (numbers_of loaded.metadata.taken) loaded.layout.log loaded.log.entries says.log.last behind in
      elim (last_in loaded.metadata.horizon true loaded.metadata.taken read.loose.runs) [
        | inl is ↦ omega (arith, is, least, top_is)
        | inr here ↦ let lt = below_top (last_known loaded.metadata) here in omega (arith, lt)
      ]

  next_number : (commits : List log.Entry) (number : ℕ) → number ≡ last_number (with_commits loaded commits) + 1 → number ≤ 2 ^ 62
      → may_be_number loaded.metadata number ≡ true
  next_number commits number next small =
      and_from (nat_lt (last_known loaded.metadata) number) (nat_le number greatest_number)
      (lt-ltb (last_known loaded.metadata) number (omega (arith, last_low, next, number_more image loaded commits says)))
      (le-leb number greatest_number (omega (arith, small)))

  pub creation_may : (commits : List log.Entry) (store : LiveStore) → AreCounted loaded.metadata.taken → MayCommitAny loaded commits
      → store.id ≡ last_number (with_commits loaded commits) + 1 → store.id ≤ 2 ^ 62 → length loaded.metadata.stores < loaded.layout.stores
      → IsDescribed loaded.metadata.stores store → MayEnter (with_commits loaded commits) (create store)
  creation_may commits store counts may next small room described =
      entered commits (create store) counts may next (record { number = next_number commits store.id next small; room = room; described = described })

  pub drop_may : (commits : List log.Entry) (number id : ℕ) → AreCounted loaded.metadata.taken → MayCommitAny loaded commits
      → number ≡ last_number (with_commits loaded commits) + 1 → number ≤ 2 ^ 62 → is_live id loaded.metadata.stores ≡ true
      → MayEnter (with_commits loaded commits) (drop number id)
  drop_may commits number id counts may next small live =
      entered commits (drop number id) counts may next (record {
        next = next_number commits number next small;
        live = live;
        id_fits = live_fits loaded.layout.stores loaded.metadata.horizon loaded.metadata.taken [] loaded.metadata.stores id read.loose.stores live;
      })

  -- ---- stores

  pub known_stores : AreKnown (last_number loaded) loaded.metadata.stores
  known_stores =
      let least : loaded.metadata.horizon + 1 ≤ free_from says.log.last.next (numbers_of loaded.metadata.taken) =
      next_least (prefixes_of loaded.metadata.stores) (loaded.metadata.horizon + 1) (numbers_of loaded.metadata.taken) loaded.layout.log loaded.log.entries says.log.last behind in
      stores_known loaded.layout.stores loaded.metadata.horizon (last_number loaded) loaded.metadata.taken [] loaded.metadata.stores
      (omega (arith, least, top_is))
      (λ id is. let lt = below_top id (taken_in id loaded.metadata.taken is) in omega (arith, lt)) read.loose.stores

-- ---- the text of an entry

pub short_entry : (most : ℕ) (before : Metadata) (entry : Entry) → MayCome most (Some before) entry → length (entry_text entry) < 2 ^ 32
short_entry most before (base n) may = absurd may
short_entry most before (create store) may =
    let short : length store.name ≤ 31 = may.described.name.most in
    omega (arith, creation_length store, short)
short_entry most before (drop number id) may = omega (arith, drop_length number id)
