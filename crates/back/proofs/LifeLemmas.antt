-- The life at what is loaded of a device is within the limits, and begins at a state.
use Rattle.std.proofs.Common.{◌≡◌, ◌∙◌, ℕ, zero, suc, ◌+◌, ◌-◌, ◌^◌, ◌<◌, ◌≤◌, ◌==◌, Bool, true, false, List, [], ◌∷◌, ◌++◌, map, take, get_or, Option, Some, None, Ok, Err, refl, sym, ap, subst, arith, inl, inr}
use Rattle.std.specs.Prelude.{Result, nat_le, nat_lt, ◌%◌, if◌then◌else◌}
use Rattle.std.specs.List.{flat_map, list_any}
use Rattle.std.specs.Cmp.Lexicographic.{nat_list_eq_equiv}
use Rattle.std.proofs.lemmas.Bool.{and_parts, cases_lt, leb-true}
use Rattle.std.proofs.lemmas.List.{length-map, append-nil}
use Rattle.byteorder.specs.Endian.{big_bytes, big_number}
use Rattle.byteorder.specs.Numbers.{big_number-reads_back}
use Rattle.gate_log.specs.Gates.{Gated, frame, open_gate}
use Rattle.gate_log.specs.Places.{region_of}
use Rattle.device_layout.specs.Layouts.{half_of, params_of, sizes_of}
use Rattle.device_layout.specs.declared.layout.Layout.{Layout}
use Rattle.hse_fields.specs.LogText.{Entry}
use Rattle.hse_rows.specs.machine.Core.{life}
use Rattle.hse_rows.specs.machine.Limits.{IsWithinLimits, LogFits, ManifestFits}
use Rattle.hse_rows.specs.machine.TakenRuns.{NumberRun, counted, numbers_of}
use Rattle.hse_rows.specs.states.State.{Store, IsState}
use Rattle.hse_rows.specs.states.State as states
use Rattle.hse_rows.specs.writes.NormalForm.{same}
use Rattle.manifest.specs.Half.{Head, Holds, candidate, greater, head_fits, head_in, head_of, is_sequence_of, open_head}
use Rattle.manifest.specs.MayCome.{AreStores}
use Rattle.manifest.specs.Metadata.{LiveStore, Metadata, greatest_number, is_named, is_used, last_id, last_of_run}
use Rattle.recovery.specs.Image.{IsLoaded, Loaded, before_log, prefixes_of}
use Rattle.recovery.specs.Machine.{log_of, manifest_of, stored_of}
use Rattle.recovery.specs.Stored.{state_of, store_in}
use Rattle.wal.specs.Charges.{charges}
use Rattle.wal.specs.Numbering.{free_from}
use Rattle.wal.specs.laws.Free.{IsIn, free_fills}
use Rattle.wal.specs.laws.Numbering.{next_small}
use Rattle.back.specs.Bases.{AreKnown}
use Rattle.back.specs.Steps.{last_number}
use Rattle.back.specs.laws.Charged.{entries_charged}
use Rattle.back.proofs.CommitLemmas.{room_left}
use Rattle.back.proofs.ImageLemmas.{head_is}
use Rattle.back.proofs.LiveLemmas.{free_front, free_last, last_is, next_from, or_none, stores_few}
use Rattle.back.proofs.LoadedLemmas.{behind, inside, known_stores, read, top_is}
use Rattle.back.proofs.RunLemmas.{AreStanding, in_both, in_counted, is_full}

-- ---- the half in force

-- a head behind an opened gate
open_head_of : (sequence : ℕ) (rest : List ℕ) → sequence < 2 ^ 64
    → head_of (take 10 (open_gate ∷ (big_bytes 8 sequence ++ rest))) ≡ open_head sequence (get_or (take 1 rest) 0 0 == open_gate)
open_head_of sequence rest fits =
    let reads : big_number 8 (big_bytes 8 sequence) ≡ sequence =
    sym (ap (big_number 8) (append-nil (big_bytes 8 sequence))) ∙ big_number-reads_back 8 sequence [] fits in
    ap (λ (s : ℕ). open_head s (get_or (take 1 rest) 0 0 == open_gate)) reads

record IsOpen (head : Head) (sequence : ℕ) : Type 0 where
  has_batch : Bool
  is : head ≡ open_head sequence has_batch

gated_head : (layout : Layout) (half sequence : ℕ) (image : List ℕ) (payloads : List (List ℕ)) → 10 ≤ layout.manifest
    → Gated (region_of (half_of layout half) image) sequence payloads → IsOpen (head_in (half_of layout half) image) sequence
gated_head layout half sequence image payloads size gated = record {
  has_batch = get_or (take 1 (flat_map frame payloads ++ gated.gate ∷ gated.rest)) 0 0 == open_gate;
  is = head_is (half_of layout half) image size
      ∙ ap (λ (r : List ℕ). head_of (take 10 r)) gated.spelled
      ∙ open_head_of sequence (flat_map frame payloads ++ gated.gate ∷ gated.rest) gated.sequence_fits;
}

force_fits : (a b : Bool) (r : Result ℕ (ℕ × ℕ)) (half : ℕ)
    → (if a then (if b then r else Err (1, 1)) else Err (0, 1)) ≡ Ok half → (a ≡ true) × (b ≡ true) × (r ≡ Ok half)
force_fits true true r half is = (refl, refl, is)
force_fits true false r half is = absurd cc
force_fits false b r half is = absurd cc

ok_is : (x y : ℕ) → ◌≡◌ {A = Result ℕ (ℕ × ℕ)} (Ok x) (Ok y) → x ≡ y
ok_is x y is = cc

either_half : (b : Bool) (half : ℕ) → ◌≡◌ {A = Result ℕ (ℕ × ℕ)} (if b then Ok 1 else Ok 0) (Ok half) → half < 2
either_half true half is = let e : 1 ≡ half = ok_is 1 half is in omega (arith, e)
either_half false half is = let e : 0 ≡ half = ok_is 0 half is in omega (arith, e)

one_of_two : (first second : Option ℕ) (half : ℕ) → greater first second ≡ Ok half → half < 2
one_of_two None None half is = absurd cc
one_of_two (Some sequence) None half is = let e : 0 ≡ half = ok_is 0 half is in omega (arith, e)
one_of_two None (Some sequence) half is = let e : 1 ≡ half = ok_is 1 half is in omega (arith, e)
one_of_two (Some first) (Some second) half is = either_half (nat_lt first second) half is

small_by : (half sequence : ℕ) → is_sequence_of half sequence ≡ true → sequence ≤ 2 ^ 62
small_by half sequence is = leb-true sequence greatest_number (and_parts (sequence % 2 == half) (nat_le sequence greatest_number) is).1

open_small : (half sequence : ℕ) (head : Head) → IsOpen head sequence → head_fits half head ≡ true → sequence ≤ 2 ^ 62
open_small half sequence head opened fits =
    small_by half sequence (subst (λ (h : Head). head_fits half h ≡ true) opened.is fits)

-- its sequence is no greater than the greatest one
sequence_small : (layout : Layout) (half sequence place : ℕ) (image : List ℕ) (m : Metadata) → 10 ≤ layout.manifest
    → Holds layout half sequence place image m → sequence ≤ 2 ^ 62
sequence_small layout half sequence place image m size held =
    let first : Head = head_in (half_of layout 0) image in
    let second : Head = head_in (half_of layout 1) image in
    let parts = force_fits (head_fits 0 first) (head_fits 1 second) (greater (candidate first) (candidate second)) half held.in_force in
    let lt = one_of_two (candidate first) (candidate second) half parts.2 in
    by half lt (gated_head layout half sequence image held.payloads size held.gated) parts.0 parts.1
  where
    by : (half : ℕ) → half < 2 → IsOpen (head_in (half_of layout half) image) sequence → head_fits 0 (head_in (half_of layout 0) image) ≡ true
        → head_fits 1 (head_in (half_of layout 1) image) ≡ true → sequence ≤ 2 ^ 62
    by zero lt opened one other = open_small 0 sequence (head_in (half_of layout 0) image) opened one
    by (suc zero) lt opened one other = open_small 1 sequence (head_in (half_of layout 1) image) opened other
    by (suc (suc n)) lt opened one other = absurd (omega (arith, lt))

-- ---- the last number

numbers_small : (n low : ℕ) (full : Bool) (runs : List NumberRun) → AreStanding low full runs → IsIn n (numbers_of runs) → n ≤ 2 ^ 62
numbers_small n low full [] are here = absurd here
numbers_small n low full (run ∷ runs) are here = elim (in_both n (counted run.first run.count) (numbers_of runs) here) [
  | inl first ↦
      let within = in_counted n run.first run.count first in
      let small : last_of_run run ≤ greatest_number = are.0.small in
      omega (arith, within.1, small)
  | inr rest ↦ numbers_small n (last_of_run run) (is_full run) runs are.1 rest
]

free_small : (next most : ℕ) (taken : List ℕ) → next ≤ most + 1 → ((n : ℕ) → IsIn n taken → n ≤ most) → free_from next taken ≤ most + 1
free_small next most taken low small = elim (cases_lt (most + 1) (free_from next taken)) [
  | inl lt ↦ let bad : most + 1 ≤ most = small (most + 1) (free_fills next taken (most + 1) low lt) in absurd (omega (arith, bad))
  | inr le ↦ le
]

-- ---- the stores

named_later : (most horizon : ℕ) (runs : List NumberRun) (entries : List Entry) (store : LiveStore) (known stores : List LiveStore)
    → ((name : List ℕ) → is_used name known ≡ false → is_named name store ≡ false) → AreStores most horizon runs known stores
    → list_any (λ (other : Store). same other.name store.name) (map (store_in entries) stores) ≡ false
named_later most horizon runs entries store known [] has are = refl
named_later most horizon runs entries store known (next ∷ stores) has are =
    let apart : same next.name store.name ≡ false = nat_list_eq_equiv.symm next.name store.name ∙ has next.name are.2.free in
    or_none (same next.name store.name) (list_any (λ (other : Store). same other.name store.name) (map (store_in entries) stores)) apart
    (named_later most horizon runs entries store (known ++ next ∷ []) stores (λ name free. has name (free_front name known next free)) are.3)

-- no two have one name
stores_named : (most horizon : ℕ) (runs : List NumberRun) (entries : List Entry) (known stores : List LiveStore) → AreStores most horizon runs known stores
    → states.AreNamedApart (map (store_in entries) stores)
stores_named most horizon runs entries known [] are = tt
stores_named most horizon runs entries known (store ∷ stores) are = (
  named_later most horizon runs entries store (known ++ store ∷ []) stores (λ name free. free_last name known store free) are.3,
  stores_named most horizon runs entries (known ++ store ∷ []) stores are.3,
)

-- ids rise up to a number
stores_rise : (most horizon number low : ℕ) (runs : List NumberRun) (entries : List Entry) (known stores : List LiveStore) → low ≤ last_id known
    → AreStores most horizon runs known stores → AreKnown number stores → states.AreRising low number (map (store_in entries) stores)
stores_rise most horizon number low runs entries known [] le are up = tt
stores_rise most horizon number low runs entries known (store ∷ stores) le are up =
    let next = next_from most horizon runs known store.id are.0 in (
      omega (arith, le, next.above),
      up.0.0,
      stores_rise most horizon number store.id runs entries (known ++ store ∷ []) stores (omega (arith, last_is known store)) are.3 up.1,
    )

-- ---- the life

module _ (image : List ℕ) (loaded : Loaded) (says : IsLoaded image loaded) where
  number_small : last_number loaded ≤ 2 ^ 62
  number_small =
      let is = read image loaded says in
      let start : loaded.metadata.horizon + 1 ≤ 2 ^ 62 + 1 = omega (arith, is.loose.horizon) in
      let next : says.log.last.next ≤ 2 ^ 62 + 1 =
      next_small (prefixes_of loaded.metadata.stores) (before_log loaded.layout loaded.metadata) says.log.last loaded.log.entries start
      (behind image loaded says).follow in
      let free = free_small says.log.last.next (2 ^ 62) (numbers_of loaded.metadata.taken) next
      (λ n here. numbers_small n loaded.metadata.horizon true loaded.metadata.taken is.loose.runs here) in
      omega (arith, free, top_is image loaded says)

  log_fits : LogFits (sizes_of (params_of loaded.layout)) (log_of loaded)
  log_fits =
      let sum : charges loaded.log.entries + says.log.last.room ≡ loaded.layout.log - 64 =
      room_left (prefixes_of loaded.metadata.stores) (loaded.metadata.horizon + 1) (numbers_of loaded.metadata.taken) loaded.layout.log loaded.log.entries says.log.last
      (behind image loaded says) in
      let first : loaded.metadata.first_segment ≡ 1 = (read image loaded says).loose.first in
      record {
        room = omega (arith, sum, entries_charged loaded.log.entries);
        layers = omega arith;
        frozen = tt;
        segments = omega (arith, first);
      }

  manifest_fits : ManifestFits (sizes_of (params_of loaded.layout)) (manifest_of loaded)
  manifest_fits =
      let least : 65536 ≤ loaded.layout.manifest = says.layout.good.params.half.least in
      let lies = inside image loaded says in
      record {
        used = omega (arith, lies, says.manifest.tail);
        sequence = sequence_small loaded.layout loaded.half loaded.sequence loaded.place image loaded.metadata (omega (arith, least)) says.manifest;
      }

  pub life_fits : IsWithinLimits (life (stored_of loaded))
  life_fits =
      let few =
      stores_few loaded.layout.stores loaded.metadata.horizon loaded.metadata.taken [] loaded.metadata.stores (omega arith)
      (read image loaded says).loose.stores in
      record {
        history = record {
          numbers = omega (arith, number_small);
          stores = omega (arith, few, length-map loaded.metadata.stores (store_in loaded.log.entries));
        };
        log = log_fits;
        manifest = manifest_fits;
        slots = omega arith;
        since_base = omega arith;
        until_now = omega arith;
        transactions = record { live = omega arith; begins = omega arith };
        jobs = record { live = omega arith; ids = omega arith; claims = tt };
        cursors = omega arith;
        turn = tt;
      }

  pub base_is_state : IsState (state_of loaded)
  base_is_state =
      let stores = (read image loaded says).loose.stores in
      record {
        rising = stores_rise loaded.layout.stores loaded.metadata.horizon (last_number loaded) 0 loaded.metadata.taken loaded.log.entries [] loaded.metadata.stores
            (omega arith) stores (known_stores image loaded says);
        named = stores_named loaded.layout.stores loaded.metadata.horizon loaded.metadata.taken loaded.log.entries [] loaded.metadata.stores stores;
      }
