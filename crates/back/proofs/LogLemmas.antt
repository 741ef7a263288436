-- What is loaded of an image whose log has one batch more.
use Rattle.std.proofs.Common.{◌≡◌, ℕ, ◌+◌, ◌-◌, ◌^◌, ◌<◌, ◌≤◌, List, [], ◌∷◌, ◌++◌, length, min, refl, ap, subst, arith}
use Rattle.media_disk.specs.Content.{Torn}
use Rattle.gate_log.specs.Gates.{Gated}
use Rattle.gate_log.specs.Places.{need_of, region_of, tail_of}
use Rattle.gate_log.specs.declared.front.End.TheVariants.{Closed}
use Rattle.gate_log.specs.laws.Spelling.{tail_of-push}
use Rattle.hse_fields.specs.LogText.{Entry, payload_text}
use Rattle.hse_fields.specs.laws.Payloads.{payload_again}
use Rattle.hse_rows.specs.machine.TakenRuns.{numbers_of}
use Rattle.device_layout.specs.declared.layout.Layout.{Layout}
use Rattle.manifest.specs.Metadata.{Metadata}
use Rattle.recovery.specs.Image.{HasLog, HasNoGap, IsLoaded, Loaded, Log, NamesKnown, before_log, log_region, longest_value, number_of, prefixes_of}
use Rattle.recovery.specs.laws.Names.{named_below}
use Rattle.wal.specs.Numbered.{AreNumbered}
use Rattle.wal.specs.Numbering.{free_from, taken_from, numbering}
use Rattle.wal.specs.Stores.{OfEachStore}
use Rattle.wal.specs.laws.Batches.{batches_follow, closed_read, more_is_read}
use Rattle.back.specs.Steps.{MayCommit, last_number, log_with, with_commits}
use Rattle.back.proofs.CommitLemmas.{Behind, Comes, last_behind, more_come, next_free, next_least}
use Rattle.back.proofs.ImageLemmas.{holds_same, layout_same}
use Rattle.back.proofs.NamedLemmas.{known_both}

-- what is known behind the log of an image
pub behind_log : (layout : Layout) (image : List ℕ) (m : Metadata) (log : Log) (has : HasLog layout image m log) → HasNoGap m log
    → Behind (prefixes_of m.stores) (m.horizon + 1) (numbers_of m.taken) layout.log log.entries has.last
behind_log layout image m log has full = record {
  follow = batches_follow (prefixes_of m.stores) (longest_value layout) (before_log layout m) 9 has.payloads (log.entries, has.last)
      (closed_read (prefixes_of m.stores) (longest_value layout) (before_log layout m) has.payloads (Closed has.tail) (log.entries, has.last) has.read);
  none = subst (λ (n : ℕ). taken_from n (numbers_of m.taken) ≡ []) has.next full;
}

-- the next number is the first free one behind the log
pub next_is : (layout : Layout) (image : List ℕ) (m : Metadata) (log : Log) (has : HasLog layout image m log) → HasNoGap m log
    → number_of m log + 1 ≡ free_from has.last.next (numbers_of m.taken)
next_is layout image m log has full =
    let least = next_least (prefixes_of m.stores) (m.horizon + 1) (numbers_of m.taken) layout.log log.entries has.last (behind_log layout image m log has full) in
    let same : free_from log.next (numbers_of m.taken) ≡ free_from has.last.next (numbers_of m.taken) =
    ap (λ (n : ℕ). free_from n (numbers_of m.taken)) has.next in
    omega (arith, same, least)

small_value : (most : ℕ) → min 1048576 most < 2 ^ 32
small_value most = omega arith

next_by : (number count free other next : ℕ) → number + 1 ≡ free → other ≡ free → next ≡ other + count → number + count + 1 ≡ next
next_by number count free other next is same last = omega (arith, is, same, last)

place_more : (payloads : List (List ℕ)) (payload : List ℕ) (place tail : ℕ) → place ≡ tail → tail ≡ tail_of payloads
    → place + need_of payload ≡ tail_of (payloads ++ payload ∷ [])
place_more payloads payload place tail is behind = omega (arith, is, behind, tail_of-push payloads payload)

-- the commits name no store id above the last number, which does not fall
pub names_more : (loaded : Loaded) (entries : List Entry)
    → free_from (last_number loaded + length entries + 1) (numbers_of loaded.metadata.taken) ≡ last_number loaded + length entries + 1
    → NamesKnown loaded.metadata loaded.log → OfEachStore (λ (store : ℕ). store ≤ last_number loaded) entries
    → NamesKnown loaded.metadata (log_with loaded.log entries (last_number loaded + length entries))
names_more loaded entries free old new =
    named_below (last_number loaded) (number_of loaded.metadata (log_with loaded.log entries (last_number loaded + length entries)))
    (loaded.log.entries ++ entries) (omega (arith, free)) (known_both (last_number loaded) loaded.log.entries entries old new)

module _ (loaded : Loaded) (seen : List ℕ) (says : IsLoaded seen loaded) (lt : loaded.half < 2) where
  size : 10 ≤ loaded.layout.manifest
  size = omega (arith, says.layout.good.params.half.least)

  -- the image is as before, but for the log's region
  module _ (image : List ℕ) (torn : Torn (log_region loaded.layout).at loaded.layout.log seen image) where
    -- the log has the same batches
    pub loaded_old : Gated (region_of (log_region loaded.layout) image) 1 says.log.payloads → IsLoaded image loaded
    loaded_old gated = record {
      layout = layout_same loaded.layout (log_region loaded.layout).at loaded.layout.log seen image (omega arith) torn says.layout;
      manifest = holds_same loaded.layout loaded.half loaded.sequence loaded.place seen image loaded.metadata lt size torn says.manifest;
      log = record {
        payloads = says.log.payloads;
        tail = says.log.tail;
        ends = (gated, says.log.ends.1);
        last = says.log.last;
        read = says.log.read;
        next = says.log.next;
        place = says.log.place;
      };
      full = says.full;
      named = says.named;
    }

    -- it has one batch more, of some commits
    loaded_more : (entry : Entry) (entries : List Entry) → MayCommit loaded (entry ∷ entries)
        → Gated (region_of (log_region loaded.layout) image) 1 (says.log.payloads ++ payload_text (entry ∷ entries) ∷ [])
        → IsLoaded image (with_commits loaded (entry ∷ entries))
    loaded_more entry entries may gated =
        let behind = behind_log loaded.layout seen loaded.metadata loaded.log says.log says.full in
        let next = next_is loaded.layout seen loaded.metadata loaded.log says.log says.full in
        let comes : Comes (prefixes_of loaded.metadata.stores) says.log.last (entry ∷ entries) =
        more_come (prefixes_of loaded.metadata.stores) (loaded.metadata.horizon + 1) (numbers_of loaded.metadata.taken) loaded.layout.log loaded.log.entries says.log.last behind
        (entry ∷ entries) may.formed.some (subst (λ (n : ℕ). AreNumbered n (entry ∷ entries)) next may.numbered) (omega (arith, next, may.small)) may.fits in
        let free : free_from says.log.last.next says.log.last.taken ≡ free_from says.log.last.next (numbers_of loaded.metadata.taken) =
        next_free (prefixes_of loaded.metadata.stores) (loaded.metadata.horizon + 1) (numbers_of loaded.metadata.taken) loaded.layout.log loaded.log.entries says.log.last behind in
        let last = last_behind (prefixes_of loaded.metadata.stores) (loaded.metadata.horizon + 1) (numbers_of loaded.metadata.taken) loaded.layout.log loaded.log.entries says.log.last behind
        (last_number loaded + length (entry ∷ entries) + 1) (omega (arith, next)) in
        record {
          layout = layout_same loaded.layout (log_region loaded.layout).at loaded.layout.log seen image (omega arith) torn says.layout;
          manifest = holds_same loaded.layout loaded.half loaded.sequence loaded.place seen image loaded.metadata lt size torn says.manifest;
          log = record {
            payloads = says.log.payloads ++ payload_text (entry ∷ entries) ∷ [];
            tail = record { place = tail_of (says.log.payloads ++ payload_text (entry ∷ entries) ∷ []) };
            ends = (gated, refl);
            last = comes.last;
            read = more_is_read (prefixes_of loaded.metadata.stores) (longest_value loaded.layout) (before_log loaded.layout loaded.metadata) says.log.payloads
                says.log.tail (record { place = tail_of (says.log.payloads ++ payload_text (entry ∷ entries) ∷ []) }) loaded.log.entries says.log.last
                (payload_text (entry ∷ entries)) (entry ∷ entries) comes.last says.log.read
                (payload_again (numbering (prefixes_of loaded.metadata.stores)) (longest_value loaded.layout) says.log.last comes.last (entry ∷ entries)
                (small_value (2 ^ loaded.layout.power - 64)) may.formed comes.follow may.prefixes);
            next = next_by (last_number loaded) (length (entry ∷ entries)) _ _ comes.last.next next free comes.next;
            place = place_more says.log.payloads (payload_text (entry ∷ entries)) loaded.log.place says.log.tail.place says.log.place says.log.ends.1;
          };
          full = last.none;
          named = names_more loaded (entry ∷ entries) last.free says.named may.known;
        }

    pub loaded_new : (entries : List Entry) → MayCommit loaded entries
        → Gated (region_of (log_region loaded.layout) image) 1 (says.log.payloads ++ payload_text entries ∷ []) → IsLoaded image (with_commits loaded entries)
    loaded_new [] may gated = absurd (omega (arith, may.formed.some))
    loaded_new (entry ∷ entries) may gated = loaded_more entry entries may gated
