-- What is loaded of an image whose manifest has one entry more.
use Rattle.std.proofs.Common.{◌≡◌, ◌∙◌, ℕ, ◌+◌, ◌-◌, ◌<◌, ◌≤◌, List, [], ◌∷◌, Some, Ok, refl, sym, ap, subst, arith}
use Rattle.std.proofs.lemmas.List.{append-nil}
use Rattle.media_disk.specs.Content.{Torn}
use Rattle.gate_log.specs.Gates.{Gated}
use Rattle.gate_log.specs.Places.{region_of}
use Rattle.gate_log.specs.declared.front.End.TheVariants.{Closed}
use Rattle.hse_rows.specs.machine.TakenRuns.{numbers_of}
use Rattle.device_layout.specs.Layouts.{half_of}
use Rattle.device_layout.specs.declared.layout.Layout.{Layout}
use Rattle.manifest.specs.Half.{Holds}
use Rattle.manifest.specs.MayCome.{MayCome}
use Rattle.manifest.specs.Metadata.{LiveStore, Metadata, with_store, with_taken, without, without_store}
use Rattle.manifest.specs.Reading.{payload_of}
use Rattle.manifest.specs.Text.{Entry, base, create, drop, entry_text}
use Rattle.manifest.specs.laws.Again.{entry_again}
use Rattle.recovery.specs.Image.{HasLog, HasNoGap, IsLoaded, Loaded, Log, NamesKnown, before_log, log_region, longest_value, number_of, prefix_of, prefixes_of}
use Rattle.recovery.specs.laws.Names.{named_below}
use Rattle.wal.specs.Numbering.{Numbers, free_from, taken_from}
use Rattle.wal.specs.Replaying.{segment_of, starting}
use Rattle.wal.specs.Stores.{LacksStore, OfEachStore}
use Rattle.wal.specs.Taken as known
use Rattle.wal.specs.declared.live.StorePrefix.{StorePrefix}
use Rattle.wal.specs.laws.Free.{free_least}
use Rattle.wal.specs.laws.MoreTaken.{segment_more}
use Rattle.wal.specs.laws.Stores.{segment_allowed, segment_with}
use Rattle.back.specs.Steps.{MayEnter, metadata_with}
use Rattle.back.proofs.ImageLemmas.{layout_same, log_region_same}
use Rattle.back.proofs.LogLemmas.{next_is}
use Rattle.back.proofs.NamedLemmas.{next_unnamed}
use Rattle.back.proofs.NumberLemmas.{now_taken}
use Rattle.back.proofs.StoreLemmas.{numbers_more, prefixes_more, still_allowed}

-- an entry that may come is read
pub entry_read : (most : ℕ) (m : Metadata) (entry : Entry) → MayCome most (Some m) entry → payload_of most (Some m) (entry_text entry) ≡ Ok (metadata_with m entry)
entry_read most m (base n) may = absurd may
entry_read most m (create store) may = entry_again most (Some m) (create store) (with_store m store.id store) may refl
entry_read most m (drop number id) may = entry_again most (Some m) (drop number id) (without_store m number id) may refl

-- ---- the log, where one number more is taken

module _ (layout : Layout) (seen : List ℕ) (m : Metadata) (log : Log) (has : HasLog layout seen m log) (full : HasNoGap m log)
    (number : ℕ) (next : number ≡ number_of m log + 1) where
  free : number ≡ free_from log.next (numbers_of m.taken)
  free = next ∙ next_is layout seen m log has full ∙ ap (λ (n : ℕ). free_from n (numbers_of m.taken)) (sym has.next)

  more_taken : List ℕ → Numbers
  more_taken taken = starting (m.horizon + 1) taken layout.log

  -- it is read the same
  read_more : segment_of (prefixes_of m.stores) (longest_value layout) (starting (m.horizon + 1) (numbers_of (with_taken m.taken number)) layout.log)
      has.payloads (Closed has.tail) ≡ Ok (log.entries, known.with_taken has.last (number ∷ []))
  read_more =
      let least : has.last.next ≤ number =
      subst (λ (n : ℕ). has.last.next ≤ n) (sym (next ∙ next_is layout seen m log has full)) (free_least has.last.next (numbers_of m.taken)) in
      ap (λ (taken : List ℕ). segment_of (prefixes_of m.stores) (longest_value layout) (starting (m.horizon + 1) taken layout.log) has.payloads (Closed has.tail))
      (numbers_more m.taken number)
      ∙ segment_more (prefixes_of m.stores) (longest_value layout) (before_log layout m) has.payloads has.tail log.entries has.last (number ∷ []) (least, tt) has.read

  -- and leaves no gap behind it
  pub full_more : taken_from log.next (numbers_of (with_taken m.taken number)) ≡ []
  full_more =
      ap (taken_from log.next) (numbers_more m.taken number) ∙ (now_taken log.next number (numbers_of m.taken) full free).none

  -- and its changes name no store id above that number
  pub names_still : NamesKnown m log → OfEachStore (λ (store : ℕ). store ≤ free_from log.next (numbers_of (with_taken m.taken number)) - 1) log.entries
  names_still named =
      let last : free_from log.next (numbers_of (with_taken m.taken number)) ≡ number + 1 =
      ap (free_from log.next) (numbers_more m.taken number) ∙ (now_taken log.next number (numbers_of m.taken) full free).free in
      named_below (number_of m log) (free_from log.next (numbers_of (with_taken m.taken number)) - 1) log.entries (omega (arith, last, next)) named

  -- with other live stores, by which it is read the same too
  has_more : (image : List ℕ) (n : Metadata) → region_of (log_region layout) image ≡ region_of (log_region layout) seen
      → segment_of (prefixes_of n.stores) (longest_value layout) (before_log layout n) has.payloads (Closed has.tail)
      ≡ Ok (log.entries, known.with_taken has.last (number ∷ [])) → HasLog layout image n log
  has_more image n same read = record {
    payloads = has.payloads;
    tail = has.tail;
    ends = (subst (λ (r : List ℕ). Gated r 1 has.payloads) (sym same) has.ends.0, has.ends.1);
    last = known.with_taken has.last (number ∷ []);
    read = read;
    next = has.next;
    place = has.place;
  }

  -- behind a creation
  pub log_created : (image : List ℕ) (store : LiveStore) → region_of (log_region layout) image ≡ region_of (log_region layout) seen
      → LacksStore store.id log.entries → HasLog layout image (with_store m number store) log
  log_created image store same lacks =
      let start : Numbers = starting (m.horizon + 1) (numbers_of (with_taken m.taken number)) layout.log in
      let last : Numbers = known.with_taken has.last (number ∷ []) in
      has_more image (with_store m number store) same
      (ap (λ (live : List StorePrefix). segment_of live (longest_value layout) (starting (m.horizon + 1) (numbers_of (with_taken m.taken number)) layout.log)
      has.payloads (Closed has.tail)) (prefixes_more m.stores store)
      ∙ segment_with (prefixes_of m.stores) [] (prefix_of store) (longest_value layout)
      (starting (m.horizon + 1) (numbers_of (with_taken m.taken number)) layout.log) (known.with_taken has.last (number ∷ []))
      has.payloads (Closed has.tail) log.entries lacks
      (ap (λ (live : List StorePrefix). segment_of live (longest_value layout) (starting (m.horizon + 1) (numbers_of (with_taken m.taken number)) layout.log)
      has.payloads (Closed has.tail)) (append-nil (prefixes_of m.stores)) ∙ read_more))

  -- behind a drop
  pub log_dropped : (image : List ℕ) (id : ℕ) → region_of (log_region layout) image ≡ region_of (log_region layout) seen
      → HasLog layout image (without_store m number id) log
  log_dropped image id same =
      has_more image (without_store m number id) same
      (segment_allowed (prefixes_of m.stores) (prefixes_of (without id m.stores)) (still_allowed id m.stores) (longest_value layout)
      (starting (m.horizon + 1) (numbers_of (with_taken m.taken number)) layout.log) (known.with_taken has.last (number ∷ []))
      has.payloads (Closed has.tail) log.entries read_more)

-- ---- the image

-- where the manifest is, in which half, with which sequence and up to which place, and what it says
abbrev pub placed_at : Loaded → ℕ → ℕ → ℕ → Metadata → Loaded
placed_at loaded half sequence place m = record loaded { half = half; sequence = sequence; place = place; metadata = m }

module _ (loaded : Loaded) (seen : List ℕ) (says : IsLoaded seen loaded) (image : List ℕ) (written : ℕ) (lt : written < 2)
    (torn : Torn (half_of loaded.layout written).at loaded.layout.manifest seen image) where
  -- the manifest says what it said
  pub entered_old : Holds loaded.layout loaded.half loaded.sequence loaded.place image loaded.metadata → IsLoaded image loaded
  entered_old holds = record {
    layout = layout_same loaded.layout (half_of loaded.layout written).at loaded.layout.manifest seen image (omega arith) torn says.layout;
    manifest = holds;
    log = record {
      payloads = says.log.payloads;
      tail = says.log.tail;
      ends = (
        subst (λ (r : List ℕ). Gated r 1 says.log.payloads) (sym (log_region_same loaded.layout written seen image lt torn)) says.log.ends.0,
        says.log.ends.1,
      );
      last = says.log.last;
      read = says.log.read;
      next = says.log.next;
      place = says.log.place;
    };
    full = says.full;
    named = says.named;
  }

  -- it says what an entry makes of it
  pub entered_new : (entry : Entry) (half sequence place : ℕ) → MayEnter loaded entry
      → Holds loaded.layout half sequence place image (metadata_with loaded.metadata entry)
      → IsLoaded image (placed_at loaded half sequence place (metadata_with loaded.metadata entry))
  entered_new (base n) half sequence place may holds = absurd may.comes
  entered_new (create store) half sequence place may holds = record {
    layout = layout_same loaded.layout (half_of loaded.layout written).at loaded.layout.manifest seen image (omega arith) torn says.layout;
    manifest = holds;
    log = log_created loaded.layout seen loaded.metadata loaded.log says.log says.full store.id may.next image store
        (log_region_same loaded.layout written seen image lt torn)
        (next_unnamed (number_of loaded.metadata loaded.log) store.id loaded.log.entries may.next says.named);
    full = full_more loaded.layout seen loaded.metadata loaded.log says.log says.full store.id may.next;
    named = names_still loaded.layout seen loaded.metadata loaded.log says.log says.full store.id may.next says.named;
  }
  entered_new (drop number id) half sequence place may holds = record {
    layout = layout_same loaded.layout (half_of loaded.layout written).at loaded.layout.manifest seen image (omega arith) torn says.layout;
    manifest = holds;
    log = log_dropped loaded.layout seen loaded.metadata loaded.log says.log says.full number may.next image id
        (log_region_same loaded.layout written seen image lt torn);
    full = full_more loaded.layout seen loaded.metadata loaded.log says.log says.full number may.next;
    named = names_still loaded.layout seen loaded.metadata loaded.log says.log says.full number may.next says.named;
  }
