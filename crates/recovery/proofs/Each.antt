-- Each image of bytes is loaded, or refused, or has another version.
use Rattle.std.proofs.Common.{◌≡◌, ◌∙◌, ◌⊎◌, inl, inr, ⊎_elim, ℕ, ◌+◌, ◌*◌, ◌≤◌, List, [], ◌∷◌, Result, Ok, Err, refl, sym, subst, length, drop, arith, length-drop}
use Rattle.std.proofs.lemmas.Bool.{cases_eq, cases_lt}
use Rattle.std.proofs.lemmas.List.{length-take}
use Rattle.hse_fields.specs.LogReading.{◌>>=◌}
use Rattle.hse_fields.specs.LogText.{Entry}
use Rattle.hse_fields.specs.laws.Fields.{IsBytes, IsBytes-take, IsBytes-drop}
use Rattle.hse_rows.specs.machine.TakenRuns.{numbers_of}
use Rattle.gate_log.specs.Gates.{IsClosed, first_gate}
use Rattle.gate_log.specs.Places.{region_of}
use Rattle.gate_log.specs.Reading.{Ends}
use Rattle.gate_log.specs.declared.front.End.{End}
use Rattle.gate_log.specs.declared.front.End.TheVariants.{Closed, CutOff}
use Rattle.device_layout.specs.Layouts.{IsGood, size_of_device}
use Rattle.device_layout.specs.Superblock.{Superblock, says, refused, other_version, superblock_of}
use Rattle.device_layout.specs.laws.Superblocks.{read_is_spelled}
use Rattle.device_layout.specs.declared.layout.Layout.{Layout}
use Rattle.manifest.specs.Half.{HasReading, IsMetadata, IsRefused}
use Rattle.manifest.specs.Metadata.{Metadata}
use Rattle.manifest.specs.laws.Fronts.{Opened, each_region}
use Rattle.wal.specs.Numbering.{Numbers, taken_from}
use Rattle.wal.specs.Replaying.{batches_of, ended, segment_of}
use Rattle.recovery.specs.Image.{HasLayout, HasLog, HasNoGap, Log, NamesKnown, before_log, block_in, log_region, longest_value, number_of, prefixes_of}
use Rattle.recovery.specs.Refused.{HasOpening, LacksSegment}
use Rattle.recovery.specs.declared.region.Region.TheVariants.{Super, Manifest, Log as LogSegment}
use Rattle.recovery.proofs.NamedLemmas.{known_or_not}

abbrev Read : Type 0
Read = Result (List Entry × Numbers) ℕ

abbrev read : List Entry × Numbers → Read
read x = Ok x

abbrev unread : ℕ → Read
unread place = Err place

unread_is_not : (place : ℕ) (x : List Entry × Numbers) → unread place ≡ read x → ⊥
unread_is_not place x is = cc

-- nothing is read where a batch is cut off
cut_off : (before : Read) (place : ℕ) (x : List Entry × Numbers) → (before >>= ended (CutOff place)) ≡ Ok x → ⊥
cut_off (Ok y) place x is = unread_is_not place x is
cut_off (Err left) place x is = unread_is_not left x is

module _ (image : List ℕ) (layout : Layout) (has : HasLayout image layout) (m : Metadata) (is : IsMetadata layout image m) where
  abbrev said : List (List ℕ) → End → Read
  said payloads end = segment_of (prefixes_of m.stores) (longest_value layout) (before_log layout m) payloads end

  lacking : LacksSegment layout image → HasOpening image
  lacking lacks = inr (inl (LogSegment 1, 0, (refl, record { layout = layout; layout_is = has; metadata = m; manifest = is; refused = inl (inl (refl, lacks)) })))

  by_names : (log : Log) → HasLog layout image m log → HasNoGap m log → NamesKnown m log ⊎ ¬ NamesKnown m log → HasOpening image
  by_names log has_log full (inl known) = inl (
    record { layout = layout; half = is.half; sequence = is.sequence; place = is.place; metadata = m; log = log },
    record { layout = has; manifest = is.holds; log = has_log; full = full; named = known },
  )
  by_names log has_log full (inr unknown) = inr (inl (
    LogSegment 1,
    0,
    (
      refl,
      record {
        layout = layout;
        layout_is = has;
        metadata = m;
        manifest = is;
        refused = inr (refl, record { log = log; has_log = has_log; full = full; unknown = unknown });
      },
    ),
  ))

  by_gap : (log : Log) → HasLog layout image m log → (taken : List ℕ) → taken_from log.next (numbers_of m.taken) ≡ taken → HasOpening image
  by_gap log has_log [] none = by_names log has_log none (known_or_not (number_of m log) log.entries)
  by_gap log has_log (number ∷ taken) some = inr (inl (
    Manifest is.half,
    0,
    record {
      layout = layout;
      layout_is = has;
      refused = inr (
        refl,
        record {
          sequence = is.sequence;
          place = is.place;
          metadata = m;
          manifest = is.holds;
          log = log;
          has_log = has_log;
          gap = λ none. let bad : number ∷ taken ≡ [] = sym some ∙ none in not_empty number taken bad;
        },
      );
    },
  ))
    where
      not_empty : (x : ℕ) (xs : List ℕ) → x ∷ xs ≡ [] → ⊥
      not_empty x xs e = cc

  by_end : (payloads : List (List ℕ)) (end : End) → Ends (region_of (log_region layout) image) 1 payloads end → (x : List Entry × Numbers)
      → said payloads end ≡ Ok x → HasOpening image
  by_end payloads (Closed tail) ends x is_read =
      let log : Log = record { entries = x.0; next = x.1.next; place = tail.place } in
      by_gap (record { entries = x.0; next = x.1.next; place = tail.place })
      (record { payloads = payloads; tail = tail; ends = ends; last = x.1; read = is_read; next = refl; place = refl })
      (taken_from x.1.next (numbers_of m.taken)) refl
  by_end payloads (CutOff place) ends x is_read =
      absurd (cut_off (batches_of (prefixes_of m.stores) (longest_value layout) (before_log layout m) first_gate payloads) place x is_read)

  by_read : (payloads : List (List ℕ)) (end : End) → Ends (region_of (log_region layout) image) 1 payloads end → (was : Read) → said payloads end ≡ was
      → HasOpening image
  by_read payloads end ends (Ok x) is_read = by_end payloads end ends x is_read
  by_read payloads end ends (Err place) is_read = inr (inl (
    LogSegment 1,
    place,
    (
      refl,
      record {
        layout = layout;
        layout_is = has;
        metadata = m;
        manifest = is;
        refused = inl (inr (record { payloads = payloads; end = end; ends = ends; refused = is_read }));
      },
    ),
  ))

  by_opened : Opened (region_of (log_region layout) image) → HasOpening image
  by_opened opened = elim (cases_eq opened.sequence 1) [
    | inl one ↦
        by_read opened.payloads opened.end (subst (λ (s : ℕ). Ends (region_of (log_region layout) image) s opened.payloads opened.end) one opened.ends)
        (said opened.payloads opened.end) refl
    | inr other ↦
        lacking (inr (record { sequence = opened.sequence; payloads = opened.payloads; end = opened.end; ends = opened.ends; differs = other }))
  ]

  by_log : IsBytes image → size_of_device layout ≤ length image → HasOpening image
  by_log small inside =
      let at : ℕ = 4096 + 2 * layout.manifest + 1 * layout.log in
      let long : 10 ≤ length (region_of (log_region layout) image) =
      omega (
        arith,
        length-take layout.log (drop (4096 + 2 * layout.manifest + 1 * layout.log) image),
        length-drop (4096 + 2 * layout.manifest + 1 * layout.log) image,
        has.good.params.segment.least,
        inside,
      ) in
      ⊎_elim (λ (closed : IsClosed (region_of (log_region layout) image)). lacking (inl closed)) by_opened
      (each_region (region_of (log_region layout) image) long
      (IsBytes-take layout.log (drop (log_region layout).at image) (IsBytes-drop (log_region layout).at image small)))

abbrev EachManifest : Type 0
EachManifest = (layout : Layout) (image : List ℕ) → IsGood layout → size_of_device layout ≤ length image → IsBytes image → HasReading layout image

by_block : (image : List ℕ) → EachManifest → IsBytes image → 4096 ≤ length image → (block : Superblock) → superblock_of (length image) (block_in image) ≡ block
    → HasOpening image
by_block image each small long (refused place) is = inr (inl (Super, place, inr (long, is)))
by_block image each small long (other_version version) is = inr (inr (version, (long, is)))
by_block image each small long (says params) is =
    let block_long : length (block_in image) ≡ 4096 = omega (arith, length-take 4096 (drop 0 image), long) in
    let spelled = read_is_spelled (length image) params (block_in image) (IsBytes-take 4096 (drop 0 image) (IsBytes-drop 0 image small)) block_long is in
    let layout : Layout = record { power = params.power; slots = params.slots; manifest = params.manifest; log = params.log; version = 2; stores = params.stores } in
    let good : IsGood layout = record { params = spelled.1; version = refl } in
    let inside : size_of_device layout ≤ length image = omega (arith, spelled.2) in
    let has : HasLayout image layout = record { good = good; says = is } in
    ⊎_elim
    (λ (held : (m : Metadata) × IsMetadata layout image m). by_log image layout has held.0 held.1 small inside)
    (λ (bad : (half : ℕ) × (place : ℕ) × IsRefused layout image half place).
    inr (inl (Manifest bad.0, bad.1, record { layout = layout; layout_is = has; refused = inl bad.2 })))
    (each layout image good inside small)

pub each_opening : EachManifest → (image : List ℕ) → IsBytes image → HasOpening image
each_opening each image small = elim (cases_lt (length image) 4096) [
  | inl short ↦ inr (inl (Super, length image, inl (short, refl)))
  | inr long ↦ by_block image each small long (superblock_of (length image) (block_in image)) refl
]
