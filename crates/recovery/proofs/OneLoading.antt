-- No image is loaded in two ways.
use Rattle.std.proofs.Common.{◌≡◌, ◌∙◌, ℕ, List, Result, Ok, sym, ap, subst}
use Rattle.hse_fields.specs.LogText.{Entry}
use Rattle.gate_log.specs.Places.{region_of}
use Rattle.gate_log.specs.declared.front.End.TheVariants.{Closed}
use Rattle.gate_log.specs.declared.region.Tail.{Tail}
use Rattle.gate_log.specs.laws.OneFront.{one_front}
use Rattle.device_layout.specs.Layouts.{params_of}
use Rattle.device_layout.specs.Superblock.{says}
use Rattle.device_layout.specs.declared.layout.Layout.{Layout}
use Rattle.device_layout.specs.declared.params.Params.{Params}
use Rattle.manifest.specs.Half.{Holds}
use Rattle.manifest.specs.Metadata.{Metadata}
use Rattle.manifest.specs.laws.OneManifest.{one_held}
use Rattle.wal.specs.Numbering.{Numbers}
use Rattle.wal.specs.Replaying.{segment_of}
use Rattle.recovery.specs.Image.{HasLayout, HasLog, IsLoaded, Loaded, Log, before_log, log_region, longest_value, prefixes_of}

same_says : (p q : Params) → says p ≡ says q → p ≡ q
same_says p q is = cc

abbrev read : List Entry × Numbers → Result (List Entry × Numbers) ℕ
read x = Ok x

same_read : (x y : List Entry × Numbers) → read x ≡ read y → x ≡ y
same_read x y is = cc

same_tail : (a b : Tail) → Closed a ≡ Closed b → a ≡ b
same_tail a b is = cc

pub one_layout : (image : List ℕ) (a b : Layout) → HasLayout image a → HasLayout image b → a ≡ b
one_layout image a b first second =
    let params = same_says (params_of a) (params_of b) (sym first.says ∙ second.says) in
    let version = first.good.version ∙ sym second.good.version in
    λ i. record {
      power = (params i).power;
      slots = (params i).slots;
      manifest = (params i).manifest;
      log = (params i).log;
      version = version i;
      stores = (params i).stores;
    }

pub one_log : (layout : Layout) (image : List ℕ) (m : Metadata) (a b : Log) → HasLog layout image m a → HasLog layout image m b → a ≡ b
one_log layout image m a b first second =
    let same = one_front (region_of (log_region layout) image) 1 1 first.payloads second.payloads (Closed first.tail) (Closed second.tail) first.ends second.ends in
    let tails = same_tail first.tail second.tail same.2 in
    let reads = same_read (a.entries, first.last) (b.entries, second.last) (sym first.read
    ∙ (λ i. segment_of (prefixes_of m.stores) (longest_value layout) (before_log layout m) (same.1 i) (same.2 i)) ∙ second.read) in
    let next = first.next ∙ ap (λ (x : List Entry × Numbers). x.1.next) reads ∙ sym second.next in
    let place = first.place ∙ ap (λ (t : Tail). t.place) tails ∙ sym second.place in
    λ i. record { entries = (reads i).0; next = next i; place = place i }

pub one_loading : (image : List ℕ) (a b : Loaded) → IsLoaded image a → IsLoaded image b → a ≡ b
one_loading image a b first second =
    let layouts = one_layout image a.layout b.layout first.layout second.layout in
    let held = subst (λ (l : Layout). Holds l b.half b.sequence b.place image b.metadata) (sym layouts) second.manifest in
    let manifest = one_held a.layout image a.half b.half a.sequence b.sequence a.place b.place a.metadata b.metadata first.manifest held in
    let log_first = subst (λ (l : Layout). HasLog l image b.metadata b.log) (sym layouts) second.log in
    let log_second = subst (λ (m : Metadata). HasLog a.layout image m b.log) (sym manifest.3) log_first in
    let logs = one_log a.layout image a.metadata a.log b.log first.log log_second in
    λ i. record {
      layout = layouts i;
      half = manifest.0 i;
      sequence = manifest.1 i;
      place = manifest.2 i;
      metadata = manifest.3 i;
      log = logs i;
    }
