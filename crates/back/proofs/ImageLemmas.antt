-- The parts of an image that a change of another part leaves as they were.
use Rattle.std.proofs.Common.{◌≡◌, ◌∙◌, ℕ, zero, suc, ◌<◌, ◌≤◌, List, take, drop, sym, ap, subst, arith, inl, inr}
use Rattle.std.proofs.lemmas.List.{take-take}
use Rattle.media_disk.specs.Content.{Torn}
use Rattle.gate_log.specs.Gates.{Gated}
use Rattle.gate_log.specs.Places.{region_of}
use Rattle.gate_log.specs.declared.region.Region.{Region}
use Rattle.gate_log.specs.laws.Ranges.{torn_apart}
use Rattle.hse_rows.specs.machine.Sizes.{device_block}
use Rattle.device_layout.specs.Layouts.{half_of}
use Rattle.device_layout.specs.Superblock.{superblock_of}
use Rattle.device_layout.specs.declared.layout.Layout.{Layout}
use Rattle.manifest.specs.Half.{Holds, head_in, head_of, in_force}
use Rattle.manifest.specs.Metadata.{Metadata}
use Rattle.recovery.specs.Image.{HasLayout, log_region}

-- ---- the superblock

-- a change behind the first block leaves the layout
pub layout_same : (layout : Layout) (at n : ℕ) (old new : List ℕ) → device_block ≤ at → Torn at n old new → HasLayout old layout → HasLayout new layout
layout_same layout at n old new low torn has = record {
  good = has.good;
  says = (λ i. superblock_of (torn.as_long i) (torn_apart 0 device_block at n old new (inr low) torn i)) ∙ has.says;
}

-- ---- the manifest

pub head_is : (region : Region) (image : List ℕ) → 10 ≤ region.size → head_in region image ≡ head_of (take 10 (region_of region image))
head_is region image le = ap head_of (sym (take-take 10 region.size (drop region.at image) le))

head_same : (region : Region) (old new : List ℕ) → 10 ≤ region.size → region_of region new ≡ region_of region old
    → head_in region new ≡ head_in region old
head_same region old new le same =
    head_is region new le ∙ ap (λ (r : List ℕ). head_of (take 10 r)) same ∙ sym (head_is region old le)

half_same : (layout : Layout) (half : ℕ) (old new : List ℕ) → half < 2 → Torn (log_region layout).at layout.log old new
    → region_of (half_of layout half) new ≡ region_of (half_of layout half) old
half_same layout zero old new lt torn =
    torn_apart (half_of layout 0).at layout.manifest (log_region layout).at layout.log old new (inr (omega arith)) torn
half_same layout (suc zero) old new lt torn =
    torn_apart (half_of layout 1).at layout.manifest (log_region layout).at layout.log old new (inr (omega arith)) torn
half_same layout (suc (suc half)) old new lt torn = absurd (omega (arith, lt))

-- a change of the log leaves what the manifest says
pub holds_same : (layout : Layout) (half sequence place : ℕ) (old new : List ℕ) (m : Metadata) → half < 2 → 10 ≤ layout.manifest
    → Torn (log_region layout).at layout.log old new → Holds layout half sequence place old m → Holds layout half sequence place new m
holds_same layout half sequence place old new m lt size torn held =
    let first = head_same (half_of layout 0) old new size (half_same layout 0 old new (omega arith) torn) in
    let second = head_same (half_of layout 1) old new size (half_same layout 1 old new (omega arith) torn) in
    record {
      in_force = (λ i. in_force (first i) (second i)) ∙ held.in_force;
      payloads = held.payloads;
      gated = subst (λ (r : List ℕ). Gated r sequence held.payloads) (sym (half_same layout half old new lt torn)) held.gated;
      tail = held.tail;
      says = held.says;
    }

-- ---- the log

-- a change of a half leaves the log
pub log_region_same : (layout : Layout) (half : ℕ) (old new : List ℕ) → half < 2 → Torn (half_of layout half).at layout.manifest old new
    → region_of (log_region layout) new ≡ region_of (log_region layout) old
log_region_same layout zero old new lt torn =
    torn_apart (log_region layout).at layout.log (half_of layout 0).at layout.manifest old new (inl (omega arith)) torn
log_region_same layout (suc zero) old new lt torn =
    torn_apart (log_region layout).at layout.log (half_of layout 1).at layout.manifest old new (inl (omega arith)) torn
log_region_same layout (suc (suc half)) old new lt torn = absurd (omega (arith, lt))
