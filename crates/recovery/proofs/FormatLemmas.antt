-- The parts of a new device, one after another.
use Rattle.std.proofs.Common.{◌≡◌, ◌∙◌, inl, inr, ℕ, ◌+◌, ◌≤◌, List, [], ◌∷◌, length, drop, sym, ap, subst, arith}
use Rattle.std.proofs.lemmas.List.{take_at}
use Rattle.media_disk.specs.Content.{put_at, Torn}
use Rattle.gate_log.specs.Gates.{Gated, IsClosed}
use Rattle.gate_log.specs.Places.{AreApart, region_of}
use Rattle.gate_log.specs.declared.region.Region.{Region}
use Rattle.gate_log.specs.laws.Ranges.{torn_apart}
use Rattle.gate_log.specs.laws.Regions.{other_region}
use Rattle.hse_rows.specs.machine.Sizes.{device_block}
use Rattle.device_layout.specs.Layouts.{half_of}
use Rattle.device_layout.specs.declared.layout.Layout.{Layout}
use Rattle.recovery.specs.Formatting.{IsBegun, IsBlank, IsFilled}
use Rattle.recovery.specs.Image.{block_in, log_region}

-- ---- the first block

-- what is written to the first block is there
pub block_written : (bytes block : List ℕ) → length block ≡ device_block → block_in (put_at bytes 0 block) ≡ block
block_written bytes block long = take_at block (drop (0 + length block) bytes) device_block long

-- a change of the first block leaves a region behind it
pub behind_block : (region : Region) (n : ℕ) (old new : List ℕ) → n ≤ region.at → Torn 0 n old new → region_of region new ≡ region_of region old
behind_block region n old new low torn = torn_apart region.at region.size 0 n old new (inl (omega (arith, low))) torn

-- and a change of a region behind it leaves the first block
pub before_region : (region : Region) (old new : List ℕ) → device_block ≤ region.at → Torn region.at region.size old new → block_in new ≡ block_in old
before_region region old new low torn = torn_apart 0 device_block region.at region.size old new (inr low) torn

module _ (layout : Layout) where
  apart : AreApart (half_of layout 1) (half_of layout 0)
  apart = inr (omega arith)

  apart_log : AreApart (log_region layout) (half_of layout 0)
  apart_log = inr (omega arith)

  apart_half : AreApart (log_region layout) (half_of layout 1)
  apart_half = inr (omega arith)

  -- a superblock, and half 1 started
  pub begun : (block seen written started : List ℕ) → length block ≡ device_block → IsBlank layout seen → written ≡ put_at seen 0 block
      → Torn 0 (length block) seen written → Torn (half_of layout 1).at layout.manifest written started
      → Gated (region_of (half_of layout 1) started) 1 [] → IsBegun layout block [] started
  begun block seen written started long blank is first second gated = record {
    first = subst IsClosed
        (sym (other_region (half_of layout 1) (half_of layout 0) written started apart second
        ∙ behind_block (half_of layout 0) (length block) seen written (omega (arith, long)) first)) blank.first;
    second = gated;
    head = before_region (half_of layout 1) written started (omega arith) second
        ∙ ap block_in is ∙ block_written seen block long;
    long = second.as_long ∙ first.as_long ∙ blank.long;
  }

  -- then a base, and the log started
  pub filled : (block base begun added started : List ℕ) → IsBegun layout block [] begun
      → Torn (half_of layout 1).at layout.manifest begun added → Gated (region_of (half_of layout 1) added) 1 (base ∷ [])
      → Torn (log_region layout).at layout.log added started → Gated (region_of (log_region layout) started) 1 []
      → IsFilled layout block base started
  filled block base begun added started is first gated second log = record {
    begun = record {
      first = subst IsClosed
          (sym (other_region (log_region layout) (half_of layout 0) added started apart_log second
          ∙ other_region (half_of layout 1) (half_of layout 0) begun added apart first)) is.first;
      second = subst (λ (r : List ℕ). Gated r 1 (base ∷ [])) (sym (other_region (log_region layout) (half_of layout 1) added started apart_half second)) gated;
      head = before_region (log_region layout) added started (omega arith) second
          ∙ before_region (half_of layout 1) begun added (omega arith) first ∙ is.head;
      long = second.as_long ∙ first.as_long ∙ is.long;
    };
    log = log;
  }
