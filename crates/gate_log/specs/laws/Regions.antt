-- Laws of a region's bytes, by what changes on the device.
use Rattle.std.proofs.Common.{◌≡◌, ◌⊎◌, ℕ, ◌+◌, ◌-◌, ◌≤◌, List, [], ◌∷◌, length, ◌∙◌, ap, subst, arith}
use Rattle.media_disk.specs.Content.{put_at, Torn}
use Rattle.media_disk.specs.Images.{IsImage}
use Rattle.gate_log.specs.Crashes.{IsWithin}
use Rattle.gate_log.specs.Places.{IsApart, AreApart, region_of}
use Rattle.gate_log.specs.declared.region.Region.{Region}
use Rattle.gate_log.specs.laws.Ranges.{part-put, torn_apart, torn_part, torn_wider}

-- no pending range touches the region, so a crash leaves it as it is
pub image_apart : (region : Region) (ranges : List (ℕ × ℕ)) (bytes image : List ℕ) → IsApart region ranges → IsImage bytes ranges image
    → region_of region image ≡ region_of region bytes
image_apart region [] bytes image apart is = ap (region_of region) is
image_apart region (range ∷ ranges) bytes image apart (torn, first, rest) =
    image_apart region ranges torn image apart.1 rest
    ∙ torn_apart region.at region.size range.0 range.1 bytes torn apart.0 first

-- a write in the region is one of the region's bytes
pub region_put : (region : Region) (bytes new : List ℕ) (place : ℕ) → region.at + region.size ≤ length bytes → place + length new ≤ region.size
    → region_of region (put_at bytes (region.at + place) new) ≡ put_at (region_of region bytes) place new
region_put region bytes new place inside fits =
    part-put bytes new region.at region.size (region.at + place) (omega arith) (omega arith) inside
    ∙ ap (λ (i : ℕ). put_at (region_of region bytes) i new) (let is : region.at + place - region.at ≡ place = omega arith in is)

pub region_torn : (region : Region) (place n : ℕ) (old new : List ℕ) → place + n ≤ region.size → Torn (region.at + place) n old new
    → Torn place n (region_of region old) (region_of region new)
region_torn region place n old new fits torn =
    subst (λ (i : ℕ). Torn i n (region_of region old) (region_of region new))
    (let is : region.at + place - region.at ≡ place = omega arith in is)
    (torn_part region.at region.size (region.at + place) n old new (omega arith) (omega arith) torn)

pub region_wider : (region : Region) (place n : ℕ) (old new : List ℕ) → place + n ≤ region.size → Torn (region.at + place) n old new
    → Torn region.at region.size old new
region_wider region place n old new fits torn =
    torn_wider region.at region.size (region.at + place) n old new (omega arith) (omega arith) torn

-- a change within one region leaves a region apart from it as it was
pub other_region : (region other : Region) (old new : List ℕ) → AreApart region other
    → Torn region.at region.size old new → region_of other new ≡ region_of other old
other_region region other old new apart torn =
    torn_apart other.at other.size region.at region.size old new apart torn

-- and so does a crash within a call on one region, where nothing was pending in the other
pub other_within : (region other : Region) (ranges : List (ℕ × ℕ)) (seen image : List ℕ)
    → AreApart region other → IsApart other ranges → IsWithin region (IsImage seen ranges) image
    → region_of other image ≡ region_of other seen
other_within region other ranges seen image apart_regions apart within =
    other_region region other within.old image apart_regions within.same
    ∙ image_apart other ranges seen within.old apart within.was
