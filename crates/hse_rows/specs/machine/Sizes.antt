-- How large the parts of a device are.
use Rattle.std.specs.Prelude.{◌≡◌, ℕ, ◌+◌, ◌*◌, ◌^◌, ◌%◌, ◌≤◌}

pub record Sizes : Type 0 where
  pub slot_size : ℕ
  pub slots : ℕ
  pub half_size : ℕ
  pub segment_size : ℕ
  -- the most stores that may be live
  pub most_stores : ℕ

-- a block of the device: the superblock takes one, and a half and a segment take whole ones
abbrev pub device_block : ℕ
device_block = 4096

-- the superblock, two manifest halves, four log segments and the slots
abbrev pub device_bytes : Sizes → ℕ
device_bytes sizes =
    device_block + 2 * sizes.half_size + 4 * sizes.segment_size + sizes.slots * sizes.slot_size

-- a half or a segment of this many bytes
pub record IsRegionSize (bytes : ℕ) : Type 0 where
  pub least : 65536 ≤ bytes
  pub most : bytes ≤ 67108864
  pub whole : bytes % device_block ≡ 0

-- the sizes that a device may have
pub record AreSizes (sizes : Sizes) (power : ℕ) : Type 0 where
  -- a slot's size is this power of two
  pub slot : sizes.slot_size ≡ 2 ^ power
  pub least_power : 16 ≤ power
  pub most_power : power ≤ 25
  pub least_slots : 4 ≤ sizes.slots
  pub most_slots : sizes.slots ≤ 16384
  pub half : IsRegionSize sizes.half_size
  pub segment : IsRegionSize sizes.segment_size
  pub least_stores : 1 ≤ sizes.most_stores
  pub stores : sizes.most_stores ≤ 4096
  pub device : device_bytes sizes ≤ 1073741824

-- those of a device that was not told otherwise
abbrev pub default_sizes : Sizes
default_sizes = record {
  slot_size = 2097152;
  slots = 32;
  half_size = 262144;
  segment_size = 4194304;
  most_stores = 256;
}
