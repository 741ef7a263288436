-- The superblock, a device's first block: what it spells, and how it is read.
--
--     0         gate
--     1 to 8    the text MSTORE02
--     9 to 12   version
--     13        k: a slot has 2^k bytes
--     14 to 17  how many slots there are
--     18 to 25  the bytes of a manifest half
--     26 to 33  the bytes of a log segment
--     34 to 35  the most stores that may be live
--     36 ..     zeros
use Rattle.std.specs.Prelude.{◌≡◌, ℕ, ◌+◌, ◌==◌, nat_le, ◌%◌, ◌&&◌, Bool, List, [], ◌∷◌, ◌++◌, length, drop, get_or, codes, Option, Some, None, if◌then◌else◌}
use Rattle.std.specs.List.{AllByRecursion}
use Rattle.byteorder.specs.Endian.{big_bytes, big_number}
use Rattle.media_disk.specs.Content.{part}
use Rattle.gate_log.specs.Gates.{open_gate}
use Rattle.hse_rows.specs.machine.Sizes.{device_block, device_bytes}
use Rattle.hse_rows.specs.writes.NormalForm.{same}
use Rattle.device_layout.specs.Layouts.{known_version, sizes_of}
use Rattle.device_layout.specs.declared.params.Params.{Params}

abbrev pub mark : List ℕ
mark = codes "MSTORE02"

-- ---- what it spells

abbrev pub sizes_text : Params → List ℕ
sizes_text params =
    big_bytes 1 params.power ++ (big_bytes 4 params.slots
    ++ (big_bytes 8 params.manifest ++ (big_bytes 8 params.log ++ big_bytes 2 params.stores)))

-- The block has this gate and spells these sizes.
pub record IsSuperblock (gate : ℕ) (params : Params) (block : List ℕ) : Type 0 where
  pub rest : List ℕ
  pub spelled : block ≡ gate ∷ (mark ++ (big_bytes 4 known_version ++ (sizes_text params ++ rest)))
  pub zeros : AllByRecursion (λ (byte : ℕ). byte ≡ 0) rest
  pub long : length block ≡ device_block

-- ---- how it is read

-- the number in so many bytes from a place on
abbrev pub number_in : List ℕ → ℕ → ℕ → ℕ
number_in block at n = big_number n (part block at n)

abbrev pub params_in : List ℕ → Params
params_in block = record {
  power = number_in block 13 1;
  slots = number_in block 14 4;
  manifest = number_in block 18 8;
  log = number_in block 26 8;
  stores = number_in block 34 2;
}

abbrev pub may_be_power : ℕ → Bool
may_be_power power = nat_le 16 power && nat_le power 25

abbrev pub may_be_slot_count : ℕ → Bool
may_be_slot_count slots = nat_le 4 slots && nat_le slots 16384

abbrev pub may_be_region_size : ℕ → Bool
may_be_region_size bytes = (nat_le 65536 bytes && nat_le bytes 67108864) && (bytes % device_block == 0)

abbrev pub may_be_store_limit : ℕ → Bool
may_be_store_limit stores = nat_le 1 stores && nat_le stores 4096

-- refused at this place, unless the test holds and nothing behind is refused
abbrev pub refused_unless : Bool → ℕ → Option ℕ → Option ℕ
refused_unless test place behind = if test then behind else Some place

-- the place of the first of the sizes that is outside its limits
abbrev pub size_refused : Params → Option ℕ
size_refused params =
    refused_unless (may_be_power params.power) 13
    (refused_unless (may_be_slot_count params.slots) 14
    (refused_unless (may_be_region_size params.manifest) 18
    (refused_unless (may_be_region_size params.log) 26
    (refused_unless (may_be_store_limit params.stores) 34 None))))

-- the place of the first byte that is not 0, where the first of them stands at this place
abbrev pub zero_refused : ℕ → List ℕ → Option ℕ
zero_refused at [] = None
zero_refused at (byte ∷ bytes) = refused_unless (byte == 0) at (zero_refused (at + 1) bytes)

-- the device has the size of these parts, and one that it may have
abbrev pub has_size : ℕ → Params → Bool
has_size size params = (size == device_bytes (sizes_of params)) && nat_le size 1073741824

-- What the first block of a device says: its sizes, or a version that is not known, or the place of the first refused field.
pub data Superblock : Type 0 where
  says : Params → Superblock
  other_version : ℕ → Superblock
  refused : ℕ → Superblock

abbrev pub or_refused : Option ℕ → Superblock → Superblock
or_refused (Some place) behind = refused place
or_refused None behind = behind

-- Of a device of another size than its parts have, the place behind the block is refused.
abbrev pub sized : ℕ → Params → Superblock
sized size params = if has_size size params then says params else refused device_block

abbrev pub sizes_in : ℕ → List ℕ → Superblock
sizes_in size block =
    or_refused (size_refused (params_in block)) (or_refused (zero_refused 36 (drop 36 block)) (sized size (params_in block)))

abbrev pub versioned : ℕ → List ℕ → Superblock
versioned size block =
    if number_in block 9 4 == known_version then sizes_in size block else other_version (number_in block 9 4)

-- what this block says of a device of this size
unfoldable pub superblock_of : ℕ → List ℕ → Superblock
superblock_of size block =
    if get_or block 0 0 == open_gate
    then (if same (part block 1 8) mark then versioned size block else refused 1)
    else refused 0
