-- The bytes of a new device, from its first to its last: the superblock, half 1 of the manifest with the first base,
-- segment 1 of the log without a batch, and zeros everywhere else.
use Rattle.std.specs.Prelude.{ℕ, ◌+◌, ◌-◌, ◌*◌, ◌^◌, List, [], ◌∷◌, ◌++◌, length, replicate}
use Rattle.byteorder.specs.Endian.{big_bytes}
use Rattle.gate_log.specs.Gates.{open_gate, open_part}
use Rattle.hse_rows.specs.machine.Sizes.{device_block}
use Rattle.device_layout.specs.Layouts.{known_version, params_of}
use Rattle.device_layout.specs.Superblock.{mark, sizes_text}
use Rattle.device_layout.specs.declared.layout.Layout.{Layout}
use Rattle.manifest.specs.Text.{base_text}
use Rattle.recovery.specs.Formatting.{first_metadata}

unfoldable pub zeros : ℕ → List ℕ
zeros n = replicate n 0

-- this text, and zeros behind it up to so many bytes
abbrev pub padded : ℕ → List ℕ → List ℕ
padded n text = text ++ zeros (n - length text)

-- the fields of the superblock, behind an open gate
abbrev pub superblock_text : Layout → List ℕ
superblock_text layout =
    open_gate ∷ (mark ++ (big_bytes 4 known_version ++ sizes_text (params_of layout)))

abbrev pub device_text : Layout → List ℕ
device_text layout =
    -- the superblock
    padded device_block (superblock_text layout)
    -- half 0, and half 1
    ++ (zeros layout.manifest
    ++ (padded layout.manifest (open_part 1 (base_text first_metadata ∷ []))
    -- segment 0, and segment 1
    ++ (zeros layout.log
    ++ (padded layout.log (open_part 1 [])
    -- segments 2 and 3, and the slots
    ++ zeros (2 * layout.log + layout.slots * 2 ^ layout.power)))))
