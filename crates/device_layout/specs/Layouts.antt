-- The layout of a device: which parameters are good, and where its parts lie.
use Rattle.std.specs.Prelude.{◌≡◌, ℕ, ◌+◌, ◌*◌, ◌^◌}
use Rattle.hse_rows.specs.machine.Sizes.{Sizes, AreSizes, device_block, device_bytes}
use Rattle.gate_log.specs.declared.region.Region.{Region}
use Rattle.device_layout.specs.declared.params.Params.{Params}
use Rattle.device_layout.specs.declared.layout.Layout.{Layout}

-- how large the parts are
abbrev pub sizes_of : Params → Sizes
sizes_of params = record {
  slot_size = 2 ^ params.power;
  slots = params.slots;
  half_size = params.manifest;
  segment_size = params.log;
  most_stores = params.stores;
}

-- the parameters that a device may have
abbrev pub AreGood : Params → Type 0
AreGood params = AreSizes (sizes_of params) params.power

-- what the device of this layout was made with
abbrev pub params_of : Layout → Params
params_of layout = record {
  power = layout.power;
  slots = layout.slots;
  manifest = layout.manifest;
  log = layout.log;
  stores = layout.stores;
}

-- the version of this layout's format
abbrev pub known_version : ℕ
known_version = 2

-- The layout is good: its parameters are, and its version is the one that is known.
pub record IsGood (layout : Layout) : Type 0 where
  pub params : AreGood (params_of layout)
  pub version : layout.version ≡ known_version

-- the device's size
abbrev pub size_of_device : Layout → ℕ
size_of_device layout = device_bytes (sizes_of (params_of layout))

abbrev pub region_at : ℕ → ℕ → Region
region_at at size = record { at = at; size = size }

-- the manifest halves 0 and 1 stand behind the superblock
abbrev pub half_of : Layout → ℕ → Region
half_of layout half = region_at (device_block + half * layout.manifest) layout.manifest

-- the log's segments 0 to 3 stand behind them
abbrev pub segment_of : Layout → ℕ → Region
segment_of layout segment =
    region_at (device_block + 2 * layout.manifest + segment * layout.log) layout.log

-- and the slots behind these
abbrev pub slots_at : Layout → ℕ
slots_at layout = device_block + 2 * layout.manifest + 4 * layout.log
