-- What formatting makes of a device, step by step, and what it answers.
use Rattle.std.specs.Prelude.{◌≡◌, ◌≢◌, ◌⊎◌, ℕ, ◌<◌, List, [], ◌∷◌, length, Result, Ok, Err}
use Rattle.hse_io.specs.Faults.{Rose, next_count}
use Rattle.media_disk.specs.declared.device.Device.{Ghosts}
use Rattle.gate_log.specs.Gates.{Gated, IsClosed}
use Rattle.gate_log.specs.Places.{region_of}
use Rattle.hse_rows.specs.machine.Sizes.{device_bytes}
use Rattle.hse_rows.specs.states.State.{State}
use Rattle.device_layout.specs.Layouts.{AreGood, known_version, half_of, size_of_device, sizes_of}
use Rattle.device_layout.specs.declared.layout.Layout.{Layout}
use Rattle.device_layout.specs.declared.params.Params.{Params}
use Rattle.manifest.specs.Half.{IsRefused}
use Rattle.manifest.specs.Metadata.{Metadata}
use Rattle.recovery.specs.Image.{IsLoaded, Loaded, block_in, log_region}
use Rattle.recovery.specs.Keeps.{Keeps}
use Rattle.recovery.specs.Refused.{IsSuperRefused}
use Rattle.recovery.specs.declared.fault.FormatFault.{FormatFault}
use Rattle.recovery.specs.declared.fault.FormatFault.TheVariants.{BadParams, NotEmpty, Device, NoMemory}

-- ---- a new device

-- what the first base says: nothing is ingested, no number is taken, and there is no store
abbrev pub first_metadata : Metadata
first_metadata = record { horizon = 0; first_segment = 1; taken = []; stores = [] }

-- the layout of a device that is made so
abbrev pub layout_of : Params → Layout
layout_of params = record {
  power = params.power;
  slots = params.slots;
  manifest = params.manifest;
  log = params.log;
  version = known_version;
  stores = params.stores;
}

-- What is loaded of a new device: the first base alone in half 1 with sequence 1, and a log without entries.
abbrev pub first_loaded : Layout → Loaded
first_loaded layout = record {
  layout = layout;
  half = 1;
  sequence = 1;
  place = 39;
  metadata = first_metadata;
  log = record { entries = []; next = 1; place = 9 };
}

-- so it stores the state of number 0 with no store
abbrev pub first_state : State
first_state = record { number = 0; stores = [] }

-- ---- on the way there

-- neither half has an open head
pub record IsBlank (layout : Layout) (image : List ℕ) : Type 0 where
  pub first : IsClosed (region_of (half_of layout 0) image)
  pub second : IsClosed (region_of (half_of layout 1) image)
  pub long : length image ≡ size_of_device layout

-- this is the first block, and half 1 has these batches
pub record IsBegun (layout : Layout) (block : List ℕ) (batches : List (List ℕ)) (image : List ℕ) : Type 0 where
  pub first : IsClosed (region_of (half_of layout 0) image)
  pub second : Gated (region_of (half_of layout 1) image) 1 batches
  pub head : block_in image ≡ block
  pub long : length image ≡ size_of_device layout

-- and the log has no batch
pub record IsFilled (layout : Layout) (block base image : List ℕ) : Type 0 where
  pub begun : IsBegun layout block (base ∷ []) image
  pub log : Gated (region_of (log_region layout) image) 1 []

-- A stop within, once the size is safe, leaves a device that is refused at its superblock's gate, one whose manifest is
-- refused at its first head if the superblock says this layout, or the new device.
pub record IsStopped (layout : Layout) (image : List ℕ) : Type 0 where
  pub long : length image ≡ size_of_device layout
  pub left :
      IsSuperRefused image 0 ⊎ (IsRefused layout image 0 0 ⊎ IsLoaded image (first_loaded layout))

-- the clock behind the call that makes the size safe: the third one
abbrev pub third_call : ℕ → ℕ
third_call clock = next_count (next_count (next_count clock))

-- what a stop since then might have left
abbrev pub StopsBehind : {D : Type 0} → Ghosts D → Params → D → D → Type 0
StopsBehind g params old new =
    (image : List ℕ) → g.could new (third_call (g.clock old)) image → IsStopped (layout_of params) image

-- So it is also where a later call failed.
abbrev pub StopsWell : {D : Type 0} → Ghosts D → Params → D → D → Result ℕ FormatFault → Type 0
StopsWell g params old new (Ok size) = StopsBehind g params old new
StopsWell g params old new (Err BadParams) = Unit {0}
StopsWell g params old new (Err (NotEmpty size)) = Unit {0}
StopsWell g params old new (Err Device) =
    third_call (g.clock old) < g.clock new → StopsBehind g params old new
StopsWell g params old new (Err NoMemory) = Unit {0}

-- ---- answers

-- The parameters are refused exactly where they are not good, and a device exactly where it has bytes.
abbrev pub IsFormatAnswer : Params → ℕ → Result ℕ FormatFault → Type 0
IsFormatAnswer params extent (Ok size) =
    AreGood params × (size ≡ device_bytes (sizes_of params)) × (extent ≡ size)
IsFormatAnswer params extent (Err BadParams) = ¬ AreGood params
IsFormatAnswer params extent (Err (NotEmpty size)) = AreGood params × (size ≢ 0) × (extent ≡ size)
IsFormatAnswer params extent (Err Device) = AreGood params
IsFormatAnswer params extent (Err NoMemory) = AreGood params × (extent ≡ 0)

-- of the bytes that a read gave before
abbrev pub IsAnswerOn : List ℕ → Result ℕ FormatFault → Type 0
IsAnswerOn seen (Ok size) = seen ≡ []
IsAnswerOn seen (Err BadParams) = Unit {0}
IsAnswerOn seen (Err (NotEmpty size)) = size ≡ length seen
IsAnswerOn seen (Err Device) = Unit {0}
IsAnswerOn seen (Err NoMemory) = seen ≡ []

-- The device failed exactly where the answer says so. It is not called where the parameters are not good, and not
-- written to where it has bytes or memory is wanting.
abbrev pub FormatReports : {D : Type 0} → Ghosts D → D → D → Result ℕ FormatFault → Type 0
FormatReports g old new (Ok size) = g.faults new ≡ g.faults old
FormatReports g old new (Err BadParams) = new ≡ old
FormatReports g old new (Err (NotEmpty size)) = (g.faults new ≡ g.faults old) × Keeps g old new
FormatReports g old new (Err Device) = Rose (g.faults old) (g.faults new)
FormatReports g old new (Err NoMemory) = (g.faults new ≡ g.faults old) × Keeps g old new
