-- Faults that are handed on.
use Rattle.std.specs.Prelude.{◌≡◌}
use Rattle.gate_log.specs.declared.appending.AppendFault.{AppendFault}
use Rattle.gate_log.specs.declared.appending.AppendFault.TheVariants as append
use Rattle.manifest.specs.declared.fault.ManifestFault.{ManifestFault}
use Rattle.manifest.specs.declared.fault.ManifestFault.TheVariants as manifest

-- the fault is the same
abbrev pub IsSameFullness : AppendFault → ManifestFault → Type 0
IsSameFullness (append.Full need room) fault = fault ≡ manifest.ManifestFull need room
IsSameFullness append.Device fault = fault ≡ manifest.Device
