-- What reading a superblock answers.
use Rattle.std.specs.Prelude.{◌≡◌, Result, Ok, Err}
use Rattle.device_layout.specs.Layouts.{IsGood, params_of}
use Rattle.device_layout.specs.Superblock.{Superblock, says, other_version, refused}
use Rattle.device_layout.specs.declared.layout.Layout.{Layout}
use Rattle.device_layout.specs.declared.fault.LayoutFault.{LayoutFault}
use Rattle.device_layout.specs.declared.fault.LayoutFault.TheVariants.{Damaged, Version}

-- The answer is what was read.
abbrev pub Says : Superblock → Result Layout LayoutFault → Type 0
Says read (Ok layout) = IsGood layout × (read ≡ says (params_of layout))
Says read (Err (Damaged place)) = read ≡ refused place
Says read (Err (Version version)) = read ≡ other_version version
