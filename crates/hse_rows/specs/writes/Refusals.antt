-- When a maker refuses, by its fault.
use Rattle.std.specs.Prelude.{◌≡◌, ℕ, ◌<◌, ◌≤◌, List}
use Rattle.hse_rows.specs.declared.length_fault.LengthFault.{LengthFault}
use Rattle.hse_rows.specs.declared.length_fault.LengthFault.TheVariants as fault
use Rattle.hse_rows.specs.declared.name.NameFault.{NameFault}
use Rattle.hse_rows.specs.declared.name.NameFault.TheVariants as name
use Rattle.hse_rows.specs.writes.Names.{IsName}

-- bytes of which there may be these many
abbrev pub RefusesLength : (ℕ → Type 0) → ℕ → LengthFault → Type 0
RefusesLength IsLength given (fault.Length n) = (n ≡ given) × ¬ IsLength given
RefusesLength IsLength given fault.NoMemory = IsLength given

-- a value of this many bytes where `most` are allowed
abbrev pub RefusesValue : ℕ → ℕ → LengthFault → Type 0
RefusesValue most given (fault.Length n) = (n ≡ given) × (most < given)
RefusesValue most given fault.NoMemory = given ≤ most

-- a name
abbrev pub RefusesName : List ℕ → NameFault → Type 0
RefusesName text name.BadName = ¬ IsName text
RefusesName text name.NoMemory = IsName text
