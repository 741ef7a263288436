-- Which lengths of prefixes are in use.
use Rattle.std.specs.Prelude.{◌≤◌, ℕ, length}
use Rattle.hse_rows.specs.declared.change.Change.{Change}
use Rattle.hse_rows.specs.declared.change.Change.TheVariants.{Put, Del, PDel}

-- a prefix delete's prefix is of a length in use
abbrev pub IsInUse : ℕ → ℕ → Change → Type 0
IsInUse shortest longest (Put key value) = Unit {0}
IsInUse shortest longest (Del key) = Unit {0}
IsInUse shortest longest (PDel prefix) = (shortest ≤ length prefix) × (length prefix ≤ longest)
