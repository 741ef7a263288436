-- Runs of a node's sets, and when there is none.
use Rattle.std.specs.Prelude.{◌≡◌, ℕ, ◌+◌, ◌<◌, ◌≤◌}
use Rattle.cn_tree.specs.declared.tree_fault.TreeFault.{TreeFault}
use Rattle.cn_tree.specs.declared.tree_fault.TreeFault.TheVariants.{NoRun, NoMemory}

-- of so many sets, a run of this length with this many older sets behind it
abbrev pub IsRun : ℕ → ℕ → ℕ → Type 0
IsRun have older len = (0 < len) × (older + len ≤ have)

-- A run that is not there is refused with the number of sets, and for no other reason. Want of memory is told only of a
-- run that is there.
abbrev pub RefusesRun : ℕ → ℕ → ℕ → TreeFault → Type 0
RefusesRun have older len (NoRun sets) = (sets ≡ have) × (IsRun have older len → ⊥)
RefusesRun have older len NoMemory = IsRun have older len
