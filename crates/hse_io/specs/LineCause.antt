-- When a source counts a fault.
use Rattle.std.specs.Prelude.{◌≡◌, ℕ, ◌≤◌, Result, IsErrOf}
use Rattle.hse_io.specs.declared.source.LineFault.{LineFault}
use Rattle.hse_io.specs.declared.source.LineFault.TheVariants.{Failed}
use Rattle.hse_io.specs.Faults.{Rose}

-- the count does not fall; a call fails only where it rose, and has its line, its end or too long a line only where it stayed
pub record HasLineCause {T : Type 0} (before now : ℕ) (result : Result T LineFault) : Type 0 where
  pub later : before ≤ now
  pub failed : IsErrOf result Failed → Rose before now
  pub quiet : (IsErrOf result Failed → ⊥) → now ≡ before
