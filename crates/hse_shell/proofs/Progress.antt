-- What holds between two lines of a script.
use Rattle.std.proofs.Common.{◌≡◌, ℕ, ◌≤◌}
use Rattle.hse_io.specs.declared.sink.Sink as sink
use Rattle.hse_io.specs.declared.source.Source as source
use Rattle.media_disk.specs.declared.device.Device as disk
use Rattle.hse_shell.specs.SoFar.{Start, SoFar}
use Rattle.hse_shell.specs.declared.engine.Engine.{Engine}

-- from the values at the start to those now
pub record Progress {S K D : Type 0} (s : source.Ghosts S) (k : sink.Ghosts K) (d : disk.Ghosts D)
    (from now : S) (first last : K) (begin end : D) (opened engine : Engine) (none taken : ℕ) : Type 0 where
  pub so_far : (start : Start D) → SoFar d start (s.remaining from) (k.contents first) begin opened none
      → SoFar d start (s.remaining now) (k.contents last) end engine taken
  pub extent : d.extent end ≡ d.extent begin
  pub read : s.faults from ≤ s.faults now
  pub wrote : k.faults first ≤ k.faults last
  pub failed : d.faults begin ≤ d.faults end
