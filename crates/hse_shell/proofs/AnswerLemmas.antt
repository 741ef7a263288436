-- What a line that was answered leaves.
use Rattle.std.proofs.Common.{ℕ, List}
use Rattle.media_disk.specs.Images.{CountsNow}
use Rattle.media_disk.specs.declared.device.Device.{Ghosts}
use Rattle.hse_shell.specs.Machine.{Machine, led_to}
use Rattle.hse_shell.specs.Turns.{Turned, Led}
use Rattle.hse_shell.specs.declared.engine.Engine.{Engine}
use Rattle.hse_shell.proofs.MarkLemmas.{marked_of}

abbrev pub led_of : {D : Type 0} (g : Ghosts D) → CountsNow g → (m : Machine) (line : List ℕ) (disk : D) (engine : Engine)
    → Turned g m line disk engine → Led g m line disk engine.marks.items
led_of g counts m line disk engine t = record {
  meaning = t.meaning;
  answer = t.answer;
  means = t.means;
  step = t.turned.step;
  marked = marked_of g counts disk engine (led_to m t.meaning t.answer) t.turned.serves;
}
