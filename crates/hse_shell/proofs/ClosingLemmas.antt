-- How a run closes, by what became of its last line.
use Rattle.std.proofs.Common.{◌≡◌, ℕ, List, Option, subst, inr}
use Rattle.hse_io.specs.declared.outcome.Mark.{Mark}
use Rattle.hse_io.specs.declared.outcome.Status.{Status}
use Rattle.hse_io.specs.declared.outcome.Status.TheVariants as status
use Rattle.media_disk.specs.declared.device.Device.{Ghosts}
use Rattle.hse_shell.specs.Machine.{Machine, number_of, flushed, all_synced}
use Rattle.hse_shell.specs.Marks.{Marked}
use Rattle.hse_shell.specs.Logged.{Serves}
use Rattle.hse_shell.specs.Turns.{Closes, Parts}
use Rattle.hse_shell.specs.declared.engine.Engine.{Engine}

-- how a run closes once all commits are safe
pub closes_parts : {D : Type 0} (g : Ghosts D) (ended : Status) (m : Machine) (number : ℕ) (before after : Option (List ℕ)) (disk : D) (engine : Engine) (marks : List Mark)
    → Serves g disk engine (flushed m) → number ≡ number_of m → Parts ended number before after → Marked g disk marks (all_synced m)
    → Closes g ended m before after disk marks
closes_parts g status.Done m number before after disk engine marks s is wrote marked = record {
  wrote = subst (λ (n : ℕ). Parts status.Done n before after) is wrote;
  stores = λ told. (s.logged told).stores;
  durable = λ told. (s.logged told).durable;
  marked = marked;
}
closes_parts g status.WriteFault m number before after disk engine marks s is front marked = record {
  front = subst (λ (n : ℕ). Parts status.WriteFault n before after) is front;
  marked = marked;
}
closes_parts g status.NoMemory m number before after disk engine marks s is none marked = (inr marked, none)
closes_parts g status.Usage m number before after disk engine marks s is never marked = absurd never
closes_parts g status.ReadFault m number before after disk engine marks s is never marked = absurd never
closes_parts g status.DeviceFault m number before after disk engine marks s is never marked = absurd never
closes_parts g status.NotFormed m number before after disk engine marks s is never marked = absurd never
closes_parts g status.LineTooLong m number before after disk engine marks s is never marked = absurd never
closes_parts g status.ScriptTooLong m number before after disk engine marks s is never marked = absurd never
closes_parts g status.NotEmpty m number before after disk engine marks s is never marked = absurd never
closes_parts g status.BadParams m number before after disk engine marks s is never marked = absurd never
closes_parts g status.Refused m number before after disk engine marks s is never marked = absurd never
