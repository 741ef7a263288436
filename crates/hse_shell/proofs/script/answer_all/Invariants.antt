use Rattle.std.proofs.Common.{◌+◌, ◌-◌}
use Rattle.hse_io.specs.Longest.{longest_script}
use Rattle.hse_shell.proofs.Progress.{Progress}
use Rattle.hse_shell.proofs.script.answer_all.Given as goal

abbrev pub invariant-lines : goal.invariant-lines
invariant-lines g l = Progress g.S.Source g.K.Sink g.D.Device l.initial.source l.source l.initial.sink l.sink l.initial.disk l.disk l.initial.engine l.engine l.initial.script.taken l.script.taken

abbrev pub decreases-lines : goal.decreases-lines
decreases-lines g l = longest_script + 1 - l.script.taken
