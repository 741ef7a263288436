use Rattle.hse_rows.proofs.ScriptSound.{line_sound, scripts_sound}
use Rattle.hse_rows.proofs.script_laws.scripts_are_sound.Goals as goal

pub returns-clause-lines : goal.returns-clause-lines
returns-clause-lines c = line_sound

pub returns-clause-scripts : goal.returns-clause-scripts
returns-clause-scripts c = scripts_sound
