-- What a reader answers.
use Rattle.std.specs.Prelude.{Result, Ok, Err}
use Rattle.shell_text.specs.declared.line.TextFault.{TextFault}
use Rattle.shell_text.specs.declared.line.TextFault.TheVariants.{BadLine, NoMemory}

-- The answer is a value that the text has, or a bad line exactly where the text has none. Want of
-- memory may come at any time.
abbrev pub IsReading : {A : Type 0} → (A → Type 0) → Result A TextFault → Type 0
IsReading Has (Ok value) = Has value
IsReading {A} Has (Err BadLine) = (value : A) → ¬ (Has value)
IsReading Has (Err NoMemory) = Unit {0}
