-- What a look-up answers.
use Rattle.std.specs.Prelude.{ℕ, List, Option, Some, None}
use Rattle.row_laws.specs.declared.lookup.Word.{Word}
use Rattle.row_laws.specs.declared.lookup.Word.TheVariants.{Nothing, Absent, Value}

abbrev pub word_of : Word → Option (Option (List ℕ))
word_of Nothing = None
word_of Absent = Some None
word_of (Value bytes) = Some (Some bytes.now)
