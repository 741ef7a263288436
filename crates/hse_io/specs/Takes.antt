-- What a call of `read_line` takes of the bytes that a source has left.
use Rattle.std.specs.Prelude.{◌≡◌, ◌≢◌, ℕ, ◌<◌, ◌≤◌, List, [], length, Option, Some, Result, Ok, Err}
use Rattle.hse_io.specs.declared.source.Got.{Got}
use Rattle.hse_io.specs.declared.source.Got.TheVariants.{Text, Ended}
use Rattle.hse_io.specs.declared.source.LineFault.{LineFault}
use Rattle.hse_io.specs.declared.source.LineFault.TheVariants.{Failed, TooLong}
use Rattle.hse_io.specs.Lines.{first_line, after_line}
use Rattle.hse_io.specs.Longest.{longest_line}

-- A text is the first line, and its line feed goes with it. At the end nothing was left. A line is too
-- long exactly where more bytes stand before a line feed or the end. After a fault what is left is open.
abbrev pub Takes : List ℕ → Result Got LineFault → List ℕ → Option (List ℕ) → Type 0
Takes input (Ok Text) line rest =
    (input ≢ []) × (line ≡ first_line input) × (length line ≤ longest_line) × (rest ≡ Some (after_line input))
Takes input (Ok Ended) line rest = (input ≡ []) × (rest ≡ Some [])
Takes input (Err TooLong) line rest = longest_line < length (first_line input)
Takes input (Err Failed) line rest = Unit {0}
