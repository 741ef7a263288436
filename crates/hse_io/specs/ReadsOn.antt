-- What one step does of a source that reads a line block by block.
use Rattle.std.specs.Prelude.{◌≡◌, ◌≢◌, ℕ, ◌<◌, ◌++◌, List, [], length, Option, Some, IfSome, Result, Ok, Err}
use Rattle.std.specs.Io.KnownBytes.{Keeps, prepend_known}
use Rattle.hse_io.specs.declared.std_source.Reached.{Reached}
use Rattle.hse_io.specs.declared.std_source.Reached.TheVariants.{LineFeed, Within, InputEnd}
use Rattle.hse_io.specs.declared.source.LineFault.{LineFault}
use Rattle.hse_io.specs.declared.source.LineFault.TheVariants.{Failed, TooLong}
use Rattle.hse_io.specs.Lines.{first_line, after_line}
use Rattle.hse_io.specs.Longest.{longest_line}

-- no line feed stands in these bytes
abbrev pub IsOneLine : List ℕ → Type 0
IsOneLine line = first_line line ≡ line

-- What a step makes of what was taken of a line so far, and of the bytes told to be left behind it:
-- the whole line, with its feed taken; more of it perhaps; or the end, with nothing left. A line is
-- too long exactly where more bytes stand before a line feed or the end. After a fault all is open.
abbrev pub ReadsOn : List ℕ → Option (List ℕ) → Result Reached LineFault → List ℕ → Option (List ℕ)
    → Type 0
ReadsOn begun told (Ok LineFeed) line rest = IfSome told (λ left.
    (left ≢ []) × (line ≡ first_line (begun ++ left)) × (rest ≡ Some (after_line (begun ++ left))))
ReadsOn begun told (Ok Within) line rest =
    IsOneLine line × Keeps (prepend_known begun told) (prepend_known line rest)
ReadsOn begun told (Ok InputEnd) line rest =
    (line ≡ begun) × IfSome told (λ left. (left ≡ []) × (rest ≡ Some []))
ReadsOn begun told (Err TooLong) line rest =
    IfSome told (λ left. longest_line < length (first_line (begun ++ left)))
ReadsOn begun told (Err Failed) line rest = Unit {0}
