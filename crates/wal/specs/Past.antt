-- The number behind a run of taken ones.
use Rattle.std.specs.Prelude.{ℕ, ◌+◌, nat_lt, if◌then◌else◌}

-- the first number that is at least this one, and behind these
abbrev pub past : ℕ → ℕ → ℕ → ℕ
past next first count = if nat_lt next (first + count) then first + count else next
