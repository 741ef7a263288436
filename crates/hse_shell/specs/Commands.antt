-- What a command of the code means.
use Rattle.std.specs.Prelude.{ℕ, List, ◌≢◌, All}
use Rattle.hse_shell.specs.declared.command.Command.{Command}
use Rattle.hse_shell.specs.declared.command.Command.TheVariants.{Put, Del, Get, Sync, Silent, Unknown}
use Rattle.hse_shell.specs.Grammar.{Meaning, puts, dels, gets, syncs, silent, unknown}

-- the meaning that a command stands for
abbrev pub meaning_of : Command → Meaning
meaning_of (Put key value) = puts key.now value.now
meaning_of (Del key) = dels key.now
meaning_of (Get key) = gets key.now
meaning_of Sync = syncs
meaning_of Silent = silent
meaning_of Unknown = unknown

abbrev pub HasNoSpace : List ℕ → Type 0
HasNoSpace text = All (λ byte. byte ≢ 32) text
