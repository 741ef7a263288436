-- Which states of the machine the engine stands for.
use Rattle.std.specs.Prelude.{◌≡◌, ℕ, ◌+◌, ◌≤◌, List, [], length, drop}
use Rattle.std.specs.List.{AllByRecursion}
use Rattle.hse_fields.specs.LogForm.{IsChange}
use Rattle.hse_shell.specs.Base.{Base}
use Rattle.hse_shell.specs.Change.{Change}
use Rattle.hse_shell.specs.Grammar.{Meaning}
use Rattle.hse_shell.specs.LogText.{entries_text, logged}
use Rattle.hse_shell.specs.Replies.{Answer}
use Rattle.hse_shell.specs.Machine.{Machine, Step, led_to, number_of, contents_of, charges_until, unsynced}
use Rattle.hse_shell.specs.Stored.{longest_value}
use Rattle.hse_shell.specs.declared.engine.Engine.{Engine}

-- the number of the first commit that waits for a sync
abbrev pub first_waiting : Machine → ℕ
first_waiting m = m.base.number + m.synced + 1

-- each change is one that the log may have
abbrev pub AreLogged : List Change → Type 0
AreLogged changes = AllByRecursion (λ change. IsChange longest_value (logged change)) changes

-- the engine has the machine's contents, number and charges, and the entries of what is not synced
pub record Stands (engine : Engine) (m : Machine) : Type 0 where
  pub rows : engine.rows ≡ contents_of m
  pub number : engine.number ≡ number_of m
  pub charges : engine.charges ≡ charges_until m
  pub count : engine.count ≡ length (unsynced m)
  pub waiting : drop 4 engine.waiting.items ≡ entries_text (first_waiting m) (unsynced m)
  pub synced : m.synced ≤ length m.history
  pub logged : AreLogged m.history

-- the line may get this answer, and then the engine stands for where it leads
pub record Answers (m : Machine) (line : Meaning) (answer : Answer) (engine : Engine) : Type 0 where
  pub step : Step m line answer (led_to m line answer)
  pub stands : Stands engine (led_to m line answer)

-- what an engine holds that was just opened
abbrev pub base_in : Engine → Base
base_in engine = record { number = engine.number; contents = engine.rows; charges = engine.charges }

-- nothing waits for a sync
pub record IsIdle (engine : Engine) : Type 0 where
  pub count : engine.count ≡ 0
  pub waiting : drop 4 engine.waiting.items ≡ []

-- all but the marks stays
pub record NotesOnly (old new : Engine) : Type 0 where
  pub rows : new.rows ≡ old.rows
  pub number : new.number ≡ old.number
  pub charges : new.charges ≡ old.charges
  pub waiting : new.waiting ≡ old.waiting
  pub count : new.count ≡ old.count
  pub tail : new.tail ≡ old.tail
