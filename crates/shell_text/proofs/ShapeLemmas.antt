-- What the words behind verbs stand for.
use Rattle.std.proofs.Common.{ℕ, Bool, List, [], ◌∷◌}
use Rattle.hse_rows.specs.declared.store.Mode.{Mode}
use Rattle.shell_text.specs.declared.line.Actor.{Actor}
use Rattle.shell_text.specs.Words.{Word, actor_of, name, mode_of, number, direction, item}

abbrev pub one_name : List ℕ → List Word
one_name of = name of ∷ []

abbrev pub of_store : List ℕ × Mode × ℕ → List Word
of_store of = name of.0 ∷ mode_of of.1 ∷ number of.2 ∷ []

abbrev pub of_key : Actor × List ℕ × List ℕ → List Word
of_key of = actor_of of.0 ∷ name of.1 ∷ item of.2 ∷ []

abbrev pub of_pair : Actor × List ℕ × List ℕ × List ℕ → List Word
of_pair of = actor_of of.0 ∷ name of.1 ∷ item of.2 ∷ item of.3 ∷ []

abbrev pub of_cursor : List ℕ × Actor × List ℕ × Bool × List ℕ → List Word
of_cursor of = name of.0 ∷ actor_of of.1 ∷ name of.2 ∷ direction of.3 ∷ item of.4 ∷ []

abbrev pub of_seek : List ℕ × List ℕ → List Word
of_seek of = name of.0 ∷ item of.1 ∷ []

abbrev pub of_range : List ℕ × List ℕ × List ℕ → List Word
of_range of = name of.0 ∷ item of.1 ∷ item of.2 ∷ []
