-- What the words behind take are.
use Rattle.std.proofs.Common.{◌≡◌, ℕ, List, [], ◌∷◌, codes, ap}
use Rattle.hse_rows.specs.declared.store.Mode.{Mode}
use Rattle.shell_text.specs.declared.line.TakeText.{TakeText}
use Rattle.shell_text.specs.declared.line.TakeText.TheVariants as turn
use Rattle.shell_text.specs.Grammar.{taking, AreWords}
use Rattle.shell_text.specs.Words.{name, mode_of, number}
use Rattle.shell_text.proofs.SpellingLemmas.{a_sync, a_create, a_drop, taken_at}

pub only_create : (rest : List (List ℕ)) (wish : TakeText) → AreWords (taking wish) (codes "create" ∷ rest)
    → (of : List ℕ × Mode × ℕ) × AreWords (name of.0 ∷ mode_of of.1 ∷ number of.2 ∷ []) rest
only_create rest turn.Sync says = let odd : a_create ≡ a_sync = ap taken_at says.0 in absurd (cc odd)
only_create rest (turn.Create store mode prefix) says = ((store, mode, prefix), says.1)
only_create rest (turn.Drop store) says = let odd : a_create ≡ a_drop = ap taken_at says.0 in absurd (cc odd)

pub only_drop : (rest : List (List ℕ)) (wish : TakeText) → AreWords (taking wish) (codes "drop" ∷ rest)
    → (of : List ℕ) × AreWords (name of ∷ []) rest
only_drop rest turn.Sync says = let odd : a_drop ≡ a_sync = ap taken_at says.0 in absurd (cc odd)
only_drop rest (turn.Create store mode prefix) says = let odd : a_drop ≡ a_create = ap taken_at says.0 in absurd (cc odd)
only_drop rest (turn.Drop store) says = (store, says.1)
