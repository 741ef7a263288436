-- Commits of one change as entries of the log.
use Rattle.std.specs.Prelude.{ℕ, ◌+◌, List, [], ◌∷◌, length, flat_map, sum_by}
use Rattle.hse_fields.specs.LogText as log
use Rattle.hse_shell.specs.Change.{Change, put, del}

-- the id of the one store
abbrev pub store_id : ℕ
store_id = 1

abbrev pub logged : Change → log.Change
logged (put key value) = record { kind = log.put; store = store_id; name = key; value = value }
logged (del key) = record { kind = log.del; store = store_id; name = key; value = [] }

-- the entry of a commit
abbrev pub entry_for : ℕ → Change → log.Entry
entry_for number change = record { number = number; changes = logged change ∷ [] }

-- the entries of commits of rising numbers, from this one on
abbrev pub entries_from : ℕ → List Change → List log.Entry
entries_from number [] = []
entries_from number (change ∷ changes) = entry_for number change ∷ entries_from (number + 1) changes

abbrev pub entry_text : ℕ → Change → List ℕ
entry_text number change = log.entry_text (entry_for number change)

abbrev pub entries_text : ℕ → List Change → List ℕ
entries_text number changes = flat_map log.entry_text (entries_from number changes)

-- how many bytes an entry takes, and 32
abbrev pub charge_of : Change → ℕ
charge_of change = length (entry_text 0 change) + 32

abbrev pub charges_of : List Change → ℕ
charges_of changes = sum_by charge_of changes
