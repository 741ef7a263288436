use Rattle.row_laws.proofs.EntryLemmas.{rising-key_rows, entries-pairs}
use Rattle.row_laws.proofs.ListLemmas.{own-merged}
use Rattle.row_laws.proofs.NextListLemmas.{first-is_next, get-lasting}
use Rattle.row_laws.proofs.laws.merged_rows_are_entries.Goals as goal

pub returns-clause-entries : goal.returns-clause-entries
returns-clause-entries c = λ rows once. (rising-key_rows rows once, entries-pairs rows once)

pub returns-clause-next : goal.returns-clause-next
returns-clause-next c = λ rows past edge found once first. first-is_next rows once past edge found first

pub returns-clause-values : goal.returns-clause-values
returns-clause-values c = get-lasting

pub returns-clause-lasting : goal.returns-clause-lasting
returns-clause-lasting c = λ rows key once. own-merged key rows once
