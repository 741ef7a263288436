use Rattle.hse_shell.proofs.RowsLemmas.{contents_of-empty}
use Rattle.hse_shell.proofs.rows.Rows.new.Goals as goal

pub returns : goal.returns
returns c = rw c.new.ensures.items contents_of-empty
