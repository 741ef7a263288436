use Rattle.hse_rows.proofs.BlockLemmas.{install_counts, drop_counts}
use Rattle.hse_rows.proofs.core_laws.slots_are_counted.Goals as goal

pub returns-clause-installs : goal.returns-clause-installs
returns-clause-installs c = install_counts

pub returns-clause-drops : goal.returns-clause-drops
returns-clause-drops c = drop_counts
