use Rattle.manifest.specs.laws.Sizes.{creation_length, drop_length, base_length, one_taken}
use Rattle.manifest.proofs.laws.entries_are_as_the_machine_counts.Goals as goal

pub returns-clause-creation : goal.returns-clause-creation
returns-clause-creation c = creation_length

pub returns-clause-drop : goal.returns-clause-drop
returns-clause-drop c = drop_length

pub returns-clause-base : goal.returns-clause-base
returns-clause-base c = base_length

pub returns-clause-taken : goal.returns-clause-taken
returns-clause-taken c = one_taken
