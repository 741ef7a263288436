use Rattle.back.proofs.LoadedLemmas.{creation_may, drop_may, few_taken, known_stores, loaded_base, short_entry, text_after}
use Rattle.back.proofs.laws.loaded_metadata_may_be_bases.Goals as goal

pub returns-clause-base : goal.returns-clause-base
returns-clause-base c = loaded_base

pub returns-clause-creation : goal.returns-clause-creation
returns-clause-creation c = λ image loaded commits store says. creation_may image loaded says commits store

pub returns-clause-drop : goal.returns-clause-drop
returns-clause-drop c = λ image loaded commits number id says. drop_may image loaded says commits number id

pub returns-clause-short_base : goal.returns-clause-short_base
returns-clause-short_base c = λ image loaded entry says. text_after image loaded says entry

pub returns-clause-short : goal.returns-clause-short
returns-clause-short c = short_entry

pub returns-clause-stores : goal.returns-clause-stores
returns-clause-stores c = known_stores

pub returns-clause-runs : goal.returns-clause-runs
returns-clause-runs c = few_taken
