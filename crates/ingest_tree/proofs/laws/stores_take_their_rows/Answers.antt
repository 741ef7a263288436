use Rattle.std.proofs.lemmas.Bool.{eq-eqb}
use Rattle.std.proofs.Common.{refl}
use Rattle.ingest_tree.specs.Rows.{store_row}
use Rattle.ingest_tree.proofs.MoreLemmas.{own-more, others-kept}
use Rattle.ingest_tree.proofs.laws.stores_take_their_rows.Goals as goal

pub returns-clause-own : goal.returns-clause-own
returns-clause-own c = λ rows store row rise. own-more store.0 (store_row store row) (eq-eqb store.0 store.0 refl) rows rise

pub returns-clause-others : goal.returns-clause-others
returns-clause-others c = λ rows store row id other. others-kept id (store_row store row) rows other
