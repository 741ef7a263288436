use Rattle.std.proofs.Common.{refl, ◌∙◌, sym, true, false}
use Rattle.key_locks.proofs.UndoLemmas.{undone}
use Rattle.key_locks.proofs.moves.undo_one.Goals as goal

pub returns-then-has_name-clause-agree : goal.returns-then-has_name-clause-agree
returns-then-has_name-clause-agree c =
    undone c.args.table.now c.args.table.now c.args.held.now c.pop_name.new.held c.args.txn c.in-Some.name c.in-Some.ensures.last c.in-Some.ensures.others
    true (sym c.has_name.ensures ∙ c.if-has_name.true) (λ q. refl) c.requires

pub returns-clause-agree : goal.returns-clause-agree
returns-clause-agree c =
    undone c.args.table.now c.free_name.new.table c.args.held.now c.pop_name.new.held c.args.txn c.in-Some.name c.in-Some.ensures.last c.in-Some.ensures.others
    false (sym c.has_name.ensures ∙ c.if-has_name.false) c.free_name.ensures.holder c.requires
