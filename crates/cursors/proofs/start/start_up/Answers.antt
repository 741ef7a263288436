use Rattle.std.proofs.Common.{rules, sym, ap, ◌∙◌}
use Rattle.std.specs.Ordering.{is_lt}
use Rattle.cursors.proofs.KindLemmas.{lt-true}
use Rattle.cursors.proofs.StartLemmas.{from-filter, from-before}
use Rattle.cursors.proofs.start.start_up.Goals as goal

pub returns-then-eq : goal.returns-then-eq
returns-then-eq c = λ key is. from-filter c.args.filter.now key is ∙ search rules

pub returns-then-is_lt : goal.returns-then-is_lt
returns-then-is_lt c = λ key is.
    from-filter c.args.filter.now key is
    ∙ sym (from-before c.args.stand c.args.key.now c.args.filter.now key
    (lt-true _ (sym (ap is_lt c.cmp.ensures) ∙ sym c.is_lt.ensures ∙ c.if-is_lt.true)) is)
