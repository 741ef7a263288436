use Rattle.std.proofs.Common.{◌∙◌, ℕ, ap, sym, subst, arith}
use Rattle.std.proofs.lemmas.List.{nil_from_length}
use Rattle.recovery.specs.Layer.{IsGreatestOf}
use Rattle.recovery.proofs.NamedLemmas.{greatest_of, is_greatest}
use Rattle.recovery.proofs.layer.ActiveLayer.put.Goals as goal

pub returns-clause-named : goal.returns-clause-named
returns-clause-named c =
    let none = nil_from_length c.loop-write.write-iterator.rest.items (omega (arith, c.in-None.ensures.steps.0, c.loop-write.write-iterator.rest.ok)) in
    subst (λ (n : ℕ). IsGreatestOf c.args.self.now.named c.args.writes.items n)
    (sym c.loop-write.invariant.1 ∙ ap (greatest_of c.loop-write.self.named) none)
    (is_greatest c.args.self.now.named c.args.writes.items)
