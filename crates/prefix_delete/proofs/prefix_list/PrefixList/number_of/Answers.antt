use Rattle.std.proofs.Common.{List, take, ap, sym, subst, ◌∙◌}
use Rattle.std.specs.List.Sorted.{IsStrictlySortedBy}
use Rattle.prefix_delete.specs.declared.entry.Entry.{Entry}
use Rattle.prefix_delete.specs.Prefixes.{prefix_cmp, number_at, AreUsed}
use Rattle.prefix_delete.proofs.CoverLemmas.{not-used, too-long, exact-found}
use Rattle.prefix_delete.proofs.prefix_list.PrefixList.number_of.Goals as goal

pub returns-then-not-self-len : goal.returns-then-not-self-len
returns-then-not-self-len c =
    sym (not-used c.args.key.now c.self.inside.used c.args.len c.args.self.now (subst (AreUsed c.self.inside.used) c.self.view_is c.self.invariant.1)
    c.if-not-self-len.true)

pub returns-then-len-key : goal.returns-then-len-key
returns-then-len-key c = sym (too-long c.args.key.now c.args.len c.args.self.now c.if-len-key.true)

pub returns : goal.returns
returns c =
    c.number_of.ensures
    ∙ ap (λ (entries : List Entry). number_at entries (take c.args.len c.args.key.now)) (c.deref.ensures.value ∙ c.self.view_is)
    ∙ sym (exact-found c.args.key.now c.args.len c.args.self.now
    (subst (λ (entries : List Entry). IsStrictlySortedBy prefix_cmp entries) c.self.view_is c.self.invariant.0.rising) c.if-len-key.false)
