use Rattle.std.proofs.Common.{ap, ◌∙◌}
use Rattle.std.specs.List.{list_any}
use Rattle.key_locks.specs.Names.{name_eq}
use Rattle.key_locks.proofs.NameLemmas.{has-ties}
use Rattle.key_locks.proofs.names.Names.contains.Goals as goal

pub returns : goal.returns
returns c =
    let name = c.args.name.now in
    c.contains.ensures.value ∙ ap (λ l. list_any (λ other. name_eq other name) l) (c.deref.ensures.value ∙ c.self.view_is) ∙ has-ties name c.args.self.now
