use Rattle.std.proofs.Common.{false, [], ◌∷◌, sym, subst}
use Rattle.prefix_delete.specs.Prefixes.{ArePrefixes, AreUsed}
use Rattle.prefix_delete.proofs.EntryLemmas.{none-prefixes}
use Rattle.prefix_delete.proofs.prefix_list.PrefixList.empty.Goals as goal

pub invariant_of-result : goal.invariant_of-result
invariant_of-result c = (
  subst ArePrefixes (sym c.new.ensures.items) none-prefixes,
  subst (AreUsed (false ∷ false ∷ false ∷ false ∷ false ∷ false ∷ false ∷ false ∷ false ∷ false ∷ false ∷ false ∷ false ∷ false ∷ false ∷ false ∷ false ∷ false ∷ false ∷ false ∷ false ∷ false ∷ false ∷ false ∷ false ∷ false ∷ false ∷ false ∷ false ∷ false ∷ false ∷ false ∷ false ∷ [])) (sym c.new.ensures.items) tt,
)
