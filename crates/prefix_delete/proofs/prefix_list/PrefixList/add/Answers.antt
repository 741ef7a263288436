use Rattle.std.proofs.Common.{ℕ, List, length, set, true, sym, subst, arith}
use Rattle.prefix_delete.specs.declared.entry.Entry.{Entry}
use Rattle.prefix_delete.specs.Prefixes.{entry_of, ArePrefixes, AreUsed, with_entry}
use Rattle.prefix_delete.proofs.EntryLemmas.{added-prefixes, added-used}
use Rattle.prefix_delete.proofs.prefix_list.PrefixList.add.Goals as goal

pub invariant_of-self-2 : goal.invariant_of-self-2
invariant_of-self-2 c =
    let entry = entry_of c.args.prefix c.args.number in (
      subst ArePrefixes (sym c.in_ok-put.ensures.added)
          (added-prefixes c.self.inside.entries.items entry c.self.invariant.0 c.bytes-len.ensures.within),
      subst (λ (l : List Entry). AreUsed (set c.self.inside.used (length c.bytes-len.result.now) true) l) (sym c.in_ok-put.ensures.added)
          (subst (λ (n : List ℕ). AreUsed (set c.self.inside.used (length n) true) (with_entry c.self.inside.entries.items entry)) (sym c.bytes-len.ensures.value)
          (added-used c.self.inside.used c.self.inside.entries.items entry (let h = c.self.told in let within = c.bytes-len.ensures.within.1 in omega (arith, h, within)) c.self.invariant.1)),
    )
