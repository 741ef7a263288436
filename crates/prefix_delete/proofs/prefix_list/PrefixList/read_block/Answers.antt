use Rattle.std.proofs.Common.{◌≡◌, ◌∙◌, ◌++◌, sym, ap, subst, map, None, Ok, ℕ, List, Option}
use Rattle.hse_fields.specs.BlockForm.{AreRising}
use Rattle.hse_fields.specs.BlockReading.{prefix_block_of}
use Rattle.prefix_delete.specs.declared.entry.Entry.{Entry}
use Rattle.prefix_delete.specs.Blocks.{in_block, of_block, last_prefix}
use Rattle.prefix_delete.specs.Prefixes.{ArePrefixes, AreUsed}
use Rattle.hse_fields.specs.BlockGiven.{lent}
use Rattle.prefix_delete.proofs.RisingLemmas.{joined_prefixes, joined_used, of_in_block}
use Rattle.prefix_delete.proofs.prefix_list.PrefixList.read_block.Goals as goal

pub invariant_of-self-2 : goal.invariant_of-self-2
invariant_of-self-2 c =
    let old = c.self.inside.entries.items in
    let more = c.in_ok-more.more.items in
    let last : lent c.last_of.result ≡ last_prefix None old = c.last_of.ensures ∙ ap (last_prefix None) c.deref.ensures.value in
    let rising = subst (λ (o : Option (List ℕ)). AreRising o (map in_block more)) last c.in_ok-more.ensures.rising in
    let marked = subst (AreUsed c.mark.new.used) c.deref-2.ensures.value c.mark.ensures.marked in
    let all : c.append.new.self.items ≡ old ++ more = c.in-Ok.ensures.items in (
      subst ArePrefixes (sym all) (joined_prefixes old more c.self.invariant.0 rising),
      subst (AreUsed c.mark.new.used) (sym all) (joined_used c.self.inside.used c.mark.new.used old more c.mark.ensures.kept c.self.invariant.1 marked),
    )

pub returns-clause-read : goal.returns-clause-read
returns-clause-read c =
    let old = c.self.inside.entries.items in
    let more = c.in_ok-more.more.items in
    let last : lent c.last_of.result ≡ last_prefix None c.args.self.now =
    c.last_of.ensures ∙ ap (last_prefix None) (c.deref.ensures.value ∙ c.self.view_is) in
    let read : prefix_block_of (last_prefix None c.args.self.now) c.args.bytes.now ≡ Ok (map in_block more) =
    subst (λ (o : Option (List ℕ)). prefix_block_of o c.args.bytes.now ≡ Ok (map in_block more)) last c.in_ok-more.ensures.read in
    let all : c.append.new.self.items ≡ c.args.self.now ++ map of_block (map in_block more) =
    c.in-Ok.ensures.items
    ∙ ap (λ (l : List Entry). l ++ more) c.self.view_is
    ∙ ap (λ (l : List Entry). c.args.self.now ++ l) (sym (of_in_block more)) in
    rw read all
