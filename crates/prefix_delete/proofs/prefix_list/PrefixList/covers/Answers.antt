use Rattle.std.proofs.Common.{◌≡◌, ℕ, ◌+◌, suc, List, length, sym, ap, subst, ◌∙◌, arith}
use Rattle.std.specs.Prelude.{nat_lt}
use Rattle.std.specs.List.{filter}
use Rattle.hse_rows.specs.rows.Meaning.{greater, covered_at}
use Rattle.prefix_delete.specs.declared.entry.Entry.{Entry}
use Rattle.prefix_delete.specs.Prefixes.{ArePrefixes, rows_of}
use Rattle.prefix_delete.proofs.CoverLemmas.{split, shorter-none, shorter-all}
use Rattle.prefix_delete.proofs.prefix_list.PrefixList.covers.Goals as goal

pub loop-len-init : goal.loop-len-init
loop-len-init c = ap (λ (l : List Entry). covered_at c.args.key.now (rows_of l)) (sym (shorter-none c.args.self.now))

pub loop-len-preserved : goal.loop-len-preserved
loop-len-preserved c =
    let next : c.loop-len.len + 1 ≡ suc c.loop-len.len = omega arith in
    c.greater-greatest.ensures
    ∙ (λ i. greater (c.loop-len.invariant i) (c.number_of.ensures i))
    ∙ sym (split c.args.key.now c.loop-len.len c.args.self.now)
    ∙ ap (λ (n : ℕ). covered_at c.args.key.now (rows_of (filter (λ entry. nat_lt (length entry.prefix) n) c.args.self.now))) (sym next)

pub returns : goal.returns
returns c =
    let whole : c.loop-len.len ≡ 33 = omega arith in
    let known : ArePrefixes c.args.self.now = subst ArePrefixes c.self.view_is c.self.invariant.0 in
    c.loop-len.invariant
    ∙ ap (λ (n : ℕ). covered_at c.args.key.now (rows_of (filter (λ entry. nat_lt (length entry.prefix) n) c.args.self.now))) whole
    ∙ ap (λ (l : List Entry). covered_at c.args.key.now (rows_of l)) (shorter-all c.args.self.now known.within)
