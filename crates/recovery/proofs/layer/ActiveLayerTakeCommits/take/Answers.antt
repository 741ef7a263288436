use Rattle.std.proofs.Common.{◌≡◌, ◌∙◌, List, ap, sym, subst}
use Rattle.std.specs.List.Sorted.{IsStrictlySortedBy}
use Rattle.std.proofs.lemmas.Result.{on_ok_weaker}
use Rattle.hse_rows.specs.declared.write.Write.{Write}
use Rattle.hse_rows.specs.writes.NormalForm.{write_cmp}
use Rattle.view.specs.Commits.{with_writes}
use Rattle.recovery.specs.Layer.{IsGreatestOf}
use Rattle.recovery.proofs.LayerLemmas.{one_more}
use Rattle.recovery.proofs.NamedLemmas.{both_on_ok, named_more}
use Rattle.recovery.proofs.layer.ActiveLayerTakeCommits.take.Goals as goal

pub returns : goal.returns
returns c = λ entries is.
    let rise = subst (IsStrictlySortedBy write_cmp) (sym c.len-count.ensures.normal) (c.normal_forms_are_in_order.ensures c.args.commit.writes).rising in
    on_ok_weaker c.put.result
    (λ (made : (c.put.new.self.rows ≡ with_writes c.args.commit.number c.args.self.now.rows c.into_writes.result.items)
    × IsGreatestOf c.args.self.now.named c.into_writes.result.items c.put.new.self.named). (
      one_more entries c.args.self.now.rows c.put.new.self.rows c.args.commit.number c.args.commit.writes is.0 rise
          (made.0 ∙ ap (λ (ws : List Write). with_writes c.args.commit.number c.args.self.now.rows ws) c.into_writes.ensures),
      named_more entries c.args.self.now.named c.put.new.self.named c.args.commit.number c.args.commit.writes is.1
          (subst (λ (ws : List Write). IsGreatestOf c.args.self.now.named ws c.put.new.self.named) c.into_writes.ensures made.1),
    ))
    (both_on_ok c.put.result _ _ c.put.ensures.rows c.put.ensures.named)
