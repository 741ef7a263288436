use Rattle.std.proofs.Common.{◌≡◌, ℕ, ◌+◌, ◌⊎◌, suc, inl, inr, map, drop, get_or, Option, Some, sym, ap, subst, ◌∙◌, arith}
use Rattle.std.specs.Prelude.{IfSome}
use Rattle.std.specs.Option.{option_map}
use Rattle.hse_rows.specs.declared.row.Row.{Row}
use Rattle.hse_rows.specs.declared.row.RowRef.{RowRef}
use Rattle.hse_rows.specs.rows.RowSets.{row_of, row_by}
use Rattle.merge.specs.Places.{direction_of, sooner, soonest, head_from, IsHead}
use Rattle.merge.proofs.TurnLemmas.{soonest-more, head-at, if-more}
use Rattle.merge.proofs.steps.soonest_of.Goals as goal

pub loop-at-preserved : goal.loop-at-preserved
loop-at-preserved g c =
    let next : c.loop-at.at + 1 ≡ suc c.loop-at.at = omega arith in
    let rows = g.R.RowSet.rows in
    let direction = direction_of c.args.reverse in
    let at = c.loop-at.at in
    let sources = c.args.sources.now in
    let places = c.args.places.now in
    let before : Option Row = row_by (option_map (λ (h : ℕ × RowRef). h.1) c.loop-at.best) in
    let after : Option Row = sooner direction before (head_from direction (get_or places at 0) (rows c.index-sources-at.result)) in
    record {
      row =
          ap (λ (best : Option Row). soonest direction best (map rows (drop (at + 1) sources)) (drop (at + 1) places))
          (c.sooner_of-best.ensures.row ∙ ap (λ (o : Option Row). sooner direction before o) c.head.ensures)
          ∙ ap (λ (n : ℕ). soonest direction after (map rows (drop n sources)) (drop n places)) next
          ∙ sym (soonest-more direction rows before sources places at c.index-sources-at.result c.loop-at-test.true c.requires c.index-sources-at.is)
          ∙ c.loop-at.invariant.row;
      head =
          if-more {X = ℕ × RowRef} (λ h. (c.loop-at.best ≡ Some h) ⊎ ((h.0 ≡ at) × (c.head.result ≡ Some h.1)))
          (λ h. IsHead direction (map rows sources) places h.0 (row_of h.1)) c.sooner_of-best.result
          (λ h is which. elim which [
            | inl old ↦ subst (λ (o : Option (ℕ × RowRef)). IfSome o (λ h. IsHead direction (map rows sources) places h.0 (row_of h.1))) old c.loop-at.invariant.head
            | inr new ↦
                subst (λ (n : ℕ). IsHead direction (map rows sources) places n (row_of h.1)) (sym new.0)
                (head-at direction rows sources places at c.index-sources-at.result (row_of h.1) c.loop-at-test.true c.requires c.index-sources-at.is
                (sym c.head.ensures ∙ ap row_by new.1))
          ])
          c.sooner_of-best.ensures.from;
    }
