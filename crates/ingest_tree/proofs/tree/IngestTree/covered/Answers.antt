use Rattle.std.proofs.Common.{◌≡◌, ℕ, ◌+◌, ◌≤◌, suc, length, List, ap, sym, ◌∙◌, subst, arith}
use Rattle.std.specs.List.{find}
use Rattle.std.specs.Option.{option_map}
use Rattle.std.specs.Ordering.{is_eq}
use Rattle.hse_rows.specs.declared.change.Change.TheVariants.{PDel}
use Rattle.hse_rows.specs.rows.Meaning.{greater}
use Rattle.ingest_tree.specs.declared.store_row.StoreRow.{StoreRow}
use Rattle.ingest_tree.specs.Rows.{row_numbered, store_row, store_row_cmp}
use Rattle.ingest_tree.specs.Covered.{covered_below}
use Rattle.ingest_tree.specs.Tree.{AreTreeRows}
use Rattle.ingest_tree.proofs.CoverLemmas.{covered-first, covered-last, covered-step}
use Rattle.ingest_tree.proofs.tree.IngestTree.covered.Goals as goal

pub loop-length-init : goal.loop-length-init
loop-length-init c =
    let lengths = c.self.inside.lengths in
    let rows = subst (AreTreeRows lengths.shortest lengths.longest) c.self.view_is c.self.invariant.rows in
    sym (covered-first c.args.store.0 c.args.key.now lengths.shortest lengths.longest c.args.self.now rows.in_use)

pub loop-length-preserved : goal.loop-length-preserved
loop-length-preserved c =
    let id = c.args.store.0 in
    let key = c.args.key.now in
    let rows = c.args.self.now in
    let n = c.loop-length.length in
    let less = c.loop-length-test.true in
    let short : n ≤ length key = omega (arith, less, c.min-end.ensures) in
    let next : suc n ≡ n + 1 = omega arith in
    c.greater-greatest.ensures
    ∙ (λ i. greater (c.loop-length.invariant i) (option_map (λ (r : StoreRow). r.row.number) (c.find-found.ensures.row i)))
    ∙ ap (λ (p : List ℕ). greater (covered_below id key n rows)
    (option_map (λ (r : StoreRow). r.row.number) (find (λ r. is_eq (store_row_cmp r (store_row (record { 0 = id }) (row_numbered 0 (PDel p))))) rows)))
    c.split_at.ensures.front
    ∙ sym (covered-step id key n short rows c.find-found.ensures.rising)
    ∙ ap (λ m. covered_below id key m rows) next

pub returns : goal.returns
returns c =
    let lengths = c.self.inside.lengths in
    let rows = subst (AreTreeRows lengths.shortest lengths.longest) c.self.view_is c.self.invariant.rows in
    let done = c.loop-length-test.false in
    c.loop-length.invariant
    ∙ covered-last c.args.store.0 c.args.key.now lengths.shortest lengths.longest c.loop-length.length c.args.self.now
    (omega (arith, done, c.min-end.ensures)) rows.in_use
