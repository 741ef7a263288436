use Rattle.std.proofs.Common.{◌≡◌, ℕ, ◌+◌, ◌==◌, suc, List, drop, not, sym, ap, ◌∙◌, arith}
use Rattle.hse_rows.specs.declared.change.ChangeRef.{ChangeRef}
use Rattle.hse_rows.specs.writes.Change.{change_of}
use Rattle.hse_rows.specs.writes.NormalForm.{rank}
use Rattle.hse_rows.specs.rows.RowSets.{row_of}
use Rattle.prefix_delete.specs.declared.entry.Entry.{Entry}
use Rattle.merge.specs.Deletes.{with_change, with_deletes}
use Rattle.merge.proofs.DeleteLemmas.{keys-rest, delete-more}
use Rattle.merge.proofs.prefixes.add_source.Goals as goal

pub returns-in-Put : goal.returns-in-Put
returns-in-Put g c =
    sym (keys-rest c.loop-at.list (g.R.RowSet.rows c.args.source.now) c.loop-at.at (row_of c.row-row.result) c.known.ensures.rising c.row-row.ensures
    (ap (λ (change : ChangeRef). not (rank (change_of change) == 0)) c.in-Put.is))
    ∙ c.loop-at.invariant

pub returns-in-Del : goal.returns-in-Del
returns-in-Del g c =
    sym (keys-rest c.loop-at.list (g.R.RowSet.rows c.args.source.now) c.loop-at.at (row_of c.row-row.result) c.known.ensures.rising c.row-row.ensures
    (ap (λ (change : ChangeRef). not (rank (change_of change) == 0)) c.in-Del.is))
    ∙ c.loop-at.invariant

pub loop-at-preserved : goal.loop-at-preserved
loop-at-preserved g c =
    let rows = g.R.RowSet.rows c.args.source.now in
    let next : c.loop-at.at + 1 ≡ suc c.loop-at.at = omega arith in
    ap (λ (list : List Entry). with_deletes list (drop (c.loop-at.at + 1) rows))
    (c.in_ok-add-in-PDel.ensures ∙ sym (ap (λ (change : ChangeRef). with_change c.loop-at.list c.row-row.result.number (change_of change)) c.in-PDel.is))
    ∙ ap (λ (n : ℕ). with_deletes (with_change c.loop-at.list c.row-row.result.number (change_of c.row-row.result.change)) (drop n rows)) next
    ∙ sym (delete-more c.loop-at.list rows c.loop-at.at (row_of c.row-row.result) c.row-row.ensures)
    ∙ c.loop-at.invariant
