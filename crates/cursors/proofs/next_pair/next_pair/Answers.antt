use Rattle.std.proofs.Common.{Some, None, sym, ap, ◌∙◌}
use Rattle.std.specs.Ordering.{is_ge}
use Rattle.hse_rows.specs.writes.Change.{target}
use Rattle.hse_rows.specs.script.Cursor.{direction_cmp}
use Rattle.hse_rows.specs.rows.RowSets.{row_of}
use Rattle.cursors.specs.Pairs.{is_asked}
use Rattle.cursors.proofs.StepLemmas.{reads-none, reads-end, goes-pair, goes-over}
use Rattle.cursors.proofs.next_pair.next_pair.Goals as goal

pub returns-in-Pair-clause-sources : goal.returns-in-Pair-clause-sources
returns-in-Pair-clause-sources g c =
    (c.in-Some.ensures.goes (Some (row_of c.row.result)) c.row.ensures.row).sources ∙ c.loop-source.invariant.sources

pub returns-in-Pair-clause-pair : goal.returns-in-Pair-clause-pair
returns-in-Pair-clause-pair g c =
    let row = row_of c.row.result in
    λ cursor way filter last start.
    let ahead = c.loop-source.invariant.ahead cursor way filter last start in
    goes-pair c.merged_rows_are_entries.ensures.values cursor c.loop-source.merged ahead row
    (c.in-Some.ensures.row (Some row) c.row.ensures.row) c.advance.new.self (c.in-Some.ensures.goes (Some row) c.row.ensures.row)
    c.in-Some.source c.in-Some.at c.row.ensures.row c.in-Pair.ensures.0
    ((λ i. is_asked (filter i) (last i) (target row.change)) ∙ c.in-Pair.ensures.1)

pub loop-source-preserved : goal.loop-source-preserved
loop-source-preserved g c =
    let row = row_of c.row.result in
    let moves = c.in-Some.ensures.goes (Some row) c.row.ensures.row in
    record {
      sources = moves.sources ∙ c.loop-source.invariant.sources;
      ahead = λ cursor way filter last start.
          let ahead = c.loop-source.invariant.ahead cursor way filter last start in
          goes-over c.merged_rows_are_entries.ensures.values cursor c.loop-source.merged ahead row
          (c.in-Some.ensures.row (Some row) c.row.ensures.row) c.advance.new.self moves
          (λ asks. c.in-Gap.ensures (sym (λ i. is_asked (filter i) (last i) (target row.change)) ∙ asks));
    }

pub returns-in-End-clause-sources : goal.returns-in-End-clause-sources
returns-in-End-clause-sources g c =
    (c.in-Some.ensures.goes (Some (row_of c.row.result)) c.row.ensures.row).sources ∙ c.loop-source.invariant.sources

pub returns-in-End-clause-pair : goal.returns-in-End-clause-pair
returns-in-End-clause-pair g c =
    let row = row_of c.row.result in
    λ cursor way filter last start.
    let ahead = c.loop-source.invariant.ahead cursor way filter last start in
    reads-end c.merged_rows_are_entries.ensures.values cursor c.loop-source.merged ahead row
    (c.in-Some.ensures.row (Some row) c.row.ensures.row)
    (λ key up.
    (λ i. is_asked (filter i) (last i) key)
    ∙ c.in-End.ensures key (ap (λ d. is_ge (direction_cmp d key (target row.change))) (sym way) ∙ up))

pub returns-clause-sources : goal.returns-clause-sources
returns-clause-sources g c = (c.in_default.ensures.goes None tt).sources ∙ c.loop-source.invariant.sources

pub returns-clause-pair : goal.returns-clause-pair
returns-clause-pair g c =
    λ cursor way filter last start.
    reads-none c.merged_rows_are_entries.ensures.values cursor c.loop-source.merged
    (c.loop-source.invariant.ahead cursor way filter last start) (c.in_default.ensures.row None tt)
