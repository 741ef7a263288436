use Rattle.std.proofs.Common.{arith}
use Rattle.std.proofs.lemmas.Option.{slice_get_within}
use Rattle.hse_rows.specs.rows.RowSets.{row_of}
use Rattle.merge.proofs.PastLemmas.{row-source, row-index, row-made}
use Rattle.merge.proofs.merged.row_in.Goals as goal

pub bounds-sources-source : goal.bounds-sources-source
bounds-sources-source g c = row-source g.R.RowSet.rows c.args.sources.now c.args.source c.args.at c.requires.0 c.requires.1

pub offset_bounds-sources-source : goal.offset_bounds-sources-source
offset_bounds-sources-source g c =
    let within = row-source g.R.RowSet.rows c.args.sources.now c.args.source c.args.at c.requires.0 c.requires.1 in
    omega (arith, within)

pub row-requires : goal.row-requires
row-requires g c =
    slice_get_within (g.R.RowSet.rows c.index-sources-source.result) c.args.at c.requires.0
    (row-index g.R.RowSet.rows c.args.sources.now c.args.source c.args.at c.requires.0 c.index-sources-source.result c.requires.1 c.index-sources-source.is)

pub returns-clause-row : goal.returns-clause-row
returns-clause-row g c =
    row-made g.R.RowSet.rows c.args.sources.now c.args.source c.args.at (row_of c.row.result) c.index-sources-source.result
    (row-source g.R.RowSet.rows c.args.sources.now c.args.source c.args.at c.requires.0 c.requires.1)
    c.index-sources-source.is c.row.ensures
