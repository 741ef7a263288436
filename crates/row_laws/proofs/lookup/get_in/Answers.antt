use Rattle.std.proofs.Common.{◌∙◌, sym, ap, map}
use Rattle.hse_rows.specs.rows.Meaning.{value_said}
use Rattle.row_laws.proofs.SourceLemmas.{first-decides}
use Rattle.row_laws.proofs.lookup.get_in.Goals as goal

pub returns-in-Nothing : goal.returns-in-Nothing
returns-in-Nothing g c =
    ap value_said c.in-Nothing.ensures
    ∙ sym (first-decides c.args.key.now (map g.R.RowSet.rows c.args.sources.now) c.requires)

pub returns-in-Absent : goal.returns-in-Absent
returns-in-Absent g c =
    ap value_said c.in-Absent.ensures
    ∙ sym (first-decides c.args.key.now (map g.R.RowSet.rows c.args.sources.now) c.requires)

pub returns-in-Value : goal.returns-in-Value
returns-in-Value g c =
    ap value_said c.in-Value.ensures
    ∙ sym (first-decides c.args.key.now (map g.R.RowSet.rows c.args.sources.now) c.requires)
