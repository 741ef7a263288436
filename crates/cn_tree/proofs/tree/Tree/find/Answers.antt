use Rattle.std.proofs.Common.{◌∙◌, ap, map}
use Rattle.cn_tree.specs.Path.{digits_by, path_of}
use Rattle.cn_tree.specs.Found.{said_row}
use Rattle.cn_tree.specs.Tree.{sets_on}
use Rattle.cn_tree.proofs.FoundLemmas.{first-lasting, digits-path}
use Rattle.cn_tree.proofs.tree.Tree.find.Goals as goal

pub first_on-requires : goal.first_on-requires
first_on-requires g c =
    c.digits_of.ensures ∙ ap digits_by c.route.ensures ∙ digits-path c.self.inside.prefix c.args.key.now
    ∙ ap (λ t. path_of t.prefix_length c.args.key.now) c.self.view_is

pub returns-in-None : goal.returns-in-None
returns-in-None g c = ap said_row c.in-None.ensures ∙ first-lasting c.args.key.now (map g.R.RowSet.rows (sets_on c.args.self.now c.args.key.now)) c.requires

pub returns-in-Some : goal.returns-in-Some
returns-in-Some g c = ap said_row c.in-Some.ensures ∙ first-lasting c.args.key.now (map g.R.RowSet.rows (sets_on c.args.self.now c.args.key.now)) c.requires
