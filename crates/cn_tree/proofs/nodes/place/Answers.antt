use Rattle.std.proofs.Common.{rules, []}
use Rattle.std.proofs.lemmas.Fn.{always_returns_same}
use Rattle.cn_tree.specs.Tree.{path_cmp, node_of}
use Rattle.cn_tree.proofs.nodes.place.Goals as goal

pub returns-clause-position : goal.returns-clause-position
returns-clause-position g c =
    c.binary_search_by.ensures.position (λ node. path_cmp node (node_of c.args.path.now []))
    (always_returns_same _ _ _ (λ a r f' k. search rules))
