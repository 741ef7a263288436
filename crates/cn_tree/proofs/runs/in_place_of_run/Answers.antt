use Rattle.cn_tree.specs.Tree.{set_list}
use Rattle.cn_tree.proofs.RunLemmas.{run-made}
use Rattle.cn_tree.proofs.runs.in_place_of_run.Goals as goal

pub returns-clause-made : goal.returns-clause-made
returns-clause-made g c =
    run-made c.args.sets.now c.in_ok-front.front.now c.in_ok-front.behind.now c.args.below c.args.length
    c.add_shares.new.into.items c.in_ok-new.new.items c.add_set.new.into.items (set_list c.args.set)
    c.in_ok-front.ensures.front c.in_ok-front.ensures.behind c.in_ok-new.ensures c.in_ok-add_set.ensures c.in_ok-add_shares.ensures
