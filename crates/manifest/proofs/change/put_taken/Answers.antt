use Rattle.std.proofs.Common.{refl}
use Rattle.std.proofs.lemmas.Result.{on_ok_weaker}
use Rattle.manifest.proofs.RunLemmas.{run_joined, run_added}
use Rattle.manifest.proofs.change.put_taken.Goals as goal

pub returns-then-may_join : goal.returns-then-may_join
returns-then-may_join c = on_ok_weaker c.put_run-then-may_join.result
    (λ is. run_joined c.args.taken.now.items c.pop.new.self.items c.put_run-then-may_join.new.taken.items c.in-Some.last _ c.args.number
    c.if-may_join.ensures refl refl c.in-Some.ensures.items is)
    c.put_run-then-may_join.ensures

pub returns : goal.returns
returns c = on_ok_weaker c.put_run-3.result
    (λ is. run_added c.args.taken.now.items c.pop.new.self.items c.put_run-2.new.taken.items c.put_run-3.new.taken.items c.in-Some.last _ c.args.number
    c.if-may_join.ensures refl refl c.in-Some.ensures.items c.in_ok-put_run.ensures is)
    c.put_run-3.ensures
