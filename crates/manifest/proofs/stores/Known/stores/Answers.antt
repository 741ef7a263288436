use Rattle.std.proofs.Common.{◌≡◌, ◌∙◌, ◌++◌, ◌∷◌, [], ap, arith}
use Rattle.std.proofs.lemmas.Result.{err_from_is_err_and}
use Rattle.std.proofs.lemmas.List.{map_push}
use Rattle.manifest.specs.Reading.{store_step, stores_of}
use Rattle.manifest.specs.Views.{store_as, stores_as}
use Rattle.hse_rows.specs.machine.TakenRuns.{runs_as}
use Rattle.manifest.proofs.ManyLemmas.{goes_on, stops, is_done}
use Rattle.manifest.proofs.StoreLemmas.{store_more, store_refused}
use Rattle.manifest.proofs.stores.Known.stores.Goals as goal

pub returns-in_err-store : goal.returns-in_err-store
returns-in_err-store c =
    let p = err_from_is_err_and c.from_residual.result c.from_residual.ensures.1 in
    let runs = runs_as c.args.self.taken.now in
    let step = store_step c.args.self.most c.args.self.horizon runs in
    rw (p.1, p.2) (stops c.in_err-store.field-0.0 step (stores_as c.loop-left.stores.items) c.loop-left.left c.loop-left.rest.now
    (stores_of c.args.self.most c.args.self.horizon runs c.args.count c.args.bytes.now) (omega (arith, c.loop-left-test.true))
    (store_refused c.in_err-store.field-0.0 c.args.self.most c.args.self.horizon runs (stores_as c.loop-left.stores.items) c.loop-left.rest.now
    (rw c.deref.ensures.value at c.in_err-store.ensures)) c.loop-left.invariant)

pub loop-left-preserved : goal.loop-left-preserved
loop-left-preserved c =
    let store = c.in_ok-store.store in
    let runs = runs_as c.args.self.taken.now in
    let step = store_step c.args.self.most c.args.self.horizon runs in
    let pushed : stores_as c.push.new.self.items ≡ stores_as c.loop-left.stores.items ++ store_as store ∷ [] =
    ap stores_as c.in_ok-push.ensures.items ∙ map_push store_as c.loop-left.stores.items store in
    rw pushed (goes_on step (stores_as c.loop-left.stores.items) _ c.loop-left.left c.loop-left.rest.now c.in_ok-store.behind.now
    (stores_of c.args.self.most c.args.self.horizon runs c.args.count c.args.bytes.now) (omega (arith, c.loop-left-test.true))
    (store_more c.args.self.most c.args.self.horizon runs (stores_as c.loop-left.stores.items) (store_as store) c.loop-left.rest.now c.in_ok-store.behind.now
    (rw c.deref.ensures.value at c.in_ok-store.ensures)) c.loop-left.invariant)

pub returns : goal.returns
returns c =
    is_done (store_step c.args.self.most c.args.self.horizon (runs_as c.args.self.taken.now)) (stores_as c.loop-left.stores.items) c.loop-left.left c.loop-left.rest.now
    (stores_of c.args.self.most c.args.self.horizon (runs_as c.args.self.taken.now) c.args.count c.args.bytes.now) (omega (arith, c.loop-left-test.false)) c.loop-left.invariant
