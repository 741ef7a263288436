use Rattle.std.proofs.Common.{◌≡◌, ◌∙◌, ◌++◌, ◌∷◌, [], Option, Some, None, ap, sym, subst}
use Rattle.std.proofs.lemmas.Result.{err_from_is_err_and}
use Rattle.std.proofs.lemmas.List.{map_push}
use Rattle.hse_fields.specs.LogText.{Change}
use Rattle.hse_fields.specs.LogReading.{change_of, more_changes_of}
use Rattle.wal.specs.Given.{Fails}
use Rattle.wal.specs.Live.{prefix_fits}
use Rattle.wal.specs.Logged.{logged, logged_all}
use Rattle.wal.proofs.ChangesLoop.{end_of, end_of-push, end_is, goes_on, stops, is_done}
use Rattle.wal.proofs.reader.Reader.writes.Goals as goal

pub returns-in_err-write : goal.returns-in_err-write
returns-in_err-write c =
    let p = err_from_is_err_and c.from_residual.result c.from_residual.ensures.1 in
    let last = end_is c.last.result c.deref.result.now c.loop.writes.items c.last.ensures.value c.deref.ensures.value in
    let failed = subst (λ (o : Option Change). Fails c.in_err-write.field-0.0 (change_of (prefix_fits c.args.self.live.now) c.args.self.most o c.loop.rest.now)) last c.in_err-write.ensures in
    rw (p.1, p.2) (stops c.in_err-write.field-0.0 (prefix_fits c.args.self.live.now) c.args.self.most (logged_all c.loop.writes.items) (end_of c.loop.writes.items) c.args.count c.loop.counter c.loop.rest.now (more_changes_of (prefix_fits c.args.self.live.now) c.args.self.most None c.args.count c.args.self.bytes.now) c.loop-test.true failed c.loop.invariant)

pub loop-preserved : goal.loop-preserved
loop-preserved c =
    let w = c.in_ok-write.write in
    let last = end_is c.last.result c.deref.result.now c.loop.writes.items c.last.ensures.value c.deref.ensures.value in
    let read = ap (λ (o : Option Change). change_of (prefix_fits c.args.self.live.now) c.args.self.most o c.loop.rest.now) (sym last) ∙ c.in_ok-write.ensures in
    let pushed : logged_all c.push.new.self.items ≡ logged_all c.loop.writes.items ++ logged w ∷ [] =
    ap logged_all c.in_ok-push.ensures.items ∙ map_push logged c.loop.writes.items w in
    let end : end_of c.push.new.self.items ≡ Some (logged w) = ap end_of c.in_ok-push.ensures.items ∙ end_of-push c.loop.writes.items w in
    rw (pushed, end)
    (goes_on (prefix_fits c.args.self.live.now) c.args.self.most (logged_all c.loop.writes.items) (end_of c.loop.writes.items) c.args.count c.loop.counter c.loop.rest.now (logged w) c.in_ok-write.behind.now (more_changes_of (prefix_fits c.args.self.live.now) c.args.self.most None c.args.count c.args.self.bytes.now) c.loop-test.true read c.loop.invariant)

pub returns : goal.returns
returns c =
    is_done (prefix_fits c.args.self.live.now) c.args.self.most (logged_all c.loop.writes.items) (end_of c.loop.writes.items) c.args.count c.loop.counter c.loop.rest.now (more_changes_of (prefix_fits c.args.self.live.now) c.args.self.most None c.args.count c.args.self.bytes.now) c.loop-test.false c.loop.invariant
