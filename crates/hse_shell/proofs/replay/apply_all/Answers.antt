use Rattle.std.proofs.Common.{◌+◌, List, drop, refl, sym, ap, ◌∙◌, arith}
use Rattle.std.proofs.lemmas.List.{at_drop_all}
use Rattle.hse_rows.specs.writes.Change.{change_of, write_of}
use Rattle.hse_rows.specs.declared.write.Write.{Write}
use Rattle.wal.specs.Logged.{logged_all}
use Rattle.hse_shell.specs.Change.{Contents}
use Rattle.hse_shell.specs.Stored.{changed_all}
use Rattle.hse_shell.proofs.ReplayLemmas.{changed_more}
use Rattle.hse_shell.proofs.replay.apply_all.Goals as goal

pub loop-place-init : goal.loop-place-init
loop-place-init c = refl

pub loop-place-preserved : goal.loop-place-preserved
loop-place-preserved c =
    let writes = c.args.writes.now in
    let more = changed_more c.loop-place.rows writes c.loop-place.place (write_of c.at.result.0 (change_of c.at.result.1)) (omega arith) c.at.ensures.write in
    ap (λ (rows : Contents). changed_all rows (logged_all (drop (c.loop-place.place + 1) writes))) c.in_ok-apply.ensures
    ∙ sym more ∙ c.loop-place.invariant

pub returns : goal.returns
returns c =
    sym (at_drop_all (λ (writes : List Write). changed_all c.loop-place.rows (logged_all writes)) c.args.writes.now c.loop-place.place (omega arith))
    ∙ c.loop-place.invariant
