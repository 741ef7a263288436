use Rattle.std.proofs.Common.{◌+◌, List, drop, sym, ap, ◌∙◌, arith}
use Rattle.std.proofs.lemmas.List.{at_drop_all}
use Rattle.wal.specs.Logged.{entries_of}
use Rattle.wal.specs.declared.commit.Commit.{Commit}
use Rattle.hse_shell.specs.Change.{Contents}
use Rattle.hse_shell.specs.Stored.{replayed}
use Rattle.hse_shell.proofs.ReplayLemmas.{replayed_more}
use Rattle.hse_shell.proofs.replay.rows_of.Goals as goal

pub loop-commit-init : goal.loop-commit-init
loop-commit-init c = ap (λ (rows : Contents). replayed rows (entries_of c.args.commits.now)) c.new-rows.ensures

pub loop-commit-preserved : goal.loop-commit-preserved
loop-commit-preserved c =
    let commits = c.args.commits.now in
    let more = replayed_more c.loop-commit.rows commits c.loop-commit.commit-index c.commit-item.result (omega arith) c.commit-item.is in
    ap (λ (rows : Contents). replayed rows (entries_of (drop (c.loop-commit.commit-index + 1) commits))) c.in_ok-apply_all.ensures
    ∙ sym more ∙ c.loop-commit.invariant

pub returns : goal.returns
returns c =
    sym (at_drop_all (λ (commits : List Commit). replayed c.loop-commit.rows (entries_of commits)) c.args.commits.now c.loop-commit.commit-index (omega arith))
    ∙ c.loop-commit.invariant
