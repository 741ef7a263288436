use Rattle.back.specs.Steps.{with_commits}
use Rattle.back.proofs.TurnLemmas.{both_leave, first_leaves, still_planned}
use Rattle.back.proofs.back.Back.enter.Goals as goal

pub returns-in_err-commit-clause-crash : goal.returns-in_err-commit-clause-crash
returns-in_err-commit-clause-crash g c = λ told loaded commits entry rest turn.
    first_leaves g.D.Device loaded commits entry c.args.self.now.disk c.commit.new.self.disk
    (c.commit.ensures.crash told loaded commits rest turn.commits_may turn.batch_is)

pub returns-clause-entered : goal.returns-clause-entered
returns-clause-entered g c = λ told loaded commits entry rest turn.
    c.write_entry.ensures.entered told (with_commits loaded commits) entry
    (c.in_ok-commit.ensures.synced told loaded commits rest turn.commits_may turn.batch_is) turn.entry_may
    (still_planned c.args.self.now.manifest c.commit.new.self.manifest loaded commits entry c.args.plan.now c.commit.ensures.parts.1 turn.planned)

pub returns-clause-crash : goal.returns-clause-crash
returns-clause-crash g c = λ told loaded commits entry rest turn.
    both_leave g.D.Device loaded commits entry c.args.self.now.disk c.commit.new.self.disk c.write_entry.new.self.disk
    c.commit.ensures.calls.forward
    (c.commit.ensures.crash told loaded commits rest turn.commits_may turn.batch_is)
    (c.write_entry.ensures.crash told (with_commits loaded commits) entry
    (c.in_ok-commit.ensures.synced told loaded commits rest turn.commits_may turn.batch_is) turn.entry_may
    (still_planned c.args.self.now.manifest c.commit.new.self.manifest loaded commits entry c.args.plan.now c.commit.ensures.parts.1 turn.planned))
