use Rattle.back.proofs.TurnLemmas.{some_commits}
use Rattle.back.proofs.back.Back.commit.Goals as goal

pub returns-in-Some-clause-crash : goal.returns-in-Some-clause-crash
returns-in-Some-clause-crash g c = λ told loaded commits rest may is.
    let given = rw c.in-Some.is at is in
    c.sync.ensures.crash told loaded commits rest (some_commits loaded commits given.1 may) given.0
