use Rattle.manifest.specs.Text.{drop}
use Rattle.back.proofs.back.Back.drop_store.Goals as goal

pub returns-clause-dropped : goal.returns-clause-dropped
returns-clause-dropped g c = λ told loaded commits number id rest turn.
    c.enter.ensures.entered told loaded commits (drop number id) rest turn

pub returns-clause-crash : goal.returns-clause-crash
returns-clause-crash g c = λ told loaded commits number id rest turn.
    c.enter.ensures.crash told loaded commits (drop number id) rest turn
