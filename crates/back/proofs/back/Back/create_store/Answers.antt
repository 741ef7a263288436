use Rattle.manifest.specs.Text.{create}
use Rattle.back.proofs.back.Back.create_store.Goals as goal

pub returns-clause-created : goal.returns-clause-created
returns-clause-created g c = λ told loaded commits store rest turn.
    c.enter.ensures.entered told loaded commits (create store) rest turn

pub returns-clause-crash : goal.returns-clause-crash
returns-clause-crash g c = λ told loaded commits store rest turn.
    c.enter.ensures.crash told loaded commits (create store) rest turn
