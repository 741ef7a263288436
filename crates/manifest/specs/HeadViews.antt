-- The head of a half, as contracts see it.
use Rattle.manifest.specs.Half.{Head, closed, open_head}
use Rattle.manifest.specs.declared.heads.Head as declared
use Rattle.manifest.specs.declared.heads.Head.TheVariants.{Closed, Open}

abbrev pub head_as : declared.Head → Head
head_as Closed = closed
head_as (Open sequence has_batch) = open_head sequence has_batch
