use Rattle.manifest.specs.laws.OneManifest.{one_held, one_refusal, not_refused}
use Rattle.manifest.proofs.EachImage.{each_image}
use Rattle.manifest.proofs.laws.manifests_have_one_reading.Goals as goal

pub returns-clause-held : goal.returns-clause-held
returns-clause-held c = one_held

pub returns-clause-refused : goal.returns-clause-refused
returns-clause-refused c = one_refusal

pub returns-clause-apart : goal.returns-clause-apart
returns-clause-apart c = not_refused

pub returns-clause-each : goal.returns-clause-each
returns-clause-each c = each_image
