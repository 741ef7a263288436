use Rattle.set_build.proofs.PackerLemmas.{packs-nothing}
use Rattle.set_build.proofs.packer.Packer.new.Goals as goal

pub returns : goal.returns
returns c = packs-nothing c.args.slot c.args.values c.empty.result c.new.result c.new-2.result c.requires.large c.requires.small c.empty.ensures c.new.ensures.items c.new-2.ensures.items
