use Rattle.set_build.proofs.SetForm.{set-formed}
use Rattle.set_build.proofs.PlaceLaws.{values-placed}
use Rattle.set_build.proofs.laws.packed_sets_are_read.Goals as goal

pub returns : goal.returns
returns c = record { formed = set-formed; placed = values-placed }
