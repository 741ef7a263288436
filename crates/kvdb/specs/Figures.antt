-- An engine's figures, as the machine has them.
use Rattle.hse_rows.specs.machine.Replies.{Figures}
use Rattle.kvdb.specs.declared.figures.Info.{Info}

abbrev pub figures_as : Info → Figures
figures_as info = record {
  number = info.number;
  frozen = info.frozen;
  charge = info.charge;
  free = info.free;
  manifest = info.manifest;
}
