use Rattle.std.proofs.Common.{arith}
use Rattle.hse_rows.proofs.write_set.WriteSet.charge_with.Goals as goal

pub overflow_add-result : goal.overflow_add-result
overflow_add-result c = omega (arith, c.bytes_with.ensures, c.requires)

pub overflow_cast-result : goal.overflow_cast-result
overflow_cast-result c = omega (arith, c.bytes_with.ensures, c.requires)

pub returns : goal.returns
returns c = omega (arith, c.bytes_with.ensures)
