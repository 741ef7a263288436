use Rattle.gate_log.specs.laws.OneReading.{one_gated, one_place, gated_not_closed, damaged_not_closed, gated_not_damaged}
use Rattle.gate_log.specs.laws.OneFront.{same_fronts}
use Rattle.gate_log.proofs.laws.regions_have_one_reading.Goals as goal

pub returns-clause-gated : goal.returns-clause-gated
returns-clause-gated c = one_gated

pub returns-clause-damaged : goal.returns-clause-damaged
returns-clause-damaged c = one_place

pub returns-clause-gated_not_closed : goal.returns-clause-gated_not_closed
returns-clause-gated_not_closed c = gated_not_closed

pub returns-clause-damaged_not_closed : goal.returns-clause-damaged_not_closed
returns-clause-damaged_not_closed c = damaged_not_closed

pub returns-clause-gated_not_damaged : goal.returns-clause-gated_not_damaged
returns-clause-gated_not_damaged c = gated_not_damaged

pub returns-clause-fronts : goal.returns-clause-fronts
returns-clause-fronts c = same_fronts
