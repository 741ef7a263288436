use Rattle.std.proofs.Common.{arith}
use Rattle.kvset.proofs.meeting.test_part.Goals as goal

pub overflow_add-result-then-not-is_met : goal.overflow_add-result-then-not-is_met
overflow_add-result-then-not-is_met c = omega (arith, c.in-Some.ensures.within)
