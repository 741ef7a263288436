use Rattle.std.proofs.Common.{◌≡◌, drop}
use Rattle.cn_tree.specs.Schedule.{is_claimed}
use Rattle.cn_tree.proofs.schedule.is_among.Given as goal

-- whether the path is among the rest says whether it is among all
abbrev pub invariant-loop-other : goal.invariant-loop-other
invariant-loop-other l = is_claimed (drop l.other-index l.claimed) l.fn.path ≡ is_claimed l.fn.claimed l.fn.path
