use Rattle.std.proofs.Common.{◌≡◌, ◌++◌, drop}
use Rattle.engine_state.proofs.views.frozen_of.Given as goal

-- what is shared and what is left are the frozen layers
abbrev pub invariant-loop-place : goal.invariant-loop-place
invariant-loop-place g l = l.frozen.items ++ drop l.place l.fn.view.layers ≡ drop 1 l.fn.view.layers
