use Rattle.std.proofs.Common.{◌≡◌, take}
use Rattle.view.specs.Commits.{with_writes}
use Rattle.engine_state.proofs.layers.layer_with.Given as goal

abbrev pub invariant-loop-place : goal.invariant-loop-place
invariant-loop-place l = l.tree ≡ with_writes l.number l.layer (take l.place l.writes)
