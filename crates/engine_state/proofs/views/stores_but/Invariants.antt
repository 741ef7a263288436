use Rattle.std.proofs.Common.{◌≡◌, take}
use Rattle.engine_state.specs.Stores.{but}
use Rattle.engine_state.proofs.views.stores_but.Given as goal

-- so far the stores but that of the id are shared
abbrev pub invariant-loop-store : goal.invariant-loop-store
invariant-loop-store g l = l.kept.items ≡ but l.fn.id.0 (take l.store-index l.stores)
