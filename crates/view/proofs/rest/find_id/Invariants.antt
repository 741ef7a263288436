use Rattle.std.proofs.Common.{◌≡◌, ◌==◌, drop}
use Rattle.std.specs.List.{find}
use Rattle.view.specs.declared.view_store.ViewStore.{ViewStore}
use Rattle.view.proofs.rest.find_id.Given as goal

-- the rest of the stores answers as all of them
abbrev pub invariant-loop-store : goal.invariant-loop-store
invariant-loop-store g l =
    find (λ (s : ViewStore g.row.R.Denot). s.id.0 == l.fn.id.0) (drop l.store-index l.stores)
    ≡ find (λ (s : ViewStore g.row.R.Denot). s.id.0 == l.fn.id.0) l.fn.stores
