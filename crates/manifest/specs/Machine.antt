-- The machine's stores, as a manifest says them.
use Rattle.hse_rows.specs.states.State.{Store}
use Rattle.manifest.specs.Metadata.{LiveStore}

-- a store without what it holds
abbrev pub live_of : Store → LiveStore
live_of store =
    record { id = store.id; name = store.name; mode = store.mode; prefix_length = store.prefix_length }
