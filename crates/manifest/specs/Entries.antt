-- The entries of this crate, as the manifest's text has them.
use Rattle.manifest.specs.Text.{Entry, base, create, drop}
use Rattle.manifest.specs.Views.{metadata_as}
use Rattle.manifest.specs.declared.entry.Entry as declared
use Rattle.manifest.specs.declared.entry.Entry.TheVariants.{Base, Create, Drop}

abbrev pub entry_as : declared.Entry → Entry
entry_as (Base state) = base (metadata_as state)
entry_as (Create number name mode prefix) =
    create (record { id = number; name = name; mode = mode; prefix_length = prefix })
entry_as (Drop number store) = drop number store.0
