-- Which writes overlap: those of one store that may meet at a key.
use Rattle.std.specs.Prelude.{◌==◌, Bool, ◌&&◌, ◌||◌, List}
use Rattle.std.specs.List.{list_any}
use Rattle.hse_rows.specs.declared.change.Change.{Change}
use Rattle.hse_rows.specs.declared.change.Change.TheVariants.{Put, Del, PDel}
use Rattle.hse_rows.specs.declared.write.Write.{Write}
use Rattle.hse_rows.specs.writes.Change.{covers}
use Rattle.hse_rows.specs.writes.Reach.{reaches}

-- The same key, or a prefix of one that covers the key of the other, or two prefixes of which one begins with the other.
abbrev pub meets : Change → Change → Bool
meets one (Put key bytes) = reaches one key
meets one (Del key) = reaches one key
meets (Put key bytes) (PDel prefix) = covers prefix key
meets (Del key) (PDel prefix) = covers prefix key
meets (PDel one) (PDel other) = covers one other || covers other one

-- Two writes overlap where they are of one store and their changes meet.
abbrev pub overlaps : Write → Write → Bool
overlaps one other = (one.store.0 == other.store.0) && meets one.change other.change

-- the write overlaps one of these
abbrev pub overlaps_some : Write → List Write → Bool
overlaps_some write writes = list_any (overlaps write) writes
