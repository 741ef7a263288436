-- Which refusal of the machine each fault of a turn is.
use Rattle.std.specs.Prelude.{◌≡◌, ℕ, Option, Some}
use Rattle.hse_rows.specs.machine.Replies.{Refusal, store_exists, no_store, prefix_length, broken, too_many, spent, busy, manifest_full, store_held}
use Rattle.kvdb.specs.declared.turn.TurnFault.{TurnFault}
use Rattle.kvdb.specs.declared.turn.TurnFault.TheVariants as fault
use Rattle.kvdb.specs.Sides.{kind_as}

abbrev pub SaysTurn : TurnFault → Option (Refusal ℕ) → Type 0
SaysTurn fault.StoreExists refusal = refusal ≡ Some store_exists
SaysTurn fault.NoStore refusal = refusal ≡ Some no_store
SaysTurn (fault.PrefixLength given) refusal = refusal ≡ Some (prefix_length given)
SaysTurn fault.Broken refusal = refusal ≡ Some broken
SaysTurn (fault.StoreHeld order) refusal = refusal ≡ Some (store_held order)
SaysTurn (fault.TooMany most) refusal = refusal ≡ Some (too_many most)
SaysTurn fault.Spent refusal = refusal ≡ Some spent
SaysTurn (fault.Busy kind) refusal = refusal ≡ Some (busy (kind_as kind))
SaysTurn (fault.ManifestFull need room) refusal = refusal ≡ Some (manifest_full need room)
SaysTurn fault.NoMemory refusal = Unit {0}
