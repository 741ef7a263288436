-- What readers of blocks give is what reading gives on lists.
use Rattle.std.specs.Prelude.{◌≡◌, ℕ, List, Option, Some, None, Result, Ok, Err}
use denote.Ref.{Bor}
use Rattle.hse_fields.specs.declared.block.Left.{Left}
use Rattle.hse_fields.specs.declared.block.Damaged.{Damaged}

-- a block that is damaged at this place
abbrev pub damaged : ℕ → Damaged
damaged place = record { 0 = place }

-- bytes that are lent
abbrev pub lent : Option (Bor (List ℕ)) → Option (List ℕ)
lent (Some bytes) = Some bytes.now
lent None = None

-- a reader of fields, whose result is seen by view
abbrev pub Gives : {X Y : Type 0} → (X → Y) → Result X Left → Result Y ℕ → Type 0
Gives view (Ok x) read = read ≡ Ok (view x)
Gives view (Err refusal) read = read ≡ Err refusal.left

-- a reader of a header or of a block, whose refusals are places
abbrev pub Tells : {X Y : Type 0} → (X → Y) → Result X Damaged → Result Y ℕ → Type 0
Tells view (Ok x) read = read ≡ Ok (view x)
Tells view (Err damage) read = read ≡ Err damage.0
