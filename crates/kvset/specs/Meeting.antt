-- The offsets of the values of each block, which a search for a value needs.
use Rattle.std.specs.Prelude.{◌≡◌, ℕ, List, map, Vec}
use Rattle.std.specs.Global.{Global}
use Rattle.vblock.specs.Places.{offsets_of}

abbrev pub lists_in : List (Vec ℕ Global) → List (List ℕ)
lists_in offsets = map (λ (list : Vec ℕ Global). list.items) offsets

abbrev pub IsIndexed : List (Vec ℕ Global) → List (List (List ℕ)) → Type 0
IsIndexed offsets values = lists_in offsets ≡ map offsets_of values
