-- Pieces of bytes, as slices.
use Rattle.std.specs.Prelude.{ℕ, List, flat_map}
use denote.Ref.{Bor}

-- the pieces, one after another
abbrev pub joined : List (Bor (List ℕ)) → List ℕ
joined pieces = flat_map (λ piece. piece.now) pieces
