-- The halves of writes that are done again.
use Rattle.std.specs.Prelude.{ℕ, ◌+◌, ◌≤◌, List, [], ◌∷◌, length}
use Rattle.media_disk.specs.Content.{put_at}
use Rattle.media_disk.specs.declared.tear.Half.{Half}

-- all halves are put on the bytes, the last one first
abbrev pub put_all : List Half → List ℕ → List ℕ
put_all [] bytes = bytes
put_all (half ∷ halves) bytes = put_at (put_all halves bytes) half.at half.bytes.items

-- each half lies within this many bytes
abbrev pub AllFit : ℕ → List Half → Type 0
AllFit n [] = Unit {0}
AllFit n (half ∷ halves) = (half.at + length half.bytes.items ≤ n) × AllFit n halves
