-- Changes of the one store, and what they make of its contents.
use Rattle.std.specs.Prelude.{ℕ, List, [], ◌∷◌}
use Rattle.std.specs.Ordering.{nat_cmp}
use Rattle.std.specs.Cmp.Lexicographic.{slice_cmp}
use Rattle.std.specs.FinMap as map

pub data Change : Type 0 where
  put : List ℕ → List ℕ → Change
  del : List ℕ → Change

-- from keys to values, the keys in byte order
abbrev pub Contents : Type 0
Contents = map.FinMap (slice_cmp nat_cmp) (List ℕ)

-- A put sets its key, a del removes it.
abbrev pub applied : Contents → Change → Contents
applied contents (put key value) = map.insert contents key value
applied contents (del key) = map.remove contents key

-- the contents after these changes, in order
abbrev pub after : Contents → List Change → Contents
after contents [] = contents
after contents (change ∷ changes) = after (applied contents change) changes
