-- Cursors: a list of pairs that stays, and a position in it.
use Rattle.std.specs.Prelude.{ℕ, Bool, true, ◌&&◌, List, [], ◌∷◌, Option, Some, None, reverse}
use Rattle.std.specs.List.{filter}
use Rattle.std.specs.Ordering.{nat_cmp, is_le, is_ge, is_gt, ordering_reverse}
use Rattle.std.specs.declared.cmp.Ordering.{Ordering}
use Rattle.std.specs.Cmp.Lexicographic.{slice_cmp}
use Rattle.std.specs.FinMap as fin_map
use Rattle.hse_rows.specs.writes.Change.{covers}
use Rattle.hse_rows.specs.states.State.{Contents}

pub data Direction : Type 0 where
  forward : Direction
  backward : Direction

pub data Position : Type 0 where
  -- before all
  front : Position
  -- at a key, or where it would stand
  at_key : List ℕ → Position
  -- behind a key, or behind where it would stand
  past_key : List ℕ → Position

pub record CursorState : Type 0 where
  -- the begin order of the transaction that it was made in, or none
  pub owner : Option ℕ
  pub store : ℕ
  pub direction : Direction
  -- what its keys begin with
  pub prefix : List ℕ
  pub contents : Contents
  pub position : Position
  -- the last key of a range, where one was sought
  pub last : Option (List ℕ)

-- a key and its value
abbrev pub Pair : Type 0
Pair = List ℕ × List ℕ

abbrev pub directed : {X : Type 0} → Direction → List X → List X
directed forward xs = xs
directed backward xs = reverse xs

-- The pairs whose keys begin with the filter, in the cursor's direction.
abbrev pub list_of : CursorState → List Pair
list_of cursor =
    directed cursor.direction (filter (λ pair. covers cursor.prefix pair.0) (fin_map.entries cursor.contents))

-- how a key stands to another in a direction
abbrev pub direction_cmp : Direction → List ℕ → List ℕ → Ordering
direction_cmp forward key other = slice_cmp nat_cmp key other
direction_cmp backward key other = ordering_reverse (slice_cmp nat_cmp key other)

-- a key stands at or past a position
abbrev pub is_reached : Direction → Position → List ℕ → Bool
is_reached direction front key = true
is_reached direction (at_key at) key = is_ge (direction_cmp direction key at)
is_reached direction (past_key past) key = is_gt (direction_cmp direction key past)

-- a key is not greater than the last one
abbrev pub is_in_range : Option (List ℕ) → List ℕ → Bool
is_in_range None key = true
is_in_range (Some last) key = is_le (slice_cmp nat_cmp key last)

-- what is left of the list at the position
abbrev pub rest_of : CursorState → List Pair
rest_of cursor =
    filter (λ pair. is_reached cursor.direction cursor.position pair.0 && is_in_range cursor.last pair.0)
    (list_of cursor)

abbrev pub first_of : {X : Type 0} → List X → Option X
first_of [] = None
first_of (x ∷ xs) = Some x

-- A read gives the first pair of the rest.
abbrev pub read_by : CursorState → Option Pair
read_by cursor = first_of (rest_of cursor)

-- and the position is behind its key, or stays at the end
abbrev pub moved : CursorState → Option Pair → CursorState
moved cursor None = cursor
moved cursor (Some pair) = record cursor { position = past_key pair.0 }

abbrev pub after_read : CursorState → CursorState
after_read cursor = moved cursor (read_by cursor)

-- A seek sets the position and ends a range.
abbrev pub sought : CursorState → List ℕ → CursorState
sought cursor key = record cursor { position = at_key key; last = None }

-- A seek of a range sets its first and its last key.
abbrev pub sought_range : CursorState → List ℕ → List ℕ → CursorState
sought_range cursor first last = record cursor { position = at_key first; last = Some last }

abbrev pub key_by : Option Pair → Option (List ℕ)
key_by None = None
key_by (Some pair) = Some pair.0

-- Both answer the first key of the rest.
abbrev pub found_by : CursorState → Option (List ℕ)
found_by cursor = key_by (read_by cursor)

-- An update takes other contents and keeps position and range.
abbrev pub updated : CursorState → Contents → CursorState
updated cursor contents = record cursor { contents = contents }
