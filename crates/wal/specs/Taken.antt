-- What the numbers of entries are that follow one another, where some numbers are taken.
use Rattle.std.specs.Prelude.{◌≡◌, ◌≢◌, ◌⊎◌, ℕ, ◌+◌, ◌<◌, ◌≤◌, List, ◌++◌, map}
use Rattle.std.specs.List.{All, Contains}
use Rattle.std.specs.List.Sorted.{IsStrictlyIncreasing}
use Rattle.hse_fields.specs.LogText.{Entry}
use Rattle.wal.specs.Charges.{charges}
use Rattle.wal.specs.Numbering.{Numbers, free_from, taken_from, last_number}

-- the numbers of entries
abbrev pub numbers_of : List Entry → List ℕ
numbers_of entries = map (λ (e : Entry). e.number) entries

-- more numbers are taken, behind those that are
abbrev pub with_taken : Numbers → List ℕ → Numbers
with_taken state more = record { next = state.next; taken = state.taken ++ more; room = state.room }

-- each number from the least one up to this one is taken, or is one of these
abbrev pub NoneFree : ℕ → List ℕ → List ℕ → ℕ → Type 0
NoneFree least taken numbers number = (n : ℕ) → least ≤ n → n < number → Contains taken n ⊎ Contains numbers n

-- from two starts the same number comes first, the same numbers behind it are taken, and there is the same room
pub record StartsAlike (one other : Numbers) : Type 0 where
  pub first : free_from one.next one.taken ≡ free_from other.next other.taken
  pub behind : taken_from one.next one.taken ≡ taken_from other.next other.taken
  pub room : one.room ≡ other.room

-- The entries take of the room what they are charged, and their numbers rise strictly: from the least number that may come,
-- past the taken ones, to below the next one. None is skipped that is not taken.
pub record FollowsNumbers (state : Numbers) (entries : List Entry) (last : Numbers) : Type 0 where
  pub charged : charges entries + last.room ≡ state.room
  pub rising : IsStrictlyIncreasing (numbers_of entries)
  pub untaken : All (λ (number : ℕ). All (λ (t : ℕ). t ≢ number) state.taken) (numbers_of entries)
  pub least : All (λ (number : ℕ). state.next ≤ number) (numbers_of entries)
  pub below : All (λ (number : ℕ). number < last.next) (numbers_of entries)
  pub grows : state.next ≤ last.next
  pub full : All (λ (number : ℕ). NoneFree state.next state.taken (numbers_of entries) number) (numbers_of entries)
  pub full_behind : NoneFree state.next state.taken (numbers_of entries) last.next

-- What numbers may have that are to follow one another, and what may be charged: they rise strictly from the least number that
-- may come, past the taken ones, up to the greatest number of a history, and none is skipped that is not taken.
pub record MayFollow (state : Numbers) (entries : List Entry) : Type 0 where
  pub rising : IsStrictlyIncreasing (numbers_of entries)
  pub untaken : All (λ (number : ℕ). All (λ (t : ℕ). t ≢ number) state.taken) (numbers_of entries)
  pub least : All (λ (number : ℕ). state.next ≤ number) (numbers_of entries)
  pub full : All (λ (number : ℕ). NoneFree state.next state.taken (numbers_of entries) number) (numbers_of entries)
  pub small : All (λ (number : ℕ). number ≤ last_number) (numbers_of entries)
  pub fits : charges entries ≤ state.room
