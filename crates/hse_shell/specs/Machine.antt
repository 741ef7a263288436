-- The snapshot machine: what the lines of a script do, a step a line.
use Rattle.std.specs.Prelude.{◌≡◌, ℕ, ◌+◌, ◌-◌, nat_lt, if◌then◌else◌, List, [], ◌∷◌, ◌++◌, length, take, drop, Option, Some, None}
use Rattle.std.specs.FinMap as map
use Rattle.hse_shell.specs.Base.{Base}
use Rattle.hse_shell.specs.Change.{Change, put, del, Contents, after}
use Rattle.hse_shell.specs.Grammar.{Meaning, puts, dels, gets, syncs, silent, unknown}
use Rattle.hse_shell.specs.LogText.{charge_of, charges_of}
use Rattle.hse_shell.specs.Replies.{Answer, no_reply, ok, value, none, bad_line, no_memory, key_length, log_full}

-- A state of the machine: the base that it began with, the commits since in order, each of one change, how many of
-- them are safe, and the numbers of its marks, first the base's.
pub record Machine : Type 0 where
  pub base : Base
  pub history : List Change
  pub synced : ℕ
  pub marked : List ℕ

-- the state before any commit
abbrev pub opening : Base → Machine
opening base = record { base = base; history = []; synced = 0; marked = base.number ∷ [] }

-- the last number of the history
abbrev pub number_of : Machine → ℕ
number_of m = m.base.number + length m.history

-- what the store holds now
abbrev pub contents_of : Machine → Contents
contents_of m = after m.base.contents m.history

-- what all commits take of the log's room
abbrev pub charges_until : Machine → ℕ
charges_until m = m.base.charges + charges_of m.history

-- what a device stores that has so many of the commits
abbrev pub base_at : Machine → ℕ → Base
base_at m count = record {
  number = m.base.number + count;
  contents = after m.base.contents (take count m.history);
  charges = m.base.charges + charges_of (take count m.history);
}

-- the most bytes that a key has
abbrev pub longest_key : ℕ
longest_key = 1344

-- the most that the charges of all commits sum to, the base's too
abbrev pub room : ℕ
room = 4194240

abbrev pub room_left : Machine → ℕ
room_left m = room - charges_until m

-- a key's length outside the limit
abbrev pub key_refusal : List ℕ → Option Answer → Option Answer
key_refusal key otherwise = if nat_lt longest_key (length key) then Some (key_length (length key)) else otherwise

-- a change that the log has no room for
abbrev pub log_refusal : Machine → Change → Option Answer
log_refusal m change =
    if nat_lt (room_left m) (charge_of change) then Some (log_full (charge_of change) (room_left m)) else None

-- The first refusal of a line in the order of the table, where there is one.
abbrev pub refusal : Machine → Meaning → Option Answer
refusal m (puts key bytes) = key_refusal key (log_refusal m (put key bytes))
refusal m (dels key) = key_refusal key (log_refusal m (del key))
refusal m (gets key) = key_refusal key None
refusal m syncs = None
refusal m silent = None
refusal m unknown = Some bad_line

-- the state with one commit more
abbrev pub committed : Machine → Change → Machine
committed m change = record { base = m.base; history = m.history ++ change ∷ []; synced = m.synced; marked = m.marked }

-- the state once all commits are safe
abbrev pub flushed : Machine → Machine
flushed m = record { base = m.base; history = m.history; synced = length m.history; marked = m.marked }

-- the state once all is marked as safe
abbrev pub noted : Machine → Machine
noted m = record { base = m.base; history = m.history; synced = m.synced; marked = m.marked ++ number_of m ∷ [] }

-- the state after a finished sync
abbrev pub all_synced : Machine → Machine
all_synced m = noted (flushed m)

-- From old a line may get this answer, and lead to new.
abbrev pub Step : Machine → Meaning → Answer → Machine → Type 0
-- a silent line has no reply and changes nothing, and any other line has one
Step old silent no_reply new = new ≡ old
Step old silent answer new = ⊥
Step old line no_reply new = ⊥
-- any line with a reply may be refused memory, and then changes nothing
Step old line no_memory new = new ≡ old
Step old (puts key bytes) (ok number) new =
    (refusal old (puts key bytes) ≡ None) × (number ≡ number_of old + 1) × (new ≡ committed old (put key bytes))
Step old (dels key) (ok number) new =
    (refusal old (dels key) ≡ None) × (number ≡ number_of old + 1) × (new ≡ committed old (del key))
Step old (gets key) (value bytes) new =
    (refusal old (gets key) ≡ None) × (map.get (contents_of old) key ≡ Some bytes) × (new ≡ old)
Step old (gets key) none new =
    (refusal old (gets key) ≡ None) × (map.get (contents_of old) key ≡ None) × (new ≡ old)
Step old syncs (ok number) new = (number ≡ number_of old) × (new ≡ all_synced old)
-- any other answer is the line's refusal, and changes nothing
Step old line answer new = (refusal old line ≡ Some answer) × (new ≡ old)

-- where a line with this answer leads
abbrev pub led_to : Machine → Meaning → Answer → Machine
led_to m (puts key bytes) (ok number) = committed m (put key bytes)
led_to m (dels key) (ok number) = committed m (del key)
led_to m syncs (ok number) = all_synced m
led_to m line answer = m

-- the commits since the last finished sync
abbrev pub unsynced : Machine → List Change
unsynced m = drop m.synced m.history
