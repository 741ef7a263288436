-- The words of a line.
use Rattle.std.specs.Prelude.{◌≡◌, ℕ, ◌^◌, ◌<◌, List, ◌++◌, ◌⊎◌, codes, decimal, Bool, true, false, ◌&&◌, not, nat_le, eqb, length, Ok, IsTrue}
use Rattle.std.specs.List.{join_with_byte, list_all, starts_with}
use Rattle.hex.specs.Hex.{decode_of}
use Rattle.shell_text.specs.declared.line.Actor.{Actor}
use Rattle.shell_text.specs.declared.line.Actor.TheVariants.{At, Name}
use Rattle.hse_rows.specs.writes.Names.{IsName}
use Rattle.hse_rows.specs.declared.store.Mode.{Mode}
use Rattle.hse_rows.specs.declared.store.Mode.TheVariants.{Plain, Tx}

-- the words, with one space between each two
abbrev pub spaced : List (List ℕ) → List ℕ
spaced words = join_with_byte 32 words

-- a byte from ! to ~
abbrev pub is_printable : ℕ → Bool
is_printable byte = nat_le 33 byte && nat_le byte 126

-- The bytes stand for themselves: there is one at least, each is printable, and they do not begin as
-- hexadecimal digits do.
abbrev pub is_plain : List ℕ → Bool
is_plain bytes =
    nat_le 1 (length bytes)
    && (list_all is_printable bytes && not (starts_with eqb bytes (codes "x:")))

-- the word is x: and an even number of hexadecimal digits of either case, which say these bytes
abbrev pub IsHexed : List ℕ → List ℕ → Type 0
IsHexed word bytes =
    (digits : List ℕ) × ((word ≡ codes "x:" ++ digits) × (decode_of digits ≡ Ok bytes))

-- the word is an item that stands for these bytes
abbrev pub IsItem : List ℕ → List ℕ → Type 0
IsItem word bytes = (IsTrue (is_plain word) × (bytes ≡ word)) ⊎ IsHexed word bytes

-- the word for a store's mode
abbrev pub mode_word : Mode → List ℕ
mode_word Plain = codes "plain"
mode_word Tx = codes "tx"

-- the word for a direction, where true is reverse
abbrev pub direction_word : Bool → List ℕ
direction_word false = codes "fwd"
direction_word true = codes "rev"

-- the word is this name
abbrev pub IsNameWord : List ℕ → List ℕ → Type 0
IsNameWord word name = (word ≡ name) × IsName name

-- the word says who reads or writes
abbrev pub IsActor : List ℕ → Actor → Type 0
IsActor word At = word ≡ codes "@"
IsActor word (Name name) = IsNameWord word name

-- the word is this number, with no sign and no leading zero
abbrev pub IsNumber : List ℕ → ℕ → Type 0
IsNumber word number = (word ≡ decimal number) × (number < 2 ^ 64)

-- what a word of a line stands for
pub data Word : Type 0 where
  -- no word stands for it
  no_word : Word
  -- the word itself
  this : List ℕ → Word
  actor_of : Actor → Word
  name : List ℕ → Word
  mode_of : Mode → Word
  number : ℕ → Word
  direction : Bool → Word
  item : List ℕ → Word

abbrev pub IsWord : Word → List ℕ → Type 0
IsWord no_word word = ⊥
IsWord (this text) word = word ≡ text
IsWord (actor_of actor) word = IsActor word actor
IsWord (name text) word = IsNameWord word text
IsWord (mode_of mode) word = word ≡ mode_word mode
IsWord (number value) word = IsNumber word value
IsWord (direction reverse) word = word ≡ direction_word reverse
IsWord (item bytes) word = IsItem word bytes
