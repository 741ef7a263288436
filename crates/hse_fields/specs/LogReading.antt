-- Reading the log's text from left to right. A field is a value and the bytes behind it. A refusal is the
-- number of bytes that stand from the first refused field on, to the end of the payload.
use Rattle.std.specs.Prelude.{◌≡◌, ℕ, zero, suc, ◌+◌, List, [], ◌∷◌, length, take, Bool, true, Option, Some, None, is_some, Result, Ok, Err, nat_lt, nat_le, ◌==◌, ◌&&◌, ◌||◌, if◌then◌else◌}
use Rattle.std.specs.List.{AllByRecursion}
use Rattle.hse_fields.specs.Fields.{number_of, bytes_of}
use Rattle.hse_fields.specs.LogText.{Kind, put, del, pdel, Change, Entry}
use Rattle.hse_fields.specs.LogOrder.{may_follow, kind_may_follow, store_may_follow}
use Rattle.hse_fields.specs.LogForm.{longest_name}
use Rattle.hse_fields.specs.LogLimits.{longest_value}

infixl 10 ◌>>=◌
abbrev pub ◌>>=◌ : {A B : Type 0} → Result A ℕ → (A → Result B ℕ) → Result B ℕ
(Ok x) >>= f = f x
(Err left) >>= f = Err left

-- refused there unless the test holds
abbrev pub ensure : Bool → ℕ → Result (Unit {0}) ℕ
ensure test left = if test then Ok tt else Err left

-- refused there where there is none
abbrev pub given : {A : Type 0} → Option A → ℕ → Result A ℕ
given (Some x) left = Ok x
given None left = Err left

-- How many bytes follow. A number outside its limits is refused at itself.
unfoldable pub size_of : ℕ → ℕ → ℕ → List ℕ → Result (ℕ × List ℕ) ℕ
size_of width least most bytes = do
  size ← number_of width bytes
  within ← ensure (nat_le least size.0 && nat_le size.0 most) (length bytes)
  Ok (size.0, size.1)

-- bytes behind their number
unfoldable pub sized_of : ℕ → ℕ → ℕ → List ℕ → Result (List ℕ × List ℕ) ℕ
sized_of width least most bytes = do
  size ← size_of width least most bytes
  bytes_of size.0 size.1

abbrev pub kind_with : ℕ → Option Kind
kind_with byte =
    if byte == 1 then Some put else (if byte == 2 then Some del else (if byte == 3 then Some pdel else None))

-- An unknown kind is refused at its byte.
unfoldable pub kind_of : Option Change → List ℕ → Result (Kind × List ℕ) ℕ
kind_of last bytes = do
  byte ← number_of 1 bytes
  kind ← given (kind_with byte.0) (length bytes)
  in_order ← ensure (kind_may_follow last kind) (length bytes)
  Ok (kind, byte.1)

unfoldable pub value_of : Kind → ℕ → List ℕ → Result (List ℕ × List ℕ) ℕ
value_of put most bytes = sized_of 4 0 most bytes
value_of del most bytes = Ok ([], bytes)
value_of pdel most bytes = Ok ([], bytes)

abbrev pub change : Kind → ℕ → List ℕ → List ℕ → Change
change kind store name value = record { kind = kind; store = store; name = name; value = value }

-- Whether a change may stand behind the last one whose name is so many of these bytes. A name that is cut
-- off does not tell.
unfoldable pub name_may_follow : Option Change → Kind → ℕ → ℕ → List ℕ → Bool
name_may_follow last kind store size bytes =
    nat_lt (length bytes) size || may_follow last (change kind store (take size bytes) [])

-- Whether a name may have so many bytes, by which lengths the store's prefix deletes may have.
abbrev pub name_fits : (ℕ → ℕ → Bool) → Kind → ℕ → ℕ → Bool
name_fits prefix_fits put store size = true
name_fits prefix_fits del store size = true
name_fits prefix_fits pdel store size = prefix_fits store size

-- whether a name of this kind may have so many bytes in any store
abbrev pub name_in_limits : Kind → ℕ → Bool
name_in_limits kind size = nat_le 1 size && nat_le size (longest_name kind)

-- A change's name behind its length, for a change with so many bytes from its first one on. One that may not
-- stand behind the last one is refused at its first byte, also where its name shows it: before its length is looked
-- at, since that byte is the lower place. A length that no name of this kind may have, or no prefix of this store, is
-- refused at itself.
unfoldable pub name_of : (ℕ → ℕ → Bool) → Option Change → ℕ → Kind → ℕ → List ℕ → Result (List ℕ × List ℕ) ℕ
name_of prefix_fits last left kind store bytes = do
  size ← number_of 2 bytes
  in_order ← ensure (name_may_follow last kind store size.0 size.1) left
  within ← ensure (name_in_limits kind size.0) (length bytes)
  allowed ← ensure (name_fits prefix_fits kind store size.0) (length bytes)
  bytes_of size.0 size.1

-- A change that may not stand behind the last one is refused at its first byte, as soon as that shows.
unfoldable pub change_of : (ℕ → ℕ → Bool) → ℕ → Option Change → List ℕ → Result (Change × List ℕ) ℕ
change_of prefix_fits most last bytes = do
  kind ← kind_of last bytes
  store ← number_of 8 kind.1
  store_in_order ← ensure (store_may_follow last kind.0 store.0) (length bytes)
  name ← name_of prefix_fits last (length bytes) kind.0 store.0 store.1
  value ← value_of kind.0 most name.1
  Ok (change kind.0 store.0 name.0 value.0, value.1)

-- so many changes behind the last one
unfoldable pub more_changes_of : (ℕ → ℕ → Bool) → ℕ → Option Change → ℕ → List ℕ → Result (List Change × List ℕ) ℕ
more_changes_of prefix_fits most last zero bytes = Ok ([], bytes)
more_changes_of prefix_fits most last (suc n) bytes = do
  first ← change_of prefix_fits most last bytes
  others ← more_changes_of prefix_fits most (Some first.0) n first.1
  Ok (first.0 ∷ others.0, others.1)

unfoldable pub changes_of : (ℕ → ℕ → Bool) → ℕ → List ℕ → Result (List Change × List ℕ) ℕ
changes_of prefix_fits most bytes = do
  count ← number_of 4 bytes
  some ← ensure (nat_lt 0 count.0) (length bytes)
  more_changes_of prefix_fits most None count.0 count.1

-- What a reader of a log asks of the entries beside their form: which length a store's prefix deletes may have,
-- which number may come next, and what is known after an entry, if it may come. An entry that may not
-- come is refused at its number.
pub record Rule (S : Type 0) : Type 0 where
  -- of a store and a length: true for stores that are not live
  pub prefix_fits : ℕ → ℕ → Bool
  pub number_fits : S → ℕ → Bool
  pub after : S → Entry → Option S

-- The changes as far as they can be read at all: with prefixes of any length that a prefix may have, and values of any
-- length.
abbrev pub any_changes_of : List ℕ → Result (List Change × List ℕ) ℕ
any_changes_of bytes = changes_of (λ _ _. true) longest_value bytes

-- whether an entry of this number may come that has these changes, where they were read
abbrev pub comes_with : {S : Type 0} → Rule S → S → ℕ → Result (List Change × List ℕ) ℕ → Bool
comes_with rule state number (Ok changes) = is_some (rule.after state (record { number = number; changes = changes.0 }))
comes_with rule state number (Err left) = true

-- Whether there is room for an entry: whether it may come, as far as its changes can be read at all.
unfoldable pub has_room : {S : Type 0} → Rule S → S → ℕ → List ℕ → Bool
has_room rule state number bytes = comes_with rule state number (any_changes_of bytes)

-- An entry that may not come is refused at its number, before any length in its changes: the number is the lower place.
-- Only where the changes cannot be read at all it does not tell.
unfoldable pub entry_of : {S : Type 0} → Rule S → ℕ → S → List ℕ → Result ((Entry × S) × List ℕ) ℕ
entry_of rule most state bytes = do
  number ← number_of 8 bytes
  next ← ensure (rule.number_fits state number.0) (length bytes)
  room ← ensure (has_room rule state number.0 number.1) (length bytes)
  changes ← changes_of rule.prefix_fits most number.1
  after ← given (rule.after state (record { number = number.0; changes = changes.0 })) (length bytes)
  Ok ((record { number = number.0; changes = changes.0 }, after), changes.1)

unfoldable pub entries_of : {S : Type 0} → Rule S → ℕ → S → ℕ → List ℕ → Result ((List Entry × S) × List ℕ) ℕ
entries_of rule most state zero bytes = Ok (([], state), bytes)
entries_of rule most state (suc n) bytes = do
  first ← entry_of rule most state bytes
  others ← entries_of rule most first.0.1 n first.1
  Ok ((first.0.0 ∷ others.0.0, others.0.1), others.1)

-- Bytes left over behind the last entry are refused at the length of the batch, the four bytes before it.
unfoldable pub payload_of : {S : Type 0} → Rule S → ℕ → S → List ℕ → Result (List Entry × S) ℕ
payload_of rule most state bytes = do
  count ← number_of 4 bytes
  some ← ensure (nat_lt 0 count.0) (length bytes)
  read ← entries_of rule most state count.0 count.1
  ended ← ensure (length read.1 == 0) (4 + length bytes)
  Ok read.0

-- no rule but the form
abbrev pub any : Rule (Unit {0})
any = record { prefix_fits = λ _ _. true; number_fits = λ _ _. true; after = λ _ _. Some tt }

-- The change is no prefix delete, or its prefix has a length that its store's may have.
abbrev pub PrefixFits : (ℕ → ℕ → Bool) → Change → Type 0
PrefixFits prefix_fits c = name_fits prefix_fits c.kind c.store (length c.name) ≡ true

abbrev pub PrefixesFit : (ℕ → ℕ → Bool) → List Entry → Type 0
PrefixesFit prefix_fits entries =
    AllByRecursion (λ (e : Entry). AllByRecursion (PrefixFits prefix_fits) e.changes) entries

-- These entries may come one after another, and this is known after them.
abbrev pub Follow : {S : Type 0} → Rule S → S → List Entry → S → Type 0
Follow {S = S} rule state [] last = state ≡ last
Follow {S = S} rule state (e ∷ es) last =
    (rule.number_fits state e.number ≡ true) × (after : S) × (rule.after state e ≡ Some after)
    × Follow rule after es last
