-- The log's text: what a batch's payload says of commits.
--
--     payload         u32 count, at least 1; the entries
--     entry           u64 number, u32 n, at least 1; n changes in normal form
--     put             u8 1, u64 store id, u16 key length, key, u32 value length, value
--     del             u8 2, u64 store id, u16 key length, key
--     prefix delete   u8 3, u64 store id, u16 prefix length, prefix
use Rattle.std.specs.Prelude.{ℕ, List, [], ◌++◌, length}
use Rattle.std.specs.List.{flat_map}
use Rattle.byteorder.specs.Endian.{big_bytes}

pub data Kind : Type 0 where
  put : Kind
  del : Kind
  pdel : Kind

-- One change of a commit. Its name is the key, or the prefix of a prefix delete; a put alone has a value.
pub record Change : Type 0 where
  pub kind : Kind
  pub store : ℕ
  pub name : List ℕ
  pub value : List ℕ

-- one commit, by its number
pub record Entry : Type 0 where
  pub number : ℕ
  pub changes : List Change

-- a kind's byte
abbrev pub code : Kind → ℕ
code put = 1
code del = 2
code pdel = 3

-- bytes behind their number, which has n bytes
abbrev pub sized : ℕ → List ℕ → List ℕ
sized n bytes = big_bytes n (length bytes) ++ bytes

-- a put's value; the other kinds have none
abbrev pub value_text : Kind → List ℕ → List ℕ
value_text put value = sized 4 value
value_text del value = []
value_text pdel value = []

abbrev pub change_text : Change → List ℕ
change_text c =
    big_bytes 1 (code c.kind) ++ (big_bytes 8 c.store ++ (sized 2 c.name ++ value_text c.kind c.value))

-- what stands before a change's value
abbrev pub head_text : Kind → ℕ → List ℕ → List ℕ
head_text kind store name = big_bytes 1 (code kind) ++ (big_bytes 8 store ++ sized 2 name)

abbrev pub changes_text : List Change → List ℕ
changes_text changes = big_bytes 4 (length changes) ++ flat_map change_text changes

abbrev pub entry_text : Entry → List ℕ
entry_text e = big_bytes 8 e.number ++ changes_text e.changes

abbrev pub payload_text : List Entry → List ℕ
payload_text entries = big_bytes 4 (length entries) ++ flat_map entry_text entries
