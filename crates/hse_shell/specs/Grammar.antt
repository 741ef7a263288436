-- The lines of a script.
use Rattle.std.specs.Prelude.{◌≡◌, ◌≢◌, ◌⊎◌, ℕ, ◌≤◌, List, [], ◌∷◌, ◌++◌, codes}
use Rattle.std.specs.List.{AllByRecursion}

-- what a line asks for
pub data Meaning : Type 0 where
  puts : List ℕ → List ℕ → Meaning
  dels : List ℕ → Meaning
  gets : List ℕ → Meaning
  syncs : Meaning
  -- an empty line or a comment, which has no reply
  silent : Meaning
  -- the line is outside the grammar
  unknown : Meaning

-- no text that begins as a hexadecimal item does
abbrev pub IsPlain : List ℕ → Type 0
IsPlain word = (rest : List ℕ) → word ≢ codes "x:" ++ rest

-- A word stands for itself: at least one byte, each from ! to ~, and it does not begin as a
-- hexadecimal item.
pub record IsWord (word : List ℕ) : Type 0 where
  pub some : word ≢ []
  pub printable : AllByRecursion (λ byte. (33 ≤ byte) × (byte ≤ 126)) word
  pub plain : IsPlain word

pub record IsPut (line key value : List ℕ) : Type 0 where
  pub key_word : IsWord key
  pub value_word : IsWord value
  pub spelled : line ≡ codes "put @ s " ++ (key ++ 32 ∷ value)

-- a front, and then a key to the end of the line
pub record IsKeyed (front line key : List ℕ) : Type 0 where
  pub key_word : IsWord key
  pub spelled : line ≡ front ++ key

abbrev pub IsDel : List ℕ → List ℕ → Type 0
IsDel line key = IsKeyed (codes "del @ s ") line key

abbrev pub IsGet : List ℕ → List ℕ → Type 0
IsGet line key = IsKeyed (codes "get @ s ") line key

abbrev pub IsSync : List ℕ → Type 0
IsSync line = line ≡ codes "sync"

-- a line with this first byte
pub record BeginsWith (first : ℕ) (line : List ℕ) : Type 0 where
  pub rest : List ℕ
  pub spelled : line ≡ first ∷ rest

-- an empty line, or a comment, which begins with #
abbrev pub IsSilent : List ℕ → Type 0
IsSilent line = (line ≡ []) ⊎ BeginsWith 35 line

-- the line is none of these
pub record IsUnknown (line : List ℕ) : Type 0 where
  pub no_put : (key value : List ℕ) → IsPut line key value → ⊥
  pub no_del : (key : List ℕ) → IsDel line key → ⊥
  pub no_get : (key : List ℕ) → IsGet line key → ⊥
  pub no_sync : IsSync line → ⊥
  pub no_silent : IsSilent line → ⊥

-- the line has this meaning
abbrev pub Means : List ℕ → Meaning → Type 0
Means line (puts key value) = IsPut line key value
Means line (dels key) = IsDel line key
Means line (gets key) = IsGet line key
Means line syncs = IsSync line
Means line silent = IsSilent line
Means line unknown = IsUnknown line

-- each line has at most one meaning
abbrev pub HaveOneMeaning : Type 0
HaveOneMeaning =
    (line : List ℕ) (one other : Meaning) → Means line one → Means line other → one ≡ other
