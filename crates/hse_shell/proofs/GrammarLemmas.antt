-- A line has one meaning.
use Rattle.std.proofs.Common.{◌≡◌, ◌≢◌, ℕ, ◌≤◌, List, [], ◌∷◌, ◌++◌, codes, refl, ap, sym, ◌∙◌, subst, inl, inr, arith}
use Rattle.std.proofs.lemmas.List.{append_cancel_left}
use Rattle.std.specs.List.{AllByRecursion}
use Rattle.std.proofs.lemmas.List.Elements.{All-from_recursion, recursion_from_All}
use Rattle.hse_shell.specs.Commands.{HasNoSpace}
use Rattle.hse_shell.specs.Grammar.{Meaning, puts, dels, gets, syncs, silent, unknown, Means, IsWord, IsPut, IsKeyed, IsDel, IsGet, IsSync, BeginsWith, IsSilent}

abbrev NoSpaceIn : List ℕ → Type 0
NoSpaceIn text = AllByRecursion (λ byte. byte ≢ 32) text

no_space_in : (text : List ℕ) → AllByRecursion (λ byte. (33 ≤ byte) × (byte ≤ 126)) text → NoSpaceIn text
no_space_in [] printable = tt
no_space_in (byte ∷ text) printable = ((λ is. let h : 33 ≤ byte = printable.0.0 in omega arith), no_space_in text printable.1)

pub IsWord-no_space : (word : List ℕ) → IsWord word → HasNoSpace word
IsWord-no_space word is = All-from_recursion (λ byte. byte ≢ 32) word (no_space_in word is.printable)

-- a text is split at its first space in one way
split_once : (a b c d : List ℕ) → NoSpaceIn a → NoSpaceIn c → a ++ 32 ∷ b ≡ c ++ 32 ∷ d → (a ≡ c) × (b ≡ d)
split_once [] b [] d left right same = (refl, cc)
split_once [] b (y ∷ c) d left right same = let e : y ≡ 32 = cc in absurd (right.0 e)
split_once (x ∷ a) b [] d left right same = let e : x ≡ 32 = cc in absurd (left.0 e)
split_once (x ∷ a) b (y ∷ c) d left right same =
    let head : x ≡ y = cc in
    let tails : a ++ 32 ∷ b ≡ c ++ 32 ∷ d = cc in
    let rest = split_once a b c d left.1 right.1 tails in
    ((λ i. head i ∷ rest.0 i), rest.1)

pub one_split : (a b c d : List ℕ) → HasNoSpace a → HasNoSpace c → a ++ 32 ∷ b ≡ c ++ 32 ∷ d → (a ≡ c) × (b ≡ d)
one_split a b c d left right same =
    split_once a b c d (recursion_from_All (λ byte. byte ≢ 32) a left) (recursion_from_All (λ byte. byte ≢ 32) c right) same

-- a line of a put has one key and one value
pub one_put : (line key value key' value' : List ℕ) → IsPut line key value → IsPut line key' value' → (key ≡ key') × (value ≡ value')
one_put line key value key' value' a b =
    let same : codes "put @ s " ++ (key ++ 32 ∷ value) ≡ codes "put @ s " ++ (key' ++ 32 ∷ value') = sym a.spelled ∙ b.spelled in
    let rest : key ++ 32 ∷ value ≡ key' ++ 32 ∷ value' = cc in
    one_split key value key' value' (IsWord-no_space key a.key_word) (IsWord-no_space key' b.key_word) rest

-- a line with this front has one key
one_key : (front line key key' : List ℕ) → IsKeyed front line key → IsKeyed front line key' → key ≡ key'
one_key front line key key' a b = append_cancel_left front key key' (sym a.spelled ∙ b.spelled)

-- a line has one first byte
one_first : (line : List ℕ) (first other : ℕ) → BeginsWith first line → BeginsWith other line → first ≡ other
one_first line first other a b =
    let same : first ∷ a.rest ≡ other ∷ b.rest = sym a.spelled ∙ b.spelled in cc

first_of_put : (line key value : List ℕ) → IsPut line key value → BeginsWith 112 line
first_of_put line key value is = record { rest = codes "ut @ s " ++ (key ++ 32 ∷ value); spelled = is.spelled }

first_of_del : (line key : List ℕ) → IsDel line key → BeginsWith 100 line
first_of_del line key is = record { rest = codes "el @ s " ++ key; spelled = is.spelled }

first_of_get : (line key : List ℕ) → IsGet line key → BeginsWith 103 line
first_of_get line key is = record { rest = codes "et @ s " ++ key; spelled = is.spelled }

first_of_sync : (line : List ℕ) → IsSync line → BeginsWith 115 line
first_of_sync line is = record { rest = codes "ync"; spelled = is }

-- a line with two first bytes is none
apart : (line : List ℕ) (first other : ℕ) → (first ≡ other → ⊥) → BeginsWith first line → BeginsWith other line → ⊥
apart line first other differ a b = differ (one_first line first other a b)

-- nor has a silent line the first byte of another
spoken : (line : List ℕ) (first : ℕ) → (first ≡ 35 → ⊥) → BeginsWith first line → IsSilent line → ⊥
spoken line first differ is (inl none) = let same : first ∷ is.rest ≡ [] = sym is.spelled ∙ none in cc
spoken line first differ is (inr comment) = apart line first 35 differ is comment

-- a line has one meaning
pub one_meaning : (line : List ℕ) (a b : Meaning) → Means line a → Means line b → a ≡ b
one_meaning line (puts key value) (puts key' value') a b =
    let same = one_put line key value key' value' a b in λ i. puts (same.0 i) (same.1 i)
one_meaning line (puts key value) (dels key') a b = absurd (apart line 112 100 (λ e. omega arith) (first_of_put line key value a) (first_of_del line key' b))
one_meaning line (puts key value) (gets key') a b = absurd (apart line 112 103 (λ e. omega arith) (first_of_put line key value a) (first_of_get line key' b))
one_meaning line (puts key value) syncs a b = absurd (apart line 112 115 (λ e. omega arith) (first_of_put line key value a) (first_of_sync line b))
one_meaning line (puts key value) silent a b = absurd (spoken line 112 (λ e. omega arith) (first_of_put line key value a) b)
one_meaning line (puts key value) unknown a b = absurd (b.no_put key value a)
one_meaning line (dels key) (puts key' value') a b = absurd (apart line 100 112 (λ e. omega arith) (first_of_del line key a) (first_of_put line key' value' b))
one_meaning line (dels key) (dels key') a b = ap dels (one_key (codes "del @ s ") line key key' a b)
one_meaning line (dels key) (gets key') a b = absurd (apart line 100 103 (λ e. omega arith) (first_of_del line key a) (first_of_get line key' b))
one_meaning line (dels key) syncs a b = absurd (apart line 100 115 (λ e. omega arith) (first_of_del line key a) (first_of_sync line b))
one_meaning line (dels key) silent a b = absurd (spoken line 100 (λ e. omega arith) (first_of_del line key a) b)
one_meaning line (dels key) unknown a b = absurd (b.no_del key a)
one_meaning line (gets key) (puts key' value') a b = absurd (apart line 103 112 (λ e. omega arith) (first_of_get line key a) (first_of_put line key' value' b))
one_meaning line (gets key) (dels key') a b = absurd (apart line 103 100 (λ e. omega arith) (first_of_get line key a) (first_of_del line key' b))
one_meaning line (gets key) (gets key') a b = ap gets (one_key (codes "get @ s ") line key key' a b)
one_meaning line (gets key) syncs a b = absurd (apart line 103 115 (λ e. omega arith) (first_of_get line key a) (first_of_sync line b))
one_meaning line (gets key) silent a b = absurd (spoken line 103 (λ e. omega arith) (first_of_get line key a) b)
one_meaning line (gets key) unknown a b = absurd (b.no_get key a)
one_meaning line syncs (puts key' value') a b = absurd (apart line 115 112 (λ e. omega arith) (first_of_sync line a) (first_of_put line key' value' b))
one_meaning line syncs (dels key') a b = absurd (apart line 115 100 (λ e. omega arith) (first_of_sync line a) (first_of_del line key' b))
one_meaning line syncs (gets key') a b = absurd (apart line 115 103 (λ e. omega arith) (first_of_sync line a) (first_of_get line key' b))
one_meaning line syncs syncs a b = refl
one_meaning line syncs silent a b = absurd (spoken line 115 (λ e. omega arith) (first_of_sync line a) b)
one_meaning line syncs unknown a b = absurd (b.no_sync a)
one_meaning line silent (puts key' value') a b = absurd (spoken line 112 (λ e. omega arith) (first_of_put line key' value' b) a)
one_meaning line silent (dels key') a b = absurd (spoken line 100 (λ e. omega arith) (first_of_del line key' b) a)
one_meaning line silent (gets key') a b = absurd (spoken line 103 (λ e. omega arith) (first_of_get line key' b) a)
one_meaning line silent syncs a b = absurd (spoken line 115 (λ e. omega arith) (first_of_sync line b) a)
one_meaning line silent silent a b = refl
one_meaning line silent unknown a b = absurd (b.no_silent a)
one_meaning line unknown (puts key' value') a b = absurd (a.no_put key' value' b)
one_meaning line unknown (dels key') a b = absurd (a.no_del key' b)
one_meaning line unknown (gets key') a b = absurd (a.no_get key' b)
one_meaning line unknown syncs a b = absurd (a.no_sync b)
one_meaning line unknown silent a b = absurd (a.no_silent b)
one_meaning line unknown unknown a b = refl

-- what stands behind the front of a put, split at its first space, is its words
pub put_words : (line rest k v key value : List ℕ) → line ≡ codes "put @ s " ++ rest → HasNoSpace k → rest ≡ k ++ 32 ∷ v → IsPut line key value → (IsWord k) × (IsWord v)
put_words line rest k v key value front left parts is =
    let same : codes "put @ s " ++ (key ++ 32 ∷ value) ≡ codes "put @ s " ++ rest = sym is.spelled ∙ front in
    let spelled : key ++ 32 ∷ value ≡ rest = cc in
    let words = one_split key value k v (IsWord-no_space key is.key_word) left (spelled ∙ parts) in
    (subst IsWord words.0 is.key_word, subst IsWord words.1 is.value_word)

-- with no space there it is no put
pub no_put_unspaced : (line rest key value : List ℕ) → line ≡ codes "put @ s " ++ rest → HasNoSpace rest → IsPut line key value → ⊥
no_put_unspaced line rest key value front left is =
    let same : codes "put @ s " ++ (key ++ 32 ∷ value) ≡ codes "put @ s " ++ rest = sym is.spelled ∙ front in
    let spelled : key ++ 32 ∷ value ≡ rest = cc in
    has_no_space key value (subst HasNoSpace (sym spelled) left)
  where
    has_no_space : (k v : List ℕ) → HasNoSpace (k ++ 32 ∷ v) → ⊥
    has_no_space k v none = spaced k v (recursion_from_All (λ byte. byte ≢ 32) (k ++ 32 ∷ v) none)
      where
        spaced : (k v : List ℕ) → NoSpaceIn (k ++ 32 ∷ v) → ⊥
        spaced [] v none = none.0 refl
        spaced (x ∷ k) v none = spaced k v none.1

-- what stands behind the front of a line with a key is a word
pub key_word : (front line rest key : List ℕ) → line ≡ front ++ rest → IsKeyed front line key → IsWord rest
key_word front line rest key parts is = subst IsWord (append_cancel_left front key rest (sym is.spelled ∙ parts)) is.key_word

-- a line with another meaning is not silent
pub not_silent : (line : List ℕ) (meaning : Meaning) → (meaning ≡ silent → ⊥) → Means line meaning → IsSilent line → ⊥
not_silent line meaning other means is = other (one_meaning line meaning silent means is)
