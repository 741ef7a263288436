-- Which changes, entries and payloads a log may have.
use Rattle.std.specs.Prelude.{◌≡◌, ℕ, ◌^◌, ◌<◌, ◌≤◌, List, [], ◌∷◌, length, Option, Some, None, IsTrue}
use Rattle.std.specs.List.{AllByRecursion}
use Rattle.hse_fields.specs.LogLimits.{longest_key, longest_prefix}
use Rattle.hse_fields.specs.LogText.{Kind, put, del, pdel, Change, Entry}
use Rattle.hse_fields.specs.LogOrder.{may_follow}

-- the most bytes that a key has, and a prefix
abbrev pub longest_name : Kind → ℕ
longest_name put = longest_key
longest_name del = longest_key
longest_name pdel = longest_prefix

-- a value has at most so many bytes, and puts alone have one
abbrev pub ValueFits : ℕ → Kind → List ℕ → Type 0
ValueFits most put value = length value ≤ most
ValueFits most del value = value ≡ []
ValueFits most pdel value = value ≡ []

pub record IsChange (most : ℕ) (c : Change) : Type 0 where
  pub store : c.store < 2 ^ 64
  pub some_name : 1 ≤ length c.name
  pub short_name : length c.name ≤ longest_name c.kind
  pub value_fits : ValueFits most c.kind c.value

-- each change may stand behind the one before it
abbrev pub AreInOrder : Option Change → List Change → Type 0
AreInOrder last [] = Unit {0}
AreInOrder last (c ∷ cs) = IsTrue (may_follow last c) × AreInOrder (Some c) cs

-- one change or more, in normal form: in their order, so each name of a store stands once
pub record AreChanges (most : ℕ) (changes : List Change) : Type 0 where
  pub some : 1 ≤ length changes
  pub counted : length changes < 2 ^ 32
  pub formed : AllByRecursion (IsChange most) changes
  pub in_order : AreInOrder None changes

pub record IsEntry (most : ℕ) (e : Entry) : Type 0 where
  pub number : e.number < 2 ^ 64
  pub changes : AreChanges most e.changes

-- one entry or more; a value has at most so many bytes
pub record ArePayload (most : ℕ) (entries : List Entry) : Type 0 where
  pub some : 1 ≤ length entries
  pub counted : length entries < 2 ^ 32
  pub formed : AllByRecursion (IsEntry most) entries
