-- The command line.
use Rattle.std.specs.Prelude.{◌≡◌, ◌≢◌, ℕ, List, [], ◌∷◌, ◌++◌, codes}

-- a path is not empty and does not begin with a dash
pub record IsPath (path : List ℕ) : Type 0 where
  pub some : path ≢ []
  pub no_flag : (rest : List ℕ) → path ≢ codes "-" ++ rest

-- The words are a program's name, the word run and a path, and no others.
pub record AsksRun (words : List (List ℕ)) : Type 0 where
  pub program : List ℕ
  pub path : List ℕ
  pub words_are : words ≡ program ∷ codes "run" ∷ path ∷ []
  pub is_path : IsPath path

-- the third word, or the empty text
abbrev pub third_of : List (List ℕ) → List ℕ
third_of [] = []
third_of (first ∷ []) = []
third_of (first ∷ second ∷ []) = []
third_of (first ∷ second ∷ third ∷ more) = third
