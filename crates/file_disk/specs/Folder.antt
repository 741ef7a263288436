-- The folder of a path.
use Rattle.std.specs.Prelude.{ℕ, List, [], ◌∷◌, codes, Option, None, Some}
use Rattle.std.specs.Path.{path_parent}

-- the parent that a path names, or the folder that the program runs in
abbrev pub named_folder : Option (List ℕ) → List ℕ
named_folder None = codes "."
named_folder (Some []) = codes "."
named_folder (Some (b ∷ rest)) = b ∷ rest

-- the folder in which the file of this path stands
abbrev pub folder_of : List ℕ → List ℕ
folder_of path = named_folder (path_parent path)
