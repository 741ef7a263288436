-- What a stop within a call leaves.
use Rattle.std.specs.Prelude.{◌⊎◌, ℕ, List}
use Rattle.hse_fields.specs.LogText as log
use Rattle.manifest.specs.Text.{Entry}
use Rattle.recovery.specs.Image.{Loaded, IsLoaded}
use Rattle.back.specs.Steps.{with_commits, with_entry}

-- The image is as before, or as after the commits.
abbrev pub OldOrCommitted : Loaded → List log.Entry → List ℕ → Type 0
OldOrCommitted loaded entries image = IsLoaded image loaded ⊎ IsLoaded image (with_commits loaded entries)

-- The image is as before, as after the commits, or as after the entry too.
abbrev pub OldOrEntered : Loaded → List log.Entry → Entry → List ℕ → Type 0
OldOrEntered loaded entries entry image =
    OldOrCommitted loaded entries image ⊎ IsLoaded image (with_entry (with_commits loaded entries) entry)

-- The image is as before, or as after.
abbrev pub OldOrNew : Loaded → Loaded → List ℕ → Type 0
OldOrNew loaded after image = IsLoaded image loaded ⊎ IsLoaded image after
