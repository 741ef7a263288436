-- The first commit since a snapshot.
use Rattle.std.specs.Prelude.{◌≡◌, ◌<◌, ◌==◌, ◌&&◌, ℕ, Bool, true, List, Option}
use Rattle.std.specs.List.{list_any}
use Rattle.std.specs.Option.{IfSome}
use Rattle.hse_rows.specs.declared.write.Write.{Write}
use Rattle.hse_rows.specs.writes.Overlap.{overlaps}
use Rattle.key_locks.specs.Seen.{IsUpTo}

-- whether a commit of this number wrote what overlaps
abbrev pub has_commit : Write → ℕ → List (ℕ × Write) → Bool
has_commit write number commits = list_any (λ (commit : ℕ × Write). (commit.0 == number) && overlaps write commit.1) commits

-- the first commit after a snapshot that wrote what overlaps, or none
pub record IsFirstSince (write : Write) (snapshot : ℕ) (commits : List (ℕ × Write)) (first : Option ℕ) : Type 0 where
  pub least : (number : ℕ) → snapshot < number → has_commit write number commits ≡ true → IsUpTo first number
  pub found : IfSome first (λ number. (snapshot < number) × (has_commit write number commits ≡ true))
