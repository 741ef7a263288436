-- The first commit since a snapshot, one entry after the other.
use Rattle.std.specs.Prelude.{ℕ, ◌&&◌, nat_lt, cond, List, [], ◌∷◌, Option}
use Rattle.hse_rows.specs.declared.write.Write.{Write}
use Rattle.hse_rows.specs.writes.Overlap.{overlaps}
use Rattle.key_locks.specs.Seen.{first_of}

abbrev pub first_in : Write → ℕ → Option ℕ → List (ℕ × Write) → Option ℕ
first_in write snapshot first [] = first
first_in write snapshot first (commit ∷ commits) =
    first_in write snapshot (cond (nat_lt snapshot commit.0 && overlaps write commit.1) (first_of first commit.0) first) commits
