use Rattle.std.proofs.Common.{ℕ, ◌≤◌}
use Rattle.std.proofs.lemmas.List.Elements.{recursion_from_All}
use Rattle.wal.specs.laws.MoreTaken.{follow_more, segment_more}
use Rattle.wal.proofs.number_laws.later_taken_numbers_change_nothing.Goals as goal

pub returns-clause-follow : goal.returns-clause-follow
returns-clause-follow c = λ live state last entries more follow all.
    follow_more live state last entries more (recursion_from_All (λ (t : ℕ). last.next ≤ t) more all) follow

pub returns-clause-segment : goal.returns-clause-segment
returns-clause-segment c = λ live most start last payloads tail entries more read all.
    segment_more live most start payloads tail entries last more (recursion_from_All (λ (t : ℕ). last.next ≤ t) more all) read
