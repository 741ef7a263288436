use Rattle.std.proofs.Common.{◌≡◌}
use Rattle.std.specs.Option.{option_map}
use Rattle.hse_rows.specs.script.Cursor.{CursorState}
use Rattle.merge.specs.Places.{direction_of}
use Rattle.merge.specs.Merge.{rows_ahead}
use Rattle.cursors.specs.Pairs.{IsAhead}
use Rattle.cursors.proofs.next_pair.next_pair.Given as goal

-- the merge goes on to the same pairs
abbrev pub invariant-loop-source : goal.invariant-loop-source
invariant-loop-source g l = record {
  sources : l.merged.sources ≡ l.fn.merged.sources;
  ahead : (cursor : CursorState) → cursor.direction ≡ direction_of l.fn.asked.reverse → cursor.prefix ≡ l.fn.asked.filter.now
      → cursor.last ≡ option_map (λ last. last.now) l.fn.asked.last
      → IsAhead cursor l.fn.merged → IsAhead cursor l.merged;
}

-- each step leaves fewer rows ahead
abbrev pub decreases-loop-source : goal.decreases-loop-source
decreases-loop-source g l = rows_ahead l.merged
