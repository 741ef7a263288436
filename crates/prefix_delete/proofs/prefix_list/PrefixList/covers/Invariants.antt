use Rattle.std.proofs.Common.{◌≡◌, length}
use Rattle.std.specs.Prelude.{nat_lt}
use Rattle.std.specs.List.{filter}
use Rattle.hse_rows.specs.rows.Meaning.{covered_at}
use Rattle.prefix_delete.specs.Prefixes.{rows_of}
use Rattle.prefix_delete.proofs.prefix_list.PrefixList.covers.Given as goal

-- the greatest so far is that of the shorter prefixes
abbrev pub invariant-loop-len : goal.invariant-loop-len
invariant-loop-len l =
    l.greatest ≡ covered_at l.fn.key (rows_of (filter (λ entry. nat_lt (length entry.prefix) l.len) l.fn.self))
