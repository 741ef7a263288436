use Rattle.std.proofs.Common.{◌≡◌, ◌+◌, ◌*◌, drop}
use Rattle.std.specs.Prelude.{◌%◌, ◌^◌}
use Rattle.std.specs.List.{fold}
use Rattle.hse_rows.specs.rows.Routing.{hash_of}
use Rattle.cn_tree.proofs.routing.hash.Given as goal

-- the rest of the bytes lead to the number of all
abbrev pub invariant-loop-byte : goal.invariant-loop-byte
invariant-loop-byte l =
    fold (λ hash byte. (hash * 31 + byte) % 2 ^ 32) l.hash (drop l.byte-index l.bytes) ≡ hash_of l.fn.bytes
