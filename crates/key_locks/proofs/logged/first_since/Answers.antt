use Rattle.std.proofs.Common.{◌≤◌, ap, sym, ◌∙◌, map, length, arith}
use Rattle.key_locks.specs.Logged.{logged_write}
use Rattle.key_locks.specs.Names.{write_at}
use Rattle.key_locks.specs.Walks.{first_in}
use Rattle.key_locks.proofs.SinceLemmas.{first-is, drop-past}
use Rattle.key_locks.proofs.logged.first_since.Goals as goal

pub returns : goal.returns
returns c =
    let items = c.args.logged.now.items in
    let write = write_at c.args.name.now in
    let end = c.loop-i-test.false in
    let size = c.len-i-end.ensures in
    let most : length items ≤ c.loop-i.i = grind (arith, end, size) in
    first-is write c.args.snapshot (map logged_write items) c.loop-i.first
    (sym (ap (λ l. first_in write c.args.snapshot c.loop-i.first (map logged_write l)) (drop-past items c.loop-i.i most)) ∙ c.loop-i.invariant)
