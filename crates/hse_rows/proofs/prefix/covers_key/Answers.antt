use Rattle.std.proofs.Common.{◌≡◌}
use Rattle.hse_rows.specs.writes.Change.{covers}
use Rattle.hse_rows.specs.laws.Covering.{covers-is}
use Rattle.hse_rows.proofs.prefix.covers_key.Goals as goal

is_covers : (c : goal.After-starts_with) → c.starts_with.result ≡ covers c.args.prefix.now c.args.key.now
is_covers c = c.starts_with.ensures.value

pub returns-clause-meaning : goal.returns-clause-meaning
returns-clause-meaning c = rw (is_covers c) (covers-is c.args.prefix.now c.args.key.now)
