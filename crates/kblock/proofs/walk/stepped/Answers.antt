use Rattle.std.proofs.Common.{ℕ, None, sym, subst, arith}
use Rattle.hse_fields.specs.BlockReading.{pages_of}
use Rattle.kblock.specs.Entries.{entry_of}
use Rattle.kblock.specs.Searching.{IsRead}
use Rattle.kblock.proofs.WalkLemmas.{Steps, steps, key_is_read}
use Rattle.kblock.proofs.walk.stepped.Goals as goal

pub unreachable-requires : goal.unreachable-requires
unreachable-requires c =
    subst IsRead c.in_default.ensures (key_is_read c.args.spot.left c.args.spot.keys.now c.requires.some c.requires.is.keys)

stepping : (c : goal.In-Ok) → Steps c.args.spot.at c.args.spot.left c.args.spot.keys.now c.args.spot.count c.args.spot.pages.now (entry_of c.in-Ok.entry, c.in-Ok.keys.now)
stepping c =
    let spot = c.args.spot in
    let is = c.requires.is in
    steps spot.at spot.left spot.keys.now spot.count spot.pages.now (entry_of c.in-Ok.entry, c.in-Ok.keys.now) c.requires.some is.keys_fit is.keys c.in-Ok.ensures

pub overflow_sub-behind : goal.overflow_sub-behind
overflow_sub-behind c = (stepping c).shorter

pub returns-clause-first : goal.returns-clause-first
returns-clause-first c = (stepping c.before).same

pub returns-clause-is : goal.returns-clause-is
returns-clause-is c =
    let s = stepping c.before in
    let is = c.requires.is in
    record {
      keys = s.keys_read;
      pages = subst (λ (n : ℕ). IsRead (pages_of n None c.args.spot.count c.args.spot.pages.now)) (sym s.end_is) is.pages;
      keys_fit = s.keys_fit;
      pages_fit = is.pages_fit;
      room = is.room;
      small = omega (arith, is.small, s.end_is);
    }

pub returns-clause-within : goal.returns-clause-within
returns-clause-within c = omega (arith, (stepping c.before).ends, c.requires.is.small)
