use Rattle.std.proofs.Common.{◌≡◌, ◌∙◌, List, ℕ, [], take, drop, Some, true, sym, ap, subst, ◌-◌, arith}
use Rattle.std.specs.Prelude.{is_some}
use Rattle.hse_fields.specs.BlockText.{header_size, value_at}
use Rattle.vblock.specs.Opened.{values_in}
use Rattle.vblock.proofs.PlaceLemmas.{At, found_at, length_is, opened_read, value_is}
use Rattle.vblock.proofs.value_block.ValueBlock.lent.Goals as goal

-- the entry that is lent
at : (c : goal.After-block_body) → At header_size c.args.offset c.block_body.result.now (values_in c.self.inside.used c.self.inside.count c.self.inside.bytes.items)
at c =
    let b = c.self.inside in
    let values = values_in b.used b.count b.bytes.items in
    let entries = c.block_body.result.now in
    let read = opened_read b.used b.count b.bytes.items c.deref.result.now entries c.self.invariant c.deref.ensures.value c.block_body.ensures in
    let some = subst (λ (v : List (List ℕ)). is_some (value_at v c.args.offset c.args.len) ≡ true) (sym c.self.view_is) c.requires in
    found_at b.count header_size c.args.offset c.args.len entries (values, []) read some

some : (c : goal.After-block_body) → is_some (value_at (values_in c.self.inside.used c.self.inside.count c.self.inside.bytes.items) c.args.offset c.args.len) ≡ true
some c = subst (λ (v : List (List ℕ)). is_some (value_at v c.args.offset c.args.len) ≡ true) (sym c.self.view_is) c.requires

pub bytes_in-requires-clause-low : goal.bytes_in-requires-clause-low
bytes_in-requires-clause-low c = (at c).low

pub bytes_in-requires-clause-room : goal.bytes_in-requires-clause-room
bytes_in-requires-clause-room c =
    let b = c.self.inside in
    let a = at c in
    let long = length_is c.args.offset header_size c.args.len c.block_body.result.now (values_in b.used b.count b.bytes.items) a (some c) in
    omega (arith, a.room, long)

pub returns : goal.returns
returns c =
    let b = c.self.inside in
    let values = values_in b.used b.count b.bytes.items in
    let entries = c.block_body.result.now in
    let a = at c.before in
    let long = length_is c.args.offset header_size c.args.len entries values a (some c.before) in
    let found : value_at values c.args.offset c.args.len ≡ Some c.bytes_in.result.now =
    value_is c.args.offset header_size c.args.len entries values a (some c.before)
    ∙ ap (λ (l : List ℕ). Some l) (a.bytes_are ∙ ap (λ (n : ℕ). take n (drop 4 (drop (c.args.offset - header_size) entries))) long ∙ sym c.bytes_in.ensures) in
    subst (λ (v : List (List ℕ)). value_at v c.args.offset c.args.len ≡ Some c.bytes_in.result.now) c.self.view_is found
