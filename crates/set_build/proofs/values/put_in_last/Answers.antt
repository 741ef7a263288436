use Rattle.std.proofs.Common.{◌≡◌, ◌-◌, ◌++◌, ◌∷◌, [], ℕ, suc, List, true, length, sym, ap, ◌∙◌, arith, length-append}
use Rattle.set_build.specs.Builders.{HoldsValues, has_room, with_value, goes_in_last}
use Rattle.set_build.proofs.LastLemmas.{last_of, last-grown, goes-last}
use Rattle.set_build.proofs.ValueLemmas.{some-there, taken}
use Rattle.set_build.proofs.values.put_in_last.Goals as goal

pub overflow_sub-last : goal.overflow_sub-last
overflow_sub-last c =
    let r = c.requires in
    omega (arith, c.args.blocks.now.ok.0, c.len-last.ensures, some-there (HoldsValues r.0) (has_room r.0 (length c.args.value.now)) r.1 c.args.blocks.now.items r.2 r.3)

pub index_mut-requires : goal.index_mut-requires
index_mut-requires c =
    let r = c.requires in
    omega (arith, c.args.blocks.now.ok.0, c.len-last.ensures, some-there (HoldsValues r.0) (has_room r.0 (length c.args.value.now)) r.1 c.args.blocks.now.items r.2 r.3)

pub push-requires : goal.push-requires
push-requires c =
    let r = c.requires in
    let some : suc (c.len-last.result - 1) ≡ length c.args.blocks.now.items =
    omega (arith, c.args.blocks.now.ok.0, c.len-last.ensures, some-there (HoldsValues r.0) (has_room r.0 (length c.args.value.now)) r.1 c.args.blocks.now.items r.2 r.3) in
    let last = last_of (HoldsValues r.0) r.1 c.args.blocks.now.items (c.len-last.result - 1) c.index_mut.result.now r.2 some c.index_mut.ensures.value in
    (r.0, last.last, last.holds.0)

pub unwrap-requires : goal.unwrap-requires
unwrap-requires c =
    let r = c.requires in
    let some : suc (c.len-last.result - 1) ≡ length c.args.blocks.now.items =
    omega (arith, c.args.blocks.now.ok.0, c.len-last.ensures, some-there (HoldsValues r.0) (has_room r.0 (length c.args.value.now)) r.1 c.args.blocks.now.items r.2 r.3) in
    let last = last_of (HoldsValues r.0) r.1 c.args.blocks.now.items (c.len-last.result - 1) c.index_mut.result.now r.2 some c.index_mut.ensures.value in
    let room : has_room r.0 (length c.args.value.now) last.last ≡ true =
    sym (ap (goes_in_last (has_room r.0 (length c.args.value.now))) last.is ∙ goes-last (has_room r.0 (length c.args.value.now)) last.closed last.last) ∙ r.3 in
    taken r.0 last.last (length c.args.value.now) c.push.result room (c.push.ensures.full r.0 last.last last.holds.0)

pub returns-clause-held : goal.returns-clause-held
returns-clause-held c = λ slot held holds goes.
    let some : suc (c.len-last.result - 1) ≡ length c.args.blocks.now.items =
    omega (arith, c.args.blocks.now.ok.0, c.len-last.ensures, some-there (HoldsValues slot) (has_room slot (length c.args.value.now)) held c.args.blocks.now.items holds goes) in
    let last = last_of (HoldsValues slot) held c.args.blocks.now.items (c.len-last.result - 1) c.index_mut.result.now holds some c.index_mut.ensures.value in
    let room : has_room slot (length c.args.value.now) last.last ≡ true =
    sym (ap (goes_in_last (has_room slot (length c.args.value.now))) last.is ∙ goes-last (has_room slot (length c.args.value.now)) last.closed last.last) ∙ goes in
    let grown : with_value slot held c.args.value.now ≡ last.closed ++ (last.last ++ c.args.value.now ∷ []) ∷ [] =
    ap (λ (l : List (List (List ℕ))). with_value slot l c.args.value.now) last.is
    ∙ last-grown (has_room slot (length c.args.value.now)) (λ (block : List (List ℕ)). block ++ c.args.value.now ∷ []) (c.args.value.now ∷ []) last.closed last.last room in
    rw grown (last.changed (last.last ++ c.args.value.now ∷ []) c.push.new.self (
      rw c.unwrap.ensures at c.push.ensures.added slot last.last last.holds.0,
      omega (arith, length-append last.last (c.args.value.now ∷ [])),
    ))
