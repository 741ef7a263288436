use Rattle.std.proofs.Common.{◌≡◌, ◌∙◌, ◌++◌, ◌∷◌, [], map, sym, ap, subst, arith}
use Rattle.std.proofs.lemmas.List.{map_push, nil_from_length}
use Rattle.std.specs.Arc.{arc_value}
use Rattle.kvset.specs.Reading.{values_of}
use Rattle.kvset.proofs.OpeningLemmas.{with_front, values_go_on, values_stop, values_are_done}
use Rattle.kvset.proofs.values.read_values.Goals as goal

pub loop-block-preserved : goal.loop-block-preserved
loop-block-preserved c =
    let front = map arc_value c.loop-block.opened.items in
    let total = values_of c.args.slot c.args.blocks.items in
    let so_far = subst (λ l. with_front front (values_of c.args.slot l) ≡ total) c.in-Some.ensures.steps.0 c.loop-block.invariant in
    let on = values_go_on c.args.slot front c.in-Some.block c.next.new.self.rest.items c.in-Ok.values total c.in-Ok.ensures so_far in
    let pushed = ap (map arc_value) c.in_ok-put-in-Ok.ensures ∙ map_push arc_value c.loop-block.opened.items c.in_ok-owned-in-Ok.field-0 ∙ ap (λ v. front ++ v ∷ []) c.in_ok-owned-in-Ok.ensures in
    subst (λ l. with_front l (values_of c.args.slot c.next.new.self.rest.items) ≡ total) (sym pushed) on

pub returns-in-Err-clause-refused : goal.returns-in-Err-clause-refused
returns-in-Err-clause-refused c =
    let front = map arc_value c.loop-block.opened.items in
    let total = values_of c.args.slot c.args.blocks.items in
    let so_far = subst (λ l. with_front front (values_of c.args.slot l) ≡ total) c.in-Some.ensures.steps.0 c.loop-block.invariant in
    values_stop c.args.slot front c.in-Some.block c.next.new.self.rest.items c.in-Err.field-0.0 total c.in-Err.ensures so_far

pub returns-clause-read : goal.returns-clause-read
returns-clause-read c =
    let front = map arc_value c.loop-block.opened.items in
    let total = values_of c.args.slot c.args.blocks.items in
    let none = nil_from_length c.loop-block.block-iterator.rest.items (omega (arith, c.in-None.ensures.steps.0, c.loop-block.block-iterator.rest.ok)) in
    values_are_done c.args.slot front total (subst (λ l. with_front front (values_of c.args.slot l) ≡ total) none c.loop-block.invariant)
