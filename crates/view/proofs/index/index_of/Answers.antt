use Rattle.std.proofs.Common.{◌≡◌, ◌∙◌, sym, ap, cond, get_or, take, length, Some, arith}
use Rattle.std.proofs.lemmas.List.{take_more, length-take-le}
use Rattle.std.specs.Cmp.Lexicographic.{texts_ties}
use Rattle.hse_rows.specs.writes.NormalForm.{same}
use Rattle.view.specs.Index.{place_named}
use Rattle.view.proofs.IndexLemmas.{place-last, apart-before}
use Rattle.view.proofs.index.index_of.Goals as goal

pub loop-at-preserved : goal.loop-at-preserved
loop-at-preserved g c = λ name.
    let stores = c.args.stores.now in
    let at = c.loop-at.at in
    let store = get_or stores at c.index-stores-at.result in
    let front = take at stores in
    let low : length front ≡ at = length-take-le at stores (let up = c.loop-at-test.true in omega (arith, up)) in
    c.in_ok-insert.ensures.updates.0 name
    ∙ (λ i. cond ((sym (texts_ties c.in_ok-name.name name) ∙ ap (λ k. same k name) c.in_ok-name.ensures) i)
    (Some (sym low i)) (c.loop-at.invariant name i))
    ∙ sym (place-last name front store (λ is. apart-before name stores at c.index-stores-at.result c.requires c.loop-at-test.true is))
    ∙ ap (place_named name) (sym (take_more stores at c.index-stores-at.result c.loop-at-test.true))
