use Rattle.std.proofs.Common.{◌≡◌, ◌+◌, ◌++◌, arith, take, drop, suc, ap, ◌∙◌, append_assoc}
use Rattle.std.proofs.lemmas.List.{drop-drop}
use Rattle.std.proofs.lemmas.Result.{on_ok_weaker}
use Rattle.ingest_tree.specs.Parts.{parts_of}
use Rattle.ingest_tree.proofs.builder.Builder.put_with.Goals as goal

pub returns-clause-items : goal.returns-clause-items
returns-clause-items g c =
    let ps = c.args.parts.now in
    let at = c.args.at in
    let old = c.args.self.now.first.items ++ c.args.self.now.second.items in
    let grown = parts_of c.args.grown.0 c.args.grown.1 in
    let behind : c.split_at-2.result.1.now ≡ drop (suc at) ps =
    c.split_at-2.ensures.back ∙ ap (drop 1) c.split_at.ensures.back ∙ drop-drop 1 at ps ∙ (let next : at + 1 ≡ suc at = omega arith in ap (λ n. drop n ps) next) in
    let before = c.in_ok-put_all.ensures.items ∙ ap (λ l. old ++ l) c.split_at.ensures.front in
    let middle = c.in_ok-put_grown.ensures.items ∙ ap (λ l. l ++ grown) before in
    on_ok_weaker c.put_all-2.result
    (λ items. items ∙ (λ i. middle i ++ behind i) ∙ ap (λ l. l ++ drop (suc at) ps) (append_assoc old (take at ps) grown) ∙ append_assoc old (take at ps ++ grown) (drop (suc at) ps))
    c.put_all-2.ensures.items
