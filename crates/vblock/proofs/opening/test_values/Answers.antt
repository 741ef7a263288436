use Rattle.std.proofs.Common.{◌≡◌, ◌==◌, ◌∙◌, false, sym, ap, subst, ℕ, List, Ok, Err, length, arith}
use Rattle.std.proofs.lemmas.Bool.{eqb-true}
use Rattle.std.proofs.lemmas.List.{nil_from_length}
use Rattle.hse_fields.specs.BlockReading.{behind_of, values_of}
use Rattle.hse_fields.specs.laws.BlockHeaders.{body_length}
use Rattle.vblock.proofs.OpeningLemmas.{are_formed, are_told, are_left_over, are_refused}
use Rattle.vblock.proofs.opening.test_values.Goals as goal

pub returns-then-is_empty-clause-formed : goal.returns-then-is_empty-clause-formed
returns-then-is_empty-clause-formed c =
    let none = nil_from_length c.in-Ok.rest.now (eqb-true _ _ (sym c.is_empty.ensures ∙ c.if-is_empty.true)) in
    let gives = subst (λ (b : List ℕ). behind_of (values_of c.args.most c.args.head.count b) ≡ Ok c.in-Ok.rest.now) c.block_body.ensures c.in-Ok.ensures.gives in
    are_formed c.args.most c.args.head.used c.args.head.count c.args.bytes.now c.in-Ok.rest.now c.requires.small c.requires.header c.requires.within gives none

pub returns-then-is_empty-clause-told : goal.returns-then-is_empty-clause-told
returns-then-is_empty-clause-told c =
    let none = nil_from_length c.in-Ok.rest.now (eqb-true _ _ (sym c.is_empty.ensures ∙ c.if-is_empty.true)) in
    let gives = subst (λ (b : List ℕ). behind_of (values_of c.args.most c.args.head.count b) ≡ Ok c.in-Ok.rest.now) c.block_body.ensures c.in-Ok.ensures.gives in
    are_told c.args.most c.args.head c.args.bytes.now c.in-Ok.rest.now c.requires.small gives none

pub returns-else-is_empty-clause-refused : goal.returns-else-is_empty-clause-refused
returns-else-is_empty-clause-refused c =
    let over : (length c.in-Ok.rest.now == 0) ≡ false = sym c.is_empty.ensures ∙ c.if-is_empty.false in
    let gives = subst (λ (b : List ℕ). behind_of (values_of c.args.most c.args.head.count b) ≡ Ok c.in-Ok.rest.now) c.block_body.ensures c.in-Ok.ensures.gives in
    are_left_over c.args.most c.args.head c.args.bytes.now c.in-Ok.rest.now gives over

pub placed-requires : goal.placed-requires
placed-requires c =
    let long = body_length c.args.head.used c.args.bytes.now c.requires.header c.requires.within in
    omega (arith, c.in-Err.ensures.inside, ap length c.block_body.ensures, long)

pub returns-in-Err-clause-refused : goal.returns-in-Err-clause-refused
returns-in-Err-clause-refused c =
    let gives = subst (λ (b : List ℕ). behind_of (values_of c.args.most c.args.head.count b) ≡ Err c.in-Err.refusal.left) c.block_body.ensures c.in-Err.ensures.gives in
    let told = are_refused c.args.most c.args.head c.args.bytes.now c.in-Err.refusal.left gives in
    rw c.placed.ensures told
