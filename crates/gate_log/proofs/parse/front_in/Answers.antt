use Rattle.std.proofs.Common.{[], ◌≡◌, ◌∙◌, ◌++◌, ◌-◌, List, ℕ, length, take, drop, ap, subst, sym, arith, length-drop}
use Rattle.std.proofs.lemmas.List.{take_all}
use Rattle.gate_log.specs.Gates.{open_part, AreFramed}
use Rattle.gate_log.specs.Reading.{payloads_of}
use Rattle.gate_log.proofs.ReadLemmas.{begins, ends, reached}
use Rattle.gate_log.proofs.parse.front_in.Goals as goal

pub loop-rest-init : goal.loop-rest-init
loop-rest-init c =
    let region = c.args.region.now in
    let whole : take (length region - 9) (drop 9 region) ≡ drop 9 region = take_all _ _ (omega (arith, length-drop 9 region)) in
    let none : payloads_of c.new-batches.result.items ≡ [] = ap payloads_of c.new-batches.ensures.items in
    record {
      spelled = begins region c.read_u64-sequence.result c.requires (λ i. (c.type_inv.region i).fits) c.if-region-ne-OPEN_GATE.false c.read_u64-sequence.ensures
          ∙ ap (λ (ps : List (List ℕ)). open_part c.read_u64-sequence.result ps ++ drop 9 region) (sym none)
          ∙ ap (λ (l : List ℕ). open_part c.read_u64-sequence.result (payloads_of c.new-batches.result.items) ++ l) (sym whole);
      framed = subst AreFramed (sym none) tt;
      gate = omega (arith, ap length whole, length-drop 9 region);
    }

pub returns-clause-found : goal.returns-clause-found
returns-clause-found c =
    let known = ends _ _ _ _ c.loop-rest.invariant.spelled c.loop-rest.invariant.framed c.loop-rest.invariant.gate c.loop-rest-test.false
    c.read_u64-sequence.type_inv in
    (known.0, known.1)

pub returns-clause-inside : goal.returns-clause-inside
returns-clause-inside c =
    let known = ends _ _ _ _ c.loop-rest.invariant.spelled c.loop-rest.invariant.framed c.loop-rest.invariant.gate c.loop-rest-test.false
    c.read_u64-sequence.type_inv in
    (known.1, omega (arith, c.loop-rest.invariant.gate))

pub returns-in_default-clause-inside : goal.returns-in_default-clause-inside
returns-in_default-clause-inside c =
    let known = reached c.args.region.now c.loop-rest.rest.now c.read_u64-sequence.result (payloads_of c.loop-rest.batches.items) c.loop-rest.invariant.spelled in
    (omega (arith, known.0), omega (arith, known.1, c.loop-rest.invariant.gate))
