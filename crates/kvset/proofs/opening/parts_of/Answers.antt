use Rattle.std.proofs.Common.{◌≡◌, ◌∙◌, ◌<◌, ◌^◌, ◌++◌, Ok, None, length, map, sym, ap, subst, arith}
use Rattle.std.proofs.lemmas.Result.{err_from_is_err_and}
use Rattle.std.specs.Arc.{arc_value}
use Rattle.prefix_delete.specs.Blocks.{in_block}
use Rattle.kvset.specs.Keys.{all_keys, blocks_of, part_slots}
use Rattle.kvset.specs.Parts.{slots_given, values_given}
use Rattle.kvset.specs.Reading.{met_by, prefixes_of, slots_of, Refuses}
use Rattle.kvset.proofs.SetLemmas.{contents_are, keys_refuse, meeting_refuses, parts_counted, parts_met, prefixes_refuse, set_is, slots_counted, slots_long, values_refuse}
use Rattle.kvset.proofs.ListLemmas.{map_long}
use Rattle.kvset.proofs.opening.parts_of.Goals as goal

pub returns-in_err-prefixes-clause-refused : goal.returns-in_err-prefixes-clause-refused
returns-in_err-prefixes-clause-refused c =
    let p = err_from_is_err_and c.from_residual-in_err-prefixes.result c.from_residual-in_err-prefixes.ensures.1 in
    let ps = c.args.prefix_blocks.items in
    let fault = c.in_err-prefixes.field-0.0 in
    let refused = subst (λ l. Refuses (prefixes_of None l) fault) c.deref-3.ensures.value c.in_err-prefixes.ensures.refused in
    rw (p.1, p.2) (prefixes_refuse ps c.args.key_blocks.items (slots_given c.args.values) (values_given c.args.values) fault refused)

pub returns-in_err-keys-clause-refused : goal.returns-in_err-keys-clause-refused
returns-in_err-keys-clause-refused c =
    let p = err_from_is_err_and c.from_residual-in_err-keys.result c.from_residual-in_err-keys.ensures.1 in
    let ps = c.args.prefix_blocks.items in
    let read = subst (λ l. prefixes_of None l ≡ Ok (map in_block c.in_ok-prefixes.prefixes)) c.deref-3.ensures.value c.in_ok-prefixes.ensures.read in
    rw (p.1, p.2) (keys_refuse ps c.args.key_blocks.items (slots_given c.args.values) (values_given c.args.values) (map in_block c.in_ok-prefixes.prefixes) read c.in_err-keys.field-0.0 c.in_err-keys.ensures.refused)

pub returns-in_err-opened-clause-refused : goal.returns-in_err-opened-clause-refused
returns-in_err-opened-clause-refused c =
    let p = err_from_is_err_and c.from_residual-in_err-opened.result c.from_residual-in_err-opened.ensures.1 in
    let ps = c.args.prefix_blocks.items in
    let read = subst (λ l. prefixes_of None l ≡ Ok (map in_block c.in_ok-prefixes.prefixes)) c.deref-3.ensures.value c.in_ok-prefixes.ensures.read in
    rw (p.1, p.2) (values_refuse ps c.args.key_blocks.items (slots_given c.args.values) (values_given c.args.values) (map in_block c.in_ok-prefixes.prefixes) read
    (blocks_of c.in_ok-keys.keys.items) c.in_ok-keys.ensures.read c.in_err-opened.field-0.0 c.in_err-opened.ensures.refused)

pub returns-in_err-test_parts-clause-refused : goal.returns-in_err-test_parts-clause-refused
returns-in_err-test_parts-clause-refused c =
    let p = err_from_is_err_and c.from_residual-in_err-test_parts.result c.from_residual-in_err-test_parts.ensures.1 in
    let ps = c.args.prefix_blocks.items in
    let ks = c.args.key_blocks.items in
    let fault = c.in_err-test_parts.field-0.0 in
    let values = map arc_value c.in_ok-opened.opened.items in
    let parts = c.in_ok-keys.keys.items in
    let read = subst (λ l. prefixes_of None l ≡ Ok (map in_block c.in_ok-prefixes.prefixes)) c.deref-3.ensures.value c.in_ok-prefixes.ensures.read in
    let one = subst (λ l. Refuses (met_by (part_slots c.deref-5.result.now) (map arc_value l) (blocks_of c.deref-5.result.now)) fault) c.deref-4.ensures.value c.in_err-test_parts.ensures.refused in
    let two = subst (λ l. Refuses (met_by (part_slots l) values (blocks_of l)) fault) c.deref-5.ensures.value one in
    let three = subst (λ l. Refuses (met_by l values (blocks_of parts)) fault) c.in_ok-keys.ensures.slots two in
    rw (p.1, p.2) (meeting_refuses ps ks (slots_given c.args.values) (values_given c.args.values) (map in_block c.in_ok-prefixes.prefixes) read
    (blocks_of parts) c.in_ok-keys.ensures.read values c.in_ok-opened.ensures.read fault three)

slots_are : (c : goal.After-drop-prefix_blocks-2)
    → slots_of c.args.prefix_blocks.items ++ (slots_of c.args.key_blocks.items ++ slots_given c.args.values) ≡ c.in_ok-slots.slots.items
slots_are c =
    let values = slots_given c.args.values in
    ap (λ l. slots_of l ++ (slots_of c.args.key_blocks.items ++ values)) (sym c.deref.ensures.value)
    ∙ ap (λ l. slots_of c.deref.result.now ++ (slots_of l ++ values)) (sym c.deref-2.ensures.value)
    ∙ sym c.in_ok-slots.ensures

prefix_count_is : (c : goal.After-drop-prefix_blocks-2) → length c.args.prefix_blocks.items ≡ c.in_ok-prefix_count.prefix_count
prefix_count_is c = omega (arith, c.in_ok-prefix_count.ensures.counted, c.len.ensures, c.args.prefix_blocks.ok.0)

pub returns-clause-set : goal.returns-clause-set
returns-clause-set c =
    let values = map arc_value c.in_ok-opened.opened.items in
    let parts = c.in_ok-keys.keys.items in
    let ks = c.args.key_blocks.items in
    let one = subst (λ l. met_by (part_slots c.deref-5.result.now) (map arc_value l) (blocks_of c.deref-5.result.now) ≡ Ok tt) c.deref-4.ensures.value c.in_ok-test_parts.ensures.met in
    let met = subst (λ l. met_by (part_slots l) values (blocks_of l) ≡ Ok tt) c.deref-5.ensures.value one in
    let k_count = parts_counted parts ks c.in_ok-keys.ensures.slots in
    let many_keys : length parts < 2 ^ 32 = omega (arith, k_count, c.in_ok-counted.ensures.counted, c.len-2.ensures) in
    let many_values : length c.in_ok-opened.opened.items < 2 ^ 32 = omega (arith, c.in_ok-counted-2.ensures.counted, c.len-3.ensures) in
    let v_count = slots_counted arc_value c.args.values c.in_ok-opened.opened.items c.requires c.in_ok-opened.ensures.read in
    record {
      keys = c.in_ok-keys.ensures.parts;
      counted = c.in_ok-keys.ensures.count;
      met = parts_met values parts met;
      few = omega (arith, c.if-len-gt-MOST_PREFIXES.false, c.len-4.ensures.count);
      placed = slots_long c.args.prefix_blocks.items ks (slots_given c.args.values) c.in_ok-slots.slots.items c.in_ok-prefix_count.prefix_count (length parts) (length c.in_ok-opened.opened.items) (slots_are c) (prefix_count_is c) k_count v_count;
      few_blocks = (many_keys, many_values);
    }

pub returns-clause-read : goal.returns-clause-read
returns-clause-read c =
    let values = map arc_value c.in_ok-opened.opened.items in
    let parts = c.in_ok-keys.keys.items in
    let ps = c.args.prefix_blocks.items in
    let ks = c.args.key_blocks.items in
    let one = subst (λ l. met_by (part_slots c.deref-5.result.now) (map arc_value l) (blocks_of c.deref-5.result.now) ≡ Ok tt) c.deref-4.ensures.value c.in_ok-test_parts.ensures.met in
    let two = subst (λ l. met_by (part_slots l) values (blocks_of l) ≡ Ok tt) c.deref-5.ensures.value one in
    let met = subst (λ l. met_by l values (blocks_of parts) ≡ Ok tt) c.in_ok-keys.ensures.slots two in
    let read = subst (λ l. prefixes_of None l ≡ Ok (map in_block c.in_ok-prefixes.prefixes)) c.deref-3.ensures.value c.in_ok-prefixes.ensures.read in
    let slots = slots_are c in
    let p_count = prefix_count_is c in
    set_is ps ks (slots_given c.args.values) (values_given c.args.values) c.in_ok-prefixes.prefixes parts values read c.in_ok-keys.ensures.read c.in_ok-opened.ensures.read met
    ∙ contents_are (slots_of ps ++ (slots_of ks ++ slots_given c.args.values)) c.in_ok-slots.slots.items (length ps) c.in_ok-prefix_count.prefix_count (length ks) (length parts) (length values) (length c.in_ok-opened.opened.items)
    c.in_ok-prefixes.prefixes (all_keys parts) values slots p_count (sym (parts_counted parts ks c.in_ok-keys.ensures.slots)) (map_long arc_value c.in_ok-opened.opened.items)
