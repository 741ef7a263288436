use Rattle.std.proofs.Common.{◌≡◌, ◌∙◌, map, Some, true, ap, sym, subst}
use Rattle.std.specs.Arc.{arc_value}
use Rattle.std.specs.List.{find}
use Rattle.kblock.specs.Entries.{entry_of}
use Rattle.kblock.specs.Opened.{has_key}
use Rattle.kvset.specs.Keys.{all_keys}
use Rattle.kvset.specs.Parts.{values_in}
use Rattle.kvset.specs.Rows.{is_met, row_found, row_of_key}
use Rattle.kvset.proofs.RowLemmas.{met_found, own_found}
use Rattle.kvset.proofs.parts.find_row.Goals as goal

pub row_of-requires : goal.row_of-requires
row_of-requires c =
    let p = c.args.parts.now in
    let found : find (has_key c.args.key.now) (all_keys p.keys.items) ≡ Some (entry_of c.in-Some.entry) =
    ap (λ l. find (has_key c.args.key.now) (all_keys l)) (sym c.deref.ensures.value) ∙ sym c.in-Some.ensures in
    let met = met_found (values_in p) c.args.key.now (all_keys p.keys.items) (entry_of c.in-Some.entry) c.requires.met found in
    subst (λ l. is_met (map arc_value l) c.in-Some.entry.value ≡ true) (sym c.deref-in-Some.ensures.value) met

pub returns-in-Some : goal.returns-in-Some
returns-in-Some c =
    let p = c.args.parts.now in
    let found : find (has_key c.args.key.now) (all_keys p.keys.items) ≡ Some (entry_of c.in-Some.entry) =
    ap (λ l. find (has_key c.args.key.now) (all_keys l)) (sym c.deref.ensures.value) ∙ sym c.in-Some.ensures in
    ap Some (c.row_of.ensures ∙ ap (λ l. row_of_key (map arc_value l) (entry_of c.in-Some.entry)) c.deref-in-Some.ensures.value)
    ∙ sym (own_found p.prefixes (all_keys p.keys.items) (values_in p) c.args.key.now c.requires.keys.keys ∙ ap (row_found (values_in p)) found)

pub returns-in-None : goal.returns-in-None
returns-in-None c =
    let p = c.args.parts.now in
    let found = ap (λ l. find (has_key c.args.key.now) (all_keys l)) (sym c.deref.ensures.value) ∙ sym c.in-None.ensures in
    sym (own_found p.prefixes (all_keys p.keys.items) (values_in p) c.args.key.now c.requires.keys.keys ∙ ap (row_found (values_in p)) found)
