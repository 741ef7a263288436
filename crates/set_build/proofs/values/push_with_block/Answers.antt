use Rattle.std.proofs.Common.{◌≡◌, ◌++◌, ◌∷◌, [], ℕ, List, length, Some, sym, ap, ◌∙◌, subst, arith}
use Rattle.hse_fields.specs.BlockText.{KeyEntry, header_size}
use Rattle.hse_fields.specs.BlockReading.{key_entry}
use Rattle.hse_fields.specs.declared.block.ValuePlace.{ValuePlace}
use Rattle.kblock.specs.Entries.{entry_of}
use Rattle.set_build.specs.SetText.{value_place}
use Rattle.set_build.specs.Builders.{HoldsValues, HoldKeys, has_room, with_value, with_key, entry_behind, place_behind}
use Rattle.set_build.proofs.LastLemmas.{last-new, pairs-more, pairs-length}
use Rattle.set_build.proofs.ValueLemmas.{place-new}
use Rattle.set_build.proofs.values.push_with_block.Goals as goal

pub returns-clause-added : goal.returns-clause-added
returns-clause-added c = λ held holds stays.
    let value = c.args.value.now in
    let new : with_value c.args.slot held value ≡ held ++ (value ∷ []) ∷ [] =
    last-new (has_room c.args.slot (length value)) (λ (block : List (List ℕ)). block ++ value ∷ []) (value ∷ []) held stays in
    rw (new, c.push_reserved.ensures, c.in_ok-reserve.ensures.items)
    (pairs-more (HoldsValues c.args.slot) held c.args.blocks.now.items (value ∷ []) c.in_ok-next.next holds (c.in_ok-next.ensures, omega arith))

pub returns-clause-key : goal.returns-clause-key
returns-clause-key c = λ held keys_held holds stays keys.
    let len = length c.args.value.now in
    let place : place_behind c.args.slot 0 held len ≡ value_place c.in-Ok.block header_size len =
    place-new c.args.slot 0 len held stays
    ∙ ap (λ (n : ℕ). value_place n header_size len) (omega (arith, pairs-length (HoldsValues c.args.slot) held c.args.blocks.now.items holds, c.args.blocks.now.ok.0, c.len.ensures, c.in-Ok.ensures)) in
    let entry : entry_of c.at.result ≡ entry_behind c.args.slot held c.args.entry.number c.args.entry.key.now len =
    c.at.ensures ∙ ap (λ (p : ValuePlace). key_entry c.args.entry.number c.args.entry.key.now (Some p)) (sym place) in
    subst (λ (e : KeyEntry). HoldKeys c.args.slot (with_key c.args.slot keys_held e) c.push_key.new.blocks.items) entry
    (c.in_ok-push_key.ensures.added keys_held keys)
