use Rattle.std.proofs.Common.{◌≡◌, ◌∙◌, ◌<◌, List, ℕ, Some, length, map, sym, ap, arith}
use Rattle.std.specs.Prelude.{slice_get, is_some}
use Rattle.std.specs.Arc.{arc_value}
use Rattle.hse_fields.specs.BlockText.{value_at}
use Rattle.vblock.specs.Places.{offsets_of}
use Rattle.kvset.specs.Rows.{is_met}
use Rattle.kvset.proofs.ListLemmas.{got_map, got_twice, same_length}
use Rattle.kvset.proofs.MeetingLemmas.{found_value, lent_some}
use Rattle.kvset.proofs.meeting.is_met.Goals as goal

pub find-requires : goal.find-requires
find-requires c =
    let at = c.in-Some.place.block in
    let long = same_length _ offsets_of arc_value c.args.offsets.now c.args.values.now c.requires in
    let in' : at < length c.args.values.now = omega (arith, c.if-at-values.false) in
    let one = got_map _ c.args.offsets.now at _ c.index-offsets-at.result (omega (arith, long, in')) c.index-offsets-at.is in
    let two = got_twice offsets_of arc_value c.args.values.now at _ c.index-values-at.result in' c.index-values-at.is in
    let both : Some c.index-offsets-at.result.items ≡ Some (offsets_of (arc_value c.index-values-at.result)) =
    sym one ∙ ap (λ l. slice_get l at) c.requires ∙ two in
    let same : c.index-offsets-at.result.items ≡ offsets_of (arc_value c.index-values-at.result) = cc in
    c.deref-2.ensures.value ∙ same ∙ ap offsets_of (sym c.deref.ensures)

pub returns : goal.returns
returns c =
    let place = c.in-Some.place in
    let at = place.block in
    let values = map arc_value c.args.values.now in
    let in' : at < length c.args.values.now = omega (arith, c.if-at-values.false) in
    let here = got_map arc_value c.args.values.now at _ c.index-values-at.result in' c.index-values-at.is in
    c.is_some.ensures
    ∙ lent_some c.find.result
    ∙ ap is_some c.find.ensures
    ∙ ap (λ (v : List (List ℕ)). is_some (value_at v place.offset place.len)) c.deref.ensures
    ∙ sym (found_value values place (arc_value c.index-values-at.result) here)
    ∙ ap (is_met values) (sym c.in-Some.is)
