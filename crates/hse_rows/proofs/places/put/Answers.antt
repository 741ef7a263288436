use Rattle.std.proofs.Common.{ap, ◌∙◌}
use Rattle.hse_rows.specs.writes.NormalForm.{replaced}
use Rattle.hse_rows.proofs.WriteLemmas.{is_of_key, replaced-key, replaced-dropped, rising-stays}
use Rattle.hse_rows.proofs.places.put.Goals as goal
use Rattle.hse_rows.proofs.places.put.Goals.{in-PDel, in_default}

pub put_in_place-requires-clause-rising : goal.put_in_place-requires-clause-rising
put_in_place-requires-clause-rising c =
    elim c.match-write.branch [
      | in-PDel w ↦ rw (w.writes-is, w.drop_hidden.ensures.items) (rising-stays _ c.args.write c.requires.rising)
      | in_default w ↦ rw w.writes-is c.requires.rising
    ]

pub returns : goal.returns
returns c =
    elim c.match-write.branch [
      | in-PDel w ↦
          c.put_in_place.ensures
          ∙ ap (λ ws. replaced ws.items c.args.write) w.writes-is
          ∙ ap (λ l. replaced l c.args.write) w.drop_hidden.ensures.items
          ∙ replaced-dropped _ c.args.write
      | in_default w ↦
          c.put_in_place.ensures
          ∙ ap (λ ws. replaced ws.items c.args.write) w.writes-is
          ∙ replaced-key _ c.args.write (is_of_key _ w.in_default.not-PDel)
    ]
