use Rattle.std.proofs.Common.{◌≡◌, refl, sym, ap, ◌∙◌, subst, arith, ℕ, ◌+◌, List, [], ◌∷◌, length-append}
use Rattle.hse_rows.specs.declared.write.Write.{Write}
use Rattle.hse_rows.specs.writes.Change.{change_of, write_of}
use Rattle.hse_rows.specs.writes.NormalForm.{normal_form}
use Rattle.hse_rows.specs.writes.Charge.{charge_of}
use Rattle.hse_rows.specs.states.History.{commits}
use Rattle.hse_rows.specs.transactions.Moves as moves
use Rattle.hse_rows.specs.transactions.Timeline.{Timeline}
use Rattle.hse_rows.specs.transactions.Timeline as timeline
use Rattle.hse_rows.specs.machine.Log as log
use Rattle.hse_rows.specs.machine.Core.{number_of, whole_room, left_room, write_to}
use Rattle.hse_rows.specs.machine.CoreDone.{committing_write}
use Rattle.key_locks.specs.declared.locks.KeyLocks.{KeyLocks}
use Rattle.key_locks.specs.Standing.{StandFor}
use Rattle.view.specs.Commits as views
use Rattle.wal.specs.Logged.{entry_with}
use Rattle.wal.specs.Waits.{with_entry}
use Rattle.engine_state.specs.Serves.{AreBetween}
use Rattle.engine_state.proofs.LiveLemmas.{between-higher}
use Rattle.engine_state.proofs.LoggedLemmas.{rooted-last}
use Rattle.engine_state.proofs.RefusalLemmas.{passed, is-not_lt}
use Rattle.engine_state.proofs.SoundLemmas.{view-number}
use Rattle.engine_state.proofs.CommitTables.{left-is}
use Rattle.engine_state.proofs.CommitLemmas.{with_commit, logged-serves}
use Rattle.engine_state.proofs.state.EngineState.log_write.Goals as goal

pub returns-in-Ok-log : goal.returns-in-Ok-log
returns-in-Ok-log g c m live sound s id =
    let state = c.args.self.now in
    let write : Write = write_to live (change_of c.args.change) in
    let nf = normal_form (write ∷ []) in
    let same : write_of c.args.store (change_of c.args.change) ≡ write = λ i. record { store = record { 0 = sym id i }; change = change_of c.args.change } in
    let writes : c.in-Ok.writes ≡ nf = c.in-Ok.ensures ∙ ap (λ (w : Write). normal_form (w ∷ [])) same in
    let charge : c.charge-charge.result ≡ charge_of nf = c.charge-charge.ensures ∙ ap charge_of writes in
    let room : c.room-room.result ≡ whole_room m = c.room-room.ensures ∙ ap log.room_of s.sizes.segment in
    let left : c.left-left.result ≡ left_room m = c.left-left.ensures ∙ left-is g.R.RowSet state m s in
    let number : state.view.number ≡ number_of m = view-number g.R.RowSet state.view m s.view in
    let logged = c.in-Ok-log.ensures.logged in
    let after : Timeline = with_commit m.timeline nf m.timeline.begun in
    let more : timeline.number_of after ≡ number_of m + 1 = omega (arith, length-append m.timeline.history (commits nf ∷ [])) in (
      passed _ _ _ _ (is-not_lt (whole_room m) (charge_of nf) (omega (arith, c.if-charge-room.false, charge, room)))
          (passed _ _ _ _ (is-not_lt (left_room m) (charge_of nf) (omega (arith, c.if-charge-left.false, charge, left))) refl),
      c.in-Ok-log.ensures.number ∙ ap (λ (n : ℕ). n + 1) number,
      λ has.
          logged-serves g.R.RowSet c.commits_happen.ensures state c.log.new.self m (committing_write m write) (write ∷ []) m.timeline.begun refl sound
          c.number-last.ensures.known s
          (rooted-last m.timeline.base.number m.timeline.history (commits nf)
          (c.conflicts_are_of_transactions.ensures.roots m.timeline sound.stands.base.rising sound.stands.isolated sound.stands.rooted (moves.write_out write) has))
          (record {
            above = s.locks.above;
            stand =
                subst (λ (l : KeyLocks). StandFor l after s.locks.above) (sym logged.locks)
                ((c.locks_stand_after_moves.ensures.others state.locks m.timeline s.locks.above s.locks.stand).1 sound.stands.isolated write);
            reach =
                subst (λ l. AreBetween s.locks.above (timeline.number_of after) l.items) (sym logged.live)
                (between-higher s.locks.above (number_of m) (timeline.number_of after) state.live.items (omega (arith, more)) s.locks.reach);
          })
          (ap (λ l. l.items) logged.live ∙ s.live) (logged.begins ∙ s.begins)
          (logged.view ∙ ap (views.committed state.view) writes)
          (logged.charge ∙ ap (λ (w : List Write). state.charge + charge_of w) writes)
          (logged.waiting ∙ ap (λ (w : List Write). with_entry state.waiting (entry_with (state.view.number + 1) w)) writes)
          logged.safe logged.is_broken logged.cursors logged.sizes,
    )
