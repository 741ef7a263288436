use Rattle.std.proofs.Common.{◌≡◌, refl, sym, ap, ◌∙◌, subst, not, ◌==◌}
use Rattle.std.specs.List.{filter}
use Rattle.hse_rows.specs.transactions.Moves as moves
use Rattle.hse_rows.specs.transactions.Transaction.{aborted, committed, ended}
use Rattle.hse_rows.specs.transactions.Timeline.{Timeline, with_transaction, moved, number_of}
use Rattle.key_locks.specs.Standing.{StandFor, without_locks}
use Rattle.engine_state.specs.declared.live.LiveTxn.{LiveTxn}
use Rattle.engine_state.specs.Kept.{least_of}
use Rattle.engine_state.specs.Serves.{AreBetween}
use Rattle.engine_state.proofs.LiveLemmas.{between-filter}
use Rattle.engine_state.proofs.LeaveLemmas.{in-order}
use Rattle.engine_state.proofs.SoundLemmas.{view-number}
use Rattle.engine_state.proofs.EndLemmas.{aborts-to, commits-to, pruned-locks, live-left, ended-serves}
use Rattle.engine_state.proofs.state.EngineState.release.Goals as goal

pub returns-clause-aborts : goal.returns-clause-aborts
returns-clause-aborts g c m transaction sound s of going =
    let order = c.args.txn.now.id in
    let t = ended transaction aborted in
    let then = with_transaction m.timeline order t in
    let to : moved m.timeline (moves.abort order) ≡ then = aborts-to m.timeline order transaction of.at in
    let left : c.leave.new.live.items ≡ filter (λ (l : LiveTxn). not (l.order == order)) c.args.self.now.live.items =
    c.leave.ensures (in-order m sound c.args.self.now.live.items s.live) ∙ ap (λ n. filter (λ (l : LiveTxn). not (l.order == n)) c.args.self.now.live.items) c.id-order.ensures in
    let reach : AreBetween s.locks.above (number_of m.timeline) c.leave.new.live.items =
    subst (AreBetween s.locks.above (number_of m.timeline)) (sym left) (between-filter s.locks.above (number_of m.timeline) _ c.args.self.now.live.items s.locks.reach) in
    let released : StandFor c.release.new.self (moved m.timeline (moves.abort order)) s.locks.above =
    (c.locks_stand_after_ends.ensures.released c.args.self.now.locks c.release.new.self m.timeline s.locks.above s.locks.stand order transaction
    (record { at = of.at; going = going })
    (record {
      held = λ other. c.release.ensures.writes other ∙ ap (λ n. without_locks c.args.self.now.locks n other) c.id-order.ensures;
      logged = c.release.ensures.commits;
      least = c.release.ensures.least;
    })).0 in
    let least : c.least_of-least.result ≡ least_of (number_of m.timeline) c.leave.new.live.items =
    c.least_of-least.ensures ∙ ap (least_of c.number.result) c.deref.ensures.value
    ∙ ap (λ n. least_of n c.leave.new.live.items) (c.number.ensures.number ∙ view-number g.R.RowSet c.args.self.now.view m s.view) in
    let locks =
    pruned-locks c.locks_stand_as_before.ensures.pruned c.release.new.self c.prune.new.self then s.locks.above c.leave.new.live.items c.least_of-least.result
    (subst (λ (l : Timeline). StandFor c.release.new.self l s.locks.above) to released) reach least
    c.prune.ensures.commits c.prune.ensures.least c.prune.ensures.writes in
    ended-serves g.R.RowSet c.args.self.now _ m order t _ to s locks
    (left ∙ live-left m sound order transaction aborted of.at refl c.args.self.now.live.items s.live)
    refl refl refl refl refl refl refl refl

pub returns-clause-commits : goal.returns-clause-commits
returns-clause-commits g c m transaction sound s of going none =
    let order = c.args.txn.now.id in
    let t = ended transaction (committed transaction.snapshot) in
    let then = with_transaction m.timeline order t in
    let to : moved m.timeline (moves.commit order) ≡ then = commits-to m.timeline order transaction of.at none in
    let left : c.leave.new.live.items ≡ filter (λ (l : LiveTxn). not (l.order == order)) c.args.self.now.live.items =
    c.leave.ensures (in-order m sound c.args.self.now.live.items s.live) ∙ ap (λ n. filter (λ (l : LiveTxn). not (l.order == n)) c.args.self.now.live.items) c.id-order.ensures in
    let reach : AreBetween s.locks.above (number_of m.timeline) c.leave.new.live.items =
    subst (AreBetween s.locks.above (number_of m.timeline)) (sym left) (between-filter s.locks.above (number_of m.timeline) _ c.args.self.now.live.items s.locks.reach) in
    let released : StandFor c.release.new.self (moved m.timeline (moves.commit order)) s.locks.above =
    (c.locks_stand_after_ends.ensures.released c.args.self.now.locks c.release.new.self m.timeline s.locks.above s.locks.stand order transaction
    (record { at = of.at; going = going })
    (record {
      held = λ other. c.release.ensures.writes other ∙ ap (λ n. without_locks c.args.self.now.locks n other) c.id-order.ensures;
      logged = c.release.ensures.commits;
      least = c.release.ensures.least;
    })).1 none in
    let least : c.least_of-least.result ≡ least_of (number_of m.timeline) c.leave.new.live.items =
    c.least_of-least.ensures ∙ ap (least_of c.number.result) c.deref.ensures.value
    ∙ ap (λ n. least_of n c.leave.new.live.items) (c.number.ensures.number ∙ view-number g.R.RowSet c.args.self.now.view m s.view) in
    let locks =
    pruned-locks c.locks_stand_as_before.ensures.pruned c.release.new.self c.prune.new.self then s.locks.above c.leave.new.live.items c.least_of-least.result
    (subst (λ (l : Timeline). StandFor c.release.new.self l s.locks.above) to released) reach least
    c.prune.ensures.commits c.prune.ensures.least c.prune.ensures.writes in
    ended-serves g.R.RowSet c.args.self.now _ m order t _ to s locks
    (left ∙ live-left m sound order transaction (committed transaction.snapshot) of.at refl c.args.self.now.live.items s.live)
    refl refl refl refl refl refl refl refl
