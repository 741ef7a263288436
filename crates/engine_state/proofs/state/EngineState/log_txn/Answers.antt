use Rattle.std.proofs.Common.{◌≡◌, refl, sym, ap, ◌∙◌, subst, arith, ℕ, ◌+◌, not, ◌==◌, List, [], ◌∷◌, ◌++◌, map, set, length-append}
use Rattle.std.specs.List.{filter}
use Rattle.std.proofs.lemmas.List.{length-set}
use Rattle.hse_rows.specs.declared.write.Write.{Write}
use Rattle.hse_rows.specs.writes.NormalForm.{normal_form}
use Rattle.hse_rows.specs.writes.Charge.{charge_of}
use Rattle.hse_rows.specs.states.History.{commits}
use Rattle.hse_rows.specs.transactions.Moves as moves
use Rattle.hse_rows.specs.transactions.Transaction.{committed, ended}
use Rattle.hse_rows.specs.transactions.Timeline.{Timeline, IsActive, moved, number_of}
use Rattle.key_locks.specs.declared.locks.KeyLocks.{KeyLocks}
use Rattle.key_locks.specs.Locks.{writes_of, commits_of}
use Rattle.key_locks.specs.Standing.{StandFor, without_locks}
use Rattle.view.specs.Commits as views
use Rattle.wal.specs.Logged.{entry_with}
use Rattle.wal.specs.Waits.{with_entry}
use Rattle.engine_state.specs.declared.live.LiveTxn.{LiveTxn}
use Rattle.engine_state.specs.Kept.{least_of}
use Rattle.engine_state.specs.Serves.{AreBetween}
use Rattle.engine_state.proofs.LeaveLemmas.{in-order}
use Rattle.engine_state.proofs.LiveLemmas.{between-filter, between-higher}
use Rattle.engine_state.proofs.SoundLemmas.{view-number}
use Rattle.engine_state.proofs.EndLemmas.{pruned-locks, live-left}
use Rattle.engine_state.proofs.CommitLemmas.{with_commit, commit-to, done-commit, written-before, logged-serves}
use Rattle.engine_state.proofs.state.EngineState.log_txn.Goals as goal

pub returns-clause-logged : goal.returns-clause-logged
returns-clause-logged g c m transaction sound s of going some =
    let state = c.args.self.now in
    let mid = c.log.new.self in
    let order = c.args.txn.now.id in
    let nf = normal_form transaction.writes in
    let above = s.locks.above in
    let begun = set m.timeline.begun order (ended transaction (committed (number_of m.timeline + 1))) in
    let after : Timeline = with_commit m.timeline nf begun in
    let logged = c.in-Ok-log.ensures.logged in
    let writes : c.writes.result.now ≡ nf = c.writes.ensures ∙ of.stands.writes in
    let number : state.view.number ≡ number_of m.timeline = view-number g.R.RowSet state.view m s.view in
    let told : c.in-Ok-log.number ≡ number_of m.timeline + 1 = c.in-Ok-log.ensures.number ∙ ap (λ (n : ℕ). n + 1) number in
    let more : number_of after ≡ number_of m.timeline + 1 = omega (arith, length-append m.timeline.history (commits nf ∷ [])) in
    let active : IsActive m.timeline order transaction = record { at = of.at; going = going } in
    let reserved : StandFor c.reserve_commit.new.self m.timeline above =
    c.locks_stand_as_before.ensures.same state.locks c.reserve_commit.new.self m.timeline above s.locks.stand
    (record { held = c.reserve_commit.ensures.writes; logged = c.reserve_commit.ensures.commits; least = c.reserve_commit.ensures.least }) in
    let stands : StandFor mid.locks m.timeline above = subst (λ (l : KeyLocks). StandFor l m.timeline above) (sym logged.locks) reserved in
    let noted : commits_of c.commit.new.self ≡ commits_of mid.locks ++ map (λ (w : Write). (number_of m.timeline + 1, w)) (writes_of mid.locks order) =
    c.commit.ensures.commits
    ∙ ap (λ (n : ℕ). commits_of mid.locks ++ map (λ (w : Write). (n, w)) (writes_of mid.locks c.id-order.result)) told
    ∙ ap (λ (o : ℕ). commits_of mid.locks ++ map (λ (w : Write). (number_of m.timeline + 1, w)) (writes_of mid.locks o)) c.id-order.ensures in
    let ends : StandFor c.commit.new.self (moved m.timeline (moves.commit order)) above =
    c.locks_stand_after_ends.ensures.committed mid.locks c.commit.new.self m.timeline above stands order transaction active some
    (record {
      held = λ other. c.commit.ensures.writes other ∙ ap (λ n. without_locks mid.locks n other) c.id-order.ensures;
      logged = noted;
      least = c.commit.ensures.least;
    }) in
    let items = c.leave.new.live.items in
    let left : items ≡ filter (λ (l : LiveTxn). not (l.order == order)) state.live.items =
    c.leave.ensures (in-order m sound mid.live.items (ap (λ l. l.items) logged.live ∙ s.live)) ∙ ap (λ n. filter (λ (l : LiveTxn). not (l.order == n)) mid.live.items) c.id-order.ensures
    ∙ ap (λ l. filter (λ (t : LiveTxn). not (t.order == order)) l.items) logged.live in
    let reach : AreBetween above (number_of after) items =
    subst (AreBetween above (number_of after)) (sym left)
    (between-higher above (number_of m.timeline) (number_of after) _ (omega (arith, more))
    (between-filter above (number_of m.timeline) (λ (l : LiveTxn). not (l.order == order)) state.live.items s.locks.reach)) in
    let least : c.least_of-least.result ≡ least_of (number_of after) items =
    c.least_of-least.ensures ∙ ap (least_of c.in-Ok-log.number) c.deref.ensures.value
    ∙ ap (λ n. least_of n items) (told ∙ sym more) in
    let locks =
    pruned-locks c.locks_stand_as_before.ensures.pruned c.commit.new.self c.prune.new.self after above items c.least_of-least.result
    (subst (λ (l : Timeline). StandFor c.commit.new.self l above) (commit-to m.timeline order transaction of.at some) ends) reach least
    c.prune.ensures.commits c.prune.ensures.least c.prune.ensures.writes in
    logged-serves g.R.RowSet c.commits_happen.ensures state _ m _ transaction.writes begun (done-commit m order transaction of.at some) sound
    c.number-last.ensures.known s (written-before c.conflicts_are_of_transactions.ensures.roots m sound order transaction active some) locks
    (left ∙ live-left m sound order transaction (committed (number_of m.timeline + 1)) of.at refl state.live.items s.live)
    (logged.begins ∙ s.begins ∙ sym (length-set m.timeline.begun order (ended transaction (committed (number_of m.timeline + 1)))))
    (logged.view ∙ ap (views.committed state.view) writes)
    (logged.charge ∙ ap (λ (w : List Write). state.charge + charge_of w) writes)
    (logged.waiting ∙ ap (λ (w : List Write). with_entry state.waiting (entry_with (state.view.number + 1) w)) writes)
    logged.safe logged.is_broken logged.cursors logged.sizes
