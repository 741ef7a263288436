-- A creation or a drop happens.
use Rattle.std.proofs.Common.{◌≡◌, ◌≤◌, ◌+◌, ◌-◌, refl, sym, ap, ◌∙◌, subst, arith, ℕ, List, [], ◌∷◌, ◌++◌, length, length-append, drop}
use Rattle.std.proofs.Math.Seq.{drop-length}
use Rattle.hse_rows.specs.declared.row_set.RowSet.{Ghosts}
use Rattle.hse_rows.specs.states.History.{Event, creates, drops}
use Rattle.hse_rows.specs.transactions.Moves.{Move}
use Rattle.hse_rows.specs.transactions.Moves as moves
use Rattle.hse_rows.specs.transactions.Timeline.{Timeline, with_event, moved, number_of}
use Rattle.hse_rows.specs.machine.Log.{Numbered}
use Rattle.hse_rows.specs.machine.Recorded.{commits_in}
use Rattle.hse_rows.specs.machine.Core.{Core, with_move}
use Rattle.key_locks.specs.Standing.{StandFor}
use Rattle.key_locks.specs.laws.Laws.{OtherMovesStand}
use Rattle.wal.specs.Waits.{waiting_of}
use Rattle.engine_state.specs.declared.state.EngineState.{EngineState}
use Rattle.engine_state.specs.Serves.{commits_above, entries_of, AreBetween, ViewServes, ServesAbove}
use Rattle.engine_state.specs.Stores.{IsOfStores}
use Rattle.engine_state.proofs.LiveLemmas.{between-higher}
use Rattle.engine_state.proofs.LoggedLemmas.{above-create}

-- no event follows the last
pub above-last : (t : Timeline) → commits_above t (number_of t) ≡ []
above-last t =
    let all : t.base.number + length t.history - t.base.number ≡ length t.history = omega arith in
    ap (λ (l : List Event). commits_in (number_of t + 1) l) (ap (λ (n : ℕ). drop n t.history) all ∙ drop-length t.history)

module _ {R : Type 0} (g : Ghosts R) (old new : EngineState R g) (locks : new.locks ≡ old.locks) (live : new.live ≡ old.live)
    (begins : new.begins ≡ old.begins) (charge : new.charge ≡ old.charge) (waiting : new.waiting ≡ old.waiting) (safe : new.safe ≡ old.safe)
    (is_broken : new.is_broken ≡ old.is_broken) (cursors : new.cursors ≡ old.cursors) (sizes : new.sizes ≡ old.sizes) where
  -- an event that is no commit
  by-event : (m : Core) (event : Event) → ((n : ℕ) → commits_in n (event ∷ []) ≡ []) → (handed later : ℕ)
      → commits_above (with_event m.timeline event) later ≡ commits_above m.timeline handed → (s : ServesAbove g old m handed)
      → StandFor old.locks (with_event m.timeline event) s.locks.above → ViewServes g new.view (record m { timeline = with_event m.timeline event })
      → ServesAbove g new (record m { timeline = with_event m.timeline event }) later
  by-event m event none handed later above s stand view =
      let more : length (m.timeline.history ++ event ∷ []) ≡ length m.timeline.history + 1 = length-append m.timeline.history (event ∷ []) in
      record {
        view = view;
        locks = record {
          above = s.locks.above;
          stand = subst (λ l. StandFor l (with_event m.timeline event) s.locks.above) (sym locks) stand;
          reach =
              subst (λ l. AreBetween s.locks.above (number_of (with_event m.timeline event)) l.items) (sym live)
              (between-higher s.locks.above (number_of m.timeline) (number_of (with_event m.timeline event)) old.live.items (omega (arith, more)) s.locks.reach);
        };
        live = ap (λ l. l.items) live ∙ s.live;
        begins = begins ∙ s.begins;
        charge = charge ∙ s.charge;
        waits = λ whole. waiting ∙ s.waits whole ∙ ap (λ (l : List Numbered). waiting_of (entries_of l)) (sym above);
        safe = safe ∙ s.safe;
        is_broken = is_broken ∙ s.is_broken;
        cursors = cursors ∙ s.cursors;
        sizes = record { slot = ap (λ x. x.slot_size) sizes ∙ s.sizes.slot; segment = ap (λ x. x.segment_size) sizes ∙ s.sizes.segment; stores = ap (λ x. x.most_stores) sizes ∙ s.sizes.stores };
      }

  -- what waits is as it was
  pub entered : OtherMovesStand → (m : Core) (handed : ℕ) (move : Move) → IsOfStores move → m.timeline.base.number ≤ handed → handed ≤ number_of m.timeline
      → ServesAbove g old m handed → ViewServes g new.view (with_move m move) → ServesAbove g new (with_move m move) handed
  entered others m handed (moves.create name mode prefix) is low high s view =
      by-event m (creates name mode prefix) (λ n. refl) handed handed
      (above-create m.timeline.base m.timeline.history handed low high (creates name mode prefix) (λ n. refl)) s
      ((others old.locks m.timeline s.locks.above s.locks.stand).2 name mode prefix) view
  entered others m handed (moves.remove id) is low high s view =
      by-event m (drops id) (λ n. refl) handed handed
      (above-create m.timeline.base m.timeline.history handed low high (drops id) (λ n. refl)) s
      ((others old.locks m.timeline s.locks.above s.locks.stand).3 id) view
  entered others m handed moves.begin is low high s view = absurd is
  entered others m handed (moves.write_in order write) is low high s view = absurd is
  entered others m handed (moves.write_out write) is low high s view = absurd is
  entered others m handed (moves.commit order) is low high s view = absurd is
  entered others m handed (moves.abort order) is low high s view = absurd is

  -- and where all was handed over, so is the event
  pub entered-last : OtherMovesStand → (m : Core) (move : Move) → IsOfStores move
      → ServesAbove g old m (number_of m.timeline) → ViewServes g new.view (with_move m move)
      → ServesAbove g new (with_move m move) (number_of (moved m.timeline move))
  entered-last others m (moves.create name mode prefix) is s view =
      let after = with_event m.timeline (creates name mode prefix) in
      by-event m (creates name mode prefix) (λ n. refl) (number_of m.timeline) (number_of after) (above-last after ∙ sym (above-last m.timeline)) s
      ((others old.locks m.timeline s.locks.above s.locks.stand).2 name mode prefix) view
  entered-last others m (moves.remove id) is s view =
      let after = with_event m.timeline (drops id) in
      by-event m (drops id) (λ n. refl) (number_of m.timeline) (number_of after) (above-last after ∙ sym (above-last m.timeline)) s
      ((others old.locks m.timeline s.locks.above s.locks.stand).3 id) view
  entered-last others m moves.begin is s view = absurd is
  entered-last others m (moves.write_in order write) is s view = absurd is
  entered-last others m (moves.write_out write) is s view = absurd is
  entered-last others m (moves.commit order) is s view = absurd is
  entered-last others m (moves.abort order) is s view = absurd is
