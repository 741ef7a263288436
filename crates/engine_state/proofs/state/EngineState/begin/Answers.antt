use Rattle.std.proofs.Common.{◌≡◌, ℕ, ◌+◌, ◌<◌, ◌||◌, nat_le, length, length-append, map, slice_get, Some, List, [], ◌∷◌, ◌++◌, refl, sym, ap, ◌∙◌, subst, arith}
use Rattle.std.proofs.lemmas.List.{length-map}
use Rattle.hse_rows.specs.states.History.{fold}
use Rattle.hse_rows.specs.transactions.Transaction as machine
use Rattle.hse_rows.specs.machine.Replies as answer
use Rattle.hse_rows.specs.machine.Core.{number_of, live, most_transactions, greatest_number}
use Rattle.hse_rows.specs.laws.Folding.{fold-last}
use Rattle.view.specs.Means.{state_of}
use Rattle.transactions.specs.Txns.{TxnKept, begins}
use Rattle.transactions.specs.Stands.{StandsFor}
use Rattle.engine_state.specs.declared.live.LiveTxn.{LiveTxn}
use Rattle.engine_state.specs.Serves.{AreBetween, live_of}
use Rattle.engine_state.proofs.LiveLemmas.{between-push, live-push, get-last}
use Rattle.engine_state.proofs.RefusalLemmas.{passed, is-not_le}
use Rattle.engine_state.proofs.SoundLemmas.{view-number}
use Rattle.engine_state.proofs.state.EngineState.begin.Goals as goal

pub returns-clause-step : goal.returns-clause-step
returns-clause-step g c m sound s =
    let number : c.args.self.now.view.number ≡ number_of m = view-number g.R.RowSet c.args.self.now.view m s.view in
    let same : c.in-Ok.view.number ≡ c.args.self.now.view.number = ap (λ v. v.number) c.in-Ok.ensures in
    let count : length c.args.self.now.live.items ≡ length (live m) = ap length s.live ∙ length-map (live m) live_of in
    let few : length (live m) < most_transactions = omega (arith, c.if-len-ge-MOST_TRANSACTIONS.false, c.len.ensures, c.args.self.now.live.ok.0, count) in
    let low : number_of m < greatest_number = omega (arith, c.if-number-ge-GREATEST_NUMBER.false, c.number.ensures.number, number) in
    let begun : length m.timeline.begun < greatest_number = omega (arith, c.if-self-ge-GREATEST_NUMBER.false, s.begins) in
    let snapshot : c.number-snapshot.result ≡ number_of m = c.number-snapshot.ensures.number ∙ same ∙ number in
    let txn : LiveTxn = record { order = c.args.self.now.begins; snapshot = c.number-snapshot.result } in
    let items : c.push.new.self.items ≡ c.args.self.now.live.items ++ txn ∷ [] = c.in-Ok-push.ensures.items in
    record {
      unrefused =
          passed _ _ _ _ (is-not_le most_transactions (length (live m)) few)
          (passed _ _ _ _ (ap (λ a. a || nat_le greatest_number (length m.timeline.begun)) (is-not_le greatest_number (number_of m) low)
          ∙ is-not_le greatest_number (length m.timeline.begun) begun) refl);
      replied = ap answer.ok (ap (λ t. t.view.number) c.begin.ensures ∙ same ∙ number);
      serves = record {
        view = record { state = s.view.state; stores = s.view.stores };
        locks = record {
          above = s.locks.above;
          stand = (c.locks_stand_after_moves.ensures.others _ m.timeline s.locks.above s.locks.stand).0;
          reach = subst (AreBetween s.locks.above (number_of m)) (sym items) (between-push s.locks.above (number_of m) c.args.self.now.live.items txn s.locks.reach snapshot);
        };
        live =
            items ∙ ap (λ (l : List LiveTxn). l ++ txn ∷ []) s.live
            ∙ ap (λ (t : LiveTxn). map live_of (live m) ++ t ∷ []) (λ i. record { order = s.begins i; snapshot = snapshot i })
            ∙ sym (live-push m.timeline.begun (length m.timeline.begun) (number_of m));
        begins = ap (λ (n : ℕ). n + 1) s.begins ∙ sym (length-append m.timeline.begun (machine.begins (length m.timeline.begun) (number_of m) ∷ []));
        charge = s.charge;
        waits = s.waits;
        safe = s.safe;
        is_broken = s.is_broken;
        cursors = s.cursors;
        sizes = s.sizes;
      };
    }

pub returns-clause-txn : goal.returns-clause-txn
returns-clause-txn g c m sound s =
    let number : c.args.self.now.view.number ≡ number_of m = view-number g.R.RowSet c.args.self.now.view m s.view in
    let order : c.args.self.now.begins ≡ length m.timeline.begun = s.begins in
    let begun = m.timeline.begun in
    let last = machine.begins (length begun) (number_of m) in
    let same : machine.begins c.args.self.now.begins c.args.self.now.view.number ≡ last = ap (λ o. machine.begins o c.args.self.now.view.number) order ∙ ap (machine.begins (length begun)) number in
    let view : state_of g.R.RowSet.rows c.in-Ok.view ≡ fold m.timeline.base m.timeline.history c.in-Ok.view.number =
    ap (state_of g.R.RowSet.rows) c.in-Ok.ensures ∙ s.view.state ∙ sym (fold-last m.timeline.base m.timeline.history)
    ∙ ap (fold m.timeline.base m.timeline.history) (sym number ∙ sym (ap (λ v. v.number) c.in-Ok.ensures)) in
    record {
      at =
          ap (λ (t : TxnKept _). slice_get (begun ++ last ∷ []) t.id) c.begin.ensures ∙ ap (slice_get (begun ++ last ∷ [])) order
          ∙ get-last begun last ∙ ap Some (sym same);
      stands =
          subst (λ t. StandsFor g.R.RowSet.rows m.timeline.base m.timeline.history t (machine.begins c.args.self.now.begins c.args.self.now.view.number)) (sym c.begin.ensures)
          (subst (λ n. StandsFor g.R.RowSet.rows m.timeline.base m.timeline.history (begins c.args.self.now.begins c.in-Ok.view) (machine.begins c.args.self.now.begins n))
          (ap (λ v. v.number) c.in-Ok.ensures)
          (c.transactions_stand.ensures.begins m.timeline.base m.timeline.history c.in-Ok.view c.args.self.now.begins view));
    }
