-- Moves keep the sources of commits, and a conflict of a `tx` store is with a transaction.
use Rattle.std.proofs.Common.{◌≡◌, ℕ, ◌+◌, ◌-◌, ◌<◌, ◌≤◌, ◌==◌, Bool, true, false, ◌||◌, List, [], ◌∷◌, ◌++◌, length, take, drop, set, Option, Some, None, refl, sym, ◌∙◌, ap, subst, ◌⊎◌, inl, inr, arith}
use Rattle.std.specs.List.{slice_get}
use Rattle.std.specs.Cmp.{first_so}
use Rattle.std.proofs.Math.Bool.{true≢false}
use Rattle.std.proofs.Math.Seq.{take-append_seam}
use Rattle.std.proofs.lemmas.List.{take-append-le, take-append-drop, take-take}
use Rattle.std.proofs.lemmas.Option.{slice_get_within}
use Rattle.std.proofs.lemmas.Bool.{eqb-true}
use Rattle.hse_rows.specs.declared.store.Mode.TheVariants.{Plain, Tx}
use Rattle.hse_rows.specs.declared.write.Write.{Write}
use Rattle.hse_rows.specs.writes.NormalForm.{normal_form}
use Rattle.hse_rows.specs.states.State.{State, AreRising}
use Rattle.hse_rows.specs.states.History.{Event, commits, creates, drops, folded}
use Rattle.hse_rows.specs.laws.Folding.{folded-append}
use Rattle.hse_rows.specs.writes.Overlap.{meets, overlaps, overlaps_some}
use Rattle.hse_rows.specs.transactions.Transaction.{TransactionState, active, committed, aborted, Transaction, begins, staged, ended}
use Rattle.hse_rows.specs.transactions.Moves.{Move, begin, write_in, write_out, commit, abort, create, remove}
use Rattle.hse_rows.specs.transactions.Timeline.{Timeline, opened, now, number_of, transaction_of, snapshot_of, HasStore, IsActive, Allows, for_some, with_event, with_transaction, committing, moved, Goes, stays, moves, opens}
use Rattle.hse_rows.specs.transactions.Isolation.{event_of}
use Rattle.hse_rows.specs.transactions.Sources.{IsOfTransaction, IsPlainWrite, IsSourced}
use Rattle.hse_rows.proofs.OverlapLemmas.{overlaps-normal_form}
use Rattle.hse_rows.proofs.PlaceLemmas.{get-append, get_push, get-set_same, get-set_other}
use Rattle.hse_rows.proofs.ModeLemmas.{one_mode, id_within, stood, folded_rising}

active_is_not : (state : TransactionState) (number : ℕ) → state ≡ active → state ≡ committed number → ⊥
active_is_not active number going did = absurd cc
active_is_not (committed other) number going did = absurd cc
active_is_not aborted number going did = absurd cc

module _ (m : Timeline) (good : IsSourced m) (later : List Transaction)
    (kept : (order number : ℕ) (transaction : Transaction) → transaction_of m order ≡ Some transaction → transaction.state ≡ committed number
    → slice_get later order ≡ Some transaction) where
  of_kept : (history : List Event) (number : ℕ) (writes : List Write) → IsOfTransaction m number writes
      → IsOfTransaction (record { base = m.base; history = history; begun = later }) number writes
  of_kept history number writes is = record {
    order = is.order;
    transaction = is.transaction;
    at = kept is.order number is.transaction is.at is.did;
    did = is.did;
    form = is.form;
  }

  -- the same events
  sourced_same : IsSourced (record { base = m.base; history = m.history; begun = later })
  sourced_same place writes at = by (good place writes at)
    where
      by : IsOfTransaction m (m.base.number + (place + 1)) writes ⊎ IsPlainWrite (folded m.base (take place m.history)) writes
          → IsOfTransaction (record { base = m.base; history = m.history; begun = later }) (m.base.number + (place + 1)) writes
          ⊎ IsPlainWrite (folded m.base (take place m.history)) writes
      by (inl is) = inl (of_kept m.history (m.base.number + (place + 1)) writes is)
      by (inr is) = inr is

  module _ (event : Event) where
    -- one event more
    abbrev more : Timeline
    more = record { base = m.base; history = m.history ++ event ∷ []; begun = later }

    sourced_more : ((writes : List Write) → event ≡ commits writes → IsOfTransaction more (number_of m + 1) writes ⊎ IsPlainWrite (now m) writes)
        → IsSourced more
    sourced_more source place writes at = by (get_push m.history event place (commits writes) at)
      where
        old : slice_get m.history place ≡ Some (commits writes)
            → IsOfTransaction m (m.base.number + (place + 1)) writes ⊎ IsPlainWrite (folded m.base (take place m.history)) writes
            → IsOfTransaction more (m.base.number + (place + 1)) writes ⊎ IsPlainWrite (folded m.base (take place (m.history ++ event ∷ []))) writes
        old before (inl is) = inl (of_kept (m.history ++ event ∷ []) (m.base.number + (place + 1)) writes is)
        old before (inr is) =
            let within : place < length m.history = slice_get_within m.history place (commits writes) before in
            inr (subst (λ (events : List Event). IsPlainWrite (folded m.base events) writes)
            (sym (take-append-le place m.history (event ∷ []) (omega (arith, within)))) is)

        new : place ≡ length m.history → IsOfTransaction more (number_of m + 1) writes ⊎ IsPlainWrite (now m) writes
            → IsOfTransaction more (m.base.number + (place + 1)) writes ⊎ IsPlainWrite (folded m.base (take place (m.history ++ event ∷ []))) writes
        new end (inl is) =
            let number : m.base.number + length m.history + 1 ≡ m.base.number + (place + 1) = omega (arith, end) in
            inl (subst (λ (n : ℕ). IsOfTransaction more n writes) number is)
        new end (inr is) =
            inr (subst (λ (events : List Event). IsPlainWrite (folded m.base events) writes)
            (sym (ap (λ (n : ℕ). take n (m.history ++ event ∷ [])) end ∙ take-append_seam m.history (event ∷ []))) is)

        by : (slice_get m.history place ≡ Some (commits writes)) ⊎ ((place ≡ length m.history) × (commits writes ≡ event))
            → IsOfTransaction more (m.base.number + (place + 1)) writes ⊎ IsPlainWrite (folded m.base (take place (m.history ++ event ∷ []))) writes
        by (inl before) = old before (good place writes before)
        by (inr end) = new end.0 (source writes (sym end.1))

-- ---- the moves

abbrev writes_in : Event → List Write → List Write
writes_in (commits writes) otherwise = writes
writes_in (creates name mode prefix_length) otherwise = otherwise
writes_in (drops id) otherwise = otherwise

same_writes : (one other : List Write) → commits one ≡ commits other → other ≡ one
same_writes one other is = sym (ap (λ (e : Event). writes_in e []) is)

abbrev state_in : Option Transaction → TransactionState
state_in None = aborted
state_in (Some transaction) = transaction.state

module _ (m : Timeline) (good : IsSourced m) where
  all_kept : (order number : ℕ) (transaction : Transaction) → transaction_of m order ≡ Some transaction → transaction.state ≡ committed number
      → slice_get m.begun order ≡ Some transaction
  all_kept order number transaction at did = at

  written_sourced : (write : Write) → HasStore (now m) write.store.0 Plain → IsSourced (with_event m (commits (normal_form (write ∷ []))))
  written_sourced write has =
      sourced_more m good m.begun all_kept (commits (normal_form (write ∷ [])))
      (λ writes is. inr (record { write = write; form = same_writes (normal_form (write ∷ [])) writes is; has = has }))

  module _ (order : ℕ) (transaction : Transaction) (is : IsActive m order transaction) where
    -- an active transaction in another form
    others_kept : (new : Transaction) (i number : ℕ) (other : Transaction) → transaction_of m i ≡ Some other → other.state ≡ committed number
        → slice_get (set m.begun order new) i ≡ Some other
    others_kept new i number other at did =
        get-set_other m.begun order i new
        (λ same. active_is_not other.state number
        (ap state_in (sym at ∙ ap (slice_get m.begun) same ∙ is.at) ∙ is.going) did)
        ∙ at

    ended_sourced : (writes : List Write) → transaction.writes ≡ writes → IsSourced (committing m order transaction writes)
    ended_sourced [] none = sourced_same m good (set m.begun order (ended transaction (committed transaction.snapshot))) (others_kept (ended transaction (committed transaction.snapshot)))
    ended_sourced (write ∷ writes) all =
        let new : Transaction = ended transaction (committed (number_of m + 1)) in
        sourced_more m good (set m.begun order new) (others_kept new) (commits (normal_form transaction.writes))
        (λ form same. inl (record {
          order = order;
          transaction = new;
          at = get-set_same m.begun order transaction new is.at;
          did = refl;
          form = same_writes (normal_form transaction.writes) form same;
        }))

    sourced_at : (leads_to : Transaction → Timeline) → IsSourced (leads_to transaction) → IsSourced (for_some (transaction_of m order) m leads_to)
    sourced_at leads_to there = subst (λ (found : Option Transaction). IsSourced (for_some found m leads_to)) (sym is.at) there

  moved_sourced : (move : Move) → Allows m move → IsSourced (moved m move)
  moved_sourced begin allowed =
      let new : Transaction = begins (length m.begun) (number_of m) in
      sourced_same m good (m.begun ++ new ∷ []) (λ order number transaction at did. get-append m.begun (new ∷ []) order transaction at)
  moved_sourced (write_in order write) allowed =
      let new : Transaction = staged allowed.0 write in
      sourced_at order allowed.0 allowed.1 (λ transaction. with_transaction m order (staged transaction write))
      (sourced_same m good (set m.begun order new) (others_kept order allowed.0 allowed.1 new))
  moved_sourced (write_out write) allowed = written_sourced write allowed
  moved_sourced (commit order) allowed =
      sourced_at order allowed.0 allowed.1 (λ transaction. committing m order transaction transaction.writes)
      (ended_sourced order allowed.0 allowed.1 allowed.0.writes refl)
  moved_sourced (abort order) allowed =
      let new : Transaction = ended allowed.0 aborted in
      sourced_at order allowed.0 allowed.1 (λ transaction. with_transaction m order (ended transaction aborted))
      (sourced_same m good (set m.begun order new) (others_kept order allowed.0 allowed.1 new))
  moved_sourced (create name mode prefix_length) allowed =
      sourced_more m good m.begun all_kept (creates name mode prefix_length) (λ writes is. absurd cc)
  moved_sourced (remove id) allowed = sourced_more m good m.begun all_kept (drops id) (λ writes is. absurd cc)

pub opened_sourced : (base : State) → IsSourced (opened base)
opened_sourced base place writes at = absurd cc

pub goes_sourced : (old new : Timeline) → Goes old new → IsSourced old → IsSourced new
goes_sourced old new stays good = good
goes_sourced old new (moves move allowed) good = moved_sourced old good move allowed
goes_sourced old new (opens base) good = opened_sourced base

-- ---- conflicts

-- a plain write before which a `tx` store of its id stood is none
tx_stays : (base : State) (events : List Event) (early late id : ℕ) → AreRising 0 base.number base.stores → early ≤ late
    → HasStore (folded base (take early events)) id Tx → HasStore (folded base (take late events)) id Plain → ⊥
tx_stays base events early late id rising before tx plain =
    let first : State = folded base (take early events) in
    let between : List Event = drop early (take late events) in
    let all : take late events ≡ take early events ++ between =
    sym (take-append-drop early (take late events)) ∙ ap (λ (l : List Event). l ++ between) (take-take early late events before) in
    let there : HasStore (folded first between) id Plain =
    subst (λ (s : State). HasStore s id Plain) (ap (folded base) all ∙ folded-append base (take early events) between) plain in
    let first_rising : AreRising 0 first.number first.stores = folded_rising base (take early events) rising in
    one_mode first id first_rising (stood first between id Plain (id_within first id Tx first_rising tx) there) tx

-- what overlaps one write is of its store
one_store_id : (write other : Write) → overlaps_some write (normal_form (other ∷ [])) ≡ true → other.store.0 ≡ write.store.0
one_store_id write other met = by (overlaps write other) refl (sym (overlaps-normal_form write (other ∷ [])) ∙ met)
  where
    by : (b : Bool) → overlaps write other ≡ b → (b || false) ≡ true → other.store.0 ≡ write.store.0
    by true is e = sym (eqb-true write.store.0 other.store.0 (first_so (write.store.0 == other.store.0) (meets write.change other.change) is))
    by false is e = absurd (true≢false (sym e))

pub conflicts_of_transactions : (m : Timeline) → AreRising 0 m.base.number m.base.stores → IsSourced m
    → (transaction : Transaction) (write : Write) → m.base.number ≤ transaction.snapshot
    → HasStore (snapshot_of m transaction) write.store.0 Tx
    → (number : ℕ) (writes : List Write) → transaction.snapshot < number
    → event_of m.base m.history number ≡ Some (commits writes) → overlaps_some write writes ≡ true
    → IsOfTransaction m number writes
conflicts_of_transactions m rising good transaction write since_base tx number writes after at met =
    by (good (number - (m.base.number + 1)) writes at)
  where
    by : IsOfTransaction m (m.base.number + (number - (m.base.number + 1) + 1)) writes
        ⊎ IsPlainWrite (folded m.base (take (number - (m.base.number + 1)) m.history)) writes
        → IsOfTransaction m number writes
    by (inl is) =
        let same : m.base.number + (number - (m.base.number + 1) + 1) ≡ number = omega (arith, since_base, after) in
        subst (λ (n : ℕ). IsOfTransaction m n writes) same is
    by (inr is) =
        let before : transaction.snapshot - m.base.number ≤ number - (m.base.number + 1) = omega (arith, since_base, after) in
        let same : is.write.store.0 ≡ write.store.0 =
        one_store_id write is.write (subst (λ (ws : List Write). overlaps_some write ws ≡ true) is.form met) in
        absurd (tx_stays m.base m.history (transaction.snapshot - m.base.number) (number - (m.base.number + 1)) write.store.0 rising before tx
        (subst (λ (id : ℕ). HasStore (folded m.base (take (number - (m.base.number + 1)) m.history)) id Plain) same is.has))
