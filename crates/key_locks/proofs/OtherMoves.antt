-- Locks stand for a timeline after a begin, and after what is done outside of transactions.
use Rattle.std.proofs.Common.{◌≡◌, ◌≢◌, ℕ, ◌+◌, ◌-◌, true, [], ◌∷◌, ◌++◌, length, Option, Some, None, refl, sym, ◌∙◌, ap, subst, ◌⊎◌, inl, inr, arith}
use Rattle.std.specs.List.{slice_get}
use Rattle.std.proofs.Math.Bool.{true≢false}
use Rattle.std.proofs.lemmas.Option.{slice_get_past, same_Some}
use Rattle.hse_rows.specs.declared.write.Write.{Write}
use Rattle.hse_rows.specs.writes.NormalForm.{normal_form}
use Rattle.hse_rows.specs.writes.Overlap.{overlaps_some}
use Rattle.hse_rows.specs.states.History.{Event, commits, creates, drops}
use Rattle.hse_rows.specs.transactions.Transaction.{committed, Transaction, begins}
use Rattle.hse_rows.specs.transactions.Timeline.{Timeline, number_of, with_event}
use Rattle.hse_rows.specs.transactions.Isolation.{IsCommitted, IsIsolated}
use Rattle.hse_rows.specs.transactions.Sources.{IsOfTransaction}
use Rattle.hse_rows.specs.laws.Laws.{NormalFormsOverlapTheSame}
use Rattle.key_locks.specs.declared.locks.KeyLocks.{KeyLocks}
use Rattle.key_locks.specs.Locks.{writes_of}
use Rattle.key_locks.specs.Standing.{active_writes, written, StandFor}
use Rattle.key_locks.specs.laws.Laws.{OtherMovesStand}
use Rattle.key_locks.proofs.PlaceLemmas.{get-more}
use Rattle.key_locks.proofs.StandLemmas.{wrote, stand-same, stand-more}
use Rattle.key_locks.proofs.StandMoves.{active_is_not}

module _ (the_same : NormalFormsOverlapTheSame) where
  module _ (locks : KeyLocks) (m : Timeline) (above : ℕ) (stand : StandFor locks m above) where
    begun_active : (order : ℕ) (write : Write) → overlaps_some write (writes_of locks order)
        ≡ overlaps_some write (active_writes (slice_get (m.begun ++ begins (length m.begun) (number_of m) ∷ []) order))
    begun_active order write = by (get-more m.begun (begins (length m.begun) (number_of m)) order)
      where
        by : ((order ≢ length m.begun) × (slice_get (m.begun ++ begins (length m.begun) (number_of m) ∷ []) order ≡ slice_get m.begun order))
            ⊎ ((order ≡ length m.begun) × (slice_get (m.begun ++ begins (length m.begun) (number_of m) ∷ []) order ≡ Some (begins (length m.begun) (number_of m))))
            → overlaps_some write (writes_of locks order)
            ≡ overlaps_some write (active_writes (slice_get (m.begun ++ begins (length m.begun) (number_of m) ∷ []) order))
        by (inl before) =
            stand.active order write ∙ ap (λ (found : Option Transaction). overlaps_some write (active_writes found)) (sym before.1)
        by (inr last) =
            stand.active order write
            ∙ ap (λ (found : Option Transaction). overlaps_some write (active_writes found)) (slice_get_past m.begun order (let at = last.0 in omega (arith, at)))
            ∙ ap (λ (found : Option Transaction). overlaps_some write (active_writes found)) (sym last.1)

    begun_kept : (order number : ℕ) (other : Transaction) → slice_get (m.begun ++ begins (length m.begun) (number_of m) ∷ []) order ≡ Some other
        → other.state ≡ committed number → other.writes ≢ [] → slice_get m.begun order ≡ Some other
    begun_kept order number other at did some = by (get-more m.begun (begins (length m.begun) (number_of m)) order)
      where
        by : ((order ≢ length m.begun) × (slice_get (m.begun ++ begins (length m.begun) (number_of m) ∷ []) order ≡ slice_get m.begun order))
            ⊎ ((order ≡ length m.begun) × (slice_get (m.begun ++ begins (length m.begun) (number_of m) ∷ []) order ≡ Some (begins (length m.begun) (number_of m))))
            → slice_get m.begun order ≡ Some other
        by (inl before) = sym before.1 ∙ at
        by (inr last) =
            let same : begins (length m.begun) (number_of m) ≡ other = same_Some (begins (length m.begun) (number_of m)) other (sym last.1 ∙ at) in
            absurd (active_is_not number (ap (λ (t : Transaction). t.state) same ∙ did))

    begun_stand : StandFor locks (record { base = m.base; history = m.history; begun = m.begun ++ begins (length m.begun) (number_of m) ∷ [] }) above
    begun_stand = stand-same the_same locks locks m above stand refl (m.begun ++ begins (length m.begun) (number_of m) ∷ []) begun_active refl begun_kept

    event_stand : (event : Event)
        → ((write : Write) → IsOfTransaction (with_event m event) (number_of m + 1) (written (Some event)) → overlaps_some write (written (Some event)) ≡ true → ⊥)
        → StandFor locks (with_event m event) above
    event_stand event never =
        stand-more the_same locks locks m above stand refl m.begun stand.active event
        (λ number write has. inl has) (λ number write has. has) (λ order number other at did some. inl at)
        (λ write of_one over. absurd (never write of_one over))

    no_commit : IsIsolated m → (event : Event) (write : Write) → IsOfTransaction (with_event m event) (number_of m + 1) (written (Some event))
        → overlaps_some write (written (Some event)) ≡ true → ⊥
    no_commit isolated event write of_one over =
        let recorded : IsCommitted m.base m.history of_one.transaction.writes (committed (number_of m + 1)) =
        subst (IsCommitted m.base m.history of_one.transaction.writes) of_one.did (isolated.each of_one.order of_one.transaction of_one.at).recorded in
        let there = recorded (wrote the_same write (written (Some event)) of_one.transaction of_one.form over) in
        none_is (sym (slice_get_past m.history (number_of m + 1 - (m.base.number + 1)) (omega arith)) ∙ there.1)
      where
        none_is : None ≡ Some (commits (normal_form of_one.transaction.writes)) → ⊥
        none_is at = cc

  pub others-stand : OtherMovesStand
  others-stand locks m above stand = (
    begun_stand locks m above stand,
    λ isolated write. event_stand locks m above stand (commits (normal_form (write ∷ [])))
        (no_commit locks m above stand isolated (commits (normal_form (write ∷ [])))),
    λ name mode prefix_length. event_stand locks m above stand (creates name mode prefix_length) (λ write of_one over. true≢false (sym over)),
    λ id. event_stand locks m above stand (drops id) (λ write of_one over. true≢false (sym over)),
  )
