-- Locks that stand for a timeline go on standing.
use Rattle.std.proofs.Common.{◌≡◌, ◌≢◌, ℕ, ◌+◌, ◌-◌, ◌<◌, ◌==◌, ◌&&◌, ◌||◌, Bool, true, false, cond, nat_lt, List, [], ◌∷◌, ◌++◌, length, take, Some, refl, sym, ◌∙◌, ap, ◌⊎◌, inl, inr, arith}
use Rattle.std.specs.List.{slice_get}
use Rattle.std.proofs.Math.Bool.{true≢false}
use Rattle.std.proofs.Math.Seq.{take-append_seam}
use Rattle.std.proofs.lemmas.List.{length-append}
use Rattle.std.proofs.lemmas.Option.{slice_get_past}
use Rattle.hse_rows.specs.declared.write.Write.{Write}
use Rattle.hse_rows.specs.writes.NormalForm.{normal_form}
use Rattle.hse_rows.specs.writes.Overlap.{overlaps, overlaps_some}
use Rattle.hse_rows.specs.states.History.{Event}
use Rattle.hse_rows.specs.transactions.Transaction.{Transaction, committed}
use Rattle.hse_rows.specs.transactions.Timeline.{Timeline, number_of}
use Rattle.hse_rows.specs.transactions.Sources.{IsOfTransaction}
use Rattle.hse_rows.specs.laws.Laws.{NormalFormsOverlapTheSame}
use Rattle.key_locks.specs.declared.locks.KeyLocks.{KeyLocks}
use Rattle.key_locks.specs.Locks.{writes_of, commits_of}
use Rattle.key_locks.specs.Logged.{without_old}
use Rattle.key_locks.specs.Since.{has_commit}
use Rattle.key_locks.specs.Standing.{active_writes, written, written_by, StandFor}
use Rattle.key_locks.specs.laws.Laws.{EmptyLocksStand, UnchangedLocksStand, PrunedLocksStand, UndoneChangesStand}
use Rattle.key_locks.proofs.PlaceLemmas.{get-more}

pub empty-stand : EmptyLocksStand
empty-stand locks none nothing zero_is base = record {
  since_base = omega arith;
  since_prune = omega (arith, zero_is);
  active = λ order write. ap (overlaps_some write) (none order);
  made = λ number write less has. absurd (true≢false (sym has ∙ ap (has_commit write number) nothing));
  logged = λ number write less of_one over. absurd (true≢false (sym over));
}

pub unchanged-stand : UnchangedLocksStand
unchanged-stand old new m above stand left = record {
  since_base = stand.since_base;
  since_prune = (let is = left.least in let was = stand.since_prune in omega (arith, is, was));
  active = λ order write. ap (overlaps_some write) (left.held order) ∙ stand.active order write;
  made = λ number write less has. stand.made number write less (sym (ap (has_commit write number) left.logged) ∙ has);
  logged = λ number write less of_one over. ap (has_commit write number) left.logged ∙ stand.logged number write less of_one over;
}

-- ---- prunes

pruned-has : (write : Write) (number least : ℕ) (commits : List (ℕ × Write)) → least < number
    → has_commit write number (without_old (λ (commit : ℕ × Write). commit.0) least commits) ≡ has_commit write number commits
pruned-has write number least [] less = refl
pruned-has write number least (c ∷ cs) less = by (pruned-has write number least cs less) (nat_lt least c.0) refl
  where
    by : has_commit write number (without_old (λ (commit : ℕ × Write). commit.0) least cs) ≡ has_commit write number cs
        → (b : Bool) → nat_lt least c.0 ≡ b
        → has_commit write number (cond b (c ∷ cs) (without_old (λ (commit : ℕ × Write). commit.0) least cs)) ≡ has_commit write number (c ∷ cs)
    by rest true is = refl
    by rest false is =
        let other : (c.0 == number) ≡ false = grind (arith, is, less) in
        rest ∙ sym (ap (λ (b : Bool). (b && overlaps write c.1) || has_commit write number cs) other)

pub pruned-stand : PrunedLocksStand
pruned-stand old new m above stand least logged bound held = record {
  since_base = (let was = stand.since_base in omega (arith, was));
  since_prune = (let was = stand.since_prune in omega (arith, was, bound));
  active = λ order write. ap (overlaps_some write) (held order) ∙ stand.active order write;
  made = λ number write less has.
      let late : least < number = omega (arith, less) in
      let past : above < number = omega (arith, less) in
      stand.made number write past (sym (ap (has_commit write number) logged ∙ pruned-has write number least (commits_of old) late) ∙ has);
  logged = λ number write less of_one over.
      let late : least < number = omega (arith, less) in
      let past : above < number = omega (arith, less) in
      ap (has_commit write number) logged ∙ pruned-has write number least (commits_of old) late ∙ stand.logged number write past of_one over;
}

-- ---- changes that are taken back

undone : {X : Type 0} (xs ys : List X) → take (length (xs ++ ys) - length ys) (xs ++ ys) ≡ xs
undone xs ys =
    let count : length (xs ++ ys) - length ys ≡ length xs =
    (let is : length (xs ++ ys) ≡ length xs + length ys = length-append xs ys in omega (arith, is)) in
    ap (λ (n : ℕ). take n (xs ++ ys)) count ∙ take-append_seam xs ys

pub undone-stand : UndoneChangesStand
undone-stand old mid new m above stand order writes took left =
    unchanged-stand old new m above stand (record {
      held = λ other. left.held other ∙ by other (other == order) (took.held other);
      logged = left.logged ∙ took.logged;
      least = left.least ∙ took.least;
    })
  where
    by : (other : ℕ) (b : Bool) → writes_of mid other ≡ cond b (writes_of old other ++ writes) (writes_of old other)
        → cond b (take (length (writes_of mid other) - length writes) (writes_of mid other)) (writes_of mid other) ≡ writes_of old other
    by other true is = ap (λ (all : List Write). take (length all - length writes) all) is ∙ undone (writes_of old other) writes
    by other false is = is

-- ---- a timeline that went on

module _ (the_same : NormalFormsOverlapTheSame) where
  -- a commit that something overlaps has writes
  pub wrote : (write : Write) (writes : List Write) (transaction : Transaction) → writes ≡ normal_form transaction.writes
      → overlaps_some write writes ≡ true → transaction.writes ≢ []
  wrote write writes transaction form over none =
      true≢false (sym over ∙ ap (overlaps_some write) form ∙ the_same write transaction.writes ∙ ap (overlaps_some write) none)

  module _ (old new : KeyLocks) (m : Timeline) (above : ℕ) (stand : StandFor old m above) (least : new.least ≡ old.least) (begun : List Transaction)
      (active : (order : ℕ) (write : Write) → overlaps_some write (writes_of new order) ≡ overlaps_some write (active_writes (slice_get begun order))) where
    -- the same events
    pub stand-same : commits_of new ≡ commits_of old
        → ((order number : ℕ) (transaction : Transaction) → slice_get begun order ≡ Some transaction → transaction.state ≡ committed number
        → transaction.writes ≢ [] → slice_get m.begun order ≡ Some transaction)
        → StandFor new (record { base = m.base; history = m.history; begun = begun }) above
    stand-same log kept = record {
      since_base = stand.since_base;
      since_prune = (let was = stand.since_prune in omega (arith, least, was));
      active = active;
      made = λ number write less has. stand.made number write less (sym (ap (has_commit write number) log) ∙ has);
      logged = λ number write less of_one over.
          ap (has_commit write number) log ∙ stand.logged number write less (record {
            order = of_one.order;
            transaction = of_one.transaction;
            at = kept of_one.order number of_one.transaction of_one.at of_one.did
                (wrote write (written_by m number) of_one.transaction of_one.form over);
            did = of_one.did;
            form = of_one.form;
          }) over;
    }

    module _ (event : Event) where
      -- one event more
      abbrev more : Timeline
      more = record { base = m.base; history = m.history ++ event ∷ []; begun = begun }

      at_number : (number : ℕ) → m.base.number < number
          → ((number ≢ number_of m + 1) × (written_by more number ≡ written_by m number))
          ⊎ ((number ≡ number_of m + 1) × (written_by more number ≡ written (Some event)))
      at_number number less = by (get-more m.history event (number - (m.base.number + 1)))
        where
          by : ((number - (m.base.number + 1) ≢ length m.history) × (slice_get (m.history ++ event ∷ []) (number - (m.base.number + 1)) ≡ slice_get m.history (number - (m.base.number + 1))))
              ⊎ ((number - (m.base.number + 1) ≡ length m.history) × (slice_get (m.history ++ event ∷ []) (number - (m.base.number + 1)) ≡ Some event))
              → ((number ≢ number_of m + 1) × (written_by more number ≡ written_by m number))
              ⊎ ((number ≡ number_of m + 1) × (written_by more number ≡ written (Some event)))
          by (inl before) = inl (λ is. before.0 (omega (arith, is, less)), ap written before.1)
          by (inr last) = (let is = last.0 in inr (omega (arith, is, less), ap written last.1))

      past : (number : ℕ) → number ≡ number_of m + 1 → written_by m number ≡ []
      past number is = ap written (slice_get_past m.history (number - (m.base.number + 1)) (omega (arith, is)))

      pub stand-more :
          ((number : ℕ) (write : Write) → has_commit write number (commits_of new) ≡ true
          → (has_commit write number (commits_of old) ≡ true) ⊎ ((number ≡ number_of m + 1) × (overlaps_some write (written (Some event)) ≡ true)))
          → ((number : ℕ) (write : Write) → has_commit write number (commits_of old) ≡ true → has_commit write number (commits_of new) ≡ true)
          → ((order number : ℕ) (transaction : Transaction) → slice_get begun order ≡ Some transaction → transaction.state ≡ committed number
          → transaction.writes ≢ [] → (slice_get m.begun order ≡ Some transaction) ⊎ (number ≡ number_of m + 1))
          → ((write : Write) → IsOfTransaction more (number_of m + 1) (written (Some event)) → overlaps_some write (written (Some event)) ≡ true
          → has_commit write (number_of m + 1) (commits_of new) ≡ true)
          → StandFor new more above
      stand-more fresh stays kept last = record {
        since_base = stand.since_base;
        since_prune = (let was = stand.since_prune in omega (arith, least, was));
        active = active;
        made = λ number write less has. made_by number write less (fresh number write has) (at_number number (let was = stand.since_base in omega (arith, was, less)));
        logged = λ number write less of_one over. logged_by number write less of_one over (at_number number (let was = stand.since_base in omega (arith, was, less)));
      }
        where
          made_by : (number : ℕ) (write : Write) → above < number
              → (has_commit write number (commits_of old) ≡ true) ⊎ ((number ≡ number_of m + 1) × (overlaps_some write (written (Some event)) ≡ true))
              → ((number ≢ number_of m + 1) × (written_by more number ≡ written_by m number))
              ⊎ ((number ≡ number_of m + 1) × (written_by more number ≡ written (Some event)))
              → overlaps_some write (written_by more number) ≡ true
          made_by number write less (inl was) (inl at) = ap (overlaps_some write) at.1 ∙ stand.made number write less was
          made_by number write less (inl was) (inr at) =
              absurd (true≢false (sym (stand.made number write less was) ∙ ap (overlaps_some write) (past number at.0)))
          made_by number write less (inr is) (inl at) = absurd (at.0 is.0)
          made_by number write less (inr is) (inr at) = ap (overlaps_some write) at.1 ∙ is.1

          logged_by : (number : ℕ) (write : Write) → above < number → IsOfTransaction more number (written_by more number)
              → overlaps_some write (written_by more number) ≡ true
              → ((number ≢ number_of m + 1) × (written_by more number ≡ written_by m number))
              ⊎ ((number ≡ number_of m + 1) × (written_by more number ≡ written (Some event)))
              → has_commit write number (commits_of new) ≡ true
          logged_by number write less of_one over (inl at) =
              stays number write (stand.logged number write less (record {
                order = of_one.order;
                transaction = of_one.transaction;
                at = before (kept of_one.order number of_one.transaction of_one.at of_one.did
                    (wrote write (written_by more number) of_one.transaction of_one.form over));
                did = of_one.did;
                form = sym at.1 ∙ of_one.form;
              }) (sym (ap (overlaps_some write) at.1) ∙ over))
            where
              before : (slice_get m.begun of_one.order ≡ Some of_one.transaction) ⊎ (number ≡ number_of m + 1)
                  → slice_get m.begun of_one.order ≡ Some of_one.transaction
              before (inl is) = is
              before (inr is) = absurd (at.0 is)
          logged_by number write less of_one over (inr at) =
              ap (λ (n : ℕ). has_commit write n (commits_of new)) at.0
              ∙ last write (record {
                order = of_one.order;
                transaction = of_one.transaction;
                at = of_one.at;
                did = of_one.did ∙ ap committed at.0;
                form = sym at.1 ∙ of_one.form;
              }) (sym (ap (overlaps_some write) at.1) ∙ over)
