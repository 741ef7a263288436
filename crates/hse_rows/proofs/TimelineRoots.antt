-- Moves keep commits to stores that were created before.
use Rattle.std.proofs.Common.{◌≡◌, ℕ, ◌+◌, ◌-◌, ◌≤◌, true, false, cond, min, List, [], ◌∷◌, length, take, Option, sym, subst, arith}
use Rattle.std.specs.List.{AllByRecursion, list_any, fold}
use Rattle.std.specs.Ordering.{is_lt}
use Rattle.std.specs.declared.cmp.Ordering.{Ordering}
use Rattle.std.proofs.lemmas.List.{length-take}
use Rattle.hse_rows.specs.declared.store.Mode.{Mode}
use Rattle.hse_rows.specs.declared.store.Mode.TheVariants.{Plain, Tx}
use Rattle.hse_rows.specs.declared.write.Write.{Write}
use Rattle.hse_rows.specs.writes.Sorted.{placed}
use Rattle.hse_rows.specs.writes.NormalForm.{hides, lasting, write_cmp, normal_form}
use Rattle.hse_rows.specs.states.State.{AreRising}
use Rattle.hse_rows.specs.states.History.{Event, commits, creates, drops, folded, last_number}
use Rattle.hse_rows.specs.states.History as histories
use Rattle.hse_rows.specs.laws.Folding.{folded-number}
use Rattle.hse_rows.specs.states.Rooted.{AreRooted}
use Rattle.hse_rows.specs.transactions.Transaction.{Transaction}
use Rattle.hse_rows.specs.transactions.Moves.{Move, begin, write_in, write_out, commit, abort, create, remove}
use Rattle.hse_rows.specs.transactions.Timeline.{Timeline, number_of, transaction_of, HasStore, IsActive, Allows, for_some, committing, moved}
use Rattle.hse_rows.specs.transactions.Isolation.{IsIsolated}
use Rattle.hse_rows.proofs.ModeLemmas.{id_within, folded_rising}
use Rattle.hse_rows.proofs.RootedLemmas.{rooted_push}

-- ---- what all writes are, all of their normal form are

module _ {X : Type 0} (P : X → Type 0) (cmp : X → X → Ordering) where
  all_placed : (xs : List X) (x : X) → AllByRecursion P xs → P x → AllByRecursion P (placed cmp xs x)
  all_placed [] x all one = (one, tt)
  all_placed (y ∷ ys) x all one =
      let rest : AllByRecursion P (placed cmp ys x) = all_placed ys x all.1 one in
      elim (is_lt (cmp x y)) as (λ b. AllByRecursion P (cond b (x ∷ y ∷ ys) (y ∷ placed cmp ys x))) [
        | true ↦ (one, all)
        | false ↦ (all.0, rest)
      ]

  all_fold : (xs ys : List X) → AllByRecursion P xs → AllByRecursion P ys → AllByRecursion P (fold (placed cmp) xs ys)
  all_fold xs [] all more = all
  all_fold xs (y ∷ ys) all more = all_fold (placed cmp xs y) ys (all_placed xs y all more.0) more.1

all_lasting : (P : Write → Type 0) (writes : List Write) → AllByRecursion P writes → AllByRecursion P (lasting writes)
all_lasting P [] all = tt
all_lasting P (write ∷ later) all =
    let rest : AllByRecursion P (lasting later) = all_lasting P later all.1 in
    elim (list_any (λ l. hides l write) later) as (λ b. AllByRecursion P (cond b (lasting later) (write ∷ lasting later))) [
      | true ↦ rest
      | false ↦ (all.0, rest)
    ]

pub all_normal_form : (P : Write → Type 0) (writes : List Write) → AllByRecursion P writes → AllByRecursion P (normal_form writes)
unfolding normal_form
all_normal_form P writes all = all_fold P write_cmp [] (lasting writes) tt (all_lasting P writes all)

all_map : (P Q : Write → Type 0) (writes : List Write) → ((write : Write) → P write → Q write) → AllByRecursion P writes → AllByRecursion Q writes
all_map P Q [] each all = tt
all_map P Q (write ∷ writes) each all = (each write all.0, all_map P Q writes each all.1)

-- ---- moves

module _ (m : Timeline) (rising : AreRising 0 m.base.number m.base.stores) where
  -- a store of an earlier state has an id up to the last number
  id_up_to : (number id : ℕ) (mode : Mode) → HasStore (histories.fold m.base m.history number) id mode → id ≤ number_of m
  id_up_to number id mode has =
      let events : List Event = take (number - m.base.number) m.history in
      let within : id ≤ (folded m.base events).number = id_within (folded m.base events) id mode (folded_rising m.base events rising) has in
      let its : (folded m.base events).number ≡ m.base.number + length events = folded-number m.base events in
      let few : length events ≡ min (number - m.base.number) (length m.history) = length-take (number - m.base.number) m.history in
      omega (arith, within, its, few)

  now_up_to : (id : ℕ) (mode : Mode) → HasStore (folded m.base m.history) id mode → id ≤ number_of m
  now_up_to id mode has =
      let within : id ≤ (folded m.base m.history).number = id_within (folded m.base m.history) id mode (folded_rising m.base m.history rising) has in
      let its : (folded m.base m.history).number ≡ m.base.number + length m.history = folded-number m.base m.history in
      omega (arith, within, its)

  module _ (good : IsIsolated m) (rooted : AreRooted m.base.number m.history) where
    abbrev IsRooted : Timeline → Type 0
    IsRooted after = AreRooted after.base.number after.history

    commit_rooted : (order : ℕ) (transaction : Transaction) (is : IsActive m order transaction) (writes : List Write)
        → IsRooted (committing m order transaction writes)
    commit_rooted order transaction is [] = rooted
    commit_rooted order transaction is (write ∷ writes) =
        rooted_push m.base.number m.history (commits (normal_form transaction.writes)) rooted
        (all_normal_form (λ (w : Write). w.store.0 ≤ number_of m) transaction.writes
        (all_map (λ (w : Write). HasStore (histories.fold m.base m.history transaction.snapshot) w.store.0 Tx) (λ (w : Write). w.store.0 ≤ number_of m)
        transaction.writes (λ w has. id_up_to transaction.snapshot w.store.0 Tx has) (good.each order transaction is.at).of_tx))

    rooted_at : (order : ℕ) (transaction : Transaction) → IsActive m order transaction → (leads_to : Transaction → Timeline) → IsRooted (leads_to transaction)
        → IsRooted (for_some (transaction_of m order) m leads_to)
    rooted_at order transaction is leads_to there = subst (λ (found : Option Transaction). IsRooted (for_some found m leads_to)) (sym is.at) there

    pub moved_rooted : (move : Move) → Allows m move → IsRooted (moved m move)
    moved_rooted begin allowed = rooted
    moved_rooted (write_in order write) allowed = rooted_at order allowed.0 allowed.1 _ rooted
    moved_rooted (write_out write) allowed =
        rooted_push m.base.number m.history (commits (normal_form (write ∷ []))) rooted
        (all_normal_form (λ (w : Write). w.store.0 ≤ number_of m) (write ∷ []) (now_up_to write.store.0 Plain allowed, tt))
    moved_rooted (commit order) allowed =
        rooted_at order allowed.0 allowed.1 (λ transaction. committing m order transaction transaction.writes)
        (commit_rooted order allowed.0 allowed.1 allowed.0.writes)
    moved_rooted (abort order) allowed = rooted_at order allowed.0 allowed.1 _ rooted
    moved_rooted (create name mode prefix_length) allowed = rooted_push m.base.number m.history (creates name mode prefix_length) rooted tt
    moved_rooted (remove id) allowed = rooted_push m.base.number m.history (drops id) rooted tt
