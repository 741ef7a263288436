-- Locks stand for a timeline after what is done with its transactions.
use Rattle.std.proofs.Common.{◌≡◌, ◌≢◌, ℕ, ◌+◌, ◌==◌, ◌&&◌, ◌||◌, Bool, true, false, cond, map, List, [], ◌∷◌, ◌++◌, set, Option, Some, refl, sym, ◌∙◌, ap, subst, ◌⊎◌, inl, inr}
use Rattle.std.specs.List.{slice_get}
use Rattle.std.proofs.Math.Bool.{true≢false}
use Rattle.std.proofs.lemmas.Bool.{cases_eq, eq-eqb, eqb-true}
use Rattle.std.proofs.lemmas.List.Folds.{list_any-append}
use Rattle.hse_rows.specs.declared.change.Change.{Change}
use Rattle.hse_rows.specs.declared.change.Change.TheVariants.{Put, Del, PDel}
use Rattle.hse_rows.specs.declared.store.StoreId.{StoreId}
use Rattle.hse_rows.specs.declared.write.Write.{Write}
use Rattle.hse_rows.specs.writes.Change.{write_of}
use Rattle.hse_rows.specs.writes.NormalForm.{normal_form}
use Rattle.hse_rows.specs.writes.Overlap.{overlaps, overlaps_some}
use Rattle.hse_rows.specs.states.History.{commits}
use Rattle.hse_rows.specs.transactions.Transaction.{TransactionState, active, committed, aborted, Transaction, is_active, staged, ended}
use Rattle.hse_rows.specs.transactions.Timeline.{Timeline, number_of, transaction_of, IsActive, for_some, with_transaction, committing}
use Rattle.hse_rows.specs.laws.Laws.{NormalFormsOverlapTheSame}
use Rattle.key_locks.specs.declared.locks.KeyLocks.{KeyLocks}
use Rattle.key_locks.specs.Locks.{writes_of, commits_of, locked}
use Rattle.key_locks.specs.Since.{has_commit}
use Rattle.key_locks.specs.Standing.{active_writes, StandFor, Leaves, with_locks, without_locks}
use Rattle.key_locks.specs.laws.Laws.{LockedChangesStand, ReleasesStand, CommitsStand}
use Rattle.key_locks.proofs.OverlapLemmas.{or-true, or-left, or-right}
use Rattle.key_locks.proofs.PlaceLemmas.{get-set, get-set_same, get-set_other}
use Rattle.key_locks.proofs.StandLemmas.{stand-same, stand-more}

is_no : (a b : ℕ) → (a ≡ b → ⊥) → (c : Bool) → (a == b) ≡ c → (a == b) ≡ false
is_no a b apart true is = absurd (apart (eqb-true a b is))
is_no a b apart false is = is

-- a put is locked as a deletion of its key
locked-overlaps : (write : Write) (store : StoreId) (change : Change) → overlaps write (locked store change) ≡ overlaps write (write_of store change)
locked-overlaps write store (Put key value) = refl
locked-overlaps write store (Del key) = refl
locked-overlaps write store (PDel prefix) = refl

-- the writes of one commit
has-map : (write : Write) (n number : ℕ) (b : Bool) → (n == number) ≡ b → (writes : List Write)
    → has_commit write number (map (λ (w : Write). (n, w)) writes) ≡ (b && overlaps_some write writes)
has-map write n number true is [] = refl
has-map write n number false is [] = refl
has-map write n number true is (w ∷ ws) =
    ap (λ (b : Bool). (b && overlaps write w) || has_commit write number (map (λ (w : Write). (n, w)) ws)) is
    ∙ ap (λ (b : Bool). overlaps write w || b) (has-map write n number true is ws)
has-map write n number false is (w ∷ ws) =
    ap (λ (b : Bool). (b && overlaps write w) || has_commit write number (map (λ (w : Write). (n, w)) ws)) is
    ∙ has-map write n number false is ws

pub active_is_not : (number : ℕ) → active ≡ committed number → ⊥
active_is_not number is = cc

aborted_is_not : (number : ℕ) → aborted ≡ committed number → ⊥
aborted_is_not number is = cc

abbrev number_in : TransactionState → ℕ
number_in active = 0
number_in (committed number) = number
number_in aborted = 0

module _ (the_same : NormalFormsOverlapTheSame) (old new : KeyLocks) (m : Timeline) (above : ℕ) (stand : StandFor old m above)
    (order : ℕ) (transaction : Transaction) (is : IsActive m order transaction) where
  own : (write : Write) → overlaps_some write (writes_of old order) ≡ overlaps_some write transaction.writes
  own write =
      stand.active order write
      ∙ ap (λ (found : Option Transaction). overlaps_some write (active_writes found)) is.at
      ∙ ap (λ (state : TransactionState). overlaps_some write (cond (is_active state) transaction.writes [])) is.going

  at_order : (leads_to : Transaction → Timeline) → StandFor new (leads_to transaction) above → StandFor new (for_some (transaction_of m order) m leads_to) above
  at_order leads_to there = subst (λ (found : Option Transaction). StandFor new (for_some found m leads_to) above) (sym is.at) there

  set_active : (changed : Transaction) (writes : ℕ → List Write)
      → ((other : ℕ) → writes_of new other ≡ cond (other == order) (writes other) (writes_of old other))
      → ((write : Write) → overlaps_some write (writes order) ≡ overlaps_some write (active_writes (Some changed)))
      → (other : ℕ) (write : Write)
      → overlaps_some write (writes_of new other) ≡ overlaps_some write (active_writes (slice_get (set m.begun order changed) other))
  set_active changed writes left whole other write = by (cases_eq other order)
    where
      by : (other ≡ order) ⊎ (other ≡ order → ⊥)
          → overlaps_some write (writes_of new other) ≡ overlaps_some write (active_writes (slice_get (set m.begun order changed) other))
      by (inl same) =
          ap (overlaps_some write) (left other ∙ ap (λ (b : Bool). cond b (writes other) (writes_of old other)) (eq-eqb other order same))
          ∙ ap (λ (n : ℕ). overlaps_some write (writes n)) same
          ∙ whole write
          ∙ ap (λ (found : Option Transaction). overlaps_some write (active_writes found))
          (sym (ap (slice_get (set m.begun order changed)) same ∙ get-set_same m.begun order transaction changed is.at))
      by (inr apart) =
          ap (overlaps_some write) (left other ∙ ap (λ (b : Bool). cond b (writes other) (writes_of old other)) (is_no other order apart (other == order) refl))
          ∙ stand.active other write
          ∙ ap (λ (found : Option Transaction). overlaps_some write (active_writes found)) (sym (get-set_other m.begun order other changed apart))

  set_kept : (changed : Transaction) → ((number : ℕ) → changed.state ≡ committed number → changed.writes ≢ [] → ⊥)
      → (i number : ℕ) (other : Transaction) → slice_get (set m.begun order changed) i ≡ Some other → other.state ≡ committed number
      → other.writes ≢ [] → slice_get m.begun i ≡ Some other
  set_kept changed never i number other at did some = by (get-set m.begun order i transaction changed other is.at at)
    where
      by : ((i ≡ order) × (other ≡ changed)) ⊎ ((i ≢ order) × (slice_get m.begun i ≡ Some other)) → slice_get m.begun i ≡ Some other
      by (inl same) =
          absurd (never number (sym (ap (λ (t : Transaction). t.state) same.1) ∙ did)
          (λ none. some (ap (λ (t : Transaction). t.writes) same.1 ∙ none)))
      by (inr before) = before.1

  locked_in : (store : StoreId) (change : Change) → Leaves old new (with_locks old order (locked store change ∷ [])) (commits_of old)
      → StandFor new (with_transaction m order (staged transaction (write_of store change))) above
  locked_in store change left =
      let changed : Transaction = staged transaction (write_of store change) in
      stand-same the_same old new m above stand left.least (set m.begun order changed)
      (set_active changed (λ other. writes_of old other ++ locked store change ∷ []) left.held whole)
      left.logged
      (set_kept changed (λ number did some. active_is_not number (sym is.going ∙ did)))
    where
      whole : (write : Write) → overlaps_some write (writes_of old order ++ locked store change ∷ [])
          ≡ overlaps_some write (cond (is_active transaction.state) (transaction.writes ++ write_of store change ∷ []) [])
      whole write =
          list_any-append (overlaps write) (writes_of old order) (locked store change ∷ [])
          ∙ ap (λ (b : Bool). b || (overlaps write (locked store change) || false)) (own write)
          ∙ ap (λ (b : Bool). overlaps_some write transaction.writes || (b || false)) (locked-overlaps write store change)
          ∙ sym (list_any-append (overlaps write) transaction.writes (write_of store change ∷ []))
          ∙ ap (λ (state : TransactionState). overlaps_some write (cond (is_active state) (transaction.writes ++ write_of store change ∷ []) [])) (sym is.going)

  aborted_in : Leaves old new (without_locks old order) (commits_of old) → StandFor new (with_transaction m order (ended transaction aborted)) above
  aborted_in left =
      let changed : Transaction = ended transaction aborted in
      stand-same the_same old new m above stand left.least (set m.begun order changed)
      (set_active changed (λ other. []) left.held (λ write. refl))
      left.logged
      (set_kept changed (λ number did some. aborted_is_not number did))

  emptied_in : Leaves old new (without_locks old order) (commits_of old) → transaction.writes ≡ []
      → StandFor new (committing m order transaction transaction.writes) above
  emptied_in left none =
      let changed : Transaction = ended transaction (committed transaction.snapshot) in
      subst (λ (writes : List Write). StandFor new (committing m order transaction writes) above) (sym none)
      (stand-same the_same old new m above stand left.least (set m.begun order changed)
      (set_active changed (λ other. []) left.held (λ write. refl))
      left.logged
      (set_kept changed (λ number did some. some none)))

  module _ (left : Leaves old new (without_locks old order) (commits_of old ++ map (λ (write : Write). (number_of m + 1, write)) (writes_of old order))) where
    abbrev done : Transaction
    done = ended transaction (committed (number_of m + 1))

    joined : (number : ℕ) (write : Write) → has_commit write number (commits_of new)
        ≡ (has_commit write number (commits_of old) || has_commit write number (map (λ (write : Write). (number_of m + 1, write)) (writes_of old order)))
    joined number write =
        ap (has_commit write number) left.logged
        ∙ list_any-append (λ (c : ℕ × Write). (c.0 == number) && overlaps write c.1) (commits_of old) (map (λ (write : Write). (number_of m + 1, write)) (writes_of old order))

    own_form : (write : Write) → overlaps_some write (writes_of old order) ≡ overlaps_some write (normal_form transaction.writes)
    own_form write = own write ∙ sym (the_same write transaction.writes)

    fresh : (number : ℕ) (write : Write) → has_commit write number (commits_of new) ≡ true
        → (has_commit write number (commits_of old) ≡ true) ⊎ ((number ≡ number_of m + 1) × (overlaps_some write (normal_form transaction.writes) ≡ true))
    fresh number write has =
        by (or-true (has_commit write number (commits_of old)) (has_commit write number (map (λ (write : Write). (number_of m + 1, write)) (writes_of old order)))
        (sym (joined number write) ∙ has)) (number_of m + 1 == number) refl
      where
        by : (has_commit write number (commits_of old) ≡ true) ⊎ (has_commit write number (map (λ (write : Write). (number_of m + 1, write)) (writes_of old order)) ≡ true)
            → (b : Bool) → (number_of m + 1 == number) ≡ b
            → (has_commit write number (commits_of old) ≡ true) ⊎ ((number ≡ number_of m + 1) × (overlaps_some write (normal_form transaction.writes) ≡ true))
        by (inl was) b at = inl was
        by (inr now) true at =
            inr (
              sym (eqb-true (number_of m + 1) number at),
              sym (own_form write) ∙ sym (has-map write (number_of m + 1) number true at (writes_of old order)) ∙ now,
            )
        by (inr now) false at = absurd (true≢false (sym now ∙ has-map write (number_of m + 1) number false at (writes_of old order)))

    ended_kept : (i number : ℕ) (other : Transaction) → slice_get (set m.begun order done) i ≡ Some other → other.state ≡ committed number
        → other.writes ≢ [] → (slice_get m.begun i ≡ Some other) ⊎ (number ≡ number_of m + 1)
    ended_kept i number other at did some = by (get-set m.begun order i transaction done other is.at at)
      where
        by : ((i ≡ order) × (other ≡ done)) ⊎ ((i ≢ order) × (slice_get m.begun i ≡ Some other)) → (slice_get m.begun i ≡ Some other) ⊎ (number ≡ number_of m + 1)
        by (inl same) = inr (sym (ap number_in (sym (ap (λ (t : Transaction). t.state) same.1) ∙ did)))
        by (inr before) = inl before.1

    committed_in : (writes : List Write) → writes ≢ [] → StandFor new (committing m order transaction writes) above
    committed_in [] some = absurd (some refl)
    committed_in (w ∷ ws) some =
        stand-more the_same old new m above stand left.least (set m.begun order done)
        (set_active done (λ other. []) left.held (λ write. refl))
        (commits (normal_form transaction.writes))
        fresh
        (λ number write has. joined number write ∙ or-left (has_commit write number (commits_of old)) _ has)
        ended_kept
        (λ write of_one over. joined (number_of m + 1) write
        ∙ or-right (has_commit write (number_of m + 1) (commits_of old)) _
        (has-map write (number_of m + 1) (number_of m + 1) true (eq-eqb (number_of m + 1) (number_of m + 1) refl) (writes_of old order)
        ∙ own_form write ∙ over))

module _ (the_same : NormalFormsOverlapTheSame) where
  pub locked-stand : LockedChangesStand
  locked-stand old new m above stand order transaction is store change left =
      at_order the_same old new m above stand order transaction is (λ t. with_transaction m order (staged t (write_of store change)))
      (locked_in the_same old new m above stand order transaction is store change left)

  pub released-stand : ReleasesStand
  released-stand old new m above stand order transaction is left = (
    at_order the_same old new m above stand order transaction is (λ t. with_transaction m order (ended t aborted))
        (aborted_in the_same old new m above stand order transaction is left),
    λ none. at_order the_same old new m above stand order transaction is (λ t. committing m order t t.writes)
        (emptied_in the_same old new m above stand order transaction is left none),
  )

  pub committed-stand : CommitsStand
  committed-stand old new m above stand order transaction is some left =
      at_order the_same old new m above stand order transaction is (λ t. committing m order t t.writes)
      (committed_in the_same old new m above stand order transaction is left transaction.writes some)
