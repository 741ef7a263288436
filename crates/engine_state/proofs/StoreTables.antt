-- The tables of a creation and of a drop, line by line.
use Rattle.std.proofs.Common.{◌≡◌, ◌≤◌, ◌<◌, refl, sym, ap, ◌∙◌, ℕ, true, false, nat_le, nat_lt, List, [], ◌∷◌, length, map, Option, Some, None}
use Rattle.std.proofs.lemmas.List.{length-map}
use Rattle.std.specs.Prelude.{is_some}
use Rattle.std.specs.List.{find}
use Rattle.std.specs.Option.{option_map}
use Rattle.hse_rows.specs.declared.row_set.RowSet.{Ghosts}
use Rattle.hse_rows.specs.writes.Lengths.{longest_prefix}
use Rattle.hse_rows.specs.writes.NormalForm.{same}
use Rattle.hse_rows.specs.states.State.{Store, State, store_named}
use Rattle.hse_rows.specs.transactions.Transaction.{Transaction}
use Rattle.hse_rows.specs.transactions.Timeline.{for_some}
use Rattle.hse_rows.specs.machine.Replies.{Refusal, store_exists, no_store, prefix_length, broken, too_many, spent, store_held}
use Rattle.hse_rows.specs.machine.Core.{Core, now, number_of, greatest_number}
use Rattle.hse_rows.specs.machine.CoreRefusal.{refuse, is_spent, unless_held, first_in_store}
use Rattle.ingest_tree.specs.declared.store_row.StoreRow.{StoreRow}
use Rattle.view.specs.declared.view_store.ViewStore.{ViewStore}
use Rattle.view.specs.Views.{ViewState}
use Rattle.view.specs.Means.{store_in}
use Rattle.engine_state.specs.Serves.{ViewServes}
use Rattle.engine_state.specs.Stores.{create_front, drop_front}
use Rattle.engine_state.proofs.RefusalLemmas.{passed, stopped, is-le, is-not_le}
use Rattle.engine_state.proofs.SoundLemmas.{named-in}

module _ (m : Core) (name : List ℕ) (prefix : ℕ) (later : Option (Refusal ℕ)) where
  pub at-exists : is_some (store_named (now m) name) ≡ true → create_front m name prefix later ≡ Some store_exists
  at-exists = stopped _ _ _

  module _ (fresh : is_some (store_named (now m) name) ≡ false) where
    pub at-prefix : nat_lt longest_prefix prefix ≡ true → create_front m name prefix later ≡ Some (prefix_length prefix)
    at-prefix long = passed _ _ _ _ fresh (stopped _ _ _ long)

    module _ (short : nat_lt longest_prefix prefix ≡ false) where
      pub at-broken : m.is_broken ≡ true → create_front m name prefix later ≡ Some broken
      at-broken is = passed _ _ _ _ fresh (passed _ _ _ _ short (stopped _ _ _ is))

      module _ (whole : m.is_broken ≡ false) where
        pub at-many : nat_le m.sizes.most_stores (length (now m).stores) ≡ true → create_front m name prefix later ≡ Some (too_many m.sizes.most_stores)
        at-many many = passed _ _ _ _ fresh (passed _ _ _ _ short (passed _ _ _ _ whole (stopped _ _ _ many)))

        module _ (few : nat_le m.sizes.most_stores (length (now m).stores) ≡ false) where
          pub at-spent : greatest_number ≤ number_of m → create_front m name prefix later ≡ Some spent
          at-spent last =
              passed _ _ _ _ fresh (passed _ _ _ _ short (passed _ _ _ _ whole (passed _ _ _ _ few
              (stopped (is_spent m) _ _ (is-le greatest_number (number_of m) last)))))

          pub past : number_of m < greatest_number → create_front m name prefix later ≡ later
          past low =
              passed _ _ _ _ fresh (passed _ _ _ _ short (passed _ _ _ _ whole (passed _ _ _ _ few
              (passed (is_spent m) _ _ _ (is-not_le greatest_number (number_of m) low) refl))))

-- ---- a drop

pub no-store : (m : Core) (name : List ℕ) (later : Option (Refusal ℕ)) → store_named (now m) name ≡ None
    → for_some (store_named (now m) name) (Some no_store) (λ (store : Store). drop_front m store later) ≡ Some no_store
no-store m name later = ap (λ o. for_some o (Some no_store) (λ (store : Store). drop_front m store later))

-- what the first of the live transactions that have a write in the store says
abbrev pub held_by : Option ℕ → Option (Refusal ℕ) → Option (Refusal ℕ)
held_by None later = later
held_by (Some order) later = Some (store_held order)

told : (o : Option Transaction) (later : Option (Refusal ℕ))
    → unless_held o later ≡ held_by (option_map (λ (transaction : Transaction). transaction.begun) o) later
told None later = refl
told (Some transaction) later = refl

module _ (m : Core) (store : Store) (later : Option (Refusal ℕ)) where
  pub drop-broken : m.is_broken ≡ true → drop_front m store later ≡ Some broken
  drop-broken = stopped _ _ _

  pub drop-held : m.is_broken ≡ false → (first : Option ℕ)
      → option_map (λ (transaction : Transaction). transaction.begun) (first_in_store m.timeline.begun store.id) ≡ first
      → drop_front m store later ≡ held_by first (refuse (is_spent m) spent later)
  drop-held whole first is =
      passed _ _ _ _ whole
      (told (first_in_store m.timeline.begun store.id) (refuse (is_spent m) spent later)
      ∙ ap (λ (o : Option ℕ). held_by o (refuse (is_spent m) spent later)) is)

module _ {R : Type 0} (g : Ghosts R) where
  some-map : {X Y : Type 0} (f : X → Y) (o : Option X) → is_some (option_map f o) ≡ is_some o
  some-map f None = refl
  some-map f (Some x) = refl

  -- a store has the name where the view has one
  pub has-name : (view : ViewState R) (m : Core) → ViewServes g view m → (name : List ℕ) (found : Option (ViewStore R))
      → found ≡ find (λ (store : ViewStore R). same store.name name) view.stores → is_some (store_named (now m) name) ≡ is_some found
  has-name view m v name found is =
      ap is_some (named-in g view (now m) v.state name)
      ∙ some-map (store_in g.rows view.layers) (find (λ (store : ViewStore R). same store.name name) view.stores)
      ∙ ap is_some (sym is)

  -- whether there are so many stores as may be
  pub is-full : (view : ViewState R) (m : Core) → ViewServes g view m → (most : ℕ) → most ≡ m.sizes.most_stores
      → nat_le m.sizes.most_stores (length (now m).stores) ≡ nat_le most (length view.stores)
  is-full view m v most is =
      ap (λ (n : ℕ). nat_le n (length (now m).stores)) (sym is)
      ∙ ap (nat_le most) (ap (λ (s : State). length s.stores) (sym v.state) ∙ length-map view.stores (store_in g.rows view.layers))
