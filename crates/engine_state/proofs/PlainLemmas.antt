-- A write of a plain store, from its parts.
use Rattle.std.proofs.Common.{◌≡◌, refl, sym, ap, ◌∙◌, subst, ℕ, List, Some, None, Result, Ok, Err}
use Rattle.hse_rows.specs.declared.change.Change.{Change}
use Rattle.hse_rows.specs.declared.row_set.RowSet.{Ghosts}
use Rattle.hse_rows.specs.declared.store.Mode.{Mode}
use Rattle.hse_rows.specs.declared.store.Mode.TheVariants.{Plain, Tx}
use Rattle.hse_rows.specs.states.State.{Store, store_named}
use Rattle.hse_rows.specs.transactions.Timeline.{HasStore, for_some}
use Rattle.hse_rows.specs.machine.Replies.{store_mode, broken, spent, no_store, ok}
use Rattle.hse_rows.specs.machine.Calls.{outside, write_by}
use Rattle.hse_rows.specs.machine.Core.{Core, now, write_to}
use Rattle.hse_rows.specs.machine.CoreRefusal.{refusal, refuse, is_tx, is_spent, change_refusal, outside_refusal}
use Rattle.hse_rows.specs.machine.CoreDone.{committing_write}
use Rattle.engine_state.specs.declared.faults.WriteFault.{WriteFault}
use Rattle.engine_state.specs.declared.state.EngineState.{EngineState}
use Rattle.engine_state.specs.Serves.{Serves}
use Rattle.engine_state.specs.Says.{SaysWrite, Fronts}
use Rattle.engine_state.specs.Steps.{Steps}
use Rattle.engine_state.specs.Plain.{plain_front, plain_room, IsLoggedWrite}
use Rattle.engine_state.proofs.SoundLemmas.{has-store}

-- what the table asks where the store is there
pub table : (m : Core) (name : List ℕ) (change : Change) (store : Store) → store_named (now m) name ≡ Some store
    → refusal m (write_by outside name change) ≡ plain_front m change store (plain_room m change store)
table m name change store is = ap (λ o. for_some o (Some no_store) (outside_refusal m change)) is

-- where the front refuses nothing, the store is a plain one
pub is-plain : (m : Core) (change : Change) (store : Store) → Fronts None (plain_front m change store) → store.mode ≡ Plain
is-plain m change store front = by store.mode (front None)
  where
    by : (mode : Mode) → refuse (is_tx mode) store_mode
        (change_refusal m.sizes store change (refuse m.is_broken broken (refuse (is_spent m) spent None))) ≡ None → mode ≡ Plain
    by Plain is = refl
    by Tx is = absurd cc

module _ {R : Type 0} (g : Ghosts R) where
  pub plain-steps : (m : Core) (name : List ℕ) (change : Change) (store : Store) → store_named (now m) name ≡ Some store → store.mode ≡ Plain
      → Fronts None (plain_front m change store) → (result : Result ℕ WriteFault) (new : EngineState R g)
      → IsLoggedWrite g m change store result new → Steps g ok SaysWrite m (write_by outside name change) result new
  plain-steps m name change store is mode front (Ok number) new logged = record {
    unrefused = table m name change store is ∙ front (plain_room m change store) ∙ logged.0;
    replied = ap ok logged.1;
    serves = subst (Serves g new) (sym (ap (λ o. for_some o m (λ (st : Store). committing_write m (write_to st change))) is))
        (logged.2 (subst (λ mode. HasStore (now m) store.id mode) mode (has-store (now m) name store is)));
  }
  plain-steps m name change store is mode front (Err fault) new logged =
      (subst (SaysWrite fault) (sym (table m name change store is ∙ front (plain_room m change store))) logged.0, logged.1)
