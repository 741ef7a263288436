-- A turn that writes commits and an entry.
use Rattle.std.proofs.Common.{◌≡◌, ◌≤◌, List, [], ◌∷◌, length, refl, sym, subst, arith, inl, inr, ⊎_elim}
use Rattle.media_disk.specs.Leaves.{LeavesOnly}
use Rattle.media_disk.specs.declared.device.Device.{Ghosts}
use Rattle.media_disk.specs.laws.Leaves.{leaves_joined, leaves_more}
use Rattle.hse_fields.specs.LogText as log
use Rattle.manifest.specs.Metadata.{Metadata}
use Rattle.manifest.specs.Text.{Entry}
use Rattle.manifest.specs.declared.manifest.Manifest.{Manifest}
use Rattle.recovery.specs.Image.{IsLoaded, Loaded}
use Rattle.back.specs.Leaving.{OldOrCommitted, OldOrEntered, OldOrNew}
use Rattle.back.specs.Plans.{IsPlanOf}
use Rattle.back.specs.Steps.{MayCommit, MayCommitAny, with_commits, with_entry}
use Rattle.back.specs.declared.plan.EntryPlan.{EntryPlan}

-- where there are some, they are those of the batch
pub some_commits : (loaded : Loaded) (commits : List log.Entry) → 1 ≤ length commits → MayCommitAny loaded commits → MayCommit loaded commits
some_commits loaded [] some may = absurd (omega (arith, some))
some_commits loaded (entry ∷ entries) some may = may

-- commits change no metadata
same_metadata : (loaded : Loaded) (commits : List log.Entry) → (with_commits loaded commits).metadata ≡ loaded.metadata
same_metadata loaded [] = refl
same_metadata loaded (entry ∷ entries) = refl

-- so the plan is still that of the entry behind them
pub still_planned : (old new : Manifest) (loaded : Loaded) (commits : List log.Entry) (entry : Entry) (plan : EntryPlan) → new ≡ old
    → IsPlanOf old loaded.metadata entry plan → IsPlanOf new (with_commits loaded commits).metadata entry plan
still_planned old new loaded commits entry plan is planned =
    subst (λ (m : Metadata). IsPlanOf new m entry plan) (sym (same_metadata loaded commits))
    (subst (λ (m : Manifest). IsPlanOf m loaded.metadata entry plan) (sym is) planned)

module _ {D : Type 0} (g : Ghosts D) (loaded : Loaded) (commits : List log.Entry) (entry : Entry) where
  -- what a stop leaves where the commits failed
  pub first_leaves : (old new : D) → LeavesOnly g old new (OldOrCommitted loaded commits) → LeavesOnly g old new (OldOrEntered loaded commits entry)
  first_leaves old new leaves =
      leaves_more g old new (OldOrCommitted loaded commits) (OldOrEntered loaded commits entry) leaves (λ image has. inl has)

  -- and where they did not
  pub both_leave : (old between new : D) → g.clock old ≤ g.clock between → LeavesOnly g old between (OldOrCommitted loaded commits)
      → LeavesOnly g between new (OldOrNew (with_commits loaded commits) (with_entry (with_commits loaded commits) entry))
      → LeavesOnly g old new (OldOrEntered loaded commits entry)
  both_leave old between new later first second =
      leaves_joined g old between new (OldOrEntered loaded commits entry) later (first_leaves old between first)
      (leaves_more g between new (OldOrNew (with_commits loaded commits) (with_entry (with_commits loaded commits) entry)) (OldOrEntered loaded commits entry) second
      (λ image has. ⊎_elim
      (λ (was : IsLoaded image (with_commits loaded commits)). inl (inr was))
      (λ (now : IsLoaded image (with_entry (with_commits loaded commits) entry)). inr now)
      has))
