use Rattle.std.proofs.Common.{◌≡◌, ◌∙◌, ◌+◌, ◌-◌, List, subst, length, Some, None, arith}
use Rattle.std.specs.Prelude.{slice_get}
use Rattle.manifest.specs.Metadata.{last_of_run}
use Rattle.hse_rows.specs.machine.TakenRuns.{run_as}
use Rattle.hse_rows.specs.declared.taken_run.TakenRun.{TakenRun}
use Rattle.manifest.proofs.StoreLemmas.{last_by_some, last_by_none}
use Rattle.manifest.proofs.change.last_number.Goals as goal

pub returns-in-None : goal.returns-in-None
returns-in-None c =
    last_by_none run_as last_of_run c.args.base.now.horizon c.args.base.now.taken.items
    (subst (λ (l : List TakenRun). None ≡ slice_get l (length l - 1)) c.deref.ensures.value c.in-None.ensures.value)

pub returns-in-Some : goal.returns-in-Some
returns-in-Some c =
    let run = c.in-Some.run'.now in
    let low : run.first + (run.count - 1) ≡ run.first + run.count - 1 = omega (arith, run.some) in
    low ∙ last_by_some run_as last_of_run c.args.base.now.horizon c.args.base.now.taken.items run
    (subst (λ (l : List TakenRun). Some run ≡ slice_get l (length l - 1)) c.deref.ensures.value c.in-Some.ensures.value)
