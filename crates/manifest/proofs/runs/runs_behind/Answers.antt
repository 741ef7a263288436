use Rattle.std.proofs.Common.{◌≡◌, ◌∙◌, ◌+◌, ◌-◌, ◌++◌, ◌∷◌, [], Ok, refl, ap, arith}
use Rattle.std.proofs.lemmas.Result.{err_from_is_err_and}
use Rattle.std.proofs.lemmas.List.{map_push}
use Rattle.manifest.specs.Reading.{RunsRead, many, run_step, no_runs}
use Rattle.hse_rows.specs.machine.TakenRuns.{run_as, runs_as}
use Rattle.manifest.proofs.ManyLemmas.{goes_on, stops, is_done}
use Rattle.manifest.proofs.RunLemmas.{run_more, run_refused, runs_refused}
use Rattle.manifest.proofs.runs.runs_behind.Goals as goal

pub returns-in_err-run : goal.returns-in_err-run
returns-in_err-run c =
    let p = err_from_is_err_and c.from_residual.result c.from_residual.ensures.1 in
    let state : RunsRead = record { runs = runs_as c.loop-left.runs.items; low = c.loop-left.low; joins = c.loop-left.joins } in
    let total = many run_step (no_runs c.args.horizon) c.args.count c.args.bytes.now in
    rw (p.1, p.2) (runs_refused c.in_err-run.field-0.0 total
    (stops c.in_err-run.field-0.0 run_step state c.loop-left.left c.loop-left.rest.now total (omega (arith, c.loop-left-test.true))
    (run_refused c.in_err-run.field-0.0 state c.loop-left.rest.now c.in_err-run.ensures) c.loop-left.invariant.read))

pub loop-left-preserved : goal.loop-left-preserved
loop-left-preserved c =
    let run = c.in_ok-run.run' in
    let state : RunsRead = record { runs = runs_as c.loop-left.runs.items; low = c.loop-left.low; joins = c.loop-left.joins } in
    let total = many run_step (no_runs c.args.horizon) c.args.count c.args.bytes.now in
    let low : run.first + (run.count - 1) ≡ run.first + run.count - 1 = omega (arith, run.some) in
    let pushed : runs_as c.push.new.self.items ≡ runs_as c.loop-left.runs.items ++ run_as run ∷ [] =
    ap runs_as c.in_ok-push.ensures.items ∙ map_push run_as c.loop-left.runs.items run in
    record {
      small = omega (arith, run.fits, run.some);
      read = rw (pushed, low) (goes_on run_step state _ c.loop-left.left c.loop-left.rest.now c.in_ok-run.behind.now total
          (omega (arith, c.loop-left-test.true))
          (run_more state (run_as run) c.loop-left.rest.now c.in_ok-run.behind.now c.in_ok-run.ensures) c.loop-left.invariant.read);
    }

pub returns : goal.returns
returns c =
    let state : RunsRead = record { runs = runs_as c.loop-left.runs.items; low = c.loop-left.low; joins = c.loop-left.joins } in
    let total = many run_step (no_runs c.args.horizon) c.args.count c.args.bytes.now in
    let done : total ≡ Ok (state, c.loop-left.rest.now) =
    is_done run_step state c.loop-left.left c.loop-left.rest.now total (omega (arith, c.loop-left-test.false)) c.loop-left.invariant.read in
    rw done refl
