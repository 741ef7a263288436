use Rattle.std.proofs.Common.{◌∙◌, ◌++◌, ℕ, List, length, ap, sym, append_assoc}
use Rattle.std.proofs.lemmas.Result.{on_ok_weaker}
use Rattle.std.proofs.lemmas.List.{length-map}
use Rattle.byteorder.specs.Endian.{big_bytes}
use Rattle.manifest.specs.Text.{runs_text}
use Rattle.hse_rows.specs.machine.TakenRuns.{run_as, runs_as}
use Rattle.manifest.proofs.encode.put_taken.Goals as goal

pub returns : goal.returns
returns c = on_ok_weaker c.put_runs.result
    (λ is. is
    ∙ ap (λ (l : List ℕ). l ++ runs_text c.args.horizon (runs_as c.args.runs.now)) c.in_ok-put_low.ensures
    ∙ append_assoc c.args.into.now.items (big_bytes 4 (length c.args.runs.now)) (runs_text c.args.horizon (runs_as c.args.runs.now))
    ∙ ap (λ (n : ℕ). c.args.into.now.items ++ (big_bytes 4 n ++ runs_text c.args.horizon (runs_as c.args.runs.now)))
    (sym (length-map c.args.runs.now run_as)))
    c.put_runs.ensures
