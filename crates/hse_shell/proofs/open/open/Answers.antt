use Rattle.std.proofs.Common.{List, ℕ, Err, ap, subst}
use Rattle.std.proofs.lemmas.Result.{err_from_is_err_and}
use Rattle.hse_shell.specs.Stored.{IsRefusedAt}
use Rattle.hse_shell.specs.declared.open.OpenFault.{OpenFault}
use Rattle.hse_shell.proofs.OpenLemmas.{stays_same, stays_on, handed_on, serves_same}
use Rattle.hse_shell.proofs.open.open.Goals.{in-0+in_ok-format-in-0, in-4194304+in_ok-recover-in-4194304}
use Rattle.hse_shell.proofs.open.open.Goals as goal

pub returns-in_err-recover-in-4194304-clause-refused :
    goal.returns-in_err-recover-in-4194304-clause-refused
returns-in_err-recover-in-4194304-clause-refused g c place is told =
    let fault = handed_on c.from_residual-in_err-recover-in-4194304.result place is
    (err_from_is_err_and c.from_residual-in_err-recover-in-4194304.result c.from_residual-in_err-recover-in-4194304.ensures.1) in
    let refused = c.in_err-recover-in-4194304.ensures.refused place (ap (λ (f : OpenFault). Err f) fault) told in
    let measured = stays_same g.D.Device c.args.disk.now c.size.new.self (c.size.ensures.seen told) (c.size.ensures.pending told) in (
      subst (λ (seen : List ℕ). IsRefusedAt seen place) (c.size.ensures.seen told) refused,
      stays_on g.D.Device c.args.disk.now c.size.new.self c.recover.new.disk measured (c.recover.ensures.stays told),
    )

pub returns-clause-serves : goal.returns-clause-serves
returns-clause-serves g c = elim c.match-branch-2.branch [
  | in-0+in_ok-format-in-0 w ↦
      serves_same g.D.Device c.match-branch-2.disk w.format.new.disk c.match-branch-2.engine w.format.new.engine w.disk-is w.engine-is w.in_ok-format-in-0.ensures.serves
  | in-4194304+in_ok-recover-in-4194304 w ↦
      serves_same g.D.Device c.match-branch-2.disk w.recover.new.disk c.match-branch-2.engine w.recover.new.engine w.disk-is w.engine-is w.in_ok-recover-in-4194304.ensures.serves
]
