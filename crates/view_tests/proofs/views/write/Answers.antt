use Rattle.view_tests.proofs.views.write.Goals as goal

pub keep-requires : goal.keep-requires
keep-requires c = record { write = _; is = c.in_ok-staged.ensures }
