use Rattle.hse_shell.proofs.FormedLemmas.{one_beginning, one_refusal, good_not_refused}
use Rattle.hse_shell.proofs.laws.devices_have_one_reading.Goals as goal

pub returns : goal.returns
returns c = record { stored = one_beginning; refused = one_refusal; not_both = good_not_refused }
