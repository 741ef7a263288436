use Rattle.std.proofs.Common.{sym, ap, ◌∙◌, subst}
use Rattle.std.specs.Option.{option_map}
use Rattle.std.specs.Ordering.{is_lt}
use Rattle.cursors.specs.Starts.{IsBehindAll}
use Rattle.cursors.proofs.StartLemmas.{to-end, to-behind}
use Rattle.cursors.proofs.start.start_down.Goals as goal

pub returns : goal.returns
returns c = λ prefix behind key is.
    let known = subst (λ end. IsBehindAll prefix (option_map (λ end. end.now) end)) c.in-Some.is behind in
    to-end prefix c.in-Some.end.now key known is
    ∙ sym (to-behind c.args.stand c.args.key.now prefix c.in-Some.end.now key (sym (ap is_lt c.cmp.ensures) ∙ sym c.is_lt.ensures ∙ c.if-is_lt.false) known is)
