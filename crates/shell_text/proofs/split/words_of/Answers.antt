-- The parts at the spaces are collected as they come.
use Rattle.std.proofs.Common.{◌==◌, ap, ◌∙◌, rules, tests}
use Rattle.std.proofs.lemmas.Iterator.{YieldsList-from_take}
use Rattle.std.proofs.lemmas.Iterator.Consumers.{map_from_collect}
use Rattle.std.proofs.lemmas.Iterator.Splits.{YieldsList-from_slice_split}
use Rattle.std.specs.Slice.Iter as slice
use Rattle.shell_text.proofs.split.words_of.Goals as goal

pub returns : goal.returns
returns c =
    map_from_collect _ c.collect.ensures.ran
    (YieldsList-from_take 7
    (YieldsList-from_slice_split _ (λ byte. byte == 32) c.args.line.now (ap slice.split_rest c.take.ensures.source ∙ c.split.ensures.rest) (ap slice.split_done c.take.ensures.source ∙ c.split.ensures.done) (ap slice.split_callee c.take.ensures.source ∙ c.split.ensures.closure) (λ x b q k. search (rules, tests)))
    c.take.ensures.count)
