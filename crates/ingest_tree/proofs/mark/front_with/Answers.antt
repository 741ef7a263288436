use Rattle.ingest_tree.proofs.MarkLemmas.{front-with}
use Rattle.ingest_tree.proofs.mark.front_with.Goals as goal

pub returns : goal.returns
returns c =
    front-with c.args.first c.args.bytes.now c.digit.result c.digit-2.result c.digit-3.result c.digit-4.result c.digit-5.result c.digit-6.result c.digit-7.result
    c.digit.ensures.value c.digit-2.ensures.value c.digit-3.ensures.value c.digit-4.ensures.value c.digit-5.ensures.value c.digit-6.ensures.value c.digit-7.ensures.value
    c.digit.ensures.small c.digit-2.ensures.small c.digit-3.ensures.small c.digit-4.ensures.small c.digit-5.ensures.small c.digit-6.ensures.small c.digit-7.ensures.small
