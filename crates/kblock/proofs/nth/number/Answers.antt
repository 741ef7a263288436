use Rattle.std.proofs.Common.{◌∙◌, take, ap, sym}
use Rattle.byteorder.specs.Endian.{big_number}
use Rattle.kblock.proofs.NthLemmas.{number_at-is}
use Rattle.kblock.proofs.nth.number.Goals as goal

pub returns : goal.returns
returns c =
    c.read_u32.ensures ∙ ap (big_number 4) (c.split_at-2.ensures.front ∙ ap (take 4) c.split_at.ensures.back) ∙ sym (number_at-is c.args.at c.args.numbers.now)
