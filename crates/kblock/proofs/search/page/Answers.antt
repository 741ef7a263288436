use Rattle.std.proofs.Common.{◌∙◌, ap, sym, take}
use Rattle.hse_fields.specs.BlockText.{page_size}
use Rattle.kblock.proofs.SearchLemmas.{page_at-is}
use Rattle.kblock.proofs.search.page.Goals as goal

pub returns-clause-page : goal.returns-clause-page
returns-clause-page c =
    c.split_at-2.ensures.front ∙ ap (take page_size) c.split_at.ensures.back ∙ sym (page_at-is c.args.at c.args.pages.now)
