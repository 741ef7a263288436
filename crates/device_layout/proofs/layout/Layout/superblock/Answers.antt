use Rattle.std.proofs.Common.{◌∙◌, ◌++◌, ◌∷◌, List, ℕ, refl, ap}
use Rattle.byteorder.specs.Endian.{big_bytes}
use Rattle.device_layout.specs.Layouts.{known_version, params_of}
use Rattle.device_layout.specs.Superblock.{mark, sizes_text}
use Rattle.device_layout.specs.declared.params.Params.{Params}
use Rattle.device_layout.proofs.SuperblockLemmas.{block_of}
use Rattle.device_layout.proofs.layout.Layout.superblock.Goals as goal

pub returns : goal.returns
returns c =
    block_of 4096 c.put_sizes.new.block.len (params_of c.args.self) c.resize.new.self.items c.put_head.new.block.items c.put_sizes.new.block.items refl c.put_sizes.new.block.ok.0
    (c.in_ok-put_head.ensures ∙ ap (λ (l : List ℕ). l ++ 0 ∷ (mark ++ big_bytes 4 known_version)) c.in_ok-block.ensures.items)
    (c.in_ok-put_sizes.ensures ∙ ap (λ (p : Params). c.put_head.new.block.items ++ sizes_text p) c.params.ensures)
    c.in_ok-resize.ensures.items
