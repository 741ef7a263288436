use Rattle.std.proofs.Common.{◌<◌, length, ap, sym, ◌∙◌, subst}
use Rattle.std.specs.List.{AllByRecursion, flat_map, slice_get}
use Rattle.sorted_lists.specs.laws.Lists.{each-at}
use Rattle.ingest_tree.specs.laws.Filling.{stand-sound, stand-some}
use Rattle.ingest_tree.proofs.ChunkLemmas.{flat-joined, chunks-some, chunks-sound}
use Rattle.ingest_tree.proofs.PartLemmas.{get-child}
use Rattle.ingest_tree.proofs.node.NodePiece.first.Goals as goal

pub bounds-chunks-0 : goal.bounds-chunks-0
bounds-chunks-0 g c =
    chunks-some c.chunks.result.now (subst (λ l. 0 < length l) (sym c.chunks.ensures.parts)
    (stand-some g.T.Part.filled g.T.Piece.sound g.met.T.Part.is_sound c.args.self.now c.requires.1))

pub first-requires : goal.first-requires
first-requires g c =
    let sound = g.T.Piece.sound in
    let cs = c.chunks.result.now in
    let all = subst (AllByRecursion sound) (sym c.chunks.ensures.parts)
    (stand-sound g.T.Part.filled sound g.met.T.Part.is_sound c.args.self.now c.requires.1) in
    subst (λ l. (0 < length l) × AllByRecursion sound l) (sym c.index-chunks-0.is)
    (each-at (λ c. (0 < length c) × AllByRecursion sound c) cs 0 c.index-chunks-0.result
    (chunks-sound sound cs c.chunks.ensures.chunks all)
    (chunks-some cs (subst (λ l. 0 < length l) (sym c.chunks.ensures.parts)
    (stand-some g.T.Part.filled sound g.met.T.Part.is_sound c.args.self.now c.requires.1))))

pub returns : goal.returns
returns g c =
    let rows = g.T.Piece.rows in
    let cs = c.chunks.result.now in
    ap (λ l. slice_get l 0) (sym (flat-joined rows cs ∙ ap (flat_map rows) c.chunks.ensures.parts))
    ∙ get-child (λ c. flat_map rows c) cs 0 c.index-chunks-0.result
    (chunks-some cs (subst (λ l. 0 < length l) (sym c.chunks.ensures.parts)
    (stand-some g.T.Part.filled g.T.Piece.sound g.met.T.Part.is_sound c.args.self.now c.requires.1)))
    c.index-chunks-0.is 0 c.first.result.now c.first.ensures
