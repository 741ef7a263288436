-- The blocks of prefix deletes are packed as full as they go.
use Rattle.std.proofs.Common.{◌≡◌, ℕ, suc, ◌+◌, ◌-◌, ◌≤◌, List, [], ◌∷◌, ◌++◌, length, map, take, drop, get_or, Vec, refl, sym, ap, ◌∙◌, append_assoc, arith, length-append}
use Rattle.std.specs.List.{sum_by}
use Rattle.std.specs.declared.alloc.Global.{Global}
use Rattle.std.proofs.lemmas.List.{map-append, drop-drop}
use Rattle.std.proofs.lemmas.List.Sums.{sum_by-cons}
use Rattle.hse_rows.specs.rows.Packing.{filled}
use Rattle.hse_fields.specs.BlockText.{header_size, prefix_kind, block_header, prefix_text, prefixes_text}
use Rattle.prefix_delete.specs.declared.entry.Entry.{Entry}
use Rattle.prefix_delete.specs.Prefixes.{entry_of}
use Rattle.prefix_delete.specs.Blocks.{in_block, block_of, IsFront, IsFilled}
use Rattle.set_build.specs.Packs.{bytes_of, entry_size}
use Rattle.set_build.proofs.FilledLemmas.{filled-front}

text-long : (es : List Entry) → length (prefixes_text (map in_block es)) ≡ sum_by entry_size es
text-long [] = refl
text-long (e ∷ es) =
    omega (arith, text-long es, length-append (prefix_text (in_block e)) (prefixes_text (map in_block es)), sum_by-cons entry_size e es)

block-long : (es : List Entry) → length (block_of es) ≡ header_size + sum_by entry_size es
block-long es =
    let text = prefixes_text (map in_block es) in
    omega (arith, text-long es, length-append (block_header prefix_kind (header_size + length text) (length (map in_block es)) 0) text)

size-of : (e : Entry) → entry_size e ≡ suc (suc (suc (suc (suc (suc (suc (suc (suc (length e.prefix)))))))))
size-of e = refl

abbrev pub blocks_of : ℕ → List Entry → List (List ℕ)
blocks_of slot es = map block_of (filled entry_size (slot - header_size) es)

front-filled : (slot : ℕ) (es : List Entry) (block : List ℕ) (n : ℕ) → header_size ≤ slot → IsFront es slot block n
    → blocks_of slot es ≡ block ∷ blocks_of slot (drop n es)
front-filled slot es block n large front =
    let long : length block ≡ header_size + sum_by entry_size (take n es) = ap length front.text ∙ block-long (take n es) in
    ap (λ (l : List (List Entry)). map block_of l) (
    filled-front entry_size (slot - header_size) es n (entry_of [] 0) front.some front.within (omega (arith, front.fits, long))
    (λ more.
    let over = front.full (entry_of [] 0) more in
    let next = get_or es n (entry_of [] 0) in
    omega (arith, over, long, large, size-of next))
    )
    ∙ ap (λ (l : List ℕ). l ∷ blocks_of slot (drop n es)) (sym front.text)

-- one block more
pub block-more : (slot : ℕ) (es : List Entry) (done : List (Vec ℕ Global)) (block : Vec ℕ Global) (from next : ℕ) → header_size ≤ slot
    → IsFilled es from slot block.items next
    → bytes_of (done ++ block ∷ []) ++ blocks_of slot (drop next es) ≡ bytes_of done ++ blocks_of slot (drop from es)
block-more slot es done block from next large filled =
    let rest : drop (next - from) (drop from es) ≡ drop next es =
    drop-drop (next - from) from es ∙ ap (λ (k : ℕ). drop k es) (omega (arith, filled.0)) in
    ap (λ (l : List (List ℕ)). l ++ blocks_of slot (drop next es)) (map-append (λ (b : Vec ℕ Global). b.items) done (block ∷ []))
    ∙ append_assoc (bytes_of done) (block.items ∷ []) (blocks_of slot (drop next es))
    ∙ ap (λ (l : List (List ℕ)). bytes_of done ++ l) (
    ap (λ (l : List Entry). block.items ∷ blocks_of slot l) (sym rest)
    ∙ sym (front-filled slot (drop from es) block.items (next - from) large filled.1)
    )
