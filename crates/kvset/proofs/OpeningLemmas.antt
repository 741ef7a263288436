-- Reading the blocks of a set one after the other.
use Rattle.std.proofs.Common.{◌≡◌, ◌∙◌, ℕ, List, [], ◌∷◌, ◌++◌, map, Option, Some, None, Result, Ok, Err, refl, sym, ap, append_assoc}
use Rattle.std.proofs.lemmas.List.{append-nil, map_push}
use Rattle.hse_fields.specs.BlockText.{KeyEntry, PrefixEntry}
use Rattle.hse_rows.specs.writes.Lengths.{longest_value_in}
use Rattle.hse_fields.specs.BlockReading.{key_block_of, last_key, prefix_block_of, value_block_of}
use Rattle.prefix_delete.specs.declared.entry.Entry.{Entry}
use Rattle.prefix_delete.specs.Blocks.{in_block, of_block, last_prefix, Adds}
use Rattle.kvset.specs.declared.block.Block.{Block}
use Rattle.kblock.specs.Opened.{entries_of}
use Rattle.kvset.specs.declared.block.SetFault.{SetFault}
use Rattle.kvset.specs.declared.block.SetFault.TheVariants.{Damaged, NoMemory}
use Rattle.kvset.specs.declared.keys.KeyPart.{KeyPart}
use Rattle.kvset.specs.Keys.{all_keys, blocks_of, keys_in, part_slots}
use Rattle.kvset.specs.Reading.{◌>>=◌, in_slot, last_name, pages_of, prefixes_of, slots_of, values_of, Refuses}
use Rattle.kvset.proofs.PartLemmas.{all_pushed, last_append}

-- what was read before, and what is still read
abbrev pub with_front : {X : Type 0} → List X → Result (List X) (ℕ × ℕ) → Result (List X) (ℕ × ℕ)
with_front xs read = read >>= λ ys. Ok (xs ++ ys)

pub no_front : {X : Type 0} (read : Result (List X) (ℕ × ℕ)) → with_front [] read ≡ read
no_front (Ok ys) = refl
no_front (Err spot) = refl

regroup : {X : Type 0} (xs more : List X) (read : Result (List X) (ℕ × ℕ)) → with_front xs (read >>= λ ys. Ok (more ++ ys)) ≡ with_front (xs ++ more) read
regroup xs more (Ok ys) = ap (λ (l : List _). Ok l) (sym (append_assoc xs more ys))
regroup xs more (Err spot) = refl

-- ---- prefix deletes

joined : (old : List Entry) (entries : List PrefixEntry) → map in_block (old ++ map of_block entries) ≡ map in_block old ++ entries
joined [] [] = refl
joined [] (e ∷ es) = ap (λ (l : List PrefixEntry). e ∷ l) (joined [] es)
joined (x ∷ xs) es = ap (λ (l : List PrefixEntry). in_block x ∷ l) (joined xs es)

last_joined : (last : Option (List ℕ)) (old : List Entry) (entries : List PrefixEntry) → last_prefix last (old ++ map of_block entries) ≡ last_name (last_prefix last old) entries
last_joined last [] [] = refl
last_joined last [] (e ∷ es) = last_joined (Some e.prefix) [] es
last_joined last (x ∷ xs) es = last_joined (Some x.prefix) xs es

prefix_read : (old new : List Entry) (block : Block) (rest : List Block) (r : Result (List PrefixEntry) ℕ) → Adds old new r → prefix_block_of (last_prefix None old) block.bytes.items ≡ r
    → with_front (map in_block old) (prefixes_of (last_prefix None old) (block ∷ rest)) ≡ with_front (map in_block new) (prefixes_of (last_prefix None new) rest)
unfolding prefixes_of
prefix_read old new block rest (Ok entries) adds e =
    let front : map in_block new ≡ map in_block old ++ entries = ap (map in_block) adds ∙ joined old entries in
    let last : last_prefix None new ≡ last_name (last_prefix None old) entries = ap (last_prefix None) adds ∙ last_joined None old entries in
    rw e
    (regroup (map in_block old) entries (prefixes_of (last_name (last_prefix None old) entries) rest)
    ∙ ap (λ (l : List PrefixEntry). with_front l (prefixes_of (last_name (last_prefix None old) entries) rest)) (sym front)
    ∙ ap (λ (o : Option (List ℕ)). with_front (map in_block new) (prefixes_of o rest)) (sym last))
prefix_read old new block rest (Err place) adds e = absurd adds

pub prefixes_go_on : (old new : List Entry) (block : Block) (blocks rest : List Block) (total : Result (List PrefixEntry) (ℕ × ℕ)) → blocks ≡ block ∷ rest
    → Adds old new (prefix_block_of (last_prefix None old) block.bytes.items) → with_front (map in_block old) (prefixes_of (last_prefix None old) blocks) ≡ total
    → with_front (map in_block new) (prefixes_of (last_prefix None new) rest) ≡ total
prefixes_go_on old new block blocks rest total is adds so_far =
    sym (prefix_read old new block rest (prefix_block_of (last_prefix None old) block.bytes.items) adds refl)
    ∙ ap (λ (l : List Block). with_front (map in_block old) (prefixes_of (last_prefix None old) l)) (sym is)
    ∙ so_far

prefix_refused : (last : Option (List ℕ)) (front : List PrefixEntry) (block : Block) (rest : List Block) (place : ℕ) → prefix_block_of last block.bytes.items ≡ Err place
    → with_front front (prefixes_of last (block ∷ rest)) ≡ Err (block.slot, place)
unfolding prefixes_of
prefix_refused last front block rest place e = rw e refl

pub prefixes_stop : (old : List Entry) (block : Block) (blocks rest : List Block) (place : ℕ) (total : Result (List PrefixEntry) (ℕ × ℕ)) → blocks ≡ block ∷ rest
    → prefix_block_of (last_prefix None old) block.bytes.items ≡ Err place → with_front (map in_block old) (prefixes_of (last_prefix None old) blocks) ≡ total
    → total ≡ Err (block.slot, place)
prefixes_stop old block blocks rest place total is e so_far =
    sym so_far
    ∙ ap (λ (l : List Block). with_front (map in_block old) (prefixes_of (last_prefix None old) l)) is
    ∙ prefix_refused (last_prefix None old) (map in_block old) block rest place e

pub prefixes_are_done : (old : List Entry) (blocks : List Block) (total : Result (List PrefixEntry) (ℕ × ℕ)) → blocks ≡ []
    → with_front (map in_block old) (prefixes_of (last_prefix None old) blocks) ≡ total → total ≡ Ok (map in_block old)
unfolding prefixes_of
prefixes_are_done old blocks total none so_far =
    sym so_far
    ∙ ap (λ (l : List Block). with_front (map in_block old) (prefixes_of (last_prefix None old) l)) none
    ∙ ap (λ (l : List PrefixEntry). Ok l) (append-nil (map in_block old))

-- ---- values

value_read : (slot : ℕ) (front : List (List (List ℕ))) (block : Block) (rest : List Block) (values : List (List ℕ)) → value_block_of (longest_value_in slot) block.bytes.items ≡ Ok values
    → with_front front (values_of slot (block ∷ rest)) ≡ with_front (front ++ values ∷ []) (values_of slot rest)
unfolding values_of
value_read slot front block rest values e = rw e (regroup front (values ∷ []) (values_of slot rest))

pub values_go_on : (slot : ℕ) (front : List (List (List ℕ))) (block : Block) (rest : List Block) (values : List (List ℕ)) (total : Result (List (List (List ℕ))) (ℕ × ℕ))
    → value_block_of (longest_value_in slot) block.bytes.items ≡ Ok values → with_front front (values_of slot (block ∷ rest)) ≡ total
    → with_front (front ++ values ∷ []) (values_of slot rest) ≡ total
values_go_on slot front block rest values total e so_far = sym (value_read slot front block rest values e) ∙ so_far

pub values_stop : (slot : ℕ) (front : List (List (List ℕ))) (block : Block) (rest : List Block) (place : ℕ) (total : Result (List (List (List ℕ))) (ℕ × ℕ))
    → value_block_of (longest_value_in slot) block.bytes.items ≡ Err place → with_front front (values_of slot (block ∷ rest)) ≡ total → total ≡ Err (block.slot, place)
unfolding values_of
values_stop slot front block rest place total e so_far =
    let one : with_front front (values_of slot (block ∷ rest)) ≡ Err (block.slot, place) = rw e refl in
    sym so_far ∙ one

pub values_are_done : (slot : ℕ) (front : List (List (List ℕ))) (total : Result (List (List (List ℕ))) (ℕ × ℕ)) → with_front front (values_of slot []) ≡ total → total ≡ Ok front
unfolding values_of
values_are_done slot front total so_far = sym so_far ∙ ap (λ (l : List (List (List ℕ))). Ok l) (append-nil front)

-- ---- keys

no_pages : (last : Option (List ℕ)) → pages_of last [] ≡ Ok []
unfolding pages_of
no_pages last = refl

keys_read : (front : List (List (List KeyEntry))) (last : Option (List ℕ)) (block : Block) (rest : List Block) (pages : List (List KeyEntry)) → key_block_of last block.bytes.items ≡ Ok pages
    → with_front front (pages_of last (block ∷ rest)) ≡ with_front (front ++ pages ∷ []) (pages_of (last_key last (entries_of pages)) rest)
unfolding pages_of
keys_read front last block rest pages e = rw e (regroup front (pages ∷ []) (pages_of (last_key last (entries_of pages)) rest))

pub keys_go_on : (parts : List KeyPart) (part : KeyPart) (block : Block) (rest : List Block) (total : Result (List (List (List KeyEntry))) (ℕ × ℕ))
    → key_block_of (last_key None (all_keys parts)) block.bytes.items ≡ Ok part.block
    → with_front (blocks_of parts) (pages_of (last_key None (all_keys parts)) (block ∷ rest)) ≡ total
    → with_front (blocks_of (parts ++ part ∷ [])) (pages_of (last_key None (all_keys (parts ++ part ∷ []))) rest) ≡ total
keys_go_on parts part block rest total e so_far =
    let last : last_key None (all_keys (parts ++ part ∷ [])) ≡ last_key (last_key None (all_keys parts)) (entries_of part.block) =
    ap (last_key None) (all_pushed parts part) ∙ last_append None (all_keys parts) (keys_in part) in
    ap (λ (l : List (List (List KeyEntry))). with_front l (pages_of (last_key None (all_keys (parts ++ part ∷ []))) rest)) (map_push (λ (p : KeyPart). p.block) parts part)
    ∙ ap (λ (o : Option (List ℕ)). with_front (blocks_of parts ++ part.block ∷ []) (pages_of o rest)) last
    ∙ sym (keys_read (blocks_of parts) (last_key None (all_keys parts)) block rest part.block e)
    ∙ so_far

pub keys_stop : (front : List (List (List KeyEntry))) (last : Option (List ℕ)) (block : Block) (rest : List Block) (fault : SetFault) (total : Result (List (List (List KeyEntry))) (ℕ × ℕ))
    → Refuses (in_slot block.slot (key_block_of last block.bytes.items)) fault → with_front front (pages_of last (block ∷ rest)) ≡ total → Refuses total fault
unfolding pages_of
keys_stop front last block rest NoMemory total e so_far = tt
keys_stop front last block rest (Damaged slot place) total e so_far =
    let one : with_front front (pages_of last (block ∷ rest)) ≡ Err (slot, place) = rw e refl in
    sym so_far ∙ one

pub keys_are_done : (front : List (List (List KeyEntry))) (last : Option (List ℕ)) (blocks : List Block) (total : Result (List (List (List KeyEntry))) (ℕ × ℕ)) → blocks ≡ []
    → with_front front (pages_of last blocks) ≡ total → total ≡ Ok front
keys_are_done front last blocks total none so_far =
    sym so_far
    ∙ ap (λ (l : List Block). with_front front (pages_of last l)) none
    ∙ ap (with_front front) (no_pages last)
    ∙ ap (λ (l : List (List (List KeyEntry))). Ok l) (append-nil front)

pub slots_go_on : (parts : List KeyPart) (part : KeyPart) (block : Block) (rest : List Block) (total : List ℕ) → part.slot ≡ block.slot
    → part_slots parts ++ slots_of (block ∷ rest) ≡ total → part_slots (parts ++ part ∷ []) ++ slots_of rest ≡ total
slots_go_on parts part block rest total same so_far =
    ap (λ (l : List ℕ). l ++ slots_of rest) (map_push (λ (p : KeyPart). p.slot) parts part)
    ∙ append_assoc (part_slots parts) (part.slot ∷ []) (slots_of rest)
    ∙ ap (λ (n : ℕ). part_slots parts ++ n ∷ slots_of rest) same
    ∙ so_far

pub slots_are_done : (parts : List KeyPart) (blocks : List Block) (total : List ℕ) → blocks ≡ [] → part_slots parts ++ slots_of blocks ≡ total → part_slots parts ≡ total
slots_are_done parts blocks total none so_far =
    sym (append-nil (part_slots parts)) ∙ ap (λ (l : List Block). part_slots parts ++ slots_of l) (sym none) ∙ so_far
