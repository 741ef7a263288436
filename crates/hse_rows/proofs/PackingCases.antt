-- Small cases of packing: how many entries a page and a block hold, worked by hand.
use Rattle.std.proofs.Common.{◌≡◌, ℕ, List, [], ◌∷◌, length, refl}
use Rattle.std.specs.Prelude.{codes, map, replicate}
use Rattle.hse_rows.specs.declared.change.Change.{Change}
use Rattle.hse_rows.specs.declared.change.Change.TheVariants.{Put, Del, PDel}
use Rattle.hse_rows.specs.declared.row.Row.{Row}
use Rattle.hse_rows.specs.rows.Packing.{filled, prefix_blocks, key_pages, key_blocks, value_blocks}

abbrev numbered : ℕ → Change → Row
numbered number change = record { number = number; change = change }

-- how many there are in each
abbrev counts : {X : Type 0} → List (List X) → List ℕ
counts xss = map (λ xs. length xs) xss

-- ---- filling

-- in rooms of 10 bytes
abbrev tens : List ℕ → List (List ℕ)
tens = filled (λ n. n) 10

nothing_fills_no_block : tens [] ≡ []
nothing_fills_no_block = refl

a_block_may_be_full : tens (4 ∷ 6 ∷ 1 ∷ []) ≡ (4 ∷ 6 ∷ []) ∷ (1 ∷ []) ∷ []
a_block_may_be_full = refl

one_byte_more_opens_a_block : tens (4 ∷ 7 ∷ 3 ∷ 1 ∷ []) ≡ (4 ∷ []) ∷ (7 ∷ 3 ∷ []) ∷ (1 ∷ []) ∷ []
one_byte_more_opens_a_block = refl

only_the_last_block_is_filled_up : tens (6 ∷ 5 ∷ 4 ∷ []) ≡ (6 ∷ []) ∷ (5 ∷ 4 ∷ []) ∷ []
only_the_last_block_is_filled_up = refl

-- ---- prefixes: 9 bytes and the prefix, behind a header of 16

abbrev prefix_deletes : List Row
prefix_deletes =
    numbered 4 (PDel (codes "ab")) ∷ numbered 2 (PDel (codes "cd")) ∷ numbered 3 (PDel (codes "ef"))
    ∷ numbered 5 (Put (codes "k") (codes "v")) ∷ []

two_prefixes_of_2_bytes_take_22 : counts (prefix_blocks 38 prefix_deletes) ≡ 2 ∷ 1 ∷ []
two_prefixes_of_2_bytes_take_22 = refl

in_one_byte_less_each_has_its_block : counts (prefix_blocks 37 prefix_deletes) ≡ 1 ∷ 1 ∷ 1 ∷ []
in_one_byte_less_each_has_its_block = refl

-- ---- values: 4 bytes and the value

abbrev values : List Row
values =
    numbered 1 (PDel (codes "x")) ∷ numbered 2 (Put (codes "a") (codes "123")) ∷ numbered 3 (Del (codes "b"))
    ∷ numbered 4 (Put (codes "c") []) ∷ numbered 5 (Put (codes "d") (codes "4")) ∷ []

an_empty_value_has_an_entry :
    value_blocks 27 values
    ≡ (numbered 2 (Put (codes "a") (codes "123")) ∷ numbered 4 (Put (codes "c") []) ∷ [])
    ∷ (numbered 5 (Put (codes "d") (codes "4")) ∷ []) ∷ []
an_empty_value_has_an_entry = refl

five_bytes_more_hold_the_third : counts (value_blocks 32 values) ≡ 3 ∷ []
five_bytes_more_hold_the_third = refl

one_byte_less_does_not : counts (value_blocks 31 values) ≡ 2 ∷ 1 ∷ []
one_byte_less_does_not = refl

-- ---- keys: pages of 4,096 bytes, of which a put takes 23 and its key, a deletion 11 and its key, and a count 2

abbrev key_of : ℕ → List ℕ
key_of long = replicate long 97

abbrev a_put_of : ℕ → Row
a_put_of long = numbered 2 (Put (key_of long) [])

abbrev a_deletion_of : ℕ → Row
a_deletion_of long = numbered 2 (Del (key_of long))

-- 2 and 1,367 and 1,367 and 1,360
three_puts_fill_a_page : counts (key_pages (a_put_of 1344 ∷ a_put_of 1344 ∷ a_put_of 1337 ∷ [])) ≡ 3 ∷ []
three_puts_fill_a_page = refl

one_byte_more_opens_a_page : counts (key_pages (a_put_of 1344 ∷ a_put_of 1344 ∷ a_put_of 1338 ∷ [])) ≡ 2 ∷ 1 ∷ []
one_byte_more_opens_a_page = refl

-- 2 and 1,355 and 1,355 and 1,355 and 29
deletions_take_12_bytes_less :
    counts (key_pages (a_deletion_of 1344 ∷ a_deletion_of 1344 ∷ a_deletion_of 1344 ∷ a_deletion_of 18 ∷ []))
    ≡ 4 ∷ []
deletions_take_12_bytes_less = refl

one_byte_more_opens_one_too :
    counts (key_pages (a_deletion_of 1344 ∷ a_deletion_of 1344 ∷ a_deletion_of 1344 ∷ a_deletion_of 19 ∷ []))
    ≡ 3 ∷ 1 ∷ []
one_byte_more_opens_one_too = refl

prefixes_take_no_page : key_pages (numbered 2 (PDel (codes "ab")) ∷ []) ≡ []
prefixes_take_no_page = refl

-- ---- blocks of pages, each of 4,096 bytes and 4 for the number before it

-- two of these fill a page
abbrev puts : ℕ → List Row
puts count = replicate count (a_put_of 1344)

a_slot_of_65536_bytes_has_15_pages : map counts (key_blocks 65536 (puts 30)) ≡ replicate 15 2 ∷ []
a_slot_of_65536_bytes_has_15_pages = refl

-- 16 and 4,100 and 4,100
two_pages_may_fill_a_block : map counts (key_blocks 8216 (puts 4)) ≡ (2 ∷ 2 ∷ []) ∷ []
two_pages_may_fill_a_block = refl

one_byte_less_opens_a_block : map counts (key_blocks 8215 (puts 4)) ≡ (2 ∷ []) ∷ (2 ∷ []) ∷ []
one_byte_less_opens_a_block = refl

the_sixteenth_page_opens_a_block : map counts (key_blocks 65536 (puts 31)) ≡ replicate 15 2 ∷ (1 ∷ []) ∷ []
the_sixteenth_page_opens_a_block = refl
