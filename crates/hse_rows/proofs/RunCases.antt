-- Small cases of compactions and spills: runs beside other sets, their blocks, and the order of nodes, worked by hand.
use Rattle.std.proofs.Common.{◌≡◌, ℕ, true, false, List, [], ◌∷◌, refl}
use Rattle.std.specs.Prelude.{codes, map}
use Rattle.hse_rows.specs.declared.change.Change.{Change}
use Rattle.hse_rows.specs.declared.change.Change.TheVariants.{Put, Del, PDel}
use Rattle.hse_rows.specs.declared.row.Row.{Row}
use Rattle.hse_rows.specs.rows.Newest.{newest}
use Rattle.hse_rows.specs.rows.Layout.{RowsInBlocks, Node, Layout, sets_at, with_sets, children, has_children, is_last}
use Rattle.hse_rows.proofs.CaseLines.{compacted, keys_compacted, spilled}

abbrev numbered : ℕ → Change → Row
numbered number change = record { number = number; change = change }

-- rows in blocks: of prefixes, of keys and of values
abbrev in_blocks : ℕ → ℕ → ℕ → List Row → RowsInBlocks
in_blocks prefixes keys values rows =
    record { rows = rows; prefix_blocks = prefixes; key_blocks = keys; value_blocks = values }

-- the root of store 1 has these sets
abbrev at_root : List RowsInBlocks → Layout
at_root sets = record { store = 1; path = []; sets = sets } ∷ []

-- the sets of that root
abbrev root : Layout → List RowsInBlocks
root layout = sets_at layout 1 []

-- ---- a key compaction of two sets

abbrev older : RowsInBlocks
older =
    in_blocks 0 1 1
    (numbered 2 (Put (codes "ab1") (codes "1")) ∷ numbered 3 (Put (codes "b1") (codes "2"))
    ∷ numbered 4 (Del (codes "c1")) ∷ [])

abbrev newer : RowsInBlocks
newer = in_blocks 1 1 1 (numbered 5 (PDel (codes "ab")) ∷ numbered 6 (Put (codes "b1") (codes "3")) ∷ [])

abbrev both : Layout
both = at_root (newer ∷ older ∷ [])

a_key_compaction_keeps_all_value_blocks :
    root (keys_compacted 65536 both 1 [] 0 2 false)
    ≡ in_blocks 1 1 2
    (numbered 5 (PDel (codes "ab")) ∷ numbered 6 (Put (codes "b1") (codes "3")) ∷ numbered 4 (Del (codes "c1")) ∷ [])
    ∷ []
unfolding newest
a_key_compaction_keeps_all_value_blocks = refl

of_the_last_it_leaves_deletions_out :
    root (keys_compacted 65536 both 1 [] 0 2 true) ≡ in_blocks 0 1 2 (numbered 6 (Put (codes "b1") (codes "3")) ∷ [])
    ∷ []
unfolding newest
of_the_last_it_leaves_deletions_out = refl

a_key_value_compaction_writes_values_anew :
    root (compacted 65536 both 1 [] 0 2 true) ≡ in_blocks 0 1 1 (numbered 6 (Put (codes "b1") (codes "3")) ∷ []) ∷ []
unfolding newest
a_key_value_compaction_writes_values_anew = refl

-- two sets of a new key each, of two blocks
abbrev of_two_keys : Layout
of_two_keys =
    at_root (in_blocks 0 1 1 (numbered 3 (Put (codes "a") (codes "2")) ∷ [])
    ∷ in_blocks 0 1 1 (numbered 2 (Put (codes "b") (codes "1")) ∷ []) ∷ [])

two_sets_of_two_blocks_are_one_of_three :
    root (keys_compacted 65536 of_two_keys 1 [] 0 2 true)
    ≡ in_blocks 0 1 2 (numbered 3 (Put (codes "a") (codes "2")) ∷ numbered 2 (Put (codes "b") (codes "1")) ∷ []) ∷ []
unfolding newest
two_sets_of_two_blocks_are_one_of_three = refl

-- ten puts and a deletion of one key left their deletion
abbrev of_a_deletion : Layout
of_a_deletion = at_root (in_blocks 0 1 0 (numbered 13 (Del (codes "a1")) ∷ []) ∷ [])

a_last_deletion_leaves_no_set : keys_compacted 65536 of_a_deletion 1 [] 0 1 true ≡ []
unfolding newest
a_last_deletion_leaves_no_set = refl

elsewhere_it_stays : keys_compacted 65536 of_a_deletion 1 [] 0 1 false ≡ of_a_deletion
unfolding newest
elsewhere_it_stays = refl

-- ---- a run in the middle

abbrev newest_set : RowsInBlocks
newest_set = in_blocks 0 1 1 (numbered 9 (Put (codes "a") (codes "9")) ∷ [])

abbrev second_set : RowsInBlocks
second_set = in_blocks 0 1 1 (numbered 7 (Put (codes "a") (codes "7")) ∷ numbered 8 (Del (codes "b")) ∷ [])

abbrev third_set : RowsInBlocks
third_set = in_blocks 0 1 1 (numbered 5 (Put (codes "a") (codes "5")) ∷ numbered 4 (Put (codes "b") (codes "4")) ∷ [])

abbrev oldest_set : RowsInBlocks
oldest_set = in_blocks 0 1 1 (numbered 2 (Put (codes "b") (codes "2")) ∷ [])

abbrev of_four : Layout
of_four = at_root (newest_set ∷ second_set ∷ third_set ∷ oldest_set ∷ [])

-- the second and the third
abbrev of_the_middle : List Row
of_the_middle = numbered 7 (Put (codes "a") (codes "7")) ∷ numbered 8 (Del (codes "b")) ∷ []

a_run_in_the_middle_is_not_last : is_last of_four 1 [] 1 ≡ false
a_run_in_the_middle_is_not_last = refl

one_with_the_oldest_is : is_last of_four 1 [] 0 ≡ true
one_with_the_oldest_is = refl

its_set_stands_in_its_place :
    root (compacted 65536 of_four 1 [] 1 2 false)
    ≡ newest_set ∷ in_blocks 0 1 1 of_the_middle ∷ oldest_set ∷ []
unfolding newest
its_set_stands_in_its_place = refl

a_key_compaction_s_too :
    root (keys_compacted 65536 of_four 1 [] 1 2 false)
    ≡ newest_set ∷ in_blocks 0 1 2 of_the_middle ∷ oldest_set ∷ []
unfolding newest
a_key_compaction_s_too = refl

the_two_newest_stand_before_two_older :
    root (compacted 65536 of_four 1 [] 2 2 false)
    ≡ in_blocks 0 1 1 (numbered 9 (Put (codes "a") (codes "9")) ∷ numbered 8 (Del (codes "b")) ∷ []) ∷ third_set
    ∷ oldest_set ∷ []
unfolding newest
the_two_newest_stand_before_two_older = refl

-- ---- spills

-- a set of two keys, and a newer one that the spill does not take
abbrev before_spill : Layout
before_spill =
    at_root
    (newest_set
    ∷ in_blocks 0 1 1 (numbered 2 (Put (codes "a1") (codes "1")) ∷ numbered 3 (Put (codes "b1") (codes "2")) ∷ []) ∷ [])

a_spill_divides_its_run :
    spilled 65536 before_spill 1 [] 1 1
    ≡ record { store = 1; path = []; sets = newest_set ∷ [] }
    ∷ record { store = 1; path = 1 ∷ []; sets = in_blocks 0 1 1 (numbered 2 (Put (codes "a1") (codes "1")) ∷ []) ∷ [] }
    ∷ record { store = 1; path = 2 ∷ []; sets = in_blocks 0 1 1 (numbered 3 (Put (codes "b1") (codes "2")) ∷ []) ∷ [] }
    ∷ []
unfolding newest
a_spill_divides_its_run = refl

-- a prefix delete goes the way of its keys, and a spill keeps it
abbrev of_deletions : RowsInBlocks
of_deletions = in_blocks 1 1 0 (numbered 4 (PDel (codes "b")) ∷ numbered 5 (Del (codes "b1")) ∷ [])

a_spill_keeps_deletions :
    spilled 65536 (at_root (of_deletions ∷ [])) 1 [] 1 1
    ≡ record { store = 1; path = 2 ∷ []; sets = of_deletions ∷ [] } ∷ []
unfolding newest
a_spill_keeps_deletions = refl

-- in a store whose prefixes have 2 bytes at most, one of 1 byte goes to each child
abbrev of_a_short_prefix : RowsInBlocks
of_a_short_prefix = in_blocks 1 0 0 (numbered 3 (PDel (codes "a")) ∷ [])

abbrev child_with : List RowsInBlocks → ℕ → Node
child_with sets child = record { store = 1; path = child ∷ []; sets = sets }

a_short_prefix_goes_to_each_child :
    spilled 65536 (at_root (of_a_short_prefix ∷ [])) 1 [] 2 1 ≡ map (child_with (of_a_short_prefix ∷ [])) children
unfolding newest
a_short_prefix_goes_to_each_child = refl

-- and stands in front of what a child has: aa goes to child 0
abbrev of_aa : RowsInBlocks
of_aa = in_blocks 0 1 1 (numbered 2 (Put (codes "aa") (codes "1")) ∷ [])

it_stands_before_what_a_child_has :
    sets_at (spilled 65536 (record { store = 1; path = []; sets = of_a_short_prefix ∷ [] } ∷ child_with (of_aa ∷ []) 0 ∷ []) 1 [] 2 1) 1
    (0 ∷ [])
    ≡ of_a_short_prefix ∷ of_aa ∷ []
unfolding newest
it_stands_before_what_a_child_has = refl

-- with a newer row of a key of the child it is one set
a_child_s_rows_are_one_set :
    sets_at
    (spilled 65536 (at_root (in_blocks 0 1 1 (numbered 4 (Put (codes "aa") (codes "1")) ∷ []) ∷ of_a_short_prefix ∷ [])) 1 [] 2 2) 1
    (0 ∷ [])
    ≡ in_blocks 1 1 1 (numbered 3 (PDel (codes "a")) ∷ numbered 4 (Put (codes "aa") (codes "1")) ∷ []) ∷ []
unfolding newest
a_child_s_rows_are_one_set = refl

-- ---- the order of nodes: by store, and by path

abbrev at_node : ℕ → List ℕ → List RowsInBlocks → Node
at_node store path sets = record { store = store; path = path; sets = sets }

-- sets of a key that goes to child 1, and of one that goes to child 2
abbrev of_a1 : RowsInBlocks
of_a1 = in_blocks 0 1 1 (numbered 2 (Put (codes "a1") (codes "1")) ∷ [])

abbrev of_b1 : RowsInBlocks
of_b1 = in_blocks 0 1 1 (numbered 3 (Put (codes "b1") (codes "2")) ∷ [])

a_child_stands_before_the_next :
    spilled 65536 (at_node 1 [] (of_a1 ∷ []) ∷ at_node 1 (2 ∷ []) (of_b1 ∷ []) ∷ []) 1 [] 1 1
    ≡ at_node 1 (1 ∷ []) (of_a1 ∷ []) ∷ at_node 1 (2 ∷ []) (of_b1 ∷ []) ∷ []
unfolding newest
a_child_stands_before_the_next = refl

a_child_stands_before_another_store :
    spilled 65536 (at_node 1 [] (of_b1 ∷ []) ∷ at_node 2 [] (of_a1 ∷ []) ∷ []) 1 [] 1 1
    ≡ at_node 1 (2 ∷ []) (of_b1 ∷ []) ∷ at_node 2 [] (of_a1 ∷ []) ∷ []
unfolding newest
a_child_stands_before_another_store = refl

a_root_stands_before_its_children :
    with_sets (at_node 1 (2 ∷ []) (of_b1 ∷ []) ∷ []) 1 [] (of_a1 ∷ [])
    ≡ at_node 1 [] (of_a1 ∷ []) ∷ at_node 1 (2 ∷ []) (of_b1 ∷ []) ∷ []
a_root_stands_before_its_children = refl

-- ---- nodes of other paths and stores

abbrev of_a_child : Layout
of_a_child = record { store = 1; path = 1 ∷ 2 ∷ []; sets = oldest_set ∷ [] } ∷ []

a_longer_path_is_a_child : has_children of_a_child 1 (1 ∷ []) ≡ true
a_longer_path_is_a_child = refl

another_path_is_none : has_children of_a_child 1 (2 ∷ []) ≡ false
another_path_is_none = refl

a_node_is_not_its_own_child : has_children of_a_child 1 (1 ∷ 2 ∷ []) ≡ false
a_node_is_not_its_own_child = refl

another_store_has_no_child_there : has_children of_a_child 2 (1 ∷ []) ≡ false
another_store_has_no_child_there = refl

another_node_stays :
    sets_at (keys_compacted 65536 (record { store = 2; path = []; sets = newer ∷ [] } ∷ both) 1 [] 0 2 true) 2 []
    ≡ newer ∷ []
unfolding newest
another_node_stays = refl
