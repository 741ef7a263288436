-- Small cases of newest rows, packing, routing and the jobs, worked by hand.
use Rattle.std.proofs.Common.{◌≡◌, ℕ, true, false, List, [], ◌∷◌, length, refl}
use Rattle.std.specs.Prelude.{codes, map}
use Rattle.hse_rows.specs.declared.change.Change.{Change}
use Rattle.hse_rows.specs.declared.change.Change.TheVariants.{Put, Del, PDel}
use Rattle.hse_rows.specs.declared.row.Row.{Row}
use Rattle.hse_rows.specs.declared.write.Write.{Write}
use Rattle.hse_rows.specs.writes.Change.{write_of}
use Rattle.hse_rows.specs.declared.store.Mode.TheVariants.{Plain}
use Rattle.hse_rows.specs.states.History.{new_store}
use Rattle.hse_rows.specs.machine.Log.{Numbered}
use Rattle.hse_rows.specs.rows.Newest.{newest, merged, rows_of}
use Rattle.hse_rows.specs.rows.Routing.{greatest_depth, child_of, hash_of}
use Rattle.hse_rows.specs.rows.Layout.{Layout, Node, sets_at, is_last}
use Rattle.hse_rows.proofs.CaseLines.{ingested, compacted, spilled}

abbrev numbered : ℕ → Change → Row
numbered number change = record { number = number; change = change }

abbrev write : ℕ → Change → Write
write id change = write_of (record { 0 = id }) change

-- ---- newest rows

the_greatest_number_is_kept :
    newest (numbered 3 (Put (codes "a") (codes "new")) ∷ numbered 2 (Put (codes "a") (codes "old")) ∷ [])
    ≡ numbered 3 (Put (codes "a") (codes "new")) ∷ []
unfolding newest
the_greatest_number_is_kept = refl

a_prefix_delete_covers_smaller_numbers_only :
    newest (numbered 2 (Put (codes "ab1") (codes "1")) ∷ numbered 3 (PDel (codes "ab"))
    ∷ numbered 3 (Put (codes "ab2") (codes "2")) ∷ [])
    ≡ numbered 3 (PDel (codes "ab")) ∷ numbered 3 (Put (codes "ab2") (codes "2")) ∷ []
unfolding newest
a_prefix_delete_covers_smaller_numbers_only = refl

a_deletion_is_a_row :
    newest (numbered 2 (Put (codes "a") (codes "1")) ∷ numbered 3 (Del (codes "a")) ∷ [])
    ≡ numbered 3 (Del (codes "a")) ∷ []
unfolding newest
a_deletion_is_a_row = refl

the_last_merge_leaves_deletions_out :
    merged true (numbered 2 (Put (codes "a") (codes "1")) ∷ numbered 3 (Del (codes "a")) ∷ [])
    ≡ []
unfolding newest
the_last_merge_leaves_deletions_out = refl

a_put_of_a_prefix_s_bytes_hides_no_prefix :
    newest (numbered 3 (Put (codes "ab") (codes "1")) ∷ numbered 2 (PDel (codes "ab")) ∷ [])
    ≡ numbered 2 (PDel (codes "ab")) ∷ numbered 3 (Put (codes "ab") (codes "1")) ∷ []
unfolding newest
a_put_of_a_prefix_s_bytes_hides_no_prefix = refl

the_newer_of_one_prefix_is_kept :
    newest (numbered 2 (PDel (codes "ab")) ∷ numbered 3 (PDel (codes "ab")) ∷ [])
    ≡ numbered 3 (PDel (codes "ab")) ∷ []
unfolding newest
the_newer_of_one_prefix_is_kept = refl

-- in two sets
one_of_two_with_one_prefix_and_number_is_kept :
    newest (numbered 3 (PDel (codes "ab")) ∷ numbered 2 (PDel (codes "a")) ∷ numbered 3 (PDel (codes "ab")) ∷ [])
    ≡ numbered 2 (PDel (codes "a")) ∷ numbered 3 (PDel (codes "ab")) ∷ []
unfolding newest
one_of_two_with_one_prefix_and_number_is_kept = refl

two_prefixes_of_one_number_are_kept :
    newest (numbered 3 (PDel (codes "b")) ∷ numbered 3 (PDel (codes "ab")) ∷ numbered 3 (Put (codes "ab") (codes "1")) ∷ [])
    ≡ numbered 3 (PDel (codes "ab")) ∷ numbered 3 (PDel (codes "b")) ∷ numbered 3 (Put (codes "ab") (codes "1")) ∷ []
unfolding newest
two_prefixes_of_one_number_are_kept = refl

a_covered_prefix_is_kept :
    newest (numbered 2 (PDel (codes "abc")) ∷ numbered 3 (PDel (codes "ab")) ∷ [])
    ≡ numbered 3 (PDel (codes "ab")) ∷ numbered 2 (PDel (codes "abc")) ∷ []
unfolding newest
a_covered_prefix_is_kept = refl

-- ---- routing

a_key_goes_by_its_prefix : child_of 0 1 (codes "a1") ≡ 1
a_key_goes_by_its_prefix = refl

a_prefix_goes_with_its_keys : child_of 0 1 (codes "a") ≡ 1
a_prefix_goes_with_its_keys = refl

another_goes_elsewhere : child_of 0 1 (codes "b1") ≡ 2
another_goes_elsewhere = refl

the_next_depth_takes_the_next_digit : child_of 1 1 (codes "a1") ≡ 6
the_next_depth_takes_the_next_digit = refl

-- the digits of a key's path, from the root down
abbrev path_of : ℕ → List ℕ → List ℕ
path_of prefix_length key = map (λ depth. child_of depth prefix_length key) (0 ∷ 1 ∷ 2 ∷ 3 ∷ [])

a_key_of_a_store_with_prefixes : path_of 2 (codes "ab1") ≡ 1 ∷ 2 ∷ 12 ∷ 0 ∷ []
a_key_of_a_store_with_prefixes = refl

a_key_of_a_store_without : path_of 0 (codes "k") ≡ 11 ∷ 6 ∷ 0 ∷ 0 ∷ []
a_key_of_a_store_without = refl

the_greatest_depth_has_4_digits : length (path_of 0 (codes "k")) ≡ greatest_depth
the_greatest_depth_has_4_digits = refl

-- 122 * (31^7 + 31^6 + .. + 1) = 807 * 2^32 + 2384944384
a_hash_is_below_2_to_the_32 : hash_of (codes "zzzzzzzz") ≡ 2384944384
a_hash_is_below_2_to_the_32 = refl

a_key_shorter_than_a_prefix_goes_whole : path_of 2 (codes "a") ≡ path_of 0 (codes "a")
a_key_shorter_than_a_prefix_goes_whole = refl

-- ---- jobs

-- one commit: a prefix delete, and a put under it
abbrev layer : List Numbered
layer = record { number = 2; writes = write 1 (PDel (codes "ab")) ∷ write 1 (Put (codes "ab2") (codes "2")) ∷ [] } ∷ []

abbrev after_ingest : Layout
after_ingest = ingested 65536 [] (new_store 1 (codes "s") Plain 2 ∷ []) layer

an_ingest_makes_one_set_of_three_blocks :
    sets_at after_ingest 1 []
    ≡ record {
      rows = numbered 2 (PDel (codes "ab")) ∷ numbered 2 (Put (codes "ab2") (codes "2")) ∷ [];
      prefix_blocks = 1;
      key_blocks = 1;
      value_blocks = 1;
    } ∷ []
unfolding newest
an_ingest_makes_one_set_of_three_blocks = refl

a_root_without_children_is_last : is_last after_ingest 1 [] 0 ≡ true
unfolding newest
a_root_without_children_is_last = refl

a_compaction_of_the_last_leaves_the_prefix_delete_out :
    sets_at (compacted 65536 after_ingest 1 [] 0 1 true) 1 []
    ≡ record {
      rows = numbered 2 (Put (codes "ab2") (codes "2")) ∷ [];
      prefix_blocks = 0;
      key_blocks = 1;
      value_blocks = 1;
    } ∷ []
unfolding newest
a_compaction_of_the_last_leaves_the_prefix_delete_out = refl

abbrev after_spill : Layout
after_spill = spilled 65536 after_ingest 1 [] 1 1

a_spill_empties_its_run : sets_at after_spill 1 [] ≡ []
unfolding newest
a_spill_empties_its_run = refl

a_spill_fills_the_child : sets_at after_spill 1 (1 ∷ []) ≡ sets_at after_ingest 1 []
unfolding newest
a_spill_fills_the_child = refl

a_node_above_is_not_last : is_last after_spill 1 [] 0 ≡ false
unfolding newest
a_node_above_is_not_last = refl

-- a deletion ingested and spilled stands before the put that is there
abbrev next_layer : List Numbered
next_layer = record { number = 3; writes = write 1 (Del (codes "ab2")) ∷ [] } ∷ []

abbrev before_two : Layout
before_two = spilled 65536 (ingested 65536 after_spill (new_store 1 (codes "s") Plain 2 ∷ []) next_layer) 1 [] 1 1

a_spill_stands_in_front :
    sets_at before_two 1 (1 ∷ [])
    ≡ record { rows = numbered 3 (Del (codes "ab2")) ∷ []; prefix_blocks = 0; key_blocks = 1; value_blocks = 0 }
    ∷ sets_at after_ingest 1 []
unfolding newest
a_spill_stands_in_front = refl

merging_both_leaves_nothing : sets_at (compacted 65536 before_two 1 (1 ∷ []) 0 2 true) 1 (1 ∷ []) ≡ []
unfolding newest
merging_both_leaves_nothing = refl

-- ---- a layer of several stores: 1 and 4 are live, 2 was dropped, 3 has no rows

abbrev layer_of_three : List Numbered
layer_of_three =
    record { number = 5; writes = write 1 (Put (codes "a") (codes "1")) ∷ write 2 (Put (codes "a") (codes "2")) ∷ [] }
    ∷ record {
      number = 6;
      writes = write 1 (Put (codes "a") (codes "3")) ∷ write 4 (Put (codes "b") (codes "4")) ∷ [];
    } ∷ []

the_rows_of_a_store_have_their_commits_numbers :
    rows_of 1 layer_of_three ≡ numbered 5 (Put (codes "a") (codes "1")) ∷ numbered 6 (Put (codes "a") (codes "3")) ∷ []
the_rows_of_a_store_have_their_commits_numbers = refl

-- a root of one put
abbrev root_of : ℕ → ℕ → List ℕ → List ℕ → Node
root_of store number key value = record {
  store = store;
  path = [];
  sets = record {
    rows = numbered number (Put key value) ∷ [];
    prefix_blocks = 0;
    key_blocks = 1;
    value_blocks = 1;
  } ∷ [];
}

each_live_store_with_rows_gets_a_set :
    ingested 65536 []
    (new_store 1 (codes "s") Plain 0 ∷ new_store 3 (codes "t") Plain 0 ∷ new_store 4 (codes "u") Plain 0 ∷ [])
    layer_of_three
    ≡ root_of 1 6 (codes "a") (codes "3") ∷ root_of 4 6 (codes "b") (codes "4") ∷ []
unfolding newest
each_live_store_with_rows_gets_a_set = refl
