-- Small cases of what lines read, worked by hand: gets, and the reads of a cursor that a transaction owns.
use Rattle.std.proofs.Common.{◌≡◌, ℕ, List, [], ◌∷◌, map, Option, refl, ap}
use Rattle.std.specs.Prelude.{codes}
use Rattle.std.specs.Ordering.{nat_cmp}
use Rattle.std.specs.Cmp.Lexicographic.{slice_cmp}
use Rattle.std.specs.FinMap.{get-empty}
use Rattle.std.specs.FinMap as fin_map
use Rattle.hse_rows.specs.declared.store.Mode.TheVariants.{Plain, Tx}
use Rattle.hse_rows.specs.declared.change.Change.{Change}
use Rattle.hse_rows.specs.declared.change.Change.TheVariants.{Put, Del, PDel}
use Rattle.hse_rows.specs.declared.write.Write.{Write}
use Rattle.hse_rows.specs.writes.Change.{write_of}
use Rattle.hse_rows.specs.writes.NormalForm.{normal_form}
use Rattle.hse_rows.specs.rows.Newest.{newest}
use Rattle.hse_rows.specs.laws.Holding.{get-contents_after_all}
use Rattle.hse_rows.specs.rows.Job.{ingest, of_run, keys, values, spill}
use Rattle.hse_rows.specs.machine.Turn.{freeze, create}
use Rattle.hse_rows.specs.machine.Replies.{ok, value, none, sets, ListedSet}
use Rattle.hse_rows.specs.machine.CoreReply.{found_value}
use Rattle.hse_rows.specs.script.ScriptLines.{nobody, someone, begin, write_by, get, commit, turn, tree, job}
use Rattle.hse_rows.specs.script.Script.{Script}
use Rattle.hse_rows.specs.script.ScriptNames.{answer_named}
use Rattle.hse_rows.specs.script.ScriptDone.{reply}
use Rattle.hse_rows.proofs.RowCases.{device, started, led, answers, put_in, put_out, a, b, s, one}

abbrev of : Change → Write
of change = write_of (record { 0 = 1 }) change

-- ---- two transactions of a store with prefixes

abbrev two_committed : Script
two_committed =
    led (started device)
    (turn (create s Tx 2) ∷ begin a ∷ begin b ∷ put_in a s (codes "abc") one ∷ put_in b s a (codes "x")
    ∷ write_by (someone a) s (PDel (codes "ab")) ∷ commit a ∷ commit b ∷ [])

-- of a, the prefix delete alone is left
abbrev their_writes : List Write
their_writes = of (PDel (codes "ab")) ∷ of (Put a (codes "x")) ∷ []

a_short_key_is_put : reply two_committed (get nobody s a) ≡ value (codes "x")
unfolding normal_form
a_short_key_is_put =
    ap (λ (held : Option (List ℕ)). answer_named two_committed (found_value held))
    (get-contents_after_all 1 fin_map.empty their_writes a)

a_covered_key_is_none : reply two_committed (get nobody s (codes "abc")) ≡ none
unfolding normal_form
a_covered_key_is_none =
    ap (λ (held : Option (List ℕ)). answer_named two_committed (found_value held))
    (get-contents_after_all 1 fin_map.empty their_writes (codes "abc"))

-- ---- a put under a prefix delete of its own transaction

abbrev put_and_deleted : Script
put_and_deleted =
    led (started device)
    (turn (create s Tx 2) ∷ begin a ∷ put_in a s (codes "ab1") one ∷ write_by (someone a) s (PDel (codes "ab"))
    ∷ put_in a s (codes "ab2") (codes "2") ∷ [])

what_it_put_before_is_none : reply put_and_deleted (get (someone a) s (codes "ab1")) ≡ none
unfolding normal_form
what_it_put_before_is_none =
    ap (λ (held : Option (List ℕ)). answer_named put_and_deleted (found_value held))
    (get-contents_after_all 1 fin_map.empty
    (of (Put (codes "ab1") one) ∷ of (PDel (codes "ab")) ∷ of (Put (codes "ab2") (codes "2")) ∷ []) (codes "ab1"))

what_it_put_behind_is_there : reply put_and_deleted (get (someone a) s (codes "ab2")) ≡ value (codes "2")
unfolding normal_form
what_it_put_behind_is_there =
    ap (λ (held : Option (List ℕ)). answer_named put_and_deleted (found_value held))
    (get-contents_after_all 1 fin_map.empty
    (of (Put (codes "ab1") one) ∷ of (PDel (codes "ab")) ∷ of (Put (codes "ab2") (codes "2")) ∷ []) (codes "ab2"))

no_other_reads_it : reply put_and_deleted (get nobody s (codes "ab2")) ≡ none
unfolding normal_form
no_other_reads_it =
    ap (λ (held : Option (List ℕ)). answer_named put_and_deleted (found_value held))
    (get-empty (slice_cmp nat_cmp) (codes "ab2"))

its_prefix_delete_has_a_block :
    answers put_and_deleted
    (commit a ∷ turn freeze ∷ job ingest ∷ tree s ∷ job (of_run values s [] 0 1) ∷ tree s ∷ [])
    ≡ ok 2 ∷ ok 2 ∷ ok 3 ∷ sets (record { path = []; index = 0; rows = 2; blocks = 3 } ∷ [])
    ∷ ok 2 ∷ sets (record { path = []; index = 0; rows = 1; blocks = 2 } ∷ []) ∷ []
unfolding normal_form newest
its_prefix_delete_has_a_block = refl

-- ---- a snapshot stays: a put, a transaction, and a put, a deletion and a put behind its snapshot

abbrev old_and_new : Script
old_and_new =
    led (started device)
    (turn (create s Plain 1) ∷ put_out s a (codes "old") ∷ begin b ∷ put_out s a one ∷ write_by nobody s (Del a) ∷ turn freeze
    ∷ put_out s a (codes "z") ∷ [])

the_snapshot_s_value_is_old : reply old_and_new (get (someone b) s a) ≡ value (codes "old")
unfolding normal_form
the_snapshot_s_value_is_old =
    ap (λ (held : Option (List ℕ)). answer_named old_and_new (found_value held))
    (get-contents_after_all 1 fin_map.empty (of (Put a (codes "old")) ∷ []) a)

the_last_value_is_new : reply old_and_new (get nobody s a) ≡ value (codes "z")
unfolding normal_form
the_last_value_is_new =
    ap (λ (held : Option (List ℕ)). answer_named old_and_new (found_value held))
    (get-contents_after_all 1 fin_map.empty
    (of (Put a (codes "old")) ∷ of (Put a one) ∷ of (Del a) ∷ of (Put a (codes "z")) ∷ []) a)

-- ---- the same with its jobs

jobs_leave_values_alone :
    answers (started device)
    (turn (create s Plain 1) ∷ put_out s (codes "a1") (codes "old") ∷ begin b ∷ put_out s (codes "a1") one
    ∷ write_by nobody s (Del (codes "a1")) ∷ turn freeze ∷ job ingest ∷ job (of_run keys s [] 0 1) ∷ put_out s (codes "a1") (codes "z")
    ∷ turn freeze ∷ job ingest ∷ job (of_run spill s [] 0 1) ∷ job (of_run values s (1 ∷ []) 0 1) ∷ commit b ∷ [])
    ≡ ok 1 ∷ ok 2 ∷ ok 2 ∷ ok 3 ∷ ok 4 ∷ ok 4 ∷ ok 1 ∷ ok 0 ∷ ok 5 ∷ ok 5 ∷ ok 2 ∷ ok 2 ∷ ok 2 ∷ ok 2 ∷ []
unfolding normal_form newest
jobs_leave_values_alone = refl

-- ---- a short prefix delete over sixteen children

abbrev spilled : Script
spilled =
    led (started device)
    (turn (create s Plain 2) ∷ put_out s (codes "aa") one ∷ turn freeze ∷ job ingest ∷ job (of_run spill s [] 0 1)
    ∷ write_by nobody s (PDel a) ∷ turn freeze ∷ job ingest ∷ job (of_run spill s [] 0 1) ∷ [])

-- a set of one row
abbrev listed_at : ℕ → ℕ → ℕ → ListedSet
listed_at child index blocks = record { path = child ∷ []; index = index; rows = 1; blocks = blocks }

abbrev fifteen : List ListedSet
fifteen = map (λ child. listed_at child 0 1) (1 ∷ 2 ∷ 3 ∷ 4 ∷ 5 ∷ 6 ∷ 7 ∷ 8 ∷ 9 ∷ 10 ∷ 11 ∷ 12 ∷ 13 ∷ 14 ∷ 15 ∷ [])

each_child_has_the_prefix : reply spilled (tree s) ≡ sets (listed_at 0 0 1 ∷ listed_at 0 1 2 ∷ fifteen)
unfolding normal_form newest
each_child_has_the_prefix = refl

merged_with_its_key_it_leaves_none :
    answers spilled (job (of_run values s (0 ∷ []) 0 2) ∷ tree s ∷ [])
    ≡ ok 0 ∷ sets fifteen ∷ []
unfolding normal_form newest
merged_with_its_key_it_leaves_none = refl

the_key_is_none : reply spilled (get nobody s (codes "aa")) ≡ none
unfolding normal_form newest
the_key_is_none =
    ap (λ (held : Option (List ℕ)). answer_named spilled (found_value held))
    (get-contents_after_all 1 fin_map.empty (of (Put (codes "aa") one) ∷ of (PDel a) ∷ []) (codes "aa"))
