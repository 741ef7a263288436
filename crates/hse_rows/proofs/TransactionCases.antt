-- Small cases of transactions and their conflicts, worked by hand.
use Rattle.std.proofs.Common.{◌≡◌, ℕ, List, [], ◌∷◌, Option, Some, None, refl, ◌∙◌}
use Rattle.std.specs.Prelude.{codes}
use Rattle.std.specs.Ordering.{nat_cmp}
use Rattle.std.specs.Cmp.Lexicographic.{slice_cmp}
use Rattle.std.specs.FinMap.{get-empty}
use Rattle.std.specs.FinMap as fin_map
use Rattle.hse_rows.specs.declared.store.Mode.TheVariants.{Tx}
use Rattle.hse_rows.specs.declared.change.Change.{Change}
use Rattle.hse_rows.specs.declared.change.Change.TheVariants.{Put, Del, PDel}
use Rattle.hse_rows.specs.declared.write.Write.{Write}
use Rattle.hse_rows.specs.writes.Change.{write_of}
use Rattle.hse_rows.specs.states.State.{State, store_of}
use Rattle.hse_rows.specs.laws.Holding.{get-contents_after_all}
use Rattle.hse_rows.specs.states.History.{Event, commits, creates, drops}
use Rattle.hse_rows.specs.transactions.Transaction.{Transaction, begins, staged, ended, committed, aborted, read_of}
use Rattle.hse_rows.specs.transactions.Timeline.{for_some}
use Rattle.hse_rows.specs.transactions.Conflict.{held, since, conflict_of}

abbrev of : Change → Write
of change = write_of (record { 0 = 1 }) change

abbrev nothing : State
nothing = record { number = 0; stores = [] }

-- one store of prefix length 0, and two transactions that began then
abbrev begun_history : List Event
begun_history = creates (codes "acct") Tx 0 ∷ []

abbrev a : Transaction
a = staged (begins 1 1) (of (Put (codes "k") (codes "1")))

abbrev b : Transaction
b = begins 2 1

abbrev b_put : Write
b_put = of (Put (codes "k") (codes "2"))

the_first_writer_holds_the_key : conflict_of nothing begun_history (a ∷ b ∷ []) b b_put ≡ Some (held 1)
the_first_writer_holds_the_key = refl

no_transaction_holds_its_own_key : conflict_of nothing begun_history (a ∷ b ∷ []) a b_put ≡ None
no_transaction_holds_its_own_key = refl

another_key_is_free : conflict_of nothing begun_history (a ∷ b ∷ []) b (of (Put (codes "l") (codes "2"))) ≡ None
another_key_is_free = refl

a_commit_since_the_snapshot_counts :
    conflict_of nothing (creates (codes "acct") Tx 0 ∷ commits (of (Put (codes "k") (codes "1")) ∷ []) ∷ [])
    (ended a (committed 2) ∷ b ∷ []) b b_put ≡ Some (since 2)
a_commit_since_the_snapshot_counts = refl

a_commit_before_the_snapshot_does_not_count :
    conflict_of nothing (creates (codes "acct") Tx 0 ∷ commits (of (Put (codes "k") (codes "1")) ∷ []) ∷ [])
    (begins 3 2 ∷ []) (begins 3 2) b_put ≡ None
a_commit_before_the_snapshot_does_not_count = refl

an_aborted_one_holds_nothing : conflict_of nothing begun_history (ended a aborted ∷ b ∷ []) b b_put ≡ None
an_aborted_one_holds_nothing = refl

-- two hold the key
abbrev c : Transaction
c = begins 3 1

the_first_begun_is_told :
    conflict_of nothing begun_history (a ∷ staged b b_put ∷ c ∷ []) c b_put
    ≡ Some (held 1)
the_first_begun_is_told = refl

-- a commit of number 4, behind a creation and a drop, and one of number 5
abbrev longer_history : List Event
longer_history =
    creates (codes "acct") Tx 0 ∷ creates (codes "other") Tx 0 ∷ drops 2
    ∷ commits (of (Put (codes "k") (codes "1")) ∷ [])
    ∷ commits (of (Del (codes "k")) ∷ []) ∷ []

the_least_number_is_told : conflict_of nothing longer_history (b ∷ []) b b_put ≡ Some (since 4)
the_least_number_is_told = refl

a_holder_is_told_before_a_commit : conflict_of nothing longer_history (a ∷ b ∷ []) b b_put ≡ Some (held 1)
a_holder_is_told_before_a_commit = refl

-- ---- prefix deletes: `a` put abc

abbrev holds_abc : Transaction
holds_abc = staged (begins 1 1) (of (Put (codes "abc") (codes "1")))

a_prefix_delete_of_it_is_held :
    conflict_of nothing begun_history (holds_abc ∷ b ∷ []) b (of (PDel (codes "ab")))
    ≡ Some (held 1)
a_prefix_delete_of_it_is_held = refl

a_shorter_key_is_free :
    conflict_of nothing begun_history (holds_abc ∷ b ∷ []) b (of (Put (codes "a") (codes "x")))
    ≡ None
a_shorter_key_is_free = refl

-- it deletes the prefix too
abbrev holds_prefix : Transaction
holds_prefix = staged holds_abc (of (PDel (codes "ab")))

another_key_of_the_prefix_is_held :
    conflict_of nothing begun_history (holds_prefix ∷ b ∷ []) b (of (Put (codes "abd") (codes "1")))
    ≡ Some (held 1)
another_key_of_the_prefix_is_held = refl

-- ---- what a transaction reads: its snapshot with its own writes

-- a creation, and commits of k and of l, of which the snapshot has the first
abbrev read_history : List Event
read_history =
    creates (codes "acct") Tx 0 ∷ commits (of (Put (codes "k") (codes "1")) ∷ [])
    ∷ commits (of (Put (codes "l") (codes "1")) ∷ []) ∷ []

-- it put m and removed k
abbrev reader : Transaction
reader = staged (staged (begins 1 2) (of (Put (codes "m") (codes "5")))) (of (Del (codes "k")))

abbrev reads : Transaction → List ℕ → Option (List ℕ)
reads transaction key =
    for_some (store_of (read_of nothing read_history transaction) 1) None (λ store. fin_map.get store.contents key)

it_reads_its_snapshot : reads (begins 1 2) (codes "k") ≡ Some (codes "1")
it_reads_its_snapshot = get-contents_after_all 1 fin_map.empty (of (Put (codes "k") (codes "1")) ∷ []) (codes "k")

it_reads_its_own_put : reads reader (codes "m") ≡ Some (codes "5")
it_reads_its_own_put =
    get-contents_after_all 1 fin_map.empty (of (Put (codes "k") (codes "1")) ∷ reader.writes) (codes "m")

it_reads_its_own_deletion : reads reader (codes "k") ≡ None
it_reads_its_own_deletion =
    get-contents_after_all 1 fin_map.empty (of (Put (codes "k") (codes "1")) ∷ reader.writes) (codes "k")

it_reads_no_later_commit : reads reader (codes "l") ≡ None
it_reads_no_later_commit =
    get-contents_after_all 1 fin_map.empty (of (Put (codes "k") (codes "1")) ∷ reader.writes) (codes "l")
    ∙ get-empty (slice_cmp nat_cmp) (codes "l")
