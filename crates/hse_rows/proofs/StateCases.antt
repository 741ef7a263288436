-- Small cases of states, worked by hand. Contents do not compute: what a key holds is read by the laws.
use Rattle.std.proofs.Common.{◌≡◌, ℕ, ◌<◌, ◌≤◌, List, [], ◌∷◌, Option, Some, None, refl, ◌∙◌, ap, cond, arith}
use Rattle.std.proofs.Math.Bool.{true≢false}
use Rattle.std.specs.Prelude.{codes}
use Rattle.std.specs.Ordering.{nat_cmp}
use Rattle.std.specs.Cmp.Lexicographic.{slice_cmp}
use Rattle.std.specs.FinMap.{get-from_sorted}
use Rattle.std.specs.FinMap as fin_map
use Rattle.hse_rows.specs.declared.store.Mode.TheVariants.{Plain, Tx}
use Rattle.hse_rows.specs.declared.change.Change.{Change}
use Rattle.hse_rows.specs.declared.change.Change.TheVariants.{Put, Del, PDel}
use Rattle.hse_rows.specs.declared.write.Write.{Write}
use Rattle.hse_rows.specs.writes.Change.{write_of}
use Rattle.hse_rows.specs.writes.Reach.{reaches, leaves}
use Rattle.hse_rows.specs.states.State.{Contents, Store, State, IsState, changed, store_named, store_of, applied, applied_all}
use Rattle.hse_rows.specs.laws.Holding.{get-changed, get-contents_after_all}
use Rattle.hse_rows.specs.states.History.{new_store, without}
use Rattle.hse_rows.specs.machine.Log.{new_log}
use Rattle.hse_rows.specs.transactions.Timeline.{for_some}
use Rattle.hse_rows.specs.machine.Replies.{listed, superblock}
use Rattle.hse_rows.specs.machine.Calls.{list_stores}
use Rattle.hse_rows.specs.machine.Core.{life, new_manifest}
use Rattle.hse_rows.specs.machine.CoreReply.{reply}
use Rattle.hse_rows.specs.machine.CoreStep.{loads, breaks_off}
use Rattle.hse_rows.specs.laws.CoreLaws.{LoadsState}
use Rattle.hse_rows.proofs.CaseLines.{without_sets}
use Rattle.hse_rows.proofs.MachineCases.{small}

-- ---- what a change does to contents

-- a x, ab1 1, b 2
abbrev Pairs : Type 0
Pairs = List (List ℕ × List ℕ)

abbrev pairs : Pairs
pairs = (codes "a", codes "x") ∷ (codes "ab1", codes "1") ∷ (codes "b", codes "2") ∷ []

three : Contents
three = fin_map.from_sorted pairs

three_hold : (key : List ℕ) → fin_map.get three key ≡ fin_map.find (slice_cmp nat_cmp) key pairs
unfolding three
three_hold key = get-from_sorted (slice_cmp nat_cmp) pairs key tt

-- what a key holds after a change
after : (change : Change) (key : List ℕ)
    → fin_map.get (changed three change) key
    ≡ cond (reaches change key) (leaves change) (fin_map.find (slice_cmp nat_cmp) key pairs)
after change key =
    get-changed three change key
    ∙ ap (λ (found : Option (List ℕ)). cond (reaches change key) (leaves change) found) (three_hold key)

a_put_sets_its_key : fin_map.get (changed three (Put (codes "b") (codes "3"))) (codes "b") ≡ Some (codes "3")
a_put_sets_its_key = after (Put (codes "b") (codes "3")) (codes "b")

a_put_adds_its_key : fin_map.get (changed three (Put (codes "c") [])) (codes "c") ≡ Some []
a_put_adds_its_key = after (Put (codes "c") []) (codes "c")

a_put_leaves_other_keys : fin_map.get (changed three (Put (codes "b") (codes "3"))) (codes "a") ≡ Some (codes "x")
a_put_leaves_other_keys = after (Put (codes "b") (codes "3")) (codes "a")

a_del_removes_its_key : fin_map.get (changed three (Del (codes "b"))) (codes "b") ≡ None
a_del_removes_its_key = after (Del (codes "b")) (codes "b")

a_del_leaves_other_keys : fin_map.get (changed three (Del (codes "b"))) (codes "ab1") ≡ Some (codes "1")
a_del_leaves_other_keys = after (Del (codes "b")) (codes "ab1")

a_prefix_delete_removes_covered_keys : fin_map.get (changed three (PDel (codes "ab"))) (codes "ab1") ≡ None
a_prefix_delete_removes_covered_keys = after (PDel (codes "ab")) (codes "ab1")

a_prefix_delete_leaves_shorter_keys : fin_map.get (changed three (PDel (codes "ab"))) (codes "a") ≡ Some (codes "x")
a_prefix_delete_leaves_shorter_keys = after (PDel (codes "ab")) (codes "a")

a_prefix_delete_leaves_other_keys : fin_map.get (changed three (PDel (codes "ab"))) (codes "b") ≡ Some (codes "2")
a_prefix_delete_leaves_other_keys = after (PDel (codes "ab")) (codes "b")

-- ---- what a write does to a state

abbrev store_s : Store
store_s = new_store 1 (codes "s") Plain 0

abbrev store_t : Store
store_t = new_store 3 (codes "t") Tx 2

abbrev state : State
state = record { number = 3; stores = store_s ∷ store_t ∷ [] }

abbrev of : ℕ → Change → Write
of id change = write_of (record { 0 = id }) change

abbrev put_k : ℕ → Write
put_k id = of id (Put (codes "k") (codes "v"))

-- what a key of the store of this id holds
abbrev held : State → ℕ → List ℕ → Option (List ℕ)
held of_state id key = for_some (store_of of_state id) None (λ store. fin_map.get store.contents key)

a_write_changes_its_store : held (applied state (put_k 3)) 3 (codes "k") ≡ Some (codes "v")
a_write_changes_its_store = get-contents_after_all 3 fin_map.empty (put_k 3 ∷ []) (codes "k")

a_write_changes_no_other_store : store_of (applied state (put_k 3)) 1 ≡ Some store_s
a_write_changes_no_other_store = refl

a_write_of_no_store_changes_nothing : applied state (put_k 2) ≡ state
a_write_of_no_store_changes_nothing = refl

a_write_keeps_the_number : (applied state (put_k 3)).number ≡ 3
a_write_keeps_the_number = refl

writes_are_done_in_order : held (applied_all state (put_k 1 ∷ of 1 (Del (codes "k")) ∷ [])) 1 (codes "k") ≡ None
writes_are_done_in_order = get-contents_after_all 1 fin_map.empty (put_k 1 ∷ of 1 (Del (codes "k")) ∷ []) (codes "k")

in_the_other_order_the_put_stays :
    held (applied_all state (of 1 (Del (codes "k")) ∷ put_k 1 ∷ [])) 1 (codes "k")
    ≡ Some (codes "v")
in_the_other_order_the_put_stays =
    get-contents_after_all 1 fin_map.empty (of 1 (Del (codes "k")) ∷ put_k 1 ∷ []) (codes "k")

-- ---- stores by name and by id

a_name_finds_its_store : store_named state (codes "t") ≡ Some store_t
a_name_finds_its_store = refl

a_front_of_a_name_finds_none :
    store_named (record { number = 1; stores = new_store 1 (codes "st") Plain 0 ∷ [] }) (codes "s")
    ≡ None
a_front_of_a_name_finds_none = refl

an_id_without_a_store_finds_none : store_of state 2 ≡ None
an_id_without_a_store_finds_none = refl

a_drop_leaves_the_others : without 1 state.stores ≡ store_t ∷ []
a_drop_leaves_the_others = refl

-- they stand by id, and are listed by name, a name before its extensions
abbrev of_three : State
of_three = record {
  number = 3;
  stores = new_store 1 (codes "tb") Plain 4 ∷ new_store 2 (codes "t") Tx 0 ∷ new_store 3 (codes "s") Plain 0 ∷ [];
}

stores_are_listed_by_name :
    reply (life (without_sets small of_three new_log new_manifest)) list_stores
    ≡ listed
    (record { name = codes "s"; mode = Plain; prefix_length = 0 }
    ∷ record { name = codes "t"; mode = Tx; prefix_length = 0 }
    ∷ record { name = codes "tb"; mode = Plain; prefix_length = 4 } ∷ [])
stores_are_listed_by_name = refl

-- ---- what is a state

two_names_for_two_ids_are_a_state : IsState state
two_names_for_two_ids_are_a_state =
    let first : 0 < 1 = omega arith in
    let first_within : 1 ≤ 3 = omega arith in
    let second : 1 < 3 = omega arith in
    let second_within : 3 ≤ 3 = omega arith in
    record { rising = (first, first_within, (second, second_within, tt)); named = (refl, (refl, tt)) }

no_store_is_a_state : IsState (record { number = 0; stores = [] })
no_store_is_a_state = record { rising = tt; named = tt }

abbrev of_one_name : State
of_one_name = record { number = 3; stores = store_s ∷ new_store 3 (codes "s") Tx 2 ∷ [] }

one_name_for_two_ids_is_none : ¬ IsState of_one_name
one_name_for_two_ids_is_none is = absurd (true≢false is.named.0)

one_id_for_two_names_is_none : ¬ IsState (record { number = 3; stores = store_s ∷ new_store 1 (codes "t") Tx 2 ∷ [] })
one_id_for_two_names_is_none is =
    let rises : 1 < 1 = is.rising.2.0 in
    absurd (omega (arith, rises))

an_id_above_the_number_is_none : ¬ IsState (record { number = 2; stores = store_s ∷ store_t ∷ [] })
an_id_above_the_number_is_none is =
    let within : 3 ≤ 2 = is.rising.2.1 in
    absurd (omega (arith, within))

a_state_may_be_found : LoadsState (loads (without_sets small state new_log new_manifest))
a_state_may_be_found = two_names_for_two_ids_are_a_state

two_stores_of_one_name_may_not : ¬ LoadsState (loads (without_sets small of_one_name new_log new_manifest))
two_stores_of_one_name_may_not = one_name_for_two_ids_is_none

a_place_that_is_not_formed_may_be_found : LoadsState (breaks_off superblock 0)
a_place_that_is_not_formed_may_be_found = tt
