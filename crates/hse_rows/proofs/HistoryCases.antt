-- Small cases of histories, and of what the log and the manifest have of them, worked by hand.
use Rattle.std.proofs.Common.{◌≡◌, ℕ, ◌≤◌, List, [], ◌∷◌, map, Option, Some, None, refl, arith}
use Rattle.std.specs.Prelude.{codes}
use Rattle.std.specs.FinMap as fin_map
use Rattle.hse_rows.specs.declared.store.Mode.TheVariants.{Plain, Tx}
use Rattle.hse_rows.specs.declared.change.Change.{Change}
use Rattle.hse_rows.specs.declared.change.Change.TheVariants.{Put}
use Rattle.hse_rows.specs.declared.write.Write.{Write}
use Rattle.hse_rows.specs.writes.Change.{write_of}
use Rattle.hse_rows.specs.states.State.{State, store_named}
use Rattle.hse_rows.specs.laws.Holding.{get-contents_after_all}
use Rattle.hse_rows.specs.states.History.{Event, commits, creates, drops, new_store, happened, folded, fold, events_since, last_number}
use Rattle.hse_rows.specs.states.Rooted.{writes_of, bare, AreRooted}
use Rattle.hse_rows.specs.machine.Log.{LogState, Frozen, Numbered, new_log, logged, charge_of_active, room_left, IsWithinLayers}
use Rattle.hse_rows.specs.machine.Recorded.{commits_in, taken_in}
use Rattle.hse_rows.specs.transactions.Timeline.{for_some}

abbrev of : ℕ → Change → Write
of id change = write_of (record { 0 = id }) change

abbrev first_put : Write
first_put = of 1 (Put (codes "a") (codes "1"))

abbrev second_put : Write
second_put = of 1 (Put (codes "a") (codes "2"))

abbrev third_put : Write
third_put = of 1 (Put (codes "b") (codes "3"))

-- from number 0 on: a creation, two commits and a drop
abbrev nothing : State
nothing = record { number = 0; stores = [] }

abbrev creation : Event
creation = creates (codes "s") Plain 2

abbrev four : List Event
four = creation ∷ commits (first_put ∷ []) ∷ commits (second_put ∷ third_put ∷ []) ∷ drops 1 ∷ []

-- what a key of the store of this name holds
abbrev held : State → List ℕ → List ℕ → Option (List ℕ)
held state name key = for_some (store_named state name) None (λ store. fin_map.get store.contents key)

-- ---- states of numbers

the_state_of_0_is_the_base : fold nothing four 0 ≡ nothing
the_state_of_0_is_the_base = refl

the_state_of_1_has_an_empty_store :
    fold nothing four 1
    ≡ record { number = 1; stores = new_store 1 (codes "s") Plain 2 ∷ [] }
the_state_of_1_has_an_empty_store = refl

the_state_of_2_has_its_number : (fold nothing four 2).number ≡ 2
the_state_of_2_has_its_number = refl

the_state_of_2_has_the_first_commit : held (fold nothing four 2) (codes "s") (codes "a") ≡ Some (codes "1")
the_state_of_2_has_the_first_commit = get-contents_after_all 1 fin_map.empty (first_put ∷ []) (codes "a")

the_state_of_3_has_the_second_too : held (fold nothing four 3) (codes "s") (codes "a") ≡ Some (codes "2")
the_state_of_3_has_the_second_too =
    get-contents_after_all 1 fin_map.empty (first_put ∷ second_put ∷ third_put ∷ []) (codes "a")

a_commit_does_all_its_writes : held (fold nothing four 3) (codes "s") (codes "b") ≡ Some (codes "3")
a_commit_does_all_its_writes =
    get-contents_after_all 1 fin_map.empty (first_put ∷ second_put ∷ third_put ∷ []) (codes "b")

the_state_of_4_has_no_store : fold nothing four 4 ≡ record { number = 4; stores = [] }
the_state_of_4_has_no_store = refl

the_last_state_is_that_of_the_last_number : folded nothing four ≡ fold nothing four 4
the_last_state_is_that_of_the_last_number = refl

-- ---- events after a number

all_come_after_0 : events_since nothing four 0 ≡ four
all_come_after_0 = refl

two_come_after_2 : events_since nothing four 2 ≡ commits (second_put ∷ third_put ∷ []) ∷ drops 1 ∷ []
two_come_after_2 = refl

none_comes_after_the_last : events_since nothing four 4 ≡ []
none_comes_after_the_last = refl

-- ---- a base of another number: 7, with a store of id 5

abbrev seventh : State
seventh = record { number = 7; stores = new_store 5 (codes "s") Plain 0 ∷ [] }

abbrev two : List Event
two = creates (codes "t") Tx 3 ∷ drops 5 ∷ []

the_state_of_7_is_the_base : fold seventh two 7 ≡ seventh
the_state_of_7_is_the_base = refl

an_id_is_the_number_of_its_creation :
    fold seventh two 8
    ≡ record { number = 8; stores = new_store 5 (codes "s") Plain 0 ∷ new_store 8 (codes "t") Tx 3 ∷ [] }
an_id_is_the_number_of_its_creation = refl

a_drop_removes_its_id : fold seventh two 9 ≡ record { number = 9; stores = new_store 8 (codes "t") Tx 3 ∷ [] }
a_drop_removes_its_id = refl

the_drop_comes_after_8 : events_since seventh two 8 ≡ drops 5 ∷ []
the_drop_comes_after_8 = refl

the_last_number_is_9 : last_number seventh two ≡ 9
the_last_number_is_9 = refl

a_commit_for_no_live_store_has_a_number :
    happened seventh (commits (first_put ∷ []))
    ≡ record { number = 8; stores = seventh.stores }
a_commit_for_no_live_store_has_a_number = refl

-- ---- creations and drops apart from writes

the_writes_stand_in_order : writes_of four ≡ first_put ∷ second_put ∷ third_put ∷ []
the_writes_stand_in_order = refl

the_rest_keeps_its_numbers : map bare four ≡ creation ∷ commits [] ∷ commits [] ∷ drops 1 ∷ []
the_rest_keeps_its_numbers = refl

a_store_comes_before_its_writes : AreRooted 0 four
a_store_comes_before_its_writes =
    let before : 1 ≤ 1 = omega arith in
    let long_before : 1 ≤ 2 = omega arith in
    (tt, ((before, tt), ((long_before, (long_before, tt)), (tt, tt))))

a_write_before_its_store_is_refused : ¬ AreRooted 0 (commits (first_put ∷ []) ∷ creation ∷ [])
a_write_before_its_store_is_refused rooted =
    let before : 1 ≤ 0 = rooted.0.0 in
    absurd (omega (arith, before))

-- ---- the log

abbrev second : Numbered
second = record { number = 2; writes = first_put ∷ [] }

abbrev third : Numbered
third = record { number = 3; writes = second_put ∷ third_put ∷ [] }

abbrev after_two : LogState
after_two = logged (logged new_log 2 (first_put ∷ [])) 3 (second_put ∷ third_put ∷ [])

the_log_has_its_commits_in_order :
    after_two
    ≡ record {
      horizon = 0;
      first_segment = 1;
      frozen = [];
      active = second ∷ third ∷ [];
    }
the_log_has_its_commits_in_order = refl

-- 12 + 17 + 32, and 12 + 17 + 17 + 32
its_charge_is_that_of_both : charge_of_active after_two ≡ 139
its_charge_is_that_of_both = refl

the_segment_has_the_rest : room_left 262144 after_two ≡ 261941
the_segment_has_the_rest = refl

-- the same, behind a layer that is frozen
frozen_layers_take_none_of_it :
    charge_of_active (record after_two { frozen = record { last = 2; commits = second ∷ [] } ∷ [] }) ≡ 139
frozen_layers_take_none_of_it = refl

-- a layer without commits
abbrev layer : Frozen
layer = record { last = 1; commits = [] }

three_layers_may_be_frozen : IsWithinLayers (record new_log { frozen = layer ∷ layer ∷ layer ∷ [] })
three_layers_may_be_frozen = omega arith

a_fourth_may_not : ¬ IsWithinLayers (record new_log { frozen = layer ∷ layer ∷ layer ∷ layer ∷ [] })
a_fourth_may_not within =
    let few : 4 ≤ 3 = within in
    absurd (omega (arith, few))

-- ---- what is recorded of a history

the_log_has_the_commits : commits_in 1 four ≡ second ∷ third ∷ []
the_log_has_the_commits = refl

the_manifest_has_the_other_numbers : taken_in 1 four ≡ 1 ∷ 4 ∷ []
the_manifest_has_the_other_numbers = refl

from_another_base_on : taken_in 8 two ≡ 8 ∷ 9 ∷ []
from_another_base_on = refl
