-- Small cases of steps, worked by hand: what each changes of history, log, transactions, cursors and turn.
use Rattle.std.proofs.Common.{◌≡◌, ℕ, true, false, List, [], ◌∷◌, length, map, Option, Some, None, refl}
use Rattle.std.specs.Prelude.{codes}
use Rattle.hse_rows.specs.declared.store.Mode.TheVariants.{Plain, Tx}
use Rattle.hse_rows.specs.declared.change.Change.{Change}
use Rattle.hse_rows.specs.declared.change.Change.TheVariants.{Put, Del, PDel}
use Rattle.hse_rows.specs.declared.write.Write.{Write}
use Rattle.hse_rows.specs.writes.Change.{write_of}
use Rattle.hse_rows.specs.writes.NormalForm.{normal_form}
use Rattle.hse_rows.specs.states.History.{Event, commits, creates, drops}
use Rattle.hse_rows.specs.transactions.Transaction.{Transaction, begins, active, committed, aborted}
use Rattle.hse_rows.specs.transactions.Timeline.{for_some}
use Rattle.hse_rows.specs.machine.Log.{Numbered}
use Rattle.hse_rows.specs.script.Cursor.{CursorState, Position, front, at_key, forward}
use Rattle.hse_rows.specs.machine.Turn.{sync, freeze, create, drop, syncing, creating, dropping, settles, enters, removes, home, taken, ran}
use Rattle.hse_rows.specs.script.ScriptLines.{nobody, someone, begin, write_by, get, commit, abort, list_stores, tree, info, open_cursor, seek, seek_range, update, close_cursor, next_job, take, write_turn, end_turn, turn}
use Rattle.hse_rows.specs.script.Script.{Script, cursor_named}
use Rattle.hse_rows.specs.script.ScriptDone.{done, refused_to, failing}
use Rattle.hse_rows.proofs.RowCases.{device, started, led, put_in, put_out, a, b, s, one}

abbrev of : Change → Write
of change = write_of (record { 0 = 1 }) change

abbrev history_of : Script → List Event
history_of m = m.core.timeline.history

abbrev begun_of : Script → List Transaction
begun_of m = m.core.timeline.begun

abbrev numbered : ℕ → List Write → Numbered
numbered number writes = record { number = number; writes = writes }

-- ---- transactions

-- a `tx` store, and two transactions
abbrev two_began : Script
two_began = led (started device) (turn (create s Tx 1) ∷ begin a ∷ begin b ∷ [])

each_begins_at_the_last_number : begun_of two_began ≡ begins 0 1 ∷ begins 1 1 ∷ []
each_begins_at_the_last_number = refl

its_name_stands_at_its_begin_order : two_began.begun_names ≡ a ∷ b ∷ []
its_name_stands_at_its_begin_order = refl

-- a puts a key twice, and then deletes its prefix
abbrev three_made : Script
three_made = led two_began (put_in a s a one ∷ put_in a s a b ∷ write_by (someone a) s (PDel a) ∷ [])

changes_stand_in_the_order_made :
    begun_of three_made
    ≡ record {
      begun = 0;
      snapshot = 1;
      writes = of (Put a one) ∷ of (Put a b) ∷ of (PDel a) ∷ [];
      state = active;
    } ∷ begins 1 1 ∷ []
unfolding normal_form
changes_stand_in_the_order_made = refl

they_are_no_event : history_of three_made ≡ creates s Tx 1 ∷ []
unfolding normal_form
they_are_no_event = refl

they_are_not_logged : three_made.core.log.active ≡ []
unfolding normal_form
they_are_not_logged = refl

-- in normal form
a_commit_is_an_event : history_of (led three_made (commit a ∷ [])) ≡ creates s Tx 1 ∷ commits (of (PDel a) ∷ []) ∷ []
unfolding normal_form
a_commit_is_an_event = refl

a_commit_is_logged : (led three_made (commit a ∷ [])).core.log.active ≡ numbered 2 (of (PDel a) ∷ []) ∷ []
unfolding normal_form
a_commit_is_logged = refl

a_committed_one_carries_its_number :
    map (λ t. t.state) (begun_of (led three_made (commit b ∷ commit a ∷ [])))
    ≡ committed 2 ∷ committed 1 ∷ []
unfolding normal_form
a_committed_one_carries_its_number = refl

-- the transaction's state alone
a_commit_without_changes_changes_no_more :
    led two_began (commit b ∷ [])
    ≡ record two_began {
      core = record two_began.core {
        timeline = record two_began.core.timeline {
          begun = begins 0 1 ∷ record (begins 1 1) { state = committed 1 } ∷ [];
        };
      };
    }
a_commit_without_changes_changes_no_more = refl

an_abort_changes_no_more :
    led two_began (abort b ∷ [])
    ≡ record two_began {
      core = record two_began.core {
        timeline = record two_began.core.timeline {
          begun = begins 0 1 ∷ record (begins 1 1) { state = aborted } ∷ [];
        };
      };
    }
an_abort_changes_no_more = refl

an_aborted_one_keeps_its_changes :
    map (λ t. length t.writes) (begun_of (led three_made (abort a ∷ []))) ≡ 3 ∷ 0 ∷ []
unfolding normal_form
an_aborted_one_keeps_its_changes = refl

-- ---- writes outside, and what reads

abbrev one_put : Script
one_put = led (started device) (turn (create s Plain 1) ∷ put_out s a one ∷ [])

a_put_outside_is_an_event : history_of one_put ≡ creates s Plain 1 ∷ commits (of (Put a one) ∷ []) ∷ []
unfolding normal_form
a_put_outside_is_an_event = refl

each_write_outside_is_logged :
    (led one_put (write_by nobody s (Del a) ∷ write_by nobody s (PDel b) ∷ [])).core.log.active
    ≡ numbered 2 (of (Put a one) ∷ []) ∷ numbered 3 (of (Del a) ∷ []) ∷ numbered 4 (of (PDel b) ∷ []) ∷ []
unfolding normal_form
each_write_outside_is_logged = refl

what_reads_changes_nothing :
    map (done one_put) (get nobody s a ∷ list_stores ∷ tree s ∷ info ∷ next_job ∷ [])
    ≡ one_put ∷ one_put ∷ one_put ∷ one_put ∷ one_put ∷ []
what_reads_changes_nothing = refl

-- ---- cursors

abbrev where_it_is : Option CursorState → Option (Position × Option (List ℕ))
where_it_is None = None
where_it_is (Some cursor) = Some (cursor.position, cursor.last)

abbrev place_of : Script → Option (Position × Option (List ℕ))
place_of m = where_it_is (cursor_named m (codes "c"))

-- a cursor of the first transaction
abbrev with_cursor : Script
with_cursor = led two_began (open_cursor (codes "c") (someone a) s forward [] ∷ [])

a_cursor_begins_at_its_front : place_of with_cursor ≡ Some (front, None)
a_cursor_begins_at_its_front = refl

its_owner_is_a_begin_order :
    for_some (cursor_named (led with_cursor (commit a ∷ begin a ∷ [])) (codes "c")) None (λ cursor. cursor.owner)
    ≡ Some 0
its_owner_is_a_begin_order = refl

a_seek_stands_at_its_key : place_of (done with_cursor (seek (codes "c") b)) ≡ Some (at_key b, None)
a_seek_stands_at_its_key = refl

a_range_has_its_last_key : place_of (done with_cursor (seek_range (codes "c") a b)) ≡ Some (at_key a, Some b)
a_range_has_its_last_key = refl

a_seek_behind_it_has_none : place_of (done (done with_cursor (seek_range (codes "c") a b)) (seek (codes "c") one)) ≡ Some (at_key one, None)
a_seek_behind_it_has_none = refl

an_update_keeps_place_and_range :
    place_of (led (done with_cursor (seek_range (codes "c") a b)) (put_in a s a one ∷ update (codes "c") ∷ []))
    ≡ Some (at_key a, Some b)
unfolding normal_form
an_update_keeps_place_and_range = refl

cursors_change_no_core :
    map (λ line. (done with_cursor line).core) (seek (codes "c") b ∷ seek_range (codes "c") a b ∷ update (codes "c") ∷ [])
    ≡ with_cursor.core ∷ with_cursor.core ∷ with_cursor.core ∷ []
cursors_change_no_core = refl

an_open_cursor_is_counted : with_cursor.core.cursors ≡ 1
an_open_cursor_is_counted = refl

a_closed_one_is_gone : led with_cursor (close_cursor (codes "c") ∷ []) ≡ two_began
a_closed_one_is_gone = refl

-- ---- syncs and freezes, with a put that waits

a_sync_has_the_last_number :
    (led one_put (take sync ∷ [])).core.turn
    ≡ taken (record { kind = syncing; number = 2; plan = settles; calls = true })
unfolding normal_form
a_sync_has_the_last_number = refl

-- the number is that of the take
a_written_turn_is_run :
    (led one_put (take sync ∷ put_out s b one ∷ write_turn ∷ [])).core.turn
    ≡ ran (record { kind = syncing; number = 2; plan = settles; calls = true }) false
unfolding normal_form
a_written_turn_is_run = refl

its_end_makes_that_number_safe :
    map (λ m. m.core.safe)
    (led one_put (take sync ∷ put_out s b one ∷ write_turn ∷ []) ∷ led one_put (take sync ∷ put_out s b one ∷ write_turn ∷ end_turn ∷ []) ∷ [])
    ≡ 1 ∷ 2 ∷ []
unfolding normal_form
its_end_makes_that_number_safe = refl

and_brings_the_turn_home : (led one_put (take sync ∷ write_turn ∷ end_turn ∷ [])).core.turn ≡ home
unfolding normal_form
and_brings_the_turn_home = refl

a_freeze_starts_a_layer :
    (led one_put (take freeze ∷ put_out s b one ∷ [])).core.log
    ≡ record {
      horizon = 0;
      first_segment = 1;
      frozen = record { last = 2; commits = numbered 2 (of (Put a one) ∷ []) ∷ [] } ∷ [];
      active = numbered 3 (of (Put b one) ∷ []) ∷ [];
    }
unfolding normal_form
a_freeze_starts_a_layer = refl

the_newest_layer_stands_first :
    map (λ layer. layer.last) (led one_put (turn freeze ∷ put_out s b one ∷ turn freeze ∷ [])).core.log.frozen
    ≡ 3 ∷ 2 ∷ []
unfolding normal_form
the_newest_layer_stands_first = refl

a_freeze_of_nothing_freezes_nothing :
    length (led one_put (turn freeze ∷ turn freeze ∷ [])).core.log.frozen ≡ 1
unfolding normal_form
a_freeze_of_nothing_freezes_nothing = refl

a_freeze_makes_all_safe : (led one_put (turn freeze ∷ [])).core.safe ≡ 2
unfolding normal_form
a_freeze_makes_all_safe = refl

-- ---- creations and drops: a creation takes 18 bytes of the manifest, and a drop 22

abbrev creation_taken : Script
creation_taken = led one_put (take (create b Tx 0) ∷ [])

a_creation_is_an_event_when_taken :
    history_of creation_taken
    ≡ creates s Plain 1 ∷ commits (of (Put a one) ∷ []) ∷ creates b Tx 0 ∷ []
unfolding normal_form
a_creation_is_an_event_when_taken = refl

its_turn_has_that_event_s_number :
    creation_taken.core.turn
    ≡ taken (record {
      kind = creating;
      number = 3;
      plan = enters (record { sequence = 1; used = 76; taken = 1 ∷ 3 ∷ [] });
      calls = true;
    })
unfolding normal_form
its_turn_has_that_event_s_number = refl

the_manifest_has_it_at_the_end :
    map (λ m. m.core.manifest) (creation_taken ∷ led creation_taken (write_turn ∷ end_turn ∷ []) ∷ [])
    ≡ record { sequence = 1; used = 58; taken = 1 ∷ [] } ∷ record { sequence = 1; used = 76; taken = 1 ∷ 3 ∷ [] } ∷ []
unfolding normal_form
the_manifest_has_it_at_the_end = refl

and_then_it_is_safe : (led creation_taken (write_turn ∷ end_turn ∷ [])).core.safe ≡ 3
unfolding normal_form
and_then_it_is_safe = refl

abbrev drop_taken : Script
drop_taken = led one_put (take (drop s) ∷ [])

a_drop_is_an_event_when_taken :
    history_of drop_taken ≡ creates s Plain 1 ∷ commits (of (Put a one) ∷ []) ∷ drops 1 ∷ []
unfolding normal_form
a_drop_is_an_event_when_taken = refl

its_turn_names_the_store :
    drop_taken.core.turn
    ≡ taken (record {
      kind = dropping;
      number = 3;
      plan = removes 1 (record { sequence = 1; used = 80; taken = 1 ∷ 3 ∷ [] });
      calls = true;
    })
unfolding normal_form
its_turn_names_the_store = refl

-- ---- device faults

a_failed_write_is_run_and_breaks :
    (failing creation_taken write_turn).core
    ≡ record creation_taken.core {
      turn = ran (record {
        kind = creating;
        number = 3;
        plan = enters (record { sequence = 1; used = 76; taken = 1 ∷ 3 ∷ [] });
        calls = true;
      }) true;
      is_broken = true;
    }
unfolding normal_form
a_failed_write_is_run_and_breaks = refl

an_end_after_it_brings_the_turn_home_alone :
    (refused_to (failing creation_taken write_turn) end_turn).core
    ≡ record creation_taken.core { turn = home; is_broken = true }
unfolding normal_form
an_end_after_it_brings_the_turn_home_alone = refl
