-- Small cases of the lines of a cursor that a transaction owns, and of gets after a reopening, worked by hand.
use Rattle.std.proofs.Common.{◌≡◌, ℕ, ◌&&◌, List, [], ◌∷◌, Option, Some, None, refl, sym, ap, ◌∙◌}
use Rattle.std.specs.Prelude.{codes}
use Rattle.std.specs.List.{filter}
use Rattle.std.specs.Ordering.{nat_cmp}
use Rattle.std.specs.Cmp.Lexicographic.{slice_cmp, nat_list_cmp_total}
use Rattle.std.specs.FinMap.{entries-insert, entries-from_sorted, get-from_sorted, get-empty}
use Rattle.std.specs.FinMap as fin_map
use Rattle.hse_rows.specs.declared.store.Mode.TheVariants.{Plain, Tx}
use Rattle.hse_rows.specs.declared.change.Change.TheVariants.{Put}
use Rattle.hse_rows.specs.writes.Change.{write_of, covers}
use Rattle.hse_rows.specs.writes.NormalForm.{normal_form}
use Rattle.hse_rows.specs.states.State.{Contents}
use Rattle.hse_rows.specs.laws.Holding.{get-contents_after_all, same_contents}
use Rattle.hse_rows.specs.states.History.{new_store}
use Rattle.hse_rows.specs.machine.Log.{new_log}
use Rattle.hse_rows.specs.script.Cursor.{Position, Pair, forward, front, past_key, is_reached, is_in_range, first_of, moved}
use Rattle.hse_rows.specs.machine.Turn.{sync, create}
use Rattle.hse_rows.specs.machine.Replies.{ok, value, none, pair, at_end, refused, name_used, no_name, ended_by, by_commit}
use Rattle.hse_rows.specs.machine.Core.{Stored}
use Rattle.hse_rows.specs.machine.CoreReply.{found_value}
use Rattle.hse_rows.specs.machine.CoreStep.{loads}
use Rattle.hse_rows.specs.script.ScriptLines.{nobody, someone, begin, get, commit, open_cursor, read, update, take, write_turn, end_turn, turn, reopen}
use Rattle.hse_rows.specs.script.Script.{Script}
use Rattle.hse_rows.specs.script.ScriptNames.{answer_named}
use Rattle.hse_rows.specs.script.ScriptDone.{reply, done, pair_reply, moving_cursor}
use Rattle.hse_rows.specs.script.ScriptStep.{answer_of, led_to}
use Rattle.hse_rows.proofs.CaseLines.{without_sets}
use Rattle.hse_rows.proofs.RowCases.{device, started, led, answers, put_in, put_out, a, b, s, one}

abbrev t : List ℕ
t = codes "t"

abbrev c : List ℕ
c = codes "c"

abbrev two : List ℕ
two = codes "2"

-- a 1, and then b 2
abbrev of_a : Contents
of_a = fin_map.insert fin_map.empty a one

abbrev of_both : Contents
of_both = fin_map.insert of_a b two

no_entry : fin_map.entries {R = slice_cmp nat_cmp} (fin_map.empty {X = List ℕ}) ≡ []
no_entry =
    ap (λ (contents : Contents). fin_map.entries contents)
    (same_contents fin_map.empty (fin_map.from_sorted [])
    (λ key. get-empty (slice_cmp nat_cmp) key ∙ sym (get-from_sorted (slice_cmp nat_cmp) [] key tt)))
    ∙ entries-from_sorted (slice_cmp nat_cmp) [] tt

one_entry : fin_map.entries of_a ≡ (a, one) ∷ []
one_entry =
    entries-insert nat_list_cmp_total fin_map.empty a one
    ∙ ap (fin_map.put (slice_cmp nat_cmp) a one) no_entry

two_entries : fin_map.entries of_both ≡ (a, one) ∷ (b, two) ∷ []
two_entries =
    entries-insert nat_list_cmp_total of_a b two ∙ ap (fin_map.put (slice_cmp nat_cmp) b two) one_entry

-- the first pair at a position, of these in order
abbrev first_at : Position → List Pair → Option Pair
first_at position pairs =
    first_of
    (filter (λ pair. is_reached forward position pair.0 && is_in_range None pair.0)
    (filter (λ pair. covers [] pair.0) pairs))

-- the cursor was made before b was put
abbrev opened : Script
opened = led (started device) (turn (create s Tx 0) ∷ begin t ∷ put_in t s a one ∷ open_cursor c (someone t) s forward [] ∷ put_in t s b two ∷ [])

it_has_what_was_put_before : reply opened (read c) ≡ pair a one
unfolding normal_form
it_has_what_was_put_before = ap (λ (pairs : List Pair). pair_reply (first_at front pairs)) one_entry

-- past a
abbrev past_a : Script
past_a = moving_cursor opened c (λ cursor. moved cursor (Some (a, one)))

the_read_leads_past_it : done opened (read c) ≡ past_a
unfolding normal_form
the_read_leads_past_it =
    ap (λ (pairs : List Pair). moving_cursor opened c (λ cursor. moved cursor (first_at front pairs))) one_entry

and_then_is_the_end : reply past_a (read c) ≡ at_end
unfolding normal_form
and_then_is_the_end = ap (λ (pairs : List Pair). pair_reply (first_at (past_key a) pairs)) one_entry

-- an update has what was put since, behind the position
abbrev updated_once : Script
updated_once = led past_a (update c ∷ [])

an_update_has_the_own_write : reply updated_once (read c) ≡ pair b two
unfolding normal_form
an_update_has_the_own_write = ap (λ (pairs : List Pair). pair_reply (first_at (past_key a) pairs)) two_entries

abbrev past_b : Script
past_b = moving_cursor updated_once c (λ cursor. moved cursor (Some (b, two)))

that_read_leads_past_it : done updated_once (read c) ≡ past_b
unfolding normal_form
that_read_leads_past_it =
    ap (λ (pairs : List Pair). moving_cursor updated_once c (λ cursor. moved cursor (first_at (past_key a) pairs))) two_entries

a_cursor_outlives_its_transaction : reply (led past_b (commit t ∷ [])) (read c) ≡ at_end
unfolding normal_form
a_cursor_outlives_its_transaction = ap (λ (pairs : List Pair). pair_reply (first_at (past_key b) pairs)) two_entries

but_is_updated_no_more :
    answers past_b
    (commit t ∷ update c ∷ put_in t s c (codes "3") ∷ begin t ∷ begin t ∷ commit (codes "z") ∷ update c ∷ [])
    ≡ ok 2 ∷ refused (ended_by by_commit) ∷ refused (ended_by by_commit) ∷ ok 2 ∷ refused name_used ∷ refused no_name
    ∷ refused (ended_by by_commit) ∷ []
unfolding normal_form
but_is_updated_no_more = refl

-- ---- a reopening: of two puts the first was synced

abbrev written_once : Script
written_once =
    led (started device)
    (turn (create s Plain 0) ∷ put_out s a one ∷ take sync ∷ put_out s b two ∷ write_turn ∷ end_turn ∷ [])

-- what the device has then
abbrev first_alone : Stored
first_alone =
    without_sets device
    (record { number = 2; stores = record (new_store 1 s Plain 0) { contents = of_a } ∷ [] })
    (record new_log { active = record { number = 2; writes = write_of (record { 0 = 1 }) (Put a one) ∷ [] } ∷ [] })
    (record { sequence = 1; used = 58; taken = 1 ∷ [] })

it_answers_the_synced_number : answer_of (loads first_alone) written_once reopen ≡ ok 2
unfolding normal_form
it_answers_the_synced_number = refl

abbrev reopened : Script
reopened = led_to (loads first_alone) written_once reopen (ok 2)

what_was_synced_is_there : reply reopened (get nobody s a) ≡ value one
what_was_synced_is_there =
    ap (λ (held : Option (List ℕ)). answer_named reopened (found_value held))
    (get-contents_after_all 1 fin_map.empty (write_of (record { 0 = 1 }) (Put a one) ∷ []) a)

what_was_put_later_is_not : reply reopened (get nobody s b) ≡ none
what_was_put_later_is_not =
    ap (λ (held : Option (List ℕ)). answer_named reopened (found_value held))
    (get-contents_after_all 1 fin_map.empty (write_of (record { 0 = 1 }) (Put a one) ∷ []) b
    ∙ get-empty (slice_cmp nat_cmp) b)

-- before it the second was there
until_then_it_was : reply written_once (get nobody s b) ≡ value two
unfolding normal_form
until_then_it_was =
    ap (λ (held : Option (List ℕ)). answer_named written_once (found_value held))
    (get-contents_after_all 1 fin_map.empty
    (write_of (record { 0 = 1 }) (Put a one) ∷ write_of (record { 0 = 1 }) (Put b two) ∷ []) b)
