-- Small cases of cursors, worked by hand.
use Rattle.std.proofs.Common.{◌≡◌, ℕ, ◌&&◌, List, [], ◌∷◌, Option, Some, None, refl, ◌∙◌, ap}
use Rattle.std.specs.Prelude.{codes}
use Rattle.std.specs.List.{filter}
use Rattle.std.specs.Ordering.{nat_cmp}
use Rattle.std.specs.Cmp.Lexicographic.{slice_cmp}
use Rattle.std.specs.FinMap.{entries-from_sorted}
use Rattle.std.specs.FinMap as fin_map
use Rattle.hse_rows.specs.writes.Change.{covers}
use Rattle.hse_rows.specs.states.State.{Contents}
use Rattle.hse_rows.specs.script.Cursor.{CursorState, Direction, front, forward, backward, Pair, directed, is_reached, is_in_range, rest_of, sought, sought_range, moved, first_of, read_by, after_read, key_by, found_by, updated}

-- aa 1, ab 2, ad 3, ba 4
abbrev aa : Pair
aa = (codes "aa", codes "1")

abbrev ab : Pair
ab = (codes "ab", codes "2")

abbrev ad : Pair
ad = (codes "ad", codes "3")

abbrev ba : Pair
ba = (codes "ba", codes "4")

four : Contents
four = fin_map.from_sorted (aa ∷ ab ∷ ad ∷ ba ∷ [])

four_entries : fin_map.entries four ≡ aa ∷ ab ∷ ad ∷ ba ∷ []
unfolding four
four_entries = entries-from_sorted (slice_cmp nat_cmp) (aa ∷ ab ∷ ad ∷ ba ∷ []) tt

-- a cursor on these at its front
abbrev on_four : Direction → List ℕ → CursorState
on_four direction prefix =
    record { owner = None; store = 1; direction = direction; prefix = prefix; contents = four; position = front; last = None }

-- the rest, by the entries of the contents
abbrev rest_by : CursorState → List Pair → List Pair
rest_by cursor entries =
    filter (λ pair. is_reached cursor.direction cursor.position pair.0 && is_in_range cursor.last pair.0)
    (directed cursor.direction (filter (λ pair. covers cursor.prefix pair.0) entries))

rest : (cursor : CursorState) → cursor.contents ≡ four → rest_of cursor ≡ rest_by cursor (aa ∷ ab ∷ ad ∷ ba ∷ [])
rest cursor holds =
    ap (λ (contents : Contents). rest_by cursor (fin_map.entries contents)) holds ∙ ap (rest_by cursor) four_entries

abbrev reverse_cursor : CursorState
reverse_cursor = on_four backward (codes "a")

a_reverse_cursor_begins_at_the_greatest : rest_of reverse_cursor ≡ ad ∷ ab ∷ aa ∷ []
a_reverse_cursor_begins_at_the_greatest = rest reverse_cursor refl

a_read_moves_past_its_key : rest_of (moved reverse_cursor (Some ad)) ≡ ab ∷ aa ∷ []
a_read_moves_past_its_key = rest (moved reverse_cursor (Some ad)) refl

a_reverse_seek_goes_down : rest_of (sought reverse_cursor (codes "ac")) ≡ ab ∷ aa ∷ []
a_reverse_seek_goes_down = rest (sought reverse_cursor (codes "ac")) refl

a_reverse_seek_below_all_finds_none : rest_of (sought reverse_cursor (codes "a")) ≡ []
a_reverse_seek_below_all_finds_none = rest (sought reverse_cursor (codes "a")) refl

a_reverse_seek_above_all_finds_the_greatest : rest_of (sought reverse_cursor (codes "b")) ≡ ad ∷ ab ∷ aa ∷ []
a_reverse_seek_above_all_finds_the_greatest = rest (sought reverse_cursor (codes "b")) refl

abbrev forward_cursor : CursorState
forward_cursor = on_four forward []

a_forward_cursor_has_all : rest_of forward_cursor ≡ aa ∷ ab ∷ ad ∷ ba ∷ []
a_forward_cursor_has_all = rest forward_cursor refl

a_range_has_both_its_ends : rest_of (sought_range forward_cursor (codes "ab") (codes "ad")) ≡ ab ∷ ad ∷ []
a_range_has_both_its_ends = rest (sought_range forward_cursor (codes "ab") (codes "ad")) refl

a_seek_ends_a_range :
    rest_of (sought (sought_range forward_cursor (codes "ab") (codes "ab")) (codes "ab"))
    ≡ ab ∷ ad ∷ ba ∷ []
a_seek_ends_a_range = rest (sought (sought_range forward_cursor (codes "ab") (codes "ab")) (codes "ab")) refl

-- ---- what is read

first_read : read_by reverse_cursor ≡ Some ad
first_read = ap first_of (rest reverse_cursor refl)

a_read_gives_the_first_of_the_rest : rest_of (after_read reverse_cursor) ≡ ab ∷ aa ∷ []
a_read_gives_the_first_of_the_rest =
    ap (λ (pair : Option Pair). rest_of (moved reverse_cursor pair)) first_read ∙ a_read_moves_past_its_key

a_seek_finds_the_next_below : found_by (sought reverse_cursor (codes "ac")) ≡ Some (codes "ab")
a_seek_finds_the_next_below = ap (λ (pairs : List Pair). key_by (first_of pairs)) a_reverse_seek_goes_down

-- below all keys
abbrev at_the_end : CursorState
at_the_end = sought reverse_cursor (codes "a")

a_seek_below_all_finds_none : found_by at_the_end ≡ None
a_seek_below_all_finds_none = ap (λ (pairs : List Pair). key_by (first_of pairs)) a_reverse_seek_below_all_finds_none

nothing_is_read_at_the_end : read_by at_the_end ≡ None
nothing_is_read_at_the_end = ap first_of a_reverse_seek_below_all_finds_none

a_read_at_the_end_changes_nothing : after_read at_the_end ≡ at_the_end
a_read_at_the_end_changes_nothing = ap (moved at_the_end) nothing_is_read_at_the_end

-- in the range from ab to ad
abbrev in_range : CursorState
in_range = sought_range forward_cursor (codes "ab") (codes "ad")

a_range_begins_at_its_first : found_by in_range ≡ Some (codes "ab")
a_range_begins_at_its_first = ap (λ (pairs : List Pair). key_by (first_of pairs)) a_range_has_both_its_ends

a_range_ends_behind_its_last : read_by (moved (moved in_range (Some ab)) (Some ad)) ≡ None
a_range_ends_behind_its_last = ap first_of (rest (moved (moved in_range (Some ab)) (Some ad)) refl)

-- ---- an update, where aa alone was there before

one : Contents
one = fin_map.from_sorted (aa ∷ [])

abbrev on_one : CursorState
on_one = record forward_cursor { contents = one }

one_entry : fin_map.entries one ≡ aa ∷ []
unfolding one
one_entry = entries-from_sorted (slice_cmp nat_cmp) (aa ∷ []) tt

rest_of_one : (cursor : CursorState) → cursor.contents ≡ one → rest_of cursor ≡ rest_by cursor (aa ∷ [])
rest_of_one cursor holds =
    ap (λ (contents : Contents). rest_by cursor (fin_map.entries contents)) holds ∙ ap (rest_by cursor) one_entry

abbrev past_one : CursorState
past_one = moved on_one (Some aa)

the_one_is_read : read_by on_one ≡ Some aa
the_one_is_read = ap first_of (rest_of_one on_one refl)

no_other_is_left : read_by past_one ≡ None
no_other_is_left = ap first_of (rest_of_one past_one refl)

an_update_brings_what_is_new_behind_the_position : rest_of (updated past_one four) ≡ ab ∷ ad ∷ ba ∷ []
an_update_brings_what_is_new_behind_the_position = rest (updated past_one four) refl

an_update_keeps_the_range : rest_of (updated (sought_range on_one (codes "a") (codes "ad")) four) ≡ aa ∷ ab ∷ ad ∷ []
an_update_keeps_the_range = rest (updated (sought_range on_one (codes "a") (codes "ad")) four) refl

an_update_keeps_the_filter : rest_of (updated (record past_one { prefix = codes "a" }) four) ≡ ab ∷ ad ∷ []
an_update_keeps_the_filter = rest (updated (record past_one { prefix = codes "a" }) four) refl

an_update_may_take_all_away : rest_of (updated (moved forward_cursor (Some aa)) one) ≡ []
an_update_may_take_all_away = rest_of_one (updated (moved forward_cursor (Some aa)) one) refl
