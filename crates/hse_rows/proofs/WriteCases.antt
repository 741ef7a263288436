-- Small cases of the definitions on writes, worked by hand.
use Rattle.std.proofs.Common.{◌≡◌, ℕ, ◌<◌, ◌≤◌, ◌^◌, true, false, List, [], ◌∷◌, length, Some, None, refl, sym, ap, ◌∙◌, subst, arith}
use Rattle.std.proofs.Math.Bool.{true≢false}
use Rattle.std.specs.Prelude.{codes}
use Rattle.std.specs.List.Sorted.{IsStrictlySortedBy}
use Rattle.std.specs.Ordering.{nat_cmp, on, is_gt}
use Rattle.hse_rows.specs.declared.change.Change.{Change}
use Rattle.hse_rows.specs.declared.change.Change.TheVariants.{Put, Del, PDel}
use Rattle.hse_rows.specs.declared.write.Write.{Write}
use Rattle.hse_rows.specs.writes.Change.{Covers, covers, target, change_of, write_of}
use Rattle.hse_rows.specs.writes.NormalForm.{write_cmp, normal_form, added, replaced, Continues}
use Rattle.hse_rows.specs.laws.Orderly.{IsNormalForm}
use Rattle.hse_rows.specs.writes.Sorted.{sorted}
use Rattle.hse_rows.specs.writes.Charge.{writes_bytes, charge_of}
use Rattle.hse_rows.specs.writes.Sets.{IsSet}
use Rattle.hse_rows.specs.declared.write_set.WriteSet.TheInside.{Inside}
use Rattle.hse_rows.specs.declared.change.ChangeRef.TheVariants as lent
use Rattle.hse_rows.proofs.ChargeLemmas.{next-of-all}
use Rattle.hse_rows.specs.writes.Reach.{leaves, touches, left_by}
use Rattle.hse_rows.specs.laws.LastEffect.{last_effect}
use Rattle.hse_rows.specs.writes.Overlap.{overlaps, overlaps_some}

abbrev of : ℕ → Change → Write
of id change = write_of (record { 0 = id }) change

-- ---- covering

a_prefix_covers_a_longer_key : covers (codes "ab") (codes "abc") ≡ true
a_prefix_covers_a_longer_key = refl

a_prefix_covers_itself : covers (codes "ab") (codes "ab") ≡ true
a_prefix_covers_itself = refl

a_prefix_does_not_cover_a_shorter_key : covers (codes "ab") (codes "a") ≡ false
a_prefix_does_not_cover_a_shorter_key = refl

a_prefix_does_not_cover_another_key : covers (codes "ab") (codes "b1") ≡ false
a_prefix_does_not_cover_another_key = refl

a_prefix_is_at_the_front : Covers (codes "ab") (codes "abc") × ¬ Covers (codes "ab") (codes "a")
a_prefix_is_at_the_front =
    let short : 2 ≤ 3 = omega arith in
    ((short, refl), λ is. absurd (omega (arith, is.0)))

what_is_lent_is_the_same_change :
    change_of (lent.Put (record { ref_ptr = (0, 0); now = codes "k" }) (record { ref_ptr = (0, 0); now = codes "v" }))
    ≡ Put (codes "k") (codes "v")
what_is_lent_is_the_same_change = refl

-- ---- overlaps

one_key_overlaps : overlaps (of 1 (Put (codes "k") (codes "1"))) (of 1 (Del (codes "k"))) ≡ true
one_key_overlaps = refl

two_stores_do_not : overlaps (of 1 (Put (codes "k") (codes "1"))) (of 2 (Put (codes "k") (codes "1"))) ≡ false
two_stores_do_not = refl

two_keys_do_not : overlaps (of 1 (Put (codes "k") (codes "1"))) (of 1 (Put (codes "l") (codes "1"))) ≡ false
two_keys_do_not = refl

a_prefix_overlaps_a_covered_key : overlaps (of 1 (PDel (codes "ab"))) (of 1 (Put (codes "abc") (codes "1"))) ≡ true
a_prefix_overlaps_a_covered_key = refl

a_covered_key_overlaps_the_prefix : overlaps (of 1 (Put (codes "abc") (codes "1"))) (of 1 (PDel (codes "ab"))) ≡ true
a_covered_key_overlaps_the_prefix = refl

a_prefix_does_not_overlap_a_shorter_key :
    overlaps (of 1 (PDel (codes "ab"))) (of 1 (Put (codes "a") (codes "x")))
    ≡ false
a_prefix_does_not_overlap_a_shorter_key = refl

one_prefix_overlaps : overlaps (of 1 (PDel (codes "ab"))) (of 1 (PDel (codes "ab"))) ≡ true
one_prefix_overlaps = refl

two_prefixes_do_not : overlaps (of 1 (PDel (codes "ab"))) (of 1 (PDel (codes "ac"))) ≡ false
two_prefixes_do_not = refl

-- but two of which one begins with the other
a_prefix_overlaps_a_longer_one : overlaps (of 1 (PDel (codes "a"))) (of 1 (PDel (codes "ab"))) ≡ true
a_prefix_overlaps_a_longer_one = refl

and_a_shorter_one : overlaps (of 1 (PDel (codes "ab"))) (of 1 (PDel (codes "a"))) ≡ true
and_a_shorter_one = refl

-- ---- normal forms

-- a put, a prefix delete of it, and a put under the prefix
worked : List Write
worked = of 1 (Put (codes "ab1") (codes "1")) ∷ of 1 (PDel (codes "ab")) ∷ of 1 (Put (codes "ab2") (codes "2")) ∷ []

the_prefix_delete_stands_first :
    normal_form worked
    ≡ of 1 (PDel (codes "ab")) ∷ of 1 (Put (codes "ab2") (codes "2")) ∷ []
unfolding normal_form worked
the_prefix_delete_stands_first = refl

-- the last change of each key, by store and key, behind the prefix deletes of both stores
mixed : List Write
mixed =
    of 2 (Put (codes "a") (codes "1")) ∷ of 1 (Put (codes "c") (codes "1")) ∷ of 1 (Put (codes "b") (codes "1"))
    ∷ of 2 (PDel (codes "x")) ∷ of 1 (Del (codes "c")) ∷ of 1 (PDel (codes "z")) ∷ of 2 (PDel (codes "x")) ∷ []

the_last_changes_stand_in_order :
    normal_form mixed
    ≡ of 1 (PDel (codes "z")) ∷ of 2 (PDel (codes "x")) ∷ of 1 (Put (codes "b") (codes "1")) ∷ of 1 (Del (codes "c"))
    ∷ of 2 (Put (codes "a") (codes "1")) ∷ []
unfolding normal_form mixed
the_last_changes_stand_in_order = refl

-- ---- charges

one_small_put_takes_61_bytes : charge_of (of 1 (Put (codes "k") (codes "v")) ∷ []) ≡ 61
one_small_put_takes_61_bytes = refl

-- 12 + (11 + 1) + 32
one_small_deletion_takes_56_bytes : charge_of (of 1 (Del (codes "k")) ∷ []) ≡ 56
one_small_deletion_takes_56_bytes = refl

-- 12 + (11 + 2) + (15 + 3 + 1) + 32
a_prefix_delete_and_a_put_take_76_bytes :
    charge_of (of 1 (PDel (codes "ab")) ∷ of 1 (Put (codes "ab2") (codes "2")) ∷ [])
    ≡ 76
a_prefix_delete_and_a_put_take_76_bytes = refl

-- ---- what is left at a key

the_later_put_is_read : last_effect (touches 1 (codes "ab2")) (λ w. leaves w.change) None worked ≡ Some (codes "2")
unfolding worked
the_later_put_is_read = refl

a_deleted_prefix_is_read : last_effect (touches 1 (codes "ab1")) (λ w. leaves w.change) None worked ≡ None
unfolding worked
a_deleted_prefix_is_read = refl

a_shorter_key_stays :
    last_effect (touches 1 (codes "a")) (λ w. leaves w.change) (Some (codes "x")) worked
    ≡ Some (codes "x")
unfolding worked
a_shorter_key_stays = refl

another_store_stays : last_effect (touches 2 (codes "ab2")) (λ w. leaves w.change) None worked ≡ None
unfolding worked
another_store_stays = refl

what_is_left_where_nothing_was : left_by 1 (codes "ab2") None worked ≡ Some (codes "2")
unfolding worked
what_is_left_where_nothing_was = refl

-- ---- a set of writes that takes one more

-- a put and a deletion under one prefix, and a put beside them
abbrev three : List Write
three = of 1 (Put (codes "ab1") (codes "1")) ∷ of 1 (Del (codes "ab2")) ∷ of 1 (Put (codes "b") (codes "1")) ∷ []

a_prefix_delete_takes_out_what_it_covers :
    added three (of 1 (PDel (codes "ab")))
    ≡ of 1 (PDel (codes "ab")) ∷ of 1 (Put (codes "b") (codes "1")) ∷ []
a_prefix_delete_takes_out_what_it_covers = refl

another_store_s_takes_out_none : added three (of 2 (PDel (codes "ab"))) ≡ of 2 (PDel (codes "ab")) ∷ three
another_store_s_takes_out_none = refl

a_put_takes_the_place_of_its_key :
    added three (of 1 (Put (codes "ab2") (codes "2")))
    ≡ of 1 (Put (codes "ab1") (codes "1")) ∷ of 1 (Put (codes "ab2") (codes "2")) ∷ of 1 (Put (codes "b") (codes "1"))
    ∷ []
a_put_takes_the_place_of_its_key = refl

-- a prefix delete stays when a put of the same bytes comes
a_put_of_a_prefix_s_bytes_stands_behind_it :
    added (of 1 (PDel (codes "ab")) ∷ []) (of 1 (Put (codes "ab") (codes "1"))) ≡ of 1 (PDel (codes "ab"))
    ∷ of 1 (Put (codes "ab") (codes "1")) ∷ []
a_put_of_a_prefix_s_bytes_stands_behind_it = refl

what_is_replaced_is_of_the_same_key :
    replaced three (of 1 (Del (codes "ab1")))
    ≡ of 1 (Del (codes "ab1")) ∷ of 1 (Del (codes "ab2")) ∷ of 1 (Put (codes "b") (codes "1")) ∷ []
what_is_replaced_is_of_the_same_key = refl

-- the set of these goes on with one more
a_set_goes_on_with_what_it_takes :
    Continues three (of 1 (PDel (codes "ab"))) (of 1 (PDel (codes "ab")) ∷ of 1 (Put (codes "b") (codes "1")) ∷ [])
a_set_goes_on_with_what_it_takes = record { all = λ writes is. next-of-all three writes (of 1 (PDel (codes "ab"))) is }

a_set_does_not_stay : ¬ Continues three (of 1 (PDel (codes "ab"))) three
unfolding normal_form
a_set_does_not_stay goes_on =
    let three_are_two : 3 ≡ 2 = ap (λ (writes : List Write). length writes) (goes_on.all three refl) in
    absurd (omega (arith, three_are_two))

-- what is kept of a put of 17 bytes
abbrev one_put : List Write
one_put = of 1 (Put (codes "k") (codes "v")) ∷ []

a_set_of_it_has_17_bytes : (set : Inside) → set.writes.items ≡ one_put → set.bytes ≡ 17 → IsSet set
unfolding IsStrictlySortedBy
a_set_of_it_has_17_bytes set items bytes =
    let few : charge_of one_put < 2 ^ 64 = omega arith in
    record {
      rising = subst (IsStrictlySortedBy write_cmp) (sym items) (tt, tt);
      counted = bytes ∙ ap writes_bytes (sym items);
      fits = subst (λ (writes : List Write). charge_of writes < 2 ^ 64) (sym items) few;
    }

no_set_of_it_has_18 : (set : Inside) → set.writes.items ≡ one_put → set.bytes ≡ 18 → ¬ IsSet set
no_set_of_it_has_18 set items bytes is =
    let other : 18 ≡ 17 = sym bytes ∙ is.counted ∙ ap writes_bytes items in
    absurd (omega (arith, other))

-- ---- order

ties_stay_as_they_stood :
    sorted (on (λ (pair : ℕ × ℕ). pair.0) nat_cmp) ((2, 1) ∷ (1, 2) ∷ (2, 3) ∷ (1, 4) ∷ [])
    ≡ (1, 2) ∷ (1, 4) ∷ (2, 1) ∷ (2, 3) ∷ []
ties_stay_as_they_stood = refl

writes_out_of_order_are_no_normal_form :
    ¬ IsNormalForm worked (of 1 (Put (codes "ab2") (codes "2")) ∷ of 1 (PDel (codes "ab")) ∷ [])
unfolding IsStrictlySortedBy
writes_out_of_order_are_no_normal_form is = absurd (true≢false (ap is_gt is.rising.0.0))

a_hidden_write_is_in_no_normal_form :
    ¬ IsNormalForm worked
    (of 1 (PDel (codes "ab")) ∷ of 1 (Put (codes "ab1") (codes "1")) ∷ of 1 (Put (codes "ab2") (codes "2")) ∷ [])
unfolding worked
a_hidden_write_is_in_no_normal_form is =
    let three_are_two : 3 ≡ 2 = is.lasting_ones (λ write. true) in
    absurd (omega (arith, three_are_two))

-- ---- what a change is about

a_put_is_about_its_key : target (Put (codes "k") (codes "v")) ≡ codes "k"
a_put_is_about_its_key = refl

a_prefix_delete_is_about_its_prefix : target (PDel (codes "ab")) ≡ codes "ab"
a_prefix_delete_is_about_its_prefix = refl

a_write_may_overlap_one_of_many : overlaps_some (of 1 (Del (codes "b"))) three ≡ true
a_write_may_overlap_one_of_many = refl

or_none_of_them : overlaps_some (of 1 (Del (codes "c"))) three ≡ false
or_none_of_them = refl

-- ---- a normal form overlaps what its writes overlap, also where a shorter prefix hides what overlaps

abbrev of_two_lengths : List Write
of_two_lengths = of 1 (Put (codes "abc") (codes "1")) ∷ of 1 (PDel (codes "a")) ∷ []

the_writes_overlap_a_longer_prefix : overlaps_some (of 1 (PDel (codes "ab"))) of_two_lengths ≡ true
the_writes_overlap_a_longer_prefix = refl

so_does_their_normal_form : overlaps_some (of 1 (PDel (codes "ab"))) (normal_form of_two_lengths) ≡ true
unfolding normal_form
so_does_their_normal_form = refl

-- two prefixes of which neither is the other both stay
prefixes_of_two_lengths_stay :
    normal_form (of 1 (PDel (codes "ab")) ∷ of 1 (PDel (codes "a")) ∷ [])
    ≡ of 1 (PDel (codes "a")) ∷ of 1 (PDel (codes "ab")) ∷ []
unfolding normal_form
prefixes_of_two_lengths_stay = refl
