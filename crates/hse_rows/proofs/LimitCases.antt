-- Small cases of lengths, names and what a maker refuses, worked by hand.
use Rattle.std.proofs.Common.{◌≡◌, ℕ, ◌<◌, ◌≤◌, true, false, List, [], ◌∷◌, map, refl, sym, arith}
use Rattle.std.proofs.Math.Bool.{true≢false}
use Rattle.std.specs.Prelude.{codes, replicate}
use Rattle.std.specs.List.{list_all}
use Rattle.hse_rows.specs.declared.change.Change.TheVariants.{Put, Del, PDel}
use Rattle.hse_rows.specs.declared.length_fault.LengthFault.TheVariants as fault
use Rattle.hse_rows.specs.declared.name.NameFault.TheVariants as name
use Rattle.hse_rows.specs.writes.Lengths.{IsKeyLength, IsEdgeLength, IsPrefixLength, FitsPrefix}
use Rattle.hse_rows.specs.writes.Names.{is_name_byte, IsName}
use Rattle.hse_rows.specs.writes.Refusals.{RefusesLength, RefusesValue, RefusesName}
use Rattle.hse_rows.specs.writes.Change.{FitsLimits}
use Rattle.hse_rows.specs.machine.Core.{longest_value}
use Rattle.hse_rows.proofs.MachineCases.{small}

-- ---- lengths

a_key_has_1_byte_or_more : IsKeyLength 1 × ¬ IsKeyLength 0
a_key_has_1_byte_or_more =
    let some : 0 < 1 = omega arith in
    let few : 1 ≤ 1344 = omega arith in
    ((some, few), λ is. absurd (omega (arith, is.0)))

a_key_has_1344_bytes_at_most : IsKeyLength 1344 × ¬ IsKeyLength 1345
a_key_has_1344_bytes_at_most =
    let some : 0 < 1344 = omega arith in
    let few : 1344 ≤ 1344 = omega arith in
    ((some, few), λ is. absurd (omega (arith, is.1)))

an_edge_may_be_empty : IsEdgeLength 0
an_edge_may_be_empty =
    let some : 0 ≤ 0 = omega arith in
    let few : 0 ≤ 1344 = omega arith in
    (some, few)

an_edge_has_1344_bytes_at_most : IsEdgeLength 1344 × ¬ IsEdgeLength 1345
an_edge_has_1344_bytes_at_most =
    let some : 0 ≤ 1344 = omega arith in
    let few : 1344 ≤ 1344 = omega arith in
    ((some, few), λ is. absurd (omega (arith, is.1)))

a_prefix_has_32_bytes_at_most : IsPrefixLength 32 × ¬ IsPrefixLength 33
a_prefix_has_32_bytes_at_most =
    let some : 0 < 32 = omega arith in
    let few : 32 ≤ 32 = omega arith in
    ((some, few), λ is. absurd (omega (arith, is.1)))

-- 1 byte, and as many as the store's prefixes have at most
a_prefix_may_be_as_long_as_its_store_s : FitsPrefix 2 1 × FitsPrefix 2 2 × ¬ FitsPrefix 2 3
a_prefix_may_be_as_long_as_its_store_s =
    let some : 0 < 1 = omega arith in
    let few : 1 ≤ 32 = omega arith in
    let short : 1 ≤ 2 = omega arith in
    let both : 0 < 2 = omega arith in
    let two : 2 ≤ 32 = omega arith in
    let whole : 2 ≤ 2 = omega arith in
    (((some, few), short), ((both, two), whole), λ is. absurd (omega (arith, is.1)))

a_store_s_prefixes_have_32_bytes_at_most : ¬ FitsPrefix 40 33
a_store_s_prefixes_have_32_bytes_at_most is = absurd (omega (arith, is.0.1))

a_store_without_prefixes_takes_none : ¬ FitsPrefix 0 0
a_store_without_prefixes_takes_none is = absurd (omega (arith, is.0.0))

a_put_has_a_key : ¬ FitsLimits (Put [] (codes "v"))
a_put_has_a_key is = absurd (omega (arith, is.0))

a_del_has_a_key : FitsLimits (Del (codes "k"))
a_del_has_a_key =
    let some : 0 < 1 = omega arith in
    let few : 1 ≤ 1344 = omega arith in
    (some, few)

a_prefix_delete_has_a_prefix : FitsLimits (PDel (codes "ab")) × ¬ FitsLimits (PDel [])
a_prefix_delete_has_a_prefix =
    let some : 0 < 2 = omega arith in
    let few : 2 ≤ 32 = omega arith in
    ((some, few), λ is. absurd (omega (arith, is.0)))

a_value_leaves_64_bytes_of_a_slot : longest_value small ≡ 65472
a_value_leaves_64_bytes_of_a_slot = refl

a_value_has_a_mebibyte_at_most : longest_value (record small { slot_size = 2097152 }) ≡ 1048576
a_value_has_a_mebibyte_at_most = refl

-- ---- names

-- the first and the last of the small letters, the capitals and the digits, and the two others
these_stand_in_names : list_all is_name_byte (codes "azAZ09-_") ≡ true
these_stand_in_names = refl

-- the bytes beside them, and a space
those_do_not : map is_name_byte (96 ∷ 123 ∷ 64 ∷ 91 ∷ 47 ∷ 58 ∷ 44 ∷ 46 ∷ 94 ∷ 32 ∷ [])
    ≡ false ∷ false ∷ false ∷ false ∷ false ∷ false ∷ false ∷ false ∷ false ∷ false ∷ []
those_do_not = refl

-- as many letters
abbrev letters_of : ℕ → List ℕ
letters_of count = replicate count 97

a_name_has_a_letter : IsName (letters_of 1)
a_name_has_a_letter = record { some = omega arith; most = omega arith; letters = refl }

a_name_has_31_letters : IsName (letters_of 31)
a_name_has_31_letters = record { some = omega arith; most = omega arith; letters = refl }

thirty_two_are_too_many : ¬ IsName (letters_of 32)
thirty_two_are_too_many is =
    let few : 32 ≤ 31 = is.most in
    absurd (omega (arith, few))

nothing_is_no_name : ¬ IsName []
nothing_is_no_name is =
    let some : 0 < 0 = is.some in
    absurd (omega (arith, some))

a_space_is_in_no_name : ¬ IsName (codes "a b")
a_space_is_in_no_name is = absurd (true≢false (sym is.letters))

-- ---- refusals

a_long_key_is_refused_with_its_length : RefusesLength IsKeyLength 1345 (fault.Length 1345) × ¬ RefusesLength IsKeyLength 1345 (fault.Length 1344)
a_long_key_is_refused_with_its_length =
    ((refl, λ is. absurd (omega (arith, is.1))), λ refuses. absurd (omega (arith, refuses.0)))

a_key_within_is_refused_for_memory_alone : RefusesLength IsKeyLength 1 fault.NoMemory × ¬ RefusesLength IsKeyLength 1 (fault.Length 1)
a_key_within_is_refused_for_memory_alone = (a_key_has_1_byte_or_more.0, λ refuses. refuses.1 a_key_has_1_byte_or_more.0)

a_long_key_is_not_refused_for_memory : ¬ RefusesLength IsKeyLength 1345 fault.NoMemory
a_long_key_is_not_refused_for_memory = a_key_has_1344_bytes_at_most.1

an_empty_edge_is_not_refused_for_its_length : ¬ RefusesLength IsEdgeLength 0 (fault.Length 0)
an_empty_edge_is_not_refused_for_its_length refuses = refuses.1 an_edge_may_be_empty

a_long_edge_is_refused : RefusesLength IsEdgeLength 1345 (fault.Length 1345)
a_long_edge_is_refused = (refl, an_edge_has_1344_bytes_at_most.1)

a_value_above_its_most_is_refused : RefusesValue 65472 65473 (fault.Length 65473)
a_value_above_its_most_is_refused =
    let above : 65472 < 65473 = omega arith in
    (refl, above)

one_of_its_most_is_not : ¬ RefusesValue 65472 65472 (fault.Length 65472)
one_of_its_most_is_not refuses = absurd (omega (arith, refuses.1))

a_prefix_longer_than_its_store_s_is_refused : RefusesLength (FitsPrefix 2) 3 (fault.Length 3)
a_prefix_longer_than_its_store_s_is_refused = (refl, a_prefix_may_be_as_long_as_its_store_s.2)

a_shorter_one_is_not : ¬ RefusesLength (FitsPrefix 2) 1 (fault.Length 1)
a_shorter_one_is_not refuses = refuses.1 a_prefix_may_be_as_long_as_its_store_s.0

every_prefix_is_refused_where_none_is_allowed : RefusesLength (FitsPrefix 0) 0 (fault.Length 0)
every_prefix_is_refused_where_none_is_allowed = (refl, a_store_without_prefixes_takes_none)

an_empty_name_is_refused : RefusesName [] name.BadName
an_empty_name_is_refused = nothing_is_no_name

a_good_name_is_not : ¬ RefusesName (letters_of 31) name.BadName
a_good_name_is_not refuses = refuses a_name_has_31_letters
