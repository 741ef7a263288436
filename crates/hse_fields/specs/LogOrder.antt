-- The order of a commit's changes: prefix deletes by store and prefix, then the others by store and key.
use Rattle.std.specs.Prelude.{ℕ, Bool, true, Option, Some, None, nat_lt, nat_le, ◌||◌}
use Rattle.std.specs.Ordering.{nat_cmp, ordering_then, is_lt}
use Rattle.std.specs.declared.cmp.Ordering.{Ordering}
use Rattle.std.specs.Cmp.Lexicographic.{slice_cmp}
use Rattle.hse_fields.specs.LogText.{Kind, put, del, pdel, Change}

-- prefix deletes come first
abbrev pub rank : Kind → ℕ
rank put = 1
rank del = 1
rank pdel = 0

abbrev pub change_order : Change → Change → Ordering
change_order a b =
    ordering_then (nat_cmp (rank a.kind) (rank b.kind))
    (ordering_then (nat_cmp a.store b.store) (slice_cmp nat_cmp a.name b.name))

-- whether a change may stand behind the last one, if there is one
abbrev pub may_follow : Option Change → Change → Bool
may_follow None c = true
may_follow (Some last) c = is_lt (change_order last c)

-- whether a change of this kind may
abbrev pub kind_may_follow : Option Change → Kind → Bool
kind_may_follow None kind = true
kind_may_follow (Some last) kind = nat_le (rank last.kind) (rank kind)

-- whether a change of this kind may that is of this store
abbrev pub store_may_follow : Option Change → Kind → ℕ → Bool
store_may_follow None kind store = true
store_may_follow (Some last) kind store = nat_lt (rank last.kind) (rank kind) || nat_le last.store store
