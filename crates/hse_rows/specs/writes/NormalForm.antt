-- The normal form of a commit's writes.
use Rattle.std.specs.Prelude.{◌≡◌, ℕ, Bool, false, cond, not, ◌==◌, ◌&&◌, List, [], ◌∷◌, ◌++◌, nat_eq}
use Rattle.std.specs.List.{list_any, filter}
use Rattle.std.specs.declared.cmp.Ordering.{Ordering}
use Rattle.std.specs.Ordering.{nat_cmp, on, then_cmp, eq_by_cmp}
use Rattle.std.specs.Cmp.Lexicographic.{pointwise, slice_cmp}
use Rattle.hse_rows.specs.declared.change.Change.{Change}
use Rattle.hse_rows.specs.declared.change.Change.TheVariants.{Put, Del, PDel}
use Rattle.hse_rows.specs.declared.write.Write.{Write}
use Rattle.hse_rows.specs.writes.Change.{covers, target}
use Rattle.hse_rows.specs.writes.Sorted.{sorted, placed}

-- whether these are the same bytes
abbrev pub same : List ℕ → List ℕ → Bool
same = pointwise nat_eq

-- whether a change hides an earlier put or deletion of a key
abbrev pub hides_key : Change → List ℕ → Bool
hides_key (Put later value) key = same later key
hides_key (Del later) key = same later key
hides_key (PDel prefix) key = covers prefix key

-- and whether it hides an earlier deletion of a prefix
abbrev pub hides_prefix : Change → List ℕ → Bool
hides_prefix (Put later value) prefix = false
hides_prefix (Del later) prefix = false
hides_prefix (PDel later) prefix = same later prefix

abbrev pub hides_change : Change → Change → Bool
hides_change later (Put key value) = hides_key later key
hides_change later (Del key) = hides_key later key
hides_change later (PDel prefix) = hides_prefix later prefix

-- whether a later write hides an earlier one: both of one store
abbrev pub hides : Write → Write → Bool
hides later earlier = (later.store.0 == earlier.store.0) && hides_change later.change earlier.change

-- the writes that no later one hides
abbrev pub lasting : List Write → List Write
lasting [] = []
lasting (write ∷ later) =
    cond (list_any (λ l. hides l write) later) (lasting later) (write ∷ lasting later)

-- prefix deletes come before the changes of keys
abbrev pub rank : Change → ℕ
rank (PDel prefix) = 0
rank (Put key value) = 1
rank (Del key) = 1

-- prefix deletes first, then by store id, then by the bytes of the key or prefix
abbrev pub write_cmp : Write → Write → Ordering
write_cmp =
    then_cmp (on (λ w. rank w.change) nat_cmp)
    (then_cmp (on (λ w. w.store.0) nat_cmp) (on (λ w. target w.change) (slice_cmp nat_cmp)))

-- the normal form: the lasting writes, in order
unfoldable pub normal_form : List Write → List Write
normal_form writes = sorted write_cmp (lasting writes)

-- whether a write stays when a later one comes
abbrev pub stays : Write → Write → Bool
stays later earlier = not (hides later earlier)

-- a normal form with one more write
abbrev pub added : List Write → Write → List Write
added set write = placed write_cmp (filter (stays write) set) write

-- writes in order, with one more that takes the place of what is of the same key or prefix
abbrev pub replaced : List Write → Write → List Write
replaced set write = placed write_cmp (filter (λ w. not (eq_by_cmp write_cmp write w)) set) write

-- new is old with one more write behind all writes of which old is the normal form
pub record Continues (old : List Write) (more : Write) (new : List Write) : Type 0 where
  pub all :
      (writes : List Write) → old ≡ normal_form writes → new ≡ normal_form (writes ++ more ∷ [])
