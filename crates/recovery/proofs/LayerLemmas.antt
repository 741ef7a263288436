-- What the active layer of a log holds and means.
use Rattle.std.proofs.Common.{◌≡◌, ◌∙◌, ℕ, ◌+◌, ◌<◌, ◌≤◌, List, [], ◌∷◌, ◌++◌, map, refl, sym, ap, subst, arith}
use Rattle.std.specs.List.{AllByRecursion}
use Rattle.std.specs.List.Sorted.{IsStrictlySortedBy}
use Rattle.hse_fields.specs.LogText.{Entry}
use Rattle.hse_fields.specs.LogReading.{Follow}
use Rattle.hse_rows.specs.declared.change.Change.{Change}
use Rattle.hse_rows.specs.declared.change.Change.TheVariants.{Put, Del, PDel}
use Rattle.hse_rows.specs.declared.store.StoreId.{StoreId}
use Rattle.hse_rows.specs.declared.write.Write.{Write}
use Rattle.hse_rows.specs.writes.Change.{write_of}
use Rattle.hse_rows.specs.writes.NormalForm.{write_cmp}
use Rattle.hse_rows.specs.rows.Meaning.{contents_of}
use Rattle.hse_rows.specs.states.State.{Contents, contents_after, contents_after_all}
use Rattle.ingest_tree.specs.declared.store_row.StoreRow.{StoreRow}
use Rattle.ingest_tree.specs.Rows.{rows_in, rows_with, store_row, row_numbered}
use Rattle.sorted_lists.specs.laws.Lists.{each-last, each-weaker}
use Rattle.view.specs.Commits.{with_writes}
use Rattle.view.specs.Laws.{LayersTakeWrites}
use Rattle.view.specs.Layers.{each-with}
use Rattle.wal.specs.Logged.{logged_all, logged_change}
use Rattle.wal.specs.Numbering.{Numbers, numbering}
use Rattle.wal.specs.declared.live.StorePrefix.{StorePrefix}
use Rattle.wal.specs.laws.Free.{free_least}
use Rattle.wal.specs.laws.Numbering.{came, number_is}
use Rattle.recovery.specs.Layer.{IsLayerOf, IsOrderly, layer_after, layer_with, writes_of}
use Rattle.recovery.specs.Stored.{write_in, writes_in}

-- ---- one commit more

write_back : (store : StoreId) (change : Change) → write_in (logged_change store.0 change) ≡ write_of store change
write_back store (Put key value) = refl
write_back store (Del key) = refl
write_back store (PDel prefix) = refl

-- the writes of a commit are those of its entry
writes_back : (writes : List Write) → map write_in (logged_all writes) ≡ writes
writes_back [] = refl
writes_back (w ∷ ws) = λ i. write_back w.store w.change i ∷ writes_back ws i

after_more : (layer : List StoreRow) (entries : List Entry) (e : Entry) → layer_after layer (entries ++ e ∷ []) ≡ layer_with (layer_after layer entries) e
after_more layer [] e = refl
after_more layer (x ∷ entries) e = after_more (layer_with layer x) entries e

pub one_more : (entries : List Entry) (layer new : List StoreRow) (number : ℕ) (writes : List Write) → IsLayerOf entries layer
    → IsStrictlySortedBy write_cmp writes → new ≡ with_writes number layer writes
    → IsLayerOf (entries ++ record { number = number; changes = logged_all writes } ∷ []) new
one_more entries layer new number writes is rise made =
    let e : Entry = record { number = number; changes = logged_all writes } in
    record {
      rows = made ∙ (λ i. with_writes number (is.rows i) (sym (writes_back writes) i)) ∙ sym (after_more [] entries e);
      orderly = each-last IsOrderly entries e is.orderly (subst (IsStrictlySortedBy write_cmp) (sym (writes_back writes)) rise);
    }

-- ---- numbers

abbrev Below : ℕ → StoreRow → Type 0
Below number row = row.row.number < number

written_each : (number bound : ℕ) (writes : List Write) (layer : List StoreRow) → number < bound → AllByRecursion (Below bound) layer
    → AllByRecursion (Below bound) (with_writes number layer writes)
written_each number bound [] layer lt all = all
written_each number bound (w ∷ ws) layer lt all =
    written_each number bound ws (rows_with layer (store_row w.store (row_numbered number w.change))) lt
    (each-with (Below bound) layer (store_row w.store (row_numbered number w.change)) all lt)

-- what is known of an entry that follows
record Comes (state after : Numbers) (e : Entry) : Type 0 where
  least : state.next ≤ e.number
  next : e.number + 1 ≡ after.next

comes : (live : List StorePrefix) (state last : Numbers) (e : Entry) (es : List Entry) (follow : Follow (numbering live) state (e ∷ es) last)
    → Comes state follow.1 e
comes live state last e es follow =
    let number = number_is state e.number follow.0 in
    record { least = omega (arith, number, free_least state.next state.taken); next = ap (λ (n : Numbers). n.next) (came state follow.1 e follow.2).is }

-- The next number is above those of all rows.
pub all_below : (live : List StorePrefix) (state last : Numbers) (es : List Entry) → Follow (numbering live) state es last
    → (layer : List StoreRow) → AllByRecursion (Below state.next) layer → AllByRecursion (Below last.next) (layer_after layer es)
all_below live state last [] follow layer all = subst (λ (n : Numbers). AllByRecursion (Below n.next) layer) follow all
all_below live state last (e ∷ es) follow layer all =
    let one = comes live state last e es follow in
    all_below live follow.1 last es follow.3 (layer_with layer e)
    (written_each e.number follow.1.next (writes_of e) layer (omega (arith, one.next))
    (each-weaker (λ (row : StoreRow) lt. omega (arith, lt, one.least, one.next)) layer all))

-- ---- meaning

after_all : (id : ℕ) (contents : Contents) (ws others : List Write)
    → contents_after_all id contents (ws ++ others) ≡ contents_after_all id (contents_after_all id contents ws) others
after_all id contents [] others = refl
after_all id contents (w ∷ ws) others = after_all id (contents_after id contents w) ws others

-- A store's rows in the layer mean what the entries leave in it.
pub layer_means : LayersTakeWrites → (live : List StorePrefix) (id : ℕ) (state last : Numbers) (es : List Entry)
    → Follow (numbering live) state es last → AllByRecursion IsOrderly es → (layer : List StoreRow) → AllByRecursion (Below state.next) layer
    → contents_of (rows_in id (layer_after layer es) ++ []) ≡ contents_after_all id (contents_of (rows_in id layer ++ [])) (writes_in es)
layer_means take live id state last [] follow orderly layer all = refl
layer_means take live id state last (e ∷ es) follow orderly layer all =
    let one = comes live state last e es follow in
    let behind : AllByRecursion (Below follow.1.next) (layer_with layer e) =
    written_each e.number follow.1.next (writes_of e) layer (omega (arith, one.next))
    (each-weaker (λ (row : StoreRow) lt. omega (arith, lt, one.least, one.next)) layer all) in
    layer_means take live id follow.1 last es follow.3 orderly.1 (layer_with layer e) behind
    ∙ ap (λ (c : Contents). contents_after_all id c (writes_in es))
    (take layer (writes_of e) e.number id [] orderly.0 (each-weaker (λ (row : StoreRow) lt. omega (arith, lt, one.least)) layer all) tt)
    ∙ sym (after_all id (contents_of (rows_in id layer ++ [])) (writes_of e) (writes_in es))
