-- The active layer with one write more.
use Rattle.std.proofs.Common.{◌≡◌, refl, ap, ◌∙◌, ℕ, suc, List, [], ◌∷◌, ◌++◌, take, slice_get, Some, None}
use Rattle.std.proofs.Math.Seq.{take-suc}
use Rattle.std.proofs.lemmas.Option.{slice_get_within, get_or_from_slice_get}
use Rattle.hse_rows.specs.declared.write.Write.{Write}
use Rattle.ingest_tree.specs.declared.store_row.StoreRow.{StoreRow}
use Rattle.ingest_tree.specs.Rows.{store_row, row_numbered, rows_with}
use Rattle.view.specs.Commits.{with_writes, active_of}

pub with_writes-push : (number : ℕ) (layer : List StoreRow) (writes : List Write) (write : Write)
    → with_writes number layer (writes ++ write ∷ []) ≡ rows_with (with_writes number layer writes) (store_row write.store (row_numbered number write.change))
with_writes-push number layer [] write = refl
with_writes-push number layer (one ∷ writes) write =
    with_writes-push number (rows_with layer (store_row one.store (row_numbered number one.change))) writes write

pub with_writes-more : (number : ℕ) (layer : List StoreRow) (writes : List Write) (place : ℕ) (write : Write)
    → slice_get writes place ≡ Some write
    → with_writes number layer (take (suc place) writes) ≡ rows_with (with_writes number layer (take place writes)) (store_row write.store (row_numbered number write.change))
with_writes-more number layer writes place write at =
    ap (with_writes number layer)
    (take-suc writes place write (slice_get_within writes place write at)
    ∙ ap (λ (w : Write). take place writes ++ w ∷ []) (get_or_from_slice_get writes place write write at))
    ∙ with_writes-push number layer (take place writes) write

pub active-is : (layers : List (List StoreRow)) (layer : List StoreRow) → Some layer ≡ slice_get layers 0 → layer ≡ active_of layers
active-is [] layer is = absurd (let e : Some layer ≡ None = is in cc)
active-is (one ∷ layers) layer is = let e : Some layer ≡ Some one = is in cc

pub active-none : (layers : List (List StoreRow)) → None ≡ slice_get layers 0 → active_of layers ≡ []
active-none [] is = refl
active-none (one ∷ layers) is = absurd (let e : None ≡ Some one = is in cc)
