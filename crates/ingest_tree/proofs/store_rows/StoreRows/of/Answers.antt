use Rattle.std.proofs.Common.{◌≡◌, ◌+◌, suc, length, ap, ◌∙◌, arith}
use Rattle.std.specs.List.{filter}
use Rattle.std.specs.Ordering.{is_lt}
use Rattle.ingest_tree.specs.declared.store_row.StoreRow.{StoreRow}
use Rattle.ingest_tree.specs.Rows.{store_row_cmp}
use Rattle.ingest_tree.specs.StoreRows.{first_at}
use Rattle.ingest_tree.proofs.StoreLemmas.{count-store}
use Rattle.ingest_tree.proofs.store_rows.StoreRows.of.Goals as goal

pub overflow_sub-count : goal.overflow_sub-count
overflow_sub-count c =
    let id = c.args.store.0 in
    let tree = c.args.tree in
    let next : id + 1 ≡ suc id = omega arith in
    let first : c.place-first.result ≡ length (filter (λ r. is_lt (store_row_cmp r (first_at id))) tree) =
    c.place-first.ensures.count ∙ ap (λ (x : StoreRow). length (filter (λ r. is_lt (store_row_cmp r x)) tree)) c.before-2.ensures in
    let last : c.place.result ≡ length (filter (λ r. is_lt (store_row_cmp r (first_at (suc id)))) tree) =
    c.place.ensures.count ∙ ap (λ (x : StoreRow). length (filter (λ r. is_lt (store_row_cmp r x)) tree)) (c.before-3.ensures ∙ ap first_at next) in
    omega (arith, first, last, count-store id tree)

pub invariant_of-result : goal.invariant_of-result
invariant_of-result c =
    let id = c.args.store.0 in
    let tree = c.args.tree in
    let next : id + 1 ≡ suc id = omega arith in
    let first : c.place-first.result ≡ length (filter (λ r. is_lt (store_row_cmp r (first_at id))) tree) =
    c.place-first.ensures.count ∙ ap (λ (x : StoreRow). length (filter (λ r. is_lt (store_row_cmp r x)) tree)) c.before-2.ensures in
    let last : c.place.result ≡ length (filter (λ r. is_lt (store_row_cmp r (first_at (suc id)))) tree) =
    c.place.ensures.count ∙ ap (λ (x : StoreRow). length (filter (λ r. is_lt (store_row_cmp r x)) tree)) (c.before-3.ensures ∙ ap first_at next) in
    record { rising = c.place-first.ensures.rows.rising; first = first; count = omega (arith, first, last, count-store id tree) }
