-- Own rows with one more mean the writes with one more.
use Rattle.std.proofs.Common.{◌≡◌, ℕ, ◌<◌, ◌≤◌, ◌==◌, true, false, true≢false, cond, ◌||◌, ◌&&◌, List, [], ◌∷◌, ◌++◌, length, map, None, refl, sym, ap, ◌∙◌, subst, arith}
use Rattle.std.proofs.lemmas.Bool.{eq-eqb}
use Rattle.std.proofs.lemmas.Bool.Decides.{nat_tests}
use Rattle.std.proofs.lemmas.List.{take_all}
use Rattle.std.specs.Ordering.{nat_cmp, is_lt, ordering_then}
use Rattle.std.specs.List.{AllByRecursion, filter}
use Rattle.std.specs.List.Sorted.{IsStrictlySortedBy}
use Rattle.std.specs.Cmp.Lexicographic.{nat_list_eq_equiv}
use Rattle.hse_rows.specs.declared.change.Change.{Change}
use Rattle.hse_rows.specs.declared.change.Change.TheVariants.{Put, Del, PDel}
use Rattle.hse_rows.specs.declared.row.Row.{Row}
use Rattle.hse_rows.specs.declared.store.Mode.TheVariants.{Plain}
use Rattle.hse_rows.specs.declared.write.Write.{Write}
use Rattle.hse_rows.specs.writes.Change.{covers}
use Rattle.hse_rows.specs.writes.NormalForm.{rank, same, normal_form}
use Rattle.hse_rows.specs.writes.Overlap.{meets, overlaps, overlaps_some}
use Rattle.hse_rows.specs.rows.Meaning.{contents_of}
use Rattle.hse_rows.specs.states.State.{Contents, Store, State, contents_after, contents_after_all}
use Rattle.hse_rows.specs.laws.Holding.{applied_all-stores}
use Rattle.hse_rows.specs.laws.Laws.{NormalFormsDoTheSame, NormalFormsOverlapTheSame}
use Rattle.row_laws.specs.Step.{AppliesLast}
use Rattle.ingest_tree.specs.declared.store_row.StoreRow.{StoreRow}
use Rattle.ingest_tree.specs.Rows.{store_row, row_numbered, rows_in, rows_with, AreRising}
use Rattle.sorted_lists.specs.laws.Lists.{each-weaker}
use Rattle.sorted_lists.specs.laws.Orders.{rising-replaced}
use Rattle.view.specs.declared.get_fault.TxnState.TheVariants.{Active}
use Rattle.view.specs.Views.{ViewState}
use Rattle.view.specs.Laws.{LayersTakeRows}
use Rattle.view.specs.Layers.{store_row_order, each-with}
use Rattle.transactions.specs.Txns.{TxnKept, StagedState, own_rows, with_staged, MeansWrites, IsTxn}
use Rattle.transactions.specs.Stages.{IsStage}

-- ---- writes

after-last : (id : ℕ) (contents : Contents) (writes : List Write) (write : Write)
    → contents_after_all id contents (writes ++ write ∷ []) ≡ contents_after id (contents_after_all id contents writes) write
after-last id contents [] write = refl
after-last id contents (first ∷ writes) write = after-last id (contents_after id contents first) writes write

-- a state of one store
abbrev alone : ℕ → Contents → State
alone id contents = record { number = 0; stores = record { id = id; name = []; mode = Plain; prefix_length = 0; contents = contents } ∷ [] }

abbrev held : Contents → List Store → Contents
held contents [] = contents
held contents (store ∷ stores) = store.contents

-- a normal form does to a store what its writes do
pub after-normal : NormalFormsDoTheSame → (id : ℕ) (contents : Contents) (writes : List Write)
    → contents_after_all id contents (normal_form writes) ≡ contents_after_all id contents writes
after-normal law id contents writes =
    ap (λ (s : State). held contents s.stores)
    (sym (applied_all-stores (alone id contents) (normal_form writes)) ∙ law (alone id contents) writes ∙ applied_all-stores (alone id contents) writes)

meets-itself : (change : Change) → meets change change ≡ true
meets-itself (Put key bytes) = nat_list_eq_equiv.refl key
meets-itself (Del key) = nat_list_eq_equiv.refl key
meets-itself (PDel prefix) =
    let whole : covers prefix prefix ≡ true =
    ap (same prefix) (take_all (length prefix) prefix (let up : length prefix ≤ length prefix = omega arith in up)) ∙ nat_list_eq_equiv.refl prefix in
    ap (λ b. b || covers prefix prefix) whole

overlaps-last : (write : Write) (writes : List Write) → overlaps_some write (writes ++ write ∷ []) ≡ true
overlaps-last write [] =
    ap (λ b. b || false) ((λ i. eq-eqb write.store.0 write.store.0 refl i && meets-itself write.change i))
overlaps-last write (first ∷ writes) =
    elim (overlaps write first) as (λ b. (b || overlaps_some write (writes ++ write ∷ [])) ≡ true)
    [ true ↦ refl | false ↦ overlaps-last write writes ]

-- a normal form of some writes is not empty
some-normal : NormalFormsOverlapTheSame → (write : Write) (writes : List Write) → normal_form (writes ++ write ∷ []) ≡ [] → ⊥
some-normal law write writes none =
    true≢false (sym (overlaps-last write writes) ∙ sym (law write (writes ++ write ∷ [])) ∙ ap (overlaps_some write) none)

-- ---- one more

-- rows with lesser numbers apply before
older : (m n a b : ℕ) → n < m → is_lt (ordering_then (nat_cmp m n) (nat_cmp a b)) ≡ false
older m n a b less = grind (arith, nat_tests, less)

all-older : (last : ℕ) (change : Change) (id : ℕ) (rows : List StoreRow) → AllByRecursion (λ (row : StoreRow). row.row.number < last) rows
    → AppliesLast (rows_in id rows) (row_numbered last change)
all-older last change id [] all = tt
all-older last change id (row ∷ rows) all =
    elim (row.store.0 == id)
    as (λ b. AppliesLast (map (λ (r : StoreRow). r.row) (cond b (row ∷ filter (λ (r : StoreRow). r.store.0 == id) rows) (filter (λ (r : StoreRow). r.store.0 == id) rows))) (row_numbered last change))
    [ true ↦ (older last row.row.number (rank change) (rank row.row.change) all.0, all-older last change id rows all.1) | false ↦ all-older last change id rows all.1 ]

module _ (take : LayersTakeRows) (same_writes : NormalFormsDoTheSame) where
  means-more : (number last : ℕ) (own : List StoreRow) (writes : List Write) (write : Write)
      → number < last → AllByRecursion (λ (row : StoreRow). row.row.number < last) own → MeansWrites number own writes
      → MeansWrites number (rows_with own (store_row write.store (row_numbered last write.change))) (normal_form (writes ++ write ∷ []))
  means-more number last own writes write high below means id rows low =
      take own write last id rows (all-older last write.change id own below)
      (each-weaker (λ (row : Row) up. omega (arith, up, high)) rows low)
      ∙ ap (λ contents. contents_after id contents write) (means id rows low)
      ∙ sym (after-last id (contents_of rows) writes write)
      ∙ sym (after-normal same_writes id (contents_of rows) (writes ++ write ∷ []))

  -- what was staged from a transaction may be kept
  pub kept-stands : {R : Type 0} (txn : TxnKept R) (write : Write) (staged : StagedState) → NormalFormsOverlapTheSame
      → IsTxn txn → IsStage txn write staged → IsTxn (with_staged txn staged)
  kept-stands txn write staged overlap is stage =
      let low = is.low in
      let last = stage.last in
      let row = store_row write.store (row_numbered staged.last write.change) in
      let high : txn.view.number < staged.last = omega (arith, low, last) in
      record {
        has = λ none. some-normal overlap write txn.writes (sym stage.writes ∙ none);
        rising = subst AreRising (sym stage.own) (rising-replaced store_row_order (own_rows txn.own) row is.rising);
        low = omega (arith, high);
        newer = subst (AllByRecursion _) (sym stage.own) (each-with (λ r. txn.view.number < r.row.number) (own_rows txn.own) row is.newer high);
        within = subst (AllByRecursion _) (sym stage.own)
            (each-with (λ r. r.row.number ≤ staged.last) (own_rows txn.own) row
            (each-weaker (λ (r : StoreRow) up. omega (arith, up, last)) (own_rows txn.own) is.within) (omega arith));
        means = subst (λ own. MeansWrites txn.view.number own staged.writes) (sym stage.own)
            (subst (MeansWrites txn.view.number (rows_with (own_rows txn.own) row)) (sym stage.writes)
            (means-more txn.view.number staged.last (own_rows txn.own) txn.writes write high
            (each-weaker (λ (r : StoreRow) up. omega (arith, up, last)) (own_rows txn.own) is.within) is.means));
      }

none-rising : AreRising []
unfolding IsStrictlySortedBy
none-rising = tt

-- a new transaction stands
pub new-stands : {R : Type 0} (id : ℕ) (view : ViewState R) (writes : List Write) (last : ℕ) → writes ≡ [] → last ≡ view.number
    → IsTxn (record { id = id; state = Active; view = view; writes = writes; own = None; last = last })
new-stands id view writes last none same_number = record {
  has = none;
  rising = none-rising;
  low = omega (arith, same_number);
  newer = tt;
  within = tt;
  means = λ id rows low. sym (ap (contents_after_all id (contents_of rows)) none);
}
