-- A normal form does to a state what the writes do.
use Rattle.std.proofs.Common.{◌≡◌, ℕ, List, map, sym, ◌∙◌}
use Rattle.std.specs.FinMap as fin_map
use Rattle.hse_rows.specs.declared.write.Write.{Write}
use Rattle.hse_rows.specs.writes.NormalForm.{normal_form}
use Rattle.hse_rows.specs.states.State.{Contents, Store, State, contents_after_all, applied_all}
use Rattle.hse_rows.specs.laws.Holding.{get-contents_after_all, same_contents, applied_all-stores}
use Rattle.hse_rows.proofs.EffectLemmas.{left_by-normal_form}

pub contents-normal_form : (id : ℕ) (contents : Contents) (writes : List Write)
    → contents_after_all id contents (normal_form writes) ≡ contents_after_all id contents writes
contents-normal_form id contents writes =
    same_contents _ _ (λ key. get-contents_after_all id contents (normal_form writes) key
    ∙ left_by-normal_form id key (fin_map.get contents key) writes
    ∙ sym (get-contents_after_all id contents writes key))

-- Applying a normal form does what applying the writes does.
pub normal_form_does_the_same : (state : State) (writes : List Write) → applied_all state (normal_form writes) ≡ applied_all state writes
normal_form_does_the_same state writes =
    let same_store = λ (store : Store) (c : Contents). let s : Store = record store { contents = c } in s in
    applied_all-stores state (normal_form writes)
    ∙ (λ i. record {
      number = state.number;
      stores = map (λ (store : Store). same_store store (contents-normal_form store.id store.contents writes i)) state.stores;
    })
    ∙ sym (applied_all-stores state writes)
