-- What a store holds after writes, key by key: lemmas for the layers above.
use Rattle.std.proofs.Common.{◌≡◌, ℕ, Bool, true, false, cond, not, ◌&&◌, ◌==◌, List, [], ◌∷◌, map, Option, Some, None, refl, sym, ◌∙◌, ap}
use Rattle.std.specs.Ordering.{nat_cmp, eq_by_cmp}
use Rattle.std.specs.Cmp.{eq_by_cmp_equiv}
use Rattle.std.specs.Cmp.Lexicographic.{slice_cmp, nat_list_cmp_total, texts_ties}
use Rattle.std.specs.FinMap.{get-insert, get-remove, get-retain_keys, same_map, IsAntisymmetric, slice_cmp-IsAntisymmetric, nat_cmp-IsAntisymmetric}
use Rattle.std.specs.FinMap as fin_map
use Rattle.hse_rows.specs.declared.change.Change.{Change}
use Rattle.hse_rows.specs.declared.change.Change.TheVariants.{Put, Del, PDel}
use Rattle.hse_rows.specs.declared.write.Write.{Write}
use Rattle.hse_rows.specs.writes.Change.{covers}
use Rattle.hse_rows.specs.writes.NormalForm.{same}
use Rattle.hse_rows.specs.writes.Reach.{reaches, leaves, touches, left_by}
use Rattle.hse_rows.specs.states.State.{Contents, Store, State, changed, contents_after, contents_after_all, written, applied, applied_all}

byte_order-IsAntisymmetric : IsAntisymmetric (slice_cmp nat_cmp)
byte_order-IsAntisymmetric = slice_cmp-IsAntisymmetric nat_cmp-IsAntisymmetric

-- the test on bytes by the order of keys
same_by_order : (one other : List ℕ) → eq_by_cmp (slice_cmp nat_cmp) one other ≡ same other one
same_by_order one other = (eq_by_cmp_equiv nat_list_cmp_total).symm one other ∙ sym (texts_ties other one)

turned : {A : Type 0} (b : Bool) (x y : A) → cond (not b) x y ≡ cond b y x
turned true x y = refl
turned false x y = refl

-- what a change leaves at a key
pub get-changed : (contents : Contents) (change : Change) (key : List ℕ)
    → fin_map.get (changed contents change) key ≡ cond (reaches change key) (leaves change) (fin_map.get contents key)
get-changed contents (Put own bytes) key =
    get-insert nat_list_cmp_total contents own bytes key
    ∙ ap (λ (b : Bool). cond b (Some bytes) (fin_map.get contents key)) (same_by_order key own)
get-changed contents (Del own) key =
    get-remove nat_list_cmp_total contents own key
    ∙ ap (λ (b : Bool). cond b None (fin_map.get contents key)) (same_by_order key own)
get-changed contents (PDel prefix) key =
    get-retain_keys contents (λ k. not (covers prefix k)) key
    (λ x tied. ap (λ k. not (covers prefix k)) (sym (byte_order-IsAntisymmetric key x tied)))
    ∙ turned (covers prefix key) (fin_map.get contents key) None

pub get-contents_after : (id : ℕ) (contents : Contents) (write : Write) (key : List ℕ)
    → fin_map.get (contents_after id contents write) key ≡ cond (touches id key write) (leaves write.change) (fin_map.get contents key)
get-contents_after id contents write key =
    elim (write.store.0 == id)
    as (λ b. fin_map.get (cond b (changed contents write.change) contents) key
    ≡ cond (b && reaches write.change key) (leaves write.change) (fin_map.get contents key)) [
      | true ↦ get-changed contents write.change key
      | false ↦ refl
    ]

-- A key holds what the last write that touches it leaves there.
pub get-contents_after_all : (id : ℕ) (contents : Contents) (writes : List Write) (key : List ℕ)
    → fin_map.get (contents_after_all id contents writes) key ≡ left_by id key (fin_map.get contents key) writes
get-contents_after_all id contents [] key = refl
get-contents_after_all id contents (write ∷ writes) key =
    get-contents_after_all id (contents_after id contents write) writes key
    ∙ ap (λ (held : Option (List ℕ)). left_by id key held writes) (get-contents_after id contents write key)

-- contents that hold the same at each key are the same
pub same_contents : (one other : Contents) → ((key : List ℕ) → fin_map.get one key ≡ fin_map.get other key) → one ≡ other
same_contents = same_map nat_list_cmp_total byte_order-IsAntisymmetric

-- a store after these writes
abbrev pub written_all : List Write → Store → Store
written_all writes store = record store { contents = contents_after_all store.id store.contents writes }

each_written : (write : Write) (writes : List Write) (stores : List Store)
    → map (written_all writes) (map (written write) stores) ≡ map (written_all (write ∷ writes)) stores
each_written write writes [] = refl
each_written write writes (store ∷ stores) = ap (λ (rest : List Store). written_all (write ∷ writes) store ∷ rest) (each_written write writes stores)

none_written : (stores : List Store) → stores ≡ map (written_all []) stores
none_written [] = refl
none_written (store ∷ stores) = ap (λ (rest : List Store). store ∷ rest) (none_written stores)

-- Writes change each store for itself.
pub applied_all-stores : (state : State) (writes : List Write)
    → applied_all state writes ≡ record { number = state.number; stores = map (written_all writes) state.stores }
applied_all-stores state [] = λ i. record { number = state.number; stores = none_written state.stores i }
applied_all-stores state (write ∷ writes) =
    applied_all-stores (applied state write) writes
    ∙ (λ i. record { number = state.number; stores = each_written write writes state.stores i })
