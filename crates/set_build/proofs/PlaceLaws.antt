-- Each place leads to its value.
use Rattle.std.proofs.Common.{◌≡◌, ℕ, suc, ◌+◌, ◌-◌, ◌^◌, ◌<◌, ◌≤◌, ◌==◌, false, List, [], ◌∷◌, ◌++◌, length, map, Option, Some, refl, sym, ap, ◌∙◌, append_assoc, arith, length-append}
use Rattle.std.specs.List.{AllByRecursion, flat_map, slice_get, sum_by}
use Rattle.std.proofs.lemmas.List.Sums.{sum_by-cons}
use Rattle.sorted_lists.specs.laws.Lists.{each-append}
use Rattle.std.proofs.lemmas.Bool.{eq-eqb, ne_eqb}
use Rattle.std.proofs.lemmas.List.{map-append, append-nil}
use Rattle.hse_fields.specs.LogText.{sized}
use Rattle.hse_fields.specs.BlockText.{header_size, values_text, value_from}
use Rattle.set_build.specs.SetText.{value_bytes, value_place, value_blocks_of, places_in, places_of}
use Rattle.hse_rows.specs.rows.Packing.{header_bytes}
use Rattle.set_build.proofs.FilledLemmas.{filled-flat}
use Rattle.set_build.proofs.ValuePacking.{one-long}
use Rattle.set_build.proofs.FormLaws.{FitsBlock}
use Rattle.kvset.specs.Rows.{value_in, value_of}
use Rattle.set_build.specs.Reading.{CanBeSaid}

-- behind these values begins the next one
past : (start : ℕ) (us ws : List (List ℕ)) (at len : ℕ) → at ≡ start + length (values_text us)
    → value_from start (us ++ ws) at len ≡ value_from at ws at len
past start [] ws at len is = ap (λ (s : ℕ). value_from s ws at len) (omega (arith, is))
past start (u ∷ us) ws at len is =
    let far : at ≡ start + (4 + length u) + length (values_text us) = omega (arith, is, one-long u, length-append (sized 4 u) (values_text us)) in
    let apart : (start == at) ≡ false = ne_eqb start at (λ same. omega (arith, same, far)) in
    rw apart (past (start + (4 + length u)) us ws at len far)

here : (at : ℕ) (v : List ℕ) (ws : List (List ℕ)) → value_from at (v ∷ ws) at (length v) ≡ Some v
here at v ws = rw (eq-eqb at at refl, eq-eqb (length v) (length v) refl) refl

text-more : (us : List (List ℕ)) (v : List ℕ) → length (values_text (us ++ v ∷ [])) ≡ length (values_text us) + value_bytes v
text-more [] v = omega (arith, ap length (append-nil (sized 4 v)))
text-more (u ∷ us) v = omega (arith, text-more us v, length-append (sized 4 u) (values_text (us ++ v ∷ [])), length-append (sized 4 u) (values_text us))

in-block : (all : List (List (List ℕ))) (number : ℕ) (us vs : List (List ℕ)) (at : ℕ) → slice_get all number ≡ Some (us ++ vs)
    → at ≡ header_size + length (values_text us) → map (value_of all) (places_in number at vs) ≡ map (λ (v : List ℕ). Some v) vs
in-block all number us [] at got is = refl
in-block all number us (v ∷ vs) at got is =
    let first : value_of all (value_place number at (length v)) ≡ Some v =
    ap (λ (b : Option (List (List ℕ))). value_in b (value_place number at (length v))) got
    ∙ past header_size us (v ∷ vs) at (length v) is
    ∙ here at v vs in
    let regrouped : us ++ v ∷ vs ≡ (us ++ v ∷ []) ++ vs = sym (append_assoc us (v ∷ []) vs) in
    let next : at + value_bytes v ≡ header_size + length (values_text (us ++ v ∷ [])) =
    omega (arith, is, text-more us v) in
    ap (λ (o : Option (List ℕ)). o ∷ map (value_of all) (places_in number (at + value_bytes v) vs)) first
    ∙ ap (λ (l : List (Option (List ℕ))). Some v ∷ l) (in-block all number (us ++ v ∷ []) vs (at + value_bytes v) (got ∙ ap (λ (l : List (List ℕ)). Some l) regrouped) next)

got-behind : {X : Type 0} (front : List X) (x : X) (rest : List X) → slice_get (front ++ x ∷ rest) (length front) ≡ Some x
got-behind [] x rest = refl
got-behind (f ∷ front) x rest = got-behind front x rest

pub in-blocks : (front rest : List (List (List ℕ))) (number : ℕ) → number ≡ length front
    → map (value_of (front ++ rest)) (places_of number rest) ≡ map (λ (v : List ℕ). Some v) (flat_map (λ (b : List (List ℕ)). b) rest)
in-blocks front [] number is = refl
in-blocks front (b ∷ rest) number is =
    let all = front ++ b ∷ rest in
    let look = value_of all in
    let regrouped : all ≡ (front ++ b ∷ []) ++ rest = sym (append_assoc front (b ∷ []) rest) in
    let got : slice_get all number ≡ Some b = ap (slice_get all) is ∙ got-behind front b rest in
    map-append look (places_in number header_size b) (places_of (suc number) rest)
    ∙ ap (λ (l : List (Option (List ℕ))). l ++ map look (places_of (suc number) rest)) (in-block all number [] b header_size got refl)
    ∙ ap (λ (l : List (Option (List ℕ))). map (λ (v : List ℕ). Some v) b ++ l) (
    ap (λ (l : List (List (List ℕ))). map (value_of l) (places_of (suc number) rest)) regrouped
    ∙ in-blocks (front ++ b ∷ []) rest (suc number) (omega (arith, is, length-append front (b ∷ [])))
    )
    ∙ sym (map-append (λ (v : List ℕ). Some v) b (flat_map (λ (l : List (List ℕ)). l) rest))

pub values-placed : (slot : ℕ) (values : List (List ℕ))
    → map (value_of (value_blocks_of slot values)) (places_of 0 (value_blocks_of slot values)) ≡ map (λ (v : List ℕ). Some v) values
values-placed slot values =
    in-blocks [] (value_blocks_of slot values) 0 refl
    ∙ ap (map (λ (v : List ℕ). Some v)) (filled-flat value_bytes (slot - header_bytes) values)

-- ---- each place can be said in its fields

in-block-says : (slot number at : ℕ) (vs : List (List ℕ)) → slot ≤ 2 ^ 25 → number < 2 ^ 32 → at + sum_by value_bytes vs ≤ slot
    → AllByRecursion CanBeSaid (places_in number at vs)
in-block-says slot number at [] small few fits = tt
in-block-says slot number at (v ∷ vs) small few fits =
    let sum : sum_by value_bytes (v ∷ vs) ≡ value_bytes v + sum_by value_bytes vs = sum_by-cons value_bytes v vs in (
      (few, omega (arith, fits, sum, one-long v, small), omega (arith, fits, sum, one-long v, small)),
      in-block-says slot number (at + value_bytes v) vs small few (omega (arith, fits, sum)),
    )

pub places-say : (slot number : ℕ) (blocks : List (List (List ℕ))) → 2 ^ 16 ≤ slot → slot ≤ 2 ^ 25 → number + length blocks ≤ 2 ^ 32
    → AllByRecursion (FitsBlock value_bytes (slot - header_bytes)) blocks → AllByRecursion CanBeSaid (places_of number blocks)
places-say slot number [] large small few fit = tt
places-say slot number (b ∷ bs) large small few fit =
    each-append CanBeSaid (places_in number header_size b) (places_of (suc number) bs)
    (in-block-says slot number header_size b small (omega (arith, few)) (omega (arith, fit.0.fits, large)))
    (places-say slot (suc number) bs large small (omega (arith, few)) fit.1)
