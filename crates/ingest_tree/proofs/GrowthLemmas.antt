-- What becomes of a node whose part takes one more row.
use Rattle.std.proofs.Common.{◌≡◌, ℕ, zero, suc, ◌+◌, ◌<◌, ◌≤◌, ◌⊎◌, inl, inr, List, [], ◌∷◌, ◌++◌, length, get_or, take, drop, Option, Some, None, refl, ap, sym, ◌∙◌, subst, arith, append-nil}
use Rattle.std.proofs.lemmas.Grind.{flat_map-append}
use Rattle.std.proofs.lemmas.List.{length-append}
use Rattle.std.specs.List.{AllByRecursion, flat_map}
use Rattle.sorted_lists.specs.laws.Lists.{each-append, each-front, each-rest}
use Rattle.ingest_tree.specs.declared.store_row.StoreRow.{StoreRow}
use Rattle.ingest_tree.specs.Parts.{parts_of, grown_at, Stand, Grows, IsSoundNode, IsFilledNode, IsFinished, IsInOrder}
use Rattle.ingest_tree.specs.laws.Filling.{all-stand, stand-all}

pub few-or : (m n : ℕ) → (m ≤ n) ⊎ (n < m)
few-or zero n = inl (omega arith)
few-or (suc m) zero = inr (omega arith)
few-or (suc m) (suc n) = next (few-or m n)
  where
    next : (m ≤ n) ⊎ (n < m) → (suc m ≤ suc n) ⊎ (suc n < suc m)
    next (inl low) = inl (omega arith)
    next (inr high) = inr (omega arith)

module _ {X : Type 0} where
  length-taken : (ps : List X) (i : ℕ) → i < length ps → length (take i ps) + suc (length (drop (suc i) ps)) ≡ length ps
  length-taken [] i in' = absurd (omega arith)
  length-taken (p ∷ ps) zero in' = omega arith
  length-taken (p ∷ ps) (suc i) in' = let rest = length-taken ps i (omega arith) in omega (arith, rest)

  pub length-grown : (ps : List X) (i : ℕ) (part : X) (other : Option X) → i < length ps
      → suc (length (grown_at i ps part other)) ≡ length ps + length (parts_of part other)
  length-grown ps i part other in' =
      let whole = length-taken ps i in' in
      let one = length-append (take i ps ++ parts_of part other) (drop (suc i) ps) in
      let two = length-append (take i ps) (parts_of part other) in
      omega (arith, whole, one, two)

  pub some-parts : (part : X) (other : Option X) → (length (parts_of part other) ≡ 1) ⊎ (length (parts_of part other) ≡ 2)
  some-parts part None = inl refl
  some-parts part (Some other) = inr refl

  pub most-parts : (part : X) (other : Option X) → length (parts_of part other) ≤ 2
  most-parts part None = omega arith
  most-parts part (Some other) = omega arith

  pub some-part : (part : X) (other : Option X) → 1 ≤ length (parts_of part other)
  some-part part None = omega arith
  some-part part (Some other) = omega arith

  none : (xs : List X) → length xs ≡ 0 → xs ≡ []
  none [] is = refl
  none (x ∷ xs) is = absurd (omega (arith, is))

  -- where all have room among the first parts there are no others
  pub no-second : (first second : List X) (cut : ℕ) → IsInOrder first second cut → length first + length second ≤ cut → second ≡ []
  no-second first second cut in_order few = by (few-or cut (length first))
    where
      by : (cut ≤ length first) ⊎ (length first < cut) → second ≡ []
      by (inl full) = none second (omega (arith, full, few))
      by (inr room) = in_order.1 room

  pub only-first : (first second all : List X) (cut : ℕ) → IsInOrder first second cut → first ++ second ≡ all → length all ≤ cut → first ≡ all
  only-first first second all cut in_order items few =
      let sum = length-append first second in
      let same = ap length items in
      sym (append-nil first) ∙ ap (λ l. first ++ l) (sym (no-second first second cut in_order (omega (arith, sum, same, few)))) ∙ items

  -- a root takes all parts
  pub all-first : (ps : List X) (i : ℕ) (part : X) (other : Option X) (first second : List X) (cut : ℕ) → i < length ps
      → first ++ second ≡ grown_at i ps part other → IsInOrder first second cut → cut ≡ length ps + 1 → first ≡ grown_at i ps part other
  all-first ps i part other first second cut in' items in_order room =
      let all = length-grown ps i part other in' in
      let most = most-parts part other in
      only-first first second (grown_at i ps part other) cut in_order items (omega (arith, all, most, room))

-- the rows of the nodes that were finished
pub finished-rows : {X : Type 0} (rows : X → List StoreRow) (first second node : List X) (other : Option (List X)) → IsFinished first second node other
    → flat_map (λ n. flat_map rows n) (parts_of node other) ≡ flat_map rows (first ++ second)
finished-rows rows first second node None is =
    append-nil (flat_map rows node) ∙ ap (flat_map rows) (is.0 ∙ sym (append-nil first) ∙ ap (λ l. first ++ l) (sym is.1))
finished-rows rows first second node (Some other) is =
    (λ i. flat_map rows (is.0 i) ++ append-nil (flat_map rows (is.1 i)) i) ∙ sym (flat_map-append rows first second)

module _ {X : Type 0} (filled sound : X → Type 0) (is_sound : (part : X) → filled part → sound part) where
  each-taken : (ps : List X) (i : ℕ) → AllByRecursion filled ps → AllByRecursion filled (take i ps)
  each-taken ps zero all = tt
  each-taken [] (suc i) all = tt
  each-taken (p ∷ ps) (suc i) all = (all.0, each-taken ps i all.1)

  each-dropped : (ps : List X) (i : ℕ) → AllByRecursion filled ps → AllByRecursion filled (drop i ps)
  each-dropped ps zero all = all
  each-dropped [] (suc i) all = tt
  each-dropped (p ∷ ps) (suc i) all = each-dropped ps i all.1

  each-got : (ps : List X) (i : ℕ) (d : X) → i < length ps → AllByRecursion filled ps → filled (get_or ps i d)
  each-got [] i d in' all = absurd (omega arith)
  each-got (p ∷ ps) zero d in' all = all.0
  each-got (p ∷ ps) (suc i) d in' all = each-got ps i d (omega arith) all.1

  grown-all : (old part : X) (other : Option X) → filled old → Grows filled sound old part other → AllByRecursion filled (parts_of part other)
  grown-all old part None full grows = (grows.1 full, tt)
  grown-all old part (Some other) full grows = (grows.0, (grows.1, tt))

  -- filled parts stay so
  all-grown : (ps : List X) (i : ℕ) (d part : X) (other : Option X) → i < length ps → AllByRecursion filled ps
      → Grows filled sound (get_or ps i d) part other → AllByRecursion filled (grown_at i ps part other)
  all-grown ps i d part other in' all grows =
      each-append filled (take i ps ++ parts_of part other) (drop (suc i) ps)
      (each-append filled (take i ps) (parts_of part other) (each-taken ps i all)
      (grown-all (get_or ps i d) part other (each-got ps i d in' all) grows))
      (each-dropped ps (suc i) all)

  lone : (p part : X) (other : Option X) → Stand filled sound (p ∷ []) → Grows filled sound p part other → Stand filled sound (grown_at 0 (p ∷ []) part other)
  lone p part None stand grows = grows.0
  lone p part (Some other) stand grows = (grows.0, (grows.1, tt))

  -- parts that stand stand on
  pub stand-grown : (ps : List X) (i : ℕ) (d part : X) (other : Option X) → i < length ps → Stand filled sound ps
      → Grows filled sound (get_or ps i d) part other → Stand filled sound (grown_at i ps part other)
  stand-grown [] i d part other in' stand grows = absurd (omega arith)
  stand-grown (p ∷ []) zero d part other in' stand grows = lone p part other stand grows
  stand-grown (p ∷ []) (suc i) d part other in' stand grows = absurd (omega arith)
  stand-grown (p ∷ q ∷ ps) i d part other in' stand grows =
      by (some-parts part other)
    where
      whole : (length (parts_of part other) ≡ 1) ⊎ (length (parts_of part other) ≡ 2) → 1 < length (grown_at i (p ∷ q ∷ ps) part other)
      whole (inl one) = let all = length-grown (p ∷ q ∷ ps) i part other in' in omega (arith, one, all)
      whole (inr two) = let all = length-grown (p ∷ q ∷ ps) i part other in' in omega (arith, two, all)

      by : (length (parts_of part other) ≡ 1) ⊎ (length (parts_of part other) ≡ 2) → Stand filled sound (grown_at i (p ∷ q ∷ ps) part other)
      by some =
          all-stand filled sound is_sound (grown_at i (p ∷ q ∷ ps) part other) (whole some)
          (all-grown (p ∷ q ∷ ps) i d part other in' stand grows)

  -- a node whose part takes one more row, built anew
  module _ (ps : List X) (i : ℕ) (d part : X) (other : Option X) (first second : List X) (cut : ℕ) (in' : i < length ps)
      (sound_node : IsSoundNode filled sound ps) (grows : Grows filled sound (get_or ps i d) part other)
      (items : first ++ second ≡ grown_at i ps part other) (in_order : IsInOrder first second cut)
      (whole : length ps + length (parts_of part other) ≤ 129 → cut ≡ 128)
      (halves : 129 < length ps + length (parts_of part other) → cut ≡ 64) where
    total : length first + length second + 1 ≡ length ps + length (parts_of part other)
    total =
        let all = length-grown ps i part other in' in
        let sum = length-append first second in
        let same = ap length items in
        omega (arith, all, sum, same)

    empty-length : {xs : List X} → xs ≡ [] → length xs ≡ 0
    empty-length is = ap length is

    stand : Stand filled sound (first ++ second)
    stand = subst (Stand filled sound) (sym items) (stand-grown ps i d part other in' sound_node.1 grows)

    few-whole : cut ≤ 128
    few-whole = by (few-or (length ps + length (parts_of part other)) 129)
      where
        by : (length ps + length (parts_of part other) ≤ 129) ⊎ (129 < length ps + length (parts_of part other)) → cut ≤ 128
        by (inl few) = let is = whole few in omega (arith, is)
        by (inr many) = let is = halves many in omega (arith, is)

    one-node : second ≡ [] → (length first ≤ 128) × (suc (length first) ≡ length ps + length (parts_of part other))
    one-node is =
        let sum = total in
        let low = in_order.0 in
        let most = few-whole in
        let empty = empty-length is in
        (omega (arith, low, most), omega (arith, sum, empty))

    two-nodes : 0 < length second → (64 ≤ length first) × (length first ≤ 128) × (64 ≤ length second) × (length second ≤ 128)
    two-nodes some = by (few-or (length ps + length (parts_of part other)) 129) (few-or cut (length first))
      where
        by : (length ps + length (parts_of part other) ≤ 129) ⊎ (129 < length ps + length (parts_of part other)) → (cut ≤ length first) ⊎ (length first < cut)
            → (64 ≤ length first) × (length first ≤ 128) × (64 ≤ length second) × (length second ≤ 128)
        by few (inr room) = let empty = empty-length (in_order.1 room) in absurd (omega (arith, some, empty))
        by (inl few) (inl full) =
            let sum = total in
            let is = whole few in
            absurd (omega (arith, sum, is, full, few, some))
        by (inr many) (inl full) =
            let sum = total in
            let is = halves many in
            let low = in_order.0 in
            let old = sound_node.0 in
            let most = most-parts part other in
            (omega (arith, is, full), omega (arith, is, low), omega (arith, sum, is, low, many), omega (arith, sum, is, full, old, most))

    pub node-grows : (node : List X) (more : Option (List X)) → IsFinished first second node more
        → Grows (IsFilledNode filled) (IsSoundNode filled sound) ps node more
    node-grows node None is =
        let size = one-node is.1 in
        let same : first ++ second ≡ node = ap (λ l. first ++ l) is.1 ∙ append-nil first ∙ sym is.0 in
        let long = ap length is.0 in
        let fits = size.0 in
        let exact = size.1 in (
          (omega (arith, long, fits), subst (Stand filled sound) same stand),
          λ full.
              let least = full.0 in
              let more = some-part part other in (
                omega (arith, long, exact, least, more),
                omega (arith, long, fits),
                subst (AllByRecursion filled) (sym items ∙ same) (all-grown ps i d part other in' full.2 grows),
              ),
        )
    node-grows node (Some more) is =
        let size = two-nodes is.2 in
        let least = size.0 in
        let sum = length-append first second in
        let all = stand-all filled sound is_sound (first ++ second) (omega (arith, least, sum)) stand in (
          subst (IsFilledNode filled) (sym is.0) (size.0, size.1, each-front filled first second all),
          subst (IsFilledNode filled) (sym is.1) (size.2, size.3, each-rest filled first second all),
        )

  -- a node with room for what its part became
  pub one-grows : (ps : List X) (i : ℕ) (d part : X) (other : Option X) (node : List X) → i < length ps → IsSoundNode filled sound ps
      → Grows filled sound (get_or ps i d) part other → node ≡ grown_at i ps part other → length node ≤ 128 → Grows (IsFilledNode filled) (IsSoundNode filled sound) ps node None
  one-grows ps i d part other node in' sound_node grows is most =
      let all = length-grown ps i part other in' in
      let long = ap length is in
      node-grows ps i d part other node [] 128 in' sound_node grows (append-nil node ∙ is) (most, λ less. refl)
      (λ few. refl) (λ many. absurd (omega (arith, many, all, long, most))) node None (refl, refl)
