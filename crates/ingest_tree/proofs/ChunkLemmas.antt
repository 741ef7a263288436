-- A list in chunks: where a part stands, and what a part became in its place.
use Rattle.std.proofs.Common.{◌≡◌, ℕ, zero, suc, ◌+◌, ◌*◌, ◌<◌, ◌≤◌, List, [], ◌∷◌, ◌++◌, length, get_or, take, drop, Option, Some, None, refl, ap, sym, ◌∙◌, subst, arith, append_assoc, append-nil, ◌⊎◌, inl, inr}
use Rattle.std.proofs.lemmas.Grind.{flat_map-append}
use Rattle.std.proofs.lemmas.List.{length-append}
use Rattle.std.proofs.lemmas.List.Concat.{get_or-flat_map}
use Rattle.std.specs.declared.cmp.Ordering.TheVariants.{Less}
use Rattle.std.specs.List.{AllByRecursion, flat_map}
use Rattle.sorted_lists.specs.laws.Lists.{each-append, each-front, each-rest}
use Rattle.ingest_tree.specs.Chunks.{AreChunks, Widens, joined, place_of}
use Rattle.ingest_tree.specs.Parts.{IsInOrder, IsFinished, IsChild, grown_at, parts_of}
use Rattle.ingest_tree.proofs.GrowthLemmas.{few-or, length-grown, most-parts, some-part, no-second, only-first}
use Rattle.ingest_tree.proofs.PartLemmas.{flat-split}
use Rattle.ingest_tree.specs.Marks.{first_mark}
use Rattle.ingest_tree.specs.Rows.{store_row_cmp}
use Rattle.ingest_tree.specs.declared.mark.Mark.{Mark}
use Rattle.ingest_tree.specs.declared.store_row.StoreRow.{StoreRow}

module _ {X : Type 0} where
  pub get-any : (xs : List X) (i : ℕ) (d e : X) → i < length xs → get_or xs i d ≡ get_or xs i e
  get-any [] i d e in' = absurd (omega (arith, in'))
  get-any (x ∷ xs) zero d e in' = refl
  get-any (x ∷ xs) (suc i) d e in' = get-any xs i d e (omega (arith, in'))

  take-rest : (a l : List X) (n : ℕ) → take (length a + n) (a ++ l) ≡ a ++ take n l
  take-rest [] l n = let same : 0 + n ≡ n = omega arith in ap (λ k. take k l) same
  take-rest (x ∷ a) l n =
      let same : suc (length a) + n ≡ suc (length a + n) = omega arith in
      ap (λ k. take k (x ∷ a ++ l)) same ∙ ap (λ m. x ∷ m) (take-rest a l n)

  drop-rest : (a l : List X) (n : ℕ) → drop (suc (length a + n)) (a ++ l) ≡ drop (suc n) l
  drop-rest [] l n = let same : suc (0 + n) ≡ suc n = omega arith in ap (λ k. drop k l) same
  drop-rest (x ∷ a) l n =
      let same : suc (length a) + n ≡ suc (length a + n) = omega arith in
      ap (λ k. drop (suc k) (x ∷ a ++ l)) same ∙ drop-rest a l n

  take-front : (c b : List X) (j : ℕ) → j < length c → take j (c ++ b) ≡ take j c
  take-front [] b j in' = absurd (omega (arith, in'))
  take-front (y ∷ c) b zero in' = refl
  take-front (y ∷ c) b (suc j) in' = ap (λ l. y ∷ l) (take-front c b j (omega (arith, in')))

  drop-front : (c b : List X) (j : ℕ) → j < length c → drop (suc j) (c ++ b) ≡ drop (suc j) c ++ b
  drop-front [] b j in' = absurd (omega (arith, in'))
  drop-front (y ∷ c) b zero in' = refl
  drop-front (y ∷ c) b (suc j) in' = drop-front c b j (omega (arith, in'))

  joined-from : (cs : List (List X)) (i : ℕ) (e : List X) → i < length cs
      → joined cs ≡ joined (take i cs) ++ (get_or cs i e ++ joined (drop (suc i) cs))
  joined-from [] i e in' = absurd (omega (arith, in'))
  joined-from (c ∷ cs) zero e in' = refl
  joined-from (c ∷ cs) (suc i) e in' =
      ap (λ l. c ++ l) (joined-from cs i e (omega (arith, in')))
      ∙ sym (append_assoc c (joined (take i cs)) (get_or cs i e ++ joined (drop (suc i) cs)))

  -- what stands before a seat, and behind
  pub joined-take : (cs : List (List X)) (i j : ℕ) (e : List X) → i < length cs → j < length (get_or cs i e)
      → take (place_of cs i j) (joined cs) ≡ joined (take i cs) ++ take j (get_or cs i e)
  joined-take cs i j e in' small =
      ap (take (place_of cs i j)) (joined-from cs i e in')
      ∙ take-rest (joined (take i cs)) (get_or cs i e ++ joined (drop (suc i) cs)) j
      ∙ ap (λ l. joined (take i cs) ++ l) (take-front (get_or cs i e) (joined (drop (suc i) cs)) j small)

  joined-drop : (cs : List (List X)) (i j : ℕ) (e : List X) → i < length cs → j < length (get_or cs i e)
      → drop (suc (place_of cs i j)) (joined cs) ≡ drop (suc j) (get_or cs i e) ++ joined (drop (suc i) cs)
  joined-drop cs i j e in' small =
      ap (drop (suc (place_of cs i j))) (joined-from cs i e in')
      ∙ drop-rest (joined (take i cs)) (get_or cs i e ++ joined (drop (suc i) cs)) j
      ∙ drop-front (get_or cs i e) (joined (drop (suc i) cs)) j small

  pub item-in : (cs : List (List X)) (i j : ℕ) (e : List X) (d : X) → i < length cs → j < length (get_or cs i e)
      → get_or (joined cs) (place_of cs i j) d ≡ get_or (get_or cs i e) j d
  item-in cs i j e d in' small = get_or-flat_map (λ c. c) cs i j e d in' small

  pub length-joined : (cs : List (List X)) (i : ℕ) (e : List X) → i < length cs
      → length (joined cs) ≡ length (joined (take i cs)) + (length (get_or cs i e) + length (joined (drop (suc i) cs)))
  length-joined cs i e in' =
      let whole = ap length (joined-from cs i e in') in
      let one = length-append (joined (take i cs)) (get_or cs i e ++ joined (drop (suc i) cs)) in
      let two = length-append (get_or cs i e) (joined (drop (suc i) cs)) in
      omega (arith, whole, one, two)

  -- ---- what a part became in its place

  regrouped : (front a ps d back : List X) → (front ++ ((a ++ ps) ++ d)) ++ back ≡ ((front ++ a) ++ ps) ++ (d ++ back)
  regrouped [] a ps d back = append_assoc (a ++ ps) d back
  regrouped (x ∷ front) a ps d back = ap (λ l. x ∷ l) (regrouped front a ps d back)

  pub joined-grown : (cs : List (List X)) (i j : ℕ) (e : List X) (p : X) (o : Option X) → i < length cs → j < length (get_or cs i e)
      → (joined (take i cs) ++ grown_at j (get_or cs i e) p o) ++ joined (drop (suc i) cs) ≡ grown_at (place_of cs i j) (joined cs) p o
  joined-grown cs i j e p o in' small =
      regrouped (joined (take i cs)) (take j (get_or cs i e)) (parts_of p o) (drop (suc j) (get_or cs i e)) (joined (drop (suc i) cs))
      ∙ (λ k. (sym (joined-take cs i j e in' small) k ++ parts_of p o) ++ sym (joined-drop cs i j e in' small) k)

  pub chunks-joined : (cs : List (List X)) (i : ℕ) (c : List X) (o : Option (List X))
      → joined (grown_at i cs c o) ≡ (joined (take i cs) ++ joined (parts_of c o)) ++ joined (drop (suc i) cs)
  chunks-joined cs i c o =
      flat_map-append (λ chunk. chunk) (take i cs ++ parts_of c o) (drop (suc i) cs)
      ∙ ap (λ l. l ++ joined (drop (suc i) cs)) (flat_map-append (λ chunk. chunk) (take i cs) (parts_of c o))

  -- the parts of the chunks with what one of them became are those with what its part became
  pub regrown-joined : (cs : List (List X)) (i j : ℕ) (e c : List X) (p : X) (o : Option X) (d : Option (List X)) → i < length cs → j < length (get_or cs i e)
      → joined (parts_of c d) ≡ grown_at j (get_or cs i e) p o → joined (grown_at i cs c d) ≡ grown_at (place_of cs i j) (joined cs) p o
  regrown-joined cs i j e c p o d in' small is =
      chunks-joined cs i c d
      ∙ ap (λ l. (joined (take i cs) ++ l) ++ joined (drop (suc i) cs)) is
      ∙ joined-grown cs i j e p o in' small

  pub chunks-grown : (cs : List (List X)) (i : ℕ) (c e : List X) (o : Option (List X)) → AreChunks cs → i < length cs → Widens (get_or cs i e) c o
      → AreChunks (grown_at i cs c o)
  chunks-grown [] i c e o are in' so = absurd (omega (arith, in'))
  chunks-grown (d ∷ []) zero c e None are in' so = let some = are.0 in let more = so.0 in (omega (arith, some, more), so.1)
  chunks-grown (d ∷ []) zero c e (Some o) are in' so = let some = so.2 in (so.0, so.1, (omega (arith, some), so.3))
  chunks-grown (d ∷ []) (suc i) c e o are in' so = absurd (omega (arith, in'))
  chunks-grown (d ∷ f ∷ cs) zero c e None are in' so = let some = are.0 in let more = so.0 in (omega (arith, some, more), so.1, are.2)
  chunks-grown (d ∷ f ∷ cs) zero c e (Some o) are in' so = (so.0, so.1, (so.2, so.3, are.2))
  chunks-grown (d ∷ f ∷ cs) (suc zero) c e None are in' so = (are.0, are.1, chunks-grown (f ∷ cs) zero c e None are.2 (omega arith) so)
  chunks-grown (d ∷ f ∷ cs) (suc zero) c e (Some o) are in' so = (are.0, are.1, chunks-grown (f ∷ cs) zero c e (Some o) are.2 (omega arith) so)
  chunks-grown (d ∷ f ∷ cs) (suc (suc i)) c e o are in' so = (are.0, are.1, chunks-grown (f ∷ cs) (suc i) c e o are.2 (omega (arith, in')) so)

  -- ---- how many chunks, and how long

  pub chunk-size : (cs : List (List X)) (i : ℕ) (e : List X) → AreChunks cs → i < length cs → (0 < length (get_or cs i e)) × (length (get_or cs i e) ≤ 8)
  chunk-size [] i e are in' = absurd (omega (arith, in'))
  chunk-size (c ∷ []) zero e are in' = are
  chunk-size (c ∷ []) (suc i) e are in' = absurd (omega (arith, in'))
  chunk-size (c ∷ d ∷ cs) zero e are in' = let some = are.0 in (omega (arith, some), are.1)
  chunk-size (c ∷ d ∷ cs) (suc i) e are in' = chunk-size (d ∷ cs) i e are.2 (omega (arith, in'))

  pub chunks-few : (cs : List (List X)) → AreChunks cs → length cs ≤ length (joined cs)
  chunks-few [] are = omega arith
  chunks-few (c ∷ []) are =
      let some = are.0 in
      let sum = length-append c [] in
      omega (arith, some, sum)
  chunks-few (c ∷ d ∷ cs) are =
      let some = are.0 in
      let rest = chunks-few (d ∷ cs) are.2 in
      let sum = length-append c (joined (d ∷ cs)) in
      omega (arith, some, rest, sum)

  pub chunks-quarter : (cs : List (List X)) → AreChunks cs → length cs * 4 ≤ length (joined cs) + 3
  chunks-quarter [] are = omega arith
  chunks-quarter (c ∷ []) are =
      let some = are.0 in
      let sum = length-append c [] in
      omega (arith, some, sum)
  chunks-quarter (c ∷ d ∷ cs) are =
      let some = are.0 in
      let rest = chunks-quarter (d ∷ cs) are.2 in
      let sum = length-append c (joined (d ∷ cs)) in
      omega (arith, some, rest, sum)

  pub chunks-cost : (cs : List (List X)) (i : ℕ) (e : List X) → AreChunks cs → i < length cs
      → length cs + length (get_or cs i e) ≤ length (joined cs) + 1
  chunks-cost [] i e are in' = absurd (omega (arith, in'))
  chunks-cost (c ∷ []) zero e are in' = let sum = length-append c [] in omega (arith, sum)
  chunks-cost (c ∷ []) (suc i) e are in' = absurd (omega (arith, in'))
  chunks-cost (c ∷ d ∷ cs) zero e are in' =
      let rest = chunks-few (d ∷ cs) are.2 in
      let sum = length-append c (joined (d ∷ cs)) in
      omega (arith, rest, sum)
  chunks-cost (c ∷ d ∷ cs) (suc i) e are in' =
      let some = are.0 in
      let rest = chunks-cost (d ∷ cs) i e are.2 (omega (arith, in')) in
      let sum = length-append c (joined (d ∷ cs)) in
      omega (arith, some, rest, sum)

  pub chunks-some : (cs : List (List X)) → 0 < length (joined cs) → 0 < length cs
  chunks-some [] some = absurd (omega (arith, some))
  chunks-some (c ∷ cs) some = omega arith

  -- ---- rows, marks and soundness by chunks

  pub flat-joined : {Y : Type 0} (rows : X → List Y) (cs : List (List X)) → flat_map (λ c. flat_map rows c) cs ≡ flat_map rows (joined cs)
  flat-joined rows [] = refl
  flat-joined rows (c ∷ cs) = ap (λ l. flat_map rows c ++ l) (flat-joined rows cs) ∙ sym (flat_map-append rows c (joined cs))

  first-append : (mark : X → Mark) (c l : List X) → 0 < length c → first_mark mark c ≡ first_mark mark (c ++ l)
  first-append mark [] l some = absurd (omega (arith, some))
  first-append mark (p ∷ c) l some = refl

  pub first-joined : (mark : X → Mark) (cs : List (List X)) → AreChunks cs → first_mark (first_mark mark) cs ≡ first_mark mark (joined cs)
  first-joined mark [] are = refl
  first-joined mark (c ∷ cs) are = first-append mark c (joined cs) (chunk-size (c ∷ cs) 0 c are (omega arith)).0

  pub chunks-sound : (sound : X → Type 0) (cs : List (List X)) → AreChunks cs → AllByRecursion sound (joined cs)
      → AllByRecursion (λ c. (0 < length c) × AllByRecursion sound c) cs
  chunks-sound sound [] are all = tt
  chunks-sound sound (c ∷ []) are all = ((are.0, each-front sound c [] all), tt)
  chunks-sound sound (c ∷ d ∷ cs) are all =
      let some = are.0 in
      ((omega (arith, some), each-front sound c (joined (d ∷ cs)) all), chunks-sound sound (d ∷ cs) are.2 (each-rest sound c (joined (d ∷ cs)) all))

  module _ (rows : X → List StoreRow) (cs : List (List X)) (x : StoreRow) (i j : ℕ) (c : List X) (is : c ≡ get_or cs i c)
      (chunk : IsChild (λ c. flat_map rows c) cs x i) (part : IsChild rows c x j) where
    small : j < length (get_or cs i c)
    small = subst (λ l. j < length l) is part.within

    -- the part of a row in the chunk of a row is the part among all
    pub child-joined : IsChild rows (joined cs) x (place_of cs i j)
    child-joined =
        let all = length-joined cs i c chunk.within in
        let low = small in
        record {
          within = omega (arith, all, low);
          before = subst (AllByRecursion (λ other. store_row_cmp other x ≡ Less))
              (sym (ap (flat_map rows) (joined-take cs i j c chunk.within small ∙ ap (λ l. joined (take i cs) ++ take j l) (sym is))
              ∙ flat_map-append rows (joined (take i cs)) (take j c)
              ∙ ap (λ l. l ++ flat_map rows (take j c)) (sym (flat-joined rows (take i cs)))))
              (each-append (λ other. store_row_cmp other x ≡ Less) (flat_map (λ c. flat_map rows c) (take i cs)) (flat_map rows (take j c)) chunk.before part.before);
          behind = subst (AllByRecursion (λ other. store_row_cmp x other ≡ Less))
              (sym (ap (flat_map rows) (joined-drop cs i j c chunk.within small ∙ ap (λ l. drop (suc j) l ++ joined (drop (suc i) cs)) (sym is))
              ∙ flat_map-append rows (drop (suc j) c) (joined (drop (suc i) cs))
              ∙ ap (λ l. flat_map rows (drop (suc j) c) ++ l) (sym (flat-joined rows (drop (suc i) cs)))))
              (each-append (λ other. store_row_cmp x other ≡ Less) (flat_map rows (drop (suc j) c)) (flat_map (λ c. flat_map rows c) (drop (suc i) cs)) part.behind chunk.behind);
        }

  -- ---- chunks that are made one after another

  pub full-chunks : (cs : List (List X)) → AllByRecursion (λ c. length c ≡ 8) cs → AreChunks cs
  full-chunks [] all = tt
  full-chunks (c ∷ []) all = let full = all.0 in (omega (arith, full), omega (arith, full))
  full-chunks (c ∷ d ∷ cs) all = let full = all.0 in (omega (arith, full), omega (arith, full), full-chunks (d ∷ cs) all.1)

  pub last-chunk : (cs : List (List X)) (c : List X) → AllByRecursion (λ c. length c ≡ 8) cs → 0 < length c → length c ≤ 8
      → AreChunks (cs ++ c ∷ [])
  last-chunk [] c all some most = (some, most)
  last-chunk (d ∷ []) c all some most = let full = all.0 in (omega (arith, full), omega (arith, full), (some, most))
  last-chunk (d ∷ f ∷ cs) c all some most = let full = all.0 in (omega (arith, full), omega (arith, full), last-chunk (f ∷ cs) c all.1 some most)

  -- ---- what becomes of a chunk that takes one part more, and of the list

  pub finished-joined : (first second chunk : List X) (other : Option (List X)) → IsFinished first second chunk other
      → joined (parts_of chunk other) ≡ first ++ second
  finished-joined first second chunk None is = append-nil chunk ∙ is.0 ∙ sym (append-nil first) ∙ ap (λ l. first ++ l) (sym is.1)
  finished-joined first second chunk (Some other) is = λ k. is.0 k ++ (append-nil other ∙ is.1) k

  module _ (old : List X) (i : ℕ) (part : X) (more : Option X) (first second : List X) (cut : ℕ) (in' : i < length old) (most : length old ≤ 8)
      (items : first ++ second ≡ grown_at i old part more) (in_order : IsInOrder first second cut)
      (whole : length old + length (parts_of part more) ≤ 9 → cut ≡ 8) (halves : 9 < length old + length (parts_of part more) → cut ≡ 4) where
    total : length first + length second + 1 ≡ length old + length (parts_of part more)
    total =
        let all = length-grown old i part more in' in
        let sum = length-append first second in
        let same = ap length items in
        omega (arith, all, sum, same)

    without : length old + length (parts_of part more) ≤ 9 → second ≡ []
    without few =
        let sum = total in
        let is = whole few in
        no-second first second cut in_order (omega (arith, sum, is, few))

    few-cut : cut ≤ 8
    few-cut = by (few-or (length old + length (parts_of part more)) 9)
      where
        by : (length old + length (parts_of part more) ≤ 9) ⊎ (9 < length old + length (parts_of part more)) → cut ≤ 8
        by (inl few) = let is = whole few in omega (arith, is)
        by (inr many) = let is = halves many in omega (arith, is)

    two-chunks : 0 < length second → (4 ≤ length first) × (length first ≤ 8) × (4 ≤ length second) × (length second ≤ 8)
    two-chunks some = by (few-or (length old + length (parts_of part more)) 9) (few-or cut (length first))
      where
        by : (length old + length (parts_of part more) ≤ 9) ⊎ (9 < length old + length (parts_of part more)) → (cut ≤ length first) ⊎ (length first < cut)
            → (4 ≤ length first) × (length first ≤ 8) × (4 ≤ length second) × (length second ≤ 8)
        by (inl few) full = let empty = ap length (without few) in absurd (omega (arith, some, empty))
        by (inr many) (inr room) = let empty = ap length (in_order.1 room) in absurd (omega (arith, some, empty))
        by (inr many) (inl full) =
            let sum = total in
            let is = halves many in
            let low = in_order.0 in
            let two = most-parts part more in
            (omega (arith, is, full), omega (arith, is, low), omega (arith, sum, is, low, many), omega (arith, sum, is, full, most, two))

    pub chunk-widens : (node : List X) (other : Option (List X)) → IsFinished first second node other → Widens old node other
    chunk-widens node None is =
        let sum = total in
        let some = some-part part more in
        let long = ap length is.0 in
        let empty = ap length is.1 in
        let low = in_order.0 in
        let room = few-cut in
        (omega (arith, sum, some, long, empty), omega (arith, long, low, room))
    chunk-widens node (Some other) is =
        let two = two-chunks is.2 in
        let one = subst (λ l. (4 ≤ length l) × (length l ≤ 8)) (sym is.0) (two.0, two.1) in
        let rest = subst (λ l. (4 ≤ length l) × (length l ≤ 8)) (sym is.1) (two.2, two.3) in
        (one.0, one.1, rest.0, rest.1)

    -- as many parts stay one chunk
    pub chunk-whole : more ≡ None → (node : List X) (other : Option (List X)) → IsFinished first second node other → other ≡ None
    chunk-whole lone node None is = refl
    chunk-whole lone node (Some other) is =
        let one = ap (λ o. length (parts_of part o)) lone in
        let some = is.2 in
        let empty = ap length (without (omega (arith, most, one))) in
        absurd (omega (arith, some, empty))

  module _ (cs : List (List X)) (i j len : ℕ) (e c : List X) (p : X) (o : Option X) (d : Option (List X)) (first second : List (List X))
      (are : AreChunks cs) (in' : i < length cs) (small : j < length (get_or cs i e)) (new : joined (parts_of c d) ≡ grown_at j (get_or cs i e) p o)
      (widens : Widens (get_or cs i e) c d) (long : len + 1 ≡ length (joined cs) + length (parts_of p o))
      (items : first ++ second ≡ grown_at i cs c d) (in_order : IsInOrder first second len) where
    are-grown : AreChunks (grown_at i cs c d)
    are-grown = chunks-grown cs i c e d are in' widens

    grown-is : joined (grown_at i cs c d) ≡ grown_at (place_of cs i j) (joined cs) p o
    grown-is = regrown-joined cs i j e c p o d in' small new

    grown-long : length (joined (grown_at i cs c d)) ≡ len
    grown-long =
        let all = length-joined cs i e in' in
        let same = ap length grown-is in
        let sum = length-grown (joined cs) (place_of cs i j) p o (omega (arith, all, small)) in
        omega (arith, same, sum, long)

    all-chunks : first ≡ grown_at i cs c d
    all-chunks =
        let few = chunks-few (grown_at i cs c d) are-grown in
        let all = grown-long in
        only-first first second (grown_at i cs c d) len in_order items (omega (arith, few, all))

    pub regrown-are : AreChunks first
    regrown-are = subst AreChunks (sym all-chunks) are-grown

    pub regrown-long : len ≡ length (joined first)
    regrown-long = sym (ap (λ l. length (joined l)) all-chunks ∙ grown-long)

    pub regrown-is : joined first ≡ grown_at (place_of cs i j) (joined cs) p o
    regrown-is = ap joined all-chunks ∙ grown-is

  -- ---- rows before a seat

  module _ (rows : X → List StoreRow) (cs : List (List X)) (i j : ℕ) (c : List X) (is : c ≡ get_or cs i c) (in' : i < length cs) (small : j < length c) where
    -- how many stand before it
    pub rows-to : length (flat_map (λ c. flat_map rows c) (take i cs)) + length (flat_map rows (take j c)) ≡ length (flat_map rows (take (place_of cs i j) (joined cs)))
    rows-to =
        let low : j < length (get_or cs i c) = subst (λ l. j < length l) is small in
        let front = ap (λ l. length (flat_map rows l)) (joined-take cs i j c in' low ∙ ap (λ l. joined (take i cs) ++ take j l) (sym is)) in
        let both = ap length (flat_map-append rows (joined (take i cs)) (take j c)) in
        let sum = length-append (flat_map rows (joined (take i cs))) (flat_map rows (take j c)) in
        let same = ap length (flat-joined rows (take i cs)) in
        omega (arith, front, both, sum, same)

    -- a chunk has no more rows than all
    pub rows-within : length (flat_map rows c) ≤ length (flat_map rows (joined cs))
    rows-within =
        let all = ap length (sym (flat-joined rows cs) ∙ flat-split (λ c. flat_map rows c) cs i c in') in
        let one = ap (λ l. length (flat_map rows l)) is in
        let before = length-append (flat_map (λ c. flat_map rows c) (take i cs)) (flat_map rows (get_or cs i c) ++ flat_map (λ c. flat_map rows c) (drop (suc i) cs)) in
        let behind = length-append (flat_map rows (get_or cs i c)) (flat_map (λ c. flat_map rows c) (drop (suc i) cs)) in
        omega (arith, all, one, before, behind)
