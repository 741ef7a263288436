-- Tests on the writes of a normal form, and the order of its kinds.
use Rattle.std.proofs.Common.{◌≡◌, ℕ, Bool, true, false, cond, ◌||◌, ◌==◌, List, [], ◌∷◌, refl, ◌⊎◌, inl, inr, sym, ◌∙◌, ap}
use Rattle.std.specs.List.{list_any, fold}
use Rattle.std.specs.Ordering.{is_lt, nat_cmp, ordering_then}
use Rattle.std.specs.declared.cmp.Ordering.{Ordering}
use Rattle.std.specs.Cmp.Lexicographic.{slice_cmp}
use Rattle.std.proofs.Math.Bool.{true≢false}
use Rattle.hse_rows.specs.declared.change.Change.{Change}
use Rattle.hse_rows.specs.declared.change.Change.TheVariants.{Put, Del, PDel}
use Rattle.hse_rows.specs.declared.write.Write.{Write}
use Rattle.hse_rows.specs.writes.Change.{target}
use Rattle.hse_rows.specs.writes.Sorted.{placed, sorted}
use Rattle.hse_rows.specs.writes.NormalForm.{hides, rank, write_cmp, lasting}

pub or_left : (a b : Bool) → (a || b) ≡ false → a ≡ false
or_left true b e = e
or_left false b e = refl

pub or_right : (a b : Bool) → (a || b) ≡ false → b ≡ false
or_right true b e = absurd (true≢false e)
or_right false b e = e

pub or_none : (a b : Bool) → a ≡ false → b ≡ false → (a || b) ≡ false
or_none true b e f = e
or_none false b e f = f

pub or_some : (a b : Bool) → b ≡ true → (a || b) ≡ true
or_some true b e = refl
or_some false b e = e

or_swap : (a b c : Bool) → (b || (a || c)) ≡ (a || (b || c))
or_swap true true c = refl
or_swap true false c = refl
or_swap false true c = refl
or_swap false false c = refl

-- ---- some of a sorted list

module _ {X : Type 0} (cmp : X → X → Ordering) (p : X → Bool) where
  pub list_any-placed : (xs : List X) (x : X) → list_any p (placed cmp xs x) ≡ (p x || list_any p xs)
  list_any-placed [] x = refl
  list_any-placed (y ∷ ys) x =
      elim (is_lt (cmp x y)) as (λ b. list_any p (cond b (x ∷ y ∷ ys) (y ∷ placed cmp ys x)) ≡ (p x || (p y || list_any p ys))) [
        | true ↦ refl
        | false ↦ ap (λ (r : Bool). p y || r) (list_any-placed ys x) ∙ or_swap (p x) (p y) (list_any p ys)
      ]

  list_any-fold : (xs ys : List X) → list_any p (fold (placed cmp) xs ys) ≡ (list_any p ys || list_any p xs)
  list_any-fold xs [] = refl
  list_any-fold xs (y ∷ ys) =
      list_any-fold (placed cmp xs y) ys
      ∙ ap (λ (r : Bool). list_any p ys || r) (list_any-placed xs y)
      ∙ or_turn (list_any p ys) (p y) (list_any p xs)
    where
      or_turn : (a b c : Bool) → (a || (b || c)) ≡ ((b || a) || c)
      or_turn true true c = refl
      or_turn true false c = refl
      or_turn false true c = refl
      or_turn false false c = refl

  pub list_any-sorted : (xs : List X) → list_any p (sorted cmp xs) ≡ list_any p xs
  list_any-sorted xs = list_any-fold [] xs ∙ or_false (list_any p xs)
    where
      or_false : (b : Bool) → (b || false) ≡ b
      or_false true = refl
      or_false false = refl

-- what no write is, no lasting write is
pub none_lasting : (p : Write → Bool) (writes : List Write) → list_any p writes ≡ false → list_any p (lasting writes) ≡ false
none_lasting p [] none = refl
none_lasting p (write ∷ later) none =
    let rest : list_any p (lasting later) ≡ false = none_lasting p later (or_right (p write) (list_any p later) none) in
    elim (list_any (λ l. hides l write) later)
    as (λ b. list_any p (cond b (lasting later) (write ∷ lasting later)) ≡ false) [
      | true ↦ rest
      | false ↦ or_none (p write) (list_any p (lasting later)) (or_left (p write) (list_any p later) none) rest
    ]

-- none of these writes hides an earlier one
abbrev pub Keep : List Write → Type 0
Keep [] = Unit {0}
Keep (write ∷ later) = (list_any (λ l. hides l write) later ≡ false) × Keep later

pub lasting_keep : (writes : List Write) → Keep (lasting writes)
lasting_keep [] = tt
lasting_keep (write ∷ later) =
    elim (list_any (λ l. hides l write) later)
    as (λ b. list_any (λ l. hides l write) later ≡ b → Keep (cond b (lasting later) (write ∷ lasting later))) [
      | true ↦ λ hidden. lasting_keep later
      | false ↦ λ kept. (none_lasting (λ l. hides l write) later kept, lasting_keep later)
    ] refl

-- ---- prefix deletes stand first

abbrev pub is_prefix_delete : Write → Bool
is_prefix_delete write = rank write.change == 0

-- no prefix delete stands behind a change of a key
abbrev pub AreRanked : List Write → Type 0
AreRanked [] = Unit {0}
AreRanked (write ∷ rest) = (is_prefix_delete write ≡ false → list_any is_prefix_delete rest ≡ false) × AreRanked rest

-- the order by kinds alone, where they differ
by_rank : (one other : Write) (m n : ℕ) → rank one.change ≡ m → rank other.change ≡ n
    → write_cmp one other
    ≡ ordering_then (nat_cmp m n) (ordering_then (nat_cmp one.store.0 other.store.0) (slice_cmp nat_cmp (target one.change) (target other.change)))
by_rank one other m n one_is other_is =
    let rest : Ordering =
    ordering_then (nat_cmp one.store.0 other.store.0) (slice_cmp nat_cmp (target one.change) (target other.change)) in
    λ i. ordering_then (nat_cmp (one_is i) (other_is i)) rest

rank_of : (change : Change) → ((rank change ≡ 0) × ((rank change == 0) ≡ true)) ⊎ ((rank change ≡ 1) × ((rank change == 0) ≡ false))
rank_of (PDel prefix) = inl (refl, refl)
rank_of (Put key bytes) = inr (refl, refl)
rank_of (Del key) = inr (refl, refl)

-- a change of a key does not stand before a prefix delete
pub key_behind : (one other : Write) → is_prefix_delete one ≡ false → is_prefix_delete other ≡ true → is_lt (write_cmp one other) ≡ false
key_behind one other one_key other_prefix = at_ranks (rank_of one.change) (rank_of other.change)
  where
    at_ranks : ((rank one.change ≡ 0) × (is_prefix_delete one ≡ true)) ⊎ ((rank one.change ≡ 1) × (is_prefix_delete one ≡ false))
        → ((rank other.change ≡ 0) × (is_prefix_delete other ≡ true)) ⊎ ((rank other.change ≡ 1) × (is_prefix_delete other ≡ false))
        → is_lt (write_cmp one other) ≡ false
    at_ranks (inl one_is) other_is = absurd (true≢false (sym one_is.1 ∙ one_key))
    at_ranks (inr one_is) (inl other_is) = ap is_lt (by_rank one other 1 0 one_is.0 other_is.0)
    at_ranks (inr one_is) (inr other_is) = absurd (true≢false (sym other_prefix ∙ other_is.1))

-- and a prefix delete stands before it
pub prefix_before : (one other : Write) → is_prefix_delete one ≡ true → is_prefix_delete other ≡ false → is_lt (write_cmp one other) ≡ true
prefix_before one other one_prefix other_key = at_ranks (rank_of one.change) (rank_of other.change)
  where
    at_ranks : ((rank one.change ≡ 0) × (is_prefix_delete one ≡ true)) ⊎ ((rank one.change ≡ 1) × (is_prefix_delete one ≡ false))
        → ((rank other.change ≡ 0) × (is_prefix_delete other ≡ true)) ⊎ ((rank other.change ≡ 1) × (is_prefix_delete other ≡ false))
        → is_lt (write_cmp one other) ≡ true
    at_ranks (inr one_is) other_is = absurd (true≢false (sym one_prefix ∙ one_is.1))
    at_ranks (inl one_is) (inr other_is) = ap is_lt (by_rank one other 0 1 one_is.0 other_is.0)
    at_ranks (inl one_is) (inl other_is) = absurd (true≢false (sym other_is.1 ∙ other_key))

-- what stands behind a change of a key is no prefix delete
pub none_behind : (y : Write) (ys : List Write) (x : Write) → AreRanked (y ∷ ys) → is_lt (write_cmp x y) ≡ true
    → is_prefix_delete x ≡ false → list_any is_prefix_delete (y ∷ ys) ≡ false
none_behind y ys x ranked before x_key = by (is_prefix_delete y) refl
  where
    by : (b : Bool) → is_prefix_delete y ≡ b → (b || list_any is_prefix_delete ys) ≡ false
    by true y_prefix = absurd (true≢false (sym before ∙ key_behind x y x_key y_prefix))
    by false y_key = ranked.0 y_key

pub ranked-placed : (xs : List Write) (x : Write) → AreRanked xs → AreRanked (placed write_cmp xs x)
ranked-placed [] x ranked = (λ key. refl, tt)
ranked-placed (y ∷ ys) x ranked =
    elim (is_lt (write_cmp x y))
    as (λ b. is_lt (write_cmp x y) ≡ b → AreRanked (cond b (x ∷ y ∷ ys) (y ∷ placed write_cmp ys x))) [
      | true ↦ λ before. (none_behind y ys x ranked before, ranked)
      | false ↦ λ behind. (
        λ y_key.
            list_any-placed write_cmp is_prefix_delete ys x
            ∙ or_none (is_prefix_delete x) (list_any is_prefix_delete ys) (is_key y_key (is_prefix_delete x) refl behind) (ranked.0 y_key),
        ranked-placed ys x ranked.1,
      )
    ] refl
  where
    is_key : is_prefix_delete y ≡ false → (b : Bool) → is_prefix_delete x ≡ b → is_lt (write_cmp x y) ≡ false → b ≡ false
    is_key y_key true x_prefix behind = absurd (true≢false (sym (prefix_before x y x_prefix y_key) ∙ behind))
    is_key y_key false x_is behind = refl
