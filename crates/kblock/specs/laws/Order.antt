-- Keys in order: what stands above a key, and what below.
use Rattle.std.proofs.Common.{◌≡◌, ◌∙◌, true, false, Bool, ℕ, suc, ◌+◌, List, [], ◌∷◌, ◌++◌, length, length-append, Option, Some, None, refl, sym, ap}
use Rattle.std.specs.declared.cmp.Ordering.{Ordering}
use Rattle.std.specs.declared.cmp.Ordering.TheVariants.{Less, Equal, Greater}
use Rattle.std.specs.Ordering.{nat_cmp, is_eq, is_gt, is_lt, ordering_reverse}
use Rattle.std.specs.Cmp.Lexicographic.{slice_cmp}
use Rattle.std.proofs.lemmas.Cmp.{nat_list_cmp_total}
use Rattle.std.specs.List.{filter, find}
use Rattle.std.proofs.lemmas.List.Elements.{filter-append}
use Rattle.hse_fields.specs.BlockText.{KeyEntry}
use Rattle.hse_fields.specs.BlockReading.{is_above, last_key}
use Rattle.kblock.specs.Opened.{has_key}
use Rattle.kblock.specs.Placing.{is_below, count_below}

abbrev R : List ℕ → List ℕ → Ordering
R = slice_cmp nat_cmp

pub less_is : (c : Ordering) → is_lt c ≡ true → c ≡ Less
less_is Less e = refl
less_is Equal e = absurd cc
less_is Greater e = absurd cc

greater_is : (c : Ordering) → is_gt c ≡ true → c ≡ Greater
greater_is Less e = absurd cc
greater_is Equal e = absurd cc
greater_is Greater e = refl

unequal : (c : Ordering) → is_gt c ≡ true → is_eq c ≡ false
unequal Less e = absurd cc
unequal Equal e = absurd cc
unequal Greater e = refl

rises_on : (a b c : List ℕ) → is_lt (R a b) ≡ true → is_lt (R b c) ≡ true → is_lt (R a c) ≡ true
rises_on a b c e f = ap is_lt (nat_list_cmp_total.trans a b c (less_is (R a b) e) (less_is (R b c) f))

pub turned : (a b : List ℕ) → R a b ≡ Greater → R b a ≡ Less
turned a b e = nat_list_cmp_total.antisymm b a ∙ ap ordering_reverse e

pub turned_back : (a b : List ℕ) → R a b ≡ Less → R b a ≡ Greater
turned_back a b e = nat_list_cmp_total.antisymm b a ∙ ap ordering_reverse e

pub still_above : (a b key : List ℕ) → is_gt (R a key) ≡ true → is_lt (R a b) ≡ true → is_gt (R b key) ≡ true
still_above a b key e f =
    ap is_gt (turned_back key b (nat_list_cmp_total.trans key a b (turned a key (greater_is (R a key) e)) (less_is (R a b) f)))

apart_below : (a b key : List ℕ) → is_lt (R a b) ≡ true → is_gt (R b key) ≡ false → is_eq (R a key) ≡ false
apart_below a b key e f = by (R a key) refl
  where
    by : (c : Ordering) → R a key ≡ c → is_eq c ≡ false
    by Less p = refl
    by Greater p = refl
    by Equal p =
        let key_less : R key b ≡ Less = sym (nat_list_cmp_total.congr a key b p) ∙ less_is (R a b) e in
        let beyond : is_gt (R b key) ≡ true = ap is_gt (turned_back key b key_less) in
        absurd cc

-- entries whose keys ascend from behind the last one on
abbrev pub Rise : Option (List ℕ) → List KeyEntry → Type 0
Rise last [] = Unit {0}
Rise last (e ∷ es) = (is_above last e.key ≡ true) × Rise (Some e.key) es

pub rise_append : (last : Option (List ℕ)) (xs ys : List KeyEntry) → Rise last xs → Rise (last_key last xs) ys → Rise last (xs ++ ys)
rise_append last [] ys p q = q
rise_append last (x ∷ xs) ys p q = (p.0, rise_append (Some x.key) xs ys p.1 q)

-- above the last one of entries is above each of them
pub above_all : (last : Option (List ℕ)) (es : List KeyEntry) (key : List ℕ) → Rise last es → is_above (last_key last es) key ≡ true → is_above last key ≡ true
above_all last [] key rise e = e
above_all None (x ∷ xs) key rise e = refl
above_all (Some last) (x ∷ xs) key rise e = rises_on last x.key key rise.0 (above_all (Some x.key) xs key rise.1 e)

missed : (p : KeyEntry → Bool) (x : KeyEntry) (xs : List KeyEntry) → p x ≡ false → find p xs ≡ None → find p (x ∷ xs) ≡ None
missed p x xs e f = rw e f

-- no key that is above another one is this one, and none below either
pub none_above : (k : List ℕ) (es : List KeyEntry) (key : List ℕ) → Rise (Some k) es → is_gt (R k key) ≡ true → find (has_key key) es ≡ None
none_above k [] key rise e = refl
none_above k (x ∷ xs) key rise e =
    let more = still_above k x.key key e rise.0 in
    missed (has_key key) x xs (unequal (R x.key key) more) (none_above x.key xs key rise.1 more)

pub none_from : (x : KeyEntry) (es : List KeyEntry) (key : List ℕ) → Rise (Some x.key) es → is_gt (R x.key key) ≡ true → find (has_key key) (x ∷ es) ≡ None
none_from x es key rise e = missed (has_key key) x es (unequal (R x.key key) e) (none_above x.key es key rise e)

pub none_below : (last : Option (List ℕ)) (es : List KeyEntry) (key beyond : List ℕ) → Rise last es → is_above (last_key last es) beyond ≡ true
    → is_gt (R beyond key) ≡ false → find (has_key key) es ≡ None
none_below last [] key beyond rise e f = refl
none_below last (x ∷ xs) key beyond rise e f =
    missed (has_key key) x xs (apart_below x.key beyond key (above_all (Some x.key) xs beyond rise.1 e) f)
    (none_below (Some x.key) xs key beyond rise.1 e f)

-- ---- how many are below an edge

pub counts : (edge : List ℕ) (x : KeyEntry) (xs : List KeyEntry) → is_below edge x ≡ true → count_below edge (x ∷ xs) ≡ suc (count_below edge xs)
counts edge x xs e = rw e refl

pub skips : (edge : List ℕ) (x : KeyEntry) (xs : List KeyEntry) → is_below edge x ≡ false → count_below edge (x ∷ xs) ≡ count_below edge xs
skips edge x xs e = rw e refl

not_less : (c : Ordering) → is_gt c ≡ true → is_lt c ≡ false
not_less Less e = absurd cc
not_less Equal e = absurd cc
not_less Greater e = refl

-- what is below what is not above an edge is below the edge
below_edge : (a b edge : List ℕ) → is_lt (R a b) ≡ true → is_gt (R b edge) ≡ false → is_lt (R a edge) ≡ true
below_edge a b edge e f = by (R b edge) refl
  where
    by : (c : Ordering) → R b edge ≡ c → is_lt (R a edge) ≡ true
    by Less p = ap is_lt (nat_list_cmp_total.trans a b edge (less_is (R a b) e) p)
    by Equal p = ap is_lt (turned edge a (sym (nat_list_cmp_total.congr b edge a p) ∙ turned_back a b (less_is (R a b) e)))
    by Greater p = let beyond : is_gt (R b edge) ≡ true = ap is_gt p in absurd cc

pub none_from_counted : (x : KeyEntry) (es : List KeyEntry) (edge : List ℕ) → Rise (Some x.key) es → is_gt (R x.key edge) ≡ true → count_below edge (x ∷ es) ≡ 0
none_from_counted x [] edge rise e = skips edge x [] (not_less (R x.key edge) e)
none_from_counted x (y ∷ ys) edge rise e =
    skips edge x (y ∷ ys) (not_less (R x.key edge) e)
    ∙ none_from_counted y ys edge rise.1 (still_above x.key y.key edge e rise.0)

pub all_below : (last : Option (List ℕ)) (es : List KeyEntry) (edge beyond : List ℕ) → Rise last es → is_above (last_key last es) beyond ≡ true
    → is_gt (R beyond edge) ≡ false → count_below edge es ≡ length es
all_below last [] edge beyond rise e f = refl
all_below last (x ∷ xs) edge beyond rise e f =
    counts edge x xs (below_edge x.key beyond edge (above_all (Some x.key) xs beyond rise.1 e) f)
    ∙ ap suc (all_below (Some x.key) xs edge beyond rise.1 e f)

pub count-append : (edge : List ℕ) (xs ys : List KeyEntry) → count_below edge (xs ++ ys) ≡ count_below edge xs + count_below edge ys
count-append edge xs ys = ap length (filter-append (is_below edge) xs ys) ∙ length-append (filter (is_below edge) xs) (filter (is_below edge) ys)
