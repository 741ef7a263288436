-- What is asked of a set's rows, asked of its prefix deletes and of its keys.
use Rattle.std.proofs.Common.{◌≡◌, ◌∙◌, true, false, Bool, cond, ℕ, zero, suc, ◌-◌, ◌+◌, ◌≤◌, List, [], ◌∷◌, ◌++◌, length, map, Option, Some, None, refl, sym, ap, subst, arith}
use Rattle.std.specs.Prelude.{slice_get}
use Rattle.std.specs.List.{find, filter, AllByRecursion}
use Rattle.std.specs.List.Sorted.{IsStrictlySortedBy}
use Rattle.std.specs.declared.cmp.Ordering.{Ordering}
use Rattle.std.specs.declared.cmp.Ordering.TheVariants.{Less, Equal, Greater}
use Rattle.std.specs.Ordering.{nat_cmp, is_eq, is_gt, is_lt}
use Rattle.std.specs.Cmp.Lexicographic.{slice_cmp, texts_ties, nat_list_cmp_total}
use Rattle.hse_rows.specs.declared.row.Row.{Row}
use Rattle.hse_rows.specs.writes.Change.{FitsLimits}
use Rattle.hse_rows.specs.writes.Lengths.{IsKeyLength, IsPrefixLength}
use Rattle.hse_rows.specs.rows.Newest.{row_cmp}
use Rattle.hse_rows.specs.rows.Meaning.{is_own, is_covering, newer, own_at, greater, covered_at}
use Rattle.hse_rows.specs.rows.RowSets.{AreRows, is_before, place_of}
use Rattle.hse_fields.specs.declared.block.ValuePlace.{ValuePlace}
use Rattle.hse_fields.specs.BlockText.{KeyEntry}
use Rattle.kblock.specs.Form.{AreKeys}
use Rattle.kblock.specs.Opened.{has_key}
use Rattle.kblock.specs.Placing.{is_below, count_below}
use Rattle.kblock.specs.laws.Order.{Rise, less_is, none_from, turned_back}
use Rattle.prefix_delete.specs.declared.entry.Entry.{Entry}
use Rattle.prefix_delete.specs.Prefixes.{ArePrefixes, prefix_cmp, row_of, rows_of}
use Rattle.kvset.specs.Rows.{change_of_key, is_met, row_of_key, row_found, set_rows, AreMet}
use Rattle.kvset.proofs.KeyLemmas.{rise}

-- ---- one row

own_is_by : (values : List (List (List ℕ))) (number : ℕ) (own key : List ℕ) (place : Option ValuePlace)
    → is_own key (record { number = number; change = change_of_key values own place }) ≡ is_eq (slice_cmp nat_cmp own key)
own_is_by values number own key None = texts_ties own key
own_is_by values number own key (Some place) = texts_ties own key

own_is : (values : List (List (List ℕ))) (key : List ℕ) (e : KeyEntry) → is_own key (row_of_key values e) ≡ has_key key e
own_is values key e = own_is_by values e.number e.key key e.value

covers_not_by : (values : List (List (List ℕ))) (number : ℕ) (own key : List ℕ) (place : Option ValuePlace)
    → is_covering key (record { number = number; change = change_of_key values own place }) ≡ false
covers_not_by values number own key None = refl
covers_not_by values number own key (Some place) = refl

before_is_by : (values : List (List (List ℕ))) (number : ℕ) (own edge : List ℕ) (place : Option ValuePlace)
    → is_before edge (record { number = number; change = change_of_key values own place }) ≡ is_lt (slice_cmp nat_cmp own edge)
before_is_by values number own edge None = refl
before_is_by values number own edge (Some place) = refl

-- ---- a key's own row

own_behind : (key : List ℕ) (prefixes : List Entry) (rows : List Row) → own_at key (rows_of prefixes ++ rows) ≡ own_at key rows
own_behind key [] rows = refl
own_behind key (p ∷ ps) rows = own_behind key ps rows

no_own : (values : List (List (List ℕ))) (key : List ℕ) (e : KeyEntry) (rows : List Row) → has_key key e ≡ false → own_at key (row_of_key values e ∷ rows) ≡ own_at key rows
no_own values key e rows other =
    ap (λ (b : Bool). newer (cond b (Some (row_of_key values e)) None) (own_at key rows)) (own_is values key e ∙ other)

only_own : (values : List (List (List ℕ))) (key : List ℕ) (e : KeyEntry) (rows : List Row) → has_key key e ≡ true → own_at key rows ≡ None
    → own_at key (row_of_key values e ∷ rows) ≡ Some (row_of_key values e)
only_own values key e rows same none =
    ap (λ (b : Bool). newer (cond b (Some (row_of_key values e)) None) (own_at key rows)) (own_is values key e ∙ same)
    ∙ ap (newer (Some (row_of_key values e))) none

found_of : (values : List (List (List ℕ))) (key : List ℕ) (e : KeyEntry) (es : List KeyEntry) → has_key key e ≡ true → row_found values (find (has_key key) (e ∷ es)) ≡ Some (row_of_key values e)
found_of values key e es same = rw same refl

passed : (values : List (List (List ℕ))) (key : List ℕ) (e : KeyEntry) (es : List KeyEntry) → has_key key e ≡ false
    → row_found values (find (has_key key) (e ∷ es)) ≡ row_found values (find (has_key key) es)
passed values key e es other = rw other refl

eq_is : (c : Ordering) → is_eq c ≡ true → c ≡ Equal
eq_is Less e = absurd cc
eq_is Equal e = refl
eq_is Greater e = absurd cc

-- what stands above a key is not it
apart_from : (k : List ℕ) (es : List KeyEntry) (key : List ℕ) → Rise (Some k) es → is_eq (slice_cmp nat_cmp k key) ≡ true → find (has_key key) es ≡ None
apart_from k [] key r same = refl
apart_from k (x ∷ xs) key r same =
    let less : slice_cmp nat_cmp key x.key ≡ Less =
    sym (nat_list_cmp_total.congr k key x.key (eq_is (slice_cmp nat_cmp k key) same)) ∙ less_is (slice_cmp nat_cmp k x.key) r.0 in
    none_from x xs key r.1 (ap is_gt (turned_back key x.key less))

keys_own : (values : List (List (List ℕ))) (key : List ℕ) (last : Option (List ℕ)) (es : List KeyEntry) → Rise last es
    → own_at key (map (row_of_key values) es) ≡ row_found values (find (has_key key) es)
keys_own values key last [] r = refl
keys_own values key last (e ∷ es) r = by (has_key key e) refl (keys_own values key (Some e.key) es r.1)
  where
    by : (test : Bool) → has_key key e ≡ test → own_at key (map (row_of_key values) es) ≡ row_found values (find (has_key key) es)
        → own_at key (map (row_of_key values) (e ∷ es)) ≡ row_found values (find (has_key key) (e ∷ es))
    by true is rest =
        only_own values key e (map (row_of_key values) es) is (rest ∙ ap (row_found values) (apart_from e.key es key r.1 is))
        ∙ sym (found_of values key e es is)
    by false is rest = no_own values key e (map (row_of_key values) es) is ∙ rest ∙ sym (passed values key e es is)

pub own_found : (prefixes : List Entry) (keys : List KeyEntry) (values : List (List (List ℕ))) (key : List ℕ) → AreKeys None keys
    → own_at key (set_rows prefixes keys values) ≡ row_found values (find (has_key key) keys)
own_found prefixes keys values key are =
    own_behind key prefixes (map (row_of_key values) keys) ∙ keys_own values key None keys (rise None keys are)

-- ---- prefix deletes that cover a key

keys_cover : (values : List (List (List ℕ))) (key : List ℕ) (es : List KeyEntry) → covered_at key (map (row_of_key values) es) ≡ None
keys_cover values key [] = refl
keys_cover values key (e ∷ es) =
    ap (λ (b : Bool). greater (cond b (Some e.number) None) (covered_at key (map (row_of_key values) es))) (covers_not_by values e.number e.key key e.value)
    ∙ keys_cover values key es

pub covered_found : (prefixes : List Entry) (keys : List KeyEntry) (values : List (List (List ℕ))) (key : List ℕ)
    → covered_at key (set_rows prefixes keys values) ≡ covered_at key (rows_of prefixes)
covered_found [] keys values key = keys_cover values key keys
covered_found (p ∷ ps) keys values key =
    ap (greater (cond (is_covering key (row_of p)) (Some p.number) None)) (covered_found ps keys values key)

-- ---- the place of an edge

keys_before : (values : List (List (List ℕ))) (edge : List ℕ) (es : List KeyEntry) → place_of edge (map (row_of_key values) es) ≡ count_below edge es
keys_before values edge [] = refl
keys_before values edge (e ∷ es) = by (is_below edge e) (before_is_by values e.number e.key edge e.value) (keys_before values edge es)
  where
    by : (test : Bool) → is_before edge (row_of_key values e) ≡ test → place_of edge (map (row_of_key values) es) ≡ count_below edge es
        → length (cond (is_before edge (row_of_key values e)) (row_of_key values e ∷ filter (is_before edge) (map (row_of_key values) es)) (filter (is_before edge) (map (row_of_key values) es)))
        ≡ length (cond test (e ∷ filter (is_below edge) es) (filter (is_below edge) es))
    by true is rest = rw is (ap suc rest)
    by false is rest = rw is rest

pub placed : (prefixes : List Entry) (keys : List KeyEntry) (values : List (List (List ℕ))) (edge : List ℕ)
    → length prefixes + count_below edge keys ≡ place_of edge (set_rows prefixes keys values)
placed [] keys values edge = let rest = keys_before values edge keys in omega (arith, rest)
placed (p ∷ ps) keys values edge = let rest = placed ps keys values edge in omega (arith, rest)

-- ---- a row by its place

pub counted_rows : (prefixes : List Entry) (keys : List KeyEntry) (values : List (List (List ℕ))) → length (set_rows prefixes keys values) ≡ length prefixes + length keys
counted_rows [] [] values = refl
counted_rows [] (e ∷ es) values = let rest = counted_rows [] es values in omega (arith, rest)
counted_rows (p ∷ ps) keys values = let rest = counted_rows ps keys values in omega (arith, rest)

pub prefix_at : (prefixes : List Entry) (keys : List KeyEntry) (values : List (List (List ℕ))) (at : ℕ) (p : Entry) → slice_get prefixes at ≡ Some p
    → slice_get (set_rows prefixes keys values) at ≡ Some (row_of p)
prefix_at [] keys values at p is = absurd cc
prefix_at (q ∷ qs) keys values zero p is = let same : q ≡ p = cc in ap (λ (e : Entry). Some (row_of e)) same
prefix_at (q ∷ qs) keys values (suc at) p is = prefix_at qs keys values at p is

key_at : (keys : List KeyEntry) (values : List (List (List ℕ))) (at : ℕ) (e : KeyEntry) → slice_get keys at ≡ Some e
    → slice_get (map (row_of_key values) keys) at ≡ Some (row_of_key values e)
key_at [] values at e is = absurd cc
key_at (x ∷ xs) values zero e is = let same : x ≡ e = cc in ap (λ (y : KeyEntry). Some (row_of_key values y)) same
key_at (x ∷ xs) values (suc at) e is = key_at xs values at e is

pub key_behind : (prefixes : List Entry) (keys : List KeyEntry) (values : List (List (List ℕ))) (at : ℕ) (e : KeyEntry) → length prefixes ≤ at
    → slice_get keys (at - length prefixes) ≡ Some e → slice_get (set_rows prefixes keys values) at ≡ Some (row_of_key values e)
key_behind [] keys values at e le is =
    let whole : at - length {A = Entry} [] ≡ at = omega arith in
    key_at keys values at e (ap (slice_get keys) (sym whole) ∙ is)
key_behind (p ∷ ps) keys values zero e le is = absurd (omega (arith, le))
key_behind (p ∷ ps) keys values (suc at) e le is =
    let less : at - length ps ≡ suc at - length (p ∷ ps) = omega arith in
    key_behind ps keys values at e (omega (arith, le)) (ap (slice_get keys) less ∙ is)

-- ---- rows in order

cmp_keys_by : (values : List (List (List ℕ))) (m n : ℕ) (a b : List ℕ) (p q : Option ValuePlace)
    → row_cmp (record { number = m; change = change_of_key values a p }) (record { number = n; change = change_of_key values b q }) ≡ slice_cmp nat_cmp a b
cmp_keys_by values m n a b None None = refl
cmp_keys_by values m n a b None (Some q) = refl
cmp_keys_by values m n a b (Some p) None = refl
cmp_keys_by values m n a b (Some p) (Some q) = refl

cmp_prefix_by : (values : List (List (List ℕ))) (p : Entry) (n : ℕ) (b : List ℕ) (q : Option ValuePlace)
    → row_cmp (row_of p) (record { number = n; change = change_of_key values b q }) ≡ Less
cmp_prefix_by values p n b None = refl
cmp_prefix_by values p n b (Some q) = refl

all_above : (values : List (List (List ℕ))) (e : KeyEntry) (k : List ℕ) (es : List KeyEntry) → slice_cmp nat_cmp e.key k ≡ Less → Rise (Some k) es
    → AllByRecursion (λ (row : Row). row_cmp (row_of_key values e) row ≡ Less) (map (row_of_key values) es)
all_above values e k [] less r = tt
all_above values e k (x ∷ xs) less r =
    let more = nat_list_cmp_total.trans e.key k x.key less (less_is (slice_cmp nat_cmp k x.key) r.0) in
    (cmp_keys_by values e.number x.number e.key x.key e.value x.value ∙ more, all_above values e x.key xs more r.1)

above_first : (values : List (List (List ℕ))) (e : KeyEntry) (es : List KeyEntry) → Rise (Some e.key) es
    → AllByRecursion (λ (row : Row). row_cmp (row_of_key values e) row ≡ Less) (map (row_of_key values) es)
above_first values e [] r = tt
above_first values e (x ∷ xs) r =
    let less = less_is (slice_cmp nat_cmp e.key x.key) r.0 in
    (cmp_keys_by values e.number x.number e.key x.key e.value x.value ∙ less, all_above values e x.key xs less r.1)

keys_sorted : (values : List (List (List ℕ))) (last : Option (List ℕ)) (es : List KeyEntry) → Rise last es → IsStrictlySortedBy row_cmp (map (row_of_key values) es)
unfolding IsStrictlySortedBy
keys_sorted values last [] r = tt
keys_sorted values last (e ∷ es) r = (above_first values e es r.1, keys_sorted values (Some e.key) es r.1)

keys_behind : (values : List (List (List ℕ))) (p : Entry) (es : List KeyEntry) → AllByRecursion (λ (row : Row). row_cmp (row_of p) row ≡ Less) (map (row_of_key values) es)
keys_behind values p [] = tt
keys_behind values p (e ∷ es) = (cmp_prefix_by values p e.number e.key e.value, keys_behind values p es)

all_behind : (values : List (List (List ℕ))) (p : Entry) (ps : List Entry) (es : List KeyEntry) → AllByRecursion (λ (q : Entry). prefix_cmp p q ≡ Less) ps
    → AllByRecursion (λ (row : Row). row_cmp (row_of p) row ≡ Less) (set_rows ps es values)
all_behind values p [] es all = keys_behind values p es
all_behind values p (q ∷ qs) es all = (all.0, all_behind values p qs es all.1)

sorted_rows : (values : List (List (List ℕ))) (ps : List Entry) (es : List KeyEntry) → IsStrictlySortedBy prefix_cmp ps → Rise None es → IsStrictlySortedBy row_cmp (set_rows ps es values)
unfolding IsStrictlySortedBy
sorted_rows values [] es s r = keys_sorted values None es r
sorted_rows values (p ∷ ps) es s r = (all_behind values p ps es s.0, sorted_rows values ps es s.1 r)

fits_by : (values : List (List (List ℕ))) (key : List ℕ) (place : Option ValuePlace) → IsKeyLength (length key) → FitsLimits (change_of_key values key place)
fits_by values key None fits = fits
fits_by values key (Some place) fits = fits

keys_fit : (values : List (List (List ℕ))) (last : Option (List ℕ)) (es : List KeyEntry) → AreKeys last es
    → AllByRecursion (λ (row : Row). FitsLimits row.change) (map (row_of_key values) es)
keys_fit values last [] are = tt
keys_fit values last (e ∷ es) are = (fits_by values e.key e.value (are.0.some, are.0.short), keys_fit values (Some e.key) es are.1)

rows_fit : (values : List (List (List ℕ))) (ps : List Entry) (es : List KeyEntry) → AllByRecursion (λ (p : Entry). IsPrefixLength (length p.prefix)) ps → AreKeys None es
    → AllByRecursion (λ (row : Row). FitsLimits row.change) (set_rows ps es values)
rows_fit values [] es fits are = keys_fit values None es are
rows_fit values (p ∷ ps) es fits are = (fits.0, rows_fit values ps es fits.1 are)

pub are_rows : (values : List (List (List ℕ))) (ps : List Entry) (es : List KeyEntry) → ArePrefixes ps → AreKeys None es → AreRows (set_rows ps es values)
are_rows values ps es prefixes keys = record {
  rising = sorted_rows values ps es prefixes.rising (rise None es keys);
  within = rows_fit values ps es prefixes.within keys;
}

-- ---- values that are there

pub met_found : (values : List (List (List ℕ))) (key : List ℕ) (es : List KeyEntry) (e : KeyEntry) → AreMet values es → find (has_key key) es ≡ Some e → is_met values e.value ≡ true
met_found values key [] e met is = absurd cc
met_found values key (x ∷ xs) e met is = by (has_key key x) refl is (λ more. met_found values key xs e met.1 more)
  where
    by : (test : Bool) → has_key key x ≡ test → find (has_key key) (x ∷ xs) ≡ Some e → (find (has_key key) xs ≡ Some e → is_met values e.value ≡ true) → is_met values e.value ≡ true
    by true t is' behind =
        let here : find (has_key key) (x ∷ xs) ≡ Some x = rw t refl in
        let both : Some x ≡ Some e = sym here ∙ is' in
        let same : x ≡ e = cc in
        subst (λ (y : KeyEntry). is_met values y.value ≡ true) same met.0
    by false t is' behind =
        let there : find (has_key key) (x ∷ xs) ≡ find (has_key key) xs = rw t refl in
        behind (sym there ∙ is')

pub met_at : (values : List (List (List ℕ))) (es : List KeyEntry) (at : ℕ) (e : KeyEntry) → AreMet values es → slice_get es at ≡ Some e → is_met values e.value ≡ true
met_at values [] at e met is = absurd cc
met_at values (x ∷ xs) zero e met is = let same : x ≡ e = cc in subst (λ (y : KeyEntry). is_met values y.value ≡ true) same met.0
met_at values (x ∷ xs) (suc at) e met is = met_at values xs at e met.1 is
