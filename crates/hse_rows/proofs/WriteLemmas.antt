-- Writes: which a later one hides, beside their order.
use Rattle.std.proofs.Common.{◌≡◌, ℕ, ◌<◌, ◌≤◌, Result, Ok, Err, length, slice_set, insert, subst, Bool, true, false, true≢false, cond, not, ◌&&◌, ◌||◌, ◌==◌, List, [], ◌∷◌, ◌++◌, append_assoc, append-nil, refl, ap, sym, ◌∙◌}
use Rattle.std.specs.declared.cmp.Ordering.TheVariants.{Less}
use Rattle.std.specs.Ordering.{is_lt, is_eq, eq_by_cmp, nat_cmp}
use Rattle.std.specs.Cmp.{IsTotalOrder, then_total, on_total, nat_cmp_total, unsigned_ties, tied_then}
use Rattle.std.specs.Cmp.Lexicographic.{nat_list_cmp_total, texts_ties}
use Rattle.std.specs.List.{AllByRecursion, filter, fold, list_any}
use Rattle.std.specs.List.Sorted.{IsStrictlySortedBy, IsBinarySearchResult}
use Rattle.hse_rows.specs.declared.change.Change.{Change}
use Rattle.hse_rows.specs.declared.change.Change.TheVariants.{Put, Del, PDel}
use Rattle.hse_rows.specs.declared.store.StoreId.{StoreId}
use Rattle.hse_rows.specs.declared.write.Write.{Write}
use Rattle.hse_rows.specs.writes.Change.{target}
use Rattle.hse_rows.specs.writes.NormalForm.{same, hides, lasting, rank, write_cmp, normal_form, stays, added, replaced}
use Rattle.hse_rows.specs.writes.Sorted.{sorted, placed}
use Rattle.hse_rows.proofs.SortedLemmas.{each-weaker, filter-all, filter-alike, filter-sorted, sorted-last, sorted-rising, parted, rising-filter, rising-replaced, turned, set-found, IsPlace, searchable, insert-missing, apart-missing}

pub rising-none : IsStrictlySortedBy write_cmp []
unfolding IsStrictlySortedBy
rising-none = tt

pub write_order : IsTotalOrder write_cmp
write_order =
    then_total (on_total (λ (w : Write). rank w.change) nat_cmp_total)
    (then_total (on_total (λ (w : Write). w.store.0) nat_cmp_total)
    (on_total (λ (w : Write). target w.change) nat_list_cmp_total))

-- whether two writes are of one place: both of a key or both of a prefix, of one store, with the same bytes
abbrev pub ties : Write → Write → Bool
ties x y = eq_by_cmp write_cmp x y

tie_parts : (x y : Write) → ties x y ≡ ((rank x.change == rank y.change) && ((x.store.0 == y.store.0) && same (target x.change) (target y.change)))
tie_parts x y =
    sym (tied_then _ _)
    ∙ ap (λ b. is_eq (nat_cmp (rank x.change) (rank y.change)) && b) (sym (tied_then _ _))
    ∙ (λ i. sym (unsigned_ties (rank x.change) (rank y.change)) i
    && (sym (unsigned_ties x.store.0 y.store.0) i && sym (texts_ties (target x.change) (target y.change)) i))

of : StoreId → Change → Write
of s c = record { store = s; change = c }

and_false : (b : Bool) → (b && false) ≡ false
and_false true = refl
and_false false = refl

-- a change of a key hides just what is of its place
pub IsOfKey : Change → Type 0
IsOfKey (Put key value) = Unit {0}
IsOfKey (Del key) = Unit {0}
IsOfKey (PDel prefix) = ⊥

pub IsOfPrefix : Change → Type 0
IsOfPrefix (Put key value) = ⊥
IsOfPrefix (Del key) = ⊥
IsOfPrefix (PDel prefix) = Unit {0}

hides-key_parts : (s t : StoreId) (c d : Change) → IsOfKey c → hides (record { store = s; change = c }) (record { store = t; change = d }) ≡ ((rank c == rank d) && ((s.0 == t.0) && same (target c) (target d)))
unfolding IsOfKey
hides-key_parts s t (Put key value) (Put other w) k = refl
hides-key_parts s t (Put key value) (Del other) k = refl
hides-key_parts s t (Put key value) (PDel prefix) k = and_false (s.0 == t.0)
hides-key_parts s t (Del key) (Put other w) k = refl
hides-key_parts s t (Del key) (Del other) k = refl
hides-key_parts s t (Del key) (PDel prefix) k = and_false (s.0 == t.0)
hides-key_parts s t (PDel prefix) d k = absurd k

pub hides-key : (x y : Write) → IsOfKey x.change → hides x y ≡ ties x y
hides-key x y k = hides-key_parts x.store y.store x.change y.change k ∙ sym (tie_parts x y)

hides-prefix_parts : (s t : StoreId) (c d : Change) → IsOfPrefix d → hides (record { store = s; change = c }) (record { store = t; change = d }) ≡ ((rank c == rank d) && ((s.0 == t.0) && same (target c) (target d)))
unfolding IsOfPrefix
hides-prefix_parts s t (Put key value) (PDel prefix) k = and_false (s.0 == t.0)
hides-prefix_parts s t (Del key) (PDel prefix) k = and_false (s.0 == t.0)
hides-prefix_parts s t (PDel prefix) (PDel other) k = refl
hides-prefix_parts s t c (Put key value) k = absurd k
hides-prefix_parts s t c (Del key) k = absurd k

-- and so does any change among the prefix deletes
pub hides-prefix : (x y : Write) → IsOfPrefix y.change → hides x y ≡ ties x y
hides-prefix x y k = hides-prefix_parts x.store y.store x.change y.change k ∙ sym (tie_parts x y)

-- what is of one place is hidden
tied-hidden_parts : (s t : StoreId) (c d : Change) → ties (record { store = s; change = c }) (record { store = t; change = d }) ≡ true → hides (record { store = s; change = c }) (record { store = t; change = d }) ≡ true
tied-hidden_parts s t (Put key value) d tied = hides-key (record { store = s; change = Put key value }) (record { store = t; change = d }) (unfold IsOfKey in tt) ∙ tied
tied-hidden_parts s t (Del key) d tied = hides-key (record { store = s; change = Del key }) (record { store = t; change = d }) (unfold IsOfKey in tt) ∙ tied
tied-hidden_parts s t (PDel prefix) (PDel other) tied = hides-prefix (record { store = s; change = PDel prefix }) (record { store = t; change = PDel other }) (unfold IsOfPrefix in tt) ∙ tied
tied-hidden_parts s t (PDel prefix) (Put key value) tied = absurd (true≢false (sym tied ∙ tie_parts (record { store = s; change = PDel prefix }) (record { store = t; change = Put key value })))
tied-hidden_parts s t (PDel prefix) (Del key) tied = absurd (true≢false (sym tied ∙ tie_parts (record { store = s; change = PDel prefix }) (record { store = t; change = Del key })))

pub tied-hidden : (x y : Write) → ties x y ≡ true → hides x y ≡ true
tied-hidden x y tied = tied-hidden_parts x.store y.store x.change y.change tied

-- in the order of writes none hides one before it
below-parts : (s t : StoreId) (c d : Change) → write_cmp (record { store = t; change = d }) (record { store = s; change = c }) ≡ Less → hides (record { store = s; change = c }) (record { store = t; change = d }) ≡ false
below-parts s t (Put key value) d less =
    hides-key (record { store = s; change = Put key value }) (record { store = t; change = d }) (unfold IsOfKey in tt)
    ∙ ap is_eq (turned write_order (record { store = t; change = d }) (record { store = s; change = Put key value }) Less less)
below-parts s t (Del key) d less =
    hides-key (record { store = s; change = Del key }) (record { store = t; change = d }) (unfold IsOfKey in tt)
    ∙ ap is_eq (turned write_order (record { store = t; change = d }) (record { store = s; change = Del key }) Less less)
below-parts s t (PDel prefix) (PDel other) less =
    hides-prefix (record { store = s; change = PDel prefix }) (record { store = t; change = PDel other }) (unfold IsOfPrefix in tt)
    ∙ ap is_eq (turned write_order (record { store = t; change = PDel other }) (record { store = s; change = PDel prefix }) Less less)
below-parts s t (PDel prefix) (Put key value) less = absurd (true≢false (sym (ap is_lt less)))
below-parts s t (PDel prefix) (Del key) less = absurd (true≢false (sym (ap is_lt less)))

pub unhidden-before : (earlier later : Write) → write_cmp earlier later ≡ Less → hides later earlier ≡ false
unhidden-before earlier later less = below-parts later.store earlier.store later.change earlier.change less

any-last : (p : Write → Bool) (ws : List Write) (x : Write) → list_any p (ws ++ x ∷ []) ≡ (list_any p ws || p x)
any-last p [] x = elim (p x) as (λ b. (b || false) ≡ b) [ true ↦ refl | false ↦ refl ]
any-last p (w ∷ ws) x = elim (p w) as (λ b. (b || list_any p (ws ++ x ∷ [])) ≡ ((b || list_any p ws) || p x)) [ true ↦ refl | false ↦ any-last p ws x ]

lasting-last_by : (w x : Write) (ws : List Write) (a b : Bool) → hides x w ≡ b → cond (a || b) (filter (stays x) (lasting ws) ++ x ∷ []) (w ∷ (filter (stays x) (lasting ws) ++ x ∷ [])) ≡ filter (stays x) (cond a (lasting ws) (w ∷ lasting ws)) ++ x ∷ []
lasting-last_by w x ws true b is = refl
lasting-last_by w x ws false true is = ap (λ b. cond (not b) (w ∷ filter (stays x) (lasting ws)) (filter (stays x) (lasting ws)) ++ x ∷ []) (sym is)
lasting-last_by w x ws false false is = ap (λ b. cond (not b) (w ∷ filter (stays x) (lasting ws)) (filter (stays x) (lasting ws)) ++ x ∷ []) (sym is)

-- a new write lasts, and of the others those that it does not hide
pub lasting-last : (ws : List Write) (x : Write) → lasting (ws ++ x ∷ []) ≡ filter (stays x) (lasting ws) ++ x ∷ []
lasting-last [] x = refl
lasting-last (w ∷ ws) x =
    ap (λ b. cond b (lasting (ws ++ x ∷ [])) (w ∷ lasting (ws ++ x ∷ []))) (any-last (λ l. hides l w) ws x)
    ∙ ap (λ l. cond (list_any (λ l. hides l w) ws || hides x w) l (w ∷ l)) (lasting-last ws x)
    ∙ lasting-last_by w x ws (list_any (λ l. hides l w) ws) (hides x w) refl

pub normal_form-last : (ws : List Write) (x : Write) → normal_form (ws ++ x ∷ []) ≡ added (normal_form ws) x
unfolding normal_form
normal_form-last ws x =
    ap (sorted write_cmp) (lasting-last ws x)
    ∙ sorted-last write_order (filter (stays x) (lasting ws)) x
    ∙ ap (λ l. placed write_cmp l x) (sym (filter-sorted write_order (stays x) (lasting ws)))

none_hides : (w : Write) (ws : List Write) → AllByRecursion (λ l. write_cmp w l ≡ Less) ws → list_any (λ l. hides l w) ws ≡ false
none_hides w [] below = refl
none_hides w (l ∷ ws) below = ap (λ b. b || list_any (λ k. hides k w) ws) (unhidden-before w l below.0) ∙ none_hides w ws below.1

lasting-rising : (ws : List Write) → IsStrictlySortedBy write_cmp ws → lasting ws ≡ ws
unfolding IsStrictlySortedBy
lasting-rising [] rise = refl
lasting-rising (w ∷ ws) rise =
    ap (λ b. cond b (lasting ws) (w ∷ lasting ws)) (none_hides w ws rise.0)
    ∙ ap (λ l. w ∷ l) (lasting-rising ws rise.1)

-- writes in order are their own normal form
pub normal_form-rising : (ws : List Write) → IsStrictlySortedBy write_cmp ws → normal_form ws ≡ ws
unfolding normal_form
normal_form-rising ws rise =
    ap (sorted write_cmp) (lasting-rising ws rise) ∙ sorted-rising write_order ws rise

-- putting a write over what is of its place: enough where the write is of a key
pub replaced-key : (set : List Write) (x : Write) → IsOfKey x.change → replaced set x ≡ added set x
replaced-key set x k =
    ap (λ l. placed write_cmp l x)
    (filter-alike (parted write_order x) (stays x) (λ y. ap not (sym (hides-key x y k))) set)

-- or where what it hides is gone already
pub replaced-dropped : (set : List Write) (x : Write) → replaced (filter (stays x) set) x ≡ added set x
replaced-dropped set x = ap (λ l. placed write_cmp l x) (filter-all _ _ (parted-dropped set))
  where
    parted-dropped_by : (y : Write) (ys : List Write) (b : Bool) → hides x y ≡ b → AllByRecursion (λ z. parted write_order x z ≡ true) (filter (stays x) ys) → AllByRecursion (λ z. parted write_order x z ≡ true) (cond (not b) (y ∷ filter (stays x) ys) (filter (stays x) ys))
    parted-dropped_by y ys true is all = all
    parted-dropped_by y ys false is all = (apart (ties x y) refl, all)
      where
        apart : (b : Bool) → ties x y ≡ b → not (ties x y) ≡ true
        apart true tied = absurd (true≢false (sym (tied-hidden x y tied) ∙ is))
        apart false tied = ap not tied

    parted-dropped : (ys : List Write) → AllByRecursion (λ z. parted write_order x z ≡ true) (filter (stays x) ys)
    parted-dropped [] = tt
    parted-dropped (y ∷ ys) = parted-dropped_by y ys (hides x y) refl (parted-dropped ys)

pub rising-replaced_write : (set : List Write) (x : Write) → IsStrictlySortedBy write_cmp set → IsStrictlySortedBy write_cmp (replaced set x)
rising-replaced_write set x rise = rising-replaced write_order set x rise

pub rising-stays : (set : List Write) (x : Write) → IsStrictlySortedBy write_cmp set → IsStrictlySortedBy write_cmp (filter (stays x) set)
rising-stays set x rise = rising-filter write_order (stays x) set rise

pub rising-added : (set : List Write) (x : Write) → IsStrictlySortedBy write_cmp set → IsStrictlySortedBy write_cmp (added set x)
rising-added set x rise =
    subst (IsStrictlySortedBy write_cmp) (replaced-dropped set x)
    (rising-replaced_write (filter (stays x) set) x (rising-stays set x rise))

-- what a search for a write's place answers
abbrev pub Searched : List Write → Write → Result ℕ ℕ → Type 0
Searched set x place = IsBinarySearchResult (λ w. write_cmp w x) set place

pub set-searched : (set : List Write) (x : Write) (i : ℕ) → IsStrictlySortedBy write_cmp set → i < length set → Searched set x (Ok i) → slice_set set i x ≡ replaced set x
set-searched set x i rise in' found = set-found write_order set x i x rise in' (found x)

place-searched : (set : List Write) (x : Write) (i : ℕ) → IsStrictlySortedBy write_cmp set → i ≤ length set → Searched set x (Err i) → IsPlace write_order set x i
place-searched set x i rise within missing =
    let parts = missing (searchable write_order set x rise) in
    record { within = within; below = parts.0; above = parts.1 }

filter-missing : (set : List Write) (x : Write) (i : ℕ) → IsPlace write_order set x i → filter (parted write_order x) set ≡ set
filter-missing set x i place =
    filter-all (parted write_order x) set
    (each-weaker (λ y h. ap not h) set (apart-missing write_order set x i place))

pub insert-searched : (set : List Write) (x : Write) (i : ℕ) → IsStrictlySortedBy write_cmp set → i ≤ length set → Searched set x (Err i) → insert set i x ≡ replaced set x
insert-searched set x i rise within missing =
    let place = place-searched set x i rise within missing in
    insert-missing write_order set x i place
    ∙ ap (λ l. placed write_cmp l x) (sym (filter-missing set x i place))

pub is_of_key : (c : Change) → ((prefix : List ℕ) → c ≡ PDel prefix → ⊥) → IsOfKey c
unfolding IsOfKey
is_of_key (Put key value) not_prefix = tt
is_of_key (Del key) not_prefix = tt
is_of_key (PDel prefix) not_prefix = not_prefix prefix refl

-- a write of a key that has no place yet hides nothing
pub stays-missing : (set : List Write) (x : Write) (i : ℕ) → IsOfKey x.change → IsStrictlySortedBy write_cmp set → i ≤ length set → Searched set x (Err i) → filter (stays x) set ≡ set
stays-missing set x i k rise within missing =
    filter-alike (stays x) (parted write_order x) (λ y. ap not (hides-key x y k)) set
    ∙ filter-missing set x i (place-searched set x i rise within missing)

-- a normal form is what its writes make, one added to the other
fold-added : (before ws : List Write) → fold added (normal_form before) ws ≡ normal_form (before ++ ws)
fold-added before [] = ap normal_form (sym (append-nil before))
fold-added before (w ∷ ws) =
    ap (λ set. fold added set ws) (sym (normal_form-last before w))
    ∙ fold-added (before ++ w ∷ []) ws
    ∙ ap normal_form (append_assoc before (w ∷ []) ws)

rising-fold : (set ws : List Write) → IsStrictlySortedBy write_cmp set → IsStrictlySortedBy write_cmp (fold added set ws)
rising-fold set [] rise = rise
rising-fold set (w ∷ ws) rise = rising-fold (added set w) ws (rising-added set w rise)

-- and so it rises
pub rising-normal_form : (ws : List Write) → IsStrictlySortedBy write_cmp (normal_form ws)
unfolding normal_form
rising-normal_form ws =
    subst (IsStrictlySortedBy write_cmp) (fold-added [] ws) (rising-fold (normal_form []) ws rising-none)
