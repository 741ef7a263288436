-- What writes take together, as writes come and go.
use Rattle.std.proofs.Common.{◌≡◌, ℕ, ◌+◌, ◌-◌, ◌<◌, ◌≤◌, Bool, true, false, cond, not, List, [], ◌∷◌, ◌++◌, Ok, Err, length, take, get_or, slice_set, refl, ap, sym, ◌∙◌, arith, zero-add}
use Rattle.std.specs.declared.cmp.Ordering.{Ordering}
use Rattle.std.specs.Ordering.{is_lt}
use Rattle.std.specs.List.{filter, sum_by, fold, list_any}
use Rattle.std.specs.List.Sorted.{IsStrictlySortedBy}
use Rattle.std.proofs.lemmas.List.Sums.{sum_by-cons, sum_by-append, sum_by_more, sum_by-take-le, sum_by-set}
use Rattle.std.proofs.lemmas.List.Elements.{filter_more}
use Rattle.hse_rows.specs.declared.write.Write.{Write}
use Rattle.hse_rows.specs.writes.Charge.{change_bytes, writes_bytes, charge_of}
use Rattle.hse_rows.specs.writes.NormalForm.{write_cmp, hides, stays, added, lasting, normal_form}
use Rattle.hse_rows.specs.writes.Sorted.{placed}
use Rattle.hse_rows.proofs.WriteLemmas.{Searched, IsOfKey, set-searched, replaced-key, stays-missing, normal_form-last, normal_form-rising}

module _ {X : Type 0} (f : X → ℕ) where
  sum_by-filter_le_by : (b : Bool) (x : X) (us xs : List X) → sum_by f us ≤ sum_by f xs → sum_by f (cond b (x ∷ us) us) ≤ sum_by f (x ∷ xs)
  sum_by-filter_le_by true x us xs le = omega (arith, sum_by-cons f x us, sum_by-cons f x xs)
  sum_by-filter_le_by false x us xs le = omega (arith, sum_by-cons f x xs)

  pub sum_by-filter_le : (p : X → Bool) (xs : List X) → sum_by f (filter p xs) ≤ sum_by f xs
  sum_by-filter_le p [] = omega arith
  sum_by-filter_le p (x ∷ xs) = sum_by-filter_le_by (p x) x (filter p xs) xs (sum_by-filter_le p xs)

  sum_by-placed_by : (b : Bool) (x y : X) (us ys : List X) → sum_by f us ≡ sum_by f ys + f x → sum_by f (cond b (x ∷ y ∷ ys) (y ∷ us)) ≡ sum_by f (y ∷ ys) + f x
  sum_by-placed_by true x y us ys is = omega (arith, sum_by-cons f x (y ∷ ys), sum_by-cons f y ys)
  sum_by-placed_by false x y us ys is = omega (arith, sum_by-cons f y us, sum_by-cons f y ys, is)

  pub sum_by-placed : (R : X → X → Ordering) (xs : List X) (x : X) → sum_by f (placed R xs x) ≡ sum_by f xs + f x
  sum_by-placed R [] x = refl
  sum_by-placed R (y ∷ ys) x = sum_by-placed_by (is_lt (R x y)) x y (placed R ys x) ys (sum_by-placed R ys x)

abbrev pub bytes_of : Write → ℕ
bytes_of w = change_bytes w.change

-- one more write adds its bytes to those of the writes that stay
pub bytes-added : (set : List Write) (x : Write) → writes_bytes (added set x) ≡ writes_bytes (filter (stays x) set) + bytes_of x
bytes-added set x = sum_by-placed bytes_of write_cmp (filter (stays x) set) x

-- a step of the walk over the writes that stay
pub walk-kept : (x : Write) (set : List Write) (i : ℕ) (d : Write) → i < length set → hides x (get_or set i d) ≡ false → writes_bytes (filter (stays x) (take (i + 1) set)) ≡ writes_bytes (filter (stays x) (take i set)) + bytes_of (get_or set i d)
walk-kept x set i d in' stays' =
    ap writes_bytes (filter_more (stays x) set i d in')
    ∙ ap (λ b. writes_bytes (filter (stays x) (take i set) ++ cond (not b) (get_or set i d ∷ []) [])) stays'
    ∙ sum_by-append bytes_of (filter (stays x) (take i set)) (get_or set i d ∷ [])
    ∙ omega arith

pub walk-hidden : (x : Write) (set : List Write) (i : ℕ) (d : Write) → i < length set → hides x (get_or set i d) ≡ true → writes_bytes (filter (stays x) (take (i + 1) set)) ≡ writes_bytes (filter (stays x) (take i set))
walk-hidden x set i d in' gone =
    ap writes_bytes (filter_more (stays x) set i d in')
    ∙ ap (λ b. writes_bytes (filter (stays x) (take i set) ++ cond (not b) (get_or set i d ∷ []) [])) gone
    ∙ sum_by-append bytes_of (filter (stays x) (take i set)) []
    ∙ omega arith

-- and its sum is within that of all
pub walk-fits : (x : Write) (set : List Write) (i : ℕ) (d : Write) → i < length set → writes_bytes (filter (stays x) (take i set)) + bytes_of (get_or set i d) ≤ writes_bytes set
walk-fits x set i d in' =
    omega (arith, sum_by-filter_le bytes_of (stays x) (take i set), sum_by_more bytes_of set i d in', sum_by-take-le bytes_of set (i + 1))

-- a write of a key hides at most what its search finds
pub kept-found : (set : List Write) (x : Write) (i : ℕ) (old : Write) → IsOfKey x.change → IsStrictlySortedBy write_cmp set → i < length set → Searched set x (Ok i) → old ≡ get_or set i old → writes_bytes set - bytes_of old ≡ writes_bytes (filter (stays x) set)
kept-found list x i old k rise in' found is =
    let after : slice_set list i x ≡ added list x = set-searched list x i rise in' found ∙ replaced-key list x k in
    let sums : writes_bytes (filter (stays x) list) + bytes_of x ≡ writes_bytes (slice_set list i x) = sym (bytes-added list x) ∙ ap writes_bytes (sym after) in
    let swapped : writes_bytes (slice_set list i x) + bytes_of (get_or list i old) ≡ writes_bytes list + bytes_of x = sum_by-set bytes_of list i x old in' in
    let same : bytes_of old ≡ bytes_of (get_or list i old) = ap bytes_of is in
    omega (arith, sums, swapped, same)

pub kept-missing : (set : List Write) (x : Write) (i : ℕ) → IsOfKey x.change → IsStrictlySortedBy write_cmp set → i ≤ length set → Searched set x (Err i) → writes_bytes set ≡ writes_bytes (filter (stays x) set)
kept-missing set x i k rise within missing = ap writes_bytes (sym (stays-missing set x i k rise within missing))

-- the normal form of writes in order and one more, and what it takes
pub next-is-added : (set : List Write) (x : Write) → IsStrictlySortedBy write_cmp set → normal_form (set ++ x ∷ []) ≡ added set x
next-is-added set x rise = normal_form-last set x ∙ ap (λ l. added l x) (normal_form-rising set rise)

pub next-bytes : (set : List Write) (x : Write) → IsStrictlySortedBy write_cmp set → writes_bytes (filter (stays x) set) + bytes_of x ≡ writes_bytes (normal_form (set ++ x ∷ []))
next-bytes set x rise = sym (ap writes_bytes (next-is-added set x rise) ∙ bytes-added set x)

-- the same behind any writes of this normal form
pub next-of-all : (set writes : List Write) (x : Write) → set ≡ normal_form writes → added set x ≡ normal_form (writes ++ x ∷ [])
next-of-all set writes x is = ap (λ l. added l x) is ∙ sym (normal_form-last writes x)

sum_by-sorted : (f : Write → ℕ) (set ws : List Write) → sum_by f (fold (placed write_cmp) set ws) ≡ sum_by f set + sum_by f ws
sum_by-sorted f set [] = omega arith
sum_by-sorted f set (w ∷ ws) =
    let more = sum_by-sorted f (placed write_cmp set w) ws in
    let one = sum_by-placed f write_cmp set w in
    more ∙ omega (arith, one, sum_by-cons f w ws)

-- a sum over the normal form is that over the lasting writes
pub sum_by-normal_form : (f : Write → ℕ) (ws : List Write) → sum_by f (normal_form ws) ≡ sum_by f (lasting ws)
unfolding normal_form
sum_by-normal_form f ws = sum_by-sorted f [] (lasting ws) ∙ zero-add _

lasting_le_by : (b : Bool) (w : Write) (us ws : List Write) → writes_bytes us ≤ writes_bytes ws → writes_bytes (cond b us (w ∷ us)) ≤ writes_bytes (w ∷ ws)
lasting_le_by true w us ws le = omega (arith, sum_by-cons bytes_of w ws)
lasting_le_by false w us ws le = omega (arith, sum_by-cons bytes_of w ws, sum_by-cons bytes_of w us)

lasting_le : (ws : List Write) → writes_bytes (lasting ws) ≤ writes_bytes ws
lasting_le [] = omega arith
lasting_le (w ∷ ws) = lasting_le_by (list_any (λ l. hides l w) ws) w (lasting ws) ws (lasting_le ws)

-- one more write raises the charge by its bytes at most
pub charge-at-most : (ws : List Write) (x : Write) → charge_of (normal_form (ws ++ x ∷ [])) ≤ charge_of ws + bytes_of x
charge-at-most ws x =
    omega (arith, sum_by-normal_form bytes_of (ws ++ x ∷ []), lasting_le (ws ++ x ∷ []), sum_by-append bytes_of ws (x ∷ []))
