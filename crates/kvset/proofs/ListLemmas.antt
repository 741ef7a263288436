-- Lists by an index, and lists of what others stand for.
use Rattle.std.proofs.Common.{◌≡◌, ◌∙◌, ℕ, zero, suc, ◌+◌, ◌<◌, ◌≤◌, List, [], ◌∷◌, length, map, drop, get_or, Some, None, refl, sym, ap, arith}
use Rattle.std.specs.Prelude.{slice_get}

pub drop_next : {X : Type 0} (xs : List X) (i : ℕ) (d x : X) → i < length xs → x ≡ get_or xs i d → drop i xs ≡ x ∷ drop (i + 1) xs
drop_next [] i d x lt is = absurd (omega (arith, lt))
drop_next (y ∷ ys) zero d x lt is = ap (λ (z : _). z ∷ ys) (sym is)
drop_next (y ∷ ys) (suc i) d x lt is =
    let next : suc i + 1 ≡ suc (i + 1) = omega arith in
    drop_next ys i d x (omega (arith, lt)) is ∙ ap (λ (n : ℕ). x ∷ drop n (y ∷ ys)) (sym next)

pub drop_none : {X : Type 0} (xs : List X) (i : ℕ) → length xs ≤ i → drop i xs ≡ []
drop_none [] zero le = refl
drop_none [] (suc i) le = refl
drop_none (y ∷ ys) zero le = absurd (omega (arith, le))
drop_none (y ∷ ys) (suc i) le = drop_none ys i (omega (arith, le))

pub got_map : {X Y : Type 0} (f : X → Y) (xs : List X) (i : ℕ) (d x : X) → i < length xs → x ≡ get_or xs i d → slice_get (map f xs) i ≡ Some (f x)
got_map f [] i d x lt is = absurd (omega (arith, lt))
got_map f (y ∷ ys) zero d x lt is = ap (λ (z : _). Some (f z)) (sym is)
got_map f (y ∷ ys) (suc i) d x lt is = got_map f ys i d x (omega (arith, lt)) is

pub missed_map : {X Y : Type 0} (f : X → Y) (xs : List X) (i : ℕ) → length xs ≤ i → slice_get (map f xs) i ≡ None
missed_map f [] i le = refl
missed_map f (y ∷ ys) zero le = absurd (omega (arith, le))
missed_map f (y ∷ ys) (suc i) le = missed_map f ys i (omega (arith, le))

pub got_twice : {X Y Z : Type 0} (f : Y → Z) (g : X → Y) (xs : List X) (i : ℕ) (d x : X) → i < length xs → x ≡ get_or xs i d → slice_get (map f (map g xs)) i ≡ Some (f (g x))
got_twice f g [] i d x lt is = absurd (omega (arith, lt))
got_twice f g (y ∷ ys) zero d x lt is = ap (λ (z : _). Some (f (g z))) (sym is)
got_twice f g (y ∷ ys) (suc i) d x lt is = got_twice f g ys i d x (omega (arith, lt)) is

pub map_long : {X Y : Type 0} (f : X → Y) (xs : List X) → length (map f xs) ≡ length xs
map_long f [] = refl
map_long f (x ∷ xs) = ap suc (map_long f xs)

pub same_length : {X Y Z W : Type 0} (f : X → W) (h : Z → W) (g : Y → Z) (xs : List X) (ys : List Y) → map f xs ≡ map h (map g ys) → length xs ≡ length ys
same_length f h g xs ys e = sym (map_long f xs) ∙ ap length e ∙ map_long h (map g ys) ∙ map_long g ys
