-- The parts of a text are no longer than the whole.
use Rattle.std.specs.Prelude.{◌≡◌, ℕ, zero, suc, ◌+◌, ◌≤◌, ◌<◌, List, [], ◌∷◌, ◌++◌, length}
use Rattle.std.specs.List.{flat_map}
use Rattle.std.specs.Prelude.{map, take}
use Rattle.std.proofs.Common.{refl, sym, ap, subst, ◌∙◌, append_assoc, arith, get_or, length-append}
use Rattle.std.proofs.lemmas.List.{length-map, take_at, get_or-map, take_more, map_push, flat_map_more}
use Rattle.byteorder.specs.Endian.{big_bytes}
use Rattle.hse_fields.specs.LogReading.{change}
use Rattle.hse_fields.specs.LogText.{Kind, put, del, pdel, Change, code, change_text, head_text}
use Rattle.hse_rows.specs.declared.write.Write.{Write}
use Rattle.wal.specs.Logged.{logged, logged_all}

pub part_length : {X : Type 0} (f : X → List ℕ) (xs : List X) (i : ℕ) (d : X) → i < length xs
    → length (f (get_or xs i d)) ≤ length (flat_map f xs)
part_length f [] i d lt = absurd (omega arith)
part_length f (x ∷ xs) zero d lt = omega (arith, length-append (f x) (flat_map f xs))
part_length f (x ∷ xs) (suc i) d lt =
    let rest = part_length f xs i d (omega (arith, lt)) in
    omega (arith, rest, length-append (f x) (flat_map f xs))

pub count_length : {X : Type 0} (f : X → List ℕ) (xs : List X) → ((x : X) → 1 ≤ length (f x)) → length xs ≤ length (flat_map f xs)
count_length f [] some = omega arith
count_length f (x ∷ xs) some =
    let one = some x in
    let rest = count_length f xs some in
    omega (arith, one, rest, length-append (f x) (flat_map f xs))

-- the text of an element of a list that is spelled
pub part_of : {X Y : Type 0} (text : Y → List ℕ) (f : X → Y) (xs : List X) (i : ℕ) (x : X) → i < length xs → get_or xs i x ≡ x
    → length (text (f x)) ≤ length (flat_map text (map f xs))
part_of {X} {Y} text f xs i x lt is =
    let here : get_or (map f xs) i (f x) ≡ f x = get_or-map f xs i x (f x) lt ∙ ap f is in
    let part = part_length text (map f xs) i (f x) (omega (arith, lt, length-map xs f)) in
    subst (λ (y : Y). length (text y) ≤ length (flat_map text (map f xs))) here part

-- one element more is spelled
pub one_more : {X Y : Type 0} (text : Y → List ℕ) (f : X → Y) (xs : List X) (i : ℕ) (x : X) (beginning old new : List ℕ) → i < length xs → get_or xs i x ≡ x
    → old ≡ beginning ++ flat_map text (map f (take i xs)) → new ≡ old ++ text (f x) → new ≡ beginning ++ flat_map text (map f (take (i + 1) xs))
one_more {X} {Y} text f xs i x beginning old new lt is so_far next =
    let taken : map f (take (i + 1) xs) ≡ map f (take i xs) ++ f x ∷ [] =
    ap (λ (l : List X). map f l) (take_more xs i x lt ∙ ap (λ (y : X). take i xs ++ y ∷ []) is) ∙ map_push f (take i xs) x in
    next ∙ ap (λ (l : List ℕ). l ++ text (f x)) so_far ∙ flat_map_more text beginning (map f (take i xs)) (f x)
    ∙ ap (λ (l : List Y). beginning ++ flat_map text l) (sym taken)

pub change_some : (c : Change) → 1 ≤ length (change_text c)
change_some c = omega arith

-- several pieces behind one another
pub two_pieces : (start a b x y : List ℕ) → a ≡ start ++ x → b ≡ a ++ y → b ≡ start ++ (x ++ y)
two_pieces start a b x y e f = f ∙ ap (λ (l : List ℕ). l ++ y) e ∙ append_assoc start x y

pub three_pieces : (start a b c x y z : List ℕ) → a ≡ start ++ x → b ≡ a ++ y → c ≡ b ++ z → c ≡ start ++ (x ++ (y ++ z))
three_pieces start a b c x y z e f g =
    g ∙ ap (λ (l : List ℕ). l ++ z) (two_pieces start a b x y e f) ∙ append_assoc start (x ++ y) z ∙ ap (λ (l : List ℕ). start ++ l) (append_assoc x y z)

pub four_pieces : (start a b c d x y z w : List ℕ) → a ≡ start ++ x → b ≡ a ++ y → c ≡ b ++ z → d ≡ c ++ w → d ≡ start ++ (x ++ (y ++ (z ++ w)))
four_pieces start a b c d x y z w e f g h =
    h ∙ ap (λ (l : List ℕ). l ++ w) (three_pieces start a b c x y z e f g) ∙ append_assoc start (x ++ (y ++ z)) w
    ∙ ap (λ (l : List ℕ). start ++ l) (append_assoc x (y ++ z) w ∙ ap (λ (l : List ℕ). x ++ l) (append_assoc y z w))

-- ---- an entry that is put change by change

-- bytes, and an entry with its head and its first changes behind them
abbrev pub begun : List ℕ → ℕ → List Change → List Change → List ℕ
begun beginning number all changes = beginning ++ (big_bytes 8 number ++ (big_bytes 4 (length all) ++ flat_map change_text changes))

regroup : (beginning a b c : List ℕ) → beginning ++ (a ++ (b ++ c)) ≡ (beginning ++ (a ++ b)) ++ c
regroup beginning a b c = sym (append_assoc beginning (a ++ b) c ∙ ap (λ (l : List ℕ). beginning ++ l) (append_assoc a b c))

-- one change more is put
pub begun-more : (beginning : List ℕ) (number : ℕ) (all : List Change) (ws : List Write) (i : ℕ) (w : Write) (old new : List ℕ) → i < length ws
    → get_or ws i w ≡ w → old ≡ begun beginning number all (logged_all (take i ws)) → new ≡ old ++ change_text (logged w)
    → new ≡ begun beginning number all (logged_all (take (i + 1) ws))
begun-more beginning number all ws i w old new lt is so_far next =
    let head = big_bytes 8 number in
    let count = big_bytes 4 (length all) in
    one_more change_text logged ws i w (beginning ++ (head ++ count)) old new lt is (so_far ∙ regroup beginning head count (flat_map change_text (logged_all (take i ws)))) next
    ∙ sym (regroup beginning head count (flat_map change_text (logged_all (take (i + 1) ws))))

-- what was put is cut off again
pub cut_back : (beginning : List ℕ) (number : ℕ) (all changes : List Change) (bytes : List ℕ) → bytes ≡ begun beginning number all changes → take (length beginning) bytes ≡ beginning
cut_back beginning number all changes bytes e =
    ap (take (length beginning)) e ∙ take_at beginning (big_bytes 8 number ++ (big_bytes 4 (length all) ++ flat_map change_text changes)) (length beginning) refl

-- ---- what the code spells

pub put_spelled : (store : ℕ) (key value : List ℕ)
    → 1 ∷ (big_bytes 8 store ++ (big_bytes 2 (length key) ++ (key ++ (big_bytes 4 (length value) ++ value)))) ≡ change_text (change put store key value)
put_spelled store key value = simp append_assoc

pub name_spelled : (kind : Kind) (store : ℕ) (name : List ℕ)
    → code kind ∷ (big_bytes 8 store ++ (big_bytes 2 (length name) ++ name)) ≡ head_text kind store name
name_spelled put store name = refl
name_spelled del store name = refl
name_spelled pdel store name = refl
