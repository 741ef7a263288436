-- A change that is read is the one that was written, and what was written is read again.
use Rattle.std.specs.Prelude.{◌≡◌, ◌⊎◌, ℕ, ◌^◌, ◌<◌, ◌≤◌, Bool, true, false, List, [], ◌++◌, length, take, Option, Some, None, Result, Ok, nat_lt, nat_le, ◌==◌, ◌||◌, if◌then◌else◌}
use Rattle.std.proofs.Common.{refl, sym, ap, subst, ◌∙◌, append_assoc, arith, inl, inr, cond}
use Rattle.std.proofs.lemmas.Bool.{leb-true, le-leb, le-ltb, eqb-true, and_parts}
use Rattle.std.proofs.lemmas.List.{take_at}
use Rattle.byteorder.specs.Endian.{big_bytes}
use Rattle.hse_fields.specs.LogText.{Kind, put, del, pdel, Change, code, sized, value_text, change_text}
use Rattle.hse_fields.specs.LogOrder.{may_follow, kind_may_follow, store_may_follow}
use Rattle.hse_fields.specs.LogLimits.{longest_value}
use Rattle.hse_fields.specs.LogForm.{longest_name, ValueFits, IsChange}
use Rattle.hse_fields.specs.Fields.{number_of, bytes_of}
use Rattle.hse_fields.specs.LogReading.{◌>>=◌, ensure, given, kind_with, kind_of, value_of, change, name_may_follow, name_in_limits, name_fits, name_of, change_of, PrefixFits}
use Rattle.hse_fields.specs.laws.Fields.{IsBytes, bind_ok, ensure_ok, given_ok, ok_is, Takes, Takes-then, width_1, width_2, width_4, width_8, number_takes, number_again, bytes_takes, bytes_again, behind_size, sized_takes, sized_again}
use Rattle.hse_fields.specs.laws.Order.{or_right, kind_follows, store_follows, may_follow-value}

-- ---- one change

chosen : {A : Type 0} (b : Bool) (x y z : A) → cond b x y ≡ z → ((b ≡ true) × (x ≡ z)) ⊎ ((b ≡ false) × (y ≡ z))
chosen true x y z e = inl (refl, e)
chosen false x y z e = inr (refl, e)

same_some : {A : Type 0} (x y : A) → Some x ≡ Some y → x ≡ y
same_some x y e = cc

no_some : {A : Type 0} (x : A) → None ≡ Some x → ⊥
no_some x e = cc

kind_with-code : (byte : ℕ) (kind : Kind) → kind_with byte ≡ Some kind → byte ≡ code kind
kind_with-code byte kind e =
    elim (chosen (byte == 1) (Some put) (if byte == 2 then Some del else (if byte == 3 then Some pdel else None)) (Some kind) e) [
      | inl one ↦ eqb-true byte 1 one.0 ∙ ap code (same_some put kind one.1)
      | inr more ↦ elim (chosen (byte == 2) (Some del) (if byte == 3 then Some pdel else None) (Some kind) more.1) [
        | inl two ↦ eqb-true byte 2 two.0 ∙ ap code (same_some del kind two.1)
        | inr most ↦ elim (chosen (byte == 3) (Some pdel) None (Some kind) most.1) [
          | inl three ↦ eqb-true byte 3 three.0 ∙ ap code (same_some pdel kind three.1)
          | inr none ↦ absurd (no_some kind none.1)
        ]
      ]
    ]

pub kind_takes : (last : Option Change) (bytes : List ℕ) (x : Kind × List ℕ) → IsBytes bytes → kind_of last bytes ≡ Ok x
    → Takes bytes (big_bytes 1 (code x.0)) x.1
unfolding kind_of
kind_takes last bytes x fits e =
    let a = bind_ok (number_of 1 bytes) (λ byte. given (kind_with byte.0) (length bytes) >>= λ kind. (ensure (kind_may_follow last kind) (length bytes) >>= λ in_order. Ok (kind, byte.1))) x e in
    let byte = a.0 in
    let b = bind_ok (given (kind_with byte.0) (length bytes)) (λ kind. ensure (kind_may_follow last kind) (length bytes) >>= λ in_order. Ok (kind, byte.1)) x a.2 in
    let kind = b.0 in
    let c = bind_ok (ensure (kind_may_follow last kind) (length bytes)) (λ in_order. Ok (kind, byte.1)) x b.2 in
    let t = number_takes 1 width_1 bytes byte.0 byte.1 fits a.1 in
    let is : byte.0 ≡ code kind = kind_with-code byte.0 kind (given_ok (kind_with byte.0) (length bytes) kind b.1) in
    let taken : Takes bytes (big_bytes 1 (code kind)) byte.1 = subst (λ (k : ℕ). Takes bytes (big_bytes 1 k) byte.1) is t.0 in
    subst (λ (y : Kind × List ℕ). Takes bytes (big_bytes 1 (code y.0)) y.1) (ok_is (kind, byte.1) x c.2) taken

code_small : (kind : Kind) → code kind < 256 ^ 1
code_small put = omega arith
code_small del = omega arith
code_small pdel = omega arith

kind_with_its_code : (kind : Kind) → kind_with (code kind) ≡ Some kind
kind_with_its_code put = refl
kind_with_its_code del = refl
kind_with_its_code pdel = refl

pub kind_again : (last : Option Change) (kind : Kind) (rest : List ℕ) → kind_may_follow last kind ≡ true
    → kind_of last (big_bytes 1 (code kind) ++ rest) ≡ Ok (kind, rest)
unfolding kind_of
kind_again last kind rest follows = rw (number_again 1 (code kind) rest (code_small kind), kind_with_its_code kind, follows) refl

pub value_takes : (kind : Kind) (most : ℕ) (bytes : List ℕ) (x : List ℕ × List ℕ) → IsBytes bytes → value_of kind most bytes ≡ Ok x
    → Takes bytes (value_text kind x.0) x.1 × ValueFits most kind x.0 × ValueFits longest_value kind x.0
unfolding value_of
value_takes put most bytes x fits e = let t = sized_takes 4 width_4 0 most bytes x.0 x.1 fits e in (t.0, t.2, omega (arith, t.3))
value_takes del most bytes x fits e =
    subst (λ (y : List ℕ × List ℕ). Takes bytes [] y.1 × (y.0 ≡ []) × (y.0 ≡ [])) (ok_is ([], bytes) x e) (record { parts = refl; rest_fits = fits }, refl, refl)
value_takes pdel most bytes x fits e =
    subst (λ (y : List ℕ × List ℕ). Takes bytes [] y.1 × (y.0 ≡ []) × (y.0 ≡ [])) (ok_is ([], bytes) x e) (record { parts = refl; rest_fits = fits }, refl, refl)

pub value_again : (kind : Kind) (most : ℕ) (value rest : List ℕ) → most < 2 ^ 32 → ValueFits most kind value
    → value_of kind most (value_text kind value ++ rest) ≡ Ok (value, rest)
unfolding value_of
value_again put most value rest small fits = sized_again 4 0 most value rest (omega arith) (omega arith) fits
value_again del most value rest small fits = ap (λ (v : List ℕ). Ok (v, rest)) (sym fits)
value_again pdel most value rest small fits = ap (λ (v : List ℕ). Ok (v, rest)) (sym fits)

-- ---- a change by its fields

abbrev pub from_value : Kind → ℕ → List ℕ → List ℕ × List ℕ → Result (Change × List ℕ) ℕ
from_value kind store name value = Ok (change kind store name value.0, value.1)

abbrev pub from_name : ℕ → Kind → ℕ → List ℕ × List ℕ → Result (Change × List ℕ) ℕ
from_name most kind store name = value_of kind most name.1 >>= from_value kind store name.0

abbrev pub from_store : (ℕ → ℕ → Bool) → ℕ → Option Change → List ℕ → Kind → ℕ × List ℕ → Result (Change × List ℕ) ℕ
from_store prefix_fits most last bytes kind store =
    ensure (store_may_follow last kind store.0) (length bytes) >>= λ in_order.
    (name_of prefix_fits last (length bytes) kind store.0 store.1 >>= from_name most kind store.0)

abbrev pub from_kind : (ℕ → ℕ → Bool) → ℕ → Option Change → List ℕ → Kind × List ℕ → Result (Change × List ℕ) ℕ
from_kind prefix_fits most last bytes kind = number_of 8 kind.1 >>= from_store prefix_fits most last bytes kind.0

abbrev pub from_limits : (ℕ → ℕ → Bool) → List ℕ → Kind → ℕ → ℕ × List ℕ → Result (List ℕ × List ℕ) ℕ
from_limits prefix_fits bytes kind store size =
    ensure (name_fits prefix_fits kind store size.0) (length bytes) >>= λ allowed. bytes_of size.0 size.1

abbrev pub from_order : (ℕ → ℕ → Bool) → List ℕ → Kind → ℕ → ℕ × List ℕ → Result (List ℕ × List ℕ) ℕ
from_order prefix_fits bytes kind store size =
    ensure (name_in_limits kind size.0) (length bytes) >>= λ within. from_limits prefix_fits bytes kind store size

abbrev pub from_size : (ℕ → ℕ → Bool) → Option Change → ℕ → Kind → ℕ → List ℕ → ℕ × List ℕ → Result (List ℕ × List ℕ) ℕ
from_size prefix_fits last left kind store bytes size =
    ensure (name_may_follow last kind store size.0 size.1) left >>= λ in_order. from_order prefix_fits bytes kind store size

or_false : (x y : Bool) → x ≡ false → (x || y) ≡ true → y ≡ true
or_false true y e f = absurd cc
or_false false y e f = f

-- a name that is there tells whether its change may follow
name_told : (last : Option Change) (kind : Kind) (store size : ℕ) (bytes : List ℕ) → size ≤ length bytes
    → name_may_follow last kind store size bytes ≡ true → may_follow last (change kind store (take size bytes) []) ≡ true
unfolding name_may_follow
name_told last kind store size bytes long e =
    or_false (nat_lt (length bytes) size) (may_follow last (change kind store (take size bytes) [])) (le-ltb _ _ long) e

name_follows : (last : Option Change) (kind : Kind) (store : ℕ) (name rest : List ℕ) → may_follow last (change kind store name []) ≡ true
    → name_may_follow last kind store (length name) (name ++ rest) ≡ true
unfolding name_may_follow
name_follows last kind store name rest e =
    let taken : take (length name) (name ++ rest) ≡ name = take_at name rest (length name) refl in
    or_right (nat_lt (length (name ++ rest)) (length name)) (may_follow last (change kind store (take (length name) (name ++ rest)) []))
    (ap (λ (n : List ℕ). may_follow last (change kind store n [])) taken ∙ e)

-- what a reading of a change's name gives
record TakesName (prefix_fits : ℕ → ℕ → Bool) (last : Option Change) (kind : Kind) (store : ℕ) (bytes : List ℕ) (x : List ℕ × List ℕ) : Type 0 where
  taken : Takes bytes (sized 2 x.0) x.1
  some : 1 ≤ length x.0
  short : length x.0 ≤ longest_name kind
  in_order : may_follow last (change kind store x.0 []) ≡ true
  fits : name_fits prefix_fits kind store (length x.0) ≡ true

name_takes : (prefix_fits : ℕ → ℕ → Bool) (last : Option Change) (left : ℕ) (kind : Kind) (store : ℕ) (bytes : List ℕ) (x : List ℕ × List ℕ) → IsBytes bytes
    → name_of prefix_fits last left kind store bytes ≡ Ok x → TakesName prefix_fits last kind store bytes x
unfolding name_of
name_takes prefix_fits last left kind store bytes x small e =
    let a = bind_ok (number_of 2 bytes) (from_size prefix_fits last left kind store bytes) x e in
    let size = a.0 in
    let b = bind_ok (ensure (name_may_follow last kind store size.0 size.1) left) (λ in_order. from_order prefix_fits bytes kind store size) x a.2 in
    let c = bind_ok (ensure (name_in_limits kind size.0) (length bytes)) (λ within. from_limits prefix_fits bytes kind store size) x b.2 in
    let d = bind_ok (ensure (name_fits prefix_fits kind store size.0) (length bytes)) (λ allowed. bytes_of size.0 size.1) x c.2 in
    let limits = and_parts (nat_le 1 size.0) (nat_le size.0 (longest_name kind)) (ensure_ok _ _ _ c.1) in
    let t_size = number_takes 2 width_2 bytes size.0 size.1 small a.1 in
    let t_name = bytes_takes size.0 size.1 x.0 x.1 t_size.0.rest_fits d.2 in
    let told = name_told last kind store size.0 size.1 t_name.3 (ensure_ok _ _ _ b.1) in
    record {
      taken = behind_size 2 size.0 bytes size.1 x.0 x.1 t_size.0 t_name.0 t_name.1;
      some = rw t_name.1 (leb-true _ _ limits.0);
      short = rw t_name.1 (leb-true _ _ limits.1);
      in_order = subst (λ (n : List ℕ). may_follow last (change kind store n []) ≡ true) t_name.2 told;
      fits = subst (λ (n : ℕ). name_fits prefix_fits kind store n ≡ true) (sym t_name.1) (ensure_ok _ _ _ d.1);
    }

name_again : (prefix_fits : ℕ → ℕ → Bool) (last : Option Change) (left : ℕ) (kind : Kind) (store : ℕ) (name rest : List ℕ) → length name < 256 ^ 2
    → 1 ≤ length name → length name ≤ longest_name kind → may_follow last (change kind store name []) ≡ true
    → name_fits prefix_fits kind store (length name) ≡ true → name_of prefix_fits last left kind store (sized 2 name ++ rest) ≡ Ok (name, rest)
unfolding name_of
name_again prefix_fits last left kind store name rest small some short follows allowed =
    let low : nat_le 1 (length name) ≡ true = le-leb _ _ some in
    let high : nat_le (length name) (longest_name kind) ≡ true = le-leb _ _ short in
    ap (name_of prefix_fits last left kind store) (append_assoc (big_bytes 2 (length name)) name rest)
    ∙ rw (
      number_again 2 (length name) (name ++ rest) small,
      name_follows last kind store name rest follows,
      low,
      high,
      allowed,
    ) (bytes_again name rest)

-- what a reading of a change gives
pub record TakesChange (prefix_fits : ℕ → ℕ → Bool) (most : ℕ) (last : Option Change) (bytes : List ℕ) (x : Change × List ℕ) : Type 0 where
  pub taken : Takes bytes (change_text x.0) x.1
  pub formed : IsChange most x.0
  -- its value is no longer than its length can say, whatever the limit
  pub bounded : IsChange longest_value x.0
  pub in_order : may_follow last x.0 ≡ true
  pub fits : PrefixFits prefix_fits x.0

pub change_takes : (prefix_fits : ℕ → ℕ → Bool) (most : ℕ) (last : Option Change) (bytes : List ℕ) (x : Change × List ℕ) → IsBytes bytes
    → change_of prefix_fits most last bytes ≡ Ok x → TakesChange prefix_fits most last bytes x
unfolding change_of
change_takes prefix_fits most last bytes x small e =
    let a = bind_ok (kind_of last bytes) (from_kind prefix_fits most last bytes) x e in
    let kind = a.0.0 in
    let b = bind_ok (number_of 8 a.0.1) (from_store prefix_fits most last bytes kind) x a.2 in
    let store = b.0.0 in
    let c = bind_ok (ensure (store_may_follow last kind store) (length bytes)) (λ in_order. name_of prefix_fits last (length bytes) kind store b.0.1 >>= from_name most kind store) x b.2 in
    let d = bind_ok (name_of prefix_fits last (length bytes) kind store b.0.1) (from_name most kind store) x c.2 in
    let name = d.0.0 in
    let g = bind_ok (value_of kind most d.0.1) (from_value kind store name) x d.2 in
    let value = g.0.0 in
    let t_kind = kind_takes last bytes a.0 small a.1 in
    let t_store = number_takes 8 width_8 a.0.1 store b.0.1 t_kind.rest_fits b.1 in
    let t_name = name_takes prefix_fits last (length bytes) kind store b.0.1 d.0 t_store.0.rest_fits d.1 in
    let t_value = value_takes kind most d.0.1 g.0 t_name.taken.rest_fits g.1 in
    let two = Takes-then b.0.1 (sized 2 name) d.0.1 (value_text kind value) g.0.1 t_name.taken t_value.0 in
    let three = Takes-then a.0.1 (big_bytes 8 store) b.0.1 (sized 2 name ++ value_text kind value) g.0.1 t_store.0 two in
    let all = Takes-then bytes (big_bytes 1 (code kind)) a.0.1 (big_bytes 8 store ++ (sized 2 name ++ value_text kind value)) g.0.1 t_kind three in
    let follows : may_follow last (change kind store name value) ≡ true = sym (may_follow-value last kind store name value) ∙ t_name.in_order in
    let formed : IsChange most (change kind store name value) =
    record { store = omega (arith, t_store.1); some_name = t_name.some; short_name = t_name.short; value_fits = t_value.1 } in
    let bounded : IsChange longest_value (change kind store name value) =
    record { store = omega (arith, t_store.1); some_name = t_name.some; short_name = t_name.short; value_fits = t_value.2 } in
    subst (TakesChange prefix_fits most last bytes) (ok_is (change kind store name value, g.0.1) x g.2)
    (record { taken = all; formed = formed; bounded = bounded; in_order = follows; fits = t_name.fits })

name_small : (kind : Kind) (n : ℕ) → n ≤ longest_name kind → n < 256 ^ 2
name_small put n h = omega arith
name_small del n h = omega arith
name_small pdel n h = omega arith

pub change_again : (prefix_fits : ℕ → ℕ → Bool) (most : ℕ) (last : Option Change) (c : Change) (rest : List ℕ) → most < 2 ^ 32 → IsChange most c
    → may_follow last c ≡ true → PrefixFits prefix_fits c → change_of prefix_fits most last (change_text c ++ rest) ≡ Ok (c, rest)
unfolding change_of
change_again prefix_fits most last c rest small formed follows allowed =
    let v = value_text c.kind c.value in
    let whole = big_bytes 1 (code c.kind) ++ (big_bytes 8 c.store ++ (sized 2 c.name ++ (v ++ rest))) in
    let regrouped : change_text c ++ rest ≡ whole =
    append_assoc (big_bytes 1 (code c.kind)) (big_bytes 8 c.store ++ (sized 2 c.name ++ v)) rest
    ∙ ap (λ (l : List ℕ). big_bytes 1 (code c.kind) ++ l)
    (append_assoc (big_bytes 8 c.store) (sized 2 c.name ++ v) rest
    ∙ ap (λ (l : List ℕ). big_bytes 8 c.store ++ l) (append_assoc (sized 2 c.name) v rest)) in
    let in_order : may_follow last (change c.kind c.store c.name []) ≡ true = may_follow-value last c.kind c.store c.name c.value ∙ follows in
    ap (change_of prefix_fits most last) regrouped
    ∙ rw (
      kind_again last c.kind (big_bytes 8 c.store ++ (sized 2 c.name ++ (v ++ rest))) (kind_follows last c follows),
      number_again 8 c.store (sized 2 c.name ++ (v ++ rest)) (omega (arith, formed.store)),
      store_follows last c follows,
      name_again prefix_fits last (length whole) c.kind c.store c.name (v ++ rest) (name_small c.kind (length c.name) formed.short_name) formed.some_name formed.short_name in_order allowed,
      value_again c.kind most c.value rest small formed.value_fits,
    ) refl

-- A value of less than 2 ^ 32 bytes has a length that can be written.
value_bounded : (kind : Kind) (most : ℕ) (value : List ℕ) → most < 2 ^ 32 → ValueFits most kind value → ValueFits longest_value kind value
value_bounded put most value small fits = omega (arith, fits)
value_bounded del most value small fits = fits
value_bounded pdel most value small fits = fits

pub change_bounded : (most : ℕ) (c : Change) → most < 2 ^ 32 → IsChange most c → IsChange longest_value c
change_bounded most c small formed = record {
  store = formed.store;
  some_name = formed.some_name;
  short_name = formed.short_name;
  value_fits = value_bounded c.kind most c.value small formed.value_fits;
}
