-- Keys that are read stand in order, and read the same whatever stands before them.
use Rattle.std.proofs.Common.{◌≡◌, ◌∙◌, true, false, Bool, ℕ, zero, suc, ◌-◌, ◌+◌, ◌<◌, ◌≤◌, List, [], ◌∷◌, length, take, drop, Option, Some, None, Result, Ok, Err, refl, sym, ap, subst, arith}
use Rattle.std.specs.Prelude.{◌==◌, ◌&&◌, ◌||◌, nat_lt, nat_le}
use Rattle.std.specs.List.{find}
use Rattle.hse_fields.specs.Fields.{number_of, bytes_of}
use Rattle.hse_fields.specs.LogLimits.{longest_key}
use Rattle.hse_fields.specs.LogReading.{◌>>=◌, ensure}
use Rattle.hse_fields.specs.declared.block.ValuePlace.{ValuePlace}
use Rattle.hse_fields.specs.BlockText.{KeyEntry}
use Rattle.hse_fields.specs.BlockReading.{is_above, name_rises, name_of, key_entry, place_after, key_of, keys_of}
use Rattle.hse_fields.specs.laws.Fields.{bind_ok, ensure_ok, ok_is, guard_ok}
use Rattle.kblock.specs.Opened.{has_key}
use Rattle.kblock.specs.Searching.{found_in, IsRead}
use Rattle.kblock.specs.laws.Order.{Rise}

-- ---- one key

name_made : (width most : ℕ) (last : Option (List ℕ)) (left : ℕ) (bytes : List ℕ) (size : ℕ × List ℕ) (x : List ℕ × List ℕ)
    → number_of width bytes ≡ Ok size → name_rises last size.0 size.1 ≡ true → (nat_le 1 size.0 && nat_le size.0 most) ≡ true
    → bytes_of size.0 size.1 ≡ Ok x → name_of width most last left bytes ≡ Ok x
unfolding name_of
name_made width most last left bytes size x a b c d = rw (a, b, c) d

name_read : (width most : ℕ) (last : Option (List ℕ)) (left : ℕ) (bytes : List ℕ) (x : List ℕ × List ℕ) → name_of width most last left bytes ≡ Ok x
    → (name_of width most None left bytes ≡ Ok x) × (is_above last x.0 ≡ true)
unfolding name_of
name_read width most last left bytes x e =
    let a = bind_ok (number_of width bytes) (λ size. ensure (name_rises last size.0 size.1) left >>= λ in_order. (ensure (nat_le 1 size.0 && nat_le size.0 most) (length bytes) >>= λ within. bytes_of size.0 size.1)) x e in
    let b = bind_ok (ensure (name_rises last a.0.0 a.0.1) left) (λ in_order. ensure (nat_le 1 a.0.0 && nat_le a.0.0 most) (length bytes) >>= λ within. bytes_of a.0.0 a.0.1) x a.2 in
    let c = bind_ok (ensure (nat_le 1 a.0.0 && nat_le a.0.0 most) (length bytes)) (λ within. bytes_of a.0.0 a.0.1) x b.2 in
    name_told width most last left bytes a.0 x a.1 (ensure_ok (name_rises last a.0.0 a.0.1) left b.0 b.1) (ensure_ok (nat_le 1 a.0.0 && nat_le a.0.0 most) (length bytes) c.0 c.1) c.2
  where
    name_told : (width most : ℕ) (last : Option (List ℕ)) (left : ℕ) (bytes : List ℕ) (size : ℕ × List ℕ) (x : List ℕ × List ℕ)
        → number_of width bytes ≡ Ok size → name_rises last size.0 size.1 ≡ true → (nat_le 1 size.0 && nat_le size.0 most) ≡ true
        → bytes_of size.0 size.1 ≡ Ok x → (name_of width most None left bytes ≡ Ok x) × (is_above last x.0 ≡ true)
    name_told width most last left bytes size x a b c d =
        let g = guard_ok (nat_lt (length size.1) size.0) (length size.1) (take size.0 size.1, drop size.0 size.1) x d in
        let whole : nat_lt (length size.1) size.0 ≡ false = g.0 in
        let none : name_rises None size.0 size.1 ≡ true = rw whole refl in
        let here : is_above last (take size.0 size.1) ≡ true = rw whole at b in
        let front : take size.0 size.1 ≡ x.0 = ap (λ (p : List ℕ × List ℕ). p.0) g.1 in
        (name_made width most None left bytes size x a none c d, subst (λ (l : List ℕ). is_above last l ≡ true) front here)

key_made : (last : Option (List ℕ)) (bytes : List ℕ) (kind number : ℕ × List ℕ) (name : List ℕ × List ℕ) (place : Option ValuePlace × List ℕ)
    → number_of 1 bytes ≡ Ok kind → ((kind.0 == 1) || (kind.0 == 2)) ≡ true → number_of 8 kind.1 ≡ Ok number
    → name_of 2 longest_key last (length bytes) number.1 ≡ Ok name → place_after kind.0 name.1 ≡ Ok place
    → key_of last bytes ≡ Ok (key_entry number.0 name.0 place.0, place.1)
unfolding key_of
key_made last bytes kind number name place a b c d e = rw (a, b, c, d, e) refl

pub key_read : (last : Option (List ℕ)) (bytes : List ℕ) (x : KeyEntry × List ℕ) → key_of last bytes ≡ Ok x
    → (key_of None bytes ≡ Ok x) × (is_above last x.0.key ≡ true)
unfolding key_of
key_read last bytes x e =
    let a = bind_ok (number_of 1 bytes) (λ kind. ensure ((kind.0 == 1) || (kind.0 == 2)) (length bytes) >>= λ known. (number_of 8 kind.1 >>= λ number. (name_of 2 longest_key last (length bytes) number.1 >>= λ name. (place_after kind.0 name.1 >>= λ place. Ok (key_entry number.0 name.0 place.0, place.1))))) x e in
    let b = bind_ok (ensure ((a.0.0 == 1) || (a.0.0 == 2)) (length bytes)) (λ known. number_of 8 a.0.1 >>= λ number. (name_of 2 longest_key last (length bytes) number.1 >>= λ name. (place_after a.0.0 name.1 >>= λ place. Ok (key_entry number.0 name.0 place.0, place.1)))) x a.2 in
    let c = bind_ok (number_of 8 a.0.1) (λ number. name_of 2 longest_key last (length bytes) number.1 >>= λ name. (place_after a.0.0 name.1 >>= λ place. Ok (key_entry number.0 name.0 place.0, place.1))) x b.2 in
    let d = bind_ok (name_of 2 longest_key last (length bytes) c.0.1) (λ name. place_after a.0.0 name.1 >>= λ place. Ok (key_entry c.0.0 name.0 place.0, place.1)) x c.2 in
    let f = bind_ok (place_after a.0.0 d.0.1) (λ place. Ok (key_entry c.0.0 d.0.0 place.0, place.1)) x d.2 in
    key_told last bytes a.0 c.0 d.0 f.0 x a.1 (ensure_ok ((a.0.0 == 1) || (a.0.0 == 2)) (length bytes) b.0 b.1) c.1 d.1 f.1 (ok_is (key_entry c.0.0 d.0.0 f.0.0, f.0.1) x f.2)
  where
    key_told : (last : Option (List ℕ)) (bytes : List ℕ) (kind number : ℕ × List ℕ) (name : List ℕ × List ℕ) (place : Option ValuePlace × List ℕ) (x : KeyEntry × List ℕ)
        → number_of 1 bytes ≡ Ok kind → ((kind.0 == 1) || (kind.0 == 2)) ≡ true → number_of 8 kind.1 ≡ Ok number
        → name_of 2 longest_key last (length bytes) number.1 ≡ Ok name → place_after kind.0 name.1 ≡ Ok place
        → (key_entry number.0 name.0 place.0, place.1) ≡ x → (key_of None bytes ≡ Ok x) × (is_above last x.0.key ≡ true)
    key_told last bytes kind number name place x a b c d e is =
        let named = name_read 2 longest_key last (length bytes) number.1 name d in
        subst (λ (y : KeyEntry × List ℕ). (key_of None bytes ≡ Ok y) × (is_above last y.0.key ≡ true)) is
        (key_made None bytes kind number name place a b c named.0 e, named.1)

-- ---- many

-- the first of many keys, and the others
pub record HasKey (last : Option (List ℕ)) (n : ℕ) (bytes : List ℕ) (x : List KeyEntry × List ℕ) : Type 0 where
  pub first : KeyEntry × List ℕ
  pub others : List KeyEntry
  pub both : x.0 ≡ first.0 ∷ others
  pub key : key_of last bytes ≡ Ok first
  pub more : keys_of (Some first.0.key) n first.1 ≡ Ok (others, x.1)

pub first_key : (last : Option (List ℕ)) (n : ℕ) (bytes : List ℕ) (x : List KeyEntry × List ℕ) → keys_of last (suc n) bytes ≡ Ok x → HasKey last n bytes x
unfolding keys_of
first_key last n bytes x e =
    let a = bind_ok (key_of last bytes) (λ first. keys_of (Some first.0.key) n first.1 >>= λ others. Ok (first.0 ∷ others.0, others.1)) x e in
    let b = bind_ok (keys_of (Some a.0.0.key) n a.0.1) (λ others. Ok (a.0.0 ∷ others.0, others.1)) x a.2 in
    let is = ok_is (a.0.0 ∷ b.0.0, b.0.1) x b.2 in
    record {
      first = a.0;
      others = b.0.0;
      both = sym (ap (λ (p : List KeyEntry × List ℕ). p.0) is);
      key = a.1;
      more = b.1 ∙ ap (λ (l : List ℕ). Ok (b.0.0, l)) (ap (λ (p : List KeyEntry × List ℕ). p.1) is);
    }

keys_made : (last : Option (List ℕ)) (n : ℕ) (bytes : List ℕ) (first : KeyEntry × List ℕ) (others : List KeyEntry × List ℕ) → key_of last bytes ≡ Ok first
    → keys_of (Some first.0.key) n first.1 ≡ Ok others → keys_of last (suc n) bytes ≡ Ok (first.0 ∷ others.0, others.1)
unfolding keys_of
keys_made last n bytes first others a b = rw (a, b) refl

pub keys_alone : (last : Option (List ℕ)) (n : ℕ) (bytes : List ℕ) (x : List KeyEntry × List ℕ) → keys_of last n bytes ≡ Ok x → keys_of None n bytes ≡ Ok x
unfolding keys_of
keys_alone last zero bytes x e = e
keys_alone last (suc n) bytes x e =
    let has = first_key last n bytes x e in
    keys_made None n bytes has.first (has.others, x.1) (key_read last bytes has.first has.key).0 has.more
    ∙ ap (λ (l : List KeyEntry). Ok (l, x.1)) (sym has.both)

pub keys_rise : (last : Option (List ℕ)) (n : ℕ) (bytes : List ℕ) (x : List KeyEntry × List ℕ) → keys_of last n bytes ≡ Ok x → Rise last x.0
unfolding keys_of
keys_rise last zero bytes x e = subst (λ (y : List KeyEntry × List ℕ). Rise last y.0) (ok_is ([], bytes) x e) tt
keys_rise last (suc n) bytes x e =
    let has = first_key last n bytes x e in
    subst (Rise last) (sym has.both) ((key_read last bytes has.first has.key).1, keys_rise (Some has.first.0.key) n has.first.1 (has.others, x.1) has.more)

-- ---- looking for a key, entry by entry

pub read_ok : {A : Type 0} (r : Result A ℕ) → IsRead r → (x : A) × (r ≡ Ok x)
read_ok (Ok x) read = (x, refl)
read_ok (Err left) read = absurd read

pub is_read : {A : Type 0} (r : Result A ℕ) (x : A) → r ≡ Ok x → IsRead r
is_read r x e = subst IsRead (sym e) tt

pub keys_behind : (n : ℕ) (bytes : List ℕ) (first : KeyEntry × List ℕ) (x : List KeyEntry × List ℕ) → key_of None bytes ≡ Ok first → keys_of None (suc n) bytes ≡ Ok x
    → (ys : List KeyEntry) × (keys_of None n first.1 ≡ Ok (ys, x.1)) × (x.0 ≡ first.0 ∷ ys)
keys_behind n bytes first x a e =
    let has = first_key None n bytes x e in
    let same : has.first ≡ first = ok_is has.first first (sym has.key ∙ a) in
    let more : keys_of None n has.first.1 ≡ Ok (has.others, x.1) = keys_alone (Some has.first.0.key) n has.first.1 (has.others, x.1) has.more in (
      has.others,
      subst (λ (p : KeyEntry × List ℕ). keys_of None n p.1 ≡ Ok (has.others, x.1)) same more,
      has.both ∙ ap (λ (p : KeyEntry × List ℕ). p.0 ∷ has.others) same,
    )

none_read : (n : ℕ) (bytes : List ℕ) (left : ℕ) → key_of None bytes ≡ Err left → keys_of None (suc n) bytes ≡ Err left
unfolding keys_of
none_read n bytes left e = rw e refl

hit : (p : KeyEntry → Bool) (x : KeyEntry) (xs : List KeyEntry) → p x ≡ true → find p (x ∷ xs) ≡ Some x
hit p x xs e = rw e refl

miss : (p : KeyEntry → Bool) (x : KeyEntry) (xs : List KeyEntry) → p x ≡ false → find p (x ∷ xs) ≡ find p xs
miss p x xs e = rw e refl

module _ (key : List ℕ) (count i : ℕ) (bytes : List ℕ) where
  pub can_be_read : (left : ℕ) → i < count → IsRead (keys_of None (count - i) bytes) → key_of None bytes ≡ Err left → ⊥
  can_be_read left lt readable e =
      let k : count - i ≡ suc (count - (i + 1)) = omega arith in
      subst IsRead (none_read (count - (i + 1)) bytes left e) (rw k at readable)

  pub is_here : (first : KeyEntry × List ℕ) → i < count → key_of None bytes ≡ Ok first → IsRead (keys_of None (count - i) bytes)
      → has_key key first.0 ≡ true → found_in key (keys_of None (count - i) bytes) ≡ Some first.0
  is_here first lt e readable same =
      let k : count - i ≡ suc (count - (i + 1)) = omega arith in
      let r = read_ok (keys_of None (count - i) bytes) readable in
      let b = keys_behind (count - (i + 1)) bytes first r.0 e (ap (λ (n : ℕ). keys_of None n bytes) (sym k) ∙ r.1) in
      ap (found_in key) r.1 ∙ ap (find (has_key key)) b.2 ∙ hit (has_key key) first.0 b.0 same

  pub is_behind : (first : KeyEntry × List ℕ) → i < count → key_of None bytes ≡ Ok first → IsRead (keys_of None (count - i) bytes)
      → has_key key first.0 ≡ false
      → IsRead (keys_of None (count - (i + 1)) first.1)
      × (found_in key (keys_of None (count - (i + 1)) first.1) ≡ found_in key (keys_of None (count - i) bytes))
  is_behind first lt e readable other =
      let k : count - i ≡ suc (count - (i + 1)) = omega arith in
      let r = read_ok (keys_of None (count - i) bytes) readable in
      let b = keys_behind (count - (i + 1)) bytes first r.0 e (ap (λ (n : ℕ). keys_of None n bytes) (sym k) ∙ r.1) in
      let here : found_in key (keys_of None (count - i) bytes) ≡ find (has_key key) b.0 =
      ap (found_in key) r.1 ∙ ap (find (has_key key)) b.2 ∙ miss (has_key key) first.0 b.0 other in
      (is_read (keys_of None (count - (i + 1)) first.1) (b.0, r.0.1) b.1, ap (found_in key) b.1 ∙ sym here)

  pub is_nowhere : count ≤ i → found_in key (keys_of None (count - i) bytes) ≡ None
  unfolding keys_of
  is_nowhere le =
      let k : count - i ≡ 0 = omega arith in
      rw k refl
