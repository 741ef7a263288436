-- The blocks of keys with one more, and their last key.
use Rattle.std.proofs.Common.{◌≡◌, ◌∙◌, ℕ, zero, suc, ◌-◌, ◌+◌, ◌<◌, ◌≤◌, ◌^◌, List, [], ◌∷◌, ◌++◌, length, Option, Some, None, refl, sym, ap, subst, arith, append_assoc, length-append}
use Rattle.std.specs.Prelude.{slice_get}
use Rattle.std.proofs.lemmas.List.{append-nil}
use Rattle.hse_fields.specs.BlockText.{KeyEntry}
use Rattle.hse_fields.specs.BlockReading.{last_key}
use Rattle.kblock.specs.Form.{AreKeys, ArePages, AreKeyPages}
use Rattle.kblock.specs.Opened.{entries_of}
use Rattle.kvset.specs.declared.keys.KeyPart.{KeyPart}
use Rattle.kvset.specs.Keys.{keys_in, all_keys, AreNumbered, AreParts}

-- ---- a block more

pub last_append : (last : Option (List ℕ)) (xs ys : List KeyEntry) → last_key last (xs ++ ys) ≡ last_key (last_key last xs) ys
last_append last [] ys = refl
last_append last (x ∷ xs) ys = last_append (Some x.key) xs ys

pub keys_append : (last : Option (List ℕ)) (xs ys : List KeyEntry) → AreKeys last xs → AreKeys (last_key last xs) ys → AreKeys last (xs ++ ys)
keys_append last [] ys a b = b
keys_append last (x ∷ xs) ys a b = (a.0, keys_append (Some x.key) xs ys a.1 b)

pub pages_keys : (last : Option (List ℕ)) (pages : List (List KeyEntry)) → ArePages last pages → AreKeys last (entries_of pages)
pages_keys last [] are = tt
pages_keys last (p ∷ ps) are = keys_append last p (entries_of ps) are.0.keys (pages_keys (last_key last p) ps are.1)

pub some_keys : (last : Option (List ℕ)) (pages : List (List KeyEntry)) → AreKeyPages last pages → 1 ≤ length (entries_of pages)
some_keys last [] are = absurd (omega (arith, are.some))
some_keys last (p ∷ ps) are = omega (arith, are.pages.0.some, length-append p (entries_of ps))

pub all_pushed : (parts : List KeyPart) (part : KeyPart) → all_keys (parts ++ part ∷ []) ≡ all_keys parts ++ keys_in part
all_pushed [] part = append-nil (keys_in part)
all_pushed (p ∷ ps) part = ap (λ (l : List KeyEntry). keys_in p ++ l) (all_pushed ps part) ∙ sym (append_assoc (keys_in p) (all_keys ps) (keys_in part))

numbered_pushed : (before : ℕ) (parts : List KeyPart) (part : KeyPart) → AreNumbered before parts → part.before ≡ before + length (all_keys parts) → 1 ≤ length (keys_in part)
    → AreNumbered before (parts ++ part ∷ [])
numbered_pushed before [] part n is some = (omega (arith, is), some, tt)
numbered_pushed before (p ∷ ps) part n is some =
    (n.0, n.1, numbered_pushed (before + length (keys_in p)) ps part n.2 (omega (arith, is, length-append (keys_in p) (all_keys ps))) some)

pub parts_pushed : (parts : List KeyPart) (part : KeyPart) → AreParts parts → AreKeyPages (last_key None (all_keys parts)) part.block → part.before ≡ length (all_keys parts)
    → length (all_keys parts) + length (keys_in part) ≤ 2 ^ 62 → AreParts (parts ++ part ∷ [])
parts_pushed parts part are keys from few =
    let all = all_pushed parts part in
    record {
      numbered = numbered_pushed 0 parts part are.numbered (omega (arith, from)) (some_keys (last_key None (all_keys parts)) part.block keys);
      keys = subst (AreKeys None) (sym all) (keys_append None (all_keys parts) (keys_in part) are.keys (pages_keys (last_key None (all_keys parts)) part.block keys.pages));
      few = omega (arith, few, ap length all, length-append (all_keys parts) (keys_in part));
    }

-- ---- the last key

last_entry : (last : Option (List ℕ)) (es : List KeyEntry) (i : ℕ) (e : KeyEntry) → suc i ≡ length es → slice_get es i ≡ Some e → last_key last es ≡ Some e.key
last_entry last [] i e long is = absurd cc
last_entry last (x ∷ []) zero e long is = let same : x ≡ e = cc in ap (λ (y : KeyEntry). Some y.key) same
last_entry last (x ∷ []) (suc i) e long is = absurd cc
last_entry last (x ∷ y ∷ ys) zero e long is = absurd (omega (arith, long))
last_entry last (x ∷ y ∷ ys) (suc i) e long is = last_entry (Some x.key) (y ∷ ys) i e (omega (arith, long)) is

pub last_in : (last : Option (List ℕ)) (before : ℕ) (parts : List KeyPart) (i : ℕ) (part : KeyPart) (e : KeyEntry) → AreNumbered before parts → suc i ≡ length parts → slice_get parts i ≡ Some part
    → slice_get (keys_in part) (length (keys_in part) - 1) ≡ Some e → last_key last (all_keys parts) ≡ Some e.key
last_in last before [] i part e n long is found = absurd cc
last_in last before (p ∷ []) zero part e n long is found =
    let same : part ≡ p = cc in
    let here = subst (λ (q : KeyPart). slice_get (keys_in q) (length (keys_in q) - 1) ≡ Some e) same found in
    ap (last_key last) (append-nil (keys_in p)) ∙ last_entry last (keys_in p) (length (keys_in p) - 1) e (omega (arith, n.1)) here
last_in last before (p ∷ []) (suc i) part e n long is found = absurd cc
last_in last before (p ∷ q ∷ qs) zero part e n long is found = absurd (omega (arith, long))
last_in last before (p ∷ q ∷ qs) (suc i) part e n long is found =
    last_append last (keys_in p) (all_keys (q ∷ qs))
    ∙ last_in (last_key last (keys_in p)) (before + length (keys_in p)) (q ∷ qs) i part e n.2 (omega (arith, long)) is found

pub some_parts : (parts : List KeyPart) (i : ℕ) (part : KeyPart) → slice_get parts i ≡ Some part → i < length parts
some_parts [] i part is = absurd cc
some_parts (p ∷ ps) zero part is = omega arith
some_parts (p ∷ ps) (suc i) part is = let more = some_parts ps i part is in omega (arith, more)
