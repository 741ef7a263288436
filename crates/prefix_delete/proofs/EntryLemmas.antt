-- Entries in the order of their prefixes, with one more.
use Rattle.std.proofs.Common.{◌≡◌, ℕ, zero, suc, ◌<◌, ◌≤◌, Bool, true, false, cond, ltb, List, [], ◌∷◌, length, get_or, set, Option, Some, None, Err, refl, sym, ap, ◌∙◌, subst, arith}
use Rattle.std.proofs.lemmas.Bool.{lt-ltb, le-ltb}
use Rattle.std.proofs.lemmas.List.{set-get_or}
use Rattle.std.specs.declared.cmp.Ordering.TheVariants.{Equal}
use Rattle.std.specs.Ordering.{is_eq}
use Rattle.std.proofs.lemmas.Cmp.{tied_itself}
use Rattle.std.specs.List.{AllByRecursion, filter, find, insert}
use Rattle.std.specs.List.Sorted.{IsStrictlySortedBy, IsBinarySearchResult}
use Rattle.hse_rows.specs.writes.Lengths.{IsPrefixLength}
use Rattle.hse_rows.specs.writes.Sorted.{placed}
use Rattle.sorted_lists.specs.Places.{is_apart, IsPlace}
use Rattle.sorted_lists.specs.laws.Lists.{each-weaker, each-filter}
use Rattle.sorted_lists.specs.laws.Orders.{rising-replaced, each-placed, set-found, insert-missing, apart-missing, place-searched}
use Rattle.sorted_lists.specs.laws.Parts.{find-found, find-missing, without-missing}
use Rattle.prefix_delete.specs.declared.entry.Entry.{Entry}
use Rattle.prefix_delete.specs.Prefixes.{prefix_cmp, probe, entry_at, later, with_entry, IsUsed, AreUsed, ArePrefixes}
use Rattle.prefix_delete.proofs.CoverLemmas.{prefix_order}

module _ (prefix : List ℕ) (entries : List Entry) (rise : IsStrictlySortedBy prefix_cmp entries) (i : ℕ) where
  pub found-at : (d : Entry) → i < length entries → prefix_cmp (get_or entries i d) (probe prefix) ≡ Equal → entry_at entries prefix ≡ Some (get_or entries i d)
  found-at d in' tied = find-found prefix_order entries (probe prefix) i d rise in' tied

  pub missing-place : i ≤ length entries → IsBinarySearchResult (λ y. prefix_cmp y (probe prefix)) entries (Err i) → IsPlace prefix_cmp entries (probe prefix) i
  missing-place within missing = place-searched prefix_order entries (probe prefix) i rise within missing

  pub missing-at : IsPlace prefix_cmp entries (probe prefix) i → entry_at entries prefix ≡ None
  missing-at place = find-missing prefix_order entries (probe prefix) (apart-missing prefix_order entries (probe prefix) i place)

-- ---- one more

pub added-newer : (entries : List Entry) (entry : Entry) (i : ℕ) (d : Entry) → IsStrictlySortedBy prefix_cmp entries → i < length entries
    → prefix_cmp (get_or entries i d) (probe entry.prefix) ≡ Equal → (get_or entries i d).number ≤ entry.number
    → set entries i entry ≡ with_entry entries entry
added-newer entries entry i d rise in' tied less =
    set-found prefix_order entries entry i d rise in' tied
    ∙ ap (λ (x : Entry). placed prefix_cmp (filter (is_apart prefix_cmp x) entries) x)
    (sym (ap (λ o. later o entry) (found-at entry.prefix entries rise i d in' tied)
    ∙ ap (λ b. cond b (get_or entries i d) entry) (le-ltb entry.number (get_or entries i d).number less)))

pub added-older : (entries : List Entry) (entry : Entry) (i : ℕ) (d : Entry) → IsStrictlySortedBy prefix_cmp entries → i < length entries
    → prefix_cmp (get_or entries i d) (probe entry.prefix) ≡ Equal → entry.number < (get_or entries i d).number
    → entries ≡ with_entry entries entry
added-older entries entry i d rise in' tied less =
    sym (set-get_or entries i d)
    ∙ set-found prefix_order entries (get_or entries i d) i d rise in' (tied_itself prefix_order (get_or entries i d))
    ∙ ap (λ (x : Entry). placed prefix_cmp (filter (is_apart prefix_cmp x) entries) x)
    (sym (ap (λ o. later o entry) (found-at entry.prefix entries rise i d in' tied)
    ∙ ap (λ b. cond b (get_or entries i d) entry) (lt-ltb entry.number (get_or entries i d).number less)))

pub added-missing : (entries : List Entry) (entry : Entry) (i : ℕ) → IsStrictlySortedBy prefix_cmp entries → IsPlace prefix_cmp entries (probe entry.prefix) i
    → insert entries i entry ≡ with_entry entries entry
added-missing entries entry i rise place =
    insert-missing prefix_order entries entry i (record { within = place.within; below = place.below; above = place.above })
    ∙ ap (λ l. placed prefix_cmp l entry)
    (sym (without-missing prefix_order entries entry (apart-missing prefix_order entries entry i (record { within = place.within; below = place.below; above = place.above }))))
    ∙ ap (λ (x : Entry). placed prefix_cmp (filter (is_apart prefix_cmp x) entries) x)
    (sym (ap (λ o. later o entry) (missing-at entry.prefix entries rise i place)))

-- ---- what holds of each entry

found-each : (P : Entry → Type 0) (t : Entry → Bool) (xs : List Entry) → AllByRecursion P xs → (e : Entry) → find t xs ≡ Some e → P e
found-each P t [] all e is = let s : None ≡ Some e = is in absurd cc
found-each P t (x ∷ xs) all e is =
    elim (t x) as (λ b. cond b (Some x) (find t xs) ≡ Some e → P e) [
      | true ↦ λ s. subst P (let u : x ≡ e = cc in u) all.0
      | false ↦ λ s. found-each P t xs all.1 e s
    ] is

later-each : (P : Entry → Type 0) (o : Option Entry) (entry : Entry) → ((e : Entry) → o ≡ Some e → P e) → P entry → P (later o entry)
later-each P None entry old new = new
later-each P (Some e) entry old new =
    elim (ltb entry.number e.number) as (λ b. P (cond b e entry)) [ true ↦ old e refl | false ↦ new ]

pub each-added : (P : Entry → Type 0) (entries : List Entry) (entry : Entry) → AllByRecursion P entries → P entry → AllByRecursion P (with_entry entries entry)
each-added P entries entry all new =
    let made = later (entry_at entries entry.prefix) entry in
    each-placed prefix_order P (filter (is_apart prefix_cmp made) entries) made (each-filter P (is_apart prefix_cmp made) entries all)
    (later-each P (entry_at entries entry.prefix) entry (λ e. found-each P (λ x. is_eq (prefix_cmp x (probe entry.prefix))) entries all e) new)

pub added-prefixes : (entries : List Entry) (entry : Entry) → ArePrefixes entries → IsPrefixLength (length entry.prefix) → ArePrefixes (with_entry entries entry)
added-prefixes entries entry are within = record {
  rising = rising-replaced prefix_order entries (later (entry_at entries entry.prefix) entry) are.rising;
  within = each-added (λ e. IsPrefixLength (length e.prefix)) entries entry are.within within;
}

used-more : (used : List Bool) (n k : ℕ) → get_or used k false ≡ true → get_or (set used n true) k false ≡ true
used-more [] n k is = is
used-more (u ∷ used) zero zero is = refl
used-more (u ∷ used) zero (suc k) is = is
used-more (u ∷ used) (suc n) zero is = is
used-more (u ∷ used) (suc n) (suc k) is = used-more used n k is

used-here : (used : List Bool) (n : ℕ) → n < length used → get_or (set used n true) n false ≡ true
used-here [] n less = absurd (omega (arith, less))
used-here (u ∷ used) zero less = refl
used-here (u ∷ used) (suc n) less = used-here used n (omega (arith, less))

pub added-used : (used : List Bool) (entries : List Entry) (entry : Entry) → length entry.prefix < length used → AreUsed used entries
    → AreUsed (set used (length entry.prefix) true) (with_entry entries entry)
added-used used entries entry less all =
    each-added (IsUsed (set used (length entry.prefix) true)) entries entry
    (each-weaker (λ e is. used-more used (length entry.prefix) (length e.prefix) is) entries all)
    (used-here used (length entry.prefix) less)

pub none-prefixes : ArePrefixes []
unfolding IsStrictlySortedBy
none-prefixes = record { rising = tt; within = tt }
