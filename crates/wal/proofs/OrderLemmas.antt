-- Changes in the log's order are in the order of a commit's writes.
use Rattle.std.proofs.Common.{◌≡◌, true, List, [], ◌∷◌, Some, None, refl, sym, ◌∙◌}
use Rattle.std.specs.List.{AllByRecursion}
use Rattle.std.specs.List.Sorted.{IsStrictlySortedBy}
use Rattle.std.specs.Cmp.{IsTotalOrder, then_total, on_total, nat_cmp_total}
use Rattle.std.specs.Ordering.{is_lt}
use Rattle.std.specs.declared.cmp.Ordering.{Ordering}
use Rattle.std.specs.declared.cmp.Ordering.TheVariants.{Less, Equal, Greater}
use Rattle.std.specs.Cmp.Lexicographic.{nat_list_cmp_total}
use Rattle.hse_fields.specs.LogOrder.{change_order}
use Rattle.hse_fields.specs.LogForm.{AreInOrder}
use Rattle.hse_rows.specs.writes.Change.{target}
use Rattle.hse_rows.specs.writes.NormalForm.{rank, write_cmp}
use Rattle.hse_rows.specs.declared.change.Change.{Change}
use Rattle.hse_rows.specs.declared.change.Change.TheVariants.{Put, Del, PDel}
use Rattle.hse_rows.specs.declared.store.StoreId.{StoreId}
use Rattle.hse_rows.specs.declared.write.Write.{Write}
use Rattle.wal.specs.Logged.{logged, logged_change, logged_all}

same_parts : (s t : StoreId) (c d : Change)
    → change_order (logged_change s.0 c) (logged_change t.0 d) ≡ write_cmp (record { store = s; change = c }) (record { store = t; change = d })
same_parts s t (Put a x) (Put b y) = refl
same_parts s t (Put a x) (Del b) = refl
same_parts s t (Put a x) (PDel b) = refl
same_parts s t (Del a) (Put b y) = refl
same_parts s t (Del a) (Del b) = refl
same_parts s t (Del a) (PDel b) = refl
same_parts s t (PDel a) (Put b y) = refl
same_parts s t (PDel a) (Del b) = refl
same_parts s t (PDel a) (PDel b) = refl

pub same_order : (a b : Write) → change_order (logged a) (logged b) ≡ write_cmp a b
same_order a b = same_parts a.store b.store a.change b.change

less : (o : Ordering) → is_lt o ≡ true → o ≡ Less
less Less e = refl
less Equal e = absurd cc
less Greater e = absurd cc

write_order : IsTotalOrder write_cmp
write_order =
    then_total (on_total (λ (w : Write). rank w.change) nat_cmp_total)
    (then_total (on_total (λ (w : Write). w.store.0) nat_cmp_total) (on_total (λ (w : Write). target w.change) nat_list_cmp_total))

above : (w x : Write) (ws : List Write) → write_cmp w x ≡ Less → AllByRecursion (λ y. write_cmp x y ≡ Less) ws
    → AllByRecursion (λ y. write_cmp w y ≡ Less) ws
above w x [] first all = tt
above w x (y ∷ ys) first all = (write_order.trans w x y first all.0, above w x ys first all.1)

rising_behind : (w : Write) (ws : List Write) → AreInOrder (Some (logged w)) (logged_all ws)
    → AllByRecursion (λ y. write_cmp w y ≡ Less) ws × IsStrictlySortedBy write_cmp ws
unfolding IsStrictlySortedBy
rising_behind w [] in_order = (tt, tt)
rising_behind w (x ∷ xs) in_order =
    let first : write_cmp w x ≡ Less = sym (same_order w x) ∙ less (change_order (logged w) (logged x)) in_order.0 in
    let rest = rising_behind x xs in_order.1 in
    ((first, above w x xs first rest.0), rest)

pub rising : (ws : List Write) → AreInOrder None (logged_all ws) → IsStrictlySortedBy write_cmp ws
unfolding IsStrictlySortedBy
rising [] in_order = tt
rising (w ∷ ws) in_order = rising_behind w ws in_order.1
