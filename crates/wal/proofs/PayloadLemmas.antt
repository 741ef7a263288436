-- Commits that can be written are a payload of the log's text.
use Rattle.std.proofs.Common.{◌≡◌, ℕ, ◌^◌, ◌<◌, ◌≤◌, true, List, [], ◌∷◌, length, Some, None, refl, ◌∙◌, arith}
use Rattle.std.specs.List.{All, AllByRecursion}
use Rattle.std.specs.List.Sorted.{IsStrictlySortedBy}
use Rattle.std.specs.Ordering.{is_lt}
use Rattle.std.specs.declared.cmp.Ordering.{Ordering}
use Rattle.std.specs.declared.cmp.Ordering.TheVariants.{Less}
use Rattle.std.proofs.lemmas.List.{length-map}
use Rattle.std.proofs.lemmas.List.Elements.{recursion_from_All}
use Rattle.hse_fields.specs.LogOrder.{change_order}
use Rattle.hse_fields.specs.LogForm.{AreInOrder, IsChange, IsEntry, ArePayload}
use Rattle.hse_rows.specs.writes.Change.{FitsLimits}
use Rattle.hse_rows.specs.writes.NormalForm.{write_cmp}
use Rattle.hse_rows.specs.declared.change.Change.{Change}
use Rattle.hse_rows.specs.declared.change.Change.TheVariants.{Put, Del, PDel}
use Rattle.hse_rows.specs.declared.store.StoreId.{StoreId}
use Rattle.hse_rows.specs.declared.write.Write.{Write}
use Rattle.wal.specs.Logged.{logged, logged_change, logged_all, entry_of, entries_of}
use Rattle.wal.specs.Writable.{IsWritable, IsWritableCommit}
use Rattle.wal.specs.declared.commit.Commit.{Commit}
use Rattle.wal.proofs.OrderLemmas.{same_order}

-- ---- the order

is_less : (o : Ordering) → o ≡ Less → is_lt o ≡ true
is_less o e = rw e refl

in_order_behind : (w : Write) (ws : List Write) → AllByRecursion (λ y. write_cmp w y ≡ Less) ws → IsStrictlySortedBy write_cmp ws
    → AreInOrder (Some (logged w)) (logged_all ws)
unfolding IsStrictlySortedBy
in_order_behind w [] above rising = tt
in_order_behind w (x ∷ xs) above rising =
    (is_less (change_order (logged w) (logged x)) (same_order w x ∙ above.0), in_order_behind x xs rising.0 rising.1)

in_order : (ws : List Write) → IsStrictlySortedBy write_cmp ws → AreInOrder None (logged_all ws)
unfolding IsStrictlySortedBy
in_order [] rising = tt
in_order (w ∷ ws) rising = (refl, in_order_behind w ws rising.0 rising.1)

-- ---- the form

change_formed : (most : ℕ) (store : StoreId) (c : Change) → store.0 < 2 ^ 64 → FitsLimits c → length (logged_change store.0 c).value ≤ most
    → IsChange most (logged_change store.0 c)
change_formed most store (Put key value) small limits fits = record { store = small; some_name = limits.0; short_name = limits.1; value_fits = fits }
change_formed most store (Del key) small limits fits = record { store = small; some_name = limits.0; short_name = limits.1; value_fits = refl }
change_formed most store (PDel prefix) small limits fits = record { store = small; some_name = limits.0; short_name = limits.1; value_fits = refl }

changes_formed : (most : ℕ) (ws : List Write) → AllByRecursion (IsWritable most) ws → AllByRecursion (IsChange most) (logged_all ws)
changes_formed most [] all = tt
changes_formed most (w ∷ ws) all =
    (change_formed most w.store w.change all.0.store all.0.limits all.0.value, changes_formed most ws all.1)

entry_formed : (most : ℕ) (c : Commit) → IsWritableCommit most c → IsEntry most (entry_of c)
entry_formed most c h =
    let many : length (logged_all c.writes) ≡ length c.writes = length-map c.writes logged in
    let some : 1 ≤ length c.writes = h.some in
    let counted : length c.writes < 2 ^ 32 = h.counted in
    record {
      number = h.number;
      changes = record {
        some = omega (arith, many, some);
        counted = omega (arith, many, counted);
        formed = changes_formed most c.writes (recursion_from_All (IsWritable most) c.writes h.writes);
        in_order = in_order c.writes h.in_order;
      };
    }

entries_formed : (most : ℕ) (cs : List Commit) → AllByRecursion (IsWritableCommit most) cs → AllByRecursion (IsEntry most) (entries_of cs)
entries_formed most [] all = tt
entries_formed most (c ∷ cs) all = (entry_formed most c all.0, entries_formed most cs all.1)

pub payload_formed : (most : ℕ) (cs : List Commit) → 1 ≤ length cs → length cs < 2 ^ 32 → All (IsWritableCommit most) cs
    → ArePayload most (entries_of cs)
payload_formed most cs some counted all =
    let many : length (entries_of cs) ≡ length cs = length-map cs entry_of in
    record {
      some = omega (arith, many, some);
      counted = omega (arith, many, counted);
      formed = entries_formed most cs (recursion_from_All (IsWritableCommit most) cs all);
    }
