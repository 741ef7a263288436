-- What a sync leads to.
use Rattle.std.specs.List.{AllByRecursion, filter}
use Rattle.std.proofs.Common.{◌≡◌, ℕ, suc, ◌+◌, ◌-◌, ◌≤◌, ◌^◌, List, [], ◌∷◌, ◌++◌, length, take, map, refl, sym, ◌∙◌, ap, subst, arith}
use Rattle.std.proofs.lemmas.List.{map-append, append-nil, length-drop, length-take-le}
use Rattle.std.proofs.lemmas.List.Sums.{sum_by-append}
use Rattle.std.proofs.lemmas.List.Elements.{filter-append}
use Rattle.std.proofs.Math.Seq.{take-length}
use Rattle.hse_fields.specs.LogText.{Entry}
use Rattle.hse_fields.specs.LogForm.{ArePayload}
use Rattle.hse_rows.specs.declared.change.Change.{Change}
use Rattle.hse_rows.specs.declared.change.Change.TheVariants.{Put, Del, PDel}
use Rattle.hse_rows.specs.declared.write.Write.{Write}
use Rattle.hse_rows.specs.writes.Change.{write_of}
use Rattle.hse_rows.specs.states.State.{Store, State}
use Rattle.hse_rows.specs.states.History.{Event, fold}
use Rattle.hse_rows.specs.states.Rooted.{writes_of}
use Rattle.hse_rows.specs.laws.Folding.{folded-number, fold-last}
use Rattle.hse_rows.specs.laws.Holding.{written_all}
use Rattle.hse_rows.specs.writes.Charge.{charge_of}
use Rattle.hse_rows.specs.machine.Log.{Numbered, LogState, charge_of_active, charge_of_commits}
use Rattle.hse_rows.specs.machine.Sizes.{Sizes}
use Rattle.hse_rows.specs.machine.Core.{Core, Stored, number_of, now, longest_value}
use Rattle.hse_rows.specs.machine.Recorded.{commits_in, taken_in}
use Rattle.recovery.specs.Image.{Loaded, HasNoGap}
use Rattle.recovery.specs.Stored.{state_of, store_in, write_in}
use Rattle.recovery.specs.Machine.{numbered_of, log_of, stored_of}
use Rattle.wal.specs.Logged.{logged, logged_change, logged_all}
use Rattle.wal.specs.Charges.{charges}
use Rattle.wal.specs.Numbered.{AreNumbered}
use Rattle.wal.specs.Numbering.{free_from}
use Rattle.device_layout.specs.Layouts.{params_of, sizes_of}
use Rattle.hse_rows.specs.machine.TakenRuns.{numbers_of}
use Rattle.engine_state.specs.Serves.{entries_of}
use Rattle.back.specs.Steps.{last_number as last_loaded, with_commits, MayCommit, MayCommitAny}
use Rattle.kvdb.specs.Found.{Entered, entered_at, entered_with, events_to, is_up_to, log_to, stored_at}
use Rattle.kvdb.specs.Pending.{IsLoggable, IsPending, unsafe_events}
use Rattle.kvdb.specs.laws.Events.{entered-commits, length-commits_in, up_to-all, up_to-none, commits_in-below, up_to-more}
use Rattle.kvdb.specs.laws.Growth.{stored_same}
use Rattle.back.specs.laws.Charged.{entries_charged}
use Rattle.kvdb.proofs.WritableLemmas.{CommitsArePayload, are_payload, length-entries, names_known, numbered-commits, prefixes-fit}
use Rattle.kvdb.proofs.StateLemmas.{folded-commits, writes-logged, stores-with, fold-since, free-behind}

-- ---- entries, as commits

logged-back : (id : ℕ) (change : Change) → write_in (logged_change id change) ≡ write_of (record { 0 = id }) change
logged-back id (Put key bytes) = refl
logged-back id (Del key) = refl
logged-back id (PDel prefix) = refl

write-logged : (write : Write) → write_in (logged write) ≡ write
write-logged write = logged-back write.store.0 write.change

writes-logged_all : (writes : List Write) → map write_in (logged_all writes) ≡ writes
writes-logged_all [] = refl
writes-logged_all (write ∷ writes) =
    ap (λ (w : Write). w ∷ map write_in (logged_all writes)) (write-logged write)
    ∙ ap (λ (l : List Write). write ∷ l) (writes-logged_all writes)

pub numbered-entries : (these : List Numbered) → map numbered_of (entries_of these) ≡ these
numbered-entries [] = refl
numbered-entries (commit ∷ these) =
    ap (λ (l : List Write). (record { number = commit.number; writes = l }) ∷ map numbered_of (entries_of these)) (writes-logged_all commit.writes)
    ∙ ap (λ (l : List Numbered). commit ∷ l) (numbered-entries these)

-- ---- the log and the manifest at what is safe, and at the last number

module _ (m : Core) (pending : IsPending m) (low : m.timeline.base.number ≤ m.safe) (high : m.safe ≤ number_of m) where
  long : length (unsafe_events m) ≡ number_of m - m.safe
  long = omega (arith, length-drop (m.safe - m.timeline.base.number) m.timeline.history)

  active-safe : filter (is_up_to m.safe) m.log.active ≡ pending.settled
  active-safe =
      ap (filter (is_up_to m.safe)) pending.active
      ∙ filter-append (is_up_to m.safe) pending.settled (commits_in (m.safe + 1) (unsafe_events m))
      ∙ ap (λ (l : List Numbered). filter (is_up_to m.safe) pending.settled ++ l) (up_to-none m.safe (m.safe + 1) (unsafe_events m) (omega arith))
      ∙ append-nil (filter (is_up_to m.safe) pending.settled)
      ∙ up_to-all m.safe pending.settled pending.below

  active-last : filter (is_up_to (number_of m)) m.log.active ≡ pending.settled ++ commits_in (m.safe + 1) (unsafe_events m)
  active-last =
      ap (filter (is_up_to (number_of m))) pending.active
      ∙ filter-append (is_up_to (number_of m)) pending.settled (commits_in (m.safe + 1) (unsafe_events m))
      ∙ ap (λ (l : List Numbered). l ++ filter (is_up_to (number_of m)) (commits_in (m.safe + 1) (unsafe_events m)))
      (up_to-all (number_of m) pending.settled (up_to-more m.safe (number_of m) pending.settled high pending.below))
      ∙ ap (λ (l : List Numbered). pending.settled ++ l)
      (up_to-all (number_of m) (commits_in (m.safe + 1) (unsafe_events m))
      (commits_in-below (number_of m) (m.safe + 1) (unsafe_events m) (omega (arith, long))))

  events-all : events_to m (number_of m) ≡ unsafe_events m
  events-all =
      ap (λ (n : ℕ). take n (unsafe_events m)) (sym long) ∙ take-length (unsafe_events m)

  pub entered-safe : entered_at m m.safe ≡ record { manifest = m.manifest; layout = m.layout }
  entered-safe =
      ap (λ (n : ℕ). entered_with m.sizes (fold m.timeline.base m.timeline.history m.safe)
      (record { manifest = m.manifest; layout = m.layout }) (take n (unsafe_events m)))
      (let e : m.safe - m.safe ≡ 0 = omega arith in e)

  pub entered-last : taken_in (m.safe + 1) (unsafe_events m) ≡ [] → entered_at m (number_of m) ≡ record { manifest = m.manifest; layout = m.layout }
  entered-last none =
      ap (λ (events : List Event). entered_with m.sizes (fold m.timeline.base m.timeline.history m.safe)
      (record { manifest = m.manifest; layout = m.layout }) events) events-all
      ∙ entered-commits m.sizes (fold m.timeline.base m.timeline.history m.safe)
      (record { manifest = m.manifest; layout = m.layout }) (m.safe + 1) (unsafe_events m) none

  -- ---- what a batch of all that waits leads to

  module _ (loaded : Loaded) (full : HasNoGap loaded.metadata loaded.log) (same : stored_of loaded ≡ stored_at m m.safe)
      (none : taken_in (m.safe + 1) (unsafe_events m) ≡ []) where
    few : length (unsafe_events m) ≡ length (commits_in (m.safe + 1) (unsafe_events m))
    few = sym (length-commits_in (m.safe + 1) (unsafe_events m) none)

    length-map : (entries : List Entry) → length (map numbered_of entries) ≡ length entries
    length-map [] = refl
    length-map (entry ∷ entries) = ap suc (length-map entries)

    last-base : fold m.timeline.base m.timeline.history (number_of m)
        ≡ record { number = (state_of loaded).number + length (unsafe_events m); stores = map (written_all (writes_of (unsafe_events m))) (state_of loaded).stores }
    last-base =
        fold-last m.timeline.base m.timeline.history
        ∙ sym (fold-since m.timeline.base m.timeline.history m.safe)
        ∙ folded-commits (m.safe + 1) (fold m.timeline.base m.timeline.history m.safe) (unsafe_events m) none
        ∙ ap (λ (s : State). record { number = s.number + length (unsafe_events m); stores = map (written_all (writes_of (unsafe_events m))) s.stores })
        (sym (ap (λ (s : Stored). s.base) same))

    next-number : (more : ℕ) → 1 ≤ more
        → free_from (last_loaded loaded + more + 1) (numbers_of loaded.metadata.taken) - 1 ≡ last_loaded loaded + more
    next-number more some =
        let behind : free_from (last_loaded loaded + more + 1) (numbers_of loaded.metadata.taken) ≡ last_loaded loaded + more + 1 =
        free-behind loaded.log.next (last_loaded loaded + more + 1) (numbers_of loaded.metadata.taken) full (omega arith) in
        omega (arith, behind)

    leads-base : (entry : Entry) (entries : List Entry) → map numbered_of (entry ∷ entries) ≡ commits_in (m.safe + 1) (unsafe_events m)
        → state_of (with_commits loaded (entry ∷ entries)) ≡ fold m.timeline.base m.timeline.history (number_of m)
    leads-base entry entries are =
        let count : length (entry ∷ entries) ≡ length (unsafe_events m) =
        sym (length-map (entry ∷ entries)) ∙ ap (λ (l : List Numbered). length l) are ∙ sym few in
        ap (λ (n : ℕ). record { number = n; stores = map (store_in (loaded.log.entries ++ entry ∷ entries)) loaded.metadata.stores })
        (next-number (length (entry ∷ entries)) (omega arith) ∙ ap (λ (n : ℕ). last_loaded loaded + n) count)
        ∙ ap (λ (l : List Store). record { number = last_loaded loaded + length (unsafe_events m); stores = l })
        (stores-with loaded.log.entries (entry ∷ entries) loaded.metadata.stores
        ∙ ap (λ (ws : List Write). map (written_all ws) (state_of loaded).stores) (writes-logged (entry ∷ entries) (m.safe + 1) (unsafe_events m) are))
        ∙ sym last-base

    leads-log : (entry : Entry) (entries : List Entry) → map numbered_of (entry ∷ entries) ≡ commits_in (m.safe + 1) (unsafe_events m)
        → log_of (with_commits loaded (entry ∷ entries)) ≡ log_to (number_of m) m.log
    leads-log entry entries are =
        let was : log_of loaded ≡ log_to m.safe m.log = ap (λ (s : Stored). s.log) same in
        let active : map numbered_of (loaded.log.entries ++ entry ∷ entries) ≡ filter (is_up_to (number_of m)) m.log.active =
        map-append numbered_of loaded.log.entries (entry ∷ entries)
        ∙ ap (λ (l : List Numbered). l ++ map numbered_of (entry ∷ entries)) (ap (λ (log : LogState). log.active) was ∙ active-safe)
        ∙ ap (λ (l : List Numbered). pending.settled ++ l) are
        ∙ sym active-last in
        ap (λ (log : LogState). record log { active = map numbered_of (loaded.log.entries ++ entry ∷ entries) }) was
        ∙ ap (λ (l : List Numbered). record m.log { active = l }) active

    leads-entered : entered_at m m.safe ≡ entered_at m (number_of m)
    leads-entered = entered-safe ∙ sym (entered-last none)

    pub sync_leads : (entries : List Entry) → map numbered_of entries ≡ commits_in (m.safe + 1) (unsafe_events m)
        → stored_of (with_commits loaded entries) ≡ stored_at m (number_of m)
    sync_leads [] are =
        let none_waits : 0 ≡ length (commits_in (m.safe + 1) (unsafe_events m)) = ap (λ (l : List Numbered). length l) are in
        same ∙ ap (stored_at m) (let e : m.safe ≡ number_of m = omega (arith, none_waits, few, long, high) in e)
    sync_leads (entry ∷ entries) are =
        stored_same (stored_of (with_commits loaded (entry ∷ entries))) (stored_at m (number_of m))
        (ap (λ (s : Stored). s.sizes) same)
        (leads-base entry entries are)
        (leads-log entry entries are)
        (ap (λ (s : Stored). s.manifest) same ∙ ap (λ (e : Entered). e.manifest) leads-entered)
        (ap (λ (s : Stored). s.layout) same ∙ ap (λ (e : Entered). e.layout) leads-entered)

    -- ---- what waits may be written

    safe-number : last_loaded loaded ≡ m.safe
    safe-number =
        ap (λ (s : Stored). s.base.number) same
        ∙ folded-number m.timeline.base (take (m.safe - m.timeline.base.number) m.timeline.history)
        ∙ (let some : length (take (m.safe - m.timeline.base.number) m.timeline.history) ≡ m.safe - m.timeline.base.number =
        length-take-le (m.safe - m.timeline.base.number) m.timeline.history (omega (arith, high)) in
        let e : m.timeline.base.number + length (take (m.safe - m.timeline.base.number) m.timeline.history) ≡ m.safe = omega (arith, some, low) in e)

    charges-all : charges loaded.log.entries + charges (entries_of (commits_in (m.safe + 1) (unsafe_events m))) ≡ charge_of_active m.log
    charges-all =
        let was : map numbered_of loaded.log.entries ≡ pending.settled = ap (λ (s : Stored). s.log.active) same ∙ active-safe in
        let one : charges loaded.log.entries ≡ charge_of_commits pending.settled =
        entries_charged loaded.log.entries ∙ ap charge_of_commits was in
        let other : charges (entries_of (commits_in (m.safe + 1) (unsafe_events m))) ≡ charge_of_commits (commits_in (m.safe + 1) (unsafe_events m)) =
        entries_charged (entries_of (commits_in (m.safe + 1) (unsafe_events m)))
        ∙ ap charge_of_commits (numbered-entries (commits_in (m.safe + 1) (unsafe_events m))) in
        let both : charge_of_active m.log ≡ charge_of_commits pending.settled + charge_of_commits (commits_in (m.safe + 1) (unsafe_events m)) =
        ap charge_of_commits pending.active
        ∙ sum_by-append (λ (commit : Numbered). charge_of commit.writes) pending.settled (commits_in (m.safe + 1) (unsafe_events m)) in
        omega (arith, one, other, both)

    sizes-are : sizes_of (params_of loaded.layout) ≡ m.sizes
    sizes-are = ap (λ (s : Stored). s.sizes) same

    stores-now : (now m).stores ≡ map (written_all (writes_of (unsafe_events m))) (map (store_in loaded.log.entries) loaded.metadata.stores)
    stores-now =
        ap (λ (s : State). s.stores) (sym (fold-last m.timeline.base m.timeline.history) ∙ last-base)

    module _ (law : CommitsArePayload) (limits : number_of m ≤ 2 ^ 62) (room : charge_of_active m.log ≤ m.sizes.segment_size - 64)
        (segment : m.sizes.segment_size ≤ 67108864) (known : pending.named ≤ m.safe) where
      may : 1 ≤ length (commits_in (m.safe + 1) (unsafe_events m))
          → MayCommit loaded (entries_of (commits_in (m.safe + 1) (unsafe_events m)))
      may some = record {
        formed = subst (λ (s : Sizes). ArePayload (longest_value s) (entries_of (commits_in (m.safe + 1) (unsafe_events m)))) (sym sizes-are)
            (are_payload law m.sizes (now m).stores (m.safe + 1) (unsafe_events m) (omega (arith, long, limits))
            (omega (
              arith,
              charges-all,
              room,
              segment,
              entries_charged (entries_of (commits_in (m.safe + 1) (unsafe_events m))),
              ap charge_of_commits (numbered-entries (commits_in (m.safe + 1) (unsafe_events m))),
            ))
            pending.waiting some);
        prefixes = prefixes-fit loaded.log.entries (writes_of (unsafe_events m)) loaded.metadata.stores m.sizes
            (commits_in (m.safe + 1) (unsafe_events m))
            (subst (λ (l : List Store). AllByRecursion (IsLoggable m.sizes l) (commits_in (m.safe + 1) (unsafe_events m))) stores-now pending.waiting);
        numbered = subst (λ (n : ℕ). AreNumbered (n + 1) (entries_of (commits_in (m.safe + 1) (unsafe_events m)))) (sym safe-number)
            (numbered-commits (m.safe + 1) (unsafe_events m) none);
        known = names_known pending.named (last_loaded loaded) (omega (arith, safe-number, known))
            (commits_in (m.safe + 1) (unsafe_events m)) pending.waiting_named;
        small = omega (arith, safe-number, limits, long, few, length-entries (commits_in (m.safe + 1) (unsafe_events m)));
        fits = omega (arith, charges-all, room, ap (λ (s : Sizes). s.segment_size) sizes-are);
      }

      pub may_commit : MayCommitAny loaded (entries_of (commits_in (m.safe + 1) (unsafe_events m)))
      may_commit = by (commits_in (m.safe + 1) (unsafe_events m)) refl
        where
          by : (these : List Numbered) → commits_in (m.safe + 1) (unsafe_events m) ≡ these → MayCommitAny loaded (entries_of these)
          by [] is = tt
          by (commit ∷ these) is =
              subst (λ (l : List Numbered). MayCommit loaded (entries_of l)) is
              (may (let e : length (commits_in (m.safe + 1) (unsafe_events m)) ≡ suc (length these) = ap (λ (l : List Numbered). length l) is in omega (arith, e)))
