-- The batch of the waiting commits is read behind the others.
use Rattle.std.proofs.Common.{◌≡◌, ◌≢◌, ℕ, zero, suc, ◌+◌, ◌-◌, ◌<◌, ◌≤◌, ◌^◌, List, [], ◌∷◌, ◌++◌, length, take, drop, refl, sym, ap, subst, ◌∙◌, arith, length-append, length-drop, take-append-drop, lit<}
use Rattle.std.specs.Prelude.{Ok}
use Rattle.std.specs.List.{AllByRecursion}
use Rattle.std.specs.FinMap as map
use Rattle.std.proofs.lemmas.List.{take_all}
use Rattle.std.proofs.lemmas.List.Sums.{sum_by-append}
use Rattle.byteorder.specs.Endian.{big_bytes}
use Rattle.gate_log.specs.Gates.{Gated}
use Rattle.gate_log.specs.Places.{region_of, tail_of}
use Rattle.hse_fields.specs.LogText as log
use Rattle.hse_fields.specs.LogForm.{IsEntry}
use Rattle.hse_fields.specs.LogReading.{payload_of, PrefixesFit}
use Rattle.hse_fields.specs.laws.Payloads.{payload_again}
use Rattle.wal.specs.laws.Batches.{closed_read, batches_follow, more_is_read}
use Rattle.wal.specs.Charges.{charges}
use Rattle.wal.specs.Live.{prefix_fits}
use Rattle.wal.specs.Logged.{charge}
use Rattle.wal.specs.Numbered.{untaken, AreNumbered, IsRun}
use Rattle.wal.specs.Numbering.{Numbers, numbering, last_number}
use Rattle.wal.specs.laws.Numbering.{follow_run, run_follows}
use Rattle.wal.specs.Replaying.{segment_of}
use Rattle.hse_shell.specs.Base.{Base}
use Rattle.hse_shell.specs.Change.{Change, Contents, put, del, after}
use Rattle.hse_shell.specs.LogText.{entries_from, entries_text, charges_of}
use Rattle.hse_shell.specs.Machine.{Machine, base_at, charges_until, number_of, unsynced, room}
use Rattle.hse_shell.specs.Stands.{AreLogged, first_waiting}
use Rattle.hse_shell.specs.Stored.{device_size, log_region, live_stores, longest_value, first_numbers, changed_all, replayed, base_of, closed_behind, Stores}
use Rattle.hse_shell.proofs.AfterLemmas.{after-append}
use Rattle.hse_shell.proofs.EntryLemmas.{charges_are, charges_of-append, charges_of-least, many}

-- ---- what entries lead to

replayed-append : (contents : Contents) (es more : List log.Entry) → replayed contents (es ++ more) ≡ replayed (replayed contents es) more
replayed-append contents [] more = refl
replayed-append contents (e ∷ es) more = replayed-append (changed_all contents e.changes) es more

-- the entries of commits do what the commits do
replayed_own : (contents : Contents) (number : ℕ) (changes : List Change) → replayed contents (entries_from number changes) ≡ after contents changes
replayed_own contents number [] = refl
replayed_own contents number (put key value ∷ changes) = replayed_own (map.insert contents key value) (number + 1) changes
replayed_own contents number (del key ∷ changes) = replayed_own (map.remove contents key) (number + 1) changes

-- ---- the entries of commits are such that the log may have

logged-drop : (n : ℕ) (changes : List Change) → AreLogged changes → AreLogged (drop n changes)
logged-drop zero changes all = all
logged-drop (suc n) [] all = tt
logged-drop (suc n) (c ∷ cs) all = logged-drop n cs all.1

numbered : (number : ℕ) (changes : List Change) → AreNumbered number (entries_from number changes)
numbered number [] = tt
numbered number (change ∷ changes) = (refl, numbered (number + 1) changes)

formed : (number : ℕ) (changes : List Change) → number + length changes < 2 ^ 64 → AreLogged changes
    → AllByRecursion (IsEntry longest_value) (entries_from number changes)
formed number [] small all = tt
formed number (change ∷ changes) small all = (
  record {
    number = omega (arith, small);
    changes = record { some = omega arith; counted = omega arith; formed = (all.0, tt); in_order = (refl, tt) };
  },
  formed (number + 1) changes (omega (arith, small)) all.1,
)

fit : (number : ℕ) (changes : List Change) → PrefixesFit (prefix_fits live_stores) (entries_from number changes)
fit number [] = tt
fit number (put key value ∷ changes) = ((refl, tt), fit (number + 1) changes)
fit number (del key ∷ changes) = ((refl, tt), fit (number + 1) changes)

some_of : (changes : List Change) → changes ≢ [] → 1 ≤ length changes
some_of [] some = absurd (some refl)
some_of (change ∷ changes) some = omega arith

-- ---- what reading knows behind a segment's batches

-- a segment that was read is a run of consecutive numbers, of any size
read_is_run : (size : ℕ) (payloads : List (List ℕ)) (es : List log.Entry) (last : Numbers)
    → segment_of live_stores longest_value (first_numbers size) payloads (closed_behind payloads) ≡ Ok (es, last)
    → IsRun 2 (size - 64) es last
read_is_run size payloads es last e =
    follow_run live_stores 2 (size - 64) es last
    (batches_follow live_stores longest_value (first_numbers size) 9 payloads (es, last)
    (closed_read live_stores longest_value (first_numbers size) payloads (closed_behind payloads) (es, last) e))

-- a payload of consecutive commits for which there is room is read
payload_read : (next left : ℕ) (changes : List Change) → 1 ≤ length changes → next + length changes ≤ last_number + 1
    → charges_of changes ≤ left → length changes < 2 ^ 32 → AreLogged changes
    → payload_of (numbering live_stores) longest_value (untaken next left) (log.payload_text (entries_from next changes))
    ≡ Ok (entries_from next changes, untaken (next + length (entries_from next changes)) (left - charges (entries_from next changes)))
payload_read next left changes some small fits few all =
    let count = many next changes in
    let charged = charges_are next changes in
    payload_again (numbering live_stores) longest_value (untaken next left) _ (entries_from next changes) (lit< tt)
    (record { some = omega (arith, count, some); counted = omega (arith, count, few); formed = formed next changes (omega (arith, small)) all })
    (run_follows live_stores next left (entries_from next changes) (numbered next changes) (omega (arith, count, small)) (omega (arith, charged, fits)))
    (fit next changes)

-- the commits behind those of a segment
pub more_read : (size : ℕ) (payloads : List (List ℕ)) (es : List log.Entry) (last : Numbers) (changes : List Change)
    → segment_of live_stores longest_value (first_numbers size) payloads (closed_behind payloads) ≡ Ok (es, last)
    → 1 ≤ length changes → length changes < 2 ^ 32 → (2 + length es) + length changes ≤ last_number + 1
    → charges_of changes ≤ (size - 64) - charges es → AreLogged changes → (more : List (List ℕ))
    → more ≡ payloads ++ log.payload_text (entries_from (2 + length es) changes) ∷ [] → (after : Numbers)
    × (segment_of live_stores longest_value (first_numbers size) more (closed_behind more) ≡ Ok (es ++ entries_from (2 + length es) changes, after))
more_read size payloads es last changes e some few small fits all more is =
    let run = read_is_run size payloads es last e in
    let next = 2 + length es in
    let left = (size - 64) - charges es in
    let after = untaken (next + length (entries_from next changes)) (left - charges (entries_from next changes)) in
    let read = subst (λ (s : Numbers). payload_of (numbering live_stores) longest_value s (log.payload_text (entries_from next changes)) ≡ Ok (entries_from next changes, after))
    (sym run.last_is) (payload_read next left changes some small fits few all) in (
      after,
      subst (λ (ps : List (List ℕ)). segment_of live_stores longest_value (first_numbers size) ps (closed_behind ps) ≡ Ok (es ++ entries_from next changes, after)) (sym is)
          (more_is_read live_stores longest_value (first_numbers size) payloads (record { place = tail_of payloads })
          (record { place = tail_of (payloads ++ log.payload_text (entries_from next changes) ∷ []) })
          es last (log.payload_text (entries_from next changes)) (entries_from next changes) after e read),
    )

-- ---- what the device stores

module _ (m : Machine) (whole : m.synced ≤ length m.history) where
  abbrev old_ones : List Change
  old_ones = take m.synced m.history

  parts : old_ones ++ unsynced m ≡ take (length m.history) m.history
  parts = take-append-drop m.synced m.history ∙ sym (take_all (length m.history) m.history (omega arith))

  -- what the entries of all commits lead to
  pub base_of_all : (es : List log.Entry) → base_of es ≡ base_at m m.synced → base_of (es ++ entries_from (2 + length es) (unsynced m)) ≡ base_at m (length m.history)
  base_of_all es is =
      let own = entries_from (2 + length es) (unsynced m) in
      let number_is : 1 + length es ≡ m.base.number + m.synced = ap (λ (b : Base). b.number) is in
      let contents_are : replayed map.empty es ≡ after m.base.contents old_ones = ap (λ (b : Base). b.contents) is in
      let charges_is : charges es ≡ m.base.charges + charges_of old_ones = ap (λ (b : Base). b.charges) is in
      let number : 1 + length (es ++ own) ≡ m.base.number + length m.history =
      omega (arith, number_is, length-append es own, many (2 + length es) (unsynced m), length-drop m.synced m.history, whole) in
      let contents : replayed map.empty (es ++ own) ≡ after m.base.contents (take (length m.history) m.history) =
      replayed-append map.empty es own ∙ ap (λ (c : Contents). replayed c own) contents_are
      ∙ replayed_own (after m.base.contents old_ones) (2 + length es) (unsynced m)
      ∙ sym (after-append m.base.contents old_ones (unsynced m)) ∙ ap (after m.base.contents) parts in
      let sums : charges (es ++ own) ≡ m.base.charges + charges_of (take (length m.history) m.history) =
      omega (arith, charges_is, sum_by-append charge es own, charges_are (2 + length es) (unsynced m), charges_of-append old_ones (unsynced m), ap charges_of parts) in
      λ i. record { number = number i; contents = contents i; charges = sums i }

  module _ (within : charges_until m ≤ room) (numbers : number_of m ≤ 1 + charges_until m) (logs : AreLogged m.history) (waits : unsynced m ≢ [])
      (payload : List ℕ) (is : payload ≡ big_bytes 4 (length (unsynced m)) ++ entries_text (first_waiting m) (unsynced m)) where
    sums : charges_until m ≡ (m.base.charges + charges_of old_ones) + charges_of (unsynced m)
    sums =
        let all = charges_of-append old_ones (unsynced m) in
        let whole_is : charges_of (old_ones ++ unsynced m) ≡ charges_of m.history = ap charges_of (take-append-drop m.synced m.history) in
        omega (arith, all, whole_is)

    -- the payload spells the commits behind those that the device stores
    spelled : (es : List log.Entry) → base_of es ≡ base_at m m.synced → payload ≡ log.payload_text (entries_from (2 + length es) (unsynced m))
    spelled es stored =
        let number_is : 1 + length es ≡ m.base.number + m.synced = ap (λ (b : Base). b.number) stored in
        let next : first_waiting m ≡ 2 + length es = omega (arith, number_is) in
        is ∙ ap (λ (n : ℕ). big_bytes 4 n ++ entries_text (first_waiting m) (unsynced m)) (sym (many (2 + length es) (unsynced m)))
        ∙ ap (λ (n : ℕ). big_bytes 4 (length (entries_from (2 + length es) (unsynced m))) ++ entries_text n (unsynced m)) next

    pub all_read : (payloads : List (List ℕ)) (es : List log.Entry) (last : Numbers) → base_of es ≡ base_at m m.synced
        → segment_of live_stores longest_value (first_numbers device_size) payloads (closed_behind payloads) ≡ Ok (es, last) → (after : Numbers)
        × (segment_of live_stores longest_value (first_numbers device_size) (payloads ++ payload ∷ []) (closed_behind (payloads ++ payload ∷ []))
        ≡ Ok (es ++ entries_from (2 + length es) (unsynced m), after))
    all_read payloads es last stored e =
        let number_is : 1 + length es ≡ m.base.number + m.synced = ap (λ (b : Base). b.number) stored in
        let charges_is : charges es ≡ m.base.charges + charges_of old_ones = ap (λ (b : Base). b.charges) stored in
        let count = length-drop m.synced m.history in
        let least = charges_of-least (unsynced m) in
        more_read device_size payloads es last (unsynced m) e (some_of (unsynced m) waits)
        (omega (arith, least, sums, within)) (omega (arith, number_is, count, numbers, within, whole))
        (omega (arith, charges_is, sums, within)) (logged-drop m.synced m.history logs) (payloads ++ payload ∷ [])
        (ap (λ (p : List ℕ). payloads ++ p ∷ []) (spelled es stored))

    -- the device with the batch of the waiting commits stores all
    abbrev pub stores_all : (seen now : List ℕ) → (st : Stores seen (base_at m m.synced)) → length now ≡ device_size
        → Gated (region_of log_region now) st.loads.sequence (st.loads.payloads ++ payload ∷ []) → Stores now (base_at m (length m.history))
    stores_all seen now st as_long gated =
        let read = all_read st.loads.payloads st.entries st.loads.last st.is st.loads.read in
        record {
          entries = st.entries ++ entries_from (2 + length st.entries) (unsynced m);
          loads = record {
            as_long = as_long;
            sequence = st.loads.sequence;
            payloads = st.loads.payloads ++ payload ∷ [];
            gated = gated;
            of_log = st.loads.of_log;
            last = read.0;
            read = read.1;
          };
          is = base_of_all st.entries st.is;
        }
