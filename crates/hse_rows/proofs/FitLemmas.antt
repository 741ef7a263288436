-- What keeps within the limits, part by part.
use Rattle.std.proofs.Common.{◌≡◌, ℕ, zero, suc, ◌+◌, ◌-◌, ◌^◌, ◌<◌, ◌≤◌, ◌==◌, nat_lt, nat_le, Bool, true, false, not, cond, ◌&&◌, ◌||◌, List, [], ◌∷◌, ◌++◌, length, Option, Some, None, refl, sym, ◌∙◌, ap, subst, arith, zero-add, length-append}
use Rattle.std.specs.Prelude.{set}
use Rattle.std.specs.List.{slice_get, filter, AllByRecursion}
use Rattle.std.proofs.lemmas.List.{length-map, length-set}
use Rattle.std.proofs.lemmas.List.Sums.{sum_by-append}
use Rattle.std.proofs.lemmas.Bool.Decides.{nat_tests}
use Rattle.hse_rows.specs.declared.store.Mode.{Mode}
use Rattle.hse_rows.specs.declared.write.Write.{Write}
use Rattle.hse_rows.specs.writes.Charge.{charge_of}
use Rattle.hse_rows.specs.machine.Rising.{rise-filter, rise-push}
use Rattle.hse_rows.specs.states.State.{Store, State}
use Rattle.hse_rows.specs.laws.Holding.{written_all, applied_all-stores}
use Rattle.hse_rows.specs.states.History.{Event, commits, creates, drops, new_store, happened, folded, last_number}
use Rattle.hse_rows.specs.laws.Folding.{folded_push}
use Rattle.hse_rows.specs.transactions.Transaction.{Transaction, is_active}
use Rattle.hse_rows.specs.machine.Log.{LogState, Frozen, Numbered, charge_of_active, room_of, room_left, logged}
use Rattle.hse_rows.specs.machine.ManifestRoom.{ManifestState, half_room, fits, cannot_roll, gained, greatest_sequence}
use Rattle.hse_rows.specs.machine.Sizes.{Sizes}
use Rattle.hse_rows.specs.rows.Job.{JobWish, ingest, of_run, Work, ingesting, on_run, Job, AreApart, JobState, job_of, needed_blocks, live_ingest, claimer, first_on, is_picked, is_built}
use Rattle.hse_rows.specs.rows.Job as job_states
use Rattle.hse_rows.specs.rows.Layout.{NewSet}
use Rattle.hse_rows.specs.machine.Turn.{Turn, home, taken, ran}
use Rattle.hse_rows.specs.machine.Replies as replies
use Rattle.hse_rows.specs.machine.Replies.{Refusal, Answer}
use Rattle.hse_rows.specs.machine.Core.{Core, oldest}
use Rattle.hse_rows.specs.machine.ManifestEntry.{ManifestEntry, whole_need, has_no_room, entered}
use Rattle.hse_rows.specs.machine.CoreRefusal.{room_refusal, is_log_busy, entry_refusal}
use Rattle.hse_rows.specs.machine.CoreDone.{without_job, with_state, frozen_log, without_oldest, oldest_gone, log_after}
use Rattle.hse_rows.specs.machine.Limits.{HistoryFits, LayerFits, LogFits, ManifestFits, TransactionsFit, JobsFit, TurnFits}
use Rattle.hse_rows.proofs.JobLemmas.{led_numbered, push_apart, filter_apart, led_apart}
use Rattle.hse_rows.proofs.PassLemmas.{passes}

-- ---- numbers

pub at_most : (a b : ℕ) → nat_lt a b ≡ false → b ≤ a
at_most a b told = grind (arith, nat_tests)

pub below : (a b : ℕ) → nat_le a b ≡ false → b < a
below a b told = grind (arith, nat_tests)

pub up_to : (a b : ℕ) → nat_le a b ≡ true → a ≤ b
up_to a b told = grind (arith, nat_tests)

pub or_parts : (a b : Bool) → (a || b) ≡ false → (a ≡ false) × (b ≡ false)
or_parts true b e = absurd cc
or_parts false b e = (refl, e)

pub fewer : {X : Type 0} (p : X → Bool) (xs : List X) → length (filter p xs) ≤ length xs
fewer p [] = omega arith
fewer p (x ∷ xs) =
    let rest : length (filter p xs) ≤ length xs = fewer p xs in
    elim (p x) as (λ b. length (cond b (x ∷ filter p xs) (filter p xs)) ≤ length (x ∷ xs)) [
      | true ↦ omega arith
      | false ↦ omega arith
    ]

-- ---- one event more

module _ (sizes : Sizes) (base : State) (events : List Event) (good : HistoryFits sizes base events) where
  pub stores_pushed : (event : Event) → length (folded base (events ++ event ∷ [])).stores ≡ length (happened (folded base events) event).stores
  stores_pushed event = ap (λ (s : State). length s.stores) (folded_push base events event)

  pub event_fits : (event : Event) → nat_le (2 ^ 62) (last_number base events) ≡ false
      → length (happened (folded base events) event).stores ≤ sizes.most_stores → HistoryFits sizes base (events ++ event ∷ [])
  event_fits event unspent few =
      let low : last_number base events < 2 ^ 62 = below (2 ^ 62) (last_number base events) unspent in
      let longer : length (events ++ event ∷ []) ≡ length events + 1 = omega (arith, length-append events (event ∷ [])) in
      record {
        numbers = omega (arith, longer, low);
        stores = subst (λ (n : ℕ). n ≤ sizes.most_stores) (sym (stores_pushed event)) few;
      }

  pub commit_fits : (writes : List Write) → nat_le (2 ^ 62) (last_number base events) ≡ false → HistoryFits sizes base (events ++ commits writes ∷ [])
  commit_fits writes unspent =
      let same_count : length (happened (folded base events) (commits writes)).stores ≡ length (folded base events).stores =
      ap (λ (s : State). length s.stores) (applied_all-stores (folded base events) writes) ∙ length-map (folded base events).stores (written_all writes) in
      event_fits (commits writes) unspent (subst (λ (n : ℕ). n ≤ sizes.most_stores) (sym same_count) good.stores)

  pub creation_fits : (name : List ℕ) (mode : Mode) (prefix : ℕ) → nat_le (2 ^ 62) (last_number base events) ≡ false
      → nat_le sizes.most_stores (length (folded base events).stores) ≡ false → HistoryFits sizes base (events ++ creates name mode prefix ∷ [])
  creation_fits name mode prefix unspent room =
      let few : length (folded base events).stores < sizes.most_stores = below sizes.most_stores (length (folded base events).stores) room in
      let more = length-append (folded base events).stores (new_store ((folded base events).number + 1) name mode prefix ∷ []) in
      event_fits (creates name mode prefix) unspent (omega (arith, few, more))

  pub drop_fits : (id : ℕ) → nat_le (2 ^ 62) (last_number base events) ≡ false → HistoryFits sizes base (events ++ drops id ∷ [])
  drop_fits id unspent =
      let few : length (folded base events).stores ≤ sizes.most_stores = good.stores in
      let less : length (happened (folded base events) (drops id)).stores ≤ length (folded base events).stores =
      fewer (λ (store : Store). not (store.id == id)) (folded base events).stores in
      event_fits (drops id) unspent (omega (arith, few, less))

pub pushed_number : (base : State) (events : List Event) (event : Event) → last_number base (events ++ event ∷ []) ≡ last_number base events + 1
pushed_number base events event = omega (arith, length-append events (event ∷ []))

-- ---- the log

pub charge_logged : (log : LogState) (number : ℕ) (writes : List Write) → charge_of_active (logged log number writes) ≡ charge_of_active log + charge_of writes
charge_logged log number writes =
    let one : Numbered = record { number = number; writes = writes } in
    sum_by-append (λ (commit : Numbered). charge_of commit.writes) log.active (one ∷ [])
    ∙ ap (λ (n : ℕ). charge_of_active log + n) (zero-add (charge_of writes))

pub logged_fits : (m : Core) (number : ℕ) (writes : List Write) → LogFits m.sizes m.log → room_refusal m (charge_of writes) ≡ None
    → LogFits m.sizes (logged m.log number writes)
logged_fits m number writes good passed =
    let left : ℕ = room_left m.sizes.segment_size m.log in
    let small : charge_of writes ≤ left = at_most left (charge_of writes) (passes (nat_lt left (charge_of writes)) (replies.log_full (charge_of writes) left) None passed).0 in
    let before : charge_of_active m.log ≤ room_of m.sizes.segment_size = good.room in
    let after : charge_of_active (logged m.log number writes) ≡ charge_of_active m.log + charge_of writes = charge_logged m.log number writes in
    record { room = omega (arith, after, small, before); layers = good.layers; frozen = good.frozen; segments = good.segments }

pub frozen_fits : (sizes : Sizes) (log : LogState) (last : ℕ) → LogFits sizes log → is_log_busy log ≡ false → LogFits sizes (frozen_log log last)
frozen_fits sizes log last good free =
    elim (length log.active == 0)
    as (λ b. (length log.active == 0) ≡ b → (not b && (nat_le 3 (length log.frozen) || nat_le (2 ^ 62) (log.first_segment + length log.frozen))) ≡ false
    → LogFits sizes (cond b log (record log { frozen = record { last = last; commits = log.active } ∷ log.frozen; active = [] }))) [
      | true ↦ λ is e. good
      | false ↦ λ is e.
          let parts = or_parts (nat_le 3 (length log.frozen)) (nat_le (2 ^ 62) (log.first_segment + length log.frozen)) e in
          let few : length log.frozen < 3 = below 3 (length log.frozen) parts.0 in
          let low : log.first_segment + length log.frozen < 2 ^ 62 = below (2 ^ 62) (log.first_segment + length log.frozen) parts.1 in
          let some : 0 < length log.active = grind (arith, nat_tests) in
          let newest : LayerFits sizes (record { last = last; commits = log.active }) = record { commits = some; room = good.room } in
          record { room = omega arith; layers = omega arith; frozen = (newest, good.frozen); segments = omega arith }
    ] refl free

pub one_less : (layers : List Frozen) (layer : Frozen) → oldest layers ≡ Some layer → length (without_oldest layers) + 1 ≡ length layers
one_less [] layer is = absurd cc
one_less (first ∷ []) layer is = omega arith
one_less (first ∷ next ∷ layers) layer is =
    let rest : length (without_oldest (next ∷ layers)) + 1 ≡ length (next ∷ layers) = one_less (next ∷ layers) layer is in
    omega (arith, rest)

others_fit : (sizes : Sizes) (layers : List Frozen) → AllByRecursion (LayerFits sizes) layers → AllByRecursion (LayerFits sizes) (without_oldest layers)
others_fit sizes [] fit = tt
others_fit sizes (layer ∷ []) fit = tt
others_fit sizes (layer ∷ next ∷ layers) fit = (fit.0, others_fit sizes (next ∷ layers) fit.1)

pub oldest_gone_fits : (sizes : Sizes) (log : LogState) (layer : Option Frozen) → oldest log.frozen ≡ layer → LogFits sizes log → LogFits sizes (oldest_gone log layer)
oldest_gone_fits sizes log None is good = good
oldest_gone_fits sizes log (Some layer) is good =
    let less : length (without_oldest log.frozen) + 1 ≡ length log.frozen = one_less log.frozen layer is in
    let few : length log.frozen ≤ 3 = good.layers in
    let low : log.first_segment + length log.frozen ≤ 2 ^ 62 = good.segments in
    record { room = good.room; layers = omega (arith, less, few); frozen = others_fit sizes log.frozen good.frozen; segments = omega (arith, less, low) }

pub log_after_fits : (sizes : Sizes) (log : LogState) (work : Work) → LogFits sizes log → LogFits sizes (log_after log work)
log_after_fits sizes log ingesting good = oldest_gone_fits sizes log (oldest log.frozen) refl good
log_after_fits sizes log (on_run run) good = good

-- ---- the manifest

pub half_fits : (sizes : Sizes) (manifest : ManifestState) (need base : ℕ) (numbers : List ℕ) → 0 < base → ManifestFits sizes manifest
    → (not (fits sizes.half_size manifest need) && cannot_roll sizes.half_size manifest base) ≡ false
    → ManifestFits sizes (gained sizes.half_size manifest need base numbers)
half_fits sizes manifest need base numbers some kept passed =
    elim (fits sizes.half_size manifest need)
    as (λ b. fits sizes.half_size manifest need ≡ b → (not b && cannot_roll sizes.half_size manifest base) ≡ false
    → ManifestFits sizes (cond b (record { sequence = manifest.sequence; used = manifest.used + need; taken = numbers })
    (record { sequence = manifest.sequence + 1; used = 10 + base; taken = numbers }))) [
      | true ↦ λ is e.
          let before : manifest.used ≤ sizes.half_size = kept.used in
          let small : need ≤ sizes.half_size - manifest.used = up_to need (sizes.half_size - manifest.used) is in
          record { used = omega arith; sequence = kept.sequence }
      | false ↦ λ is e.
          let parts = or_parts (nat_lt (half_room sizes.half_size) base) (nat_le greatest_sequence manifest.sequence) e in
          let small : base ≤ sizes.half_size - 10 = at_most (sizes.half_size - 10) base parts.0 in
          let low : manifest.sequence < 2 ^ 62 = below (2 ^ 62) manifest.sequence parts.1 in
          record { used = omega arith; sequence = omega arith }
    ] refl passed

pub entered_fits : (m : Core) (entry : ManifestEntry) → ManifestFits m.sizes m.manifest → entry_refusal m entry ≡ None → ManifestFits m.sizes (entered m entry)
entered_fits m entry good passed =
    let some : 0 < whole_need entry = omega arith in
    half_fits m.sizes m.manifest entry.need (whole_need entry) entry.taken some good (passes (has_no_room m entry) _ None passed).0

-- ---- turns

pub later_turn : (sizes : Sizes) (safe number later : ℕ) (turn : Turn) → number ≤ later → TurnFits sizes safe number turn → TurnFits sizes safe later turn
later_turn sizes safe number later home more fits = tt
later_turn sizes safe number later (taken turn) more fits =
    let before : turn.number ≤ number = fits.1 in
    let there : turn.number ≤ later = omega (arith, before, more) in
    (fits.0, there, fits.2)
later_turn sizes safe number later (ran turn has_failed) more fits =
    let before : turn.number ≤ number = fits.1 in
    let there : turn.number ≤ later = omega (arith, before, more) in
    (fits.0, there, fits.2)

-- ---- transactions

pub more_live : (p : Transaction → Bool) (begun : List Transaction) (last : Transaction) → length (filter p (begun ++ last ∷ [])) ≤ length (filter p begun) + 1
more_live p [] last = elim (p last) as (λ b. length (cond b (last ∷ []) []) ≤ 1) [ true ↦ omega arith | false ↦ omega arith ]
more_live p (first ∷ begun) last =
    let rest : length (filter p (begun ++ last ∷ [])) ≤ length (filter p begun) + 1 = more_live p begun last in
    elim (p first)
    as (λ b. length (cond b (first ∷ filter p (begun ++ last ∷ [])) (filter p (begun ++ last ∷ [])))
    ≤ length (cond b (first ∷ filter p begun) (filter p begun)) + 1) [
      | true ↦ omega (arith, rest)
      | false ↦ omega (arith, rest)
    ]

pub one_begins : (begun : List Transaction) (last : Transaction) → TransactionsFit begun
    → length (filter (λ transaction. is_active transaction.state) begun) < 1024 → length begun < 2 ^ 62 → TransactionsFit (begun ++ last ∷ [])
one_begins begun last good few low =
    let more = more_live (λ transaction. is_active transaction.state) begun last in
    let longer = length-append begun (last ∷ []) in
    record { live = omega (arith, few, more); begins = omega (arith, low, longer) }

-- another in its place, that is not live where it was not
pub no_more_live : (p : Transaction → Bool) (begun : List Transaction) (order : ℕ) (old new : Transaction) → slice_get begun order ≡ Some old
    → (p new ≡ true → p old ≡ true) → length (filter p (set begun order new)) ≤ length (filter p begun)
no_more_live p [] order old new is still = omega arith
no_more_live p (first ∷ begun) zero old new is still =
    let same : first ≡ old = cc in
    by (p new) (p first) (λ e. subst (λ (t : Transaction). p t ≡ true) (sym same) (still e))
  where
    by : (b c : Bool) → (b ≡ true → c ≡ true) → length (cond b (new ∷ filter p begun) (filter p begun)) ≤ length (cond c (first ∷ filter p begun) (filter p begun))
    by true true still = omega arith
    by true false still = absurd (let no : false ≡ true = still refl in cc)
    by false true still = omega arith
    by false false still = omega arith
no_more_live p (first ∷ begun) (suc order) old new is still =
    let rest : length (filter p (set begun order new)) ≤ length (filter p begun) = no_more_live p begun order old new is still in
    elim (p first)
    as (λ b. length (cond b (first ∷ filter p (set begun order new)) (filter p (set begun order new)))
    ≤ length (cond b (first ∷ filter p begun) (filter p begun))) [
      | true ↦ omega (arith, rest)
      | false ↦ omega (arith, rest)
    ]

pub one_other : (begun : List Transaction) (order : ℕ) (old new : Transaction) → slice_get begun order ≡ Some old
    → (is_active new.state ≡ true → is_active old.state ≡ true) → TransactionsFit begun → TransactionsFit (set begun order new)
one_other begun order old new is still good =
    let fewer_live = no_more_live (λ transaction. is_active transaction.state) begun order old new is still in
    let few : length (filter (λ transaction. is_active transaction.state) begun) ≤ 1024 = good.live in
    let same_length : length (set begun order new) ≡ length begun = length-set begun order new in
    let low : length begun ≤ 2 ^ 62 = good.begins in
    record { live = omega (arith, fewer_live, few); begins = omega (arith, same_length, low) }

-- ---- jobs

pub picked_fits : (jobs : List Job) (picked : ℕ) (work : Work) → JobsFit jobs picked → length jobs < 64
    → AllByRecursion (λ job. AreApart job.work work) jobs
    → JobsFit (jobs ++ record { id = picked; work = work; state = job_states.picked; sets = [] } ∷ []) (picked + 1)
picked_fits jobs picked work good few apart =
    let job : Job = record { id = picked; work = work; state = job_states.picked; sets = [] } in
    let more = length-append jobs (job ∷ []) in
    let self : picked ≤ picked = omega arith in
    let next : picked < picked + 1 = omega arith in
    record {
      live = omega (arith, few, more);
      ids = rise-push (λ (j : Job). j.id) 0 picked (picked + 1) jobs job good.ids self next;
      claims = push_apart jobs job good.claims apart;
    }

pub without_fits : (jobs : List Job) (picked id : ℕ) → JobsFit jobs picked → JobsFit (without_job jobs id) picked
without_fits jobs picked id good =
    let few : length jobs ≤ 64 = good.live in
    let less : length (without_job jobs id) ≤ length jobs = fewer (λ (job : Job). not (job.id == id)) jobs in
    record { live = omega (arith, few, less); ids = rise-filter (λ (job : Job). job.id) (λ (job : Job). not (job.id == id)) 0 picked jobs good.ids; claims = filter_apart (λ (job : Job). not (job.id == id)) jobs good.claims }

pub led_fits : (jobs : List Job) (picked id : ℕ) (state : JobState) (new : List NewSet) → JobsFit jobs picked → JobsFit (with_state jobs id state new) picked
led_fits jobs picked id state new good =
    let few : length jobs ≤ 64 = good.live in
    let same_length : length (with_state jobs id state new) ≡ length jobs = length-map jobs _ in
    record { live = omega (arith, few, same_length); ids = led_numbered 0 picked id state new jobs good.ids; claims = led_apart id state new jobs good.claims }
