-- What a device has that was just opened.
use Rattle.std.proofs.Common.{◌≡◌, ℕ, ◌+◌, ◌≤◌, List, [], ◌∷◌, ◌++◌, length, drop, Result, Ok, Err, Vec, Global, refl, sym, ap, subst, ◌∙◌, arith}
use Rattle.std.specs.List.{AllByRecursion}
use Rattle.hse_io.specs.declared.outcome.Mark.{Mark}
use Rattle.media_disk.specs.Content.{Torn}
use Rattle.media_disk.specs.Images.{IsImage}
use Rattle.media_disk.specs.declared.device.Device.{Ghosts}
use Rattle.gate_log.specs.Gates.{Gated}
use Rattle.gate_log.specs.Places.{region_of, tail_of}
use Rattle.gate_log.specs.declared.region.Tail.{Tail}
use Rattle.wal.specs.Replaying.{batches_of, segment_of}
use Rattle.hse_shell.specs.Base.{Base}
use Rattle.hse_shell.specs.Machine.{base_at, opening}
use Rattle.hse_shell.specs.Marks.{IsMark, AreMarks, mark_of}
use Rattle.hse_shell.specs.Replayed.{base_from, IsReplayed}
use Rattle.hse_shell.specs.Stands.{Stands, IsIdle, NotesOnly, base_in}
use Rattle.hse_shell.specs.Stored.{device_size, log_region, live_stores, longest_value, first_numbers, closed_behind, base_of, Stores}
use Rattle.hse_shell.specs.Logged.{Serves, Stays}
use Rattle.hse_shell.specs.declared.engine.Engine.{Engine}
use Rattle.hse_shell.specs.declared.open.OpenFault.{OpenFault}
use Rattle.hse_shell.specs.declared.open.OpenFault.TheVariants.{NotFormed}
use Rattle.hse_shell.specs.declared.replay.Replayed.{Replayed}
use Rattle.hse_shell.proofs.MarkLemmas.{marks_first}

-- ---- what a crash leaves

torn_same : (at n : ℕ) (bytes : List ℕ) → Torn at n bytes bytes
torn_same at n bytes = record { as_long = refl; before = refl; after = refl }

-- what a read gives is among what a crash may leave
seen_is_left : (bytes : List ℕ) (ranges : List (ℕ × ℕ)) → IsImage bytes ranges bytes
seen_is_left bytes [] = refl
seen_is_left bytes (range ∷ ranges) = (bytes, torn_same range.0 range.1 bytes, seen_is_left bytes ranges)

-- and where nothing is pending there is no other
pub only_seen : (bytes image : List ℕ) (ranges : List (ℕ × ℕ)) → ranges ≡ [] → IsImage bytes ranges image → image ≡ bytes
only_seen bytes image ranges none left = subst (λ (rs : List (ℕ × ℕ)). IsImage bytes rs image) none left

-- a device that stays as it was, that was made safe, and over two steps
pub stays_same : {D : Type 0} (g : Ghosts D) (old new : D) → g.seen new ≡ g.seen old → g.pending new ≡ g.pending old → Stays g old new
stays_same g old new seen pending = record {
  seen = seen;
  left = λ image left. subst (λ (rs : List (ℕ × ℕ)). IsImage (g.seen old) rs image) pending
      (subst (λ (bytes : List ℕ). IsImage bytes (g.pending new) image) seen left);
}

pub stays_safe : {D : Type 0} (g : Ghosts D) (old new : D) → g.seen new ≡ g.seen old → g.pending new ≡ [] → Stays g old new
stays_safe g old new seen none = record {
  seen = seen;
  left = λ image left. subst (IsImage (g.seen old) (g.pending old)) (sym (only_seen (g.seen new) image (g.pending new) none left ∙ seen))
      (seen_is_left (g.seen old) (g.pending old));
}

pub stays_on : {D : Type 0} (g : Ghosts D) (old between new : D) → Stays g old between → Stays g between new → Stays g old new
stays_on g old between new first later = record {
  seen = later.seen ∙ first.seen;
  left = λ image left. first.left image (later.left image left);
}

-- ---- what was opened

-- what the base is before any commit
opening_base : (b : Base) → base_at (opening b) 0 ≡ b
opening_base b =
    let number : b.number + 0 ≡ b.number = omega arith in
    let charged : b.charges + 0 ≡ b.charges = omega arith in
    λ i. record { number = number i; contents = b.contents; charges = charged i }

stands_opened : (engine : Engine) → IsIdle engine → Stands engine (opening (base_in engine))
stands_opened engine idle = record {
  rows = refl;
  number = omega arith;
  charges = omega arith;
  count = idle.count;
  waiting = idle.waiting;
  synced = omega arith;
  logged = tt;
}

-- what a log stores that ends at this gate, with nothing pending
pub record Safe (seen : List ℕ) (pending : List (ℕ × ℕ)) (gate : ℕ) (base : Base) : Type 0 where
  pub stores : Stores seen base
  pub tail : gate ≡ tail_of stores.loads.payloads
  pub durable : pending ≡ []

-- what was replayed of a log with nothing pending
pub replayed_safe : (seen : List ℕ) (pending : List (ℕ × ℕ)) (r : Replayed) → IsReplayed seen r → pending ≡ [] → Safe seen pending r.tail.place (base_from r)
replayed_safe seen pending r is none = record { stores = is.stores; tail = is.tail; durable = none }

opened_stores : (image : List ℕ) (base : Base) → Stores image base → Stores image (base_at (opening base) 0)
opened_stores image base s = record { entries = s.entries; loads = s.loads; is = s.is ∙ sym (opening_base base) }

opened_mark : (could : ℕ → List ℕ → Type 0) (now moment : ℕ) (seen : List ℕ) (base : Base) → moment ≤ now → Stores seen base
    → ((image : List ℕ) → could moment image → image ≡ seen) → IsMark could now (opening base) (mark_of base.number moment)
opened_mark could now moment seen base past stores only = record {
  past = past;
  synced = omega arith;
  kept = λ image might. record {
    count = 0;
    reaches = omega arith;
    within = omega arith;
    stores = subst (λ (i : List ℕ). Stores i (base_at (opening base) 0)) (sym (only image might)) (opened_stores seen base stores);
  };
}

-- an engine that waits for nothing notes its one mark
module _ (old new : Engine) (moment : ℕ) (kept : NotesOnly old new) where
  idle_noted : IsIdle old → IsIdle new
  idle_noted idle = record {
    count = kept.count ∙ idle.count;
    waiting = ap (λ (waiting : Vec ℕ Global). drop 4 waiting.items) kept.waiting ∙ idle.waiting;
  }

  pub base_noted : base_in new ≡ base_in old
  base_noted =
      let number : new.number ≡ old.number = kept.number in
      let contents : new.rows ≡ old.rows = kept.rows in
      let charged : new.charges ≡ old.charges = kept.charges in
      λ i. record { number = number i; contents = contents i; charges = charged i }

  mark_noted : old.marks.items ≡ [] → new.marks.items ≡ old.marks.items ++ mark_of old.number moment ∷ [] → new.marks.items ≡ mark_of new.number moment ∷ []
  mark_noted none noted =
      let number : old.number ≡ new.number = sym kept.number in
      noted ∙ (λ i. none i ++ mark_of (number i) moment ∷ [])

  module _ {D : Type 0} (g : Ghosts D) (disk : D) (idle : IsIdle old) (none : old.marks.items ≡ [])
      (noted : new.marks.items ≡ old.marks.items ++ mark_of old.number moment ∷ []) (sized : g.extent disk ≡ device_size) (past : moment ≤ g.clock disk)
      (safe : g.tells → Safe (g.seen disk) (g.pending disk) old.tail.place (base_in old))
      (only : g.tells → (image : List ℕ) → g.could disk moment image → image ≡ g.seen disk) where
    stores : g.tells → Stores (g.seen disk) (base_in new)
    stores told = record { entries = (safe told).stores.entries; loads = (safe told).stores.loads; is = (safe told).stores.is ∙ sym base_noted }

    marks : new.marks.items ≡ mark_of new.number moment ∷ []
    marks = mark_noted none noted

    pub serves_opened : Serves g disk new (opening (base_in new))
    serves_opened = record {
      stands = stands_opened new (idle_noted idle);
      sized = sized;
      logged = λ told. record {
        stores = record {
          entries = (safe told).stores.entries;
          loads = (safe told).stores.loads;
          is = (safe told).stores.is ∙ sym base_noted ∙ sym (opening_base (base_in new));
        };
        tail = ap (λ (tail : Tail). tail.place) kept.tail ∙ (safe told).tail;
        durable = (safe told).durable;
      };
      marks_are = subst (λ (ms : List Mark). AreMarks ms (new.number ∷ []) (g.clock disk)) (sym marks) (marks_first new.number moment (g.clock disk) past);
      marks = λ told. subst (AllByRecursion (IsMark (g.could disk) (g.clock disk) (opening (base_in new)))) (sym marks)
          (opened_mark (g.could disk) (g.clock disk) moment (g.seen disk) (base_in new) past (stores told) (only told), tt);
    }

-- a fault that a `?` hands on
pub handed_on : {T : Type 0} (result : Result T OpenFault) (place : ℕ) {came : OpenFault} → result ≡ Err (NotFormed place)
    → (fault : OpenFault) × (result ≡ Err fault) × (fault ≡ came) → came ≡ NotFormed place
handed_on result place is p =
    let a = p.1 in
    let b = p.2 in
    cc

-- what is served on one branch is so behind the join
pub serves_same : {D : Type 0} (g : Ghosts D) (disk other : D) (engine last : Engine) → disk ≡ other → engine ≡ last
    → Serves g other last (opening (base_in last)) → Serves g disk engine (opening (base_in engine))
serves_same g disk other engine last disk_is engine_is serves =
    subst (λ (e : Engine). Serves g disk e (opening (base_in e))) (sym engine_is)
    (subst (λ d. Serves g d last (opening (base_in last))) (sym disk_is) serves)

-- ---- a started region

none_read : (size : ℕ) → segment_of live_stores longest_value (first_numbers size) [] (closed_behind []) ≡ Ok ([], first_numbers size)
unfolding batches_of
none_read size = refl

-- it stores the base before the first commit
pub started : (image : List ℕ) (pending : List (ℕ × ℕ)) (gate : ℕ) (base : Base) → length image ≡ device_size → Gated (region_of log_region image) 1 []
    → base ≡ base_of [] → gate ≡ 9 → pending ≡ [] → Safe image pending gate base
started image pending gate base as_long gated is tail none = record {
  stores = record {
    entries = [];
    loads = record {
      as_long = as_long;
      sequence = 1;
      payloads = [];
      gated = gated;
      of_log = (refl, omega arith);
      last = first_numbers device_size;
      read = none_read device_size;
    };
    is = sym is;
  };
  tail = tail;
  durable = none;
}
