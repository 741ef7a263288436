-- The log and the marks after a flush, and after a new mark.
use Rattle.std.proofs.Common.{◌≡◌, ◌≢◌, ◌⊎◌, ℕ, ◌+◌, ◌≤◌, List, [], ◌∷◌, ◌++◌, length, drop, sym, ap, subst, ◌∙◌, arith, inl, inr}
use Rattle.std.specs.List.{AllByRecursion}
use Rattle.std.proofs.lemmas.List.Sums.{sum_by_push}
use Rattle.byteorder.specs.Endian.{big_bytes}
use Rattle.hse_io.specs.declared.outcome.Mark.{Mark}
use Rattle.media_disk.specs.Images.{IsImage, CountsNow, OnlyNow}
use Rattle.media_disk.specs.declared.device.Device.{Ghosts}
use Rattle.gate_log.specs.Gates.{Gated}
use Rattle.gate_log.specs.Places.{region_of, need_of}
use Rattle.gate_log.specs.Crashes.{IsWithin, OldOrNew}
use Rattle.hse_shell.specs.LogText.{entries_text}
use Rattle.hse_shell.specs.Machine.{Machine, flushed, noted, unsynced, base_at, charges_until, number_of, room}
use Rattle.hse_shell.specs.Stands.{AreLogged, NotesOnly, first_waiting}
use Rattle.hse_shell.specs.Stored.{Stores, device_size, log_region}
use Rattle.hse_shell.specs.Marks.{StoresPrefix, IsMark, AreMarks, Marked, mark_of}
use Rattle.hse_shell.specs.Logged.{Logged, Serves}
use Rattle.hse_shell.specs.declared.engine.Engine.{Engine}
use Rattle.hse_shell.proofs.MarkLemmas.{all_push, marks_push, marked}
use Rattle.hse_shell.proofs.ReadingLemmas.{stores_all}

module _ (m : Machine) (whole : m.synced ≤ length m.history) (within : charges_until m ≤ room) (numbers : number_of m ≤ 1 + charges_until m)
    (logs : AreLogged m.history) (waits : unsynced m ≢ []) (payload : List ℕ)
    (is : payload ≡ big_bytes 4 (length (unsynced m)) ++ entries_text (first_waiting m) (unsynced m)) where
  pub flush_logged : (seen now : List ℕ) (pending later : List (ℕ × ℕ)) (gate next : ℕ) → (l : Logged seen pending gate m)
      → length now ≡ device_size → Gated (region_of log_region now) l.stores.loads.sequence (l.stores.loads.payloads ++ payload ∷ [])
      → next ≡ gate + need_of payload → later ≡ [] → Logged now later next (flushed m)
  flush_logged seen now pending later gate next l as_long gated tail durable = record {
    stores = stores_all m whole within numbers logs waits payload is seen now l.stores as_long gated;
    tail = omega (arith, tail, l.tail, sum_by_push need_of l.stores.loads.payloads payload);
    durable = durable;
  }

  module _ (could since : ℕ → List ℕ → Type 0) (before now : ℕ) (seen : List ℕ) (pending : List (ℕ × ℕ)) (gate : ℕ)
      (l : Logged seen pending gate m)
      (leaves : (clock : ℕ) (image : List ℕ) → clock ≤ before → since clock image
      → could clock image ⊎ (IsWithin log_region (IsImage seen pending) image × OldOrNew l.stores.loads.sequence l.stores.loads.payloads payload (region_of log_region image)))
      (later : before ≤ now) where
    -- within the flush a crash leaves the old batches, or them and the new one
    left : (number : ℕ) → number ≤ m.base.number + m.synced → (image : List ℕ)
        → IsWithin log_region (IsImage seen pending) image × OldOrNew l.stores.loads.sequence l.stores.loads.payloads payload (region_of log_region image)
        → StoresPrefix m number image
    left number safe image (torn, old_or_new) =
        let was : torn.old ≡ seen = subst (λ (ranges : List (ℕ × ℕ)). IsImage seen ranges torn.old) l.durable torn.was in
        let as_long : length image ≡ device_size = torn.same.as_long ∙ ap length was ∙ l.stores.loads.as_long in
        elim old_or_new [
          | inl old ↦ record {
            count = m.synced;
            reaches = safe;
            within = whole;
            stores = record {
              entries = l.stores.entries;
              loads = record {
                as_long = as_long;
                sequence = l.stores.loads.sequence;
                payloads = l.stores.loads.payloads;
                gated = old;
                of_log = l.stores.loads.of_log;
                last = l.stores.loads.last;
                read = l.stores.loads.read;
              };
              is = l.stores.is;
            };
          }
          | inr new ↦ record {
            count = length m.history;
            reaches = omega (arith, safe, whole);
            within = omega arith;
            stores = stores_all m whole within numbers logs waits payload is seen image l.stores as_long new;
          }
        ]

    -- a mark holds through the flush, with as many commits safe as before at least
    flush_mark : (mark : Mark) → IsMark could before m mark → IsMark since now (flushed m) mark
    flush_mark mark was = record {
      past = omega (arith, was.past, later);
      synced = omega (arith, was.synced, whole);
      kept = λ image might. elim (leaves mark.moment image was.past might) [
        | inl old ↦ (let p : StoresPrefix m mark.number image = was.kept image old in record { count = p.count; reaches = p.reaches; within = p.within; stores = p.stores })
        | inr new ↦ (let p : StoresPrefix m mark.number image = left mark.number was.synced image new in record { count = p.count; reaches = p.reaches; within = p.within; stores = p.stores })
      ];
    }

    pub flush_marks : (marks : List Mark) → AllByRecursion (IsMark could before m) marks → AllByRecursion (IsMark since now (flushed m)) marks
    flush_marks [] all = tt
    flush_marks (mark ∷ marks) all = (flush_mark mark all.0, flush_marks marks all.1)

    -- the same where the device failed, and it is not known what is safe
    failed_mark : (mark : Mark) → IsMark could before m mark → IsMark since now m mark
    failed_mark mark was = record {
      past = omega (arith, was.past, later);
      synced = was.synced;
      kept = λ image might. elim (leaves mark.moment image was.past might) [
        | inl old ↦ was.kept image old
        | inr new ↦ left mark.number was.synced image new
      ];
    }

    pub failed_marks : (marks : List Mark) → AllByRecursion (IsMark could before m) marks → AllByRecursion (IsMark since now m) marks
    failed_marks [] all = tt
    failed_marks (mark ∷ marks) all = (failed_mark mark all.0, failed_marks marks all.1)

-- where all is safe, a mark holds from now on
pub safe_mark : (could : ℕ → List ℕ → Type 0) (now : ℕ) (seen : List ℕ) (pending : List (ℕ × ℕ)) (gate : ℕ) (m : Machine)
    → m.synced ≡ length m.history → Logged seen pending gate m → ((image : List ℕ) → could now image → IsImage seen pending image)
    → (number : ℕ) → number ≡ number_of m → IsMark could now m (mark_of number now)
safe_mark could now seen pending gate m all l only number is = record {
  past = omega arith;
  synced = omega (arith, is, all);
  kept = λ image might.
      let was : image ≡ seen = subst (λ (ranges : List (ℕ × ℕ)). IsImage seen ranges image) l.durable (only image might) in
      record {
        count = m.synced;
        reaches = omega (arith, is, all);
        within = omega (arith, all);
        stores = subst (λ (i : List ℕ). Stores i (base_at m m.synced)) (sym was) l.stores;
      };
}

-- what was noted does not change what a device stores
noted_prefix : (m : Machine) (number : ℕ) (image : List ℕ) → StoresPrefix m number image → StoresPrefix (noted m) number image
noted_prefix m number image p = record { count = p.count; reaches = p.reaches; within = p.within; stores = p.stores }

noted_mark : (could : ℕ → List ℕ → Type 0) (now : ℕ) (m : Machine) (mark : Mark) → IsMark could now m mark → IsMark could now (noted m) mark
noted_mark could now m mark was = record {
  past = was.past;
  synced = was.synced;
  kept = λ image might. noted_prefix m mark.number image (was.kept image might);
}

noted_marks : (could : ℕ → List ℕ → Type 0) (now : ℕ) (m : Machine) (marks : List Mark) → AllByRecursion (IsMark could now m) marks
    → AllByRecursion (IsMark could now (noted m)) marks
noted_marks could now m [] all = tt
noted_marks could now m (mark ∷ marks) all = (noted_mark could now m mark all.0, noted_marks could now m marks all.1)

-- where all is safe, one mark more holds
pub all_noted : (could : ℕ → List ℕ → Type 0) (now : ℕ) (seen : List ℕ) (pending : List (ℕ × ℕ)) (gate : ℕ) (m : Machine)
    → m.synced ≡ length m.history → Logged seen pending gate m → ((image : List ℕ) → could now image → IsImage seen pending image)
    → (number : ℕ) → number ≡ number_of m → (marks : List Mark) → AllByRecursion (IsMark could now m) marks
    → AllByRecursion (IsMark could now (noted m)) (marks ++ mark_of number now ∷ [])
all_noted could now seen pending gate m all l only number is marks held =
    all_push (IsMark could now (noted m)) marks (mark_of number now) (noted_marks could now m marks held)
    (noted_mark could now m (mark_of number now) (safe_mark could now seen pending gate m all l only number is))

noted_are : (marks : List Mark) (m : Machine) (number now : ℕ) → number ≡ number_of m → AreMarks marks m.marked now
    → AreMarks (marks ++ mark_of number now ∷ []) (noted m).marked now
noted_are marks m number now is are =
    subst (λ (n : ℕ). AreMarks (marks ++ mark_of number now ∷ []) (m.marked ++ n ∷ []) now) is
    (marks_push marks m.marked now now number now (omega arith) (omega arith) are)

module _ {D : Type 0} (g : Ghosts D) (only : OnlyNow g) (disk : D) (old : Engine) (m : Machine) (all : m.synced ≡ length m.history)
    (s : Serves g disk old m) where
  held : g.tells → AllByRecursion (IsMark (g.could disk) (g.clock disk) (noted m)) (old.marks.items ++ mark_of old.number (g.clock disk) ∷ [])
  held told = all_noted (g.could disk) (g.clock disk) (g.seen disk) (g.pending disk) old.tail.place m all (s.logged told)
      (λ image. only disk image told) old.number s.stands.number old.marks.items (s.marks told)

  -- the marks that a run leaves which notes that all is safe
  pub marked_noted : CountsNow g → Marked g disk (old.marks.items ++ mark_of old.number (g.clock disk) ∷ []) (noted m)
  marked_noted counts = marked g counts disk _ (noted m) (noted_are old.marks.items m old.number (g.clock disk) s.stands.number s.marks_are) held

  -- the engine that notes it
  pub serves_noted : (new : Engine) → NotesOnly old new → new.marks.items ≡ old.marks.items ++ mark_of old.number (g.clock disk) ∷ []
      → Serves g disk new (noted m)
  serves_noted new same is = record {
    stands = record {
      rows = same.rows ∙ s.stands.rows;
      number = same.number ∙ s.stands.number;
      charges = same.charges ∙ s.stands.charges;
      count = same.count ∙ s.stands.count;
      waiting = ap (λ w. drop 4 w.items) same.waiting ∙ s.stands.waiting;
      synced = s.stands.synced;
      logged = s.stands.logged;
    };
    sized = s.sized;
    logged = λ told. (let l = s.logged told in record {
      stores = l.stores;
      tail = ap (λ t. t.place) same.tail ∙ l.tail;
      durable = l.durable;
    });
    marks_are = subst (λ (ms : List Mark). AreMarks ms (noted m).marked (g.clock disk)) (sym is)
        (noted_are old.marks.items m old.number (g.clock disk) s.stands.number s.marks_are);
    marks = λ told. subst (AllByRecursion (IsMark (g.could disk) (g.clock disk) (noted m))) (sym is) (held told);
  }

-- an engine whose marks have other room
pub serves_reserved : {D : Type 0} (g : Ghosts D) (disk : D) (old new : Engine) (m : Machine) → NotesOnly old new
    → new.marks.items ≡ old.marks.items → Serves g disk old m → Serves g disk new m
serves_reserved g disk old new m same is s = record {
  stands = record {
    rows = same.rows ∙ s.stands.rows;
    number = same.number ∙ s.stands.number;
    charges = same.charges ∙ s.stands.charges;
    count = same.count ∙ s.stands.count;
    waiting = ap (λ w. drop 4 w.items) same.waiting ∙ s.stands.waiting;
    synced = s.stands.synced;
    logged = s.stands.logged;
  };
  sized = s.sized;
  logged = λ told. (let l = s.logged told in record {
    stores = l.stores;
    tail = ap (λ t. t.place) same.tail ∙ l.tail;
    durable = l.durable;
  });
  marks_are = subst (λ (ms : List Mark). AreMarks ms m.marked (g.clock disk)) (sym is) s.marks_are;
  marks = λ told. subst (AllByRecursion (IsMark (g.could disk) (g.clock disk) m)) (sym is) (s.marks told);
}
