-- A line that leaves the device alone.
use Rattle.std.proofs.Common.{◌≡◌, ◌≢◌, ℕ, ◌+◌, ◌≤◌, List, [], ◌∷◌, ◌++◌, length, Result, OnOk, refl, sym, ap, subst, ◌∙◌, arith, length-append}
use Rattle.std.specs.List.{AllByRecursion}
use Rattle.std.specs.Prelude.{Ok, Err}
use Rattle.std.proofs.lemmas.List.{take-append-le}
use Rattle.hse_io.specs.declared.outcome.Mark.{Mark}
use Rattle.media_disk.specs.declared.device.Device.{Ghosts}
use Rattle.hse_shell.specs.Base.{Base}
use Rattle.hse_shell.specs.Change.{Change, put, del, after}
use Rattle.hse_shell.specs.Grammar.{Meaning, Means, IsSync, puts, dels, gets, syncs, silent, unknown}
use Rattle.hse_shell.specs.LogText.{charges_of}
use Rattle.hse_shell.specs.Replies.{Answer, answer_line, no_reply, ok, value, none, bad_line, no_memory, key_length, log_full}
use Rattle.hse_shell.specs.Machine.{Machine, committed, base_at}
use Rattle.hse_shell.specs.Marks.{IsMark, StoresPrefix, AreMarks}
use Rattle.hse_shell.specs.Stands.{Stands, Answers}
use Rattle.hse_shell.specs.Stored.{Stores}
use Rattle.hse_shell.specs.Logged.{Logged, Serves, ServesLine}
use Rattle.hse_shell.specs.Turns.{Said, Turned, SyncTurns, Turns}
use Rattle.hse_shell.specs.declared.engine.Engine.{Engine}
use Rattle.hse_shell.specs.declared.turn.Stop.{Stop}
use Rattle.hse_shell.specs.declared.turn.Stop.TheVariants as stop
use Rattle.hse_shell.proofs.GrammarLemmas.{not_silent}

-- what a front of the history leads to is the same for a longer history
base_at-committed : (m : Machine) (change : Change) (count : ℕ) → count ≤ length m.history → base_at (committed m change) count ≡ base_at m count
base_at-committed m change count within =
    ap (λ (front : List Change). (let base : Base = record {
      number = m.base.number + count;
      contents = after m.base.contents front;
      charges = m.base.charges + charges_of front;
    } in base)) (take-append-le count m.history (change ∷ []) within)

-- a mark holds for a longer history too
longer_mark : (could : ℕ → List ℕ → Type 0) (now : ℕ) (m : Machine) (change : Change) (marks : List Mark)
    → AllByRecursion (IsMark could now m) marks → AllByRecursion (IsMark could now (committed m change)) marks
longer_mark could now m change [] all = tt
longer_mark could now m change (mark ∷ marks) all = (
  record {
    past = all.0.past;
    synced = all.0.synced;
    kept = λ image might.
        let was : StoresPrefix m mark.number image = all.0.kept image might in
        record {
          count = was.count;
          reaches = was.reaches;
          within = omega (arith, was.within, length-append m.history (change ∷ []));
          stores = subst (Stores image) (sym (base_at-committed m change was.count was.within)) was.stores;
        };
  },
  longer_mark could now m change marks all.1,
)

longer_log : (seen : List ℕ) (pending : List (ℕ × ℕ)) (gate : ℕ) (m : Machine) (change : Change) → m.synced ≤ length m.history
    → Logged seen pending gate m → Logged seen pending gate (committed m change)
longer_log seen pending gate m change whole l =
    let same : base_at (committed m change) m.synced ≡ base_at m m.synced = base_at-committed m change m.synced whole in
    record {
      stores = record { entries = l.stores.entries; loads = l.stores.loads; is = l.stores.is ∙ sym same };
      tail = l.tail;
      durable = l.durable;
    }

module _ {D : Type 0} (g : Ghosts D) (disk : D) (old new : Engine) (m : Machine)
    (tail : new.tail ≡ old.tail) (marks : new.marks ≡ old.marks) (s : Serves g disk old m) where
  -- the engine alone has one commit more
  serves_committed : (change : Change) → Stands new (committed m change) → Serves g disk new (committed m change)
  serves_committed change stands = record {
    stands = stands;
    sized = s.sized;
    logged = λ told. longer_log (g.seen disk) (g.pending disk) new.tail.place m change s.stands.synced
        (subst (λ t. Logged (g.seen disk) (g.pending disk) t.place m) (sym tail) (s.logged told));
    marks = λ told. longer_mark (g.could disk) (g.clock disk) m change new.marks.items
        (subst (λ ms. AllByRecursion (IsMark (g.could disk) (g.clock disk) m) ms.items) (sym marks) (s.marks told));
    marks_are = subst (λ ms. AreMarks ms.items m.marked (g.clock disk)) (sym marks) s.marks_are;
  }

  serves_still : Stands new m → Serves g disk new m
  serves_still stands = record {
    stands = stands;
    sized = s.sized;
    logged = λ told. subst (λ t. Logged (g.seen disk) (g.pending disk) t.place m) (sym tail) (s.logged told);
    marks = λ told. subst (λ ms. AllByRecursion (IsMark (g.could disk) (g.clock disk) m) ms.items) (sym marks) (s.marks told);
    marks_are = subst (λ ms. AreMarks ms.items m.marked (g.clock disk)) (sym marks) s.marks_are;
  }

  -- the answer of a put
  pub serves_put : (key bytes : List ℕ) (answer : Answer) → Answers m (puts key bytes) answer new → ServesLine g m (puts key bytes) answer disk new
  serves_put key bytes no_reply a = record { step = a.step; serves = serves_still a.stands }
  serves_put key bytes (ok number) a = record { step = a.step; serves = serves_committed (put key bytes) a.stands }
  serves_put key bytes (value v) a = record { step = a.step; serves = serves_still a.stands }
  serves_put key bytes none a = record { step = a.step; serves = serves_still a.stands }
  serves_put key bytes bad_line a = record { step = a.step; serves = serves_still a.stands }
  serves_put key bytes no_memory a = record { step = a.step; serves = serves_still a.stands }
  serves_put key bytes (key_length n) a = record { step = a.step; serves = serves_still a.stands }
  serves_put key bytes (log_full need room) a = record { step = a.step; serves = serves_still a.stands }

  -- the answer of a deletion
  pub serves_del : (key : List ℕ) (answer : Answer) → Answers m (dels key) answer new → ServesLine g m (dels key) answer disk new
  serves_del key no_reply a = record { step = a.step; serves = serves_still a.stands }
  serves_del key (ok number) a = record { step = a.step; serves = serves_committed (del key) a.stands }
  serves_del key (value v) a = record { step = a.step; serves = serves_still a.stands }
  serves_del key none a = record { step = a.step; serves = serves_still a.stands }
  serves_del key bad_line a = record { step = a.step; serves = serves_still a.stands }
  serves_del key no_memory a = record { step = a.step; serves = serves_still a.stands }
  serves_del key (key_length n) a = record { step = a.step; serves = serves_still a.stands }
  serves_del key (log_full need room) a = record { step = a.step; serves = serves_still a.stands }

  -- the answer of a get
  pub serves_get : (key : List ℕ) (answer : Answer) → Answers m (gets key) answer new → ServesLine g m (gets key) answer disk new
  serves_get key answer a = record { step = a.step; serves = serves_still a.stands }

module _ {D : Type 0} (g : Ghosts D) (m : Machine) (line : List ℕ) (before after : List ℕ) (disk : D) (new : Engine) where
  abbrev turned : (meaning : Meaning) (answer : Answer) → Means line meaning → ServesLine g m meaning answer disk new → Turned g m line disk new
  turned meaning answer means serves = record { meaning = meaning; answer = answer; means = means; turned = serves }

  -- a line that the engine alone answers
  pub said_turns : (meaning : Meaning) (old : Engine) (printed : Result (Unit {0}) Stop) → (meaning ≢ silent) → Means line meaning
      → (printed ≡ Err stop.Device → ⊥) → (said : Said m meaning old new before after printed)
      → ServesLine g m meaning said.answer disk new → Turns g m line before after disk new printed
  said_turns meaning old (Ok done) other means never said serves = (turned meaning said.answer means serves, said.said)
  said_turns meaning old (Err stop.NoMemory) other means never said serves =
      (turned meaning said.answer means serves, not_silent line meaning other means)
  said_turns meaning old (Err stop.Device) other means never said serves = absurd (never refl)

  -- a line that changes nothing
  pub unknown_turns : (printed : Result (Unit {0}) Stop) → Means line unknown → (printed ≡ Err stop.Device → ⊥)
      → OnOk printed (after ≡ before ++ answer_line bad_line) → Serves g disk new m → Turns g m line before after disk new printed
  unknown_turns (Ok done) means never said serves =
      (turned unknown bad_line means (record { step = (refl, refl); serves = serves }), said)
  unknown_turns (Err stop.NoMemory) means never said serves =
      (turned unknown bad_line means (record { step = (refl, refl); serves = serves }), not_silent line unknown (λ e. cc) means)
  unknown_turns (Err stop.Device) means never said serves = absurd (never refl)

  pub sync_turns : (printed : Result (Unit {0}) Stop) → IsSync line → SyncTurns g m before after disk new printed
      → Turns g m line before after disk new printed
  sync_turns (Ok done) means (answer, serves, said) = (turned syncs answer means serves, said)
  sync_turns (Err stop.NoMemory) means (answer, serves) = (turned syncs answer means serves, not_silent line syncs (λ e. cc) means)
  sync_turns (Err stop.Device) means (waits, marked) = (means, waits, marked)
