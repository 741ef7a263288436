use Rattle.std.proofs.Common.{◌≡◌, ◌≢◌, ◌≤◌, ◌+◌, ℕ, List, [], ◌++◌, length, drop, refl, sym, ap, ◌∙◌, subst, arith, length-take}
use Rattle.byteorder.specs.Endian.{big_bytes}
use Rattle.gate_log.specs.Places.{IsApart}
use Rattle.hse_shell.specs.LogText.{entries_text}
use Rattle.hse_shell.specs.Machine.{unsynced, charges_until, number_of, room}
use Rattle.hse_shell.specs.Stands.{first_waiting}
use Rattle.hse_shell.specs.Stored.{log_region}
use Rattle.hse_shell.proofs.EngineLemmas.{Stands-flushed}
use Rattle.hse_shell.proofs.LogLemmas.{flush_logged, flush_marks, failed_marks}
use Rattle.hse_shell.proofs.MarkLemmas.{marks_later, marked}
use Rattle.hse_shell.proofs.engine.Engine.flush.Goals as goal

pub returns-clause-synced : goal.returns-clause-synced
returns-clause-synced g c m s =
    let some : unsynced m ≢ [] = λ none. c.if-self-eq0.false (s.stands.count ∙ ap length none) in
    let within : charges_until m ≤ room = subst (λ (n : ℕ). n ≤ room) s.stands.charges c.args.self.now.within in
    let numbers : number_of m ≤ 1 + charges_until m = omega (arith, c.args.self.now.numbered, s.stands.number, s.stands.charges) in
    let is : c.in-Ok.batch ≡ big_bytes 4 (length (unsynced m)) ++ entries_text (first_waiting m) (unsynced m) =
    c.in-Ok.ensures ∙ c.deref.ensures.value ∙ c.write_count.ensures.items
    ∙ ap (λ (n : ℕ). big_bytes 4 n ++ drop 4 c.args.self.now.waiting.items) s.stands.count
    ∙ ap (λ (l : List ℕ). big_bytes 4 (length (unsynced m)) ++ l) s.stands.waiting in
    record {
      stands = Stands-flushed c.args.self.now _ m s.stands refl refl refl refl
          (omega (arith, ap length c.truncate.ensures.items, length-take 4 c.write_count.new.payload.items));
      sized = c.append.ensures.extent ∙ s.sized;
      logged = λ told. let l = s.logged told in
          flush_logged m s.stands.synced within numbers s.stands.logged some _ is _ _ _ _ _ _ l
          (g.met.D.Disk.as_long c.append.new.disk told ∙ c.append.ensures.extent ∙ s.sized)
          (c.in-Ok-append.ensures.appended told l.stores.loads.sequence l.stores.loads.payloads l.tail l.stores.loads.gated).gated
          c.in-Ok-append.ensures.answer.0 (c.in-Ok-append.ensures.durable told);
      marks_are = marks_later _ _ _ _ c.append.ensures.calls.forward s.marks_are;
      marks = λ told. let l = s.logged told in
          flush_marks m s.stands.synced within numbers s.stands.logged some _ is _ _ _ _ _ _ _ l
          (c.append.ensures.crash told l.stores.loads.sequence l.stores.loads.payloads l.tail l.stores.loads.gated (subst (IsApart log_region) (sym l.durable) tt))
          c.append.ensures.calls.forward _ (s.marks told);
    }

pub returns-in-Err-Device-clause-marked : goal.returns-in-Err-Device-clause-marked
returns-in-Err-Device-clause-marked g c failed m s =
    let some : unsynced m ≢ [] = λ none. c.if-self-eq0.false (s.stands.count ∙ ap length none) in
    let within : charges_until m ≤ room = subst (λ (n : ℕ). n ≤ room) s.stands.charges c.args.self.now.within in
    let numbers : number_of m ≤ 1 + charges_until m = omega (arith, c.args.self.now.numbered, s.stands.number, s.stands.charges) in
    let is : c.in-Ok.batch ≡ big_bytes 4 (length (unsynced m)) ++ entries_text (first_waiting m) (unsynced m) =
    c.in-Ok.ensures ∙ c.deref.ensures.value ∙ c.write_count.ensures.items
    ∙ ap (λ (n : ℕ). big_bytes 4 n ++ drop 4 c.args.self.now.waiting.items) s.stands.count
    ∙ ap (λ (l : List ℕ). big_bytes 4 (length (unsynced m)) ++ l) s.stands.waiting in
    marked g.D.Device g.met.D.Disk.counts_now c.append.new.disk c.args.self.now.marks.items m
    (marks_later _ _ _ _ c.append.ensures.calls.forward s.marks_are)
    (λ told. let l = s.logged told in
    failed_marks m s.stands.synced within numbers s.stands.logged some _ is _ _ _ _ _ _ _ l
    (c.append.ensures.crash told l.stores.loads.sequence l.stores.loads.payloads l.tail l.stores.loads.gated (subst (IsApart log_region) (sym l.durable) tt))
    c.append.ensures.calls.forward _ (s.marks told))
