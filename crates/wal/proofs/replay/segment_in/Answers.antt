use Rattle.std.proofs.Common.{◌≡◌, ◌∙◌, List, [], Ok, ℕ, ap, sym, subst}
use Rattle.gate_log.specs.Reading.{payloads_of, Ends}
use Rattle.gate_log.specs.declared.front.End.{End}
use Rattle.gate_log.specs.declared.front.End.TheVariants.{Closed}
use Rattle.hse_fields.specs.LogText.{Entry}
use Rattle.hse_rows.specs.machine.TakenRuns.{numbers_of, runs_as}
use Rattle.wal.specs.Charges.{charges}
use Rattle.wal.specs.Logged.{entries_of}
use Rattle.wal.specs.Replaying.{segment_of, starting}
use Rattle.wal.proofs.SoundLemmas.{sound_of}
use Rattle.wal.proofs.replay.segment_in.Goals as goal

pub returns-clause-gives : goal.returns-clause-gives
returns-clause-gives c =
    let says = c.in_ok-end.ensures.says in
    let listed : entries_of c.segment_into.new.commits.items ≡ says.entries = says.taken [] (ap entries_of c.new-commits.ensures.items) in
    record {
      last = says.last;
      is = says.is ∙ ap (λ (es : List Entry). Ok (es, says.last)) (sym listed);
      next = says.next;
      charges = says.charges ∙ ap charges (sym listed);
    }

pub returns-clause-read : goal.returns-clause-read
returns-clause-read c = λ region ends.
    let says = c.in_ok-end.ensures.says in
    let listed : entries_of c.segment_into.new.commits.items ≡ says.entries = says.taken [] (ap entries_of c.new-commits.ensures.items) in
    let payloads = payloads_of c.args.front.batches.items in
    record {
      payloads = payloads;
      ends = subst (λ (s : ℕ). Ends region s payloads (Closed c.in_ok-end.end.tail)) (sym says.sequence)
          (subst (λ (end : End). Ends region c.args.front.sequence payloads end) says.closed ends);
      last = says.last;
      read = subst (λ (end : End). segment_of c.args.live.now c.args.most (starting c.args.next (numbers_of (runs_as c.args.taken.now)) c.args.size) payloads end
          ≡ Ok (entries_of c.segment_into.new.commits.items, says.last)) says.closed
          (says.is ∙ ap (λ (es : List Entry). Ok (es, says.last)) (sym listed));
      next = says.next;
      charges = says.charges ∙ ap charges (sym listed);
    }

pub returns-clause-sound : goal.returns-clause-sound
returns-clause-sound c =
    let says = c.in_ok-end.ensures.says in
    let listed : entries_of c.segment_into.new.commits.items ≡ says.entries = says.taken [] (ap entries_of c.new-commits.ensures.items) in
    sound_of c.args.size c.args.next c.args.most (numbers_of (runs_as c.args.taken.now)) c.args.live.now c.args.front _ says.last c.requires.inside c.requires.next
    (says.is ∙ ap (λ (es : List Entry). Ok (es, says.last)) (sym listed)) says.sequence says.closed (says.charges ∙ ap charges (sym listed)) says.next says.placed
