use Rattle.std.proofs.Common.{◌≡◌, List, ℕ, [], ap, sym, subst, ◌∙◌, ◌++◌, vec_len}
use Rattle.std.specs.Io.KnownBytes.{Appends}
use Rattle.std.proofs.lemmas.Bool.{eqb-true}
use Rattle.std.proofs.lemmas.List.{nil_from_length}
use Rattle.hse_shell.specs.Replies.{answer_line}
use Rattle.hse_shell.proofs.AnswerLemmas.{led_of}
use Rattle.hse_shell.proofs.RunLemmas.{Appends-none}
use Rattle.hse_shell.proofs.answering.answer.Goals as goal

pub returns-in-Err-NoMemory-clause-unreplied : goal.returns-in-Err-NoMemory-clause-unreplied
returns-in-Err-NoMemory-clause-unreplied g c m s =
    let turns = rw c.in-Err-NoMemory.field-0-is at (c.in-Err-NoMemory.ensures.turns m s) in (
      (
        turns.1,
        led_of g.D.Device (λ disk clock image told le now. g.met.D.Disk.counts_now disk clock image told le now)
            m c.args.line.now c.turn.new.disk c.turn.new.engine turns.0,
      ),
      Appends-none (g.K.Sink.contents c.args.sink.now),
    )

pub returns-then-is_empty-clause-replied : goal.returns-then-is_empty-clause-replied
returns-then-is_empty-clause-replied g c m s =
    let turns = c.in-Ok.ensures.turns m s in
    let empty : c.turn.new.text.items ≡ [] = nil_from_length c.turn.new.text.items
    (sym c.turn.new.text.ok.0 ∙ eqb-true (vec_len c.turn.new.text) 0 (sym c.is_empty.ensures ∙ c.if-is_empty.true)) in
    let said : c.turn.new.text.items ≡ answer_line turns.0.answer =
    turns.1 ∙ ap (λ (l : List ℕ). l ++ answer_line turns.0.answer) c.clear.ensures.items in
    record {
      turned = turns.0;
      wrote = subst (Appends (g.K.Sink.contents c.args.sink.now) (g.K.Sink.contents c.args.sink.now)) (sym empty ∙ said)
          (Appends-none (g.K.Sink.contents c.args.sink.now));
    }

pub returns-in-Ok-write-clause-replied : goal.returns-in-Ok-write-clause-replied
returns-in-Ok-write-clause-replied g c m s =
    let turns = c.in-Ok.ensures.turns m s in
    let said : c.deref.result.now ≡ answer_line turns.0.answer =
    c.deref.ensures.value ∙ turns.1 ∙ ap (λ (l : List ℕ). l ++ answer_line turns.0.answer) c.clear.ensures.items in
    record {
      turned = turns.0;
      wrote = subst (Appends (g.K.Sink.contents c.args.sink.now) (g.K.Sink.contents c.write.new.self)) said c.in-Ok-write.ensures.written;
    }

pub returns-in-Err-clause-unreplied : goal.returns-in-Err-clause-unreplied
returns-in-Err-clause-unreplied g c m s =
    let turns = c.in-Ok.ensures.turns m s in
    let said : c.deref.result.now ≡ answer_line turns.0.answer =
    c.deref.ensures.value ∙ turns.1 ∙ ap (λ (l : List ℕ). l ++ answer_line turns.0.answer) c.clear.ensures.items in
    let (front, rest, parts, appended) = c.in-Err.ensures.partly in
    record {
      led = led_of g.D.Device (λ disk clock image told le now. g.met.D.Disk.counts_now disk clock image told le now)
          m c.args.line.now c.turn.new.disk c.turn.new.engine turns.0;
      front = record { front = front; rest = rest; parts = sym said ∙ parts; appended = appended };
    }
