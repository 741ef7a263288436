use Rattle.std.proofs.Common.{◌≡◌, ◌+◌, ◌-◌, ℕ, List, Ok, ap, sym, ◌∙◌, arith}
use Rattle.hse_fields.specs.laws.Payloads.{entry}
use Rattle.wal.specs.Expected.{numbers_as}
use Rattle.wal.specs.Logged.{charge, logged_all}
use Rattle.hse_rows.specs.machine.TakenRuns.{numbers_of, runs_as}
use Rattle.wal.specs.Numbering.{Numbers, taken_from}
use Rattle.wal.proofs.EntryLemmas.{over_room, within_room}
use Rattle.wal.proofs.LengthLemmas.{charge_is}
use Rattle.wal.proofs.reader.Reader.entry.Goals as goal

pub returns-then-self-charge : goal.returns-then-self-charge
returns-then-self-charge c =
    let behind = c.are_bytes.ensures.bytes in
    let is : charge (entry c.in_ok-number.number (logged_all c.in_ok-writes.writes)) ≡ c.charge-charge.result =
    charge_is c.in_ok-number.number c.in_ok-writes.writes ∙ sym c.charge-charge.ensures in
    rw c.refusal-then-self-charge.ensures (over_room c.args.self.live.now c.args.self.most (numbers_as c.args.self.expected) c.args.self.bytes.now c.in_ok-number.number c.in_ok-number.rest.now (logged_all c.in_ok-writes.writes) c.in_ok-writes.rest.now
    behind c.in_ok-number.ensures (c.if-number-next.false ∙ c.first_free-next.ensures.number) c.if-number-gt-GREATEST_NUMBER.false c.in_ok-writes.ensures.read (omega (arith, is, c.if-self-charge.true)))

pub returns : goal.returns
returns c =
    let behind = c.are_bytes.ensures.bytes in
    let is : charge (entry c.in_ok-number.number (logged_all c.in_ok-writes.writes)) ≡ c.charge-charge.result =
    charge_is c.in_ok-number.number c.in_ok-writes.writes ∙ sym c.charge-charge.ensures in
    let read = within_room c.args.self.live.now c.args.self.most (numbers_as c.args.self.expected) c.args.self.bytes.now c.in_ok-number.number c.in_ok-number.rest.now (logged_all c.in_ok-writes.writes) c.in_ok-writes.rest.now
    behind c.in_ok-number.ensures (c.if-number-next.false ∙ c.first_free-next.ensures.number) c.if-number-gt-GREATEST_NUMBER.false c.in_ok-writes.ensures.read (omega (arith, is, c.if-self-charge.false)) in
    let taken : List ℕ → ℕ → Numbers = λ (t : List ℕ) (n : ℕ). record { next = c.in_ok-number.number + 1; taken = t; room = c.args.self.expected.room - n } in
    read ∙ ap (λ (s : Numbers). Ok ((entry c.in_ok-number.number (logged_all c.in_ok-writes.writes), s), c.in_ok-writes.rest.now))
    (ap (λ (n : ℕ). taken (taken_from c.args.self.expected.next (numbers_of (runs_as c.args.self.expected.taken.now))) n) is
    ∙ ap (λ (t : List ℕ). taken t c.charge-charge.result) (sym c.first_free-next.ensures.taken))
