use Rattle.std.proofs.Common.{◌≡◌, ◌+◌, ap, ◌∙◌, length, length-append, arith}
use Rattle.hse_fields.specs.LogText.{entry_text}
use Rattle.hse_rows.specs.writes.Charge.{charge_of}
use Rattle.wal.specs.Logged.{entry_with}
use Rattle.engine_state.proofs.state.EngineState.log.Goals as goal

pub add-requires : goal.add-requires
add-requires g c =
    let state = c.args.self.now in
    let writes = c.args.writes.now in
    let text : charge_of writes ≡ length (entry_text (entry_with (c.number-number.result + 1) writes)) + 32 =
    c.charge_is_length.ensures (record { number = c.number-number.result + 1; writes = writes }) in
    omega (arith, text, c.requires.room, state.waits, state.charged, state.segment)

pub invariant_of-self-2 : goal.invariant_of-self-2
invariant_of-self-2 g c =
    let state = c.args.self.now in
    let writes = c.args.writes.now in
    let entry = entry_text (entry_with (c.number-number.result + 1) writes) in
    let text : charge_of writes ≡ length entry + 32 =
    c.charge_is_length.ensures (record { number = c.number-number.result + 1; writes = writes }) in
    let charge : c.charge.result ≡ charge_of writes = c.charge.ensures in
    let longer : length c.add.new.self.text ≡ length state.waiting.text + length entry =
    ap (λ w. length w.text) c.in-Ok-add.ensures.added ∙ length-append state.waiting.text entry in
    record {
      segment = state.segment;
      charged = omega (arith, text, charge, c.requires.room, state.charged);
      waits = omega (arith, text, charge, longer, state.waits);
    }
