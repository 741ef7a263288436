use Rattle.std.proofs.Common.{refl, sym}
use Rattle.std.proofs.lemmas.List.{append-nil}
use Rattle.hse_shell.specs.Grammar.{puts, dels, gets, silent}
use Rattle.hse_shell.specs.Replies.{no_reply}
use Rattle.hse_shell.proofs.TurnLemmas.{serves_put, serves_del, serves_get, said_turns, unknown_turns, sync_turns}
use Rattle.hse_shell.proofs.turn.turn.Goals as goal

pub returns-in-Put-clause-turns : goal.returns-in-Put-clause-turns
returns-in-Put-clause-turns g c m s =
    let said = c.put_line.ensures.said m s.stands in
    said_turns g.D.Device m c.args.line.now c.args.text.now.items c.put_line.new.text.items c.args.disk.now c.put_line.new.engine
    (puts c.in-Put.key.now c.in-Put.value.now) c.args.engine.now c.put_line.result (λ e. cc) c.in-Put.ensures.means
    c.put_line.ensures.no_device said
    (serves_put g.D.Device c.args.disk.now c.args.engine.now c.put_line.new.engine m said.tail said.marks s
    c.in-Put.key.now c.in-Put.value.now said.answer said.answers)

pub returns-in-Del-clause-turns : goal.returns-in-Del-clause-turns
returns-in-Del-clause-turns g c m s =
    let said = c.del_line.ensures.said m s.stands in
    said_turns g.D.Device m c.args.line.now c.args.text.now.items c.del_line.new.text.items c.args.disk.now c.del_line.new.engine
    (dels c.in-Del.key.now) c.args.engine.now c.del_line.result (λ e. cc) c.in-Del.ensures.means
    c.del_line.ensures.no_device said
    (serves_del g.D.Device c.args.disk.now c.args.engine.now c.del_line.new.engine m said.tail said.marks s
    c.in-Del.key.now said.answer said.answers)

pub returns-in-Get-clause-turns : goal.returns-in-Get-clause-turns
returns-in-Get-clause-turns g c m s =
    let said = c.get_line.ensures.said m s.stands in
    said_turns g.D.Device m c.args.line.now c.args.text.now.items c.get_line.new.text.items c.args.disk.now c.args.engine.now
    (gets c.in-Get.key.now) c.args.engine.now c.get_line.result (λ e. cc) c.in-Get.ensures.means
    c.get_line.ensures.no_device said
    (serves_get g.D.Device c.args.disk.now c.args.engine.now c.args.engine.now m said.tail said.marks s
    c.in-Get.key.now said.answer said.answers)

pub returns-in-Sync-clause-turns : goal.returns-in-Sync-clause-turns
returns-in-Sync-clause-turns g c m s =
    sync_turns g.D.Device m c.args.line.now c.args.text.now.items c.sync_line.new.text.items c.sync_line.new.disk c.sync_line.new.engine
    c.sync_line.result c.in-Sync.ensures.means (c.sync_line.ensures.turns m s)

pub returns-in-Silent-clause-turns : goal.returns-in-Silent-clause-turns
returns-in-Silent-clause-turns g c m s = (
  record {
    meaning = silent;
    answer = no_reply;
    means = c.in-Silent.ensures.means;
    turned = record { step = refl; serves = s };
  },
  sym (append-nil c.args.text.now.items),
)

pub returns-in-Unknown-clause-turns : goal.returns-in-Unknown-clause-turns
returns-in-Unknown-clause-turns g c m s =
    unknown_turns g.D.Device m c.args.line.now c.args.text.now.items c.unknown_line.new.text.items c.args.disk.now c.args.engine.now
    c.unknown_line.result c.in-Unknown.ensures.means c.unknown_line.ensures.no_device c.unknown_line.ensures.said s
