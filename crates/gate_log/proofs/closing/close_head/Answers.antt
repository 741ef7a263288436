-- A crash in the write of the closed head leaves it closed, or the region as it was.
use Rattle.std.proofs.Common.{◌∙◌, ap, get_or, List, ℕ, sym, arith}
use Rattle.gate_log.proofs.StartLemmas.{crash_head}
use Rattle.gate_log.proofs.closing.close_head.Goals as goal

pub returns-clause-crash : goal.returns-clause-crash
returns-clause-crash g c told apart =
    crash_head g.D.Device told c.args.region.now (omega (arith, c.requires.size)) c.args.disk.now c.read.new.self _ c.read.ensures.reads c.read.ensures.call.forward
    (ap (λ (bytes : List ℕ). get_or bytes 0 0) (sym (c.in_ok-read.ensures.read told)) ∙ c.if-head-ne-OPEN_GATE.false) apart
    (c.write_and_sync.ensures.crash told)
