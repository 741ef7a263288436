use Rattle.std.proofs.Common.{Some}
use Rattle.media_disk.specs.laws.Leaves.{leaves_more}
use Rattle.back.specs.Leaving.{OldOrCommitted}
use Rattle.back.specs.Steps.{with_commits}
use Rattle.kvdb.specs.Found.{StoresFrom}
use Rattle.kvdb.specs.Turns.{LeadsTo}
use Rattle.kvdb.proofs.RunLemmas.{on_ok_more, some_may, from_batch, leads_none}
use Rattle.kvdb.proofs.running.write.Goals as goal

pub returns-in-None-clause-written : goal.returns-in-None-clause-written
returns-in-None-clause-written g c told m number loaded rests leads =
    record { loaded = loaded; rests = rests; same = leads_none m number loaded (rw c.in-None.is at leads) }

pub returns-in-Some-clause-written : goal.returns-in-Some-clause-written
returns-in-Some-clause-written g c told m number loaded rests leads =
    let l : LeadsTo m number (Some c.in-Some.batch) loaded = rw c.in-Some.is at leads in
    on_ok_more c.sync.result _ _ (λ at. record { loaded = with_commits loaded l.entries; rests = at; same = l.leads })
    (c.sync.ensures.synced told loaded l.entries rests (some_may loaded l.entries l.batch_is.0 l.may) l.batch_is.1)

pub returns-in-Some-clause-crash : goal.returns-in-Some-clause-crash
returns-in-Some-clause-crash g c told m number loaded rests same low leads =
    let l : LeadsTo m number (Some c.in-Some.batch) loaded = rw c.in-Some.is at leads in
    leaves_more g.D.Device c.args.back.now.disk c.sync.new.self.disk (OldOrCommitted loaded l.entries) (StoresFrom m number)
    (c.sync.ensures.crash told loaded l.entries rests (some_may loaded l.entries l.batch_is.0 l.may) l.batch_is.1)
    (λ image has. from_batch m number loaded l.entries image low same l.leads has)
