-- Log and manifest have what happened, in every run.
use Rattle.std.specs.List.{AllByRecursion}
use Rattle.std.proofs.Common.{◌≡◌, ℕ, ◌+◌, List, [], ◌∷◌, None, refl, sym, ◌∙◌, ap, subst, arith}
use Rattle.hse_rows.specs.transactions.Timeline.{Timeline}
use Rattle.hse_rows.specs.machine.Replies as replies
use Rattle.hse_rows.specs.machine.Replies.{Answer}
use Rattle.hse_rows.specs.machine.Calls.{Call, write_turn, reopen}
use Rattle.hse_rows.specs.machine.Core.{Core, Stored, life}
use Rattle.hse_rows.specs.machine.CoreRefusal.{refusal}
use Rattle.hse_rows.specs.machine.CoreDone.{done, refused_to, failing}
use Rattle.hse_rows.specs.machine.CoreStep.{Found, loads, breaks_off, has_version, Reopens, Step}
use Rattle.hse_rows.specs.laws.CoreLaws.{Entry, Run, stored_by, stored_in, LoadsInOrder}
use Rattle.hse_rows.specs.machine.Recorded.{above, AreLayers, CommitsBetween, last_frozen, commits_of, IsRecorded, IsInOrder}
use Rattle.hse_rows.proofs.CoreAnswers.{IsOther}
use Rattle.hse_rows.proofs.CoreGoes.{refused_keeps, failing_keeps}
use Rattle.hse_rows.proofs.StandLemmas.{done_base}
use Rattle.hse_rows.proofs.CoreRecords.{none_added, recorded, InLog, done_recorded, refused_recorded}
use Rattle.hse_rows.proofs.ManifestRecords.{all_above, InManifest, done_kept, refused_kept, failing_kept}

-- ---- both halves

module _ (since : Stored) where
  in_manifest : (m : Core) → IsRecorded since m → InManifest since.manifest.taken m
  in_manifest m good = record { manifest = good.manifest; turn = good.turn; broken = good.broken }

  both : (m : Core) → m.timeline.base ≡ since.base → InLog (commits_of since.log) m → InManifest since.manifest.taken m → IsRecorded since m
  both m base log rest = record { base = base; log = log; manifest = rest.manifest; turn = rest.turn; broken = rest.broken }

  module _ (m : Core) (good : IsRecorded since m) where
    done_is_recorded : (call : Call) → refusal m call ≡ None → IsRecorded since (done m call)
    done_is_recorded call none =
        both (done m call) (done_base m call ∙ good.base) (done_recorded (commits_of since.log) m good.log call)
        (done_kept since.manifest.taken m (in_manifest m good) good.log.layers call none)

    refused_is_recorded : (call : Call) → IsRecorded since (refused_to m call)
    refused_is_recorded call =
        both (refused_to m call) (ap (λ (t : Timeline). t.base) (refused_keeps m call).timeline ∙ good.base)
        (refused_recorded (commits_of since.log) m good.log call)
        (refused_kept since.manifest.taken m (in_manifest m good) call)

    failing_log : (call : Call) → InLog (commits_of since.log) (failing m call)
    failing_log write_turn = good.log
    failing_log call = good.log

    pub failing_is_recorded : (call : Call) → IsRecorded since (failing m call)
    failing_is_recorded call =
        both (failing m call) (ap (λ (t : Timeline). t.base) (failing_keeps m call).timeline ∙ good.base) (failing_log call)
        (failing_kept since.manifest.taken m (in_manifest m good) call)

-- ---- a life

none_since : (number : ℕ) → number ≡ number + 0
none_since number = omega arith

pub life_recorded : (stored : Stored) → IsInOrder stored → IsRecorded stored (life stored)
life_recorded stored good = record {
  base = refl;
  log =
      recorded (commits_of stored.log) stored.log stored.base [] [] (sym (none_added (commits_of stored.log))) tt
      (subst (λ (n : ℕ). AreLayers stored.log.horizon n stored.log.frozen) (none_since stored.base.number) good.layers)
      (subst (λ (n : ℕ). CommitsBetween (last_frozen stored.log.horizon stored.log.frozen) n stored.log.active) (none_since stored.base.number) good.active);
  manifest = λ whole.
      none_added stored.manifest.taken
      ∙ sym (ap (above stored.log.horizon) (none_added stored.manifest.taken) ∙ all_above stored.log.horizon stored.manifest.taken good.taken);
  turn = tt;
  broken = tt;
}

-- ---- steps

pub same_record : (since : Stored) (one other : Core) → other ≡ one → IsRecorded since one → IsRecorded since other
same_record since one other is good = subst (IsRecorded since) (sym is) good

reopening_records : (since : Stored) (found : Found) (old new : Core) (answer : Answer ℕ) → LoadsInOrder found → IsRecorded since old
    → Reopens found old answer new → IsRecorded (stored_by since found reopen answer) new
reopening_records since (loads stored) old new (replies.ok number) ordered good step = same_record stored (life stored) new step.1 (life_recorded stored ordered)
reopening_records since (loads stored) old new replies.device_fault ordered good step =
    same_record since (failing old reopen) new step (failing_is_recorded since old good reopen)
reopening_records since (loads stored) old new answer ordered good step = absurd step
reopening_records since (breaks_off part place) old new (replies.refused (replies.not_formed at_part at_place)) ordered good step = same_record since old new step.2 good
reopening_records since (breaks_off part place) old new replies.device_fault ordered good step =
    same_record since (failing old reopen) new step (failing_is_recorded since old good reopen)
reopening_records since (breaks_off part place) old new answer ordered good step = absurd step
reopening_records since (has_version version) old new (replies.refused (replies.other_version told)) ordered good step = same_record since old new step.1 good
reopening_records since (has_version version) old new replies.device_fault ordered good step =
    same_record since (failing old reopen) new step (failing_is_recorded since old good reopen)
reopening_records since (has_version version) old new answer ordered good step = absurd step

-- a call that loads nothing
nothing_loaded : (since : Stored) (found : Found) (call : Call) (answer : Answer ℕ) → IsOther call → stored_by since found call answer ≡ since
nothing_loaded since (loads stored) reopen answer other = absurd other
nothing_loaded since (loads stored) call answer other = refl
nothing_loaded since (breaks_off part place) call answer other = refl
nothing_loaded since (has_version version) call answer other = refl

pub other_records : (since : Stored) (found : Found) (old new : Core) (call : Call) (answer : Answer ℕ) → IsOther call → IsRecorded since old
    → Step found old call answer new → IsRecorded since new
other_records since found old new call replies.no_memory other good step = same_record since old new step good
other_records since found old new reopen answer other good step = absurd other
other_records since found old new write_turn replies.device_fault other good step =
    same_record since (failing old write_turn) new step.1 (failing_is_recorded since old good write_turn)
other_records since found old new call replies.device_fault other good step = absurd step
other_records since found old new call (replies.refused reason) other good step =
    same_record since (refused_to old call) new step.1 (refused_is_recorded since old good call)
other_records since found old new call answer other good step = same_record since (done old call) new step.2 (done_is_recorded since old good call step.0)

pub step_records : (since : Stored) (found : Found) (old new : Core) (call : Call) (answer : Answer ℕ) → LoadsInOrder found → IsRecorded since old
    → Step found old call answer new → IsRecorded (stored_by since found call answer) new
step_records since (loads stored) old new reopen replies.no_memory ordered good step = same_record since old new step good
step_records since (breaks_off part place) old new reopen replies.no_memory ordered good step = same_record since old new step good
step_records since (has_version version) old new reopen replies.no_memory ordered good step = same_record since old new step good
step_records since (loads stored) old new reopen (replies.refused (replies.busy kind)) ordered good step = same_record since old new step.1 good
step_records since (breaks_off part place) old new reopen (replies.refused (replies.busy kind)) ordered good step = same_record since old new step.1 good
step_records since (has_version version) old new reopen (replies.refused (replies.busy kind)) ordered good step = same_record since old new step.1 good
step_records since found old new reopen answer ordered good step = reopening_records since found old new answer ordered good step.1
step_records since found old new call answer ordered good step =
    subst (λ (s : Stored). IsRecorded s new) (sym (nothing_loaded since found call answer tt)) (other_records since found old new call answer tt good step)

-- ---- runs

run_records : (since : Stored) (old : Core) (entries : List Entry) (new : Core) → AllByRecursion (λ entry. LoadsInOrder entry.found) entries
    → IsRecorded since old → Run old entries new → IsRecorded (stored_in since entries) new
run_records since old [] new ordered good run = same_record since old new run good
run_records since old (entry ∷ entries) new ordered good run =
    run_records (stored_by since entry.found entry.call entry.answer) run.0 entries new ordered.1
    (step_records since entry.found old run.0 entry.call entry.answer ordered.0 good run.1) run.2

pub runs_recorded : (stored : Stored) (entries : List Entry) (new : Core) → IsInOrder stored → AllByRecursion (λ entry. LoadsInOrder entry.found) entries
    → Run (life stored) entries new → IsRecorded (stored_in stored entries) new
runs_recorded stored entries new good ordered run = run_records stored (life stored) entries new ordered (life_recorded stored good) run
