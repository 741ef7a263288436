-- A job that was just picked, among those with ids below it.
use Rattle.std.specs.Prelude.{◌==◌}
use Rattle.std.specs.List.{AllByRecursion, filter, find}
use Rattle.std.proofs.Common.{◌≡◌, ℕ, ◌+◌, ◌<◌, Bool, true, false, not, cond, List, [], ◌∷◌, ◌++◌, Option, Some, None, refl, sym, ◌∙◌, ap, subst, arith}
use Rattle.std.proofs.lemmas.Bool.Decides.{nat_tests}
use Rattle.hse_rows.specs.machine.Rising.{Rise, rise-below}
use Rattle.hse_rows.specs.states.State.{store_named}
use Rattle.hse_rows.specs.transactions.Timeline.{for_some}
use Rattle.hse_rows.specs.rows.Layout.{NewSet}
use Rattle.hse_rows.specs.rows.Job.{JobWish, ingest, of_run, Work, on_run, Job, AreNumbered, AreApart, ClaimApart, JobState, picked, built, is_picked, is_installing, job_of}
use Rattle.hse_rows.specs.machine.Replies as replies
use Rattle.hse_rows.specs.machine.Calls.{build, drop_job}
use Rattle.hse_rows.specs.machine.Core.{Core, now}
use Rattle.hse_rows.specs.machine.CoreRefusal.{refusal, refuse, pick_refusal, with_job}
use Rattle.hse_rows.specs.machine.CoreReply.{sets_for}
use Rattle.hse_rows.specs.machine.CoreDone.{done, without_job, with_state, with_picked, picking, building, run_of}
use Rattle.hse_rows.proofs.PassLemmas.{passes, found}

abbrev pub AreBelow : ℕ → List Job → Type 0
AreBelow number jobs = AllByRecursion (λ job. job.id < number) jobs

other_id : (low high : ℕ) → low < high → (low == high) ≡ false
other_id low high less = grind (arith, nat_tests)

own_id : (id : ℕ) → (id == id) ≡ true
own_id id = grind (arith, nat_tests)

pub last_found : (jobs : List Job) (last : Job) → AreBelow last.id jobs → job_of (jobs ++ last ∷ []) last.id ≡ Some last
last_found [] last below = ap (λ (b : Bool). cond b (Some last) None) (own_id last.id)
last_found (job ∷ jobs) last below =
    ap (λ (b : Bool). cond b (Some job) (job_of (jobs ++ last ∷ []) last.id)) (other_id job.id last.id below.0)
    ∙ last_found jobs last below.1

pub last_led : (jobs : List Job) (last : Job) (state : JobState) (sets : List NewSet) → AreBelow last.id jobs
    → with_state (jobs ++ last ∷ []) last.id state sets ≡ jobs ++ record last { state = state; sets = sets } ∷ []
last_led [] last state sets below =
    ap (λ (b : Bool). cond b (record last { state = state; sets = sets }) last ∷ []) (own_id last.id)
last_led (job ∷ jobs) last state sets below =
    ap (λ (b : Bool). cond b (record job { state = state; sets = sets }) job ∷ with_state (jobs ++ last ∷ []) last.id state sets)
    (other_id job.id last.id below.0)
    ∙ ap (λ (l : List Job). job ∷ l) (last_led jobs last state sets below.1)

pub last_gone : (jobs : List Job) (last : Job) → AreBelow last.id jobs → without_job (jobs ++ last ∷ []) last.id ≡ jobs
last_gone [] last below = ap (λ (b : Bool). cond (not b) (last ∷ []) []) (own_id last.id)
last_gone (job ∷ jobs) last below =
    ap (λ (b : Bool). cond (not b) (job ∷ without_job (jobs ++ last ∷ []) last.id) (without_job (jobs ++ last ∷ []) last.id))
    (other_id job.id last.id below.0)
    ∙ ap (λ (l : List Job). job ∷ l) (last_gone jobs last below.1)

-- ---- ids

pub numbered_below : (jobs : List Job) (count : ℕ) → AreNumbered jobs count → AreBelow count jobs
numbered_below jobs count numbered = rise-below (λ (job : Job). job.id) 0 count jobs numbered

pub led_numbered : (low high id : ℕ) (state : JobState) (sets : List NewSet) (jobs : List Job) → Rise (λ job. job.id) low high jobs
    → Rise (λ job. job.id) low high (with_state jobs id state sets)
led_numbered low high id state sets [] rises = rises
led_numbered low high id state sets (job ∷ jobs) rises = by (job.id == id) (led_numbered (job.id + 1) high id state sets jobs rises.1)
  where
    by : (b : Bool) → Rise (λ job. job.id) (job.id + 1) high (with_state jobs id state sets)
        → Rise (λ job. job.id) low high (cond b (record job { state = state; sets = sets }) job ∷ with_state jobs id state sets)
    by true rest = (rises.0, rest)
    by false rest = (rises.0, rest)

-- ---- claims

all_push : (P : Job → Type 0) (jobs : List Job) (last : Job) → AllByRecursion P jobs → P last → AllByRecursion P (jobs ++ last ∷ [])
all_push P [] last all it = (it, tt)
all_push P (job ∷ jobs) last all it = (all.0, all_push P jobs last all.1 it)

all_filter : (P : Job → Type 0) (p : Job → Bool) (jobs : List Job) → AllByRecursion P jobs → AllByRecursion P (filter p jobs)
all_filter P p [] all = tt
all_filter P p (job ∷ jobs) all = by (p job) (all_filter P p jobs all.1)
  where
    by : (b : Bool) → AllByRecursion P (filter p jobs) → AllByRecursion P (cond b (job ∷ filter p jobs) (filter p jobs))
    by true rest = (all.0, rest)
    by false rest = rest

all_led : (earlier : Work) (id : ℕ) (state : JobState) (sets : List NewSet) (jobs : List Job) → AllByRecursion (λ later. AreApart earlier later.work) jobs
    → AllByRecursion (λ later. AreApart earlier later.work) (with_state jobs id state sets)
all_led earlier id state sets [] all = tt
all_led earlier id state sets (job ∷ jobs) all = (by (job.id == id), all_led earlier id state sets jobs all.1)
  where
    by : (b : Bool) → AreApart earlier (cond b (record job { state = state; sets = sets }) job).work
    by true = all.0
    by false = all.0

pub push_apart : (jobs : List Job) (last : Job) → ClaimApart jobs → AllByRecursion (λ job. AreApart job.work last.work) jobs → ClaimApart (jobs ++ last ∷ [])
push_apart [] last apart from = (tt, tt)
push_apart (job ∷ jobs) last apart from =
    (all_push (λ later. AreApart job.work later.work) jobs last apart.0 from.0, push_apart jobs last apart.1 from.1)

pub filter_apart : (p : Job → Bool) (jobs : List Job) → ClaimApart jobs → ClaimApart (filter p jobs)
filter_apart p [] apart = tt
filter_apart p (job ∷ jobs) apart = by (p job) (all_filter (λ later. AreApart job.work later.work) p jobs apart.0) (filter_apart p jobs apart.1)
  where
    by : (b : Bool) → AllByRecursion (λ later. AreApart job.work later.work) (filter p jobs) → ClaimApart (filter p jobs)
        → ClaimApart (cond b (job ∷ filter p jobs) (filter p jobs))
    by true first rest = (first, rest)
    by false first rest = rest

pub led_apart : (id : ℕ) (state : JobState) (sets : List NewSet) (jobs : List Job) → ClaimApart jobs → ClaimApart (with_state jobs id state sets)
led_apart id state sets [] apart = tt
led_apart id state sets (job ∷ jobs) apart = by (job.id == id) (all_led job.work id state sets jobs apart.0) (led_apart id state sets jobs apart.1)
  where
    by : (b : Bool) → AllByRecursion (λ later. AreApart job.work later.work) (with_state jobs id state sets) → ClaimApart (with_state jobs id state sets)
        → ClaimApart (cond b (record job { state = state; sets = sets }) job ∷ with_state jobs id state sets)
    by true first rest = (first, rest)
    by false first rest = (first, rest)

pub none_found : (p : Job → Bool) (jobs : List Job) → find p jobs ≡ None → AllByRecursion (λ job. p job ≡ false) jobs
none_found p [] none = tt
none_found p (job ∷ jobs) none = by (p job) refl none (none_found p jobs)
  where
    by : (b : Bool) → p job ≡ b → cond b (Some job) (find p jobs) ≡ None
        → (find p jobs ≡ None → AllByRecursion (λ later. p later ≡ false) jobs)
        → (p job ≡ false) × AllByRecursion (λ later. p later ≡ false) jobs
    by true is e rest = absurd cc
    by false is e rest = (is, rest e)

-- ---- a pick

-- a pick that nothing refuses is of some work
pub picks : (m : Core) (wish : JobWish) → pick_refusal m wish ≡ None → (work : Work) × (picking m wish ≡ with_picked m work) × (m.is_broken ≡ false)
picks m ingest none = (_, refl, (passes m.is_broken replies.broken _ none).0)
picks m (of_run kind name path from len) none =
    found (λ c. (work : Work) × (c ≡ with_picked m work) × (m.is_broken ≡ false)) (store_named (now m) name) replies.no_store _ m
    (λ store. with_picked m (on_run (run_of m kind store path from len)))
    (λ store is none. (_, refl, (passes m.is_broken replies.broken _ none).0)) none

-- and adds a job to those that are there
module _ (m : Core) (numbered : AreBelow m.picked m.jobs) (work : Work) where
  abbrev pub new_job : Job
  new_job = record { id = m.picked; work = work; state = picked; sets = [] }

  abbrev pub built_job : Job
  built_job = record { id = m.picked; work = work; state = built; sets = sets_for (with_picked m work) work }

  -- the core with it when it is built
  abbrev pub with_built_job : Core
  with_built_job = record m { jobs = m.jobs ++ built_job ∷ []; picked = m.picked + 1 }

  pub build_passes : m.is_broken ≡ false → refusal (with_picked m work) (build m.picked) ≡ None
  build_passes unbroken =
      ap (λ (j : Option Job). for_some j (Some replies.no_name) (λ job.
      refuse (not (is_picked job.state)) (replies.job_state job.state) (refuse m.is_broken replies.broken None)))
      (last_found m.jobs new_job numbered)
      ∙ ap (λ (b : Bool). refuse b replies.broken None) unbroken

  pub built_is : done (with_picked m work) (build m.picked) ≡ with_built_job
  built_is =
      ap (λ (j : Option Job). for_some j (with_picked m work) (building (with_picked m work))) (last_found m.jobs new_job numbered)
      ∙ ap (λ (l : List Job). record m { jobs = l; picked = m.picked + 1 }) (last_led m.jobs new_job built built_job.sets numbered)

  drop_passes : (last : Job) → last.id ≡ m.picked → is_installing last.state ≡ false
      → refusal (record m { jobs = m.jobs ++ last ∷ []; picked = m.picked + 1 }) (drop_job m.picked) ≡ None
  drop_passes last id_is rests =
      ap (λ (n : ℕ). with_job (record m { jobs = m.jobs ++ last ∷ []; picked = m.picked + 1 }) n (λ state. not (is_installing state)) (λ job. None)) (sym id_is)
      ∙ ap (λ (j : Option Job). for_some j (Some replies.no_name) (λ job.
      refuse (not (not (is_installing job.state))) (replies.job_state job.state) None))
      (last_found m.jobs last (subst (λ (n : ℕ). AreBelow n m.jobs) (sym id_is) numbered))
      ∙ ap (λ (b : Bool). refuse (not (not b)) (replies.job_state last.state) None) rests

  pub picked_drops : refusal (with_picked m work) (drop_job m.picked) ≡ None
  picked_drops = drop_passes new_job refl refl

  pub built_drops : refusal with_built_job (drop_job m.picked) ≡ None
  built_drops = drop_passes built_job refl refl

  pub picked_gone : done (with_picked m work) (drop_job m.picked) ≡ record m { picked = m.picked + 1 }
  picked_gone = ap (λ (l : List Job). record m { jobs = l; picked = m.picked + 1 }) (last_gone m.jobs new_job numbered)

  pub built_gone : done with_built_job (drop_job m.picked) ≡ record m { picked = m.picked + 1 }
  built_gone = ap (λ (l : List Job). record m { jobs = l; picked = m.picked + 1 }) (last_gone m.jobs built_job numbered)
