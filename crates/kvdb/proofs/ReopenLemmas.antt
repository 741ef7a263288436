-- What an engine finds on its own device.
use Rattle.std.specs.Prelude.{Some, None, Err}
use Rattle.std.proofs.Common.{◌≡◌, ℕ, ◌+◌, ◌-◌, ◌≤◌, Bool, true, false, List, length, take, refl, sym, ◌∙◌, ap, subst, arith}
use Rattle.std.proofs.lemmas.List.{length-take-le}
use Rattle.media_disk.specs.declared.device.Device.{Ghosts}
use Rattle.media_disk.specs.Images.{MayLeave}
use Rattle.media_disk.specs.Leaves.{LeavesOnly}
use Rattle.media_disk.specs.laws.Images.{image_now}
use Rattle.media_disk.specs.laws.Leaves.{leaves_more}
use Rattle.hse_rows.specs.laws.Folding.{folded-number}
use Rattle.hse_rows.specs.machine.Core.{Core, Stored, number_of, life}
use Rattle.hse_rows.specs.machine.CoreRefusal.{unless_busy}
use Rattle.hse_rows.specs.machine.Replies.{busy}
use Rattle.hse_rows.specs.machine.Turn.{Turn as machine_turn, home, taken, ran}
use Rattle.device_layout.specs.Layouts.{params_of, sizes_of}
use Rattle.manifest.specs.declared.manifest.Manifest.{Manifest}
use Rattle.wal.specs.declared.ring.Ring.{Ring}
use Rattle.recovery.specs.Image.{Loaded, IsLoaded}
use Rattle.recovery.specs.Image as image_of
use Rattle.recovery.specs.Answers.{IsRecovery}
use Rattle.recovery.specs.Keeps.{Keeps}
use Rattle.recovery.specs.Refused.{IsNotFormed, IsOtherVersion}
use Rattle.recovery.specs.declared.fault.OpenFault.{OpenFault}
use Rattle.recovery.specs.declared.fault.OpenFault.TheVariants.{NotFormed, Version, Device, NoMemory}
use Rattle.recovery.specs.declared.region.Region.{Region}
use Rattle.engine_state.specs.Serves as state
use Rattle.engine_state.specs.Serves.{handed}
use Rattle.recovery.specs.Machine.{stored_of}
use Rattle.back.specs.declared.back.Back.{Back}
use Rattle.kvdb.specs.Found.{StoresFrom, stored_at}
use Rattle.kvdb.specs.Reopening.{last_by, last_left, IsNoted, Reborn, StaysAfter}
use Rattle.kvdb.specs.Serves.{of_sets, RestsAt, IsHome, IsOut, Serves, StartServes}
use Rattle.kvdb.specs.Sides.{kind_as}
use Rattle.kvdb.specs.declared.side.TurnKind.{TurnKind}
use Rattle.kvdb.specs.declared.side.Side.TheVariants as side
use Rattle.kvdb.proofs.TurnLemmas.{pending_failed, side_home, start_broken}
use Rattle.kvdb.specs.declared.engine.Kvdb.{Kvdb}
use Rattle.kvdb.specs.declared.log_start.LogStart.{LogStart}
use Rattle.kvdb.proofs.RunLemmas.{from_rest}

-- no image is loaded in two ways
abbrev pub OneLoading : Type 0
OneLoading = (image : List ℕ) (one other : Loaded) → IsLoaded image one → IsLoaded image other → one ≡ other

-- and none of which something is loaded is refused, or of another version
abbrev pub NeverRefused : Type 0
NeverRefused = (image : List ℕ) (loaded : Loaded) (region : Region) (place : ℕ) → IsLoaded image loaded → IsNotFormed image region place → ⊥

abbrev pub NeverOther : Type 0
NeverOther = (image : List ℕ) (loaded : Loaded) (version : ℕ) → IsLoaded image loaded → IsOtherVersion image version → ⊥

-- the machine is asked to open again while a turn is out
pub reopen_busy : (what : TurnKind) (number : ℕ) (turn : machine_turn) → IsOut what number turn → unless_busy turn None ≡ Some (busy (kind_as what))
reopen_busy what number home is = absurd is
reopen_busy what number (taken turn) is = ap (λ k. Some (busy k)) is.kind
reopen_busy what number (ran turn has_failed) is = ap (λ k. Some (busy k)) is.kind

module _ {D : Type 0} (g : Ghosts D) (m : Core) (from : m.timeline.base.number ≤ m.safe) (until : m.safe ≤ number_of m)
    (back : Back D g) (h : IsHome g back m) where
  -- what a crash may leave now
  pub home_leaves : g.tells → (image : List ℕ) → MayLeave g back.disk image → StoresFrom m (last_left m) image
  home_leaves told image left = by m.is_broken refl
    where
      by : (b : Bool) → m.is_broken ≡ b → StoresFrom m (last_left m) image
      by true is =
          subst (λ (b : Bool). StoresFrom m (last_by m b) image) (sym is) (h.broken is told image left)
      by false is =
          let r = h.settled is told in
          subst (λ (b : Bool). StoresFrom m (last_by m b) image) (sym is)
          (from_rest g back m m.safe r.loaded image (omega arith) r.rests r.same left)

  -- and what a read gives
  pub home_stores : g.tells → StoresFrom m (last_left m) (g.seen back.disk)
  home_stores told = home_leaves told (g.seen back.disk) (image_now (g.seen back.disk) (g.pending back.disk))

  last_within : last_left m ≤ number_of m
  last_within = by m.is_broken
    where
      by : (b : Bool) → last_by m b ≤ number_of m
      by true = omega arith
      by false = until

  number_at : (number : ℕ) → m.safe ≤ number → number ≤ number_of m → (stored_at m number).base.number ≡ number
  number_at number low high =
      let some : length (take (number - m.timeline.base.number) m.timeline.history) ≡ number - m.timeline.base.number =
      length-take-le (number - m.timeline.base.number) m.timeline.history (omega (arith, high)) in
      folded-number m.timeline.base (take (number - m.timeline.base.number) m.timeline.history)
      ∙ (let e : m.timeline.base.number + length (take (number - m.timeline.base.number) m.timeline.history) ≡ number = omega (arith, some, from, low) in e)

  -- a life at what was read begins at what the device has of this one
  pub reborn : OneLoading → g.tells → (loaded : Loaded) (number : ℕ) (new : Kvdb D g) → IsLoaded (g.seen back.disk) loaded
      → number ≡ image_of.number_of loaded.metadata loaded.log → Serves g new (life (stored_of loaded)) → Reborn g m number new
  reborn law told loaded number new is number_is serves =
      let has = home_stores told in
      let same : stored_of loaded ≡ stored_at m has.number =
      ap stored_of (law (g.seen back.disk) loaded has.stored.loaded is has.stored.is) ∙ has.stored.same in
      let at : number ≡ has.number =
      number_is ∙ ap (λ (s : Stored). s.base.number) same
      ∙ number_at has.number has.reaches (let e : has.number ≤ number_of m = omega (arith, has.within, last_within) in e) in
      record {
        reaches = omega (arith, at, has.reaches);
        within = omega (arith, at, has.within);
        serves = subst (λ (s : Stored). Serves g new (life s)) (same ∙ ap (stored_at m) (sym at)) serves;
      }

  -- ---- a device that was only read

  module _ (then : Back D g) (layout : then.layout ≡ back.layout) (log : then.log ≡ back.log) (manifest : then.manifest ≡ back.manifest)
      (keeps : Keeps g back.disk then.disk) where
    rests_kept : (stored : Stored) → g.tells → RestsAt g back stored → RestsAt g then stored
    rests_kept stored told r = record {
      loaded = r.loaded;
      rests = record {
        says = subst (λ (bytes : List ℕ). IsLoaded bytes r.loaded) (sym (keeps.seen told)) r.rests.says;
        counted = r.rests.counted;
        still = keeps.still told r.rests.still;
        home = record {
          layout_is = layout ∙ r.rests.home.layout_is;
          region_is = ap (λ (ring : Ring). ring.region) log ∙ r.rests.home.region_is;
          log_sequence = ap (λ (ring : Ring). ring.sequence) log ∙ r.rests.home.log_sequence;
          log_place = ap (λ (ring : Ring). ring.tail.place) log ∙ r.rests.home.log_place;
          charged = ap (λ (ring : Ring). ring.charges) log ∙ r.rests.home.charged;
          manifest_layout = ap (λ (x : Manifest). x.layout) manifest ∙ r.rests.home.manifest_layout;
          half = ap (λ (x : Manifest). x.half) manifest ∙ r.rests.home.half;
          sequence = ap (λ (x : Manifest). x.sequence) manifest ∙ r.rests.home.sequence;
          place = ap (λ (x : Manifest). x.tail.place) manifest ∙ r.rests.home.place;
        };
      };
      same = r.same;
    }

    pub home_kept : IsHome g then m
    home_kept = record {
      turn = h.turn;
      placed = λ whole.
          let p = h.placed whole in
          record {
            sizes_are = ap (λ (x : Manifest). sizes_of (params_of x.layout)) manifest ∙ p.sizes_are;
            sequence = ap (λ (x : Manifest). x.sequence) manifest ∙ p.sequence;
            used = ap (λ (x : Manifest). x.tail.place + 1) manifest ∙ p.used;
          };
      settled = λ whole told. rests_kept (stored_at m m.safe) told (h.settled whole told);
      broken = λ failed told image left. h.broken failed told image (keeps.images told image left);
    }

    -- and that failed
    pub home_failed : IsHome g then (record m { is_broken = true })
    home_failed = record {
      turn = h.turn;
      placed = λ whole. absurd cc;
      settled = λ whole. absurd cc;
      broken = λ failed told image left.
          let was = home_leaves told image (keeps.images told image left) in
          record {
            number = was.number;
            reaches = was.reaches;
            within = omega (arith, was.within, last_within);
            stored = record { loaded = was.stored.loaded; is = was.stored.is; same = was.stored.same };
          };
    }

    pub crash_kept : g.tells → LeavesOnly g back.disk then.disk (StoresFrom m (last_left m))
    crash_kept told =
        leaves_more g back.disk then.disk (MayLeave g back.disk) (StoresFrom m (last_left m)) (keeps.crash told) (home_leaves told)

  -- ---- an opening that answered a fault

  module _ (no_refusal : NeverRefused) (no_version : NeverOther) (then : Back D g) (layout : then.layout ≡ back.layout)
      (log : then.log ≡ back.log) (manifest : then.manifest ≡ back.manifest) (keeps : Keeps g back.disk then.disk)
      (engine new : Kvdb D g) (s : Serves g engine m) (side_is : new.side ≡ side.In then) (sequence : new.sequence ≡ engine.sequence)
      (free : new.free ≡ engine.free) (start : new.log_start ≡ engine.log_start) where
    pub serves_kept : state.Serves of_sets new.state m → Serves g new m
    serves_kept above = record {
      state = above;
      pending = s.pending;
      start = subst (λ (x : LogStart). StartServes x m) (sym start) s.start;
      manifest = sequence ∙ s.manifest;
      free = free ∙ s.free;
      frozen = s.frozen;
      layout = s.layout;
      jobs = s.jobs;
      side = side_home g new.side then m side_is (home_kept then layout log manifest keeps);
    }

    serves_broken : ((handed : ℕ) → state.ServesAbove of_sets new.state (record m { is_broken = true }) handed)
        → Serves g new (record m { is_broken = true })
    serves_broken above = record {
      state = above (handed m);
      pending = pending_failed m s.pending;
      start = start_broken engine.log_start new.log_start m (record m { is_broken = true }) start refl refl s.start;
      manifest = sequence ∙ s.manifest;
      free = free ∙ s.free;
      frozen = s.frozen;
      layout = s.layout;
      jobs = s.jobs;
      side = side_home g new.side then (record m { is_broken = true }) side_is (home_failed then layout log manifest keeps);
    }

    pub stays_after : (why : OpenFault) → (g.tells → IsRecovery (g.seen back.disk) (Err why)) → IsNoted m why new.state → StaysAfter g m why new
    stays_after (NotFormed region place) answer noted = (
      λ told.
          let has = home_stores told in
          no_refusal (g.seen back.disk) has.stored.loaded region place has.stored.is (answer told),
      serves_kept noted,
    )
    stays_after (Version version) answer noted = (
      λ told.
          let has = home_stores told in
          no_version (g.seen back.disk) has.stored.loaded version has.stored.is (answer told),
      serves_kept noted,
    )
    stays_after Device answer noted = serves_broken noted
    stays_after NoMemory answer noted = serves_kept noted
