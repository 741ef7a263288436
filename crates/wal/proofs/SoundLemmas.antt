-- What commits are whose entries follow one another.
use Rattle.std.proofs.Common.{◌≡◌, ◌∙◌, ℕ, ◌+◌, ◌*◌, ◌-◌, ◌≤◌, List, Ok, [], ◌∷◌, length, ap, subst, arith}
use Rattle.std.specs.List.{All, AllByRecursion}
use Rattle.std.proofs.lemmas.List.{length-map}
use Rattle.std.proofs.lemmas.List.Elements.{All-from_recursion}
use Rattle.gate_log.specs.Reading.{payloads_of, LiesInside}
use Rattle.gate_log.specs.declared.front.Front.{Front}
use Rattle.gate_log.specs.declared.front.End.TheVariants.{Closed}
use Rattle.hse_fields.specs.LogText.{Entry}
use Rattle.hse_fields.specs.LogReading.{Follow}
use Rattle.wal.specs.Charges.{charges}
use Rattle.wal.specs.Logged.{entry_of, entries_of}
use Rattle.wal.specs.Numbered.{AreNumbered, AreSmall, IsRun}
use Rattle.wal.specs.Numbering.{Numbers, last_number, numbering}
use Rattle.wal.specs.laws.Numbering.{all_charges, all_small, next_small, counted, follow_run}
use Rattle.wal.specs.Replaying.{segment_of, starting}
use Rattle.wal.specs.Sound.{IsSound}
use Rattle.wal.specs.laws.Batches.{batches_follow, closed_read}
use Rattle.wal.specs.declared.commit.Commit.{Commit}
use Rattle.wal.specs.declared.segment.Segment.{Segment}
use Rattle.wal.specs.declared.live.StorePrefix.{StorePrefix}

abbrev pub numbers_from : ℕ → List ℕ → ℕ → Numbers
numbers_from first taken room = record { next = first; taken = taken; room = room }

small_commits : (cs : List Commit) → AreSmall (entries_of cs) → AllByRecursion (λ (c : Commit). c.number ≤ last_number) cs
small_commits [] small = tt
small_commits (c ∷ cs) small = (small.0, small_commits cs small.1)

pub record Counts (first room : ℕ) (taken : List ℕ) (commits : List Commit) (last : Numbers) : Type 0 where
  pub charged : charges (entries_of commits) + last.room ≡ room
  pub counted : 44 * length commits ≤ charges (entries_of commits)
  pub numbers : All (λ (c : Commit). c.number ≤ last_number) commits
  pub small : last.next ≤ last_number + 1
  pub numbered : taken ≡ [] → AreNumbered first (entries_of commits)
  pub consecutive : taken ≡ [] → last.next ≡ first + length commits

run_of : (live : List StorePrefix) (first room : ℕ) (taken : List ℕ) (commits : List Commit) (last : Numbers)
    → Follow (numbering live) (numbers_from first taken room) (entries_of commits) last → taken ≡ [] → IsRun first room (entries_of commits) last
run_of live first room taken commits last follow none =
    follow_run live first room (entries_of commits) last
    (subst (λ (t : List ℕ). Follow (numbering live) (numbers_from first t room) (entries_of commits) last) none follow)

pub counts : (live : List StorePrefix) (first room : ℕ) (taken : List ℕ) (commits : List Commit) (last : Numbers) → first ≤ last_number + 1
    → Follow (numbering live) (numbers_from first taken room) (entries_of commits) last → Counts first room taken commits last
counts live first room taken commits last le follow =
    let start = numbers_from first taken room in
    let many : length (entries_of commits) ≡ length commits = length-map commits entry_of in
    record {
      charged = all_charges live start last (entries_of commits) follow;
      counted = omega (arith, many, counted (entries_of commits));
      numbers = All-from_recursion (λ (c : Commit). c.number ≤ last_number) commits (small_commits commits (all_small live start last (entries_of commits) follow));
      small = next_small live start last (entries_of commits) le follow;
      numbered = λ none. (run_of live first room taken commits last follow none).numbered;
      consecutive = λ none. ap (λ (n : Numbers). n.next) (run_of live first room taken commits last follow none).last_is ∙ ap (λ (n : ℕ). first + n) many;
    }

-- A segment whose commits are what was read, and which ends as they do, is sound.
pub sound_of : (size first most : ℕ) (taken : List ℕ) (live : List StorePrefix) (front : Front) (segment : Segment) (last : Numbers)
    → LiesInside size (payloads_of front.batches.items) front.end → first ≤ last_number + 1
    → segment_of live most (starting first taken size) (payloads_of front.batches.items) front.end ≡ Ok (entries_of segment.commits.items, last)
    → segment.sequence ≡ front.sequence → front.end ≡ Closed segment.tail → segment.charges ≡ charges (entries_of segment.commits.items)
    → segment.next ≡ last.next → segment.tail.place ≤ 9 + segment.charges → IsSound size first taken live front segment
sound_of size first most taken live front segment last inside le read sequence closed charged next placed =
    let start : Numbers = starting first taken size in
    let x : List Entry × Numbers = (entries_of segment.commits.items, last) in
    let follow = batches_follow live most start 9 (payloads_of front.batches.items) x (closed_read live most start (payloads_of front.batches.items) front.end x read) in
    let k = counts live first (size - 64) taken segment.commits.items last le follow in
    let here = subst (LiesInside size (payloads_of front.batches.items)) closed inside in
    record {
      sequence = sequence;
      closed = closed;
      behind = here.0;
      inside = here.1;
      charged = charged;
      fits = omega (arith, k.charged, charged);
      counted = omega (arith, k.counted, charged);
      placed = placed;
      numbers = k.numbers;
      small = omega (arith, k.small, next);
      numbered = k.numbered;
      consecutive = λ none. next ∙ k.consecutive none;
      last = last;
      follows = follow;
      next_is = next;
    }
