-- What a log's commits leave in the store.
use Rattle.std.proofs.Common.{◌≡◌, ℕ, ◌+◌, ◌-◌, ◌<◌, List, length, drop, get_or, Some, Ok, sym, ap, subst, ◌∙◌, slice_index_or, arith}
use Rattle.std.specs.FinMap as map
use Rattle.std.proofs.lemmas.List.{at_drop_more, length-map}
use Rattle.gate_log.specs.laws.OneFront.{one_front}
use Rattle.gate_log.specs.Places.{region_of, tail_of}
use Rattle.gate_log.specs.Reading.{IsFront, payloads_of}
use Rattle.gate_log.specs.declared.front.End.{End}
use Rattle.gate_log.specs.declared.front.End.TheVariants.{Closed}
use Rattle.gate_log.specs.declared.front.Front.{Front}
use Rattle.hse_rows.specs.declared.write.Write.{Write}
use Rattle.wal.specs.Charges.{charges}
use Rattle.wal.specs.Logged.{logged, logged_all, entry_of, entries_of}
use Rattle.wal.specs.Replaying.{segment_of, IsSegment, IsRefused}
use Rattle.wal.specs.declared.commit.Commit.{Commit}
use Rattle.wal.specs.declared.segment.Segment.{Segment}
use Rattle.hse_shell.specs.Change.{Contents}
use Rattle.hse_shell.specs.Replayed.{IsReplayed}
use Rattle.hse_shell.specs.Stored.{device_size, log_region, IsLogSequence, live_stores, longest_value, first_numbers, closed_behind, changed, changed_all, replayed, IsRefusedAt, of_batches}

-- the changes from a place on are the one there and those behind it
pub changed_more : (rows : Contents) (writes : List Write) (place : ℕ) (w : Write) → place < length writes
    → ((d : Write) → slice_index_or writes place d ≡ w)
    → changed_all rows (logged_all (drop place writes)) ≡ changed_all (changed rows (logged w)) (logged_all (drop (place + 1) writes))
changed_more rows writes place w below at =
    at_drop_more (λ (ws : List Write). changed_all rows (logged_all ws)) writes place w below
    ∙ ap (λ (x : Write). changed_all (changed rows (logged x)) (logged_all (drop (place + 1) writes))) (at w)

-- the commits from a place on are the one there and those behind it
pub replayed_more : (rows : Contents) (commits : List Commit) (place : ℕ) (c : Commit) → place < length commits → c ≡ get_or commits place c
    → replayed rows (entries_of (drop place commits)) ≡ replayed (changed_all rows (logged_all c.writes)) (entries_of (drop (place + 1) commits))
replayed_more rows commits place c below at =
    at_drop_more (λ (cs : List Commit). replayed rows (entries_of cs)) commits place c below
    ∙ ap (λ (x : Commit). replayed (changed_all rows (logged_all x.writes)) (entries_of (drop (place + 1) commits))) (sym at)

-- ---- what a segment says

-- batches of the log that are refused
pub refused_batches : (image : List ℕ) (front : Front) (place : ℕ) → length image ≡ device_size → IsLogSequence front.sequence
    → IsFront (region_of log_region image) (Some front)
    → IsRefused (region_of log_region image) live_stores longest_value (first_numbers device_size) place → IsRefusedAt image place
refused_batches image front place as_long of_log is r =
    let same = one_front (region_of log_region image) front.sequence r.sequence (payloads_of front.batches.items) r.payloads front.end r.end is r.ends in
    of_batches r.sequence r.payloads r.end as_long r.ends (subst IsLogSequence same.0 of_log) r.refused

-- the segment of a log, as what the device stores
pub replay_of : (image : List ℕ) (front : Front) (segment : Segment) (rows : Contents) → length image ≡ device_size → IsLogSequence front.sequence
    → IsSegment (region_of log_region image) live_stores longest_value (first_numbers device_size) segment → segment.sequence ≡ front.sequence
    → segment.next ≡ 2 + length segment.commits.items → rows ≡ replayed map.empty (entries_of segment.commits.items)
    → IsReplayed image (record { rows = rows; number = segment.next - 1; charges = segment.charges; tail = segment.tail })
replay_of image front segment rows as_long of_log is sequence next replayed_are =
    let gate : segment.tail.place ≡ tail_of is.payloads = is.ends.1 in
    let closed : Closed segment.tail ≡ closed_behind is.payloads = λ i. Closed (record { place = gate i }) in
    let count : length (entries_of segment.commits.items) ≡ length segment.commits.items = length-map segment.commits.items entry_of in
    let contents : replayed map.empty (entries_of segment.commits.items) ≡ rows = sym replayed_are in
    let charged : charges (entries_of segment.commits.items) ≡ segment.charges = sym is.charges in
    let number : 1 + length (entries_of segment.commits.items) ≡ segment.next - 1 = omega (arith, count, next) in
    record {
      stores = record {
        entries = entries_of segment.commits.items;
        loads = record {
          as_long = as_long;
          sequence = segment.sequence;
          payloads = is.payloads;
          gated = is.ends.0;
          of_log = subst IsLogSequence (sym sequence) of_log;
          last = is.last;
          read = subst (λ (end : End). segment_of live_stores longest_value (first_numbers device_size) is.payloads end ≡ Ok (entries_of segment.commits.items, is.last)) closed is.read;
        };
        is = λ i. record { number = number i; contents = contents i; charges = charged i };
      };
      tail = gate;
    }
