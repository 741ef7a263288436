-- What is asked of taken numbers beside what a device says of them.
use Rattle.std.specs.Prelude.{ℕ, ◌^◌, ◌<◌, ◌≤◌, List}
use Rattle.std.specs.List.{AllByRecursion}
use Rattle.hse_rows.specs.machine.TakenRuns.{NumberRun}
use Rattle.hse_rows.specs.writes.Lengths.{longest_prefix}
use Rattle.manifest.specs.Metadata.{LiveStore}

-- A run's count has four bytes. A list of numbers that are no bytes may say more.
abbrev pub AreCounted : List NumberRun → Type 0
AreCounted runs = AllByRecursion (λ (run : NumberRun). run.count < 2 ^ 32) runs

-- ids up to this number, and prefixes of at most 32 bytes
abbrev pub AreKnown : ℕ → List LiveStore → Type 0
AreKnown number stores =
    AllByRecursion (λ (store : LiveStore). (store.id ≤ number) × (store.prefix_length ≤ longest_prefix)) stores
