-- Small cases of devices' sizes and of numbers in runs, worked by hand.
use Rattle.std.proofs.Common.{◌≡◌, ◌≤◌, [], ◌∷◌, refl, arith}
use Rattle.hse_rows.specs.machine.Sizes.{device_bytes, IsRegionSize, AreSizes, default_sizes}
use Rattle.hse_rows.specs.machine.TakenRuns.{runs_from, runs_of}

-- ---- sizes

the_default_device_has_84414464_bytes : device_bytes default_sizes ≡ 84414464
the_default_device_has_84414464_bytes = refl

a_small_device_has_5378048 :
    device_bytes (record { slot_size = 65536; slots = 64; half_size = 65536; segment_size = 262144; most_stores = 1 })
    ≡ 5378048
a_small_device_has_5378048 = refl

a_region_may_have_64_mebibytes : IsRegionSize 67108864
a_region_may_have_64_mebibytes = record { least = omega arith; most = omega arith; whole = refl }

the_default_sizes_may_be : AreSizes default_sizes 21
the_default_sizes_may_be = record {
  slot = refl;
  least_power = omega arith;
  most_power = omega arith;
  least_slots = omega arith;
  most_slots = omega arith;
  half = record { least = omega arith; most = omega arith; whole = refl };
  segment = record { least = omega arith; most = omega arith; whole = refl };
  least_stores = omega arith;
  stores = omega arith;
  device = omega arith;
}

a_device_of_4097_stores_may_not : ¬ AreSizes (record default_sizes { most_stores = 4097 }) 21
a_device_of_4097_stores_may_not are =
    let stores : 4097 ≤ 4096 = are.stores in
    absurd (omega (arith, stores))

one_that_has_no_store_may_not : ¬ AreSizes (record default_sizes { most_stores = 0 }) 21
one_that_has_no_store_may_not are =
    let stores : 1 ≤ 0 = are.least_stores in
    absurd (omega (arith, stores))

-- 512 slots of 2 mebibytes alone have 1,073,741,824 bytes
a_device_above_a_gibibyte_may_not : ¬ AreSizes (record default_sizes { slots = 512 }) 21
a_device_above_a_gibibyte_may_not are =
    let whole : 1091047424 ≤ 1073741824 = are.device in
    absurd (omega (arith, whole))

-- ---- runs

nothing_is_no_run : runs_of [] ≡ []
nothing_is_no_run = refl

numbers_that_follow_are_one_run : runs_of (3 ∷ 4 ∷ 5 ∷ []) ≡ record { first = 3; count = 3 } ∷ []
numbers_that_follow_are_one_run = refl

a_gap_ends_a_run :
    runs_of (1 ∷ 3 ∷ 4 ∷ 9 ∷ [])
    ≡ record { first = 1; count = 1 } ∷ record { first = 3; count = 2 } ∷ record { first = 9; count = 1 } ∷ []
a_gap_ends_a_run = refl

-- the number that follows begins another run where this one is as long as may be
a_longest_run_takes_no_more :
    runs_from 1 4294967295 (4294967296 ∷ [])
    ≡ record { first = 1; count = 4294967295 } ∷ record { first = 4294967296; count = 1 } ∷ []
a_longest_run_takes_no_more = refl

one_shorter_takes_one : runs_from 1 4294967294 (4294967295 ∷ []) ≡ record { first = 1; count = 4294967295 } ∷ []
one_shorter_takes_one = refl
