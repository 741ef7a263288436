use Rattle.std.proofs.Common.{◌≡◌, length, vec_len}
use Rattle.media_disk.specs.Halves.{put_all, AllFit}
use Rattle.media_disk.proofs.tear.put_halves.Given as goal

abbrev pub invariant-loop-half : goal.invariant-loop-half
invariant-loop-half l = record {
  same : put_all l.rest.items l.bytes.items ≡ put_all l.initial.rest.items l.initial.bytes.items;
  fit : AllFit (length l.bytes.items) l.rest.items;
}

abbrev pub decreases-loop-half : goal.decreases-loop-half
decreases-loop-half l = vec_len l.rest
