use Rattle.std.proofs.Common.{◌≡◌, ◌∙◌, ◌++◌, [], ℕ, length, ap, sym, arith}
use Rattle.std.proofs.lemmas.List.{length-map}
use Rattle.byteorder.specs.Endian.{big_bytes}
use Rattle.hse_fields.specs.LogText.{change_text}
use Rattle.hse_rows.specs.writes.Change.{change_of, write_of}
use Rattle.wal.specs.Logged.{logged, logged_all}
use Rattle.wal.proofs.TextLemmas.{begun-more, count_length, change_some, part_of}
use Rattle.wal.proofs.encode.put_numbered.Goals as goal

pub overflow_cast-count : goal.overflow_cast-count
overflow_cast-count c =
    let writes = c.args.writes.now in
    let count = count_length change_text (logged_all writes) change_some in
    record { fits = omega (arith, count, c.requires, c.len-count.ensures.count, length-map writes logged) }

pub loop-place-init : goal.loop-place-init
loop-place-init c =
    let writes = c.args.writes.now in
    let front = c.args.into.now.items in
    let number = big_bytes 8 c.args.number in
    let count : c.len-count.result ≡ length (logged_all writes) = c.len-count.ensures.count ∙ sym (length-map writes logged) in
    let spelled : c.put_pieces.new.into.items ≡ front ++ (number ++ (big_bytes 4 c.len-count.result ++ [])) =
    simp (c.to_be_bytes.ensures, c.to_be_bytes-2.ensures) at c.in_ok-put_pieces.ensures.written in
    record { written = spelled ∙ ap (λ (n : ℕ). front ++ (number ++ (big_bytes 4 n ++ []))) count; start = c.len-start.ensures ∙ c.args.into.now.ok.0 }

pub put_change-requires-clause-fits : goal.put_change-requires-clause-fits
put_change-requires-clause-fits c =
    let w = write_of c.at.result.0 (change_of c.at.result.1) in
    let lt = c.len-place-end.ensures.count in
    let part = part_of change_text logged c.args.writes.now c.loop-place.place w (omega (arith, lt, c.loop-place-test.true)) (c.at.ensures.write w) in
    omega (arith, part, c.requires)

pub loop-place-preserved : goal.loop-place-preserved
loop-place-preserved c =
    let w = write_of c.at.result.0 (change_of c.at.result.1) in
    let lt = c.len-place-end.ensures.count in
    let writes = c.args.writes.now in
    record {
      written = begun-more c.args.into.now.items c.args.number (logged_all writes) writes c.loop-place.place w
          c.loop-place.into.items c.put_change.new.into.items (omega (arith, lt, c.loop-place-test.true)) (c.at.ensures.write w)
          c.loop-place.invariant.written c.in_default.ensures.written;
      start = c.loop-place.invariant.start;
    }
