-- What the block gives of the line.
use Rattle.std.proofs.Common.{length}
use Rattle.std.specs.Io.Buffered.{reader_remaining, reader_buffer}
use Rattle.hse_io.proofs.BlockLemmas.{feed_reached, block_passed, one_line_grown, too_long_reached, reads_on_after_error}
use Rattle.hse_io.proofs.std_source.StdSource.step.Goals as goal

pub returns-in_default-clause-reads : goal.returns-in_default-clause-reads
returns-in_default-clause-reads g c =
    let told = reader_remaining g.R.Read.remaining in
    let filled = c.fill_buf.follows in
    rw (← c.self.view_is) (too_long_reached c.args.into.now c.in-Ok.block.now (told c.self.inside.reader) (told filled.lender-at-none)
    (length (reader_buffer filled.lender-at-none)) c.requires.one_line
    (record { starts = c.in-Ok.ensures.front; kept = filled.holds-at-none.0; within = rw c.in-Ok.is at filled.holds-at-none.1 })
    c.in_default.ensures.too_long)

pub returns-then-count-held-clause-reads : goal.returns-then-count-held-clause-reads
returns-then-count-held-clause-reads g c =
    let told = reader_remaining g.R.Read.remaining in
    let filled = c.fill_buf.follows in
    rw (← c.self.view_is) (feed_reached c.args.into.now c.in-Ok.block.now c.append_line.new.self (told c.self.inside.reader)
    (told filled.lender-at-none) (told c.consume.new.self) (length (reader_buffer filled.lender-at-none)) c.in-Some.count c.requires.one_line
    (record { starts = c.in-Ok.ensures.front; kept = filled.holds-at-none.0; within = rw c.in-Ok.is at filled.holds-at-none.1 })
    c.consume.ensures.bytes c.in-Some.ensures.count c.if-count-held.true c.in-Some.ensures.appended)

pub returns-clause-reads : goal.returns-clause-reads
returns-clause-reads g c =
    let told = reader_remaining g.R.Read.remaining in
    let filled = c.fill_buf.follows in
    rw (← c.self.view_is) (
      one_line_grown c.args.into.now c.in-Ok.block.now c.append_line.new.self c.in-Some.count c.requires.one_line
          c.in-Some.ensures.count c.if-count-held.false c.in-Some.ensures.appended,
      block_passed c.args.into.now c.in-Ok.block.now c.append_line.new.self (told c.self.inside.reader)
          (told filled.lender-at-none) (told c.consume-2.new.self) (length (reader_buffer filled.lender-at-none)) c.in-Some.count c.requires.one_line
          (record { starts = c.in-Ok.ensures.front; kept = filled.holds-at-none.0; within = rw c.in-Ok.is at filled.holds-at-none.1 })
          c.consume-2.ensures.bytes c.in-Some.ensures.count c.if-count-held.false c.in-Some.ensures.appended,
    )

pub returns-in-Err-clause-reads : goal.returns-in-Err-clause-reads
returns-in-Err-clause-reads g c =
    rw (← c.self.view_is) (reads_on_after_error _ _ c.after_error.result c.args.into.now (reader_remaining g.R.Read.remaining c.self.inside.reader)
    (reader_remaining g.R.Read.remaining c.fill_buf.follows.lender-at-none) c.after_error.new.self.told
    c.requires.one_line c.fill_buf.follows.holds-at-none.0 c.after_error.ensures.told c.after_error.ensures.retried)
