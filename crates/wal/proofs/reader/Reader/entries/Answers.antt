use Rattle.std.proofs.Common.{◌≡◌, ◌-◌, ◌++◌, ◌∷◌, [], arith}
use Rattle.std.proofs.lemmas.Result.{err_from_is_err_and}
use Rattle.hse_fields.specs.LogReading.{entries_of as entries_read}
use Rattle.wal.specs.Expected.{numbers_as}
use Rattle.wal.specs.Logged.{entry_of}
use Rattle.wal.specs.Numbering.{numbering}
use Rattle.wal.proofs.EntriesLoop.{begins, goes_on, stops, is_done, takes_none, takes_one}
use Rattle.wal.proofs.reader.Reader.entries.Goals as goal

pub loop-init : goal.loop-init
loop-init g c =
    let none : c.args.count - 0 ≡ c.args.count = omega arith in
    ([], rw none (begins _), takes_none (g.S.TakeCommits.took c.args.commits.now))

pub returns-in_err-commit : goal.returns-in_err-commit
returns-in_err-commit g c =
    let p = err_from_is_err_and c.from_residual.result c.from_residual.ensures.1 in
    let so_far = c.loop.invariant in
    rw (p.1, p.2) (stops c.in_err-commit.field-0.0 c.args.self.live.now c.args.self.most so_far.0 (numbers_as c.loop.expected) c.args.count c.loop.counter c.loop.rest.now (entries_read (numbering c.args.self.live.now) c.args.self.most (numbers_as c.args.self.expected) c.args.count c.args.self.bytes.now) c.loop-test.true c.in_err-commit.ensures so_far.1)

pub loop-preserved : goal.loop-preserved
loop-preserved g c =
    let commit = c.in_ok-commit.commit in
    let so_far = c.loop.invariant in (
      so_far.0 ++ entry_of commit ∷ [],
      goes_on c.args.self.live.now c.args.self.most so_far.0 (numbers_as c.loop.expected) c.args.count c.loop.counter c.loop.rest.now (entry_of commit) (numbers_as c.in_ok-commit.after) c.in_ok-commit.behind.now (entries_read (numbering c.args.self.live.now) c.args.self.most (numbers_as c.args.self.expected) c.args.count c.args.self.bytes.now) c.loop-test.true c.in_ok-commit.ensures so_far.1,
      takes_one (g.S.TakeCommits.took c.args.commits.now) (g.S.TakeCommits.took c.loop.commits) (g.S.TakeCommits.took c.take.new.self) so_far.0 (entry_of commit) so_far.2
          (λ before here. c.in_ok-take.ensures before here),
    )

pub returns : goal.returns
returns g c =
    let so_far = c.loop.invariant in (
      so_far.0,
      is_done c.args.self.live.now c.args.self.most so_far.0 (numbers_as c.loop.expected) c.args.count c.loop.counter c.loop.rest.now (entries_read (numbering c.args.self.live.now) c.args.self.most (numbers_as c.args.self.expected) c.args.count c.args.self.bytes.now) c.loop-test.false so_far.1,
      so_far.2,
    )
