use Rattle.std.proofs.Common.{ap, ◌∙◌, ◌++◌, List, ℕ}
use Rattle.std.proofs.lemmas.List.{append-nil}
use Rattle.std.proofs.lemmas.Result.{on_ok_weaker}
use Rattle.hse_shell.proofs.EntryLemmas.{put_spelled}
use Rattle.hse_shell.proofs.entry.push_put.Goals as goal

pub returns-clause-written : goal.returns-clause-written
returns-clause-written c = on_ok_weaker c.put_pieces.result
    (λ written. written ∙ ap (λ (l : List ℕ). c.args.into.now.items ++ l) (put_spelled c.args.number c.args.key.now c.args.value.now))
    (simp (c.to_be_bytes.ensures, c.to_be_bytes-2.ensures, c.to_be_bytes-3.ensures, c.to_be_bytes-4.ensures, c.to_be_bytes-5.ensures, append-nil) at c.put_pieces.ensures.written)
