use Rattle.std.proofs.Common.{◌∙◌, ◌++◌, List, ℕ, ap}
use Rattle.std.proofs.lemmas.List.{append-nil}
use Rattle.std.proofs.lemmas.Result.{on_ok_weaker}
use Rattle.wal.proofs.TextLemmas.{put_spelled}
use Rattle.wal.proofs.encode.put_put.Goals as goal

pub returns-clause-written : goal.returns-clause-written
returns-clause-written c = on_ok_weaker c.put_pieces.result
    (λ written. written ∙ ap (λ (l : List ℕ). c.args.into.now.items ++ l) (put_spelled c.args.store.0 c.args.key.now c.args.value.now))
    (simp (c.to_be_bytes.ensures, c.to_be_bytes-2.ensures, c.to_be_bytes-3.ensures, append-nil) at c.put_pieces.ensures.written)
