use Rattle.std.proofs.Common.{◌≤◌, length, ap, sym, ◌∙◌, subst, arith, false, ◌+◌, take}
use Rattle.key_locks.specs.Seen.{seen_with, IsSeen}
use Rattle.key_locks.specs.Table.{lock_at}
use Rattle.key_locks.proofs.AboveLemmas.{IsMetUpTo, above-none, above-used, above-unused, above-all}
use Rattle.key_locks.proofs.search.seen_of.Goals as goal
use Rattle.key_locks.proofs.search.seen_of.Goals.{then-lengths-length+then-length-bytes+in_ok-key_of, else-lengths-length, else-lengths-length-via-then-lengths-length+else-length-bytes, else-lengths-length-via-else-lengths-length}

pub loop-length-init : goal.loop-length-init
loop-length-init c = above-none c.args.table.now c.args.txn c.args.lengths.now c.requires c.args.name.now c.own-seen.result c.own-seen.ensures

pub loop-length-preserved : goal.loop-length-preserved
loop-length-preserved c =
    let table = c.args.table.now in
    let txn = c.args.txn in
    let name = c.args.name.now in
    let n = c.loop-length.length in
    let next = IsSeen table txn (IsMetUpTo name (n + 1)) in
    let same = c.bytes-bytes.ensures.value in
    let stays = above-unused table txn c.args.lengths.now c.requires name n c.loop-length.seen in
    elim c.if-lengths-length.branch [
      | then-lengths-length+then-length-bytes+in_ok-key_of w ↦
          (let fits = subst (λ b. n ≤ length b) same w.if-length-bytes.true in
          let bytes = w.in_ok-key_of.ensures ∙ ap (take n) same in
          let lock = w.lock_of.ensures ∙ ap (λ b. lock_at table (record { store = name.store; bytes = b; is_key = false })) bytes in
          let seen = w.seen-is ∙ w.with-seen.ensures ∙ ap (seen_with txn c.loop-length.seen) lock in
          subst next (sym seen) (above-used table txn c.args.lengths.now c.requires name n c.loop-length.seen fits c.loop-length.invariant))
      | else-lengths-length w ↦
          (subst next (sym w.seen-is) (stays (elim w.else-lengths-length.branch [
            | else-lengths-length-via-then-lengths-length+else-length-bytes w' ↦
                (λ used fits. let less = w'.if-length-bytes.false in let long = subst (λ b. n ≤ length b) (sym same) fits in absurd (omega (arith, less, long)))
            | else-lengths-length-via-else-lengths-length w' ↦ (λ used fits. let not = sym used ∙ w'.if-lengths-length.false in absurd cc)
          ]) c.loop-length.invariant))
    ]

pub returns : goal.returns
returns c =
    let many = c.told-lengths in
    above-all c.args.table.now c.args.txn c.args.lengths.now c.requires c.args.name.now c.loop-length.length c.loop-length.seen
    (let most = c.loop-length-test.false in omega (arith, many, most)) c.loop-length.invariant
