use Rattle.std.proofs.Common.{◌≡◌, ◌∙◌, ◌+◌, ℕ, List, Some, None, ap, sym, subst, length, arith}
use Rattle.std.proofs.lemmas.Result.{err_from_is_err_and}
use Rattle.gate_log.specs.Places.{need_of}
use Rattle.manifest.specs.Half.{placed}
use Rattle.manifest.specs.Loading.{Refuses}
use Rattle.manifest.specs.Metadata.{Metadata}
use Rattle.manifest.specs.Reading.{payload_of}
use Rattle.manifest.specs.Views.{metadata_as}
use Rattle.manifest.proofs.BatchLemmas.{parts, goes_on, stops, sums, no_batch}
use Rattle.manifest.proofs.batches.base_of_batches.Goals as goal

pub returns-in_default : goal.returns-in_default
returns-in_default c = no_batch c.args.most None 9 c.args.batches.now c.in_default.len_below

pub returns-in_err-base : goal.returns-in_err-base
returns-in_err-base c =
    let p = err_from_is_err_and c.from_residual.result c.from_residual.ensures.1 in
    let first = c.first-item.result in
    let are = parts c.args.batches.now first c.in-len1-up.len_at_least c.first-item.is in
    let ends : 14 + c.len.result ≡ 9 + need_of first.bytes.items = omega (arith, c.len.ensures, c.deref.ensures.len, ap length c.deref.ensures.value) in
    let refused = subst (λ (l : List ℕ). Refuses {Y = Metadata} c.args.half c.in_err-base.field-0.0 (placed (14 + c.len.result) (payload_of c.args.most None l)))
    c.deref.ensures.value c.in_err-base.ensures in
    rw (p.1, p.2) (stops c.args.most None 9 (14 + c.len.result) c.args.batches.now first _ are ends c.args.half c.in_err-base.field-0.0 refused)

pub loop-rest-init : goal.loop-rest-init
loop-rest-init c =
    let first = c.first-item.result in
    let are = parts c.args.batches.now first c.in-len1-up.len_at_least c.first-item.is in
    let ends : 14 + c.len.result ≡ 9 + need_of first.bytes.items = omega (arith, c.len.ensures, c.deref.ensures.len, ap length c.deref.ensures.value) in
    let read = rw c.deref.ensures.value at c.in_ok-base.ensures in
    record {
      fits = omega (arith, sums c.args.most None 9 (14 + c.len.result) c.args.batches.now first _ are ends, c.requires);
      read = goes_on c.args.most None 9 (14 + c.len.result) c.args.batches.now first _ are ends (metadata_as c.in_ok-base.base) read;
    }

pub returns-in_err-next_batch : goal.returns-in_err-next_batch
returns-in_err-next_batch c =
    let p = err_from_is_err_and c.from_residual-in_err-next_batch.result c.from_residual-in_err-next_batch.ensures.1 in
    let batch = c.batch-item.result in
    let end = c.loop-rest.gate + (5 + c.len-in-len1-up-rest.result) in
    let are = parts c.loop-rest.rest.now batch c.in-len1-up-rest.len_at_least c.batch-item.is in
    let ends : c.loop-rest.gate + (5 + c.len-in-len1-up-rest.result) ≡ c.loop-rest.gate + need_of batch.bytes.items =
    omega (arith, c.len-in-len1-up-rest.ensures, c.deref-in-len1-up-rest.ensures.len, ap length c.deref-in-len1-up-rest.ensures.value) in
    let refused = subst (λ (l : List ℕ). Refuses {Y = Metadata} c.args.half c.in_err-next_batch.field-0.0 (placed end (payload_of c.args.most (Some (metadata_as c.loop-rest.base)) l)))
    c.deref-in-len1-up-rest.ensures.value c.in_err-next_batch.ensures in
    rw (p.1, p.2, ← c.loop-rest.invariant.read) (stops c.args.most (Some (metadata_as c.loop-rest.base)) c.loop-rest.gate end c.loop-rest.rest.now batch _ are ends c.args.half c.in_err-next_batch.field-0.0 refused)

pub loop-rest-preserved : goal.loop-rest-preserved
loop-rest-preserved c =
    let batch = c.batch-item.result in
    let end = c.loop-rest.gate + (5 + c.len-in-len1-up-rest.result) in
    let are = parts c.loop-rest.rest.now batch c.in-len1-up-rest.len_at_least c.batch-item.is in
    let ends : c.loop-rest.gate + (5 + c.len-in-len1-up-rest.result) ≡ c.loop-rest.gate + need_of batch.bytes.items =
    omega (arith, c.len-in-len1-up-rest.ensures, c.deref-in-len1-up-rest.ensures.len, ap length c.deref-in-len1-up-rest.ensures.value) in
    let read = rw c.deref-in-len1-up-rest.ensures.value at c.in_ok-next_batch.ensures in
    record {
      fits = omega (arith, sums c.args.most (Some (metadata_as c.loop-rest.base)) c.loop-rest.gate end c.loop-rest.rest.now batch _ are ends, c.loop-rest.invariant.fits);
      read = goes_on c.args.most (Some (metadata_as c.loop-rest.base)) c.loop-rest.gate end c.loop-rest.rest.now batch _ are ends _ read ∙ c.loop-rest.invariant.read;
    }

pub returns : goal.returns
returns c =
    sym c.loop-rest.invariant.read ∙ no_batch c.args.most (Some (metadata_as c.loop-rest.base)) c.loop-rest.gate c.loop-rest.rest.now c.in_default-rest.len_below
