use Rattle.std.proofs.Common.{◌≡◌, ◌∙◌, ◌+◌, ◌-◌, ◌++◌, ◌∷◌, [], sym, ap, subst, map, ℕ, List, Option, Ok}
use Rattle.std.proofs.lemmas.Result.{err_from_is_err_and}
use Rattle.std.proofs.lemmas.List.{map_push}
use Rattle.hse_fields.specs.BlockText.{PrefixEntry}
use Rattle.hse_fields.specs.BlockReading.{prefix_of, prefixes_of}
use Rattle.prefix_delete.specs.declared.entry.Entry.{Entry}
use Rattle.prefix_delete.specs.Blocks.{in_block, last_prefix}
use Rattle.prefix_delete.specs.Read.{Fails}
use Rattle.hse_fields.specs.BlockGiven.{lent}
use Rattle.prefix_delete.proofs.ReadingLoop.{goes_on, stops, is_done, last_pushed, with_beginning}
use Rattle.prefix_delete.proofs.reading.entries.Goals as goal

pub returns-in_err-next : goal.returns-in_err-next
returns-in_err-next c =
    let p = err_from_is_err_and c.from_residual.result c.from_residual.ensures.1 in
    let last = last_prefix (lent c.args.last) c.loop.entries.items in
    let before : lent c.last_of.result ≡ last = c.last_of.ensures ∙ ap (last_prefix (lent c.args.last)) c.deref.ensures.value in
    let refused = subst (λ (o : Option (List ℕ)). Fails c.in_err-next.field-0.0 (prefix_of o c.loop.rest.now)) before c.in_err-next.ensures in
    rw (p.1, p.2) (stops last (map in_block c.loop.entries.items) c.args.count c.loop.counter c.loop.rest.now (prefixes_of (lent c.args.last) c.args.count c.args.bytes.now) c.in_err-next.field-0.0 c.loop-test.true refused c.loop.invariant)

pub loop-preserved : goal.loop-preserved
loop-preserved c =
    let entry = c.in_ok-next.next in
    let old = c.loop.entries.items in
    let last = last_prefix (lent c.args.last) old in
    let first : PrefixEntry × List ℕ = (in_block entry, c.in_ok-next.behind.now) in
    let before : lent c.last_of.result ≡ last = c.last_of.ensures ∙ ap (last_prefix (lent c.args.last)) c.deref.ensures.value in
    let read = subst (λ (o : Option (List ℕ)). prefix_of o c.loop.rest.now ≡ Ok first) before c.in_ok-next.ensures in
    let total = prefixes_of (lent c.args.last) c.args.count c.args.bytes.now in
    let on = goes_on last (map in_block old) c.args.count c.loop.counter c.loop.rest.now total first c.loop-test.true read c.loop.invariant in
    let pushed : c.push.new.self.items ≡ old ++ entry ∷ [] = c.in_ok-push.ensures.items in
    let left = c.args.count - (c.loop.counter + 1) in
    let whole : with_beginning (map in_block (old ++ entry ∷ [])) (prefixes_of (last_prefix (lent c.args.last) (old ++ entry ∷ [])) left c.in_ok-next.behind.now) ≡ total =
    ap (λ (p : List PrefixEntry × Option (List ℕ)). with_beginning p.0 (prefixes_of p.1 left c.in_ok-next.behind.now))
    (ap (λ (l : List PrefixEntry). (l, last_prefix (lent c.args.last) (old ++ entry ∷ []))) (map_push in_block old entry)
    ∙ ap (λ (o : Option (List ℕ)). (map in_block old ++ in_block entry ∷ [], o)) (last_pushed (lent c.args.last) old entry))
    ∙ on in
    subst (λ (l : List Entry). with_beginning (map in_block l) (prefixes_of (last_prefix (lent c.args.last) l) left c.in_ok-next.behind.now) ≡ total) (sym pushed) whole

pub returns : goal.returns
returns c =
    is_done (last_prefix (lent c.args.last) c.loop.entries.items) (map in_block c.loop.entries.items) c.args.count c.loop.counter c.loop.rest.now (prefixes_of (lent c.args.last) c.args.count c.args.bytes.now) c.loop-test.false c.loop.invariant
