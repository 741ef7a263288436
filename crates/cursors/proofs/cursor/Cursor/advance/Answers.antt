use Rattle.std.proofs.Common.{◌≡◌, List, None, sym, ap, ◌∙◌, subst}
use Rattle.hse_rows.specs.declared.row.Row.{Row}
use Rattle.hse_rows.specs.rows.Meaning.{contents_of}
use Rattle.hse_rows.specs.script.Cursor.{CursorState, Pair, past_key, read_by}
use Rattle.row_laws.specs.Sources.{all_rows}
use Rattle.cursors.specs.Cursors.{CursorKept, IsPairAt, meant, with_position}
use Rattle.cursors.specs.Pairs.{IsAhead, IsNextPair}
use Rattle.cursors.proofs.cursor.Cursor.advance.Goals as goal

pub invariant_of-self : goal.invariant_of-self
invariant_of-self g c =
    let next = subst (IsNextPair _ c.self.inside.merged) c.in-Some.is c.self.invariant in
    let stands : past_key next.pair.0 ≡ c.set.new.self =
    ap (λ (p : Pair). past_key p.0) (sym (c.pair_in.ensures.pair next.pair next.there)) ∙ sym c.set.ensures in
    let sources = sym c.next_pair-self-inside.ensures.sources in
    c.next_pair-self-inside.ensures.pair _ (sym c.asked-asked.ensures.direction) (sym c.asked-asked.ensures.filter) (sym c.key.ensures ∙ sym c.asked-asked.ensures.last)
    (subst (λ (cursor : CursorState). IsAhead cursor c.self.inside.merged)
    (λ i. record {
      owner = None;
      store = c.self.inside.store.0;
      direction = c.self.inside.scope.direction;
      prefix = c.self.inside.scope.prefix;
      contents = contents_of (all_rows (sources i));
      position = stands i;
      last = c.self.inside.last;
    }) next.ahead)

pub returns : goal.returns
returns g c =
    let next = subst (IsNextPair _ c.self.inside.merged) c.in-Some.is c.self.invariant in
    let stands : past_key next.pair.0 ≡ c.set.new.self =
    ap (λ (p : Pair). past_key p.0) (sym (c.pair_in.ensures.pair next.pair next.there)) ∙ sym c.set.ensures in
    let sources = sym c.next_pair-self-inside.ensures.sources in
    record {
      pair = next.pair;
      there = subst (λ (s : List (List Row)). IsPairAt s c.in-Some.source c.in-Some.at next.pair) sources next.there;
      reads = ap (λ (k : CursorKept). read_by (meant k)) (sym c.self.view_is) ∙ next.reads;
      new_is =
          (λ i. record {
            store = c.self.inside.store.0;
            direction = c.self.inside.scope.direction;
            prefix = c.self.inside.scope.prefix;
            sources = sym sources i;
            position = sym stands i;
            last = c.self.inside.last;
          })
          ∙ ap (λ (k : CursorKept). with_position k (past_key next.pair.0) k.last) c.self.view_is;
    }
