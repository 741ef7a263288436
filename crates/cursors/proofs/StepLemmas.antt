-- What a row that a merge steps to is to a cursor.
use Rattle.std.proofs.Common.{◌≡◌, ℕ, Bool, true, false, true≢false, List, Option, Some, None, refl, sym, ap, ◌∙◌, subst}
use Rattle.std.specs.declared.cmp.Ordering.{Ordering}
use Rattle.std.specs.declared.cmp.Ordering.TheVariants.{Less, Equal, Greater}
use Rattle.std.specs.Ordering.{is_ge, is_gt}
use Rattle.std.specs.FinMap as fin_map
use Rattle.hse_rows.specs.declared.row.Row.{Row}
use Rattle.hse_rows.specs.declared.change.Change.{Change}
use Rattle.hse_rows.specs.rows.Newest.{is_put}
use Rattle.hse_rows.specs.declared.change.Change.TheVariants.{Put, Del, PDel}
use Rattle.hse_rows.specs.writes.Change.{target}
use Rattle.hse_rows.specs.writes.Reach.{leaves}
use Rattle.hse_rows.specs.rows.Meaning.{contents_of}
use Rattle.hse_rows.specs.script.Cursor.{CursorState, Pair, past_key, direction_cmp, is_reached, read_by}
use Rattle.row_laws.specs.Laws.{LastingRowsLeaveValues}
use Rattle.row_laws.specs.Next.{lasting_at, value_left}
use Rattle.row_laws.specs.Sources.{all_rows}
use Rattle.merge.specs.First.{IsFirstIn}
use Rattle.merge.specs.Steps.{GoesOn, IsRowAt}
use Rattle.merge.specs.Merge.{MergeState, IsNext, Goes}
use Rattle.cursors.specs.Pairs.{is_asked, IsAhead, IsNextAt, IsEnd}
use Rattle.sorted_lists.specs.laws.Orders.{turned}
use Rattle.cursors.proofs.OrderLemmas.{direction_order, key_same, reach-up}
use Rattle.cursors.proofs.ReadLemmas.{read-some, read-none}

-- a put is one of a pair
put-pair : (change : Change) → is_put change ≡ true → (pair : Pair) × (change ≡ Put pair.0 pair.1)
put-pair (Put key value) is = ((key, value), refl)
put-pair (Del key) is = absurd (true≢false (sym is))
put-pair (PDel prefix) is = absurd (true≢false (sym is))

no-value : (value : List ℕ) → None ≡ Some value → ⊥
no-value value is = cc

module _ (law : LastingRowsLeaveValues) (c : CursorState) (m : MergeState) (ahead : IsAhead c m) where
  held : (key : List ℕ) → fin_map.get c.contents key ≡ value_left (lasting_at (all_rows m.sources) key)
  held key = ap (λ contents. fin_map.get contents key) ahead.contents ∙ law (all_rows m.sources) key

  goes : GoesOn m.direction ahead.now m.sources m.places
  goes = subst (λ d. GoesOn d ahead.now m.sources m.places) (sym ahead.direction) ahead.goes

  first-in : (found : Option Row) → IsNext m found → IsFirstIn c.direction (lasting_at (all_rows m.sources)) (is_reached c.direction ahead.now) found
  first-in found next =
      subst (λ d. IsFirstIn d (lasting_at (all_rows m.sources)) (is_reached d ahead.now) found) ahead.direction (next.first ahead.now goes)

  -- a key that the cursor would give is reached from where the merge is
  from-now : (key value : List ℕ) → fin_map.get c.contents key ≡ Some value → is_asked c.prefix c.last key ≡ true
      → is_reached c.direction c.position key ≡ true → is_reached c.direction ahead.now key ≡ true
  from-now key value has asks reaches = ahead.left key value has asks ∙ reaches

  nothing : (key value : List ℕ) → fin_map.get c.contents key ≡ Some value → lasting_at (all_rows m.sources) key ≡ None → ⊥
  nothing key value has none = no-value value (sym (ap value_left none) ∙ sym (held key) ∙ has)

  pub reads-none : IsNext m None → read_by c ≡ None
  reads-none next =
      let first = first-in None next in
      read-none c (λ key value has asks reaches. nothing key value has (first key (from-now key value has asks reaches)))

  module _ (row : Row) (next : IsNext m (Some row)) where
    -- a key before the row's has no value
    before : (key value : List ℕ) → fin_map.get c.contents key ≡ Some value → is_reached c.direction ahead.now key ≡ true
        → direction_cmp c.direction key (target row.change) ≡ Less → ⊥
    before key value has reaches less = nothing key value has ((first-in (Some row) next).2 key reaches less)

    stands : lasting_at (all_rows m.sources) (target row.change) ≡ Some row
    stands = (first-in (Some row) next).1

    is-reached : is_reached c.direction ahead.now (target row.change) ≡ true
    is-reached = (first-in (Some row) next).0

    leaves-value : fin_map.get c.contents (target row.change) ≡ leaves row.change
    leaves-value = held (target row.change) ∙ ap value_left stands

    end-by : IsEnd c.direction c.prefix c.last (target row.change) → (key value : List ℕ) → fin_map.get c.contents key ≡ Some value
        → is_asked c.prefix c.last key ≡ true → is_reached c.direction ahead.now key ≡ true → (r : Ordering)
        → direction_cmp c.direction key (target row.change) ≡ r → ⊥
    end-by ends key value has asks reaches Less is = before key value has reaches is
    end-by ends key value has asks reaches Equal is = true≢false (sym asks ∙ ends key (ap is_ge is))
    end-by ends key value has asks reaches Greater is = true≢false (sym asks ∙ ends key (ap is_ge is))

    pub reads-end : IsEnd c.direction c.prefix c.last (target row.change) → read_by c ≡ None
    reads-end ends =
        read-none c
        (λ key value has asks reaches.
        end-by ends key value has asks (from-now key value has asks reaches) (direction_cmp c.direction key (target row.change)) refl)

    module _ (new : MergeState) (moves : Goes m (Some row) new) where
      contents-kept : c.contents ≡ contents_of (all_rows new.sources)
      contents-kept = ahead.contents ∙ ap (λ sources. contents_of (all_rows sources)) (sym moves.sources)

      behind : GoesOn c.direction (past_key (target row.change)) new.sources new.places
      behind =
          subst (λ d. GoesOn d (past_key (target row.change)) new.sources new.places) (moves.direction ∙ ahead.direction)
          (moves.goes ahead.now goes)

      goes-past : (source at : ℕ) → IsRowAt new.sources source at row → (pair : Pair) → row.change ≡ Put pair.0 pair.1
          → is_asked c.prefix c.last pair.0 ≡ true → IsNextAt c new source at
      goes-past source at there pair puts asks =
          let of_pair : target row.change ≡ pair.0 = ap target puts in
          let has : fin_map.get c.contents pair.0 ≡ Some pair.1 =
          ap (fin_map.get c.contents) (sym of_pair) ∙ leaves-value ∙ ap leaves puts in
          let reaches : is_reached c.direction ahead.now pair.0 ≡ true = ap (is_reached c.direction ahead.now) (sym of_pair) ∙ is-reached in
          record {
            pair = pair;
            there = record { row = row; there = there; puts = puts };
            reads =
                read-some c pair.0 pair.1 has asks (sym (ahead.left pair.0 pair.1 has asks) ∙ reaches)
                (λ other value got wants late less.
                before other value got (from-now other value got wants late)
                (ap (direction_cmp c.direction other) of_pair ∙ less));
            ahead = record {
              contents = contents-kept;
              direction = moves.direction ∙ ahead.direction;
              now = past_key pair.0;
              goes = subst (λ key. GoesOn c.direction (past_key key) new.sources new.places) of_pair behind;
              left = λ key value got wants. refl;
            };
          }

      pub goes-pair : (source at : ℕ) → IsRowAt new.sources source at row → is_put row.change ≡ true
          → is_asked c.prefix c.last (target row.change) ≡ true → IsNextAt c new source at
      goes-pair source at there puts asks =
          let parts = put-pair row.change puts in
          goes-past source at there parts.0 parts.1 (ap (is_asked c.prefix c.last) (sym (ap target parts.1)) ∙ asks)

      same-by : (key value : List ℕ) → fin_map.get c.contents key ≡ Some value → (is_asked c.prefix c.last (target row.change) ≡ true → leaves row.change ≡ None)
          → is_asked c.prefix c.last key ≡ true → (r : Ordering) → direction_cmp c.direction key (target row.change) ≡ r
          → is_reached c.direction (past_key (target row.change)) key ≡ is_reached c.direction ahead.now key
      same-by key value has gap asks Less is = ap is_gt is ∙ sym (not-reached key value has is (is_reached c.direction ahead.now key) refl)
        where
          not-reached : (key value : List ℕ) → fin_map.get c.contents key ≡ Some value → direction_cmp c.direction key (target row.change) ≡ Less
              → (b : Bool) → is_reached c.direction ahead.now key ≡ b → is_reached c.direction ahead.now key ≡ false
          not-reached key value has less false is = is
          not-reached key value has less true is = absurd (before key value has is less)
      same-by key value has gap asks Equal is =
          let same : key ≡ target row.change = key_same c.direction key (target row.change) is in
          absurd
          (no-value value
          (sym (gap (ap (is_asked c.prefix c.last) (sym same) ∙ asks)) ∙ sym leaves-value ∙ ap (fin_map.get c.contents) (sym same) ∙ has))
      same-by key value has gap asks Greater is =
          ap is_gt is
          ∙ sym (reach-up c.direction ahead.now (target row.change) key (turned (direction_order c.direction) key (target row.change) Greater is) is-reached)

      pub goes-over : (is_asked c.prefix c.last (target row.change) ≡ true → leaves row.change ≡ None) → IsAhead c new
      goes-over gap = record {
        contents = contents-kept;
        direction = moves.direction ∙ ahead.direction;
        now = past_key (target row.change);
        goes = behind;
        left = λ key value has asks.
            same-by key value has gap asks (direction_cmp c.direction key (target row.change)) refl ∙ ahead.left key value has asks;
      }
