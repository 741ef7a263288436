use Rattle.std.proofs.Common.{◌≡◌, ◌∙◌, ◌+◌, ◌-◌, ◌≤◌, List, ℕ, [], None, length, take, drop, sym, ap, subst, arith}
use Rattle.hse_fields.specs.BlockText.{page_size}
use Rattle.hse_fields.specs.BlockReading.{count_in, keys_of, pages_of}
use Rattle.hse_fields.specs.laws.Fields.{IsBytes, IsBytes-drop, IsBytes-take}
use Rattle.kblock.specs.Searching.{IsRead}
use Rattle.kblock.proofs.WalkLemmas.{Turns, turns, behind, ended}
use Rattle.kblock.proofs.walk.turned.Goals as goal
use Rattle.kblock.proofs.walk.turned.Goals.{then-spot-gt0-via-then-spot-gt0, then-spot-gt0-via-else-spot-gt0+then-spot-eq0}

nothing : (at left : ℕ) (keys : List ℕ) (count : ℕ) (pages : List ℕ) → left ≡ 0 → count ≡ 0 → behind at left keys count pages ≡ []
nothing at left keys count pages zero_left none =
    ap (λ (n : ℕ). behind at n keys count pages) zero_left ∙ ap (λ (n : ℕ). behind at 0 keys n pages) none ∙ ended at keys pages

pub returns-then-spot-gt0-clause-ended : goal.returns-then-spot-gt0-clause-ended
returns-then-spot-gt0-clause-ended c = λ none.
    let spot = c.args.spot in
    elim c.then-spot-gt0.branch [
      | then-spot-gt0-via-then-spot-gt0 w ↦ absurd (omega (arith, w.if-spot-gt0.true, none))
      | then-spot-gt0-via-else-spot-gt0+then-spot-eq0 w ↦ nothing spot.at spot.left spot.keys.now spot.count spot.pages.now none w.if-spot-eq0.true
    ]

turning : (c : goal.After-keys_in) → Turns c.args.spot.at c.args.spot.keys.now c.args.spot.count c.args.spot.pages.now
turning c =
    let spot = c.args.spot in
    turns spot.at spot.keys.now spot.count spot.pages.now (omega (arith, c.if-spot-eq0.false)) c.requires.room c.requires.pages

left_is : (c : goal.After-keys_in) → c.keys_in.result ≡ count_in (take page_size c.args.spot.pages.now)
left_is c = c.keys_in.ensures ∙ ap count_in c.split_at.ensures.front

keys_are : (c : goal.After-keys_in) → c.split_at-2.result.1.now ≡ drop 2 (take page_size c.args.spot.pages.now)
keys_are c = c.split_at-2.ensures.back ∙ ap (drop 2) c.split_at.ensures.front

pub returns-clause-same : goal.returns-clause-same
returns-clause-same c =
    let spot = c.args.spot in
    let at = spot.at + length spot.keys.now + 2 in
    let none : spot.left ≡ 0 = omega (arith, c.if-spot-gt0.false) in
    ap (λ (n : ℕ). behind at n c.split_at-2.result.1.now (spot.count - 1) c.split_at.result.1.now) (left_is c)
    ∙ ap (λ (l : List ℕ). behind at (count_in (take page_size spot.pages.now)) l (spot.count - 1) c.split_at.result.1.now) (keys_are c)
    ∙ ap (behind at (count_in (take page_size spot.pages.now)) (drop 2 (take page_size spot.pages.now)) (spot.count - 1)) c.split_at.ensures.back
    ∙ (turning c).same
    ∙ ap (λ (n : ℕ). behind spot.at n spot.keys.now spot.count spot.pages.now) (sym none)

pub returns-clause-is : goal.returns-clause-is
returns-clause-is c =
    let spot = c.args.spot in
    let page = take page_size spot.pages.now in
    let t = turning c in
    let at = spot.at + length spot.keys.now + 2 in
    let some : 1 ≤ spot.count = omega (arith, c.if-spot-eq0.false) in
    let long : length c.split_at-2.result.1.now ≡ length (drop 2 page) = ap length (keys_are c) in
    record {
      keys = subst (λ (n : ℕ). IsRead (keys_of None n c.split_at-2.result.1.now)) (sym (left_is c))
          (subst (λ (l : List ℕ). IsRead (keys_of None (count_in page) l)) (sym (keys_are c)) t.keys_read);
      pages = subst (λ (l : List ℕ). IsRead (pages_of (at + length c.split_at-2.result.1.now) None (spot.count - 1) l)) (sym c.split_at.ensures.back)
          (subst (λ (l : List ℕ). IsRead (pages_of (at + length l) None (spot.count - 1) (drop page_size spot.pages.now))) (sym (keys_are c)) t.pages_read);
      keys_fit = subst IsBytes (sym (keys_are c)) (IsBytes-drop 2 page (IsBytes-take page_size spot.pages.now c.requires.pages_fit));
      pages_fit = subst IsBytes (sym c.split_at.ensures.back) (IsBytes-drop page_size spot.pages.now c.requires.pages_fit);
      room = omega (arith, c.requires.room, c.split_at.ensures.back_len, some);
      small = omega (arith, c.requires.small, t.end_is, long, some);
    }

pub returns-clause-ended : goal.returns-clause-ended
returns-clause-ended c = λ none. absurd (omega (arith, none, left_is c, (turning c).some))
