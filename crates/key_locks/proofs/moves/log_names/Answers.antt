use Rattle.std.proofs.Common.{◌≡◌, ◌∷◌, [], ◌++◌, ◌||◌, true, refl, ap, sym, subst, ◌∙◌, arith, append_assoc, length}
use Rattle.key_locks.specs.Held.{has}
use Rattle.key_locks.specs.Logged.{entries_of}
use Rattle.key_locks.proofs.NameLemmas.{name-self}
use Rattle.key_locks.proofs.StepLemmas.{freed-step, logged-step, locked-step, some-locked}
use Rattle.key_locks.proofs.moves.log_names.Goals as goal

pub loop-name-init : goal.loop-name-init
loop-name-init c =
    let same = c.into_iter-rest.ensures.rest ∙ c.into_names.ensures in
    record {
      room = (let size = ap length same in let room = c.requires.room in omega (arith, size, room));
      same_room = refl;
      logged = refl;
      locked = λ q at. some-locked c.args.table.now q c.args.number (c.requires.locked q (subst (λ l. has l q ≡ true) same at));
      newest = λ q. refl;
      holder = λ q. refl;
    }

pub loop-name-preserved : goal.loop-name-preserved
loop-name-preserved c =
    let is = c.in-Some.ensures.items in
    let old = c.loop-name.table in
    let new = c.log_name.new.table in
    let number = c.args.number in
    let rest = entries_of number c.next.new.self.rest.items in
    record {
      room = (let size = ap length is in let room = c.loop-name.invariant.room in let more = c.push_back_reserved.ensures.len in let most = c.push_back_reserved.ensures.capacity in omega (arith, size, room, more, most));
      same_room = c.push_back_reserved.ensures.capacity ∙ c.loop-name.invariant.same_room;
      logged = ap (λ l. l ++ rest) c.push_back_reserved.ensures.items ∙ append_assoc c.loop-name.logged.items (record { number = number; name = c.in-Some.name } ∷ []) rest
          ∙ ap (λ l. c.loop-name.logged.items ++ entries_of number l) (sym is) ∙ c.loop-name.invariant.logged;
      locked = λ q. locked-step old new c.in-Some.name c.loop-name.rest.rest.items c.next.new.self.rest.items is q number (c.log_name.ensures.newest q) (c.log_name.ensures.holder q) (c.loop-name.invariant.locked q);
      newest = λ q. logged-step old new c.in-Some.name c.loop-name.rest.rest.items c.next.new.self.rest.items is q number (c.log_name.ensures.newest q) ∙ c.loop-name.invariant.newest q;
      holder = λ q. freed-step old new c.in-Some.name c.loop-name.rest.rest.items c.next.new.self.rest.items is q (c.log_name.ensures.holder q) ∙ c.loop-name.invariant.holder q;
    }

pub log_name-requires : goal.log_name-requires
log_name-requires c =
    let name = c.in-Some.name in
    c.loop-name.invariant.locked name (ap (λ l. has l name) c.in-Some.ensures.items ∙ ap (λ b. b || has c.next.new.self.rest.items name) (name-self name))
