use Rattle.std.proofs.Common.{refl, sym, arith}
use Rattle.std.proofs.lemmas.Bool.{true≢false}
use Rattle.ct_stack.specs.Numbers.{too_many_levels}
use Rattle.ct_stack.specs.Refusal.{IsPushRefusal}
use Rattle.ct_stack.specs.Held.{level_in}
use Rattle.ct_stack.proofs.CauseLemmas.{at_code}
use Rattle.ct_stack.proofs.MarkLemmas.{push_refused, push_accepted}
use Rattle.ct_stack.proofs.stack.AssertionStack.push.Goals as goal

pub returns-then-not-has_room-clause-refused : goal.returns-then-not-has_room-clause-refused
returns-then-not-has_room-clause-refused c =
    let s = c.self.inside in
    at_code (IsPushRefusal c.args.self.now c.args.n) too_many_levels
    (push_refused (level_in s.scope s.asserts.items) s.levels.items c.args.self.now c.self.view_is c.args.n
    (λ room. true≢false (sym (c.if-not-has_room.ensures.room.1 (omega (arith, room, c.len.ensures, s.levels.ok.0))))))

pub returns-clause-accepted : goal.returns-clause-accepted
returns-clause-accepted c =
    let s = c.self.inside in
    let room = c.if-not-has_room.ensures.room.0 refl in
    push_accepted (level_in s.scope s.asserts.items) s.levels.items c.args.self.now c.self.view_is c.args.n (omega (arith, room, c.len.ensures, s.levels.ok.0))
