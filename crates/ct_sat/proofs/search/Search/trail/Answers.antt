use Rattle.ct_lemmas.proofs.Each.{All-from_Contains}
use Rattle.ct_sat.specs.State.{IsSound, FollowsByUnits}
use Rattle.ct_sat.proofs.UpLemmas.{trail_follows}
use Rattle.ct_sat.proofs.SearchLemmas.{IsSound-from}
use Rattle.ct_sat.proofs.search.Search.trail.Goals as goal

pub returns-clause-sound : goal.returns-clause-sound
returns-clause-sound c = rw (← c.self.view_is) (IsSound-from c.self.inside.variables.items c.self.inside.clauses.items c.self.inside.trail c.self.inside.count c.self.inside.budget c.self.inside.propagated c.self.invariant.0 c.literals.ensures.whole.consistent c.literals.ensures.whole.decisions)

pub returns-clause-follows : goal.returns-clause-follows
returns-clause-follows c =
    let sound : IsSound c.args.self.now = rw (← c.self.view_is) (IsSound-from c.self.inside.variables.items c.self.inside.clauses.items c.self.inside.trail c.self.inside.count c.self.inside.budget c.self.inside.propagated c.self.invariant.0 c.literals.ensures.whole.consistent c.literals.ensures.whole.decisions) in
    All-from_Contains (FollowsByUnits c.args.self.now) c.args.self.now.trail (λ l h. trail_follows c.args.self.now l sound h)
