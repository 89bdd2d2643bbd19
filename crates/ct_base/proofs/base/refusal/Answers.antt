use Rattle.std.proofs.Common.{All, sym, subst}
use Rattle.ct_terms.specs.Terms.{Terms, IsBoolean}
use Rattle.ct_closure.specs.ClosedTable.{AreSubtermsOf}
use Rattle.ct_base.proofs.base.refusal.Goals as goal

pub refusal_of-requires-clause-asserts : goal.refusal_of-requires-clause-asserts
refusal_of-requires-clause-asserts c = subst (λ (ts : Terms). All (IsBoolean ts) c.args.asserts.now) (sym c.in-Ok.ensures.ok) c.requires.asserts

pub refusal_of-requires-clause-exact : goal.refusal_of-requires-clause-exact
refusal_of-requires-clause-exact c = subst (λ (ts : Terms). AreSubtermsOf ts c.args.asserts.now) (sym c.in-Ok.ensures.ok) c.requires.exact
