use Rattle.std.proofs.Common.{subst}
use Rattle.ct_sorts.specs.Consistent.{IsConsistent}
use Rattle.ct_sorts.proofs.ConsistentLemmas.{AreDistinct-functions}
use Rattle.ct_sorts.proofs.signature.Signature.funs.Goals as goal

-- what holds of the declarations
consistent : (c : goal.After-len) → IsConsistent c.args.self.now
consistent c = subst IsConsistent c.self.view_is c.self.invariant.consistent

pub returns-clause-distinct : goal.returns-clause-distinct
returns-clause-distinct c = AreDistinct-functions c.args.self.now (consistent c)

pub returns-clause-available : goal.returns-clause-available
returns-clause-available c = (consistent c).available

pub returns-clause-over_sorts : goal.returns-clause-over_sorts
returns-clause-over_sorts c = (consistent c).over_sorts
