use Rattle.std.proofs.Common.{subst}
use Rattle.ct_terms.specs.Terms.{Terms, AreOrdered, AreSingle}
use Rattle.ct_build.proofs.facts.facts.Goals as goal

pub returns-clause-ordered : goal.returns-clause-ordered
returns-clause-ordered c = subst (λ (table : Terms). AreOrdered table) c.table-table.ensures.value c.len-len.ensures.ordered

pub returns-clause-single : goal.returns-clause-single
returns-clause-single c = subst (λ (table : Terms). AreSingle table) c.table-table.ensures.value c.len-len.ensures.single
