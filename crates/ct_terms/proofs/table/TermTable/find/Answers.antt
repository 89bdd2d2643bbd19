use Rattle.std.proofs.Common.{sym, ◌∙◌}
use Rattle.ct_terms.proofs.TableLemmas.{Has-position, IsAbsent-position}
use Rattle.ct_terms.proofs.table.TermTable.find.Goals as goal

pub returns-in-Some-clause-found : goal.returns-in-Some-clause-found
returns-in-Some-clause-found c =
    rw (← c.self.view_is) (Has-position c.self.inside.terms.entries c.args.core.now c.in-Some.index (sym c.get_index_of.ensures.index ∙ c.in-Some.is))

pub returns-in-None-clause-absent : goal.returns-in-None-clause-absent
returns-in-None-clause-absent c =
    rw (← c.self.view_is) (IsAbsent-position c.self.inside.terms.entries c.args.core.now (sym c.get_index_of.ensures.index ∙ c.in-None.is))
