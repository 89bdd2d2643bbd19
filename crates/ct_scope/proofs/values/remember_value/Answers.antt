use Rattle.ct_scope.proofs.ValueLemmas.{remembered}
use Rattle.ct_scope.proofs.values.remember_value.Goals as goal

pub returns-clause-only : goal.returns-clause-only
returns-clause-only c = remembered c.args.terms.now c.insert.new.self c.args.value c.args.term c.in_ok-insert.ensures.updates.0
