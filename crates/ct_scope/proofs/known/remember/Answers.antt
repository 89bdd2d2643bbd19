use Rattle.ct_scope.proofs.KnownLemmas.{remembered-only, remembered-known, remembered-others}
use Rattle.ct_scope.proofs.known.remember.Goals as goal

pub returns-clause-only : goal.returns-clause-only
returns-clause-only c = remembered-only c.args.known.now c.insert.new.self c.args.call c.args.term c.in_ok-insert.ensures.updates.0

pub returns-clause-recorded : goal.returns-clause-recorded
returns-clause-recorded c = remembered-known c.args.known.now c.insert.new.self c.args.call c.args.term c.in_ok-insert.ensures.updates.0

pub returns-clause-others : goal.returns-clause-others
returns-clause-others c = remembered-others c.args.known.now c.insert.new.self c.args.call c.args.term c.in_ok-insert.ensures.updates.0
