use Rattle.ct_names.specs.Needs.{as_they_are}
use Rattle.ct_check.proofs.arguments.finished.Goals as goal

pub returns-in-Call-clause-value : goal.returns-in-Call-clause-value
returns-in-Call-clause-value c = rw c.in-Call.is (c.called.ensures.value c.args.needs)

pub returns-in-Call-clause-reaches : goal.returns-in-Call-clause-reaches
returns-in-Call-clause-reaches c = as_they_are c.args.sig.now

pub returns-in-Part-clause-value : goal.returns-in-Part-clause-value
returns-in-Part-clause-value c = rw c.in-Part.is (c.part_of.ensures.value c.args.needs)

pub returns-in-Part-clause-reaches : goal.returns-in-Part-clause-reaches
returns-in-Part-clause-reaches c = as_they_are c.args.sig.now

pub returns-in-Equation-clause-value : goal.returns-in-Equation-clause-value
returns-in-Equation-clause-value c = rw c.in-Equation.is (c.equation.ensures.value c.args.needs c.args.sig.now)

pub returns-in-Equation-clause-reaches : goal.returns-in-Equation-clause-reaches
returns-in-Equation-clause-reaches c = as_they_are c.args.sig.now

pub returns-in-Choice-clause-value : goal.returns-in-Choice-clause-value
returns-in-Choice-clause-value c = rw c.in-Choice.is (c.choice.ensures.value c.args.needs c.args.sig.now)

pub returns-in-Choice-clause-reaches : goal.returns-in-Choice-clause-reaches
returns-in-Choice-clause-reaches c = as_they_are c.args.sig.now

pub returns-in-GenericCtor-clause-reaches : goal.returns-in-GenericCtor-clause-reaches
returns-in-GenericCtor-clause-reaches c = rw c.in-GenericCtor.is c.generic_ctor.ensures.reaches

pub returns-in-Let-clause-reaches : goal.returns-in-Let-clause-reaches
returns-in-Let-clause-reaches c = as_they_are c.args.sig.now
