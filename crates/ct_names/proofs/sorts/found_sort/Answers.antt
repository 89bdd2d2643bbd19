use Rattle.ct_names.proofs.AddLemmas.{found_some, found_inside, found_none}
use Rattle.ct_names.proofs.sorts.found_sort.Goals as goal

pub returns-in-Ok-Some-clause-value : goal.returns-in-Ok-Some-clause-value
returns-in-Ok-Some-clause-value c = λ e is. found_some c.args.sig.now c.sorts.ensures.consistent c.args.written.now c.in-Ok-Some.field-0 c.in-Ok-Some.sort e c.in-Ok-Some.field-0-is c.in-Ok-Some.ensures.found is

pub returns-in-Ok-Some-clause-inside : goal.returns-in-Ok-Some-clause-inside
returns-in-Ok-Some-clause-inside c = found_inside c.args.sig.now c.sorts.ensures.consistent c.args.written.now c.in-Ok-Some.field-0 c.in-Ok-Some.sort c.in-Ok-Some.field-0-is c.in-Ok-Some.ensures.found

pub returns-in-Ok-None-clause-value : goal.returns-in-Ok-None-clause-value
returns-in-Ok-None-clause-value c = λ e is. (e, tt, found_none c.args.sig.now c.args.written.now c.in-Ok-None.field-0 e c.in-Ok-None.field-0-is c.in-Ok-None.ensures.none is)
