use Rattle.std.proofs.Common.{sym, subst}
use Rattle.ct_names.specs.declared.needs.Needs.{Needs}
use Rattle.ct_names.specs.Answer.{StopsAt, as_it_is}
use Rattle.ct_names.specs.Needs.{as_they_are}
use Rattle.ct_names.specs.Sorts.{sort_there}
use Rattle.ct_names.proofs.sorts.sort_at.Goals as goal

pub returns-in-Add-clause-value : goal.returns-in-Add-clause-value
returns-in-Add-clause-value c = λ e is. subst (λ (needs : Needs). StopsAt needs c.added_at.new.sig as_it_is (sort_there c.added_at.new.sig e) c.added_at.result) (sym c.in-Add.is) (c.added_at.ensures.value e is)

pub returns-in-Find-clause-value : goal.returns-in-Find-clause-value
returns-in-Find-clause-value c = λ e is. subst (λ (needs : Needs). StopsAt needs c.args.sig.now as_it_is (sort_there c.args.sig.now e) c.found_at.result) (sym c.in-Find.is) (c.found_at.ensures.value e is)

pub returns-in-Find-clause-reaches : goal.returns-in-Find-clause-reaches
returns-in-Find-clause-reaches c = λ e is. as_they_are c.args.sig.now
