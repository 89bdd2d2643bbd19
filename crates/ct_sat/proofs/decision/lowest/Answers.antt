use Rattle.std.proofs.Common.{not, get_or, All, Contains, subst, ap, ◌∙◌}
use Rattle.std.proofs.lemmas.List.{take_all}
use Rattle.std.proofs.lemmas.List.Elements.{All-more}
use Rattle.std.proofs.lemmas.Option.{slice_get-get_or}
use Rattle.ct_terms.specs.declared.ids.TermId.{TermId}
use Rattle.ct_sat.specs.Up.{IsAssigned}
use Rattle.ct_sat.proofs.SearchLemmas.{IsLowest-first, index_none, index_some}
use Rattle.ct_sat.proofs.decision.lowest.Goals as goal

abbrev default : TermId
default = record { 0 = 0 }

pub returns-then-is_none-clause-lowest : goal.returns-then-is_none-clause-lowest
returns-then-is_none-clause-lowest c =
    IsLowest-first c.args.variables.now c.args.trail.now.literals c.variables.cursor (get_or c.args.variables.now c.variables.cursor default) c.requires.increasing
    (slice_get-get_or c.args.variables.now c.variables.cursor default c.variables-test.true) c.variables.invariant
    (index_none c.args.trail.now.literals (get_or c.args.variables.now c.variables.cursor default) c.index.result c.index.ensures.found (c.is_none.ensures ∙ ap not c.if-is_none.true))

pub variables-preserved : goal.variables-preserved
variables-preserved c = All-more (IsAssigned (Contains c.args.trail.now.literals)) c.args.variables.now c.variables.cursor default c.variables-test.true c.variables.invariant
    (index_some c.args.trail.now.literals (get_or c.args.variables.now c.variables.cursor default) c.index.result c.index.ensures.found (c.is_none.ensures ∙ ap not c.if-is_none.false))

pub returns-clause-lowest : goal.returns-clause-lowest
returns-clause-lowest c = subst (All (IsAssigned (Contains c.args.trail.now.literals))) (take_all c.variables.cursor c.args.variables.now c.variables-test.false) c.variables.invariant
