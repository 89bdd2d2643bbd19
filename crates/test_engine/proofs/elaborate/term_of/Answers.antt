use Rattle.std.proofs.Common.{◌≡◌, List, [], map, All, IfOk, sym, ap, subst, ◌∙◌}
use Rattle.ct_sorts.specs.declared.ids.SortId.{SortId}
use Rattle.ct_sorts.specs.Declarations.{Declarations, IsSort}
use Rattle.ct_formulas.specs.Formula.{bind}
use Rattle.ct_formulas.specs.FormulaSorts.{IsSorted}
use Rattle.ct_formulas.specs.TreeFormula.{formula_of}
use Rattle.ct_names.specs.declared.variables.Param.{Param}
use Rattle.ct_scope.specs.declared.scope.Scope.{Scope}
use Rattle.test_engine.proofs.elaborate.term_of.Goals as goal

pub term_there-requires : goal.term_there-requires
term_there-requires c =
    let own : c.deref_mut.result.now.sig ≡ c.args.scope.now.sig = ap (λ (s : Scope). s.sig) c.deref_mut.ensures.value ∙ c.in_ok-own.ensures.same in
    record { inside = subst (λ (d : Declarations). All (λ (p : Param). IsSort d p.sort) c.args.params.now) (sym own) c.requires.inside }

pub returns : goal.returns
returns c =
    let own : c.deref_mut.result.now.sig ≡ c.args.scope.now.sig = ap (λ (s : Scope). s.sig) c.deref_mut.ensures.value ∙ c.in_ok-own.ensures.same in
    record { sorted = subst (λ (d : Declarations). IfOk c.term_there.result (λ found. IsSorted d (bind (map (λ (p : Param). p.sort) c.args.params.now) []) (formula_of found.0) found.1)) own c.term_there.ensures.sorted }
