use Rattle.std.proofs.Common.{◌≡◌, ◌∙◌, List, [], map, Contains, subst, sym}
use Rattle.ct_sorts.specs.Declarations.{bool_sort}
use Rattle.ct_terms.specs.declared.ids.TermId.{TermId}
use Rattle.ct_terms.specs.Terms.{IsBoolean}
use Rattle.ct_terms.specs.CoreTree.{CoreTree, subtrees, term_at}
use Rattle.ct_terms.specs.CoreSorts.{HasTreeSort}
use Rattle.ct_formulas.specs.FormulaSorts.{IsSorted}
use Rattle.ct_formulas.specs.TreeFormula.{formula_of}
use Rattle.test_checking.specs.Asserted.{IsAsserted}
use Rattle.test_checking.proofs.AssertedLemmas.{same_sort, boolean_term, one_more_asserted}
use Rattle.test_checking.proofs.close.assert_formula.Goals as goal

pub returns-in-Ok : goal.returns-in-Ok
returns-in-Ok c =
    let same : c.in_ok-tree.sort ≡ bool_sort = same_sort c.in_ok-tree.sort bool_sort (sym c.ne.ensures ∙ c.if-ne.false) in
    let formula : IsSorted c.args.scope.now.sig [] (formula_of c.in_ok-tree.tree) bool_sort =
    subst (IsSorted c.args.scope.now.sig [] (formula_of c.in_ok-tree.tree)) same c.in_ok-tree.ensures.sorted
    in
    let tree : HasTreeSort c.args.scope.now.sig (term_at c.compile.new.table c.in-Ok.t) bool_sort =
    subst (λ (tree : CoreTree). HasTreeSort c.args.scope.now.sig tree bool_sort) (sym c.in-Ok.ensures.core.1)
    (c.formulas.ensures.sorted c.args.scope.now.sig (map formula_of c.args.scope.now.bodies) [] [] (formula_of c.in_ok-tree.tree) bool_sort c.sorts.ensures.consistent c.requires.sound tt formula)
    in
    let boolean : IsBoolean c.compile.new.table c.in-Ok.t =
    boolean_term c.core_trees.ensures.one_sort c.core_trees.ensures.sorted c.args.scope.now.sig c.compile.new.table c.in-Ok.t c.len.ensures.ordered c.in-Ok.ensures.sorted c.in-Ok.ensures.core.0 tree
    in
    record {
      after =
          subst (λ (asserts : List TermId). IsAsserted c.args.scope.now.sig c.compile.new.table asserts) (sym c.in_ok-push-in-Ok.ensures.items)
          (one_more_asserted c.core_trees.ensures.longer c.core_trees.ensures.subterms c.args.scope.now.sig c.args.table.now c.compile.new.table c.args.asserts.now.items c.in-Ok.t c.requires.before c.in-Ok.ensures.grown c.in-Ok.ensures.sorted c.len.ensures.ordered boolean
          (λ u from within. subst (λ (tree : CoreTree). Contains (subtrees tree) (term_at c.compile.new.table u)) (sym c.in-Ok.ensures.core.1) (c.in-Ok.ensures.nothing_else u from within)));
    }
