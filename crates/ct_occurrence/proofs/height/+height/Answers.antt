use Rattle.std.proofs.Common.{◌≡◌, ◌-◌, ◌≤◌, List, length, take, drop, refl, subst, arith}
use Rattle.ct_lemmas.proofs.Prefixes.{rest-item}
use Rattle.ct_formulas.specs.declared.tree.Tree.{Tree}
use Rattle.ct_formulas.specs.TreeFormula.{formula_of, formulas_of_trees}
use Rattle.ct_formulas.specs.Formula.{Cases, with_case}
use Rattle.ct_occurrence.specs.CaseFormula.{case_of, cases_of_trees}
use Rattle.ct_occurrence.proofs.Size.{sizes, case_sizes}
use Rattle.ct_occurrence.proofs.CaseLemmas.{cases_is}
use Rattle.ct_occurrence.proofs.MayLemmas.{heavier_plain}
use Rattle.ct_occurrence.proofs.SizeLemmas.{first_size, first_case_size}
use Rattle.ct_occurrence.proofs.height.+height.Goals as goal

pub height_of-highest-requires : goal.height_of-highest-requires
height_of-highest-requires t c =
    let heavy = heavier_plain (formula_of c.args.tree.now) (formulas_of_trees c.in-Some.trees.now) c.in-Some.ensures.plain c.in-Some.ensures.under in
    omega (arith, heavy, c.decreases)

pub highest-height_of-requires : goal.highest-height_of-requires
highest-height_of-requires t c =
    let all = formulas_of_trees c.args.trees.now in
    let loop = c.loop-rest in
    let others = take (length loop.rest.now - 1) (drop 1 loop.rest.now) in
    let split = subst (λ (xs : List Tree). sizes (formulas_of_trees xs) ≤ sizes all) (rest-item loop.rest.now c.tree-item.result c.in-len1-up.len_at_least c.tree-item.is) loop.invariant in
    let first = first_size (formula_of c.tree-item.result) (formulas_of_trees others) (sizes all) split in
    omega (arith, first.0, c.decreases)

pub highest-loop-rest-preserved : goal.highest-loop-rest-preserved
highest-loop-rest-preserved t c =
    let all = formulas_of_trees c.args.trees.now in
    let loop = c.loop-rest in
    let others = take (length loop.rest.now - 1) (drop 1 loop.rest.now) in
    let split = subst (λ (xs : List Tree). sizes (formulas_of_trees xs) ≤ sizes all) (rest-item loop.rest.now c.tree-item.result c.in-len1-up.len_at_least c.tree-item.is) loop.invariant in
    (first_size (formula_of c.tree-item.result) (formulas_of_trees others) (sizes all) split).1

pub highest_body-height_of-requires : goal.highest_body-height_of-requires
highest_body-height_of-requires t c =
    let all = cases_of_trees c.args.cases.now in
    let loop = c.loop-rest in
    let others = take (length loop.rest.now - 1) (drop 1 loop.rest.now) in
    let p = (case_of c.case-item.result).0 in
    let body = formula_of c.body_of.result.now in
    let whole : cases_of_trees loop.rest.now ≡ with_case p body (cases_of_trees others) = cases_is loop.rest.now others c.case-item.result p body (rest-item loop.rest.now c.case-item.result c.in-len1-up.len_at_least c.case-item.is) refl c.body_of.ensures.value in
    let first = first_case_size p body (cases_of_trees others) (case_sizes all) (subst (λ (cs : Cases). case_sizes cs ≤ case_sizes all) whole loop.invariant) in
    omega (arith, first.0, c.decreases)

pub highest_body-loop-rest-preserved : goal.highest_body-loop-rest-preserved
highest_body-loop-rest-preserved t c =
    let all = cases_of_trees c.args.cases.now in
    let loop = c.loop-rest in
    let others = take (length loop.rest.now - 1) (drop 1 loop.rest.now) in
    let p = (case_of c.case-item.result).0 in
    let body = formula_of c.body_of.result.now in
    let whole : cases_of_trees loop.rest.now ≡ with_case p body (cases_of_trees others) = cases_is loop.rest.now others c.case-item.result p body (rest-item loop.rest.now c.case-item.result c.in-len1-up.len_at_least c.case-item.is) refl c.body_of.ensures.value in
    (first_case_size p body (cases_of_trees others) (case_sizes all) (subst (λ (cs : Cases). case_sizes cs ≤ case_sizes all) whole loop.invariant)).1
