use Rattle.std.proofs.Common.{◌≡◌, ◌-◌, List, length, take, drop, OnOk, refl, sym, ap, ap₂, subst, ◌∙◌, arith}
use Rattle.ct_lemmas.proofs.Options.{OnOk-map}
use Rattle.ct_lemmas.proofs.Prefixes.{nothing_left, rest-item}
use Rattle.ct_formulas.specs.declared.tree.Tree.{Tree}
use Rattle.ct_formulas.specs.declared.tree.Case.{Case}
use Rattle.ct_formulas.specs.declared.tree.Pattern.{Pattern}
use Rattle.ct_formulas.specs.declared.tree.Tree.TheOpen.{Tree-F}
use Rattle.ct_formulas.specs.declared.tree.Tree.TheFolds.{fold-roll-Tree}
use Rattle.ct_formulas.specs.declared.tree.Tree.TheVariants.{rolls-Def, rolls-Let, rolls-Quantified, rolls-Match}
use Rattle.ct_formulas.specs.TreeFormula.{formula_of, formulas_of_trees, formula_layer, case_layer}
use Rattle.ct_formulas.specs.Formula.{Formula, Cases, Def, Let, Match, Quantified, with_case}
use Rattle.ct_occurrence.specs.Calls.{AddsNamed}
use Rattle.ct_occurrence.specs.CaseFormula.{case_of, cases_of_trees}
use Rattle.ct_occurrence.proofs.CaseLemmas.{cases_is}
use Rattle.ct_occurrence.proofs.MayLemmas.{heavier_plain}
use Rattle.ct_occurrence.proofs.NameLemmas.{NamesRest, names_next, names_lighter, names_end, CaseNamesRest, case_names_next, case_names_lighter, case_names_end, adds_plain, adds_choice, adds_call, adds_let, adds_match}
use Rattle.ct_occurrence.proofs.names.+names.Goals as goal

pub add_names-add_names_of_all-requires : goal.add_names-add_names_of_all-requires
add_names-add_names_of_all-requires t c =
    let heavy = heavier_plain (formula_of c.args.tree.now) (formulas_of_trees c.in-Some.trees.now) c.in-Some.ensures.plain c.in-Some.ensures.under in
    omega (arith, heavy, c.decreases)

pub add_names-returns-in-Some : goal.add_names-returns-in-Some
add_names-returns-in-Some t c =
    record { named = OnOk-map c.add_names_of_all.result _ _ (adds_plain (formula_of c.args.tree.now) (formulas_of_trees c.in-Some.trees.now) c.args.names.now.items c.add_names_of_all.new.names.items c.in-Some.ensures.plain c.in-Some.ensures.under) c.add_names_of_all.ensures.named }

pub add_names-returns-in-Def : goal.add_names-returns-in-Def
add_names-returns-in-Def t c =
    let is : formula_of c.args.tree.now ≡ Def c.in-Def.k (formulas_of_trees c.as_slice.result.now) = (ap formula_of (c.in-Def.is ∙ sym (rolls-Def c.in-Def.k c.in-Def.ts)) ∙ fold-roll-Tree Formula (Pattern × Formula) formula_layer case_layer (Tree-F.Def c.in-Def.k c.in-Def.ts)) ∙ ap (λ (us : List Tree). Def c.in-Def.k (formulas_of_trees us)) (sym c.as_slice.ensures.value) in
    record { named = subst (λ (f : Formula). OnOk c.add_names_of_call.result (AddsNamed f c.args.names.now.items c.add_names_of_call.new.names.items)) (sym is) c.add_names_of_call.ensures.named }

pub add_names-returns-in-Let : goal.add_names-returns-in-Let
add_names-returns-in-Let t c =
    let is : formula_of c.args.tree.now ≡ Let (formulas_of_trees c.as_slice-in-Let.result.now) (formula_of c.deref-in-Let.result.now) = (ap formula_of (c.in-Let.is ∙ sym (rolls-Let c.in-Let.ts c.in-Let.u)) ∙ fold-roll-Tree Formula (Pattern × Formula) formula_layer case_layer (Tree-F.Let c.in-Let.ts c.in-Let.u)) ∙ ap₂ (λ (us : List Tree) (v : Tree). Let (formulas_of_trees us) (formula_of v)) (sym c.as_slice-in-Let.ensures.value) (sym c.deref-in-Let.ensures) in
    record { named = subst (λ (f : Formula). OnOk c.add_names_of_let.result (AddsNamed f c.args.names.now.items c.add_names_of_let.new.names.items)) (sym is) c.add_names_of_let.ensures.named }

pub add_names-returns-in-Match : goal.add_names-returns-in-Match
add_names-returns-in-Match t c =
    let is : formula_of c.args.tree.now ≡ Match (formula_of c.deref-in-Match.result.now) (cases_of_trees c.as_slice-in-Match.result.now) = (ap formula_of (c.in-Match.is ∙ sym (rolls-Match c.in-Match.t c.in-Match.cases)) ∙ fold-roll-Tree Formula (Pattern × Formula) formula_layer case_layer (Tree-F.Match c.in-Match.t c.in-Match.cases)) ∙ ap₂ (λ (v : Tree) (cs : List Case). Match (formula_of v) (cases_of_trees cs)) (sym c.deref-in-Match.ensures) (sym c.as_slice-in-Match.ensures.value) in
    record { named = subst (λ (f : Formula). OnOk c.add_names_of_match.result (AddsNamed f c.args.names.now.items c.add_names_of_match.new.names.items)) (sym is) c.add_names_of_match.ensures.named }

pub add_names-returns-in-Quantified : goal.add_names-returns-in-Quantified
add_names-returns-in-Quantified t c =
    let q = c.in-Quantified.field-0 in
    let sorts = c.in-Quantified.field-1.items in
    let is : formula_of c.args.tree.now ≡ Quantified q sorts (formula_of c.deref-in-Quantified.result.now) = (ap formula_of (c.in-Quantified.is ∙ sym (rolls-Quantified q c.in-Quantified.field-1 c.in-Quantified.t)) ∙ fold-roll-Tree Formula (Pattern × Formula) formula_layer case_layer (Tree-F.Quantified q c.in-Quantified.field-1 c.in-Quantified.t)) ∙ ap (λ (v : Tree). Quantified q sorts (formula_of v)) (sym c.deref-in-Quantified.ensures) in
    record { named = subst (λ (f : Formula). OnOk c.add_names.result (AddsNamed f c.args.names.now.items c.add_names.new.names.items)) (sym is) c.add_names.ensures.named }

-- ---- several formulas

pub add_names_of_all-add_names-requires : goal.add_names_of_all-add_names-requires
add_names_of_all-add_names-requires t c =
    let all = formulas_of_trees c.args.trees.now in
    let first = c.args.names.now.items in
    let loop = c.loop-rest in
    let others = take (length loop.rest.now - 1) (drop 1 loop.rest.now) in
    let split = subst (λ (xs : List Tree). NamesRest all (formulas_of_trees xs) first loop.names.items) (rest-item loop.rest.now c.tree-item.result c.in-len1-up.len_at_least c.tree-item.is) loop.invariant in
    let lighter = names_lighter all (formula_of c.tree-item.result) (formulas_of_trees others) first loop.names.items split in
    omega (arith, lighter, c.decreases)

pub add_names_of_all-loop-rest-preserved : goal.add_names_of_all-loop-rest-preserved
add_names_of_all-loop-rest-preserved t c =
    let all = formulas_of_trees c.args.trees.now in
    let first = c.args.names.now.items in
    let loop = c.loop-rest in
    let others = take (length loop.rest.now - 1) (drop 1 loop.rest.now) in
    let split = subst (λ (xs : List Tree). NamesRest all (formulas_of_trees xs) first loop.names.items) (rest-item loop.rest.now c.tree-item.result c.in-len1-up.len_at_least c.tree-item.is) loop.invariant in
    names_next all (formula_of c.tree-item.result) (formulas_of_trees others) first loop.names.items c.add_names.new.names.items split c.in_ok-add_names.ensures.named

pub add_names_of_all-returns : goal.add_names_of_all-returns
add_names_of_all-returns t c =
    let all = formulas_of_trees c.args.trees.now in
    let first = c.args.names.now.items in
    let loop = c.loop-rest in
    let none = nothing_left loop.rest.now (omega (arith, c.in_default.len_below)) in
    record { named = names_end all first loop.names.items (subst (λ (xs : List Tree). NamesRest all (formulas_of_trees xs) first loop.names.items) none loop.invariant) }

-- ---- one form each

pub add_names_of_choice-returns : goal.add_names_of_choice-returns
add_names_of_choice-returns t c =
    record { named = adds_choice (formula_of c.args.condition.now) (formula_of c.args.first.now) (formula_of c.args.second.now) c.args.names.now.items c.add_names.new.names.items c.add_names-2.new.names.items c.add_names-3.new.names.items c.in_ok-add_names.ensures.named c.in_ok-add_names-2.ensures.named c.in_ok-add_names-3.ensures.named }

pub add_names_of_call-returns : goal.add_names_of_call-returns
add_names_of_call-returns t c =
    record { named = adds_call c.args.k (formulas_of_trees c.args.trees.now) c.args.names.now.items c.push.new.self.items c.add_names_of_all.new.names.items c.in_ok-push.ensures.items c.in_ok-add_names_of_all.ensures.named }

pub add_names_of_let-returns : goal.add_names_of_let-returns
add_names_of_let-returns t c =
    record { named = adds_let (formulas_of_trees c.args.trees.now) (formula_of c.args.body.now) c.args.names.now.items c.add_names_of_all.new.names.items c.add_names.new.names.items c.in_ok-add_names_of_all.ensures.named c.in_ok-add_names.ensures.named }

pub add_names_of_match-returns : goal.add_names_of_match-returns
add_names_of_match-returns t c =
    record { named = adds_match (formula_of c.args.matched.now) (cases_of_trees c.args.cases.now) c.args.names.now.items c.add_names.new.names.items c.add_names_of_cases.new.names.items c.in_ok-add_names.ensures.named c.in_ok-add_names_of_cases.ensures.named }

-- ---- cases

pub add_names_of_cases-add_names-requires : goal.add_names_of_cases-add_names-requires
add_names_of_cases-add_names-requires t c =
    let all = cases_of_trees c.args.cases.now in
    let first = c.args.names.now.items in
    let loop = c.loop-rest in
    let others = take (length loop.rest.now - 1) (drop 1 loop.rest.now) in
    let p = (case_of c.case-item.result).0 in
    let body = formula_of c.body_of.result.now in
    let whole : cases_of_trees loop.rest.now ≡ with_case p body (cases_of_trees others) = cases_is loop.rest.now others c.case-item.result p body (rest-item loop.rest.now c.case-item.result c.in-len1-up.len_at_least c.case-item.is) refl c.body_of.ensures.value in
    let split = subst (λ (cs : Cases). CaseNamesRest all cs first loop.names.items) whole loop.invariant in
    let lighter = case_names_lighter all p body (cases_of_trees others) first loop.names.items split in
    omega (arith, lighter, c.decreases)

pub add_names_of_cases-loop-rest-preserved : goal.add_names_of_cases-loop-rest-preserved
add_names_of_cases-loop-rest-preserved t c =
    let all = cases_of_trees c.args.cases.now in
    let first = c.args.names.now.items in
    let loop = c.loop-rest in
    let others = take (length loop.rest.now - 1) (drop 1 loop.rest.now) in
    let p = (case_of c.case-item.result).0 in
    let body = formula_of c.body_of.result.now in
    let whole : cases_of_trees loop.rest.now ≡ with_case p body (cases_of_trees others) = cases_is loop.rest.now others c.case-item.result p body (rest-item loop.rest.now c.case-item.result c.in-len1-up.len_at_least c.case-item.is) refl c.body_of.ensures.value in
    let split = subst (λ (cs : Cases). CaseNamesRest all cs first loop.names.items) whole loop.invariant in
    case_names_next all p body (cases_of_trees others) first loop.names.items c.add_names.new.names.items split c.in_ok-add_names.ensures.named

pub add_names_of_cases-returns : goal.add_names_of_cases-returns
add_names_of_cases-returns t c =
    let all = cases_of_trees c.args.cases.now in
    let first = c.args.names.now.items in
    let loop = c.loop-rest in
    let none = nothing_left loop.rest.now (omega (arith, c.in_default.len_below)) in
    record { named = case_names_end all first loop.names.items (subst (λ (cs : List Case). CaseNamesRest all (cases_of_trees cs) first loop.names.items) none loop.invariant) }
