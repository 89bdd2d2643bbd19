use Rattle.std.proofs.Common.{◌≡◌, ◌-◌, ◌∙◌, List, [], ◌∷◌, length, take, drop, Ok, Err, refl, ap, subst, sym, arith}
use Rattle.std.proofs.lemmas.Result.{err_from_is_err_and}
use Rattle.std.proofs.lemmas.List.Elements.{All-nil}
use Rattle.ct_lemmas.proofs.Pairs.{AllZip-push}
use Rattle.ct_lemmas.proofs.Prefixes.{nothing_left, rest-item}
use Rattle.ct_sexpr.specs.declared.sexpr.Sexpr.{Sexpr}
use Rattle.ct_sexpr.specs.View.{expression_of}
use Rattle.ct_formulas.specs.TreeFormula.{formula_of}
use Rattle.ct_formulas.specs.FormulaSorts.{IsSorted}
use Rattle.ct_names.specs.Outcome.{Sorted}
use Rattle.ct_check.specs.Trees.{sorted_of, sorted_trees}
use Rattle.ct_sorts.specs.Declarations.{IsSort}
use Rattle.ct_names.specs.Needs.{ends_with}
use Rattle.ct_names.specs.Refusals.{out_of_scope}
use Rattle.ct_names.specs.Elaboration.{elaborated}
use Rattle.ct_command.specs.Seen.{all_seen}
use Rattle.ct_scope.specs.declared.scope.Scope.{Scope}
use Rattle.ct_stack.specs.Outcomes.{Comes, each_of}
use Rattle.ct_stack.specs.Sorts.{terms_seen}
use Rattle.ct_stack.proofs.ErrorLemmas.{stops}
use Rattle.ct_stack.proofs.OutcomeLemmas.{Completes, nothing_yet, one_more, all_taken}
use Rattle.ct_stack.proofs.ValueLemmas.{there, AreSortedTerms-long, sorted_trees-push}
use Rattle.ct_stack.proofs.value.valued_terms.Goals as goal

pub loop-left-init : goal.loop-left-init
loop-left-init c =
    rw (c.in_ok-trees.ensures.items, c.in_ok-sorts.ensures.items) (refl, nothing_yet (elaborated c.args.scope.now.sig []) (all_seen c.args.exprs.now), tt)

pub returns-in_err-tree-clause-value : goal.returns-in_err-tree-clause-value
returns-in_err-tree-clause-value c =
    let step = elaborated c.args.scope.now.sig [] in
    let whole = each_of step (all_seen c.args.exprs.now) in
    let out = sorted_trees c.loop-left.trees.items c.loop-left.sorts.items in
    let left = c.loop-left.left.now in
    let others = take (length left - 1) (drop 1 left) in
    let split : left ≡ c.first-item.result ∷ others = rest-item left c.first-item.result c.in-len1-up.len_at_least c.first-item.is in
    let completes = subst (λ (es : List Sexpr). Completes step whole out (all_seen es)) split c.loop-left.invariant.1 in
    let p = err_from_is_err_and c.from_residual-in_err-tree.result c.from_residual-in_err-tree.ensures.1 in
    let x = expression_of c.first-item.result in
    let said = subst (λ (s : Scope). Comes sorted_of (ends_with out_of_scope (elaborated s.sig [] x)) (Err c.in_err-tree.field-0.0)) c.loop-left.invariant.0 c.in_err-tree.ensures.value in
    rw (p.1, p.2) (stops out_of_scope step sorted_of terms_seen whole out x (all_seen others) _ completes said)

pub loop-left-preserved : goal.loop-left-preserved
loop-left-preserved c =
    let d = c.args.scope.now.sig in
    let step = elaborated d [] in
    let whole = each_of step (all_seen c.args.exprs.now) in
    let trees = c.loop-left.trees.items in
    let sorts = c.loop-left.sorts.items in
    let left = c.loop-left.left.now in
    let others = take (length left - 1) (drop 1 left) in
    let split : left ≡ c.first-item.result ∷ others = rest-item left c.first-item.result c.in-len1-up.len_at_least c.first-item.is in
    let completes = subst (λ (es : List Sexpr). Completes step whole (sorted_trees trees sorts) (all_seen es)) split c.loop-left.invariant.1 in
    let x = expression_of c.first-item.result in
    let t = c.in_ok-tree.tree in
    let s = c.in_ok-tree.sort in
    let taken : step x ≡ Ok (formula_of t, s) = there out_of_scope (step x) (formula_of t, s) (subst (λ (z : Scope). ends_with out_of_scope (elaborated z.sig [] x) ≡ Ok (formula_of t, s)) c.loop-left.invariant.0 c.in_ok-tree.ensures.value) in
    rw (c.in_ok-push.ensures.items, c.in_ok-push-2.ensures.items) (
      c.in_ok-tree.ensures.kept ∙ c.loop-left.invariant.0,
      subst (λ (out : List Sorted). Completes step whole out (all_seen others)) (sym (sorted_trees-push trees sorts t s (AreSortedTerms-long d trees sorts c.loop-left.invariant.2)))
          (one_more step whole (sorted_trees trees sorts) x (formula_of t, s) (all_seen others) taken completes),
      AllZip-push (λ t sort. IsSorted d [] (formula_of t) sort) trees sorts t s c.loop-left.invariant.2 (c.elaboration.ensures.sorted d [] x (formula_of t) s c.sorts.ensures.consistent (All-nil (IsSort d)) taken),
    )

pub returns-clause-value : goal.returns-clause-value
returns-clause-value c =
    let step = elaborated c.args.scope.now.sig [] in
    let whole = each_of step (all_seen c.args.exprs.now) in
    let out = sorted_trees c.loop-left.trees.items c.loop-left.sorts.items in
    let none : c.loop-left.left.now ≡ [] = nothing_left c.loop-left.left.now (omega (arith, c.in_default.len_below)) in
    ap (ends_with out_of_scope) (all_taken step whole out (subst (λ (es : List Sexpr). Completes step whole out (all_seen es)) none c.loop-left.invariant.1))

pub returns-clause-sorted : goal.returns-clause-sorted
returns-clause-sorted c = c.loop-left.invariant.2
