use Rattle.std.proofs.Common.{◌≡◌, ◌-◌, ◌∙◌, List, [], ◌∷◌, length, take, drop, refl, subst, arith}
use Rattle.std.proofs.lemmas.Result.{err_from_is_err_and}
use Rattle.std.proofs.lemmas.List.Elements.{All-nil}
use Rattle.ct_lemmas.proofs.Prefixes.{nothing_left, rest-item}
use Rattle.ct_sexpr.specs.declared.sexpr.Sexpr.{Sexpr}
use Rattle.ct_sexpr.specs.View.{expression_of}
use Rattle.ct_sorts.specs.Declarations.{IsSort}
use Rattle.ct_names.specs.Sorts.{sort_of}
use Rattle.ct_command.specs.Seen.{all_seen}
use Rattle.ct_stack.proofs.ErrorLemmas.{same_refusal}
use Rattle.ct_stack.proofs.NeededLemmas.{IsUnderWay, under_way, one_stops, one_comes, all_come, all_last}
use Rattle.ct_stack.proofs.SortLemmas.{one_more_inside}
use Rattle.ct_stack.proofs.sorts.sorts_named.Goals as goal

pub loop-left-init : goal.loop-left-init
loop-left-init c =
    let d = c.args.scope.now.sig in
    rw c.in_ok-sorts.ensures.items (under_way sort_of (all_seen c.args.exprs.now) d, All-nil (IsSort d), c.stack_theorems.ensures.hold.itself d, refl)

pub returns-in_err-sort-clause-refused : goal.returns-in_err-sort-clause-refused
returns-in_err-sort-clause-refused c =
    let whole = all_seen c.args.exprs.now in
    let old = c.args.scope.now.sig in
    let now = c.loop-left.scope.sig in
    let out = c.loop-left.sorts.items in
    let left = c.loop-left.left.now in
    let others = take (length left - 1) (drop 1 left) in
    let split : left ≡ c.first-item.result ∷ others = rest-item left c.first-item.result c.in-len1-up.len_at_least c.first-item.is in
    let so_far = subst (λ (es : List Sexpr). IsUnderWay sort_of whole old now out (all_seen es)) split c.loop-left.invariant.0 in
    let p = err_from_is_err_and c.from_residual-in_err-sort.result c.from_residual-in_err-sort.ensures.1 in
    rw (p.1, p.2)
    (λ n e. one_stops sort_of whole old now out (expression_of c.first-item.result) (all_seen others) so_far c.sort_named.new.scope.sig n (c.in_err-sort.ensures.refused n (same_refusal _ n e)))

pub loop-left-preserved : goal.loop-left-preserved
loop-left-preserved c =
    let whole = all_seen c.args.exprs.now in
    let old = c.args.scope.now.sig in
    let now = c.loop-left.scope.sig in
    let later = c.sort_named.new.scope.sig in
    let out = c.loop-left.sorts.items in
    let left = c.loop-left.left.now in
    let others = take (length left - 1) (drop 1 left) in
    let split : left ≡ c.first-item.result ∷ others = rest-item left c.first-item.result c.in-len1-up.len_at_least c.first-item.is in
    let so_far = subst (λ (es : List Sexpr). IsUnderWay sort_of whole old now out (all_seen es)) split c.loop-left.invariant.0 in
    let inv = c.loop-left.invariant in
    rw c.in_ok-push.ensures.items (
      one_comes sort_of whole old now out (expression_of c.first-item.result) (all_seen others) so_far later c.in_ok-sort.sort c.in_ok-sort.ensures.ok c.in_ok-sort.ensures.lasts,
      one_more_inside later now out c.in_ok-sort.sort c.in_ok-sort.ensures.grown inv.1 c.in_ok-sort.ensures.inside,
      c.stack_theorems.ensures.hold.further later now old c.in_ok-sort.ensures.grown inv.2,
      c.in_ok-sort.ensures.bodies ∙ inv.3,
    )

pub returns-clause-ok : goal.returns-clause-ok
returns-clause-ok c =
    let whole = all_seen c.args.exprs.now in
    let old = c.args.scope.now.sig in
    let now = c.loop-left.scope.sig in
    let out = c.loop-left.sorts.items in
    let none : c.loop-left.left.now ≡ [] = nothing_left c.loop-left.left.now (omega (arith, c.in_default.len_below)) in
    all_come sort_of whole old now out (subst (λ (es : List Sexpr). IsUnderWay sort_of whole old now out (all_seen es)) none c.loop-left.invariant.0)

pub returns-clause-lasts : goal.returns-clause-lasts
returns-clause-lasts c =
    let whole = all_seen c.args.exprs.now in
    let old = c.args.scope.now.sig in
    let now = c.loop-left.scope.sig in
    let out = c.loop-left.sorts.items in
    let none : c.loop-left.left.now ≡ [] = nothing_left c.loop-left.left.now (omega (arith, c.in_default.len_below)) in
    all_last sort_of whole old now out (subst (λ (es : List Sexpr). IsUnderWay sort_of whole old now out (all_seen es)) none c.loop-left.invariant.0)
