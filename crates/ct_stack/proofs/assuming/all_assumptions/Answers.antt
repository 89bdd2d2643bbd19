use Rattle.std.proofs.Common.{◌≡◌, ◌-◌, ◌∙◌, List, [], ◌∷◌, ◌++◌, length, map, take, drop, refl, sym, subst, arith}
use Rattle.std.proofs.lemmas.List.{map-append}
use Rattle.std.proofs.lemmas.List.Elements.{All-nil, All-cons, All-append}
use Rattle.std.proofs.lemmas.Result.{err_from_is_err_and}
use Rattle.ct_lemmas.proofs.Prefixes.{nothing_left, rest-item}
use Rattle.ct_sexpr.specs.declared.sexpr.Sexpr.{Sexpr}
use Rattle.ct_sexpr.specs.View.{expression_of}
use Rattle.ct_command.specs.Seen.{all_seen}
use Rattle.ct_stack.specs.Assuming.{Assumption, assumption_of, assumption_seen, IsTruth}
use Rattle.ct_stack.proofs.AssumingLemmas.{truths_last}
use Rattle.ct_stack.proofs.ErrorLemmas.{same_refusal}
use Rattle.ct_stack.proofs.NeededLemmas.{IsUnderWay, under_way, one_stops, one_comes, all_come}
use Rattle.ct_stack.proofs.assuming.all_assumptions.Goals as goal

pub loop-left-init : goal.loop-left-init
loop-left-init c =
    let d = c.args.scope.now.sig in
    rw c.in_ok-read.ensures.items (under_way assumption_of (all_seen c.args.terms.now) d, All-nil (IsTruth d), c.stack_theorems.ensures.hold.itself d, refl)

pub returns-in_err-one-clause-refused : goal.returns-in_err-one-clause-refused
returns-in_err-one-clause-refused c =
    let whole = all_seen c.args.terms.now in
    let old = c.args.scope.now.sig in
    let now = c.loop-left.scope.sig in
    let out = map assumption_seen c.loop-left.read.items in
    let left = c.loop-left.left.now in
    let others = take (length left - 1) (drop 1 left) in
    let split : left ≡ c.first-item.result ∷ others = rest-item left c.first-item.result c.in-len1-up.len_at_least c.first-item.is in
    let so_far = subst (λ (es : List Sexpr). IsUnderWay assumption_of whole old now out (all_seen es)) split c.loop-left.invariant.0 in
    let p = err_from_is_err_and c.from_residual-in_err-one.result c.from_residual-in_err-one.ensures.1 in
    rw (p.1, p.2)
    (λ n e. one_stops assumption_of whole old now out (expression_of c.first-item.result) (all_seen others) so_far c.assumption_of.new.scope.sig n (c.in_err-one.ensures.refused n (same_refusal _ n e)))

pub loop-left-preserved : goal.loop-left-preserved
loop-left-preserved c =
    let whole = all_seen c.args.terms.now in
    let old = c.args.scope.now.sig in
    let now = c.loop-left.scope.sig in
    let later = c.assumption_of.new.scope.sig in
    let read = c.loop-left.read.items in
    let out = map assumption_seen read in
    let left = c.loop-left.left.now in
    let others = take (length left - 1) (drop 1 left) in
    let split : left ≡ c.first-item.result ∷ others = rest-item left c.first-item.result c.in-len1-up.len_at_least c.first-item.is in
    let so_far = subst (λ (es : List Sexpr). IsUnderWay assumption_of whole old now out (all_seen es)) split c.loop-left.invariant.0 in
    let inv = c.loop-left.invariant in
    let one = c.in_ok-one.one in
    let grown = c.in_ok-one.ensures.grown in
    let kept = truths_last c.stack_theorems.ensures.hold later now c.sorts-in-len1-up.ensures.consistent c.sorts.ensures.consistent grown read inv.1 in
    rw c.in_ok-push.ensures.items (
      subst (λ (ys : List Assumption). IsUnderWay assumption_of whole old later ys (all_seen others)) (sym (map-append assumption_seen read (one ∷ [])))
          (one_comes assumption_of whole old now out (expression_of c.first-item.result) (all_seen others) so_far later (assumption_seen one) c.in_ok-one.ensures.ok c.in_ok-one.ensures.lasts),
      All-append (IsTruth later) read (one ∷ []) kept (All-cons (IsTruth later) one [] c.in_ok-one.ensures.sorted (All-nil (IsTruth later))),
      c.stack_theorems.ensures.hold.further later now old grown inv.2,
      c.in_ok-one.ensures.bodies ∙ inv.3,
    )

pub returns-clause-ok : goal.returns-clause-ok
returns-clause-ok c =
    let whole = all_seen c.args.terms.now in
    let old = c.args.scope.now.sig in
    let now = c.loop-left.scope.sig in
    let out = map assumption_seen c.loop-left.read.items in
    let none : c.loop-left.left.now ≡ [] = nothing_left c.loop-left.left.now (omega (arith, c.in_default.len_below)) in
    all_come assumption_of whole old now out (subst (λ (es : List Sexpr). IsUnderWay assumption_of whole old now out (all_seen es)) none c.loop-left.invariant.0)

pub returns-in_err-push-clause-grown : goal.returns-in_err-push-clause-grown
returns-in_err-push-clause-grown c =
    c.stack_theorems.ensures.hold.further c.assumption_of.new.scope.sig c.loop-left.scope.sig c.args.scope.now.sig c.in_ok-one.ensures.grown c.loop-left.invariant.2
