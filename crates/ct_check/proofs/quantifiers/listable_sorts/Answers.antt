use Rattle.std.proofs.Common.{◌≡◌, List, take, Vec, Global, refl, sym, ◌∙◌, ap, subst}
use Rattle.std.proofs.lemmas.Result.{err_from_is_err_and}
use Rattle.ct_sexpr.specs.declared.sexpr.Sexpr.{Sexpr}
use Rattle.ct_sorts.specs.declared.ids.SortId.{SortId}
use Rattle.ct_names.specs.Needs.{Reaches, as_they_are}
use Rattle.ct_names.proofs.AnswerLemmas.{stops_memory}
use Rattle.ct_names.proofs.NeedLemmas.{reaches_grows}
use Rattle.ct_check.proofs.GrownLemmas.{extends_further}
use Rattle.ct_check.proofs.LoopSteps.{all_taken}
use Rattle.ct_check.proofs.QuantifierLemmas.{so_far, sorts_reach, sort_stops, sort_met, sort_reaches}
use Rattle.ct_check.proofs.quantifiers.listable_sorts.Goals as goal

pub loop-binding-init : goal.loop-binding-init
loop-binding-init c = rw c.in_ok-sorts.ensures.items (record { value = refl; reaches = as_they_are c.args.sig.now; known = c.requires.known; kept = λ e. refl })

pub returns-in_err-sorts-clause-value : goal.returns-in_err-sorts-clause-value
returns-in_err-sorts-clause-value c =
    let d = c.args.sig.now in
    let p = err_from_is_err_and c.from_residual.result c.from_residual.ensures.1 in
    rw (p.1, p.2) (stops_memory c.args.needs d (λ (found : Vec SortId Global). found.items) (so_far c.args.bindings.now d) _ refl)

pub returns-in_err-sorts-clause-reaches : goal.returns-in_err-sorts-clause-reaches
returns-in_err-sorts-clause-reaches c = as_they_are c.args.sig.now

pub listable_sort-requires : goal.listable_sort-requires
listable_sort-requires c = record { known = c.loop-binding.invariant.known }

pub returns-in_err-sort-clause-value : goal.returns-in_err-sort-clause-value
returns-in_err-sort-clause-value c =
    let loop = c.loop-binding in
    let p = err_from_is_err_and c.from_residual-in_err-sort.result c.from_residual-in_err-sort.ensures.1 in
    rw (p.1, p.2) (sort_stops c.args.needs c.args.sig.now loop.sig c.sorts-in-loop-binding.ensures.consistent c.args.bindings.now loop.binding-index c.binding-item.result c.loop-binding-test.true c.binding-item.is loop.sorts.items loop.invariant.value loop.invariant.reaches c.listable_sort.new.sig c.in_err-sort.ensures.reaches _ c.in_err-sort.ensures.value)

pub returns-in_err-sort-clause-reaches : goal.returns-in_err-sort-clause-reaches
returns-in_err-sort-clause-reaches c =
    let loop = c.loop-binding in
    sorts_reach c.args.needs c.args.sig.now loop.sig c.sorts-in-loop-binding.ensures.consistent c.args.bindings.now loop.binding-index c.binding-item.result c.loop-binding-test.true c.binding-item.is loop.sorts.items loop.invariant.value loop.invariant.reaches c.listable_sort.new.sig c.in_err-sort.ensures.reaches

pub returns-in_err-sort-clause-grown : goal.returns-in_err-sort-clause-grown
returns-in_err-sort-clause-grown c =
    let loop = c.loop-binding in
    extends_further c.listable_sort.new.sig loop.sig c.args.sig.now c.in_err-sort.ensures.grown (reaches_grows (so_far (take loop.binding-index c.args.bindings.now)) c.args.sig.now loop.sig loop.invariant.reaches).extends

pub returns-in_err-push-clause-value : goal.returns-in_err-push-clause-value
returns-in_err-push-clause-value c =
    let d = c.listable_sort.new.sig in
    let p = err_from_is_err_and c.from_residual-in_err-push.result c.from_residual-in_err-push.ensures.1 in
    rw (p.1, p.2) (stops_memory c.args.needs d (λ (found : Vec SortId Global). found.items) (so_far c.args.bindings.now d) _ refl)

pub returns-in_err-push-clause-reaches : goal.returns-in_err-push-clause-reaches
returns-in_err-push-clause-reaches c =
    let loop = c.loop-binding in
    sorts_reach c.args.needs c.args.sig.now loop.sig c.sorts-in-loop-binding.ensures.consistent c.args.bindings.now loop.binding-index c.binding-item.result c.loop-binding-test.true c.binding-item.is loop.sorts.items loop.invariant.value loop.invariant.reaches c.listable_sort.new.sig c.in_ok-sort.ensures.reaches

pub returns-in_err-push-clause-grown : goal.returns-in_err-push-clause-grown
returns-in_err-push-clause-grown c =
    let loop = c.loop-binding in
    extends_further c.listable_sort.new.sig loop.sig c.args.sig.now c.in_ok-sort.ensures.grown (reaches_grows (so_far (take loop.binding-index c.args.bindings.now)) c.args.sig.now loop.sig loop.invariant.reaches).extends

pub loop-binding-preserved : goal.loop-binding-preserved
loop-binding-preserved c =
    let loop = c.loop-binding in
    rw c.in_ok-push.ensures.items (record {
      value = sort_met c.args.needs c.args.sig.now loop.sig c.sorts-in-loop-binding.ensures.consistent c.args.bindings.now loop.binding-index c.binding-item.result c.loop-binding-test.true c.binding-item.is loop.sorts.items loop.invariant.value loop.invariant.reaches c.listable_sort.new.sig c.in_ok-sort.ensures.reaches c.in_ok-sort.sort c.in_ok-sort.ensures.value;
      reaches = sort_reaches c.args.needs c.args.sig.now loop.sig c.sorts-in-loop-binding.ensures.consistent c.args.bindings.now loop.binding-index c.binding-item.result c.loop-binding-test.true c.binding-item.is loop.sorts.items loop.invariant.value loop.invariant.reaches c.listable_sort.new.sig c.in_ok-sort.ensures.reaches;
      known = c.in_ok-sort.ensures.known;
      kept = λ e. c.in_ok-sort.ensures.kept e ∙ loop.invariant.kept e;
    })

pub returns-clause-value : goal.returns-clause-value
returns-clause-value c =
    let loop = c.loop-binding in
    ap (λ (xs : List Sexpr). so_far xs loop.sig) (sym (all_taken c.args.bindings.now loop.binding-index c.loop-binding-test.false)) ∙ loop.invariant.value

pub returns-clause-reaches : goal.returns-clause-reaches
returns-clause-reaches c =
    let loop = c.loop-binding in
    subst (λ (xs : List Sexpr). Reaches (so_far xs) c.args.sig.now loop.sig) (all_taken c.args.bindings.now loop.binding-index c.loop-binding-test.false) loop.invariant.reaches

pub returns-clause-grown : goal.returns-clause-grown
returns-clause-grown c =
    let loop = c.loop-binding in
    (reaches_grows (so_far (take loop.binding-index c.args.bindings.now)) c.args.sig.now loop.sig loop.invariant.reaches).extends

pub returns-clause-known : goal.returns-clause-known
returns-clause-known c = c.loop-binding.invariant.known
