use Rattle.std.proofs.Common.{ap, sym, ◌∙◌, arith}
use Rattle.ct_generics.specs.declared.expr.SortExpr.TheOpen.{SortExpr-F}
use Rattle.ct_generics.specs.declared.expr.SortExpr.TheFolds.{fold-roll-SortExpr}
use Rattle.ct_generics.specs.declared.expr.SortExpr.TheVariants.{rolls-App, rolls-Param}
use Rattle.ct_generics.specs.Outcome.{Outcome}
use Rattle.std.proofs.lemmas.Result.{err_from_is_err_and}
use Rattle.ct_lemmas.proofs.Options.{IfOk-map}
use Rattle.ct_generics.specs.declared.nodes.ExprId.{ExprId}
use Rattle.ct_generics.specs.Expression.{Expression, parameter}
use Rattle.ct_generics.specs.Nodes.{Stands}
use Rattle.ct_generics.specs.Resolved.{instance, meaning, resolved, resolved_layer}
use Rattle.ct_generics.proofs.NodeLemmas.{Stay-trans}
use Rattle.ct_generics.proofs.SubstitutionLemmas.{StandFor-stay, AreWithin-stay, AreWithin-push}
use Rattle.ct_generics.specs.declared.error.GenericError.TheVariants.{Refused}
use Rattle.ct_generics.proofs.OutcomeLemmas.{err_cast}
use Rattle.ct_generics.proofs.ResolveLemmas.{each-more, each-refused, with_meaning-ok, with_meaning-refused}
use Rattle.ct_generics.proofs.resolution.+resolve.Goals as goal

pub resolve-returns-in-Param-clause-ok : goal.resolve-returns-in-Param-clause-ok
resolve-returns-in-Param-clause-ok t c =
    IfOk-map c.param.result _ _ (λ n stands d is. (parameter c.in-Param.i, ap (resolved d) (c.in-Param.is ∙ sym (rolls-Param c.in-Param.i)) ∙ fold-roll-SortExpr (Outcome Expression) (resolved_layer d) (SortExpr-F.Param c.in-Param.i), stands)) c.param.ensures.ok

pub resolve-returns-in_err-ids-in-App-clause-refused : goal.resolve-returns-in_err-ids-in-App-clause-refused
resolve-returns-in_err-ids-in-App-clause-refused t c =
    let p = err_from_is_err_and c.from_residual-in_err-ids-in-App.result c.from_residual-in_err-ids-in-App.ensures.1 in
    rw (p.1, p.2) (λ n d e is.
    let m = c.in_ok-place-in-App.ensures.ok d is in
    (ap (resolved d) (c.in-App.is ∙ sym (rolls-App c.in-App.name c.in-App.args)) ∙ fold-roll-SortExpr (Outcome Expression) (resolved_layer d) (SortExpr-F.App c.in-App.name c.in-App.args)) ∙ with_meaning-refused d (meaning d c.in-App.name) m.0 c.in-App.args.items n (rw c.as_slice.ensures.value at m.1) (omega (arith, c.len.ensures, m.3)) (rw c.as_slice-in-App.ensures.value at (c.in_err-ids-in-App.ensures.refused n d (err_cast _ (Refused n) e) is)))

pub resolve-returns-in_ok-ids-in-App-clause-ok : goal.resolve-returns-in_ok-ids-in-App-clause-ok
resolve-returns-in_ok-ids-in-App-clause-ok t c =
    IfOk-map c.instantiate.result _ _ (λ n makes d is.
    let m = c.in_ok-place-in-App.ensures.ok d is in
    let es = c.in_ok-ids-in-App.ensures.ok d is in (
      instance m.0 es.0,
      (ap (resolved d) (c.in-App.is ∙ sym (rolls-App c.in-App.name c.in-App.args)) ∙ fold-roll-SortExpr (Outcome Expression) (resolved_layer d) (SortExpr-F.App c.in-App.name c.in-App.args)) ∙ with_meaning-ok d (meaning d c.in-App.name) m.0 c.in-App.args.items es.0 (rw c.as_slice.ensures.value at m.1) (omega (arith, c.len.ensures, m.3)) (rw c.as_slice-in-App.ensures.value at es.1),
      makes m.0 es.0 m.2 (rw c.as_slice-in-App-2.ensures.value es.2),
    )) c.instantiate.ensures.ok

pub resolve_all-returns-in_err-id-clause-refused : goal.resolve_all-returns-in_err-id-clause-refused
resolve_all-returns-in_err-id-clause-refused t c =
    let p = err_from_is_err_and c.from_residual-in_err-id.result c.from_residual-in_err-id.ensures.1 in
    rw (p.1, p.2) (λ n d e is.
    let known = c.loop-arg.invariant.known d is in
    each-refused (resolved d) c.args.args.now c.loop-arg.arg-index c.arg-item.result n c.loop-arg-test.true c.arg-item.is known.0 known.1 (c.in_err-id.ensures.refused n d (err_cast _ (Refused n) e) is))

pub resolve_all-loop-arg-preserved : goal.resolve_all-loop-arg-preserved
resolve_all-loop-arg-preserved t c =
    let begin = c.args.table.now in
    let old = c.loop-arg.table in
    let new = c.resolve.new.table in
    let ids = c.loop-arg.ids.items in
    let id = c.in_ok-id.id in
    record {
      stay = Stay-trans begin old new c.loop-arg.invariant.stay c.resolve.ensures.stay;
      within = rw c.in_ok-push.ensures.items (AreWithin-push new ids id (AreWithin-stay old new ids c.resolve.ensures.stay c.loop-arg.invariant.within) c.in_ok-id.ensures.within);
      known = λ d is.
          let known = c.loop-arg.invariant.known d is in
          rw c.in_ok-push.ensures.items (each-more (λ (x : ExprId) (e : Expression). Stands new x.0 e) (resolved d) c.args.args.now c.loop-arg.arg-index c.arg-item.result ids id c.loop-arg-test.true c.arg-item.is (known.0, known.1, StandFor-stay old new ids known.0 c.resolve.ensures.stay known.2) (c.in_ok-id.ensures.ok d is));
    }
