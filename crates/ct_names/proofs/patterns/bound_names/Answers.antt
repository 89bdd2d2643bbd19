use Rattle.std.proofs.Common.{[], ◌∷◌, ◌++◌, map, take, sym, ap, ◌∙◌}
use Rattle.std.proofs.lemmas.List.{map-append}
use Rattle.ct_sexpr.specs.View.{expressions_of}
use Rattle.ct_names.specs.Bounds.{held_name}
use Rattle.ct_names.specs.Forms.{bound_names}
use Rattle.ct_names.specs.Elaboration.{parts_of}
use Rattle.ct_names.proofs.PartLemmas.{bound_names-more}
use Rattle.ct_names.proofs.patterns.bound_names.Goals as goal

pub loop-expr-preserved : goal.loop-expr-preserved
loop-expr-preserved c =
    λ d.
    let loop = c.loop-expr in
    let name = c.bound_name.result in
    ap (λ xs. map held_name xs) c.in_ok-push.ensures.items
    ∙ map-append held_name loop.names.items (name ∷ [])
    ∙ ap (λ xs. xs ++ held_name name ∷ []) (loop.invariant d)
    ∙ ap (λ n. bound_names (parts_of d (expressions_of (take loop.expr-index c.args.exprs.now))) ++ n ∷ []) (c.bound_name.ensures.held d)
    ∙ sym (bound_names-more d c.args.exprs.now loop.expr-index c.expr-item.result c.loop-expr-test.true c.expr-item.is)
