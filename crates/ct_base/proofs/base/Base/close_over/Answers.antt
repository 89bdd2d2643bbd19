use Rattle.std.proofs.Common.{rules, IsErrOf, ◌≡◌, ◌∙◌, ◌↔◌, ◌++◌, List, length, vec_len, drop, reverse, refl, ap, subst, arith}
use Rattle.ct_terms.specs.declared.ids.TermId.{TermId}
use Rattle.ct_terms.specs.CoreTree.{CoreTree}
use Rattle.ct_closure.specs.Closed.{InClosure, HasVariables, HasMoreThan, most_closure_terms}
use Rattle.ct_closure.specs.ClosedTable.{HasTree, terms_at}
use Rattle.ct_closure.specs.Further.{IsClosureOver}
use Rattle.ct_closure.specs.declared.error.CloseError.TheVariants.{TooLarge}
use Rattle.ct_base.proofs.StageLemmas.{stages_grown}
use Rattle.ct_base.proofs.CloseLemmas.{roots_boolean, closure_over, closed_for, more_terms}
use Rattle.ct_base.proofs.base.Base.close_over.Goals as goal

pub returns-in_err-closure-clause-base : goal.returns-in_err-closure-clause-base
returns-in_err-closure-clause-base c =
    let g = c.go_back.new.self in
    let stages = stages_grown c.args.sig.now g.table c.close_rest.new.table g.roots.items c.close_rest.new.roots.items g.split.items c.close_rest.new.split.items c.close_rest.ensures.grown c.close_rest.ensures.roots_grown c.close_rest.ensures.split_grown
    (reverse g.stages.items) c.go_back.ensures.base.stages in
    record { sized = c.go_back.ensures.base.sized; sorted = c.close_rest.ensures.sorted; stages = stages }

pub returns-in_err-closure-clause-too_large : goal.returns-in_err-closure-clause-too_large
returns-in_err-closure-clause-too_large c =
    let large : IsErrOf c.from_residual-in_err-closure.result TooLarge → IsErrOf c.close_rest.result TooLarge = search rules in
    λ h.
    let g = c.go_back.new.self in
    let count : vec_len g.roots ≡ length g.roots.items = omega (arith, g.roots.ok.0) in
    let ids : c.after-further.result.now ≡ drop (length g.roots.items) c.args.asserts.now = c.after-further.ensures.value ∙ ap (λ k. drop k c.args.asserts.now) (c.len-2.ensures ∙ count) in
    let (earlier, before) = c.in_ok-closed.ensures.before in
    more_terms c.args.sig.now g.table c.args.table.now g.roots.items c.args.asserts.now c.in_ok-closed.ensures.same
    (subst (λ (l : List TermId). HasMoreThan c.args.sig.now (terms_at g.table g.roots.items ++ terms_at c.args.table.now l) most_closure_terms) ids
    (c.close_rest.ensures.too_large (large h) earlier (terms_at g.table g.roots.items) before))

pub put_stage-requires-clause-closure : goal.put_stage-requires-clause-closure
put_stage-requires-clause-closure c =
    let g = c.go_back.new.self in
    let count : vec_len g.roots ≡ length g.roots.items = omega (arith, g.roots.ok.0) in
    let ids : c.after-further.result.now ≡ drop (length g.roots.items) c.args.asserts.now = c.after-further.ensures.value ∙ ap (λ k. drop k c.args.asserts.now) (c.len-2.ensures ∙ count) in
    let (earlier, before) = c.in_ok-closed.ensures.before in
    let rest = c.in_ok-closure.ensures.trees ∙ ap (terms_at c.args.table.now) ids in
    let over = subst (λ (l : List TermId). IsClosureOver c.args.sig.now (terms_at g.table g.roots.items ++ terms_at c.args.table.now l) c.close_rest.new.table c.close_rest.new.split.items) ids
    (c.in_ok-closure.ensures.over earlier (terms_at g.table g.roots.items) before) in
    rw (c.deref.ensures.value, c.deref-2.ensures.value)
    (closure_over c.args.sig.now c.args.table.now g.table c.close_rest.new.table g.roots.items c.close_rest.new.roots.items c.args.asserts.now c.close_rest.ensures.grown c.close_rest.ensures.roots_grown c.core_trees.ensures.longer c.len-closed.ensures.ordered
    c.in_ok-closed.ensures.booleans c.in_ok-closed.ensures.same rest c.in_ok-closure.ensures.booleans c.close_rest.new.split.items over)

pub put_stage-requires-clause-booleans : goal.put_stage-requires-clause-booleans
put_stage-requires-clause-booleans c =
    let g = c.go_back.new.self in
    let count : vec_len g.roots ≡ length g.roots.items = omega (arith, g.roots.ok.0) in
    let ids : c.after-further.result.now ≡ drop (length g.roots.items) c.args.asserts.now = c.after-further.ensures.value ∙ ap (λ k. drop k c.args.asserts.now) (c.len-2.ensures ∙ count) in
    let rest = c.in_ok-closure.ensures.trees ∙ ap (terms_at c.args.table.now) ids in
    rw c.deref.ensures.value
    (roots_boolean c.args.sig.now c.args.table.now g.table c.close_rest.new.table g.roots.items c.close_rest.new.roots.items c.args.asserts.now c.close_rest.ensures.grown c.close_rest.ensures.roots_grown c.core_trees.ensures.longer c.len-closed.ensures.ordered
    c.in_ok-closed.ensures.booleans c.in_ok-closed.ensures.same rest c.in_ok-closure.ensures.booleans)

pub put_stage-requires-clause-stages : goal.put_stage-requires-clause-stages
put_stage-requires-clause-stages c =
    let g = c.go_back.new.self in
    rw (c.deref.ensures.value, c.deref-2.ensures.value)
    (stages_grown c.args.sig.now g.table c.close_rest.new.table g.roots.items c.close_rest.new.roots.items g.split.items c.close_rest.new.split.items c.close_rest.ensures.grown c.close_rest.ensures.roots_grown c.close_rest.ensures.split_grown
    (reverse g.stages.items) c.go_back.ensures.base.stages)

pub returns-clause-closed : goal.returns-clause-closed
returns-clause-closed c =
    let g = c.go_back.new.self in
    let count : vec_len g.roots ≡ length g.roots.items = omega (arith, g.roots.ok.0) in
    let ids : c.after-further.result.now ≡ drop (length g.roots.items) c.args.asserts.now = c.after-further.ensures.value ∙ ap (λ k. drop k c.args.asserts.now) (c.len-2.ensures ∙ count) in
    let (earlier, before) = c.in_ok-closed.ensures.before in
    let rest = c.in_ok-closure.ensures.trees ∙ ap (terms_at c.args.table.now) ids in
    let exact = subst (λ (l : List TermId). (t : CoreTree) → HasTree c.close_rest.new.table t ↔ InClosure c.args.sig.now (terms_at g.table g.roots.items ++ terms_at c.args.table.now l) t) ids
    (c.in_ok-closure.ensures.exact earlier (terms_at g.table g.roots.items) before) in
    let variables = subst (λ (l : List TermId). HasVariables c.args.sig.now (terms_at g.table g.roots.items ++ terms_at c.args.table.now l) c.in_ok-closure.closure.variables) ids
    (c.in_ok-closure.ensures.variables earlier (terms_at g.table g.roots.items) before) in
    closed_for c.args.sig.now c.args.table.now g.table c.close_rest.new.table g.roots.items c.close_rest.new.roots.items c.args.asserts.now c.close_rest.ensures.grown c.close_rest.ensures.roots_grown c.core_trees.ensures.longer c.len-closed.ensures.ordered
    c.in_ok-closed.ensures.booleans c.in_ok-closed.ensures.same rest c.in_ok-closure.ensures.booleans _ c.in_ok-closure.closure refl refl c.close_rest.ensures.sorted exact c.in_ok-closure.ensures.closed c.in_ok-closure.ensures.splits c.in_ok-closure.ensures.rising variables c.in_ok-closure.ensures.few
