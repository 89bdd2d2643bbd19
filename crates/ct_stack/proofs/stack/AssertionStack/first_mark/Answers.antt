use Rattle.std.proofs.Common.{◌∙◌, Bool, reverse, sym, ap, subst}
use Rattle.ct_sorts.specs.Declarations.{start}
use Rattle.ct_stack.specs.Stack.{Context, Stack}
use Rattle.ct_stack.specs.Levels.{emptied, IsCutTo}
use Rattle.ct_stack.specs.Held.{level_in}
use Rattle.ct_stack.proofs.LevelLemmas.{context_now}
use Rattle.ct_stack.proofs.LeftLemmas.{cut_to_start}
use Rattle.ct_stack.proofs.stack.AssertionStack.first_mark.Goals as goal

pub returns-clause-cut : goal.returns-clause-cut
returns-clause-cut c =
    let s = c.self.inside in
    let now = c.args.self.now in
    subst (λ (b : Bool). IsCutTo now.top.context.declarations s.first (emptied b now).top.context.declarations) (sym c.if-global.false)
    (subst (λ (x : Context). IsCutTo x.declarations s.first start)
    (sym (context_now (level_in s.scope s.asserts.items) (reverse s.levels.items)) ∙ ap (λ (t : Stack). t.top.context) c.self.view_is)
    (cut_to_start c.stack_theorems.ensures.hold s.scope.sig s.first c.sorts.ensures.consistent c.self.invariant.first_consistent c.self.invariant.first_is))
