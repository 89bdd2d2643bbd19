use Rattle.std.proofs.Common.{sym, ◌∙◌}
use Rattle.std.proofs.lemmas.Option.{none-some}
use Rattle.ct_congr.proofs.ListLemmas.{IfNone-from}
use Rattle.ct_congr.proofs.ConstructorLemmas.{different-none, different-found}
use Rattle.ct_congr.proofs.constructors.different.Goals as goal

pub returns-in_default-clause-none : goal.returns-in_default-clause-none
returns-in_default-clause-none c = λ reps n r k t shape below built.
    let h = shape.all t k below built in
    absurd (none-some h.0 (sym c.in_default.is ∙ h.1))

pub returns-then-is_built_by-clause-none : goal.returns-then-is_built_by-clause-none
returns-then-is_built_by-clause-none c =
    let mine = rw c.if-is_built_by.true at c.is_built_by.ensures.value in
    IfNone-from c.args.shape.other _ (λ none reps n r k t shape below built.
    different-none c.args.table.now reps n r c.args.shape c.in-Some.first c.args.c k t mine.0 c.in-Some.is mine.1 none shape below built)

pub returns-clause-found : goal.returns-clause-found
returns-clause-found c = λ reps n r shape.
    let apart = rw c.if-is_built_by.false at c.is_built_by.ensures.value in
    different-found c.args.table.now reps n r c.args.shape c.in-Some.first c.args.c c.in-Some.is apart shape
