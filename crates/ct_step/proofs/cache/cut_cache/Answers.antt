use Rattle.std.proofs.Common.{◌∙◌, sym, subst}
use Rattle.ct_sorts.specs.Declarations.{Declarations}
use Rattle.ct_step.specs.Cache.{IsCacheOf}
use Rattle.ct_step.proofs.CutLemmas.{popped_same}
use Rattle.ct_step.proofs.cache.cut_cache.Goals as goal

pub returns-in_default-clause-cut : goal.returns-in_default-clause-cut
returns-in_default-clause-cut c = λ within.
    subst (λ (d : Declarations). IsCacheOf d c.args.cache.now)
    (sym (popped_same c.args.global c.args.count c.args.stack.now (sym (c.mark_below.ensures.mark within) ∙ c.in_default.is)))
    c.requires.cache
