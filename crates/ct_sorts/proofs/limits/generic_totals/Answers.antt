use Rattle.std.proofs.Common.{◌≡◌, ◌<◌, ℕ, ap, subst, sym, ◌∙◌, arith}
use Rattle.ct_lemmas.proofs.Prefixes.{take-past}
use Rattle.ct_generics.specs.Denoted.{declared_of}
use Rattle.ct_sorts.specs.Limits.{generic_count, generic_ctors, generic_sels}
use Rattle.ct_sorts.proofs.TotalLemmas.{AreTotals-more, sorts_fit, ctors_fit, sels_fit}
use Rattle.ct_sorts.proofs.limits.generic_totals.Goals as goal

pub head_params-params-requires : goal.head_params-params-requires
head_params-params-requires c =
    let d = declared_of c.args.generics.now in
    record { within = (d, c.requires.declared, omega (arith, c.loop-h-test.true, c.head_count-h-end.ensures.count d c.requires.declared)) }

pub with_head-totals-requires : goal.with_head-totals-requires
with_head-totals-requires c =
    let d = declared_of c.args.generics.now in
    let head = c.head_params-params.ensures.params d c.requires.declared in
    let spellings = c.args.spellings.now in
    let totals = c.loop-h.totals in
    let n = c.loop-h.h in
    let are = c.loop-h.invariant in
    record {
      few = λ some. sorts_fit d.heads spellings totals n head.0 head.1 are (omega (arith, some, head.2)) c.requires.few;
      ctors_few = λ some. ctors_fit d.heads spellings totals n head.0 head.1 are (omega (arith, some, head.2)) c.requires.ctors_few;
      sels_few = λ some. sels_fit d.heads spellings totals n head.0 head.1 are (omega (arith, some, head.2)) c.requires.sels_few;
    }

pub loop-h-preserved : goal.loop-h-preserved
loop-h-preserved c =
    let d = declared_of c.args.generics.now in
    let head = c.head_params-params.ensures.params d c.requires.declared in
    AreTotals-more d.heads c.args.spellings.now c.loop-h.totals c.loop-h.h head.0 head.1 c.loop-h.invariant c.with_head-totals.result
    (λ none. c.with_head-totals.ensures.plain (head.2 ∙ none))
    (λ some. c.with_head-totals.ensures.sorts (omega (arith, some, head.2)))
    (λ some. c.with_head-totals.ensures.ctors (omega (arith, some, head.2)))
    (λ some. c.with_head-totals.ensures.sels (omega (arith, some, head.2)))

pub returns : goal.returns
returns c =
    let d = declared_of c.args.generics.now in
    let all = take-past c.loop-h.h d.heads (omega (arith, c.loop-h-test.false, c.head_count-h-end.ensures.count d c.requires.declared)) in
    record {
      sorts = c.loop-h.invariant.sorts ∙ ap generic_count all;
      ctors = c.loop-h.invariant.ctors ∙ ap (λ heads. generic_ctors heads c.args.spellings.now) all;
      sels = c.loop-h.invariant.sels ∙ ap (λ heads. generic_sels heads c.args.spellings.now) all;
    }
