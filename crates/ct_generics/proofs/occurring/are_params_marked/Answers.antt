use Rattle.std.proofs.Common.{sym, subst, ⊎_elim}
use Rattle.ct_lemmas.proofs.Numbers.{last_or_before}
use Rattle.ct_generics.specs.Occurrence.{OccursIn}
use Rattle.ct_generics.proofs.occurring.are_params_marked.Goals as goal

pub loop-i-preserved : goal.loop-i-preserved
loop-i-preserved c row k are less =
    ⊎_elim (λ before. c.loop-i.invariant row k are before)
    (λ last. subst (OccursIn row) (sym last) ((c.is_param_marked.ensures.occurs row are).0 c.if-not-is_param_marked.false)) (last_or_before k c.loop-i.i less)
