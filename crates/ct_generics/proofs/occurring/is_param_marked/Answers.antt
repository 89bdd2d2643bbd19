use Rattle.std.proofs.Common.{sym, ◌∙◌}
use Rattle.std.proofs.lemmas.Bool.{false≢true}
use Rattle.ct_generics.proofs.OccurrenceLemmas.{no_param, param_marked}
use Rattle.ct_generics.proofs.occurring.is_param_marked.Goals as goal

pub returns-in-None : goal.returns-in-None
returns-in-None c =
    record { occurs = λ row are. (λ h. absurd (false≢true h), λ occurs. absurd (no_param c.args.template.now row c.args.marks.now c.args.i c.in-None.ensures.none are occurs)) }

pub returns-in-Some : goal.returns-in-Some
returns-in-Some c =
    record {
      occurs = λ row are.
          let exactly = param_marked c.args.template.now row c.args.marks.now c.in-Some.n.0 c.args.i c.find.ensures.single c.in-Some.ensures.some are in
          (λ h. exactly.0 (sym c.is_marked.ensures.value ∙ h), λ occurs. c.is_marked.ensures.value ∙ exactly.1 occurs);
    }
