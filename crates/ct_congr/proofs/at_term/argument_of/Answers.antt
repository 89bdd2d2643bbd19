use Rattle.std.proofs.Common.{◌≡◌, List, slice_get, length, sym, ap, subst, ◌∙◌}
use Rattle.ct_terms.specs.declared.ids.TermId.{TermId}
use Rattle.ct_terms.specs.declared.term.Core.{Core}
use Rattle.ct_terms.specs.declared.term.Core.TheVariants.{Con}
use Rattle.ct_terms.specs.Terms.{Has, HasArgumentsBelow}
use Rattle.ct_congr.proofs.TermLemmas.{Has-constructor, argument_below}
use Rattle.ct_congr.proofs.at_term.argument_of.Goals as goal

pub returns-in-Con : goal.returns-in-Con
returns-in-Con c =
    let terms = c.args.table.now in
    let stands : Has terms (Con c.in-Con.field-0 c.in-Con.args) c.args.con.0 = rw (← c.in-Con.is) c.core.ensures.value in
    let below : HasArgumentsBelow (length terms) (Con c.in-Con.field-0 c.in-Con.args) = subst (λ (q : Core). HasArgumentsBelow (length terms) q) c.in-Con.is c.core.ensures.inside in
    let read : c.argument_at.result ≡ slice_get c.in-Con.args c.args.place = rw c.as_slice.ensures.value at c.argument_at.ensures.value in
    record {
      value = λ y. (
        λ is. (c.in-Con.field-0, c.in-Con.args, stands, sym read ∙ is),
        λ h.
            let same = (Has-constructor terms c.in-Con.field-0 h.0 c.in-Con.args h.1 c.args.con.0 stands h.2).1 in
            read ∙ (ap (λ (list : List TermId). slice_get list c.args.place) same ∙ h.3),
      );
      inside = λ y is. argument_below (length terms) c.in-Con.args c.args.place y below (sym read ∙ is);
    }
