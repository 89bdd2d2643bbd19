use Rattle.ct_card.proofs.DescentLemmas.{leads_end}
use Rattle.ct_card.proofs.descent.wanted_below.Goals as goal

pub returns-in-Constructor-clause-leads : goal.returns-in-Constructor-clause-leads
returns-in-Constructor-clause-leads c = λ below e.
    let h = c.less_by_one.ensures.leads below e in
    leads_end c.args.layer c.args.wanted below.wanted below.set c.in-Constructor.field-0 c.in-Constructor.is h.0 h.1 h.2
