use Rattle.ct_terms.proofs.TableLemmas.{IsOfSort-values_of}
use Rattle.ct_terms.proofs.table.TermTable.sort.Goals as goal

pub returns : goal.returns
returns c =
    record {
      value = rw (← c.self.view_is) (IsOfSort-values_of c.self.inside.terms.entries c.args.t.0 c.index.result.now c.index.ensures);
    }
