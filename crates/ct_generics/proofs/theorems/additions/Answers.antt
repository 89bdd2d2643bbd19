use Rattle.ct_generics.proofs.AdditionLemmas.{Adds-same, is_addition}
use Rattle.ct_generics.proofs.theorems.additions.Goals as goal

pub returns : goal.returns
returns c =
    record {
      keeps = λ heads es before after adds. is_addition heads es before after adds;
      same = λ heads es before after other first second. Adds-same heads es before after other first second;
    }
