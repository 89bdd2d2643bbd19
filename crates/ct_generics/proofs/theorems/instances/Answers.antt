use Rattle.ct_generics.proofs.InstanceLemmas.{founded-more, sorts-founded}
use Rattle.ct_generics.proofs.theorems.instances.Goals as goal

pub returns : goal.returns
returns c =
    record {
      founded = λ heads have own e takes. sorts-founded heads have own e takes;
      more = λ heads more params e have takes founded. founded-more heads have more params e takes founded;
    }
