use Rattle.ct_generics.proofs.WellFormedLemmas.{Adds-takes, Takes-more, head_at-more, fields_of-more, text_length-more}
use Rattle.std.proofs.Common.{arith}
use Rattle.ct_generics.proofs.InstanceLemmas.{own-takes}
use Rattle.ct_generics.proofs.MeaningLemmas.{resolved-takes}
use Rattle.ct_generics.proofs.FormedLemmas.{block-formed, synonym-formed}
use Rattle.ct_generics.proofs.theorems.expressions.Goals as goal

pub returns : goal.returns
returns c =
    record {
      resolved = λ d params expr e formed below is. resolved-takes d formed params expr below e is;
      block = λ d kind block own formed below is. block-formed d kind block own formed below is;
      synonym = λ d s formed is. synonym-formed d s formed is;
      added = λ heads es before after have adds es_are are. Adds-takes heads have es before after adds es_are are;
      more = λ heads more params e is. Takes-more heads more params 0 e is;
      head = λ heads more params e is. head_at-more heads more params 0 e is;
      fields = λ heads more params e is. fields_of-more heads more params e is;
      text = λ heads more params e is. text_length-more heads more params 0 e is;
      own = λ heads h head at. own-takes heads head.params h head at (omega arith);
    }
