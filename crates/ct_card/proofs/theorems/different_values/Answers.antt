use Rattle.std.proofs.Common.{false}
use Rattle.ct_card.proofs.PathLemmas.{Agrees}
use Rattle.ct_card.proofs.NthLemmas.{nth_one, nth_same}
use Rattle.ct_card.proofs.UniqueLemmas.{single_not_infinite}
use Rattle.ct_card.proofs.theorems.different_values.Goals as goal

pub returns : goal.returns
returns c =
    let laws : Agrees = record { always = c.agreement.ensures.always; turned = c.agreement.ensures.turned; grown = c.agreement.ensures.always_grown } in
    record {
      different = λ d table s m n p q a b same. nth_one laws d table.ctors table.seconds table.layers a.0 b.0 false s m n p q same a.1 b.1;
      same = λ d table s n p q a same. (a.0, nth_same laws d table.ctors table.seconds table.layers a.0 false s n p q same a.1);
      several = λ d s infinite single. single_not_infinite d s single infinite;
    }
