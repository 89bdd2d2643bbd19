use Rattle.std.proofs.Common.{◌∙◌}
use Rattle.ct_lemmas.proofs.Pairs.{AllZip-one_length}
use Rattle.ct_generics.specs.Stored.{IsStoredSynonym}
use Rattle.ct_generics.proofs.generics.Generics.synonym_count.Goals as goal

pub returns : goal.returns
returns c = record { count = λ d is. c.len.ensures.len ∙ AllZip-one_length IsStoredSynonym c.args.self.now.synonyms d.synonyms is.stored_synonyms }
