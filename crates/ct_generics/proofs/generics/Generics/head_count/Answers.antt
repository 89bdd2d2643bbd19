use Rattle.std.proofs.Common.{◌∙◌}
use Rattle.ct_lemmas.proofs.Pairs.{AllZip-one_length}
use Rattle.ct_generics.specs.Stored.{IsStored}
use Rattle.ct_generics.proofs.generics.Generics.head_count.Goals as goal

pub returns : goal.returns
returns c = record { count = λ d is. c.len.ensures.len ∙ AllZip-one_length IsStored c.args.self.now.heads d.heads is.stored }
