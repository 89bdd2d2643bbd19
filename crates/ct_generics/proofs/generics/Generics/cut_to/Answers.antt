use Rattle.ct_generics.specs.declared.generics.Generics.{Generics}
use Rattle.ct_generics.proofs.DeclareLemmas.{AreDeclared-first}
use Rattle.ct_generics.proofs.generics.Generics.cut_to.Goals as goal

pub returns : goal.returns
returns c =
    let new : Generics = record { heads = c.truncate.new.self; head_names = c.truncate-2.new.self; synonyms = c.truncate-3.new.self; synonym_names = c.truncate-4.new.self } in
    record { first = λ d is. AreDeclared-first c.args.self.now new d c.args.heads c.args.synonyms is c.truncate.ensures.first c.truncate-2.ensures.first c.truncate-3.ensures.first c.truncate-4.ensures.first }
