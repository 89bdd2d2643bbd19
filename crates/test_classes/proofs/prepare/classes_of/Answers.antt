use Rattle.std.proofs.lemmas.List.Elements.{All-contains}
use Rattle.ct_terms.specs.declared.ids.Lit.{Lit}
use Rattle.ct_terms.specs.Literal.{IsStripped}
use Rattle.test_classes.proofs.prepare.classes_of.Goals as goal

pub new-requires-clause-stripped : goal.new-requires-clause-stripped
new-requires-clause-stripped c = λ l inside.
    All-contains (λ (k : Lit). IsStripped c.args.table.now k.term) c.args.hyps.now l c.requires.stripped inside
