use Rattle.std.proofs.Common.{List, Contains, sym, subst, ◌∙◌, refl, arith}
use Rattle.std.proofs.lemmas.List.Elements.{All-contains}
use Rattle.ct_terms.specs.declared.ids.Lit.{Lit}
use Rattle.ct_terms.specs.Terms.{Terms}
use Rattle.ct_terms.specs.Literal.{IsStripped}
use Rattle.test_classes.proofs.consult.show_consulted.Goals as goal

pub consult-requires-clause-stripped : goal.consult-requires-clause-stripped
consult-requires-clause-stripped c = λ l inside.
    subst (λ (t : Terms). IsStripped t l.term) (sym (c.in-Ok.ensures.terms ∙ c.deref-2.ensures))
    (All-contains (λ (k : Lit). IsStripped c.args.prepared.now.table.value k.term) c.args.prepared.now.hyps.items l c.requires.stripped
    (subst (λ (ls : List Lit). Contains ls l) c.deref-3.ensures.value inside))

pub consult-requires-clause-shared : goal.consult-requires-clause-shared
consult-requires-clause-shared c = record { left = omega arith; right = omega arith; same = refl }
