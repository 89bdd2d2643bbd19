use Rattle.std.proofs.Common.{ap, sym, ◌∙◌, option_map, Some, None}
use Rattle.ct_generics.specs.Resolved.{a_synonym}
use Rattle.ct_generics.proofs.ReachedLemmas.{IfSome-map, IfNone-map}
use Rattle.ct_generics.proofs.NameTableLemmas.{named_synonym-is}
use Rattle.ct_generics.proofs.place.find_synonym.Goals as goal

pub returns-in-Some-clause-some : goal.returns-in-Some-clause-some
returns-in-Some-clause-some c =
    IfSome-map c.synonym_place.result _ _ (λ place known d is.
    let found = known d is in
    (a_synonym found.0, named_synonym-is d.synonyms c.args.g.now.synonym_names c.args.name.now (Some c.in-Some.i) is.synonym_names_are (sym c.find.ensures.place ∙ c.in-Some.is) ∙ ap (option_map a_synonym) found.1, found.2)) c.synonym_place.ensures.some

pub returns-in-Some-clause-none : goal.returns-in-Some-clause-none
returns-in-Some-clause-none c =
    IfNone-map c.synonym_place.result _ _ (λ known d is. named_synonym-is d.synonyms c.args.g.now.synonym_names c.args.name.now (Some c.in-Some.i) is.synonym_names_are (sym c.find.ensures.place ∙ c.in-Some.is) ∙ ap (option_map a_synonym) (known d is)) c.synonym_place.ensures.none

pub returns-in-None-clause-none : goal.returns-in-None-clause-none
returns-in-None-clause-none c d is =
    named_synonym-is d.synonyms c.args.g.now.synonym_names c.args.name.now None is.synonym_names_are (sym c.find.ensures.place ∙ c.in-None.is)
