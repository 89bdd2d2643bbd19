use Rattle.std.proofs.Common.{List, ℕ, [], ◌∷◌, ◌++◌, ap, refl, ◌∙◌}
use Rattle.ct_generics.specs.declared.generics.Generics.{Generics}
use Rattle.ct_generics.proofs.DeclareLemmas.{AreDeclared-synonym}
use Rattle.ct_generics.proofs.synonym.store_synonym.Goals as goal

pub returns-in-Ok-clause-ok : goal.returns-in-Ok-clause-ok
returns-in-Ok-clause-ok c d s is of =
    let old = c.args.g.now in
    let new : Generics = record { heads = old.heads; head_names = old.head_names; synonyms = c.push.new.self; synonym_names = c.push-2.new.self } in
    AreDeclared-synonym old new d c.args.synonym s is of refl refl c.in_ok-push.ensures.ok
    (c.in-Ok.ensures.ok ∙ ap (λ (x : List ℕ). old.synonym_names ++ x ∷ []) (c.in_ok-listed.ensures.ok ∙ c.as_slice.ensures.value))
