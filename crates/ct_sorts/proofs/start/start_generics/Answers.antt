use Rattle.std.proofs.Common.{◌≡◌, ℕ, List, [], ◌∷◌, subst}
use Rattle.ct_generics.specs.declared.kind.Kind.TheVariants.{Bool as OfBool}
use Rattle.ct_generics.specs.Stored.{AreDeclared}
use Rattle.ct_sorts.proofs.start.start_generics.Goals as goal

pub returns-clause-declared : goal.returns-clause-declared
returns-clause-declared c =
    subst (λ (name : List ℕ). AreDeclared c.add_named.new.g (record { heads = record { name = name; kind = OfBool; params = 0; ctors = [] } ∷ []; synonyms = [] })) c.in_ok-name.ensures.ok
    (c.in_ok-add_named.ensures.ok (record { heads = []; synonyms = [] }) c.new-generics.ensures.nothing)
