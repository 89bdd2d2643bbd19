use Rattle.std.proofs.Common.{◌≡◌, List, ℕ, [], ◌∷◌, ◌++◌, sym, ap, subst, ◌∙◌}
use Rattle.ct_generics.specs.Names.{AreDistinct, IsListed}
use Rattle.ct_generics.proofs.NameTableLemmas.{names_in, names_in-insert, AreDistinct-push}
use Rattle.ct_generics.proofs.names.Names.push.Goals as goal

-- the name is new
fresh : (c : goal.In_ok-insert) → IsListed (names_in c.self.inside.entries.entries) c.into_vec.result.items → ⊥
fresh c = subst (λ names. IsListed names c.into_vec.result.items → ⊥) (sym c.self.view_is) (subst (λ (name : List ℕ). IsListed c.args.self.now name → ⊥) (sym c.into_vec.ensures.value) c.requires.fresh)

-- it comes last
last : (c : goal.In_ok-insert) → names_in c.insert.new.self.entries ≡ names_in c.self.inside.entries.entries ++ c.into_vec.result.items ∷ []
last c = ap names_in c.in_ok-insert.ensures.entries ∙ names_in-insert c.self.inside.entries.entries c.into_vec.result tt (fresh c)

pub invariant_of-self-2 : goal.invariant_of-self-2
invariant_of-self-2 c =
    subst AreDistinct (sym (last c)) (AreDistinct-push (names_in c.self.inside.entries.entries) c.into_vec.result.items c.self.invariant (fresh c))

pub returns-clause-ok : goal.returns-clause-ok
returns-clause-ok c =
    last c ∙ ap (λ (names : List (List ℕ)). names ++ c.into_vec.result.items ∷ []) c.self.view_is ∙ ap (λ (name : List ℕ). c.args.self.now ++ name ∷ []) c.into_vec.ensures.value
