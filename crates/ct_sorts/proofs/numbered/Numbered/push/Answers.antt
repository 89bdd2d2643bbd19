use Rattle.std.proofs.Common.{◌≡◌, ℕ, List, [], ◌∷◌, ◌++◌, map, sym, ◌∙◌, ap, subst}
use Rattle.std.proofs.lemmas.List.{map-append}
use Rattle.ct_sorts.specs.Availability.{IsListed}
use Rattle.ct_sorts.specs.Lookup.{AreDistinct, names_of}
use Rattle.ct_sorts.proofs.NumberedLemmas.{pair_of, pairs_of, pairs_of-insert, names_of-entries, AreDistinct-push}
use Rattle.ct_sorts.proofs.numbered.Numbered.push.Given as given
use Rattle.ct_sorts.proofs.numbered.Numbered.push.Goals as goal

-- the name is new
fresh : (g : given.Over) (c : goal.Joined-branch-2 g) → IsListed (names_of (pairs_of c.self.inside.entries.entries)) c.into_vec.result.items → ⊥
fresh g c = subst (λ xs. IsListed (names_of xs) c.into_vec.result.items → ⊥) (sym c.self.view_is) (subst (λ name. IsListed (names_of c.args.self.now) name → ⊥) (sym c.into_vec.ensures.value) c.requires.fresh)

-- the map has one more entry at its end
last : (g : given.Over) (c : goal.Joined-branch-2 g) → c.insert.new.self.entries ≡ c.self.inside.entries.entries ++ (c.into_vec.result, c.args.value) ∷ []
last g c = c.in_ok-insert.ensures.entries ∙ pairs_of-insert c.self.inside.entries.entries c.into_vec.result c.args.value (fresh g c)

pub invariant_of-self-2 : goal.invariant_of-self-2
invariant_of-self-2 g c =
    let es = c.self.inside.entries.entries in
    subst AreDistinct (sym (ap (map (λ e. e.0.items)) (last g c) ∙ map-append (λ e. e.0.items) es ((c.into_vec.result, c.args.value) ∷ [])))
    (AreDistinct-push (map (λ e. e.0.items) es) c.into_vec.result.items c.self.invariant (subst (λ texts. IsListed texts c.into_vec.result.items → ⊥) (names_of-entries es) (fresh g c)))

pub returns-clause-ok : goal.returns-clause-ok
returns-clause-ok g c =
    let es = c.self.inside.entries.entries in
    ap pairs_of (last g c) ∙ map-append pair_of es ((c.into_vec.result, c.args.value) ∷ [])
    ∙ ap (λ xs. xs ++ (c.into_vec.result.items, c.args.value) ∷ []) c.self.view_is ∙ ap (λ (name : List ℕ). c.args.self.now ++ (name, c.args.value) ∷ []) c.into_vec.ensures.value
