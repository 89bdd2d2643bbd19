use Rattle.std.proofs.Common.{◌≡◌, ℕ, Some, Option, MatchOption, slice_get, sym, ◌∙◌, ap, subst}
use Rattle.ct_sorts.specs.Availability.{IsListed}
use Rattle.ct_sorts.specs.Lookup.{names_of, index_of}
use Rattle.ct_sorts.proofs.NumberedLemmas.{index_of-pairs, index_of-cases}
use Rattle.ct_sorts.proofs.numbered.Numbered.index_of.Goals as goal

pub returns-clause-index : goal.returns-clause-index
returns-clause-index g c =
    c.get_index_of.ensures.index ∙ index_of-pairs c.self.inside.entries.entries c.args.name.now ∙ ap (λ xs. index_of (names_of xs) c.args.name.now) c.self.view_is

pub returns-clause-listed : goal.returns-clause-listed
returns-clause-listed g c =
    let names = names_of c.args.self.now in
    let name = c.args.name.now in
    let found : c.get_index_of.result ≡ index_of names name = c.get_index_of.ensures.index ∙ index_of-pairs c.self.inside.entries.entries name ∙ ap (λ xs. index_of (names_of xs) name) c.self.view_is in
    subst (λ (r : Option ℕ). MatchOption r (IsListed names name → ⊥) (λ index. slice_get names index ≡ Some name)) (sym found) (index_of-cases names name)
