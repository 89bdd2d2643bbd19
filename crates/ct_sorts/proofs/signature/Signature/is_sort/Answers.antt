use Rattle.std.proofs.Common.{◌≡◌, ◌↔◌, ℕ, List, Some, map, slice_get, IsTrue, refl, sym, ◌∙◌, ap, subst, ⊎_elim}
use Rattle.ct_lemmas.proofs.Lists.{slice_get-map_at, slice_get-map_source}
use Rattle.ct_generics.specs.Declarations.{Head, Synonym}
use Rattle.ct_generics.specs.Denoted.{declared_of}
use Rattle.ct_sorts.specs.Availability.{IsListed}
use Rattle.ct_sorts.specs.Declarations.{Declarations, declared_names}
use Rattle.ct_sorts.proofs.LookupLemmas.{IsListed-left, IsListed-right, IsListed-either}
use Rattle.ct_sorts.proofs.signature.Signature.is_sort.Goals as goal

pub returns-in-Some : goal.returns-in-Some
returns-in-Some c =
    let d = declared_of c.self.inside.tables.generics in
    let found = c.in-Some.ensures.some d c.self.invariant.tabled.declared in
    let heads = map (λ (h : Head). h.name) d.heads in
    let synonyms = map (λ (s : Synonym). s.name) d.synonyms in
    let listed = subst (λ (x : Declarations). IsListed (declared_names x) c.args.name.now) c.self.view_is (IsListed-left heads synonyms c.args.name.now (_, slice_get-map_at (λ (h : Head). h.name) d.heads _ found.0 found.1 ∙ ap Some found.2)) in
    record { sort = (λ _. listed, λ _. refl) }

pub returns-in-None : goal.returns-in-None
returns-in-None c =
    let d = declared_of c.self.inside.tables.generics in
    let name = c.args.name.now in
    let heads = map (λ (h : Head). h.name) d.heads in
    let synonyms = map (λ (s : Synonym). s.name) d.synonyms in
    let result = c.synonym_named.result in
    let absent = c.in-None.ensures.none d c.self.invariant.tabled.declared in
    let told = subst (λ (names : List (List ℕ)). IsTrue result ↔ IsListed names name) c.self.invariant.tabled.declared.synonym_names_are c.synonym_named.ensures.listed in
    record {
      sort = subst (λ (x : Declarations). IsTrue result ↔ IsListed (declared_names x) name) c.self.view_is (
        λ h. IsListed-right heads synonyms name (told.0 h),
        λ listed. ⊎_elim (λ left. let found = slice_get-map_source (λ (h : Head). h.name) d.heads left.0 name left.1 in absurd (absent left.0 found.0 found.1 found.2)) (λ right. told.1 right) (IsListed-either heads synonyms name listed),
      );
    }
