use Rattle.std.proofs.Common.{◌≡◌, ℕ, List, Option, Some, None, IfSome, IfNone, map, slice_get, refl, sym, ◌∙◌, ap, subst}
use Rattle.ct_sorts.specs.Availability.{IsListed}
use Rattle.ct_sorts.specs.Declarations.{Declarations, Function, head_symbols, function_names, definition_names}
use Rattle.ct_sorts.specs.declared.ids.Symbol.{Symbol}
use Rattle.ct_sorts.specs.Lookup.{ResolvesTo}
use Rattle.ct_sorts.specs.Stored.{function_of}
use Rattle.ct_sorts.specs.Tabled.{of_tables}
use Rattle.ct_sorts.proofs.StoredLemmas.{names_at}
use Rattle.ct_sorts.proofs.LookupLemmas.{both_missing}
use Rattle.ct_sorts.proofs.signature.Signature.find_function.Goals as goal

pub returns-in-Some : goal.returns-in-Some
returns-in-Some c =
    record {
      some = subst (λ (d : Declarations). slice_get (function_names d) c.in-Some.index ≡ Some c.args.name.now) c.self.view_is (ap (λ (xs : List (List ℕ)). slice_get xs c.in-Some.index) (names_at function_of (λ (t : Function). t.name) c.self.inside.functions (λ _. refl)) ∙ c.in-Some.ensures.listed);
      none = tt;
    }

pub returns-in-None : goal.returns-in-None
returns-in-None c =
    let absent = subst (λ (d : Declarations). IsListed (function_names d) c.args.name.now → ⊥) c.self.view_is (subst (λ (xs : List (List ℕ)). IsListed xs c.args.name.now → ⊥) (sym (names_at function_of (λ (t : Function). t.name) c.self.inside.functions (λ _. refl))) c.in-None.ensures.listed) in
    record { some = c.find_definition.ensures.some; none = both_missing c.find_definition.result _ _ absent c.find_definition.ensures.none }
