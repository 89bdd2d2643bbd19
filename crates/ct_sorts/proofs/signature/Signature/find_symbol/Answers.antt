use Rattle.std.proofs.Common.{◌≡◌, ℕ, List, Option, Some, None, IfSome, IfNone, map, slice_get, refl, sym, ◌∙◌, ap, subst}
use Rattle.ct_sorts.specs.Availability.{IsListed}
use Rattle.ct_sorts.specs.Declarations.{Declarations, Function, head_symbols, function_names, definition_names}
use Rattle.ct_sorts.specs.declared.ids.Symbol.{Symbol}
use Rattle.ct_sorts.specs.Lookup.{ResolvesTo}
use Rattle.ct_sorts.specs.Stored.{function_of}
use Rattle.ct_sorts.specs.Tabled.{of_tables}
use Rattle.ct_sorts.proofs.StoredLemmas.{names_at}
use Rattle.ct_sorts.proofs.LookupLemmas.{resolves_from}
use Rattle.ct_sorts.proofs.ResolvingLemmas.{all_resolve, same_symbols}
use Rattle.ct_sorts.proofs.signature.Signature.find_symbol.Goals as goal

pub returns-in-Some : goal.returns-in-Some
returns-in-Some c =
    let t = c.self.inside.tables in
    let fs = map function_of c.self.inside.functions in
    let ds = map function_of c.self.inside.definitions in
    let found = c.in-Some.ensures.some in
    let at = ap (λ (xs : List (List ℕ × Symbol)). slice_get xs found.0) (same_symbols t fs ds ∙ sym c.self.invariant.tabled.resolved) ∙ found.1 in
    record { value = subst (λ (d : Declarations). ResolvesTo d c.args.name.now (Some c.in-Some.symbol)) c.self.view_is (all_resolve (of_tables t fs ds) c.self.invariant.consistent found.0 (c.args.name.now, c.in-Some.symbol) at) }

pub returns-in-None : goal.returns-in-None
returns-in-None c =
    let absent = subst (λ (d : Declarations). IsListed (head_symbols d.spellings) c.args.name.now → ⊥) c.self.view_is (subst (λ (xs : List (List ℕ)). IsListed xs c.args.name.now → ⊥) c.self.invariant.tabled.symbols c.in-None.ensures.none) in
    record { value = resolves_from c.args.self.now c.args.name.now c.find_function.result absent c.find_function.ensures.some c.find_function.ensures.none }
