-- A name stands for what is looked up.
use Rattle.std.proofs.Common.{◌≡◌, ℕ, zero, suc, Bool, true, false, if◌then◌else◌, List, [], ◌∷◌, ◌++◌, slice_get, position, option_map, Option, Some, None, MatchOption, refl, sym, ap, subst}
use Rattle.std.specs.Str.{bytes_eq}
use Rattle.std.proofs.lemmas.Bool.{false≢true}
use Rattle.std.proofs.lemmas.Option.{none-some, same_Some}
use Rattle.std.proofs.lemmas.Slice.Eq.{bytes_eq-Decides}
use Rattle.ct_sorts.specs.declared.ids.Symbol.{Symbol}
use Rattle.ct_sorts.specs.declared.ids.Symbol.TheVariants.{Fun, Def}
use Rattle.ct_sorts.specs.Availability.{IsListed}
use Rattle.ct_sorts.specs.Consistent.{IsConsistent}
use Rattle.ct_sorts.specs.Declarations.{Declarations, head_symbols, function_names, definition_names}
use Rattle.ct_sorts.specs.Lookup.{ResolvesTo, names_of}
use Rattle.ct_sorts.specs.Symbols.{all_symbols}
use Rattle.ct_sorts.proofs.ResolvingLemmas.{all_resolve}
use Rattle.ct_sorts.proofs.SymbolNamesLemmas.{names_all}
use Rattle.ct_names.specs.Symbols.{beside, or_other, symbol_of}
use Rattle.ct_names.proofs.SymbolLemmas.{position-cases, unlisted-append}

-- what stands beside a name, or the name is not listed
beside_cases : {X : Type 0} (entries : List (List ℕ × X)) (name : List ℕ) → MatchOption (beside entries name) (IsListed (names_of entries) name → ⊥) (λ x. (n : ℕ) × (slice_get entries n ≡ Some (name, x)))
beside_cases [] name = λ listed. absurd (none-some name listed.1)
beside_cases {X} (entry ∷ entries) name = by (bytes_eq name entry.0) (bytes_eq-Decides name entry.0).0 (bytes_eq-Decides name entry.0).1 (beside_cases entries name)
  where
    rest : (o : Option X) → MatchOption o (IsListed (names_of entries) name → ⊥) (λ x. (n : ℕ) × (slice_get entries n ≡ Some (name, x))) → (name ≡ entry.0 → ⊥) → MatchOption o (IsListed (names_of (entry ∷ entries)) name → ⊥) (λ x. (n : ℕ) × (slice_get (entry ∷ entries) n ≡ Some (name, x)))
    rest None none other = λ listed. at listed.0 listed.1
      where
        at : (i : ℕ) → slice_get (names_of (entry ∷ entries)) i ≡ Some name → ⊥
        at zero e = other (sym (same_Some entry.0 name e))
        at (suc i) e = none (i, e)
    rest (Some x) found other = (suc found.0, found.1)

    by : (b : Bool) → (b ≡ true → name ≡ entry.0) → (name ≡ entry.0 → b ≡ true) → MatchOption (beside entries name) (IsListed (names_of entries) name → ⊥) (λ x. (n : ℕ) × (slice_get entries n ≡ Some (name, x))) → MatchOption (if b then Some entry.1 else beside entries name) (IsListed (names_of (entry ∷ entries)) name → ⊥) (λ x. (n : ℕ) × (slice_get (entry ∷ entries) n ≡ Some (name, x)))
    by true tells back others = (zero, ap (λ (text : List ℕ). Some (text, entry.1)) (sym (tells refl)))
    by false tells back others = rest (beside entries name) others (λ e. absurd (false≢true (back e)))

-- a name resolves to the symbol that is looked up: among constructors and selectors, then functions, then definitions
pub resolves : (d : Declarations) → IsConsistent d → (name : List ℕ) → ResolvesTo d name (symbol_of d name)
resolves d c name =
    by (beside (all_symbols d) name) (position (bytes_eq name) (function_names d)) (position (bytes_eq name) (definition_names d))
    (beside_cases (all_symbols d) name) (position-cases name (function_names d)) (position-cases name (definition_names d))
  where
    by : (s : Option Symbol) (f k : Option ℕ) → MatchOption s (IsListed (names_of (all_symbols d)) name → ⊥) (λ x. (n : ℕ) × (slice_get (all_symbols d) n ≡ Some (name, x)))
        → MatchOption f (IsListed (function_names d) name → ⊥) (λ i. slice_get (function_names d) i ≡ Some name)
        → MatchOption k (IsListed (definition_names d) name → ⊥) (λ i. slice_get (definition_names d) i ≡ Some name)
        → ResolvesTo d name (or_other s (or_other (option_map (λ n. Fun (record { 0 = n })) f) (option_map (λ n. Def (record { 0 = n })) k)))
    by (Some x) f k at_s at_f at_k = all_resolve d c at_s.0 (name, x) at_s.1
    by None (Some i) k at_s at_f at_k = at_f
    by None None (Some i) at_s at_f at_k = at_k
    by None None None at_s at_f at_k =
        unlisted-append name (head_symbols d.spellings) (function_names d ++ definition_names d) (subst (λ (names : List (List ℕ)). IsListed names name → ⊥) (names_all d c) at_s)
        (unlisted-append name (function_names d) (definition_names d) at_f at_k)
