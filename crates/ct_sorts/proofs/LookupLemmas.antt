-- What the answers of look-ups say of the names.
use Rattle.std.proofs.Common.{◌≡◌, ℕ, ◌+◌, ◌⊎◌, ◌||◌, Bool, true, false, List, ◌++◌, length, map, slice_get, Option, Some, None, Decides, refl, sym, ◌∙◌, ap, subst, inl, inr, ⊎_elim, ◌<◌, IfSome, IfNone}
use Rattle.std.proofs.lemmas.Bool.{true≢false}
use Rattle.std.proofs.lemmas.Bool.Decides.{Decides-or, Decides-like}
use Rattle.std.proofs.lemmas.List.{length-map}
use Rattle.std.proofs.lemmas.Option.{slice_get_within}
use Rattle.ct_lemmas.proofs.Lists.{slice_get-append_after, slice_get-append_cases, slice_get-append_left}
use Rattle.ct_sorts.specs.declared.ids.Symbol.{Symbol}
use Rattle.ct_sorts.specs.declared.ids.Symbol.TheVariants.{Ctor, Sel, Fun, Def, GenCtor, GenSel}
use Rattle.ct_sorts.specs.Availability.{IsListed}
use Rattle.ct_sorts.specs.Declarations.{Declarations, Constructor, Selector, Function, head_symbols, function_names, definition_names, symbol_names}
use Rattle.ct_sorts.specs.Lookup.{ResolvesTo, IsSymbol}

pub IsListed-left : (xs ys : List (List ℕ)) (name : List ℕ) → IsListed xs name → IsListed (xs ++ ys) name
IsListed-left xs ys name found = (found.0, slice_get-append_left xs ys found.0 name found.1)

pub IsListed-right : (xs ys : List (List ℕ)) (name : List ℕ) → IsListed ys name → IsListed (xs ++ ys) name
IsListed-right xs ys name found = (length xs + found.0, slice_get-append_after xs ys found.0 ∙ found.1)

pub IsListed-either : (xs ys : List (List ℕ)) (name : List ℕ) → IsListed (xs ++ ys) name → IsListed xs name ⊎ IsListed ys name
IsListed-either xs ys name found = ⊎_elim (λ h. inl (found.0, h)) (λ h. inr (h.0, h.2)) (slice_get-append_cases xs ys found.0 name found.1)

-- what has a name is there
pub named_inside : {X : Type 0} (name_of : X → List ℕ) (xs : List X) (i : ℕ) (name : List ℕ) → slice_get (map name_of xs) i ≡ Some name → i < length xs
named_inside name_of xs i name at = subst (λ n. i < n) (length-map xs name_of) (slice_get_within (map name_of xs) i name at)

-- a name in none of the three lists is no symbol
pub no_symbol : (d : Declarations) (name : List ℕ) → (IsListed (head_symbols d.spellings) name → ⊥) → (IsListed (function_names d) name → ⊥) → (IsListed (definition_names d) name → ⊥) → IsListed (symbol_names d) name → ⊥
no_symbol d name no_head no_function no_definition found =
    ⊎_elim no_head (λ rest. ⊎_elim no_function no_definition (IsListed-either (function_names d) (definition_names d) name rest)) (IsListed-either (head_symbols d.spellings) _ name found)

-- a name is a symbol's exactly where it is in one of these
pub symbol_tested : (d : Declarations) (name : List ℕ) (first second third : Bool) → Decides first (IsListed (head_symbols d.spellings) name) → Decides second (IsListed (function_names d) name) → Decides third (IsListed (definition_names d) name) → Decides (first || (second || third)) (IsListed (symbol_names d) name)
symbol_tested d name first second third p q r =
    Decides-like (first || (second || third))
    (λ h. ⊎_elim (λ l. IsListed-left (head_symbols d.spellings) _ name l) (λ rest. IsListed-right (head_symbols d.spellings) _ name (⊎_elim (λ l. IsListed-left (function_names d) _ name l) (λ l. IsListed-right (function_names d) (definition_names d) name l) rest)) h)
    (λ h. ⊎_elim (λ l. inl l) (λ rest. inr (IsListed-either (function_names d) (definition_names d) name rest)) (IsListed-either (head_symbols d.spellings) _ name h))
    (Decides-or first (second || third) p (Decides-or second third q r))

-- what a name stands for is declared
pub symbol_inside : (d : Declarations) (name : List ℕ) (found : Option Symbol) → ResolvesTo d name found → IfSome found (IsSymbol d)
symbol_inside d name None absent = tt
symbol_inside d name (Some (Ctor c)) at = named_inside (λ (t : Constructor). t.name) d.ctors c.0 name at.0
symbol_inside d name (Some (Sel s)) at = named_inside (λ (t : Selector). t.name) d.sels s.0 name at.0
symbol_inside d name (Some (Fun f)) at = named_inside (λ (t : Function). t.name) d.functions f.0 name at
symbol_inside d name (Some (Def f)) at = named_inside (λ (t : Function). t.name) d.definitions f.0 name at
symbol_inside d name (Some (GenCtor g i)) at = (at.0, at.1)
symbol_inside d name (Some (GenSel g i k)) at = (at.0, at.1, slice_get_within at.0.fields k name at.2)

-- what was found, where no constructor and no selector has the name
pub resolves_from : (d : Declarations) (name : List ℕ) (found : Option Symbol) → (IsListed (head_symbols d.spellings) name → ⊥) → IfSome found (λ x. ResolvesTo d name (Some x)) → IfNone found ((IsListed (function_names d) name → ⊥) × (IsListed (definition_names d) name → ⊥)) → ResolvesTo d name found
resolves_from d name None absent some none = no_symbol d name absent none.0 none.1
resolves_from d name (Some x) absent some none = some

pub both_missing : (found : Option Symbol) (P Q : Type 0) → P → IfNone found Q → IfNone found (P × Q)
both_missing None P Q p none = (p, none)
both_missing (Some x) P Q p none = tt

-- a name is one of a sort, a generic or a synonym
pub declared_left : (heads synonyms : List (List ℕ)) (name : List ℕ) (h : ℕ) → slice_get heads h ≡ Some name → IsListed (heads ++ synonyms) name
declared_left heads synonyms name h at = IsListed-left heads synonyms name (h, at)
