use Rattle.std.proofs.Common.{◌≡◌, ℕ, List, [], ◌∷◌, ◌++◌, length, map, refl, sym, ◌∙◌, ap, subst, inl, arith}
use Rattle.std.proofs.lemmas.Bool.{true≢false}
use Rattle.std.proofs.lemmas.List.{length-map, map-append}
use Rattle.ct_sorts.specs.declared.ids.SortId.{SortId}
use Rattle.ct_sorts.specs.Availability.{IsListed, IsUnavailable}
use Rattle.ct_sorts.specs.Declarations.{Declarations, Function, head_symbols, function_names, symbol_names, with_function}
use Rattle.ct_sorts.specs.Consistent.{IsConsistent}
use Rattle.ct_sorts.specs.Stored.{function_of}
use Rattle.ct_sorts.specs.Tabled.{of_tables}
use Rattle.ct_sorts.proofs.StoredLemmas.{names_at}
use Rattle.ct_sorts.proofs.LookupLemmas.{IsListed-left, IsListed-right}
use Rattle.ct_sorts.proofs.ConsistentLemmas.{IsConsistent-with_function}
use Rattle.ct_sorts.proofs.signature.Signature.add_fun.Goals as goal

-- a name among these is a symbol
symbol : (d : Declarations) (name : List ℕ) → IsListed (function_names d) name → IsListed (symbol_names d) name
symbol d name h = IsListed-right (head_symbols d.spellings) _ name (IsListed-left (function_names d) _ name h)

pub push-requires : goal.push-requires
push-requires c =
    let fresh : IsListed (function_names c.args.self.now) c.args.name → ⊥ = λ h. true≢false (sym (c.if-is_unavailable_name.ensures.unavailable.1 (inl (symbol c.args.self.now c.args.name h)))) in
    record { fresh = subst (λ xs. IsListed xs c.args.name → ⊥) (names_at function_of (λ (f : Function). f.name) c.self.inside.functions (λ _. refl)) (subst (λ d. IsListed (function_names d) c.args.name → ⊥) (sym c.self.view_is) fresh) }

-- the name may be declared
available : (c : goal.In_ok-push) → IsUnavailable (symbol_names c.args.self.now) c.args.name → ⊥
available c h = true≢false (sym (c.if-is_unavailable_name.ensures.unavailable.1 h))

-- what is declared
abbrev function : goal.In_ok-push → Function
function c = record { name = c.args.name; args = c.args.args.items; result = c.args.sort }

-- the number of these is the number of entries
counted : (c : goal.In_ok-push) → c.len-count.result ≡ length c.args.self.now.functions
counted c = c.len-count.ensures.len ∙ sym (length-map c.self.inside.functions function_of) ∙ ap (λ (d : Declarations). length d.functions) c.self.view_is

-- the map has one more at its end
one_more : (c : goal.In_ok-push) → of_tables c.self.inside.tables (map function_of c.push.new.self) (map function_of c.self.inside.definitions) ≡ with_function c.args.self.now (function c)
one_more c =
    let old = c.self.inside in
    let put : map function_of c.push.new.self ≡ map function_of old.functions ++ function c ∷ [] =
    ap (map function_of) c.in_ok-push.ensures.ok ∙ map-append function_of old.functions _ ∙ ap (λ (args : List SortId). map function_of old.functions ++ record { name = c.args.name; args = args; result = c.args.sort } ∷ []) c.new-args.ensures.value in
    ap (λ fs. of_tables old.tables fs (map function_of old.definitions)) put ∙ ap (λ d. with_function d (function c)) c.self.view_is

pub invariant_of-self-2 : goal.invariant_of-self-2
invariant_of-self-2 c =
    let consistent : IsConsistent c.args.self.now = subst IsConsistent c.self.view_is c.self.invariant.consistent in
    record { consistent = subst IsConsistent (sym (one_more c)) (IsConsistent-with_function c.args.self.now (function c) consistent (available c) (omega (arith, counted c)) (c.requires.args, c.requires.sort)); tabled = c.self.invariant.tabled }

pub returns-clause-ok : goal.returns-clause-ok
returns-clause-ok c = (counted c, one_more c)
