use Rattle.std.proofs.Common.{◌≡◌, ℕ, List, Decides, refl, sym, ◌∙◌, ap, subst}
use Rattle.ct_sorts.specs.Availability.{IsListed}
use Rattle.ct_sorts.specs.Declarations.{Declarations, Function, head_symbols, function_names, definition_names}
use Rattle.ct_sorts.specs.Stored.{function_of}
use Rattle.ct_sorts.proofs.StoredLemmas.{names_at}
use Rattle.ct_sorts.proofs.LookupLemmas.{symbol_tested}
use Rattle.ct_sorts.proofs.signature.Signature.is_symbol.Goals as goal

pub returns : goal.returns
returns c =
    let d = c.args.self.now in
    let name = c.args.name.now in
    let heads : Decides c.has-first.result (IsListed (head_symbols d.spellings) name) = subst (λ (x : Declarations). Decides c.has-first.result (IsListed (head_symbols x.spellings) name)) c.self.view_is (subst (λ xs. Decides c.has-first.result (IsListed xs name)) c.self.invariant.tabled.symbols c.has-first.ensures.listed) in
    let functions : Decides c.has-second.result (IsListed (function_names d) name) = subst (λ (x : Declarations). Decides c.has-second.result (IsListed (function_names x) name)) c.self.view_is (subst (λ xs. Decides c.has-second.result (IsListed xs name)) (sym (names_at function_of (λ (t : Function). t.name) c.self.inside.functions (λ _. refl))) c.has-second.ensures.listed) in
    let definitions : Decides c.has-third.result (IsListed (definition_names d) name) = subst (λ (x : Declarations). Decides c.has-third.result (IsListed (definition_names x) name)) c.self.view_is (subst (λ xs. Decides c.has-third.result (IsListed xs name)) (sym (names_at function_of (λ (t : Function). t.name) c.self.inside.definitions (λ _. refl))) c.has-third.ensures.listed) in
    record { symbol = rw c.any_of.ensures.value (symbol_tested d name c.has-first.result c.has-second.result c.has-third.result heads functions definitions) }
