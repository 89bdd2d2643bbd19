-- What a check of core terms says of the assertions whose core terms they are.
use Rattle.std.proofs.Common.{◌≡◌, ◌↔◌, List, [], ◌∷◌, drop, All, slice_get, sym, ap}
use Rattle.std.specs.List.{AllZip}
use Rattle.std.proofs.lemmas.Option.{none-some, same_Some}
use Rattle.ct_sorts.specs.Declarations.{Declarations, bool_sort}
use Rattle.ct_sorts.specs.Consistent.{IsConsistent}
use Rattle.ct_terms.specs.declared.ids.TermId.{TermId}
use Rattle.ct_terms.specs.Terms.{Terms}
use Rattle.ct_terms.specs.CoreTree.{CoreTree, term_at}
use Rattle.ct_formulas.specs.Compiled.{core_of}
use Rattle.ct_formulas.specs.Formula.{Formula}
use Rattle.ct_formulas.specs.FormulaSorts.{IsSorted, AreSound}
use Rattle.ct_closure.specs.ClosedTable.{terms_at}
use Rattle.ct_eval.specs.declared.interp.Interp.{Interp}
use Rattle.ct_eval.specs.Interpretation.{IsProper}
use Rattle.ct_meaning.specs.Meaning.{AllTrue}
use Rattle.ct_eval.specs.Truth.{Holds}
use Rattle.ct_stack.specs.Stack.{Context, core, cores}
use Rattle.ct_stack.specs.Held.{IsSoundLevel}
use Rattle.ct_step.specs.Verdict.{Satisfies}

-- the theorem on core terms of assertions
abbrev pub Assertions : Type 0
Assertions = (d : Declarations) (i : Interp) (bodies : List Formula) (terms : Terms) (ids : List TermId) (asserts : List Formula) → IsConsistent d → IsProper d i → AreSound d bodies → All (λ t. IsSorted d [] t bool_sort) asserts → AllZip (λ a t. term_at terms a ≡ core_of d bodies [] t) ids asserts → Holds d i terms ids ↔ AllTrue d i bodies asserts

-- two lists with one image are as long, and stand side by side
pub zipped : (c : Context) (table : Terms) (numbers : List TermId) (asserts : List Formula) → terms_at table numbers ≡ cores c asserts → AllZip (λ a t. term_at table a ≡ core_of c.declarations c.bodies [] t) numbers asserts
zipped c table [] [] e = tt
zipped c table [] (t ∷ asserts) e = absurd (none-some (core c t) (ap (λ (ts : List CoreTree). slice_get ts 0) e))
zipped c table (n ∷ numbers) [] e = absurd (none-some (term_at table n) (sym (ap (λ (ts : List CoreTree). slice_get ts 0) e)))
zipped c table (n ∷ numbers) (t ∷ asserts) e =
    (same_Some (term_at table n) (core c t) (ap (λ (ts : List CoreTree). slice_get ts 0) e), zipped c table numbers asserts (ap (λ (ts : List CoreTree). drop 1 ts) e))

-- core terms that no interpretation makes true are those of assertions that none makes true
pub no_model : Assertions → (c : Context) (asserts : List Formula) (table : Terms) (numbers : List TermId) → IsConsistent c.declarations → IsSoundLevel (record { context = c; assertions = asserts }) → terms_at table numbers ≡ cores c asserts → ((i : Interp) → IsProper c.declarations i → Holds c.declarations i table numbers → ⊥) → (i : Interp) → Satisfies c asserts i → ⊥
no_model assertions c asserts table numbers consistent sound asserted none i satisfies =
    none i satisfies.proper ((assertions c.declarations i c.bodies table numbers asserts consistent satisfies.proper sound.bodies sound.asserts (zipped c table numbers asserts asserted)).1 satisfies.holds)
