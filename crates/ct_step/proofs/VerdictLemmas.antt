-- A verdict that is right of core terms in a table is right of the assertions.
use Rattle.std.proofs.Common.{◌≡◌, ◌∙◌, ◌↔◌, ◌⊎◌, inl, inr, ℕ, suc, ◌≤◌, ◌^◌, List, [], ◌∷◌, drop, All, slice_get, Ok, codes, sym, ap, subst}
use Rattle.std.specs.List.{AllZip}
use Rattle.std.proofs.lemmas.Option.{none-some, same_Some}
use Rattle.ct_sorts.specs.Declarations.{Declarations, bool_sort}
use Rattle.ct_sorts.specs.Consistent.{IsConsistent}
use Rattle.ct_terms.specs.declared.ids.TermId.{TermId}
use Rattle.ct_terms.specs.Terms.{Terms}
use Rattle.ct_terms.specs.CoreTree.{CoreTree, term_at}
use Rattle.ct_formulas.specs.Compiled.{core_of}
use Rattle.ct_formulas.specs.Formula.{Formula}
use Rattle.ct_formulas.specs.FormulaSorts.{IsSorted, AreSound}
use Rattle.ct_closure.specs.Closed.{InClosure, HasMoreThan, HasVariables, most_closure_terms}
use Rattle.ct_closure.specs.ClosedTable.{HasTree, terms_at}
use Rattle.ct_eval.specs.declared.interp.Interp.{Interp}
use Rattle.ct_eval.specs.Interpretation.{IsProper}
use Rattle.ct_meaning.specs.Meaning.{AllTrue}
use Rattle.ct_eval.specs.Truth.{Holds}
use Rattle.ct_command.specs.Command.{check_sat}
use Rattle.ct_engine.specs.declared.verdict.Verdict.{Verdict}
use Rattle.ct_engine.specs.declared.verdict.Verdict.TheVariants.{Sat, Unsat, Unknown}
use Rattle.ct_engine.specs.Verdict.{IsVerdict, IsDecisive}
use Rattle.ct_stack.specs.Stack.{Context, core, in_force, cores}
use Rattle.ct_step.specs.Numbers.{closure_too_large}
use Rattle.ct_step.specs.Options.{budget}
use Rattle.ct_step.specs.State.{State, context_of, declared}
use Rattle.ct_step.specs.Step.{CommandEffect, Steps, word_of}
use Rattle.ct_step.specs.Verdict.{IsRight}
use Rattle.ct_step.proofs.CauseLemmas.{no_last}

-- the theorem on core terms of assertions
abbrev pub Assertions : Type 0
Assertions = (d : Declarations) (i : Interp) (bodies : List Formula) (terms : Terms) (ids : List TermId) (asserts : List Formula) → IsConsistent d → IsProper d i → AreSound d bodies → All (λ t. IsSorted d [] t bool_sort) asserts → AllZip (λ a t. term_at terms a ≡ core_of d bodies [] t) ids asserts → Holds d i terms ids ↔ AllTrue d i bodies asserts

-- two lists with one image are as long, and stand side by side
zipped : (c : Context) (table : Terms) (numbers : List TermId) (asserts : List Formula) → terms_at table numbers ≡ cores c asserts → AllZip (λ a t. term_at table a ≡ core_of c.declarations c.bodies [] t) numbers asserts
zipped c table [] [] e = tt
zipped c table [] (t ∷ asserts) e = absurd (none-some (core c t) (ap (λ (ts : List CoreTree). slice_get ts 0) e))
zipped c table (n ∷ numbers) [] e = absurd (none-some (term_at table n) (sym (ap (λ (ts : List CoreTree). slice_get ts 0) e)))
zipped c table (n ∷ numbers) (t ∷ asserts) e =
    (same_Some (term_at table n) (core c t) (ap (λ (ts : List CoreTree). slice_get ts 0) e), zipped c table numbers asserts (ap (λ (ts : List CoreTree). drop 1 ts) e))

module _ (assertions : Assertions) (c : Context) (asserts : List Formula) (table : Terms) (numbers : List TermId) (consistent : IsConsistent c.declarations) (sound : AreSound c.declarations c.bodies) (sorted : All (λ t. IsSorted c.declarations [] t bool_sort) asserts) (stand : terms_at table numbers ≡ cores c asserts) where
  side : AllZip (λ a t. term_at table a ≡ core_of c.declarations c.bodies [] t) numbers asserts
  side = zipped c table numbers asserts stand

  pub truth : (i : Interp) → IsProper c.declarations i → Holds c.declarations i table numbers ↔ AllTrue c.declarations i c.bodies asserts
  truth i proper = assertions c.declarations i c.bodies table numbers asserts consistent proper sound sorted side

  pub right : (budget : ℕ) (v : Verdict) → IsVerdict c.declarations table numbers budget v → IsRight c asserts budget v
  right budget (Sat i) h = record { proper = h.proper; holds = (truth i h.proper).0 h.holds }
  right budget (Unsat derived) h =
      record {
        declarations = h.declarations;
        is_table = h.is_table;
        sorted = h.sorted;
        asserted = h.asserted ∙ stand;
        passes = h.passes;
        no_model = λ i satisfies. h.no_model i satisfies.proper ((truth i satisfies.proper).1 satisfies.holds);
      }
  right budget (Unknown spent) h =
      record {
        declarations = h.declarations;
        asserted = h.asserted ∙ stand;
        closure = subst (λ (rs : List CoreTree). (t : CoreTree) → HasTree spent.derivation.rec.terms t ↔ InClosure c.declarations rs t) stand h.closure;
        variables = subst (λ (rs : List CoreTree). HasVariables c.declarations rs spent.variables) stand h.variables;
        allowed = h.allowed;
        below = h.below;
        recorded = h.recorded;
      }

-- the answer of a check that is decided
pub decided_text : (s : State) (number line variables : ℕ) (e : CommandEffect) → Steps s number line (Ok check_sat) e → (HasMoreThan (declared s) (cores (context_of s) (in_force s.stack)) most_closure_terms → ⊥) → HasVariables (declared s) (cores (context_of s) (in_force s.stack)) variables → 2 ^ variables ≤ suc (budget s.options) → (e.text ≡ codes "sat") ⊎ (e.text ≡ codes "unsat")
decided_text s number line variables e (inl refused) fits has enough =
    absurd (no_last closure_too_large (HasMoreThan (declared s) (cores (context_of s) (in_force s.stack)) most_closure_terms) fits refused.0 refused.1)
decided_text s number line variables e (inr accepted) fits has enough =
    let does = accepted.1 in by does.0 (ap (λ (x : CommandEffect). x.text) does.2) (does.1.decisive variables has enough)
  where
    by : (v : Verdict) → e.text ≡ word_of v → IsDecisive v → (e.text ≡ codes "sat") ⊎ (e.text ≡ codes "unsat")
    by (Sat i) is decisive = inl is
    by (Unsat derived) is decisive = inr is
    by (Unknown spent) is decisive = absurd decisive
