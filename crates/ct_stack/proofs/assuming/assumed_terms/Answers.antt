use Rattle.std.proofs.Common.{◌∙◌, ◌++◌, map, sym, subst}
use Rattle.std.proofs.lemmas.Result.{err_from_is_err_and}
use Rattle.ct_terms.specs.Terms.{Terms, AreSorted, AreOrdered}
use Rattle.ct_formulas.specs.TreeFormula.{formula_of}
use Rattle.ct_compile.specs.Effect.{IsPrefix}
use Rattle.ct_stack.specs.Assuming.{assumed_formulas, assumptions_seen, with_assumed}
use Rattle.ct_stack.specs.Held.{IsHeld, IsTableOf, context_in, level_in}
use Rattle.ct_stack.specs.Stack.{cores}
use Rattle.ct_stack.proofs.AssumingLemmas.{truths_sorted}
use Rattle.ct_stack.proofs.ErrorLemmas.{same_refusal}
use Rattle.ct_stack.proofs.HeldLemmas.{held_with}
use Rattle.ct_stack.proofs.TableLemmas.{few_terms}
use Rattle.ct_stack.proofs.assuming.assumed_terms.Goals as goal

pub assumption_numbers-requires : goal.assumption_numbers-requires
assumption_numbers-requires c =
    record {
      sound = c.requires.sound;
      sorted = c.requires.sorted;
      table = subst (AreSorted c.args.scope.now.sig) (sym (c.deref_mut.ensures.value ∙ c.in_ok-copy.ensures.copy)) c.requires.table;
    }

pub returns-in_err-found-clause-refused : goal.returns-in_err-found-clause-refused
returns-in_err-found-clause-refused c =
    let d = c.args.scope.now.sig in
    let p = err_from_is_err_and c.from_residual-in_err-found.result c.from_residual-in_err-found.ensures.1 in
    rw (p.1, p.2)
    (λ n e.
    let said = c.in_err-found.ensures.refused n (same_refusal _ n e) in
    (said.0, λ roots of. said.1 roots (subst (IsTableOf d roots) (sym (c.deref_mut.ensures.value ∙ c.in_ok-copy.ensures.copy)) of)))

pub returns-clause-held : goal.returns-clause-held
returns-clause-held c = λ asserts held.
    let scope = c.args.scope.now in
    let assumed = assumptions_seen c.args.assumed.now in
    let formulas = assumed_formulas assumed in
    let own = map formula_of asserts in
    let context = context_in scope in
    let old = c.args.table.now in
    let numbers = c.args.numbers.now in
    let found = c.in_ok-found.found.items in
    let new = c.assumption_numbers.new.table in
    let exact = c.in_ok-found.ensures.made (cores context own) (subst (IsTableOf scope.sig (cores context own)) (sym (c.deref_mut.ensures.value ∙ c.in_ok-copy.ensures.copy)) held.in_table.exact) in
    let grown = subst (λ (t : Terms). IsPrefix t new) (c.deref_mut.ensures.value ∙ c.in_ok-copy.ensures.copy) c.in_ok-found.ensures.grown in
    let whole : IsHeld (with_assumed (level_in scope asserts) assumed) new (numbers ++ found) =
    held_with c.stack_theorems.ensures.hold context own formulas old new numbers found c.sorts.ensures.consistent held (truths_sorted scope.sig c.args.assumed.now c.requires.sorted) exact c.in_ok-found.ensures.numbers grown (subst AreOrdered c.deref.ensures c.len.ensures.ordered)
    in
    rw (c.in_ok-extend_from_slice.ensures.items, c.in_ok-all.ensures.items, c.as_slice.ensures.value) whole

pub returns-clause-accepted : goal.returns-clause-accepted
returns-clause-accepted c = λ roots of.
    let scope = c.args.scope.now in
    let formulas = assumed_formulas (assumptions_seen c.args.assumed.now) in
    few_terms scope.sig (roots ++ cores (context_in scope) formulas) c.assumption_numbers.new.table (c.in_ok-found.ensures.made roots (subst (IsTableOf scope.sig roots) (sym (c.deref_mut.ensures.value ∙ c.in_ok-copy.ensures.copy)) of)) c.in_ok-found.ensures.few
