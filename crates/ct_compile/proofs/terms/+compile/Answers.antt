use Rattle.std.proofs.Common.{◌≡◌, ◌+◌, ◌-◌, ◌<◌, ◌==◌, ℕ, Bool, true, false, List, ◌∷◌, [], ◌++◌, length, take, drop, map, reverse, IfOk, IsErrOf, Result, Some, None, Ok, Err, slice_get, refl, ap, subst, sym, ◌∙◌, arith, true≢false}
use Rattle.std.proofs.lemmas.List.{reverse-append}
use Rattle.std.proofs.lemmas.Bool.Decides.{Decides-eqb}
use Rattle.std.proofs.lemmas.Result.{err_from_is_err_and}
use Rattle.ct_lemmas.proofs.Prefixes.{nothing_left, rest-item}
use Rattle.ct_sorts.specs.declared.ids.CtorId.{CtorId}
use Rattle.ct_terms.specs.declared.ids.TermId.{TermId}
use Rattle.ct_formulas.specs.declared.tree.Tree.{Tree}
use Rattle.ct_formulas.specs.declared.tree.Case.{Case}
use Rattle.std.specs.List.{AllByRecursion}
use Rattle.ct_sorts.specs.declared.ids.SortId.{SortId}
use Rattle.ct_terms.specs.declared.error.TermError.{TermError}
use Rattle.ct_terms.specs.declared.error.TermError.TheVariants.{Full, NoMemory}
use Rattle.ct_terms.specs.CoreTree.{CoreTree, choice, term_at}
use Rattle.ct_terms.specs.CoreSorts.{HasTreeSort}
use Rattle.ct_operators.specs.declared.choosing.Guarded.{Guarded}
use Rattle.ct_operators.specs.Effect.{Stands, Within, Effect}
use Rattle.ct_operators.specs.Chosen.{chosen_from, IsGuardedIn}
use Rattle.ct_formulas.specs.Formula.{Formulas, Cases, Def, Ite, Let, Match, Quantified, with_case, bind}
use Rattle.ct_formulas.specs.Compiled.{are_none}
use Rattle.ct_formulas.specs.Occurrence.{count_of, occurs, uses_below}
use Rattle.ct_formulas.specs.TreeFormula.{formula_of, formulas_of_trees}
use Rattle.ct_scope.specs.declared.bound.Bound.{Bound}
use Rattle.ct_scope.specs.declared.known.Called.{Called}
use Rattle.ct_scope.specs.Binding.{Binds}
use Rattle.ct_scope.specs.Calling.{call_of, IsRecalled, IsState, IsUnknown}
use Rattle.ct_occurrence.specs.CaseFormula.{cases_of_trees}
use Rattle.ct_operators.specs.Forms.{combined}
use Rattle.ct_occurrence.specs.Marks.{worked_in, flags_below}
use Rattle.ct_scope.specs.Matching.{bound_by}
use Rattle.ct_occurrence.specs.Matching.{tested_by}
use Rattle.ct_scope.specs.Compilable.{MayCompile, Compiles, CompilesAll}
use Rattle.ct_occurrence.specs.Noted.{IsOfFirst, IsNoted, AreNoted, CasesNoted}
use Rattle.ct_scope.proofs.Weight.{weights_below}
use Rattle.ct_scope.proofs.BindLemmas.{bind_left}
use Rattle.ct_compile.proofs.NoteLemmas.{first_inside, quantified_flags, quantified_inner, call_known, plain_notes, condition_notes, then_notes, else_notes, let_flags, let_under, let_inner, call_notes, match_inside, match_flag, match_under, match_inner, case_notes, later_cases, where_split}
use Rattle.ct_compile.proofs.CycleLemmas.{compiles_nothing, compiles_grown, IsOver, quantified_over, over_children, over_waits, over_failed, over_kept, over_below, over_operands, over_made, plain_children, plain_waits, plain_failed, plain_kept, plain_below, plain_operands, plain_made, Collects, collects_start, collects_next, collects_lighter, collects_waits, collects_failed, collects_follows, collects_broken, collects_out, collects_grown, collects_more, collects_end}
use Rattle.ct_scope.proofs.ChoiceLemmas.{choice_condition, choice_then, choice_else, choice_waits_1, choice_failed_1, choice_waits_2, choice_failed_2, choice_waits_3, choice_failed_3, choice_kept, choice_below, choice_sorted, choice_made}
use Rattle.ct_scope.proofs.BindingLemmas.{completes_stopped, completes_waits, Completes, completes_start, completes_flag, completes_split, completes_all, completes_out, completes_absent, completes_lighter, completes_next, completes_term, flags_split}
use Rattle.ct_scope.proofs.DefinitionLemmas.{weights_is}
use Rattle.ct_scope.proofs.UnderLemmas.{under_may, under_failed, listed_length, under_stopped, under_waits, under_later, under_out, under_known, under_body, under_made, under_has, under_lost, let_view}
use Rattle.ct_scope.proofs.CallingLemmas.{state_stays, state_within, state_made, state_below, state_back, state_with, row_is, call_under, known_stands, known_made, call_recalled, call_waits}
use Rattle.ct_scope.proofs.MatchLemmas.{case_declared, case_body, case_ends, test_kept, test_there, test_bound, test_failed, test_grown, first_may, first_failed, case_chosen, ends_waits, first_stopped, first_waits}
use Rattle.ct_compile.proofs.ChoosesLemmas.{chooses_stopped, chooses_waits, Chooses, chooses_start, chooses_may, chooses_failed, last_kept, last_below, last_inside, last_sorted, chooses_end, chooses_lighter, chooses_more, chooses_none}
use Rattle.ct_scope.proofs.FormLemmas.{match_may, match_stopped, match_waits, match_later, defers_as, match_some, match_cases, match_made, may_bind_as, binds_as, one_weight, cases_is, none_is, not_full}
use Rattle.ct_scope.specs.Deferral.{ended, Defers}
use Rattle.ct_scope.proofs.DeferralLemmas.{ended_by, goes_on_by, too_deep_by, IsPutOff, ArePutOff}
use Rattle.ct_lemmas.proofs.Contained.{Contains-from_slice_get}
use Rattle.ct_lemmas.proofs.Lists.{slice_get-there}
use Rattle.ct_listing.specs.Closed.{ClosedValue}
use Rattle.ct_formulas.specs.Choices.{choices_of}
use Rattle.ct_formulas.proofs.QuantifierLemmas.{choice_length}
use Rattle.ct_finite.specs.Choosing.{IsChoice, AreLike}
use Rattle.ct_finite.specs.Counts.{AreCounts}
use Rattle.ct_operators.specs.declared.operator.Operator.{Operator}
use Rattle.ct_scope.specs.Choosing.{chosen, all_chosen, formulas_of_values, AreChosen}
use Rattle.ct_scope.proofs.ChosenLemmas.{count_values, may_choose, binds_values, choice_again, chosen_more, chosen_stay, chosen_none}
use Rattle.ct_scope.specs.Values.{AreValueTerms}
use Rattle.ct_scope.proofs.ValueLemmas.{values_stay}
use Rattle.ct_compile.proofs.OverLemmas.{left_from, left_next, left_end, last_test, chosen_long}
use Rattle.ct_compile.proofs.terms.+compile.Goals as goal

-- where the rest is not empty there is a formula more
ends_short : (xs : List Tree) (b : Bool) → b ≡ (length xs == 0) → b ≡ false → 0 < count_of (formulas_of_trees xs)
ends_short [] b is e = absurd (true≢false (sym is ∙ e))
ends_short (x ∷ xs) b is e = omega arith

ends_last : (xs : List Tree) (b : Bool) → b ≡ (length xs == 0) → b ≡ true → count_of (formulas_of_trees xs) ≡ 0
ends_last [] b is e = refl
ends_last (x ∷ xs) b is e = absurd (omega (arith, (Decides-eqb (length (x ∷ xs)) 0).0 (sym is ∙ e)))

-- what is so anyway
where_ok : {A E : Type 0} (r : Result A E) (P : Type 0) → P → IfOk r (λ u. P)
where_ok (Ok u) P p = p
where_ok (Err e) P p = tt

pub compile_all-loop-rest-init : goal.compile_all-loop-rest-init
compile_all-loop-rest-init t c =
    record { done = subst (λ (args : List TermId). Collects c.args.level.now.scope.now.sig (map formula_of c.args.level.now.scope.now.bodies) c.args.level.now.below c.args.table.now c.args.table.now c.args.env.now c.args.operator (formulas_of_trees c.args.trees.now) args None (formulas_of_trees c.args.trees.now)) (sym c.new-args.ensures.empty) (collects_start c.args.level.now.scope.now.sig (map formula_of c.args.level.now.scope.now.bodies) c.args.level.now.below c.args.table.now c.args.env.now c.args.operator (formulas_of_trees c.args.trees.now) c.requires.ready); state = c.requires.state; noted = c.requires.noted.1; same = refl }

pub compile_all-compile_tree-requires : goal.compile_all-compile_tree-requires
compile_all-compile_tree-requires t c =
    let loop = c.loop-rest in
    let more = formulas_of_trees (take (length loop.rest.now - 1) (drop 1 loop.rest.now)) in
    let split = subst (λ (xs : List Tree). Collects c.args.level.now.scope.now.sig (map formula_of c.args.level.now.scope.now.bodies) c.args.level.now.below c.args.table.now loop.table c.args.env.now c.args.operator (formulas_of_trees c.args.trees.now) loop.args loop.lead (formulas_of_trees xs)) (rest-item loop.rest.now c.tree-item.result c.in-len1-up.len_at_least c.tree-item.is) loop.invariant.done in
    let lighter = collects_lighter c.args.level.now.scope.now.sig (map formula_of c.args.level.now.scope.now.bodies) c.args.level.now.below c.args.table.now loop.table c.args.env.now c.args.operator (formulas_of_trees c.args.trees.now) loop.args loop.lead (formula_of c.tree-item.result) more split in
    (omega (arith, lighter, c.decreases), (loop.invariant.state, (rw loop.invariant.same (collects_next c.args.level.now.scope.now.sig (map formula_of c.args.level.now.scope.now.bodies) c.args.level.now.below c.args.table.now loop.table c.args.env.now c.args.operator (formulas_of_trees c.args.trees.now) loop.args loop.lead (formula_of c.tree-item.result) more split), (c.requires.noted.0, (subst (λ (xs : List Tree). AreNoted c.args.level.now.scope.now.sig (worked_in c.args.level.now.definitions.now) (uses_below c.args.level.now.scope.now.sig (map formula_of c.args.level.now.scope.now.bodies) c.args.level.now.below) (formulas_of_trees xs) loop.left.now) (rest-item loop.rest.now c.tree-item.result c.in-len1-up.len_at_least c.tree-item.is) loop.invariant.noted).0))))

pub compile_all-returns-in_err-term-clause-outcome : goal.compile_all-returns-in_err-term-clause-outcome
compile_all-returns-in_err-term-clause-outcome t c =
    let loop = c.loop-rest in
    let more = formulas_of_trees (take (length loop.rest.now - 1) (drop 1 loop.rest.now)) in
    let split = subst (λ (xs : List Tree). Collects c.args.level.now.scope.now.sig (map formula_of c.args.level.now.scope.now.bodies) c.args.level.now.below c.args.table.now loop.table c.args.env.now c.args.operator (formulas_of_trees c.args.trees.now) loop.args loop.lead (formulas_of_trees xs)) (rest-item loop.rest.now c.tree-item.result c.in-len1-up.len_at_least c.tree-item.is) loop.invariant.done in
    let p = err_from_is_err_and c.from_residual.result c.from_residual.ensures.1 in
    rw (p.1, p.2) (ended_by _ (λ (r : Result TermId TermError). Compiles c.args.level.now.scope.now.sig (map formula_of c.args.level.now.scope.now.bodies) c.args.level.now.below loop.table c.compile_tree.new.table c.args.env.now (formula_of c.tree-item.result) r) (λ (r : Result (List TermId) TermError). CompilesAll c.args.level.now.scope.now.sig (map formula_of c.args.level.now.scope.now.bodies) c.args.level.now.below c.args.table.now c.compile_tree.new.table c.args.env.now c.args.operator (formulas_of_trees c.args.trees.now) r) (λ e k. collects_failed c.args.level.now.scope.now.sig (map formula_of c.args.level.now.scope.now.bodies) c.args.level.now.below c.args.table.now loop.table c.args.env.now c.args.operator (formulas_of_trees c.args.trees.now) loop.args loop.lead (formula_of c.tree-item.result) more split c.compile_tree.new.table e k) (rw loop.invariant.same at c.in_err-term.ensures.outcome))

pub compile_all-returns-in_err-term-clause-waits : goal.compile_all-returns-in_err-term-clause-waits
compile_all-returns-in_err-term-clause-waits t c =
    let loop = c.loop-rest in
    let more = formulas_of_trees (take (length loop.rest.now - 1) (drop 1 loop.rest.now)) in
    let split = subst (λ (xs : List Tree). Collects c.args.level.now.scope.now.sig (map formula_of c.args.level.now.scope.now.bodies) c.args.level.now.below c.args.table.now loop.table c.args.env.now c.args.operator (formulas_of_trees c.args.trees.now) loop.args loop.lead (formulas_of_trees xs)) (rest-item loop.rest.now c.tree-item.result c.in-len1-up.len_at_least c.tree-item.is) loop.invariant.done in
    let p = err_from_is_err_and c.from_residual.result c.from_residual.ensures.1 in
    rw (p.1, p.2) (too_deep_by TermId (List TermId) _ (λ call. IsPutOff c.args.level.now.scope.now.sig (map formula_of c.args.level.now.scope.now.bodies) (worked_in c.args.level.now.definitions.now) c.args.level.now.below loop.table c.compile_tree.new.table c.args.env.now (formula_of c.tree-item.result) call) (λ call. ArePutOff c.args.level.now.scope.now.sig (map formula_of c.args.level.now.scope.now.bodies) (worked_in c.args.level.now.definitions.now) c.args.level.now.below c.args.table.now c.compile_tree.new.table c.args.env.now c.args.operator (formulas_of_trees c.args.trees.now) call) (λ call k. collects_waits c.args.level.now.scope.now.sig (map formula_of c.args.level.now.scope.now.bodies) c.args.level.now.below c.args.table.now loop.table c.args.env.now c.args.operator (formulas_of_trees c.args.trees.now) loop.args loop.lead (formula_of c.tree-item.result) more split (worked_in c.args.level.now.definitions.now) c.compile_tree.new.table call k) (rw loop.invariant.same at c.in_err-term.ensures.waits))

pub compile_all-returns-in_err-term-clause-state : goal.compile_all-returns-in_err-term-clause-state
compile_all-returns-in_err-term-clause-state t c =
    let p = err_from_is_err_and c.from_residual.result c.from_residual.ensures.1 in
    rw (p.1, p.2) (goes_on_by TermId (List TermId) _ (IsState c.args.level.now.scope.now.sig (map formula_of c.args.level.now.scope.now.bodies) c.args.level.now.below (worked_in c.args.level.now.definitions.now) c.compile_tree.new.table c.compile_tree.new.known) (IsState c.args.level.now.scope.now.sig (map formula_of c.args.level.now.scope.now.bodies) c.args.level.now.below (worked_in c.args.level.now.definitions.now) c.compile_tree.new.table c.compile_tree.new.known) (λ k. k) c.in_err-term.ensures.state)

pub compile_all-returns-in_err-term-clause-unknown : goal.compile_all-returns-in_err-term-clause-unknown
compile_all-returns-in_err-term-clause-unknown t c =
    let p = err_from_is_err_and c.from_residual.result c.from_residual.ensures.1 in
    rw (p.1, p.2) (too_deep_by TermId (List TermId) _ (λ call. IsUnknown c.compile_tree.new.known call) (λ call. IsUnknown c.compile_tree.new.known call) (λ call h. h) c.in_err-term.ensures.unknown)

pub compile_all-follow-requires : goal.compile_all-follow-requires
compile_all-follow-requires t c =
    let loop = c.loop-rest in
    let more = formulas_of_trees (take (length loop.rest.now - 1) (drop 1 loop.rest.now)) in
    let split = subst (λ (xs : List Tree). Collects c.args.level.now.scope.now.sig (map formula_of c.args.level.now.scope.now.bodies) c.args.level.now.below c.args.table.now loop.table c.args.env.now c.args.operator (formulas_of_trees c.args.trees.now) loop.args loop.lead (formulas_of_trees xs)) (rest-item loop.rest.now c.tree-item.result c.in-len1-up.len_at_least c.tree-item.is) loop.invariant.done in
    record { ready = collects_follows c.args.level.now.scope.now.sig (map formula_of c.args.level.now.scope.now.bodies) c.args.level.now.below c.args.table.now loop.table c.args.env.now c.args.operator (formulas_of_trees c.args.trees.now) loop.args loop.lead (formula_of c.tree-item.result) more split c.compile_tree.new.table c.in_ok-term.term (rw loop.invariant.same at c.in_ok-term.ensures.outcome) }

pub compile_all-returns-in_err-next-clause-outcome : goal.compile_all-returns-in_err-next-clause-outcome
compile_all-returns-in_err-next-clause-outcome t c =
    let loop = c.loop-rest in
    let more = formulas_of_trees (take (length loop.rest.now - 1) (drop 1 loop.rest.now)) in
    let split = subst (λ (xs : List Tree). Collects c.args.level.now.scope.now.sig (map formula_of c.args.level.now.scope.now.bodies) c.args.level.now.below c.args.table.now loop.table c.args.env.now c.args.operator (formulas_of_trees c.args.trees.now) loop.args loop.lead (formulas_of_trees xs)) (rest-item loop.rest.now c.tree-item.result c.in-len1-up.len_at_least c.tree-item.is) loop.invariant.done in
    let is_end : c.is_empty.result ≡ false → 0 < count_of more = λ e. ends_short (take (length loop.rest.now - 1) (drop 1 loop.rest.now)) c.is_empty.result c.is_empty.ensures e in
    let is_last : c.is_empty.result ≡ true → count_of more ≡ 0 = λ e. ends_last (take (length loop.rest.now - 1) (drop 1 loop.rest.now)) c.is_empty.result c.is_empty.ensures e in
    let p = err_from_is_err_and c.from_residual-in_err-next.result c.from_residual-in_err-next.ensures.1 in
    rw (p.1, p.2) (collects_broken c.args.level.now.scope.now.sig (map formula_of c.args.level.now.scope.now.bodies) c.args.level.now.below c.args.table.now loop.table c.args.env.now c.args.operator (formulas_of_trees c.args.trees.now) loop.args loop.lead (formula_of c.tree-item.result) more split c.compile_tree.new.table c.in_ok-term.term (rw loop.invariant.same at c.in_ok-term.ensures.outcome) c.is_empty.result is_end is_last c.follow.new.table _ c.in_err-next.ensures.outcome _ refl)

pub compile_all-returns-in_err-push-clause-outcome : goal.compile_all-returns-in_err-push-clause-outcome
compile_all-returns-in_err-push-clause-outcome t c =
    let loop = c.loop-rest in
    let more = formulas_of_trees (take (length loop.rest.now - 1) (drop 1 loop.rest.now)) in
    let split = subst (λ (xs : List Tree). Collects c.args.level.now.scope.now.sig (map formula_of c.args.level.now.scope.now.bodies) c.args.level.now.below c.args.table.now loop.table c.args.env.now c.args.operator (formulas_of_trees c.args.trees.now) loop.args loop.lead (formulas_of_trees xs)) (rest-item loop.rest.now c.tree-item.result c.in-len1-up.len_at_least c.tree-item.is) loop.invariant.done in
    let is_end : c.is_empty.result ≡ false → 0 < count_of more = λ e. ends_short (take (length loop.rest.now - 1) (drop 1 loop.rest.now)) c.is_empty.result c.is_empty.ensures e in
    let is_last : c.is_empty.result ≡ true → count_of more ≡ 0 = λ e. ends_last (take (length loop.rest.now - 1) (drop 1 loop.rest.now)) c.is_empty.result c.is_empty.ensures e in
    let p = err_from_is_err_and c.from_residual-in_err-push.result c.from_residual-in_err-push.ensures.1 in
    let next = collects_more c.args.level.now.scope.now.sig (map formula_of c.args.level.now.scope.now.bodies) c.args.level.now.below c.args.table.now loop.table c.args.env.now c.args.operator (formulas_of_trees c.args.trees.now) loop.args loop.lead (formula_of c.tree-item.result) more split c.compile_tree.new.table c.in_ok-term.term (rw loop.invariant.same at c.in_ok-term.ensures.outcome) c.is_empty.result is_end is_last c.follow.new.table _ c.in_ok-next.ensures.outcome c.in_ok-next.next refl in
    rw (p.1, p.2) (collects_out c.args.level.now.scope.now.sig (map formula_of c.args.level.now.scope.now.bodies) c.args.level.now.below c.args.table.now c.follow.new.table c.args.env.now c.args.operator (formulas_of_trees c.args.trees.now) _ _ more next NoMemory refl)

pub compile_all-loop-rest-preserved : goal.compile_all-loop-rest-preserved
compile_all-loop-rest-preserved t c =
    let loop = c.loop-rest in
    let more = formulas_of_trees (take (length loop.rest.now - 1) (drop 1 loop.rest.now)) in
    let split = subst (λ (xs : List Tree). Collects c.args.level.now.scope.now.sig (map formula_of c.args.level.now.scope.now.bodies) c.args.level.now.below c.args.table.now loop.table c.args.env.now c.args.operator (formulas_of_trees c.args.trees.now) loop.args loop.lead (formulas_of_trees xs)) (rest-item loop.rest.now c.tree-item.result c.in-len1-up.len_at_least c.tree-item.is) loop.invariant.done in
    let is_end : c.is_empty.result ≡ false → 0 < count_of more = λ e. ends_short (take (length loop.rest.now - 1) (drop 1 loop.rest.now)) c.is_empty.result c.is_empty.ensures e in
    let is_last : c.is_empty.result ≡ true → count_of more ≡ 0 = λ e. ends_last (take (length loop.rest.now - 1) (drop 1 loop.rest.now)) c.is_empty.result c.is_empty.ensures e in
    let next = collects_more c.args.level.now.scope.now.sig (map formula_of c.args.level.now.scope.now.bodies) c.args.level.now.below c.args.table.now loop.table c.args.env.now c.args.operator (formulas_of_trees c.args.trees.now) loop.args loop.lead (formula_of c.tree-item.result) more split c.compile_tree.new.table c.in_ok-term.term (rw loop.invariant.same at c.in_ok-term.ensures.outcome) c.is_empty.result is_end is_last c.follow.new.table _ c.in_ok-next.ensures.outcome c.in_ok-next.next refl in
    let g = collects_grown c.args.level.now.scope.now.sig (map formula_of c.args.level.now.scope.now.bodies) c.args.level.now.below c.args.table.now loop.table c.args.env.now c.args.operator (formulas_of_trees c.args.trees.now) loop.args loop.lead (formula_of c.tree-item.result) more split c.compile_tree.new.table c.in_ok-term.term (rw loop.invariant.same at c.in_ok-term.ensures.outcome) c.is_empty.result is_end is_last c.follow.new.table _ c.in_ok-next.ensures.outcome in record {
      done = subst (λ (args : List TermId). Collects c.args.level.now.scope.now.sig (map formula_of c.args.level.now.scope.now.bodies) c.args.level.now.below c.args.table.now c.follow.new.table c.args.env.now c.args.operator (formulas_of_trees c.args.trees.now) args (Some c.in_ok-next.next) more) (sym c.in_ok-push.ensures.ok) next;
      state = state_stays c.args.level.now.scope.now.sig (map formula_of c.args.level.now.scope.now.bodies) (worked_in c.args.level.now.definitions.now) c.args.level.now.below c.compile_tree.new.table c.follow.new.table c.compile_tree.new.known g.0 g.1 c.in_ok-term.ensures.state;
      noted = subst (AreNoted c.args.level.now.scope.now.sig (worked_in c.args.level.now.definitions.now) (uses_below c.args.level.now.scope.now.sig (map formula_of c.args.level.now.scope.now.bodies) c.args.level.now.below) more) (sym c.later_notes-left.ensures.value) (subst (λ (xs : List Tree). AreNoted c.args.level.now.scope.now.sig (worked_in c.args.level.now.definitions.now) (uses_below c.args.level.now.scope.now.sig (map formula_of c.args.level.now.scope.now.bodies) c.args.level.now.below) (formulas_of_trees xs) loop.left.now) (rest-item loop.rest.now c.tree-item.result c.in-len1-up.len_at_least c.tree-item.is) loop.invariant.noted).1;
      same = c.in_ok-term.ensures.back ∙ loop.invariant.same;
    }

pub compile_all-returns-clause-outcome : goal.compile_all-returns-clause-outcome
compile_all-returns-clause-outcome t c =
    let loop = c.loop-rest in
    let none : loop.rest.now ≡ [] = nothing_left loop.rest.now (omega (arith, c.in_default.len_below)) in
    let h = subst (λ (xs : List Tree). Collects c.args.level.now.scope.now.sig (map formula_of c.args.level.now.scope.now.bodies) c.args.level.now.below c.args.table.now loop.table c.args.env.now c.args.operator (formulas_of_trees c.args.trees.now) loop.args loop.lead (formulas_of_trees xs)) none loop.invariant.done in
    collects_end c.args.level.now.scope.now.sig (map formula_of c.args.level.now.scope.now.bodies) c.args.level.now.below c.args.table.now loop.table c.args.env.now c.args.operator (formulas_of_trees c.args.trees.now) loop.args loop.lead h

pub compile_plain-compile_all-requires : goal.compile_plain-compile_all-requires
compile_plain-compile_all-requires t c =
    (omega (arith, c.decreases), (c.requires.state, (plain_children c.args.level.now.scope.now.sig (map formula_of c.args.level.now.scope.now.bodies) c.args.level.now.below c.args.table.now c.args.env.now (formula_of c.args.tree.now) (formulas_of_trees c.args.trees.now) c.requires.plain c.args.operator c.requires.operator c.requires.under c.requires.ready, (c.requires.noted.0, plain_notes c.args.level.now.scope.now.sig (worked_in c.args.level.now.definitions.now) (uses_below c.args.level.now.scope.now.sig (map formula_of c.args.level.now.scope.now.bodies) c.args.level.now.below) c.args.notes.now c.first_note-note.result.now c.first_note-note.ensures.value (formula_of c.args.tree.now) (formulas_of_trees c.args.trees.now) c.under.result.now c.requires.plain c.requires.under c.under.ensures.value c.requires.noted.1))))

pub compile_plain-returns-in_err-args-clause-outcome : goal.compile_plain-returns-in_err-args-clause-outcome
compile_plain-returns-in_err-args-clause-outcome t c =
    let p = err_from_is_err_and c.from_residual.result c.from_residual.ensures.1 in
    rw (p.1, p.2) (ended_by _ (λ (r : Result (List TermId) TermError). CompilesAll c.args.level.now.scope.now.sig (map formula_of c.args.level.now.scope.now.bodies) c.args.level.now.below c.args.table.now c.compile_all.new.table c.args.env.now c.args.operator (formulas_of_trees c.args.trees.now) r) (λ (r : Result TermId TermError). Compiles c.args.level.now.scope.now.sig (map formula_of c.args.level.now.scope.now.bodies) c.args.level.now.below c.args.table.now c.compile_all.new.table c.args.env.now (formula_of c.args.tree.now) r) (λ e k. plain_failed c.args.level.now.scope.now.sig (map formula_of c.args.level.now.scope.now.bodies) c.args.level.now.below c.args.table.now c.args.env.now (formula_of c.args.tree.now) (formulas_of_trees c.args.trees.now) c.requires.plain c.args.operator c.requires.operator c.requires.under c.compile_all.new.table e k) c.in_err-args.ensures.outcome)

pub compile_plain-returns-in_err-args-clause-waits : goal.compile_plain-returns-in_err-args-clause-waits
compile_plain-returns-in_err-args-clause-waits t c =
    let p = err_from_is_err_and c.from_residual.result c.from_residual.ensures.1 in
    rw (p.1, p.2) (too_deep_by (List TermId) TermId _ (λ call. ArePutOff c.args.level.now.scope.now.sig (map formula_of c.args.level.now.scope.now.bodies) (worked_in c.args.level.now.definitions.now) c.args.level.now.below c.args.table.now c.compile_all.new.table c.args.env.now c.args.operator (formulas_of_trees c.args.trees.now) call) (λ call. IsPutOff c.args.level.now.scope.now.sig (map formula_of c.args.level.now.scope.now.bodies) (worked_in c.args.level.now.definitions.now) c.args.level.now.below c.args.table.now c.compile_all.new.table c.args.env.now (formula_of c.args.tree.now) call) (λ call k. plain_waits c.args.level.now.scope.now.sig (map formula_of c.args.level.now.scope.now.bodies) c.args.level.now.below c.args.table.now c.args.env.now (formula_of c.args.tree.now) (formulas_of_trees c.args.trees.now) c.requires.plain c.args.operator c.requires.operator c.requires.under (worked_in c.args.level.now.definitions.now) c.compile_all.new.table call k) c.in_err-args.ensures.waits)

pub compile_plain-returns-in_err-args-clause-state : goal.compile_plain-returns-in_err-args-clause-state
compile_plain-returns-in_err-args-clause-state t c =
    let p = err_from_is_err_and c.from_residual.result c.from_residual.ensures.1 in
    rw (p.1, p.2) (goes_on_by (List TermId) TermId _ (IsState c.args.level.now.scope.now.sig (map formula_of c.args.level.now.scope.now.bodies) c.args.level.now.below (worked_in c.args.level.now.definitions.now) c.compile_all.new.table c.compile_all.new.known) (IsState c.args.level.now.scope.now.sig (map formula_of c.args.level.now.scope.now.bodies) c.args.level.now.below (worked_in c.args.level.now.definitions.now) c.compile_all.new.table c.compile_all.new.known) (λ k. k) c.in_err-args.ensures.state)

pub compile_plain-returns-in_err-args-clause-unknown : goal.compile_plain-returns-in_err-args-clause-unknown
compile_plain-returns-in_err-args-clause-unknown t c =
    let p = err_from_is_err_and c.from_residual.result c.from_residual.ensures.1 in
    rw (p.1, p.2) (too_deep_by (List TermId) TermId _ (λ call. IsUnknown c.compile_all.new.known call) (λ call. IsUnknown c.compile_all.new.known call) (λ call h. h) c.in_err-args.ensures.unknown)

pub compile_plain-combine-requires-clause-kept : goal.compile_plain-combine-requires-clause-kept
compile_plain-combine-requires-clause-kept t c =
    plain_kept c.args.level.now.scope.now.sig (map formula_of c.args.level.now.scope.now.bodies) c.args.level.now.below c.args.table.now c.args.env.now (formula_of c.args.tree.now) (formulas_of_trees c.args.trees.now) c.requires.plain c.args.operator c.requires.operator c.requires.under c.compile_all.new.table c.in_ok-args.args c.in_ok-args.ensures.outcome c.requires.ready

pub compile_plain-combine-requires-clause-below : goal.compile_plain-combine-requires-clause-below
compile_plain-combine-requires-clause-below t c =
    plain_below c.args.level.now.scope.now.sig (map formula_of c.args.level.now.scope.now.bodies) c.args.level.now.below c.args.table.now c.args.env.now (formula_of c.args.tree.now) (formulas_of_trees c.args.trees.now) c.requires.plain c.args.operator c.requires.operator c.requires.under c.compile_all.new.table c.in_ok-args.args c.in_ok-args.ensures.outcome c.requires.ready

pub compile_plain-combine-requires-clause-operands : goal.compile_plain-combine-requires-clause-operands
compile_plain-combine-requires-clause-operands t c =
    plain_operands c.args.level.now.scope.now.sig (map formula_of c.args.level.now.scope.now.bodies) c.args.level.now.below c.args.table.now c.args.env.now (formula_of c.args.tree.now) (formulas_of_trees c.args.trees.now) c.requires.plain c.args.operator c.requires.operator c.requires.under c.compile_all.new.table c.in_ok-args.args c.in_ok-args.ensures.outcome c.requires.ready

pub compile_plain-returns-in_err-combine-clause-outcome : goal.compile_plain-returns-in_err-combine-clause-outcome
compile_plain-returns-in_err-combine-clause-outcome t c =
    let p = err_from_is_err_and c.from_residual-in_err-combine.result c.from_residual-in_err-combine.ensures.1 in
    rw (p.1, p.2) (plain_made c.args.level.now.scope.now.sig (map formula_of c.args.level.now.scope.now.bodies) c.args.level.now.below c.args.table.now c.args.env.now (formula_of c.args.tree.now) (formulas_of_trees c.args.trees.now) c.requires.plain c.args.operator c.requires.operator c.requires.under c.compile_all.new.table c.in_ok-args.args c.in_ok-args.ensures.outcome c.combine.new.table _ c.in_err-combine.ensures.core c.in_err-combine.ensures.effect c.in_err-combine.ensures.order)

pub compile_plain-returns-clause-outcome : goal.compile_plain-returns-clause-outcome
compile_plain-returns-clause-outcome t c =
    plain_made c.args.level.now.scope.now.sig (map formula_of c.args.level.now.scope.now.bodies) c.args.level.now.below c.args.table.now c.args.env.now (formula_of c.args.tree.now) (formulas_of_trees c.args.trees.now) c.requires.plain c.args.operator c.requires.operator c.requires.under c.compile_all.new.table c.in_ok-args.args c.in_ok-args.ensures.outcome c.combine.new.table _ c.in_ok-combine.ensures.core c.in_ok-combine.ensures.effect c.in_ok-combine.ensures.order

pub compile_plain-returns-clause-state : goal.compile_plain-returns-clause-state
compile_plain-returns-clause-state t c =
    state_within c.args.level.now.scope.now.sig (map formula_of c.args.level.now.scope.now.bodies) (worked_in c.args.level.now.definitions.now) c.args.level.now.below c.compile_all.new.table c.combine.new.table c.compile_all.new.known _ (combined c.args.level.now.scope.now.sig c.args.operator (map (term_at c.compile_all.new.table) c.in_ok-args.args)) c.in_ok-combine.ensures.effect c.in_ok-args.ensures.state

pub compile_choice-compile_tree-requires : goal.compile_choice-compile_tree-requires
compile_choice-compile_tree-requires t c =
    (omega (arith, c.decreases), (c.requires.state, (choice_condition c.args.level.now.scope.now.sig (map formula_of c.args.level.now.scope.now.bodies) c.args.level.now.below c.args.env.now (formula_of c.args.condition.now) (formula_of c.args.first.now) (formula_of c.args.second.now) c.args.table.now c.requires.ready, (c.requires.noted.0, condition_notes c.args.level.now.scope.now.sig (worked_in c.args.level.now.definitions.now) (uses_below c.args.level.now.scope.now.sig (map formula_of c.args.level.now.scope.now.bodies) c.args.level.now.below) c.args.notes.now c.first_note-note.result.now c.first_note-note.ensures.value (formula_of c.args.condition.now) (formula_of c.args.first.now) (formula_of c.args.second.now) c.under-of_condition.result.now c.under-of_condition.ensures.value c.requires.noted.1))))

pub compile_choice-returns-in_err-c-clause-outcome : goal.compile_choice-returns-in_err-c-clause-outcome
compile_choice-returns-in_err-c-clause-outcome t c =
    let p = err_from_is_err_and c.from_residual.result c.from_residual.ensures.1 in
    rw (p.1, p.2) (ended_by _ (λ (r : Result TermId TermError). Compiles c.args.level.now.scope.now.sig (map formula_of c.args.level.now.scope.now.bodies) c.args.level.now.below c.args.table.now c.compile_tree.new.table c.args.env.now (formula_of c.args.condition.now) r) (λ (r : Result TermId TermError). Compiles c.args.level.now.scope.now.sig (map formula_of c.args.level.now.scope.now.bodies) c.args.level.now.below c.args.table.now c.compile_tree.new.table c.args.env.now (Ite (formula_of c.args.condition.now) (formula_of c.args.first.now) (formula_of c.args.second.now)) r) (λ e k. choice_failed_1 c.args.level.now.scope.now.sig (map formula_of c.args.level.now.scope.now.bodies) c.args.level.now.below c.args.env.now (formula_of c.args.condition.now) (formula_of c.args.first.now) (formula_of c.args.second.now) c.args.table.now c.compile_tree.new.table e k) c.in_err-c.ensures.outcome)

pub compile_choice-returns-in_err-c-clause-waits : goal.compile_choice-returns-in_err-c-clause-waits
compile_choice-returns-in_err-c-clause-waits t c =
    let p = err_from_is_err_and c.from_residual.result c.from_residual.ensures.1 in
    rw (p.1, p.2) (too_deep_by TermId TermId _ (λ call. IsPutOff c.args.level.now.scope.now.sig (map formula_of c.args.level.now.scope.now.bodies) (worked_in c.args.level.now.definitions.now) c.args.level.now.below c.args.table.now c.compile_tree.new.table c.args.env.now (formula_of c.args.condition.now) call) (λ call. IsPutOff c.args.level.now.scope.now.sig (map formula_of c.args.level.now.scope.now.bodies) (worked_in c.args.level.now.definitions.now) c.args.level.now.below c.args.table.now c.compile_tree.new.table c.args.env.now (Ite (formula_of c.args.condition.now) (formula_of c.args.first.now) (formula_of c.args.second.now)) call) (λ call k. choice_waits_1 c.args.level.now.scope.now.sig (map formula_of c.args.level.now.scope.now.bodies) c.args.level.now.below c.args.env.now (formula_of c.args.condition.now) (formula_of c.args.first.now) (formula_of c.args.second.now) (worked_in c.args.level.now.definitions.now) c.args.table.now c.compile_tree.new.table call k) c.in_err-c.ensures.waits)

pub compile_choice-returns-in_err-c-clause-state : goal.compile_choice-returns-in_err-c-clause-state
compile_choice-returns-in_err-c-clause-state t c =
    let p = err_from_is_err_and c.from_residual.result c.from_residual.ensures.1 in
    rw (p.1, p.2) (goes_on_by TermId TermId _ (IsState c.args.level.now.scope.now.sig (map formula_of c.args.level.now.scope.now.bodies) c.args.level.now.below (worked_in c.args.level.now.definitions.now) c.compile_tree.new.table c.compile_tree.new.known) (IsState c.args.level.now.scope.now.sig (map formula_of c.args.level.now.scope.now.bodies) c.args.level.now.below (worked_in c.args.level.now.definitions.now) c.compile_tree.new.table c.compile_tree.new.known) (λ k. k) c.in_err-c.ensures.state)

pub compile_choice-returns-in_err-c-clause-unknown : goal.compile_choice-returns-in_err-c-clause-unknown
compile_choice-returns-in_err-c-clause-unknown t c =
    let p = err_from_is_err_and c.from_residual.result c.from_residual.ensures.1 in
    rw (p.1, p.2) (too_deep_by TermId TermId _ (λ call. IsUnknown c.compile_tree.new.known call) (λ call. IsUnknown c.compile_tree.new.known call) (λ call h. h) c.in_err-c.ensures.unknown)

pub compile_choice-compile_tree-requires-2 : goal.compile_choice-compile_tree-requires-2
compile_choice-compile_tree-requires-2 t c =
    (omega (arith, c.decreases), (c.in_ok-c.ensures.state, (rw c.in_ok-c.ensures.back (choice_then c.args.level.now.scope.now.sig (map formula_of c.args.level.now.scope.now.bodies) c.args.level.now.below c.args.env.now (formula_of c.args.condition.now) (formula_of c.args.first.now) (formula_of c.args.second.now) c.args.table.now c.compile_tree.new.table c.in_ok-c.c c.in_ok-c.ensures.outcome c.requires.ready), (c.requires.noted.0, then_notes c.args.level.now.scope.now.sig (worked_in c.args.level.now.definitions.now) (uses_below c.args.level.now.scope.now.sig (map formula_of c.args.level.now.scope.now.bodies) c.args.level.now.below) c.args.notes.now c.first_note-note.result.now c.first_note-note.ensures.value (formula_of c.args.condition.now) (formula_of c.args.first.now) (formula_of c.args.second.now) c.under-of_condition.result.now c.later_notes-of_first.result.now c.under-of_condition.ensures.value c.later_notes-of_first.ensures.value c.requires.noted.1))))

pub compile_choice-returns-in_err-a-clause-outcome : goal.compile_choice-returns-in_err-a-clause-outcome
compile_choice-returns-in_err-a-clause-outcome t c =
    let p = err_from_is_err_and c.from_residual-in_err-a.result c.from_residual-in_err-a.ensures.1 in
    rw (p.1, p.2) (ended_by _ (λ (r : Result TermId TermError). Compiles c.args.level.now.scope.now.sig (map formula_of c.args.level.now.scope.now.bodies) c.args.level.now.below c.compile_tree.new.table c.compile_tree-2.new.table c.args.env.now (formula_of c.args.first.now) r) (λ (r : Result TermId TermError). Compiles c.args.level.now.scope.now.sig (map formula_of c.args.level.now.scope.now.bodies) c.args.level.now.below c.args.table.now c.compile_tree-2.new.table c.args.env.now (Ite (formula_of c.args.condition.now) (formula_of c.args.first.now) (formula_of c.args.second.now)) r) (λ e k. choice_failed_2 c.args.level.now.scope.now.sig (map formula_of c.args.level.now.scope.now.bodies) c.args.level.now.below c.args.env.now (formula_of c.args.condition.now) (formula_of c.args.first.now) (formula_of c.args.second.now) c.args.table.now c.compile_tree.new.table c.in_ok-c.c c.in_ok-c.ensures.outcome c.compile_tree-2.new.table e k) (rw c.in_ok-c.ensures.back at c.in_err-a.ensures.outcome))

pub compile_choice-returns-in_err-a-clause-waits : goal.compile_choice-returns-in_err-a-clause-waits
compile_choice-returns-in_err-a-clause-waits t c =
    let p = err_from_is_err_and c.from_residual-in_err-a.result c.from_residual-in_err-a.ensures.1 in
    rw (p.1, p.2) (too_deep_by TermId TermId _ (λ call. IsPutOff c.args.level.now.scope.now.sig (map formula_of c.args.level.now.scope.now.bodies) (worked_in c.args.level.now.definitions.now) c.args.level.now.below c.compile_tree.new.table c.compile_tree-2.new.table c.args.env.now (formula_of c.args.first.now) call) (λ call. IsPutOff c.args.level.now.scope.now.sig (map formula_of c.args.level.now.scope.now.bodies) (worked_in c.args.level.now.definitions.now) c.args.level.now.below c.args.table.now c.compile_tree-2.new.table c.args.env.now (Ite (formula_of c.args.condition.now) (formula_of c.args.first.now) (formula_of c.args.second.now)) call) (λ call k. choice_waits_2 c.args.level.now.scope.now.sig (map formula_of c.args.level.now.scope.now.bodies) c.args.level.now.below c.args.env.now (formula_of c.args.condition.now) (formula_of c.args.first.now) (formula_of c.args.second.now) c.args.table.now c.compile_tree.new.table c.in_ok-c.c c.in_ok-c.ensures.outcome (worked_in c.args.level.now.definitions.now) c.compile_tree-2.new.table call k) (rw c.in_ok-c.ensures.back at c.in_err-a.ensures.waits))

pub compile_choice-returns-in_err-a-clause-state : goal.compile_choice-returns-in_err-a-clause-state
compile_choice-returns-in_err-a-clause-state t c =
    let p = err_from_is_err_and c.from_residual-in_err-a.result c.from_residual-in_err-a.ensures.1 in
    rw (p.1, p.2) (goes_on_by TermId TermId _ (IsState c.args.level.now.scope.now.sig (map formula_of c.args.level.now.scope.now.bodies) c.args.level.now.below (worked_in c.args.level.now.definitions.now) c.compile_tree-2.new.table c.compile_tree-2.new.known) (IsState c.args.level.now.scope.now.sig (map formula_of c.args.level.now.scope.now.bodies) c.args.level.now.below (worked_in c.args.level.now.definitions.now) c.compile_tree-2.new.table c.compile_tree-2.new.known) (λ k. k) c.in_err-a.ensures.state)

pub compile_choice-returns-in_err-a-clause-unknown : goal.compile_choice-returns-in_err-a-clause-unknown
compile_choice-returns-in_err-a-clause-unknown t c =
    let p = err_from_is_err_and c.from_residual-in_err-a.result c.from_residual-in_err-a.ensures.1 in
    rw (p.1, p.2) (too_deep_by TermId TermId _ (λ call. IsUnknown c.compile_tree-2.new.known call) (λ call. IsUnknown c.compile_tree-2.new.known call) (λ call h. h) c.in_err-a.ensures.unknown)

pub compile_choice-compile_tree-requires-3 : goal.compile_choice-compile_tree-requires-3
compile_choice-compile_tree-requires-3 t c =
    (omega (arith, c.decreases), (c.in_ok-a.ensures.state, (rw (c.in_ok-a.ensures.back, c.in_ok-c.ensures.back) (choice_else c.args.level.now.scope.now.sig (map formula_of c.args.level.now.scope.now.bodies) c.args.level.now.below c.args.env.now (formula_of c.args.condition.now) (formula_of c.args.first.now) (formula_of c.args.second.now) c.args.table.now c.compile_tree.new.table c.in_ok-c.c c.in_ok-c.ensures.outcome c.compile_tree-2.new.table c.in_ok-a.a (rw c.in_ok-c.ensures.back at c.in_ok-a.ensures.outcome) c.requires.ready), (c.requires.noted.0, else_notes c.args.level.now.scope.now.sig (worked_in c.args.level.now.definitions.now) (uses_below c.args.level.now.scope.now.sig (map formula_of c.args.level.now.scope.now.bodies) c.args.level.now.below) c.args.notes.now c.first_note-note.result.now c.first_note-note.ensures.value (formula_of c.args.condition.now) (formula_of c.args.first.now) (formula_of c.args.second.now) c.under-of_condition.result.now c.later_notes-of_first.result.now c.later_notes-of_second.result.now c.under-of_condition.ensures.value c.later_notes-of_first.ensures.value c.later_notes-of_second.ensures.value c.requires.noted.1))))

pub compile_choice-returns-in_err-b-clause-outcome : goal.compile_choice-returns-in_err-b-clause-outcome
compile_choice-returns-in_err-b-clause-outcome t c =
    let p = err_from_is_err_and c.from_residual-in_err-b.result c.from_residual-in_err-b.ensures.1 in
    rw (p.1, p.2) (ended_by _ (λ (r : Result TermId TermError). Compiles c.args.level.now.scope.now.sig (map formula_of c.args.level.now.scope.now.bodies) c.args.level.now.below c.compile_tree-2.new.table c.compile_tree-3.new.table c.args.env.now (formula_of c.args.second.now) r) (λ (r : Result TermId TermError). Compiles c.args.level.now.scope.now.sig (map formula_of c.args.level.now.scope.now.bodies) c.args.level.now.below c.args.table.now c.compile_tree-3.new.table c.args.env.now (Ite (formula_of c.args.condition.now) (formula_of c.args.first.now) (formula_of c.args.second.now)) r) (λ e k. choice_failed_3 c.args.level.now.scope.now.sig (map formula_of c.args.level.now.scope.now.bodies) c.args.level.now.below c.args.env.now (formula_of c.args.condition.now) (formula_of c.args.first.now) (formula_of c.args.second.now) c.args.table.now c.compile_tree.new.table c.in_ok-c.c c.in_ok-c.ensures.outcome c.compile_tree-2.new.table c.in_ok-a.a (rw c.in_ok-c.ensures.back at c.in_ok-a.ensures.outcome) c.compile_tree-3.new.table e k) (rw (c.in_ok-a.ensures.back, c.in_ok-c.ensures.back) at c.in_err-b.ensures.outcome))

pub compile_choice-returns-in_err-b-clause-waits : goal.compile_choice-returns-in_err-b-clause-waits
compile_choice-returns-in_err-b-clause-waits t c =
    let p = err_from_is_err_and c.from_residual-in_err-b.result c.from_residual-in_err-b.ensures.1 in
    rw (p.1, p.2) (too_deep_by TermId TermId _ (λ call. IsPutOff c.args.level.now.scope.now.sig (map formula_of c.args.level.now.scope.now.bodies) (worked_in c.args.level.now.definitions.now) c.args.level.now.below c.compile_tree-2.new.table c.compile_tree-3.new.table c.args.env.now (formula_of c.args.second.now) call) (λ call. IsPutOff c.args.level.now.scope.now.sig (map formula_of c.args.level.now.scope.now.bodies) (worked_in c.args.level.now.definitions.now) c.args.level.now.below c.args.table.now c.compile_tree-3.new.table c.args.env.now (Ite (formula_of c.args.condition.now) (formula_of c.args.first.now) (formula_of c.args.second.now)) call) (λ call k. choice_waits_3 c.args.level.now.scope.now.sig (map formula_of c.args.level.now.scope.now.bodies) c.args.level.now.below c.args.env.now (formula_of c.args.condition.now) (formula_of c.args.first.now) (formula_of c.args.second.now) c.args.table.now c.compile_tree.new.table c.in_ok-c.c c.in_ok-c.ensures.outcome c.compile_tree-2.new.table c.in_ok-a.a (rw c.in_ok-c.ensures.back at c.in_ok-a.ensures.outcome) (worked_in c.args.level.now.definitions.now) c.compile_tree-3.new.table call k) (rw (c.in_ok-a.ensures.back, c.in_ok-c.ensures.back) at c.in_err-b.ensures.waits))

pub compile_choice-returns-in_err-b-clause-state : goal.compile_choice-returns-in_err-b-clause-state
compile_choice-returns-in_err-b-clause-state t c =
    let p = err_from_is_err_and c.from_residual-in_err-b.result c.from_residual-in_err-b.ensures.1 in
    rw (p.1, p.2) (goes_on_by TermId TermId _ (IsState c.args.level.now.scope.now.sig (map formula_of c.args.level.now.scope.now.bodies) c.args.level.now.below (worked_in c.args.level.now.definitions.now) c.compile_tree-3.new.table c.compile_tree-3.new.known) (IsState c.args.level.now.scope.now.sig (map formula_of c.args.level.now.scope.now.bodies) c.args.level.now.below (worked_in c.args.level.now.definitions.now) c.compile_tree-3.new.table c.compile_tree-3.new.known) (λ k. k) c.in_err-b.ensures.state)

pub compile_choice-returns-in_err-b-clause-unknown : goal.compile_choice-returns-in_err-b-clause-unknown
compile_choice-returns-in_err-b-clause-unknown t c =
    let p = err_from_is_err_and c.from_residual-in_err-b.result c.from_residual-in_err-b.ensures.1 in
    rw (p.1, p.2) (too_deep_by TermId TermId _ (λ call. IsUnknown c.compile_tree-3.new.known call) (λ call. IsUnknown c.compile_tree-3.new.known call) (λ call h. h) c.in_err-b.ensures.unknown)

pub compile_choice-make-requires-clause-kept : goal.compile_choice-make-requires-clause-kept
compile_choice-make-requires-clause-kept t c =
    choice_kept c.args.level.now.scope.now.sig (map formula_of c.args.level.now.scope.now.bodies) c.args.level.now.below c.args.env.now (formula_of c.args.condition.now) (formula_of c.args.first.now) (formula_of c.args.second.now) c.args.table.now c.compile_tree.new.table c.in_ok-c.c c.in_ok-c.ensures.outcome c.compile_tree-2.new.table c.in_ok-a.a (rw c.in_ok-c.ensures.back at c.in_ok-a.ensures.outcome) c.compile_tree-3.new.table c.in_ok-b.b (rw (c.in_ok-a.ensures.back, c.in_ok-c.ensures.back) at c.in_ok-b.ensures.outcome) c.requires.ready

pub compile_choice-make-requires-clause-below : goal.compile_choice-make-requires-clause-below
compile_choice-make-requires-clause-below t c =
    choice_below c.args.level.now.scope.now.sig (map formula_of c.args.level.now.scope.now.bodies) c.args.level.now.below c.args.env.now (formula_of c.args.condition.now) (formula_of c.args.first.now) (formula_of c.args.second.now) c.args.table.now c.compile_tree.new.table c.in_ok-c.c c.in_ok-c.ensures.outcome c.compile_tree-2.new.table c.in_ok-a.a (rw c.in_ok-c.ensures.back at c.in_ok-a.ensures.outcome) c.compile_tree-3.new.table c.in_ok-b.b (rw (c.in_ok-a.ensures.back, c.in_ok-c.ensures.back) at c.in_ok-b.ensures.outcome) c.requires.ready

pub compile_choice-make-requires-clause-sorted : goal.compile_choice-make-requires-clause-sorted
compile_choice-make-requires-clause-sorted t c =
    choice_sorted c.args.level.now.scope.now.sig (map formula_of c.args.level.now.scope.now.bodies) c.args.level.now.below c.args.env.now (formula_of c.args.condition.now) (formula_of c.args.first.now) (formula_of c.args.second.now) c.args.table.now c.compile_tree.new.table c.in_ok-c.c c.in_ok-c.ensures.outcome c.compile_tree-2.new.table c.in_ok-a.a (rw c.in_ok-c.ensures.back at c.in_ok-a.ensures.outcome) c.compile_tree-3.new.table c.in_ok-b.b (rw (c.in_ok-a.ensures.back, c.in_ok-c.ensures.back) at c.in_ok-b.ensures.outcome) c.requires.ready

pub compile_choice-returns-in_err-make-clause-outcome : goal.compile_choice-returns-in_err-make-clause-outcome
compile_choice-returns-in_err-make-clause-outcome t c =
    let p = err_from_is_err_and c.from_residual-in_err-make.result c.from_residual-in_err-make.ensures.1 in
    rw (p.1, p.2) (choice_made c.args.level.now.scope.now.sig (map formula_of c.args.level.now.scope.now.bodies) c.args.level.now.below c.args.env.now (formula_of c.args.condition.now) (formula_of c.args.first.now) (formula_of c.args.second.now) c.args.table.now c.compile_tree.new.table c.in_ok-c.c c.in_ok-c.ensures.outcome c.compile_tree-2.new.table c.in_ok-a.a (rw c.in_ok-c.ensures.back at c.in_ok-a.ensures.outcome) c.compile_tree-3.new.table c.in_ok-b.b (rw (c.in_ok-a.ensures.back, c.in_ok-c.ensures.back) at c.in_ok-b.ensures.outcome) c.make.new.table _ c.in_err-make.ensures.core c.in_err-make.ensures.effect)

pub compile_choice-returns-clause-outcome : goal.compile_choice-returns-clause-outcome
compile_choice-returns-clause-outcome t c =
    choice_made c.args.level.now.scope.now.sig (map formula_of c.args.level.now.scope.now.bodies) c.args.level.now.below c.args.env.now (formula_of c.args.condition.now) (formula_of c.args.first.now) (formula_of c.args.second.now) c.args.table.now c.compile_tree.new.table c.in_ok-c.c c.in_ok-c.ensures.outcome c.compile_tree-2.new.table c.in_ok-a.a (rw c.in_ok-c.ensures.back at c.in_ok-a.ensures.outcome) c.compile_tree-3.new.table c.in_ok-b.b (rw (c.in_ok-a.ensures.back, c.in_ok-c.ensures.back) at c.in_ok-b.ensures.outcome) c.make.new.table _ c.in_ok-make.ensures.core c.in_ok-make.ensures.effect

pub compile_choice-returns-clause-state : goal.compile_choice-returns-clause-state
compile_choice-returns-clause-state t c =
    state_made c.args.level.now.scope.now.sig (map formula_of c.args.level.now.scope.now.bodies) (worked_in c.args.level.now.definitions.now) c.args.level.now.below c.compile_tree-3.new.table c.make.new.table c.compile_tree-3.new.known _ (choice (term_at c.compile_tree-3.new.table c.in_ok-c.c) (term_at c.compile_tree-3.new.table c.in_ok-a.a) (term_at c.compile_tree-3.new.table c.in_ok-b.b)) c.in_ok-make.ensures.effect c.in_ok-b.ensures.state

pub compile_tree-returns-in_ok-variable-in-Var-clause-state : goal.compile_tree-returns-in_ok-variable-in-Var-clause-state
compile_tree-returns-in_ok-variable-in-Var-clause-state t c =
    let g = c.variable.ensures.grown in
    state_stays c.args.level.now.scope.now.sig (map formula_of c.args.level.now.scope.now.bodies) (worked_in c.args.level.now.definitions.now) c.args.level.now.below c.args.table.now c.variable.new.table c.args.known.now g.0 g.1 c.requires.state

pub compile_let-compile_bound-requires : goal.compile_let-compile_bound-requires
compile_let-compile_bound-requires t c =
    let flags_are : c.bound-flags.result.now ≡ flags_below (occurs c.args.level.now.scope.now.sig (uses_below c.args.level.now.scope.now.sig (map formula_of c.args.level.now.scope.now.bodies) c.args.level.now.below) (formula_of c.args.body.now)) (count_of (formulas_of_trees c.args.trees.now)) = let_flags c.args.level.now.scope.now.sig (worked_in c.args.level.now.definitions.now) (uses_below c.args.level.now.scope.now.sig (map formula_of c.args.level.now.scope.now.bodies) c.args.level.now.below) c.args.notes.now c.first_note-note.result.now c.first_note-note.ensures.value (formulas_of_trees c.args.trees.now) (formula_of c.args.body.now) c.bound-flags.result.now c.bound-flags.ensures.value c.requires.noted.1 in
    (omega (arith, c.decreases), (c.requires.state, (under_may c.args.level.now.scope.now.sig (map formula_of c.args.level.now.scope.now.bodies) c.args.level.now.below c.args.level.now.below c.args.table.now c.args.env.now c.args.env.now c.bound-flags.result.now (Let (formulas_of_trees c.args.trees.now) (formula_of c.args.body.now)) (formulas_of_trees c.args.trees.now) (formula_of c.args.body.now) (let_view c.args.level.now.scope.now.sig (map formula_of c.args.level.now.scope.now.bodies) c.args.level.now.below c.args.table.now c.args.env.now c.bound-flags.result.now (formulas_of_trees c.args.trees.now) (formula_of c.args.body.now) flags_are) c.requires.ready, (c.requires.noted.0, let_under c.args.level.now.scope.now.sig (worked_in c.args.level.now.definitions.now) (uses_below c.args.level.now.scope.now.sig (map formula_of c.args.level.now.scope.now.bodies) c.args.level.now.below) c.args.notes.now c.first_note-note.result.now c.first_note-note.ensures.value (formulas_of_trees c.args.trees.now) (formula_of c.args.body.now) c.bound-flags.result.now c.under.result.now c.bound-flags.ensures.value c.under.ensures.value c.requires.noted.1))))

pub compile_let-returns-in_err-bounds-clause-outcome : goal.compile_let-returns-in_err-bounds-clause-outcome
compile_let-returns-in_err-bounds-clause-outcome t c =
    let flags_are : c.bound-flags.result.now ≡ flags_below (occurs c.args.level.now.scope.now.sig (uses_below c.args.level.now.scope.now.sig (map formula_of c.args.level.now.scope.now.bodies) c.args.level.now.below) (formula_of c.args.body.now)) (count_of (formulas_of_trees c.args.trees.now)) = let_flags c.args.level.now.scope.now.sig (worked_in c.args.level.now.definitions.now) (uses_below c.args.level.now.scope.now.sig (map formula_of c.args.level.now.scope.now.bodies) c.args.level.now.below) c.args.notes.now c.first_note-note.result.now c.first_note-note.ensures.value (formulas_of_trees c.args.trees.now) (formula_of c.args.body.now) c.bound-flags.result.now c.bound-flags.ensures.value c.requires.noted.1 in
    let p = err_from_is_err_and c.from_residual.result c.from_residual.ensures.1 in
    rw (p.1, p.2) (under_stopped c.args.level.now.scope.now.sig (map formula_of c.args.level.now.scope.now.bodies) c.args.level.now.below c.args.level.now.below c.args.table.now c.args.env.now c.args.env.now c.bound-flags.result.now (Let (formulas_of_trees c.args.trees.now) (formula_of c.args.body.now)) (formulas_of_trees c.args.trees.now) (formula_of c.args.body.now) (let_view c.args.level.now.scope.now.sig (map formula_of c.args.level.now.scope.now.bodies) c.args.level.now.below c.args.table.now c.args.env.now c.bound-flags.result.now (formulas_of_trees c.args.trees.now) (formula_of c.args.body.now) flags_are) c.compile_bound.new.table _ c.in_err-bounds.ensures.outcome)

pub compile_let-returns-in_err-bounds-clause-waits : goal.compile_let-returns-in_err-bounds-clause-waits
compile_let-returns-in_err-bounds-clause-waits t c =
    let flags_are : c.bound-flags.result.now ≡ flags_below (occurs c.args.level.now.scope.now.sig (uses_below c.args.level.now.scope.now.sig (map formula_of c.args.level.now.scope.now.bodies) c.args.level.now.below) (formula_of c.args.body.now)) (count_of (formulas_of_trees c.args.trees.now)) = let_flags c.args.level.now.scope.now.sig (worked_in c.args.level.now.definitions.now) (uses_below c.args.level.now.scope.now.sig (map formula_of c.args.level.now.scope.now.bodies) c.args.level.now.below) c.args.notes.now c.first_note-note.result.now c.first_note-note.ensures.value (formulas_of_trees c.args.trees.now) (formula_of c.args.body.now) c.bound-flags.result.now c.bound-flags.ensures.value c.requires.noted.1 in
    let p = err_from_is_err_and c.from_residual.result c.from_residual.ensures.1 in
    rw (p.1, p.2) (under_waits c.args.level.now.scope.now.sig (map formula_of c.args.level.now.scope.now.bodies) c.args.level.now.below c.args.level.now.below c.args.table.now c.args.env.now c.args.env.now c.bound-flags.result.now (Let (formulas_of_trees c.args.trees.now) (formula_of c.args.body.now)) (formulas_of_trees c.args.trees.now) (formula_of c.args.body.now) (let_view c.args.level.now.scope.now.sig (map formula_of c.args.level.now.scope.now.bodies) c.args.level.now.below c.args.table.now c.args.env.now c.bound-flags.result.now (formulas_of_trees c.args.trees.now) (formula_of c.args.body.now) flags_are) (worked_in c.args.level.now.definitions.now) c.compile_bound.new.table _ c.in_err-bounds.ensures.waits)

pub compile_let-returns-in_err-bounds-clause-state : goal.compile_let-returns-in_err-bounds-clause-state
compile_let-returns-in_err-bounds-clause-state t c =
    let p = err_from_is_err_and c.from_residual.result c.from_residual.ensures.1 in
    rw (p.1, p.2) (goes_on_by (List Bound) TermId c.in_err-bounds.field-0.0 (IsState c.args.level.now.scope.now.sig (map formula_of c.args.level.now.scope.now.bodies) c.args.level.now.below (worked_in c.args.level.now.definitions.now) c.compile_bound.new.table c.compile_bound.new.known) (IsState c.args.level.now.scope.now.sig (map formula_of c.args.level.now.scope.now.bodies) c.args.level.now.below (worked_in c.args.level.now.definitions.now) c.compile_bound.new.table c.compile_bound.new.known) (λ x. x) c.in_err-bounds.ensures.state)

pub compile_let-returns-in_err-bounds-clause-unknown : goal.compile_let-returns-in_err-bounds-clause-unknown
compile_let-returns-in_err-bounds-clause-unknown t c =
    let p = err_from_is_err_and c.from_residual.result c.from_residual.ensures.1 in
    rw (p.1, p.2) (too_deep_by (List Bound) TermId _ (λ call. IsUnknown c.compile_bound.new.known call) (λ call. IsUnknown c.compile_bound.new.known call) (λ call h. h) c.in_err-bounds.ensures.unknown)

pub compile_let-returns-in_err-bind-clause-outcome : goal.compile_let-returns-in_err-bind-clause-outcome
compile_let-returns-in_err-bind-clause-outcome t c =
    let flags_are : c.bound-flags.result.now ≡ flags_below (occurs c.args.level.now.scope.now.sig (uses_below c.args.level.now.scope.now.sig (map formula_of c.args.level.now.scope.now.bodies) c.args.level.now.below) (formula_of c.args.body.now)) (count_of (formulas_of_trees c.args.trees.now)) = let_flags c.args.level.now.scope.now.sig (worked_in c.args.level.now.definitions.now) (uses_below c.args.level.now.scope.now.sig (map formula_of c.args.level.now.scope.now.bodies) c.args.level.now.below) c.args.notes.now c.first_note-note.result.now c.first_note-note.ensures.value (formulas_of_trees c.args.trees.now) (formula_of c.args.body.now) c.bound-flags.result.now c.bound-flags.ensures.value c.requires.noted.1 in
    let p = err_from_is_err_and c.from_residual-in_err-bind.result c.from_residual-in_err-bind.ensures.1 in
    rw (p.1, p.2) (under_out c.args.level.now.scope.now.sig (map formula_of c.args.level.now.scope.now.bodies) c.args.level.now.below c.args.level.now.below c.args.table.now c.args.env.now c.args.env.now c.bound-flags.result.now (Let (formulas_of_trees c.args.trees.now) (formula_of c.args.body.now)) (formulas_of_trees c.args.trees.now) (formula_of c.args.body.now) (let_view c.args.level.now.scope.now.sig (map formula_of c.args.level.now.scope.now.bodies) c.args.level.now.below c.args.table.now c.args.env.now c.bound-flags.result.now (formulas_of_trees c.args.trees.now) (formula_of c.args.body.now) flags_are) c.compile_bound.new.table c.in_ok-bounds.bounds c.in_ok-bounds.ensures.outcome NoMemory refl)

pub compile_let-compile_tree-result-requires : goal.compile_let-compile_tree-result-requires
compile_let-compile_tree-result-requires t c =
    let flags_are : c.bound-flags.result.now ≡ flags_below (occurs c.args.level.now.scope.now.sig (uses_below c.args.level.now.scope.now.sig (map formula_of c.args.level.now.scope.now.bodies) c.args.level.now.below) (formula_of c.args.body.now)) (count_of (formulas_of_trees c.args.trees.now)) = let_flags c.args.level.now.scope.now.sig (worked_in c.args.level.now.definitions.now) (uses_below c.args.level.now.scope.now.sig (map formula_of c.args.level.now.scope.now.bodies) c.args.level.now.below) c.args.notes.now c.first_note-note.result.now c.first_note-note.ensures.value (formulas_of_trees c.args.trees.now) (formula_of c.args.body.now) c.bound-flags.result.now c.bound-flags.ensures.value c.requires.noted.1 in
    let inner_is : c.bind.new.self ≡ bind c.in_ok-bounds.bounds c.args.env.now = c.in_ok-bind.ensures.bound ∙ ap (λ (xs : List Bound). bind xs c.compile_bound.new.env) c.as_slice-bounds.ensures.value ∙ ap (bind c.in_ok-bounds.bounds) c.in_ok-bounds.ensures.back in
    (omega (arith, c.decreases), (c.in_ok-bounds.ensures.state, (subst (λ (xs : List Bound). MayCompile c.args.level.now.scope.now.sig (map formula_of c.args.level.now.scope.now.bodies) c.compile_bound.new.table c.args.level.now.below xs (formula_of c.args.body.now)) (sym inner_is) (under_body c.args.level.now.scope.now.sig (map formula_of c.args.level.now.scope.now.bodies) c.args.level.now.below c.args.level.now.below c.args.table.now c.args.env.now c.args.env.now c.bound-flags.result.now (Let (formulas_of_trees c.args.trees.now) (formula_of c.args.body.now)) (formulas_of_trees c.args.trees.now) (formula_of c.args.body.now) (let_view c.args.level.now.scope.now.sig (map formula_of c.args.level.now.scope.now.bodies) c.args.level.now.below c.args.table.now c.args.env.now c.bound-flags.result.now (formulas_of_trees c.args.trees.now) (formula_of c.args.body.now) flags_are) c.compile_bound.new.table c.in_ok-bounds.bounds c.in_ok-bounds.ensures.outcome c.requires.ready), (c.requires.noted.0, let_inner c.args.level.now.scope.now.sig (worked_in c.args.level.now.definitions.now) (uses_below c.args.level.now.scope.now.sig (map formula_of c.args.level.now.scope.now.bodies) c.args.level.now.below) c.args.notes.now c.first_note-note.result.now c.first_note-note.ensures.value (formulas_of_trees c.args.trees.now) (formula_of c.args.body.now) c.inner.result.now c.inner.ensures.value c.requires.noted.1))))

pub compile_let-returns-clause-outcome : goal.compile_let-returns-clause-outcome
compile_let-returns-clause-outcome t c =
    let flags_are : c.bound-flags.result.now ≡ flags_below (occurs c.args.level.now.scope.now.sig (uses_below c.args.level.now.scope.now.sig (map formula_of c.args.level.now.scope.now.bodies) c.args.level.now.below) (formula_of c.args.body.now)) (count_of (formulas_of_trees c.args.trees.now)) = let_flags c.args.level.now.scope.now.sig (worked_in c.args.level.now.definitions.now) (uses_below c.args.level.now.scope.now.sig (map formula_of c.args.level.now.scope.now.bodies) c.args.level.now.below) c.args.notes.now c.first_note-note.result.now c.first_note-note.ensures.value (formulas_of_trees c.args.trees.now) (formula_of c.args.body.now) c.bound-flags.result.now c.bound-flags.ensures.value c.requires.noted.1 in
    let inner_is : c.bind.new.self ≡ bind c.in_ok-bounds.bounds c.args.env.now = c.in_ok-bind.ensures.bound ∙ ap (λ (xs : List Bound). bind xs c.compile_bound.new.env) c.as_slice-bounds.ensures.value ∙ ap (bind c.in_ok-bounds.bounds) c.in_ok-bounds.ensures.back in
    under_made c.args.level.now.scope.now.sig (map formula_of c.args.level.now.scope.now.bodies) c.args.level.now.below c.args.level.now.below c.args.table.now c.args.env.now c.args.env.now c.bound-flags.result.now (Let (formulas_of_trees c.args.trees.now) (formula_of c.args.body.now)) (formulas_of_trees c.args.trees.now) (formula_of c.args.body.now) (let_view c.args.level.now.scope.now.sig (map formula_of c.args.level.now.scope.now.bodies) c.args.level.now.below c.args.table.now c.args.env.now c.bound-flags.result.now (formulas_of_trees c.args.trees.now) (formula_of c.args.body.now) flags_are) c.compile_bound.new.table c.in_ok-bounds.bounds c.in_ok-bounds.ensures.outcome c.compile_tree-result.new.table (ended c.compile_tree-result.result) (subst (λ (xs : List Bound). Compiles c.args.level.now.scope.now.sig (map formula_of c.args.level.now.scope.now.bodies) c.args.level.now.below c.compile_bound.new.table c.compile_tree-result.new.table xs (formula_of c.args.body.now) (ended c.compile_tree-result.result)) inner_is c.compile_tree-result.ensures.outcome)

pub compile_let-returns-clause-waits : goal.compile_let-returns-clause-waits
compile_let-returns-clause-waits t c =
    let flags_are : c.bound-flags.result.now ≡ flags_below (occurs c.args.level.now.scope.now.sig (uses_below c.args.level.now.scope.now.sig (map formula_of c.args.level.now.scope.now.bodies) c.args.level.now.below) (formula_of c.args.body.now)) (count_of (formulas_of_trees c.args.trees.now)) = let_flags c.args.level.now.scope.now.sig (worked_in c.args.level.now.definitions.now) (uses_below c.args.level.now.scope.now.sig (map formula_of c.args.level.now.scope.now.bodies) c.args.level.now.below) c.args.notes.now c.first_note-note.result.now c.first_note-note.ensures.value (formulas_of_trees c.args.trees.now) (formula_of c.args.body.now) c.bound-flags.result.now c.bound-flags.ensures.value c.requires.noted.1 in
    let inner_is : c.bind.new.self ≡ bind c.in_ok-bounds.bounds c.args.env.now = c.in_ok-bind.ensures.bound ∙ ap (λ (xs : List Bound). bind xs c.compile_bound.new.env) c.as_slice-bounds.ensures.value ∙ ap (bind c.in_ok-bounds.bounds) c.in_ok-bounds.ensures.back in
    under_later c.args.level.now.scope.now.sig (map formula_of c.args.level.now.scope.now.bodies) c.args.level.now.below c.args.level.now.below c.args.table.now c.args.env.now c.args.env.now c.bound-flags.result.now (Let (formulas_of_trees c.args.trees.now) (formula_of c.args.body.now)) (formulas_of_trees c.args.trees.now) (formula_of c.args.body.now) (let_view c.args.level.now.scope.now.sig (map formula_of c.args.level.now.scope.now.bodies) c.args.level.now.below c.args.table.now c.args.env.now c.bound-flags.result.now (formulas_of_trees c.args.trees.now) (formula_of c.args.body.now) flags_are) c.compile_bound.new.table c.in_ok-bounds.bounds c.in_ok-bounds.ensures.outcome (worked_in c.args.level.now.definitions.now) (omega arith) c.compile_tree-result.new.table c.compile_tree-result.result (subst (λ (xs : List Bound). Defers c.args.level.now.scope.now.sig (map formula_of c.args.level.now.scope.now.bodies) (worked_in c.args.level.now.definitions.now) c.args.level.now.below c.compile_bound.new.table c.compile_tree-result.new.table xs (formula_of c.args.body.now) c.compile_tree-result.result) inner_is c.compile_tree-result.ensures.waits)

pub compile_let-returns-clause-back : goal.compile_let-returns-clause-back
compile_let-returns-clause-back t c =
    let inner_is : c.bind.new.self ≡ bind c.in_ok-bounds.bounds c.args.env.now = c.in_ok-bind.ensures.bound ∙ ap (λ (xs : List Bound). bind xs c.compile_bound.new.env) c.as_slice-bounds.ensures.value ∙ ap (bind c.in_ok-bounds.bounds) c.in_ok-bounds.ensures.back in
    let long : length c.as_slice-bounds.result.now ≡ length c.in_ok-bounds.bounds = ap (λ (xs : List Bound). length xs) c.as_slice-bounds.ensures.value in
    c.unbind.ensures.rest ∙ ap (drop (length c.as_slice-bounds.result.now)) (c.compile_tree-result.ensures.back ∙ inner_is) ∙ ap (λ (k : ℕ). drop k (bind c.in_ok-bounds.bounds c.args.env.now)) long ∙ bind_left c.in_ok-bounds.bounds c.args.env.now

pub compile_call-compile_bound-requires : goal.compile_call-compile_bound-requires
compile_call-compile_bound-requires t c =
    (omega (arith, c.decreases), (c.requires.state, (under_may c.args.level.now.scope.now.sig (map formula_of c.args.level.now.scope.now.bodies) c.args.level.now.below c.args.k.0 c.args.table.now c.args.env.now [] c.row_at-row.result.now (Def c.args.k (formulas_of_trees c.args.trees.now)) (formulas_of_trees c.args.trees.now) (formula_of c.body_at-body.result.now) (call_under c.args.level.now.scope.now.sig (map formula_of c.args.level.now.scope.now.bodies) c.args.level.now.below (worked_in c.args.level.now.definitions.now) c.args.table.now c.args.env.now c.args.k (formulas_of_trees c.args.trees.now) c.row_at-row.result.now c.row_at-row.ensures.value (formula_of c.body_at-body.result.now) c.body_at-body.ensures.value c.requires.state.have) c.requires.ready, (c.requires.noted.0, call_notes c.args.level.now.scope.now.sig (worked_in c.args.level.now.definitions.now) (uses_below c.args.level.now.scope.now.sig (map formula_of c.args.level.now.scope.now.bodies) c.args.level.now.below) c.args.notes.now c.first_note-note.result.now c.first_note-note.ensures.value c.args.k (formulas_of_trees c.args.trees.now) c.row_at-row.result.now c.under.result.now (row_is c.args.level.now.scope.now.sig (map formula_of c.args.level.now.scope.now.bodies) c.args.level.now.below (worked_in c.args.level.now.definitions.now) c.args.table.now c.args.env.now c.args.k (formulas_of_trees c.args.trees.now) c.row_at-row.result.now c.row_at-row.ensures.value (formula_of c.body_at-body.result.now) c.body_at-body.ensures.value c.requires.state.have c.requires.ready.0 c.requires.ready.1 c.requires.ready.2 c.requires.ready.3) c.under.ensures.value c.requires.noted.1))))

pub compile_call-returns-in_err-bounds-clause-outcome : goal.compile_call-returns-in_err-bounds-clause-outcome
compile_call-returns-in_err-bounds-clause-outcome t c =
    let p = err_from_is_err_and c.from_residual.result c.from_residual.ensures.1 in
    rw (p.1, p.2) (under_stopped c.args.level.now.scope.now.sig (map formula_of c.args.level.now.scope.now.bodies) c.args.level.now.below c.args.k.0 c.args.table.now c.args.env.now [] c.row_at-row.result.now (Def c.args.k (formulas_of_trees c.args.trees.now)) (formulas_of_trees c.args.trees.now) (formula_of c.body_at-body.result.now) (call_under c.args.level.now.scope.now.sig (map formula_of c.args.level.now.scope.now.bodies) c.args.level.now.below (worked_in c.args.level.now.definitions.now) c.args.table.now c.args.env.now c.args.k (formulas_of_trees c.args.trees.now) c.row_at-row.result.now c.row_at-row.ensures.value (formula_of c.body_at-body.result.now) c.body_at-body.ensures.value c.requires.state.have) c.compile_bound.new.table _ c.in_err-bounds.ensures.outcome)

pub compile_call-returns-in_err-bounds-clause-waits : goal.compile_call-returns-in_err-bounds-clause-waits
compile_call-returns-in_err-bounds-clause-waits t c =
    let p = err_from_is_err_and c.from_residual.result c.from_residual.ensures.1 in
    rw (p.1, p.2) (under_waits c.args.level.now.scope.now.sig (map formula_of c.args.level.now.scope.now.bodies) c.args.level.now.below c.args.k.0 c.args.table.now c.args.env.now [] c.row_at-row.result.now (Def c.args.k (formulas_of_trees c.args.trees.now)) (formulas_of_trees c.args.trees.now) (formula_of c.body_at-body.result.now) (call_under c.args.level.now.scope.now.sig (map formula_of c.args.level.now.scope.now.bodies) c.args.level.now.below (worked_in c.args.level.now.definitions.now) c.args.table.now c.args.env.now c.args.k (formulas_of_trees c.args.trees.now) c.row_at-row.result.now c.row_at-row.ensures.value (formula_of c.body_at-body.result.now) c.body_at-body.ensures.value c.requires.state.have) (worked_in c.args.level.now.definitions.now) c.compile_bound.new.table _ c.in_err-bounds.ensures.waits)

pub compile_call-returns-in_err-bounds-clause-state : goal.compile_call-returns-in_err-bounds-clause-state
compile_call-returns-in_err-bounds-clause-state t c =
    let p = err_from_is_err_and c.from_residual.result c.from_residual.ensures.1 in
    rw (p.1, p.2) (goes_on_by (List Bound) TermId c.in_err-bounds.field-0.0 (IsState c.args.level.now.scope.now.sig (map formula_of c.args.level.now.scope.now.bodies) c.args.level.now.below (worked_in c.args.level.now.definitions.now) c.compile_bound.new.table c.compile_bound.new.known) (IsState c.args.level.now.scope.now.sig (map formula_of c.args.level.now.scope.now.bodies) c.args.level.now.below (worked_in c.args.level.now.definitions.now) c.compile_bound.new.table c.compile_bound.new.known) (λ x. x) c.in_err-bounds.ensures.state)

pub compile_call-returns-in_err-bounds-clause-unknown : goal.compile_call-returns-in_err-bounds-clause-unknown
compile_call-returns-in_err-bounds-clause-unknown t c =
    let p = err_from_is_err_and c.from_residual.result c.from_residual.ensures.1 in
    rw (p.1, p.2) (too_deep_by (List Bound) TermId _ (λ call. IsUnknown c.compile_bound.new.known call) (λ call. IsUnknown c.compile_bound.new.known call) (λ call h. h) c.in_err-bounds.ensures.unknown)

pub compile_call-returns-in_err-call-clause-outcome : goal.compile_call-returns-in_err-call-clause-outcome
compile_call-returns-in_err-call-clause-outcome t c =
    let p = err_from_is_err_and c.from_residual-in_err-call.result c.from_residual-in_err-call.ensures.1 in
    rw (p.1, p.2) (under_out c.args.level.now.scope.now.sig (map formula_of c.args.level.now.scope.now.bodies) c.args.level.now.below c.args.k.0 c.args.table.now c.args.env.now [] c.row_at-row.result.now (Def c.args.k (formulas_of_trees c.args.trees.now)) (formulas_of_trees c.args.trees.now) (formula_of c.body_at-body.result.now) (call_under c.args.level.now.scope.now.sig (map formula_of c.args.level.now.scope.now.bodies) c.args.level.now.below (worked_in c.args.level.now.definitions.now) c.args.table.now c.args.env.now c.args.k (formulas_of_trees c.args.trees.now) c.row_at-row.result.now c.row_at-row.ensures.value (formula_of c.body_at-body.result.now) c.body_at-body.ensures.value c.requires.state.have) c.compile_bound.new.table c.in_ok-bounds.bounds c.in_ok-bounds.ensures.outcome NoMemory refl)

pub compile_call-returns-in-Some-clause-outcome : goal.compile_call-returns-in-Some-clause-outcome
compile_call-returns-in-Some-clause-outcome t c =
    let call_is : c.in_ok-call.call ≡ call_of c.args.k c.in_ok-bounds.bounds = c.in_ok-call.ensures.call ∙ ap (call_of c.args.k) c.as_slice.ensures.value in
    let known : IsRecalled c.args.level.now.scope.now.sig (map formula_of c.args.level.now.scope.now.bodies) (worked_in c.args.level.now.definitions.now) c.compile_bound.new.table (call_of c.args.k c.in_ok-bounds.bounds) c.in-Some.term = subst (λ (x : Called). IsRecalled c.args.level.now.scope.now.sig (map formula_of c.args.level.now.scope.now.bodies) (worked_in c.args.level.now.definitions.now) c.compile_bound.new.table x c.in-Some.term) call_is (c.in_ok-bounds.ensures.state.recalls c.in_ok-call.call c.in-Some.term (sym c.known_term.ensures.value ∙ c.in-Some.is)) in
    under_known c.args.level.now.scope.now.sig (map formula_of c.args.level.now.scope.now.bodies) c.args.level.now.below c.args.k.0 c.args.table.now c.args.env.now [] c.row_at-row.result.now (Def c.args.k (formulas_of_trees c.args.trees.now)) (formulas_of_trees c.args.trees.now) (formula_of c.body_at-body.result.now) (call_under c.args.level.now.scope.now.sig (map formula_of c.args.level.now.scope.now.bodies) c.args.level.now.below (worked_in c.args.level.now.definitions.now) c.args.table.now c.args.env.now c.args.k (formulas_of_trees c.args.trees.now) c.row_at-row.result.now c.row_at-row.ensures.value (formula_of c.body_at-body.result.now) c.body_at-body.ensures.value c.requires.state.have) c.compile_bound.new.table c.in_ok-bounds.bounds c.in_ok-bounds.ensures.outcome c.in-Some.term (known_stands c.args.level.now.scope.now.sig (map formula_of c.args.level.now.scope.now.bodies) c.args.level.now.below (worked_in c.args.level.now.definitions.now) c.args.table.now c.args.env.now c.args.k (formulas_of_trees c.args.trees.now) c.row_at-row.result.now c.row_at-row.ensures.value (formula_of c.body_at-body.result.now) c.body_at-body.ensures.value c.requires.state.have c.compile_bound.new.table c.in_ok-bounds.bounds c.in_ok-bounds.ensures.outcome c.in-Some.term known) (known_made c.args.level.now.scope.now.sig (map formula_of c.args.level.now.scope.now.bodies) c.args.level.now.below (worked_in c.args.level.now.definitions.now) c.args.table.now c.args.env.now c.args.k (formulas_of_trees c.args.trees.now) c.row_at-row.result.now c.row_at-row.ensures.value (formula_of c.body_at-body.result.now) c.body_at-body.ensures.value c.requires.state.have c.compile_bound.new.table c.in_ok-bounds.bounds c.in_ok-bounds.ensures.outcome c.in-Some.term known)

pub compile_call-returns-in_default-room_under-clause-outcome : goal.compile_call-returns-in_default-room_under-clause-outcome
compile_call-returns-in_default-room_under-clause-outcome t c =
    under_out c.args.level.now.scope.now.sig (map formula_of c.args.level.now.scope.now.bodies) c.args.level.now.below c.args.k.0 c.args.table.now c.args.env.now [] c.row_at-row.result.now (Def c.args.k (formulas_of_trees c.args.trees.now)) (formulas_of_trees c.args.trees.now) (formula_of c.body_at-body.result.now) (call_under c.args.level.now.scope.now.sig (map formula_of c.args.level.now.scope.now.bodies) c.args.level.now.below (worked_in c.args.level.now.definitions.now) c.args.table.now c.args.env.now c.args.k (formulas_of_trees c.args.trees.now) c.row_at-row.result.now c.row_at-row.ensures.value (formula_of c.body_at-body.result.now) c.body_at-body.ensures.value c.requires.state.have) c.compile_bound.new.table c.in_ok-bounds.bounds c.in_ok-bounds.ensures.outcome NoMemory refl

pub compile_call-returns-in_default-room_under-clause-waits : goal.compile_call-returns-in_default-room_under-clause-waits
compile_call-returns-in_default-room_under-clause-waits t c =
    call_waits c.args.level.now.scope.now.sig (map formula_of c.args.level.now.scope.now.bodies) c.args.level.now.below (worked_in c.args.level.now.definitions.now) c.args.table.now c.args.env.now c.args.k (formulas_of_trees c.args.trees.now) c.row_at-row.result.now c.row_at-row.ensures.value (formula_of c.body_at-body.result.now) c.body_at-body.ensures.value c.requires.state.have c.compile_bound.new.table c.in_ok-bounds.bounds c.in_ok-bounds.ensures.outcome

pub compile_call-compile_tree-requires : goal.compile_call-compile_tree-requires
compile_call-compile_tree-requires t c =
    let inner_is : c.of-inner.result ≡ bind c.in_ok-bounds.bounds [] = c.of-inner.ensures.bound ∙ ap (λ (xs : List Bound). bind xs []) c.into_vec.ensures.value in
    let below = c.requires.ready.3.mentions.0 in
    let known = call_known c.args.level.now.scope.now.sig (worked_in c.args.level.now.definitions.now) (uses_below c.args.level.now.scope.now.sig (map formula_of c.args.level.now.scope.now.bodies) c.args.level.now.below) c.args.k (formulas_of_trees c.args.trees.now) c.args.notes.now c.requires.noted.1 in
    let noted = c.requires.noted.0.0 c.args.k (formula_of c.body_at-body.result.now) known.0 c.body_at-body.ensures.value known.1 in
    (omega (arith, c.decreases, weights_is (map formula_of c.args.level.now.scope.now.bodies) c.args.k (formula_of c.body_at-body.result.now) c.body_at-body.ensures.value c.args.level.now.below below), (state_below c.args.level.now.scope.now.sig (map formula_of c.args.level.now.scope.now.bodies) (worked_in c.args.level.now.definitions.now) c.args.k.0 c.args.level.now.below c.compile_bound.new.table c.compile_bound.new.known c.requires.ready.3.setting.sound (omega (arith, below)) c.in_ok-bounds.ensures.state, (subst (λ (xs : List Bound). MayCompile c.args.level.now.scope.now.sig (map formula_of c.args.level.now.scope.now.bodies) c.compile_bound.new.table c.args.k.0 xs (formula_of c.body_at-body.result.now)) (sym inner_is) (under_body c.args.level.now.scope.now.sig (map formula_of c.args.level.now.scope.now.bodies) c.args.level.now.below c.args.k.0 c.args.table.now c.args.env.now [] c.row_at-row.result.now (Def c.args.k (formulas_of_trees c.args.trees.now)) (formulas_of_trees c.args.trees.now) (formula_of c.body_at-body.result.now) (call_under c.args.level.now.scope.now.sig (map formula_of c.args.level.now.scope.now.bodies) c.args.level.now.below (worked_in c.args.level.now.definitions.now) c.args.table.now c.args.env.now c.args.k (formulas_of_trees c.args.trees.now) c.row_at-row.result.now c.row_at-row.ensures.value (formula_of c.body_at-body.result.now) c.body_at-body.ensures.value c.requires.state.have) c.compile_bound.new.table c.in_ok-bounds.bounds c.in_ok-bounds.ensures.outcome c.requires.ready), (c.requires.noted.0, subst (IsOfFirst (IsNoted c.args.level.now.scope.now.sig (worked_in c.args.level.now.definitions.now) (uses_below c.args.level.now.scope.now.sig (map formula_of c.args.level.now.scope.now.bodies) c.args.k.0) (formula_of c.body_at-body.result.now))) (sym (c.notes_at-body_notes.ensures.value known.0 known.1)) noted))))

pub compile_call-returns-in_err-term-clause-outcome : goal.compile_call-returns-in_err-term-clause-outcome
compile_call-returns-in_err-term-clause-outcome t c =
    let inner_is : c.of-inner.result ≡ bind c.in_ok-bounds.bounds [] = c.of-inner.ensures.bound ∙ ap (λ (xs : List Bound). bind xs []) c.into_vec.ensures.value in
    let p = err_from_is_err_and c.from_residual-in_err-term.result c.from_residual-in_err-term.ensures.1 in
    rw (p.1, p.2) (under_made c.args.level.now.scope.now.sig (map formula_of c.args.level.now.scope.now.bodies) c.args.level.now.below c.args.k.0 c.args.table.now c.args.env.now [] c.row_at-row.result.now (Def c.args.k (formulas_of_trees c.args.trees.now)) (formulas_of_trees c.args.trees.now) (formula_of c.body_at-body.result.now) (call_under c.args.level.now.scope.now.sig (map formula_of c.args.level.now.scope.now.bodies) c.args.level.now.below (worked_in c.args.level.now.definitions.now) c.args.table.now c.args.env.now c.args.k (formulas_of_trees c.args.trees.now) c.row_at-row.result.now c.row_at-row.ensures.value (formula_of c.body_at-body.result.now) c.body_at-body.ensures.value c.requires.state.have) c.compile_bound.new.table c.in_ok-bounds.bounds c.in_ok-bounds.ensures.outcome c.compile_tree.new.table _ (subst (λ (xs : List Bound). Compiles c.args.level.now.scope.now.sig (map formula_of c.args.level.now.scope.now.bodies) c.args.k.0 c.compile_bound.new.table c.compile_tree.new.table xs (formula_of c.body_at-body.result.now) (ended {A = TermId} (Err c.in_err-term.field-0.0))) inner_is c.in_err-term.ensures.outcome))

pub compile_call-returns-in_err-term-clause-waits : goal.compile_call-returns-in_err-term-clause-waits
compile_call-returns-in_err-term-clause-waits t c =
    let inner_is : c.of-inner.result ≡ bind c.in_ok-bounds.bounds [] = c.of-inner.ensures.bound ∙ ap (λ (xs : List Bound). bind xs []) c.into_vec.ensures.value in
    let p = err_from_is_err_and c.from_residual-in_err-term.result c.from_residual-in_err-term.ensures.1 in
    rw (p.1, p.2) (under_later c.args.level.now.scope.now.sig (map formula_of c.args.level.now.scope.now.bodies) c.args.level.now.below c.args.k.0 c.args.table.now c.args.env.now [] c.row_at-row.result.now (Def c.args.k (formulas_of_trees c.args.trees.now)) (formulas_of_trees c.args.trees.now) (formula_of c.body_at-body.result.now) (call_under c.args.level.now.scope.now.sig (map formula_of c.args.level.now.scope.now.bodies) c.args.level.now.below (worked_in c.args.level.now.definitions.now) c.args.table.now c.args.env.now c.args.k (formulas_of_trees c.args.trees.now) c.row_at-row.result.now c.row_at-row.ensures.value (formula_of c.body_at-body.result.now) c.body_at-body.ensures.value c.requires.state.have) c.compile_bound.new.table c.in_ok-bounds.bounds c.in_ok-bounds.ensures.outcome (worked_in c.args.level.now.definitions.now) (let below = c.requires.ready.3.mentions.0 in omega (arith, below)) c.compile_tree.new.table (Err c.in_err-term.field-0.0) (subst (λ (xs : List Bound). Defers c.args.level.now.scope.now.sig (map formula_of c.args.level.now.scope.now.bodies) (worked_in c.args.level.now.definitions.now) c.args.k.0 c.compile_bound.new.table c.compile_tree.new.table xs (formula_of c.body_at-body.result.now) (Err c.in_err-term.field-0.0)) inner_is c.in_err-term.ensures.waits))

pub compile_call-returns-in_err-term-clause-state : goal.compile_call-returns-in_err-term-clause-state
compile_call-returns-in_err-term-clause-state t c =
    let p = err_from_is_err_and c.from_residual-in_err-term.result c.from_residual-in_err-term.ensures.1 in
    rw (p.1, p.2) (goes_on_by TermId TermId c.in_err-term.field-0.0 (IsState c.args.level.now.scope.now.sig (map formula_of c.args.level.now.scope.now.bodies) c.args.k.0 (worked_in c.args.level.now.definitions.now) c.compile_tree.new.table c.compile_tree.new.known) (IsState c.args.level.now.scope.now.sig (map formula_of c.args.level.now.scope.now.bodies) c.args.level.now.below (worked_in c.args.level.now.definitions.now) c.compile_tree.new.table c.compile_tree.new.known) (λ x. state_back c.args.level.now.scope.now.sig (map formula_of c.args.level.now.scope.now.bodies) (worked_in c.args.level.now.definitions.now) c.args.k.0 c.args.level.now.below c.compile_bound.new.table c.compile_tree.new.table c.compile_bound.new.known c.compile_tree.new.known c.in_ok-bounds.ensures.state x) c.in_err-term.ensures.state)

pub compile_call-returns-in_err-term-clause-unknown : goal.compile_call-returns-in_err-term-clause-unknown
compile_call-returns-in_err-term-clause-unknown t c =
    let p = err_from_is_err_and c.from_residual-in_err-term.result c.from_residual-in_err-term.ensures.1 in
    rw (p.1, p.2) (too_deep_by TermId TermId _ (λ call. IsUnknown c.compile_tree.new.known call) (λ call. IsUnknown c.compile_tree.new.known call) (λ call h. h) c.in_err-term.ensures.unknown)

pub compile_call-returns-in_err-remember-clause-outcome : goal.compile_call-returns-in_err-remember-clause-outcome
compile_call-returns-in_err-remember-clause-outcome t c =
    let inner_is : c.of-inner.result ≡ bind c.in_ok-bounds.bounds [] = c.of-inner.ensures.bound ∙ ap (λ (xs : List Bound). bind xs []) c.into_vec.ensures.value in
    let p = err_from_is_err_and c.from_residual-in_err-remember.result c.from_residual-in_err-remember.ensures.1 in
    rw (p.1, p.2) (under_lost c.args.level.now.scope.now.sig (map formula_of c.args.level.now.scope.now.bodies) c.args.level.now.below c.args.k.0 c.args.table.now c.args.env.now [] c.row_at-row.result.now (Def c.args.k (formulas_of_trees c.args.trees.now)) (formulas_of_trees c.args.trees.now) (formula_of c.body_at-body.result.now) (call_under c.args.level.now.scope.now.sig (map formula_of c.args.level.now.scope.now.bodies) c.args.level.now.below (worked_in c.args.level.now.definitions.now) c.args.table.now c.args.env.now c.args.k (formulas_of_trees c.args.trees.now) c.row_at-row.result.now c.row_at-row.ensures.value (formula_of c.body_at-body.result.now) c.body_at-body.ensures.value c.requires.state.have) c.compile_bound.new.table c.in_ok-bounds.bounds c.in_ok-bounds.ensures.outcome c.compile_tree.new.table c.in_ok-term.term _ c.in_err-remember.ensures.err (subst (λ (xs : List Bound). Compiles c.args.level.now.scope.now.sig (map formula_of c.args.level.now.scope.now.bodies) c.args.k.0 c.compile_bound.new.table c.compile_tree.new.table xs (formula_of c.body_at-body.result.now) (Ok c.in_ok-term.term)) inner_is c.in_ok-term.ensures.outcome))

pub compile_call-returns-clause-outcome : goal.compile_call-returns-clause-outcome
compile_call-returns-clause-outcome t c =
    let inner_is : c.of-inner.result ≡ bind c.in_ok-bounds.bounds [] = c.of-inner.ensures.bound ∙ ap (λ (xs : List Bound). bind xs []) c.into_vec.ensures.value in
    under_made c.args.level.now.scope.now.sig (map formula_of c.args.level.now.scope.now.bodies) c.args.level.now.below c.args.k.0 c.args.table.now c.args.env.now [] c.row_at-row.result.now (Def c.args.k (formulas_of_trees c.args.trees.now)) (formulas_of_trees c.args.trees.now) (formula_of c.body_at-body.result.now) (call_under c.args.level.now.scope.now.sig (map formula_of c.args.level.now.scope.now.bodies) c.args.level.now.below (worked_in c.args.level.now.definitions.now) c.args.table.now c.args.env.now c.args.k (formulas_of_trees c.args.trees.now) c.row_at-row.result.now c.row_at-row.ensures.value (formula_of c.body_at-body.result.now) c.body_at-body.ensures.value c.requires.state.have) c.compile_bound.new.table c.in_ok-bounds.bounds c.in_ok-bounds.ensures.outcome c.compile_tree.new.table (Ok c.in_ok-term.term) (subst (λ (xs : List Bound). Compiles c.args.level.now.scope.now.sig (map formula_of c.args.level.now.scope.now.bodies) c.args.k.0 c.compile_bound.new.table c.compile_tree.new.table xs (formula_of c.body_at-body.result.now) (Ok c.in_ok-term.term)) inner_is c.in_ok-term.ensures.outcome)

pub compile_call-returns-clause-state : goal.compile_call-returns-clause-state
compile_call-returns-clause-state t c =
    let inner_is : c.of-inner.result ≡ bind c.in_ok-bounds.bounds [] = c.of-inner.ensures.bound ∙ ap (λ (xs : List Bound). bind xs []) c.into_vec.ensures.value in
    let call_is : c.in_ok-call.call ≡ call_of c.args.k c.in_ok-bounds.bounds = c.in_ok-call.ensures.call ∙ ap (call_of c.args.k) c.as_slice.ensures.value in
    let one = (subst (λ (xs : List Bound). Compiles c.args.level.now.scope.now.sig (map formula_of c.args.level.now.scope.now.bodies) c.args.k.0 c.compile_bound.new.table c.compile_tree.new.table xs (formula_of c.body_at-body.result.now) (Ok c.in_ok-term.term)) inner_is c.in_ok-term.ensures.outcome) in
    let whole = under_made c.args.level.now.scope.now.sig (map formula_of c.args.level.now.scope.now.bodies) c.args.level.now.below c.args.k.0 c.args.table.now c.args.env.now [] c.row_at-row.result.now (Def c.args.k (formulas_of_trees c.args.trees.now)) (formulas_of_trees c.args.trees.now) (formula_of c.body_at-body.result.now) (call_under c.args.level.now.scope.now.sig (map formula_of c.args.level.now.scope.now.bodies) c.args.level.now.below (worked_in c.args.level.now.definitions.now) c.args.table.now c.args.env.now c.args.k (formulas_of_trees c.args.trees.now) c.row_at-row.result.now c.row_at-row.ensures.value (formula_of c.body_at-body.result.now) c.body_at-body.ensures.value c.requires.state.have) c.compile_bound.new.table c.in_ok-bounds.bounds c.in_ok-bounds.ensures.outcome c.compile_tree.new.table (Ok c.in_ok-term.term) one in
    let g = compiles_grown c.args.level.now.scope.now.sig (map formula_of c.args.level.now.scope.now.bodies) c.args.k.0 c.compile_bound.new.table c.compile_tree.new.table _ _ (Ok c.in_ok-term.term) (under_body c.args.level.now.scope.now.sig (map formula_of c.args.level.now.scope.now.bodies) c.args.level.now.below c.args.k.0 c.args.table.now c.args.env.now [] c.row_at-row.result.now (Def c.args.k (formulas_of_trees c.args.trees.now)) (formulas_of_trees c.args.trees.now) (formula_of c.body_at-body.result.now) (call_under c.args.level.now.scope.now.sig (map formula_of c.args.level.now.scope.now.bodies) c.args.level.now.below (worked_in c.args.level.now.definitions.now) c.args.table.now c.args.env.now c.args.k (formulas_of_trees c.args.trees.now) c.row_at-row.result.now c.row_at-row.ensures.value (formula_of c.body_at-body.result.now) c.body_at-body.ensures.value c.requires.state.have) c.compile_bound.new.table c.in_ok-bounds.bounds c.in_ok-bounds.ensures.outcome c.requires.ready) one in
    let may = c.requires.ready in
    let recalled = call_recalled c.args.level.now.scope.now.sig (map formula_of c.args.level.now.scope.now.bodies) c.args.level.now.below (worked_in c.args.level.now.definitions.now) c.args.table.now c.args.env.now c.args.k (formulas_of_trees c.args.trees.now) c.row_at-row.result.now c.row_at-row.ensures.value (formula_of c.body_at-body.result.now) c.body_at-body.ensures.value c.requires.state.have c.compile_bound.new.table c.in_ok-bounds.bounds c.in_ok-bounds.ensures.outcome c.compile_tree.new.table c.in_ok-term.term g.0 g.1 may.0 may.1 may.2 may.3 (whole.core may.0 may.1 may.2 may.3) (under_has c.args.level.now.scope.now.sig (map formula_of c.args.level.now.scope.now.bodies) c.args.level.now.below c.args.k.0 c.args.table.now c.args.env.now [] c.row_at-row.result.now (Def c.args.k (formulas_of_trees c.args.trees.now)) (formulas_of_trees c.args.trees.now) (formula_of c.body_at-body.result.now) (call_under c.args.level.now.scope.now.sig (map formula_of c.args.level.now.scope.now.bodies) c.args.level.now.below (worked_in c.args.level.now.definitions.now) c.args.table.now c.args.env.now c.args.k (formulas_of_trees c.args.trees.now) c.row_at-row.result.now c.row_at-row.ensures.value (formula_of c.body_at-body.result.now) c.body_at-body.ensures.value c.requires.state.have) c.compile_bound.new.table c.in_ok-bounds.bounds c.in_ok-bounds.ensures.outcome c.compile_tree.new.table c.in_ok-term.term g.1 one may.0 may.1 may.2 may.3) in
    state_with c.args.level.now.scope.now.sig (map formula_of c.args.level.now.scope.now.bodies) (worked_in c.args.level.now.definitions.now) c.args.level.now.below c.compile_tree.new.table c.compile_tree.new.known c.remember.new.known c.in_ok-call.call c.in_ok-term.term
    (state_back c.args.level.now.scope.now.sig (map formula_of c.args.level.now.scope.now.bodies) (worked_in c.args.level.now.definitions.now) c.args.k.0 c.args.level.now.below c.compile_bound.new.table c.compile_tree.new.table c.compile_bound.new.known c.compile_tree.new.known c.in_ok-bounds.ensures.state c.in_ok-term.ensures.state)
    (subst (λ (x : Called). IsRecalled c.args.level.now.scope.now.sig (map formula_of c.args.level.now.scope.now.bodies) (worked_in c.args.level.now.definitions.now) c.compile_tree.new.table x c.in_ok-term.term) (sym call_is) recalled)
    c.in_ok-remember.ensures.only

pub compile_bound-loop-rest-init : goal.compile_bound-loop-rest-init
compile_bound-loop-rest-init t c =
    record { done = subst (λ (xs : List Bound). Completes c.args.level.now.scope.now.sig (map formula_of c.args.level.now.scope.now.bodies) c.args.level.now.below c.args.table.now c.args.table.now c.args.env.now c.args.flags.now (formulas_of_trees c.args.trees.now) xs c.args.flags.now (formulas_of_trees c.args.trees.now)) (sym c.new-bounds.ensures.items) (completes_start c.args.level.now.scope.now.sig (map formula_of c.args.level.now.scope.now.bodies) c.args.level.now.below c.args.table.now c.args.env.now c.args.flags.now (formulas_of_trees c.args.trees.now) c.requires.ready); state = c.requires.state; noted = c.requires.noted.1; same = refl }

pub compile_bound-first_flag-occurs-requires : goal.compile_bound-first_flag-occurs-requires
compile_bound-first_flag-occurs-requires t c =
    let loop = c.loop-rest in
    let others = take (length loop.rest.now - 1) (drop 1 loop.rest.now) in
    let item = rest-item loop.rest.now c.tree-item.result c.in-len1-up.len_at_least c.tree-item.is in
    record { some = completes_flag c.args.level.now.scope.now.sig (map formula_of c.args.level.now.scope.now.bodies) c.args.level.now.below c.args.table.now loop.table c.args.env.now c.args.flags.now (formulas_of_trees c.args.trees.now) loop.bounds.items loop.left.now loop.rest.now others c.tree-item.result item loop.invariant.done }

pub compile_bound-later_flags-left-requires : goal.compile_bound-later_flags-left-requires
compile_bound-later_flags-left-requires t c =
    let loop = c.loop-rest in
    let others = take (length loop.rest.now - 1) (drop 1 loop.rest.now) in
    let item = rest-item loop.rest.now c.tree-item.result c.in-len1-up.len_at_least c.tree-item.is in
    record { some = completes_flag c.args.level.now.scope.now.sig (map formula_of c.args.level.now.scope.now.bodies) c.args.level.now.below c.args.table.now loop.table c.args.env.now c.args.flags.now (formulas_of_trees c.args.trees.now) loop.bounds.items loop.left.now loop.rest.now others c.tree-item.result item loop.invariant.done }

pub compile_bound-returns-in_err-push-clause-outcome : goal.compile_bound-returns-in_err-push-clause-outcome
compile_bound-returns-in_err-push-clause-outcome t c =
    let loop = c.loop-rest in
    let others = take (length loop.rest.now - 1) (drop 1 loop.rest.now) in
    let item = rest-item loop.rest.now c.tree-item.result c.in-len1-up.len_at_least c.tree-item.is in
    let split = completes_split c.args.level.now.scope.now.sig (map formula_of c.args.level.now.scope.now.bodies) c.args.level.now.below c.args.table.now loop.table c.args.env.now c.args.flags.now (formulas_of_trees c.args.trees.now) loop.bounds.items loop.left.now c.later_flags-left.result.now loop.rest.now others c.tree-item.result c.first_flag-occurs.result false (flags_split loop.left.now c.later_flags-left.result.now c.first_flag-occurs.result c.first_flag-occurs.ensures.value c.later_flags-left.ensures.value) item c.if-not-occurs.true loop.invariant.done in
    let p = err_from_is_err_and c.from_residual.result c.from_residual.ensures.1 in
    rw (p.1, p.2) (completes_out c.args.level.now.scope.now.sig (map formula_of c.args.level.now.scope.now.bodies) c.args.level.now.below c.args.table.now loop.table c.args.env.now c.args.flags.now (formulas_of_trees c.args.trees.now) loop.bounds.items _ _ split NoMemory refl)

pub compile_bound-loop-rest-preserved-then-not-occurs : goal.compile_bound-loop-rest-preserved-then-not-occurs
compile_bound-loop-rest-preserved-then-not-occurs t c =
    let loop = c.loop-rest in
    let others = take (length loop.rest.now - 1) (drop 1 loop.rest.now) in
    let item = rest-item loop.rest.now c.tree-item.result c.in-len1-up.len_at_least c.tree-item.is in
    let split = completes_split c.args.level.now.scope.now.sig (map formula_of c.args.level.now.scope.now.bodies) c.args.level.now.below c.args.table.now loop.table c.args.env.now c.args.flags.now (formulas_of_trees c.args.trees.now) loop.bounds.items loop.left.now c.later_flags-left.result.now loop.rest.now others c.tree-item.result c.first_flag-occurs.result false (flags_split loop.left.now c.later_flags-left.result.now c.first_flag-occurs.result c.first_flag-occurs.ensures.value c.later_flags-left.ensures.value) item c.if-not-occurs.true loop.invariant.done in
    record { done = subst (λ (xs : List Bound). Completes c.args.level.now.scope.now.sig (map formula_of c.args.level.now.scope.now.bodies) c.args.level.now.below c.args.table.now loop.table c.args.env.now c.args.flags.now (formulas_of_trees c.args.trees.now) xs c.later_flags-left.result.now (formulas_of_trees others)) (sym c.in_ok-push.ensures.items) (completes_absent c.args.level.now.scope.now.sig (map formula_of c.args.level.now.scope.now.bodies) c.args.level.now.below c.args.table.now loop.table c.args.env.now c.args.flags.now (formulas_of_trees c.args.trees.now) loop.bounds.items c.later_flags-left.result.now (formula_of c.tree-item.result) (formulas_of_trees others) split); state = loop.invariant.state; noted = (where_split c.args.level.now.scope.now.sig (worked_in c.args.level.now.definitions.now) (uses_below c.args.level.now.scope.now.sig (map formula_of c.args.level.now.scope.now.bodies) c.args.level.now.below) loop.left.now c.later_flags-left.result.now c.first_flag-occurs.result (formulas_of_trees loop.rest.now) (formula_of c.tree-item.result) (formulas_of_trees others) loop.noted.now c.later_notes-noted.result.now (flags_split loop.left.now c.later_flags-left.result.now c.first_flag-occurs.result c.first_flag-occurs.ensures.value c.later_flags-left.ensures.value) (ap formulas_of_trees item) c.later_notes-noted.ensures.value loop.invariant.noted).1; same = loop.invariant.same }

pub compile_bound-compile_tree-requires : goal.compile_bound-compile_tree-requires
compile_bound-compile_tree-requires t c =
    let loop = c.loop-rest in
    let others = take (length loop.rest.now - 1) (drop 1 loop.rest.now) in
    let item = rest-item loop.rest.now c.tree-item.result c.in-len1-up.len_at_least c.tree-item.is in
    let split = completes_split c.args.level.now.scope.now.sig (map formula_of c.args.level.now.scope.now.bodies) c.args.level.now.below c.args.table.now loop.table c.args.env.now c.args.flags.now (formulas_of_trees c.args.trees.now) loop.bounds.items loop.left.now c.later_flags-left.result.now loop.rest.now others c.tree-item.result c.first_flag-occurs.result true (flags_split loop.left.now c.later_flags-left.result.now c.first_flag-occurs.result c.first_flag-occurs.ensures.value c.later_flags-left.ensures.value) item c.if-not-occurs.false loop.invariant.done in
    let lighter = completes_lighter c.args.level.now.scope.now.sig (map formula_of c.args.level.now.scope.now.bodies) c.args.level.now.below c.args.table.now loop.table c.args.env.now c.args.flags.now (formulas_of_trees c.args.trees.now) loop.bounds.items c.later_flags-left.result.now (formula_of c.tree-item.result) (formulas_of_trees others) split in
    (omega (arith, lighter, c.decreases), (loop.invariant.state, (rw loop.invariant.same (completes_next c.args.level.now.scope.now.sig (map formula_of c.args.level.now.scope.now.bodies) c.args.level.now.below c.args.table.now loop.table c.args.env.now c.args.flags.now (formulas_of_trees c.args.trees.now) loop.bounds.items c.later_flags-left.result.now (formula_of c.tree-item.result) (formulas_of_trees others) split), (c.requires.noted.0, (where_split c.args.level.now.scope.now.sig (worked_in c.args.level.now.definitions.now) (uses_below c.args.level.now.scope.now.sig (map formula_of c.args.level.now.scope.now.bodies) c.args.level.now.below) loop.left.now c.later_flags-left.result.now c.first_flag-occurs.result (formulas_of_trees loop.rest.now) (formula_of c.tree-item.result) (formulas_of_trees others) loop.noted.now c.later_notes-noted.result.now (flags_split loop.left.now c.later_flags-left.result.now c.first_flag-occurs.result c.first_flag-occurs.ensures.value c.later_flags-left.ensures.value) (ap formulas_of_trees item) c.later_notes-noted.ensures.value loop.invariant.noted).0 c.if-not-occurs.false))))

pub compile_bound-returns-in_err-term-clause-outcome : goal.compile_bound-returns-in_err-term-clause-outcome
compile_bound-returns-in_err-term-clause-outcome t c =
    let loop = c.loop-rest in
    let others = take (length loop.rest.now - 1) (drop 1 loop.rest.now) in
    let item = rest-item loop.rest.now c.tree-item.result c.in-len1-up.len_at_least c.tree-item.is in
    let split = completes_split c.args.level.now.scope.now.sig (map formula_of c.args.level.now.scope.now.bodies) c.args.level.now.below c.args.table.now loop.table c.args.env.now c.args.flags.now (formulas_of_trees c.args.trees.now) loop.bounds.items loop.left.now c.later_flags-left.result.now loop.rest.now others c.tree-item.result c.first_flag-occurs.result true (flags_split loop.left.now c.later_flags-left.result.now c.first_flag-occurs.result c.first_flag-occurs.ensures.value c.later_flags-left.ensures.value) item c.if-not-occurs.false loop.invariant.done in
    let p = err_from_is_err_and c.from_residual-in_err-term.result c.from_residual-in_err-term.ensures.1 in
    rw (p.1, p.2) (completes_stopped c.args.level.now.scope.now.sig (map formula_of c.args.level.now.scope.now.bodies) c.args.level.now.below c.args.table.now loop.table c.args.env.now c.args.flags.now (formulas_of_trees c.args.trees.now) loop.bounds.items c.later_flags-left.result.now (formula_of c.tree-item.result) (formulas_of_trees others) split c.compile_tree.new.table _ (rw loop.invariant.same at c.in_err-term.ensures.outcome))

pub compile_bound-returns-in_err-term-clause-waits : goal.compile_bound-returns-in_err-term-clause-waits
compile_bound-returns-in_err-term-clause-waits t c =
    let loop = c.loop-rest in
    let others = take (length loop.rest.now - 1) (drop 1 loop.rest.now) in
    let item = rest-item loop.rest.now c.tree-item.result c.in-len1-up.len_at_least c.tree-item.is in
    let split = completes_split c.args.level.now.scope.now.sig (map formula_of c.args.level.now.scope.now.bodies) c.args.level.now.below c.args.table.now loop.table c.args.env.now c.args.flags.now (formulas_of_trees c.args.trees.now) loop.bounds.items loop.left.now c.later_flags-left.result.now loop.rest.now others c.tree-item.result c.first_flag-occurs.result true (flags_split loop.left.now c.later_flags-left.result.now c.first_flag-occurs.result c.first_flag-occurs.ensures.value c.later_flags-left.ensures.value) item c.if-not-occurs.false loop.invariant.done in
    let p = err_from_is_err_and c.from_residual-in_err-term.result c.from_residual-in_err-term.ensures.1 in
    rw (p.1, p.2) (completes_waits c.args.level.now.scope.now.sig (map formula_of c.args.level.now.scope.now.bodies) c.args.level.now.below c.args.table.now loop.table c.args.env.now c.args.flags.now (formulas_of_trees c.args.trees.now) loop.bounds.items c.later_flags-left.result.now (formula_of c.tree-item.result) (formulas_of_trees others) split (worked_in c.args.level.now.definitions.now) c.compile_tree.new.table _ (rw loop.invariant.same at c.in_err-term.ensures.waits))

pub compile_bound-returns-in_err-term-clause-state : goal.compile_bound-returns-in_err-term-clause-state
compile_bound-returns-in_err-term-clause-state t c =
    let p = err_from_is_err_and c.from_residual-in_err-term.result c.from_residual-in_err-term.ensures.1 in
    rw (p.1, p.2) (goes_on_by TermId (List Bound) c.in_err-term.field-0.0 (IsState c.args.level.now.scope.now.sig (map formula_of c.args.level.now.scope.now.bodies) c.args.level.now.below (worked_in c.args.level.now.definitions.now) c.compile_tree.new.table c.compile_tree.new.known) (IsState c.args.level.now.scope.now.sig (map formula_of c.args.level.now.scope.now.bodies) c.args.level.now.below (worked_in c.args.level.now.definitions.now) c.compile_tree.new.table c.compile_tree.new.known) (λ x. x) c.in_err-term.ensures.state)

pub compile_bound-returns-in_err-term-clause-unknown : goal.compile_bound-returns-in_err-term-clause-unknown
compile_bound-returns-in_err-term-clause-unknown t c =
    let p = err_from_is_err_and c.from_residual-in_err-term.result c.from_residual-in_err-term.ensures.1 in
    rw (p.1, p.2) (too_deep_by TermId (List Bound) _ (λ call. IsUnknown c.compile_tree.new.known call) (λ call. IsUnknown c.compile_tree.new.known call) (λ call h. h) c.in_err-term.ensures.unknown)

pub compile_bound-returns-in_err-push-2-clause-outcome : goal.compile_bound-returns-in_err-push-2-clause-outcome
compile_bound-returns-in_err-push-2-clause-outcome t c =
    let loop = c.loop-rest in
    let others = take (length loop.rest.now - 1) (drop 1 loop.rest.now) in
    let item = rest-item loop.rest.now c.tree-item.result c.in-len1-up.len_at_least c.tree-item.is in
    let split = completes_split c.args.level.now.scope.now.sig (map formula_of c.args.level.now.scope.now.bodies) c.args.level.now.below c.args.table.now loop.table c.args.env.now c.args.flags.now (formulas_of_trees c.args.trees.now) loop.bounds.items loop.left.now c.later_flags-left.result.now loop.rest.now others c.tree-item.result c.first_flag-occurs.result true (flags_split loop.left.now c.later_flags-left.result.now c.first_flag-occurs.result c.first_flag-occurs.ensures.value c.later_flags-left.ensures.value) item c.if-not-occurs.false loop.invariant.done in
    let p = err_from_is_err_and c.from_residual-in_err-push-2.result c.from_residual-in_err-push-2.ensures.1 in
    rw (p.1, p.2) (completes_out c.args.level.now.scope.now.sig (map formula_of c.args.level.now.scope.now.bodies) c.args.level.now.below c.args.table.now c.compile_tree.new.table c.args.env.now c.args.flags.now (formulas_of_trees c.args.trees.now) _ _ _ (completes_term c.args.level.now.scope.now.sig (map formula_of c.args.level.now.scope.now.bodies) c.args.level.now.below c.args.table.now loop.table c.args.env.now c.args.flags.now (formulas_of_trees c.args.trees.now) loop.bounds.items c.later_flags-left.result.now (formula_of c.tree-item.result) (formulas_of_trees others) split c.compile_tree.new.table c.in_ok-term.term (rw loop.invariant.same at c.in_ok-term.ensures.outcome)) NoMemory refl)

pub compile_bound-loop-rest-preserved : goal.compile_bound-loop-rest-preserved
compile_bound-loop-rest-preserved t c =
    let loop = c.loop-rest in
    let others = take (length loop.rest.now - 1) (drop 1 loop.rest.now) in
    let item = rest-item loop.rest.now c.tree-item.result c.in-len1-up.len_at_least c.tree-item.is in
    let split = completes_split c.args.level.now.scope.now.sig (map formula_of c.args.level.now.scope.now.bodies) c.args.level.now.below c.args.table.now loop.table c.args.env.now c.args.flags.now (formulas_of_trees c.args.trees.now) loop.bounds.items loop.left.now c.later_flags-left.result.now loop.rest.now others c.tree-item.result c.first_flag-occurs.result true (flags_split loop.left.now c.later_flags-left.result.now c.first_flag-occurs.result c.first_flag-occurs.ensures.value c.later_flags-left.ensures.value) item c.if-not-occurs.false loop.invariant.done in
    record { done = subst (λ (xs : List Bound). Completes c.args.level.now.scope.now.sig (map formula_of c.args.level.now.scope.now.bodies) c.args.level.now.below c.args.table.now c.compile_tree.new.table c.args.env.now c.args.flags.now (formulas_of_trees c.args.trees.now) xs c.later_flags-left.result.now (formulas_of_trees others)) (sym c.in_ok-push-2.ensures.items) (completes_term c.args.level.now.scope.now.sig (map formula_of c.args.level.now.scope.now.bodies) c.args.level.now.below c.args.table.now loop.table c.args.env.now c.args.flags.now (formulas_of_trees c.args.trees.now) loop.bounds.items c.later_flags-left.result.now (formula_of c.tree-item.result) (formulas_of_trees others) split c.compile_tree.new.table c.in_ok-term.term (rw loop.invariant.same at c.in_ok-term.ensures.outcome)); state = c.in_ok-term.ensures.state; noted = (where_split c.args.level.now.scope.now.sig (worked_in c.args.level.now.definitions.now) (uses_below c.args.level.now.scope.now.sig (map formula_of c.args.level.now.scope.now.bodies) c.args.level.now.below) loop.left.now c.later_flags-left.result.now c.first_flag-occurs.result (formulas_of_trees loop.rest.now) (formula_of c.tree-item.result) (formulas_of_trees others) loop.noted.now c.later_notes-noted.result.now (flags_split loop.left.now c.later_flags-left.result.now c.first_flag-occurs.result c.first_flag-occurs.ensures.value c.later_flags-left.ensures.value) (ap formulas_of_trees item) c.later_notes-noted.ensures.value loop.invariant.noted).1; same = c.in_ok-term.ensures.back ∙ loop.invariant.same }

pub compile_bound-returns-clause-outcome : goal.compile_bound-returns-clause-outcome
compile_bound-returns-clause-outcome t c =
    let loop = c.loop-rest in
    let none : loop.rest.now ≡ [] = nothing_left loop.rest.now (omega (arith, c.in_default.len_below)) in
    subst (λ (xs : List Bound). Binds c.args.level.now.scope.now.sig (map formula_of c.args.level.now.scope.now.bodies) c.args.level.now.below c.args.table.now loop.table c.args.env.now c.args.flags.now (formulas_of_trees c.args.trees.now) (Ok xs)) (sym c.new.ensures.value) (completes_all c.args.level.now.scope.now.sig (map formula_of c.args.level.now.scope.now.bodies) c.args.level.now.below c.args.table.now loop.table c.args.env.now c.args.flags.now (formulas_of_trees c.args.trees.now) loop.bounds.items loop.left.now loop.rest.now none loop.invariant.done)

pub compile_match-compile_bound-requires : goal.compile_match-compile_bound-requires
compile_match-compile_bound-requires t c =
    let is = match_flag c.args.level.now.scope.now.sig (worked_in c.args.level.now.definitions.now) (uses_below c.args.level.now.scope.now.sig (map formula_of c.args.level.now.scope.now.bodies) c.args.level.now.below) c.args.notes.now c.first_note-note.result.now c.first_note-note.ensures.value (formula_of c.args.tree.now) (cases_of_trees c.args.cases.now) c.bound.result.now c.first_flag-occurs.result c.bound.ensures.value c.first_flag-occurs.ensures.value c.requires.noted.1 in
    (omega (arith, c.decreases, one_weight (weights_below (map formula_of c.args.level.now.scope.now.bodies) c.args.level.now.below) c.args.tree.now c.one_tree-trees.result.now c.one_tree-trees.ensures.value), (c.requires.state, (may_bind_as c.args.level.now.scope.now.sig (map formula_of c.args.level.now.scope.now.bodies) c.args.table.now c.args.level.now.below c.args.env.now _ c.one_flag-flags.result.now _ (formulas_of_trees c.one_tree-trees.result.now) (sym c.one_flag-flags.ensures.value) (sym c.one_tree-trees.ensures.value) (match_may c.args.level.now.scope.now.sig (map formula_of c.args.level.now.scope.now.bodies) c.args.level.now.below c.args.table.now c.args.env.now (formula_of c.args.tree.now) (cases_of_trees c.args.cases.now) c.first_flag-occurs.result is c.requires.ready), (c.requires.noted.0, match_under c.args.level.now.scope.now.sig (worked_in c.args.level.now.definitions.now) (uses_below c.args.level.now.scope.now.sig (map formula_of c.args.level.now.scope.now.bodies) c.args.level.now.below) c.args.notes.now c.first_note-note.result.now c.first_note-note.ensures.value (formula_of c.args.tree.now) (cases_of_trees c.args.cases.now) c.first_flag-occurs.result c.one_flag-flags.result.now (formulas_of_trees c.one_tree-trees.result.now) c.under.result.now is c.one_flag-flags.ensures.value c.one_tree-trees.ensures.value c.under.ensures.value c.requires.noted.1))))

pub compile_match-returns-in_err-bounds-clause-outcome : goal.compile_match-returns-in_err-bounds-clause-outcome
compile_match-returns-in_err-bounds-clause-outcome t c =
    let is = match_flag c.args.level.now.scope.now.sig (worked_in c.args.level.now.definitions.now) (uses_below c.args.level.now.scope.now.sig (map formula_of c.args.level.now.scope.now.bodies) c.args.level.now.below) c.args.notes.now c.first_note-note.result.now c.first_note-note.ensures.value (formula_of c.args.tree.now) (cases_of_trees c.args.cases.now) c.bound.result.now c.first_flag-occurs.result c.bound.ensures.value c.first_flag-occurs.ensures.value c.requires.noted.1 in
    let p = err_from_is_err_and c.from_residual.result c.from_residual.ensures.1 in
    rw (p.1, p.2) (match_stopped c.args.level.now.scope.now.sig (map formula_of c.args.level.now.scope.now.bodies) c.args.level.now.below c.args.table.now c.args.env.now (formula_of c.args.tree.now) (cases_of_trees c.args.cases.now) c.first_flag-occurs.result is c.compile_bound.new.table _ (binds_as c.args.level.now.scope.now.sig (map formula_of c.args.level.now.scope.now.bodies) c.args.level.now.below c.args.table.now c.compile_bound.new.table c.args.env.now c.one_flag-flags.result.now _ (formulas_of_trees c.one_tree-trees.result.now) _ _ c.one_flag-flags.ensures.value c.one_tree-trees.ensures.value c.in_err-bounds.ensures.outcome))

pub compile_match-returns-in_err-bounds-clause-waits : goal.compile_match-returns-in_err-bounds-clause-waits
compile_match-returns-in_err-bounds-clause-waits t c =
    let is = match_flag c.args.level.now.scope.now.sig (worked_in c.args.level.now.definitions.now) (uses_below c.args.level.now.scope.now.sig (map formula_of c.args.level.now.scope.now.bodies) c.args.level.now.below) c.args.notes.now c.first_note-note.result.now c.first_note-note.ensures.value (formula_of c.args.tree.now) (cases_of_trees c.args.cases.now) c.bound.result.now c.first_flag-occurs.result c.bound.ensures.value c.first_flag-occurs.ensures.value c.requires.noted.1 in
    let p = err_from_is_err_and c.from_residual.result c.from_residual.ensures.1 in
    rw (p.1, p.2) (match_waits c.args.level.now.scope.now.sig (map formula_of c.args.level.now.scope.now.bodies) c.args.level.now.below c.args.table.now c.args.env.now (formula_of c.args.tree.now) (cases_of_trees c.args.cases.now) c.first_flag-occurs.result is (worked_in c.args.level.now.definitions.now) c.compile_bound.new.table _ (defers_as c.args.level.now.scope.now.sig (map formula_of c.args.level.now.scope.now.bodies) (worked_in c.args.level.now.definitions.now) c.args.level.now.below c.args.table.now c.compile_bound.new.table c.args.env.now c.one_flag-flags.result.now _ (formulas_of_trees c.one_tree-trees.result.now) _ (Err c.in_err-bounds.field-0.0) c.one_flag-flags.ensures.value c.one_tree-trees.ensures.value c.in_err-bounds.ensures.waits))

pub compile_match-returns-in_err-bounds-clause-state : goal.compile_match-returns-in_err-bounds-clause-state
compile_match-returns-in_err-bounds-clause-state t c =
    let p = err_from_is_err_and c.from_residual.result c.from_residual.ensures.1 in
    rw (p.1, p.2) (goes_on_by (List Bound) TermId c.in_err-bounds.field-0.0 (IsState c.args.level.now.scope.now.sig (map formula_of c.args.level.now.scope.now.bodies) c.args.level.now.below (worked_in c.args.level.now.definitions.now) c.compile_bound.new.table c.compile_bound.new.known) (IsState c.args.level.now.scope.now.sig (map formula_of c.args.level.now.scope.now.bodies) c.args.level.now.below (worked_in c.args.level.now.definitions.now) c.compile_bound.new.table c.compile_bound.new.known) (λ x. x) c.in_err-bounds.ensures.state)

pub compile_match-returns-in_err-bounds-clause-unknown : goal.compile_match-returns-in_err-bounds-clause-unknown
compile_match-returns-in_err-bounds-clause-unknown t c =
    let p = err_from_is_err_and c.from_residual.result c.from_residual.ensures.1 in
    rw (p.1, p.2) (too_deep_by (List Bound) TermId _ (λ call. IsUnknown c.compile_bound.new.known call) (λ call. IsUnknown c.compile_bound.new.known call) (λ call h. h) c.in_err-bounds.ensures.unknown)

pub compile_match-bound_at-matched-requires : goal.compile_match-bound_at-matched-requires
compile_match-bound_at-matched-requires t c =
    let is = match_flag c.args.level.now.scope.now.sig (worked_in c.args.level.now.definitions.now) (uses_below c.args.level.now.scope.now.sig (map formula_of c.args.level.now.scope.now.bodies) c.args.level.now.below) c.args.notes.now c.first_note-note.result.now c.first_note-note.ensures.value (formula_of c.args.tree.now) (cases_of_trees c.args.cases.now) c.bound.result.now c.first_flag-occurs.result c.bound.ensures.value c.first_flag-occurs.ensures.value c.requires.noted.1 in
    record { inside = subst (λ (xs : List Bound). 0 < length xs) (sym c.as_slice.ensures.value) (match_some c.args.level.now.scope.now.sig (map formula_of c.args.level.now.scope.now.bodies) c.args.level.now.below c.args.table.now c.args.env.now (formula_of c.args.tree.now) (cases_of_trees c.args.cases.now) c.first_flag-occurs.result is c.compile_bound.new.table c.in_ok-bounds.bounds (binds_as c.args.level.now.scope.now.sig (map formula_of c.args.level.now.scope.now.bodies) c.args.level.now.below c.args.table.now c.compile_bound.new.table c.args.env.now c.one_flag-flags.result.now _ (formulas_of_trees c.one_tree-trees.result.now) _ _ c.one_flag-flags.ensures.value c.one_tree-trees.ensures.value c.in_ok-bounds.ensures.outcome) c.requires.ready) }

pub compile_match-compile_cases-requires : goal.compile_match-compile_cases-requires
compile_match-compile_cases-requires t c =
    let is = match_flag c.args.level.now.scope.now.sig (worked_in c.args.level.now.definitions.now) (uses_below c.args.level.now.scope.now.sig (map formula_of c.args.level.now.scope.now.bodies) c.args.level.now.below) c.args.notes.now c.first_note-note.result.now c.first_note-note.ensures.value (formula_of c.args.tree.now) (cases_of_trees c.args.cases.now) c.bound.result.now c.first_flag-occurs.result c.bound.ensures.value c.first_flag-occurs.ensures.value c.requires.noted.1 in
    let at : slice_get c.in_ok-bounds.bounds 0 ≡ Some c.bound_at-matched.result = ap (λ (xs : List Bound). slice_get xs 0) (sym c.as_slice.ensures.value) ∙ c.bound_at-matched.ensures.value in
    (omega (arith, c.decreases), (c.in_ok-bounds.ensures.state, (rw c.in_ok-bounds.ensures.back (match_cases c.args.level.now.scope.now.sig (map formula_of c.args.level.now.scope.now.bodies) c.args.level.now.below c.args.table.now c.args.env.now (formula_of c.args.tree.now) (cases_of_trees c.args.cases.now) c.first_flag-occurs.result is c.compile_bound.new.table c.in_ok-bounds.bounds (binds_as c.args.level.now.scope.now.sig (map formula_of c.args.level.now.scope.now.bodies) c.args.level.now.below c.args.table.now c.compile_bound.new.table c.args.env.now c.one_flag-flags.result.now _ (formulas_of_trees c.one_tree-trees.result.now) _ _ c.one_flag-flags.ensures.value c.one_tree-trees.ensures.value c.in_ok-bounds.ensures.outcome) c.bound_at-matched.result at c.requires.ready), (c.requires.noted.0, match_inner c.args.level.now.scope.now.sig (worked_in c.args.level.now.definitions.now) (uses_below c.args.level.now.scope.now.sig (map formula_of c.args.level.now.scope.now.bodies) c.args.level.now.below) c.args.notes.now c.first_note-note.result.now c.first_note-note.ensures.value (formula_of c.args.tree.now) (cases_of_trees c.args.cases.now) [] c.inner.result.now refl c.inner.ensures.value c.requires.noted.1))))

pub compile_match-returns-clause-outcome : goal.compile_match-returns-clause-outcome
compile_match-returns-clause-outcome t c =
    let is = match_flag c.args.level.now.scope.now.sig (worked_in c.args.level.now.definitions.now) (uses_below c.args.level.now.scope.now.sig (map formula_of c.args.level.now.scope.now.bodies) c.args.level.now.below) c.args.notes.now c.first_note-note.result.now c.first_note-note.ensures.value (formula_of c.args.tree.now) (cases_of_trees c.args.cases.now) c.bound.result.now c.first_flag-occurs.result c.bound.ensures.value c.first_flag-occurs.ensures.value c.requires.noted.1 in
    let at : slice_get c.in_ok-bounds.bounds 0 ≡ Some c.bound_at-matched.result = ap (λ (xs : List Bound). slice_get xs 0) (sym c.as_slice.ensures.value) ∙ c.bound_at-matched.ensures.value in
    match_made c.args.level.now.scope.now.sig (map formula_of c.args.level.now.scope.now.bodies) c.args.level.now.below c.args.table.now c.args.env.now (formula_of c.args.tree.now) (cases_of_trees c.args.cases.now) c.first_flag-occurs.result is c.compile_bound.new.table c.in_ok-bounds.bounds (binds_as c.args.level.now.scope.now.sig (map formula_of c.args.level.now.scope.now.bodies) c.args.level.now.below c.args.table.now c.compile_bound.new.table c.args.env.now c.one_flag-flags.result.now _ (formulas_of_trees c.one_tree-trees.result.now) _ _ c.one_flag-flags.ensures.value c.one_tree-trees.ensures.value c.in_ok-bounds.ensures.outcome) c.bound_at-matched.result at c.compile_cases.new.table (ended c.compile_cases.result) (rw c.in_ok-bounds.ensures.back at c.compile_cases.ensures.outcome)

pub compile_match-returns-clause-waits : goal.compile_match-returns-clause-waits
compile_match-returns-clause-waits t c =
    let is = match_flag c.args.level.now.scope.now.sig (worked_in c.args.level.now.definitions.now) (uses_below c.args.level.now.scope.now.sig (map formula_of c.args.level.now.scope.now.bodies) c.args.level.now.below) c.args.notes.now c.first_note-note.result.now c.first_note-note.ensures.value (formula_of c.args.tree.now) (cases_of_trees c.args.cases.now) c.bound.result.now c.first_flag-occurs.result c.bound.ensures.value c.first_flag-occurs.ensures.value c.requires.noted.1 in
    let at : slice_get c.in_ok-bounds.bounds 0 ≡ Some c.bound_at-matched.result = ap (λ (xs : List Bound). slice_get xs 0) (sym c.as_slice.ensures.value) ∙ c.bound_at-matched.ensures.value in
    match_later c.args.level.now.scope.now.sig (map formula_of c.args.level.now.scope.now.bodies) c.args.level.now.below c.args.table.now c.args.env.now (formula_of c.args.tree.now) (cases_of_trees c.args.cases.now) c.first_flag-occurs.result is c.compile_bound.new.table c.in_ok-bounds.bounds (binds_as c.args.level.now.scope.now.sig (map formula_of c.args.level.now.scope.now.bodies) c.args.level.now.below c.args.table.now c.compile_bound.new.table c.args.env.now c.one_flag-flags.result.now _ (formulas_of_trees c.one_tree-trees.result.now) _ _ c.one_flag-flags.ensures.value c.one_tree-trees.ensures.value c.in_ok-bounds.ensures.outcome) c.bound_at-matched.result at (worked_in c.args.level.now.definitions.now) c.compile_cases.new.table c.compile_cases.result (rw c.in_ok-bounds.ensures.back at c.compile_cases.ensures.waits)

pub compile_cases-loop-rest-init : goal.compile_cases-loop-rest-init
compile_cases-loop-rest-init t c =
    record { done = subst (λ (gs : List Guarded). Chooses c.args.level.now.scope.now.sig (map formula_of c.args.level.now.scope.now.bodies) c.args.level.now.below c.args.table.now c.args.table.now c.args.env.now c.args.matched (cases_of_trees c.args.cases.now) gs (reverse c.new-earlier.result) (cases_of_trees c.args.cases.now)) (sym c.new-made.ensures.items) (subst (λ (cs : List CtorId). Chooses c.args.level.now.scope.now.sig (map formula_of c.args.level.now.scope.now.bodies) c.args.level.now.below c.args.table.now c.args.table.now c.args.env.now c.args.matched (cases_of_trees c.args.cases.now) [] (reverse cs) (cases_of_trees c.args.cases.now)) (sym c.new-earlier.ensures.empty) (chooses_start c.args.level.now.scope.now.sig (map formula_of c.args.level.now.scope.now.bodies) c.args.level.now.below c.args.table.now c.args.env.now c.args.matched (cases_of_trees c.args.cases.now) c.requires.ready)); state = c.requires.state; noted = subst (λ (cs : List CtorId). CasesNoted c.args.level.now.scope.now.sig (worked_in c.args.level.now.definitions.now) (uses_below c.args.level.now.scope.now.sig (map formula_of c.args.level.now.scope.now.bodies) c.args.level.now.below) (reverse cs) (cases_of_trees c.args.cases.now) c.args.notes.now) (sym c.new-earlier.ensures.empty) c.requires.noted.1; same = refl }

pub compile_cases-tested-requires : goal.compile_cases-tested-requires
compile_cases-tested-requires t c =
    let rest = take (length c.loop-rest.rest.now - 1) (drop 1 c.loop-rest.rest.now) in
    let whole = cases_is c.loop-rest.rest.now rest c.case-item.result c.pattern_of-pattern.result (formula_of c.body_of-body.result.now) (rest-item c.loop-rest.rest.now c.case-item.result c.in-len1-up.len_at_least c.case-item.is) c.pattern_of-pattern.ensures.value c.body_of-body.ensures.value in
    let split = subst (λ (cs : Cases). Chooses c.args.level.now.scope.now.sig (map formula_of c.args.level.now.scope.now.bodies) c.args.level.now.below c.args.table.now c.loop-rest.table c.args.env.now c.args.matched (cases_of_trees c.args.cases.now) c.loop-rest.made.items (reverse c.loop-rest.earlier) cs) whole c.loop-rest.invariant.done in
    let may = chooses_may c.args.level.now.scope.now.sig (map formula_of c.args.level.now.scope.now.bodies) c.args.level.now.below c.args.table.now c.loop-rest.table c.args.env.now c.args.matched (cases_of_trees c.args.cases.now) c.loop-rest.made.items (reverse c.loop-rest.earlier) (with_case c.pattern_of-pattern.result (formula_of c.body_of-body.result.now) (cases_of_trees rest)) split in
    record { declared = case_declared c.args.level.now.scope.now.sig (map formula_of c.args.level.now.scope.now.bodies) c.args.level.now.below c.args.env.now c.args.matched (reverse c.loop-rest.earlier) c.pattern_of-pattern.result (formula_of c.body_of-body.result.now) (cases_of_trees rest) c.loop-rest.table may }

pub compile_cases-compile_case-requires : goal.compile_cases-compile_case-requires
compile_cases-compile_case-requires t c =
    let rest = take (length c.loop-rest.rest.now - 1) (drop 1 c.loop-rest.rest.now) in
    let whole = cases_is c.loop-rest.rest.now rest c.case-item.result c.pattern_of-pattern.result (formula_of c.body_of-body.result.now) (rest-item c.loop-rest.rest.now c.case-item.result c.in-len1-up.len_at_least c.case-item.is) c.pattern_of-pattern.ensures.value c.body_of-body.ensures.value in
    let split = subst (λ (cs : Cases). Chooses c.args.level.now.scope.now.sig (map formula_of c.args.level.now.scope.now.bodies) c.args.level.now.below c.args.table.now c.loop-rest.table c.args.env.now c.args.matched (cases_of_trees c.args.cases.now) c.loop-rest.made.items (reverse c.loop-rest.earlier) cs) whole c.loop-rest.invariant.done in
    let may = chooses_may c.args.level.now.scope.now.sig (map formula_of c.args.level.now.scope.now.bodies) c.args.level.now.below c.args.table.now c.loop-rest.table c.args.env.now c.args.matched (cases_of_trees c.args.cases.now) c.loop-rest.made.items (reverse c.loop-rest.earlier) (with_case c.pattern_of-pattern.result (formula_of c.body_of-body.result.now) (cases_of_trees rest)) split in
    let lighter = chooses_lighter c.args.level.now.scope.now.sig (map formula_of c.args.level.now.scope.now.bodies) c.args.level.now.below c.args.table.now c.loop-rest.table c.args.env.now c.args.matched (cases_of_trees c.args.cases.now) c.loop-rest.made.items (reverse c.loop-rest.earlier) c.pattern_of-pattern.result (formula_of c.body_of-body.result.now) (cases_of_trees rest) split in
    let noted = subst (λ (cs : Cases). CasesNoted c.args.level.now.scope.now.sig (worked_in c.args.level.now.definitions.now) (uses_below c.args.level.now.scope.now.sig (map formula_of c.args.level.now.scope.now.bodies) c.args.level.now.below) (reverse c.loop-rest.earlier) cs c.loop-rest.left.now) whole c.loop-rest.invariant.noted in
    (omega (arith, lighter, c.decreases), (c.loop-rest.invariant.state, (case_declared c.args.level.now.scope.now.sig (map formula_of c.args.level.now.scope.now.bodies) c.args.level.now.below c.args.env.now c.args.matched (reverse c.loop-rest.earlier) c.pattern_of-pattern.result (formula_of c.body_of-body.result.now) (cases_of_trees rest) c.loop-rest.table may, (rw c.loop-rest.invariant.same (case_body c.args.level.now.scope.now.sig (map formula_of c.args.level.now.scope.now.bodies) c.args.level.now.below c.args.env.now c.args.matched (reverse c.loop-rest.earlier) c.pattern_of-pattern.result (formula_of c.body_of-body.result.now) (cases_of_trees rest) c.loop-rest.table may), (c.requires.noted.0, case_notes c.args.level.now.scope.now.sig (worked_in c.args.level.now.definitions.now) (uses_below c.args.level.now.scope.now.sig (map formula_of c.args.level.now.scope.now.bodies) c.args.level.now.below) (reverse c.loop-rest.earlier) c.pattern_of-pattern.result (formula_of c.body_of-body.result.now) (cases_of_trees rest) c.loop-rest.left.now noted)))))

pub compile_cases-returns-in_err-last-clause-outcome : goal.compile_cases-returns-in_err-last-clause-outcome
compile_cases-returns-in_err-last-clause-outcome t c =
    let rest = take (length c.loop-rest.rest.now - 1) (drop 1 c.loop-rest.rest.now) in
    let whole = cases_is c.loop-rest.rest.now rest c.case-item.result c.pattern_of-pattern.result (formula_of c.body_of-body.result.now) (rest-item c.loop-rest.rest.now c.case-item.result c.in-len1-up.len_at_least c.case-item.is) c.pattern_of-pattern.ensures.value c.body_of-body.ensures.value in
    let split = subst (λ (cs : Cases). Chooses c.args.level.now.scope.now.sig (map formula_of c.args.level.now.scope.now.bodies) c.args.level.now.below c.args.table.now c.loop-rest.table c.args.env.now c.args.matched (cases_of_trees c.args.cases.now) c.loop-rest.made.items (reverse c.loop-rest.earlier) cs) whole c.loop-rest.invariant.done in
    let test_is : c.tested.result ≡ tested_by c.args.level.now.scope.now.sig (reverse c.loop-rest.earlier) c.pattern_of-pattern.result (are_none (cases_of_trees rest)) = c.tested.ensures.value ∙ ap (tested_by c.args.level.now.scope.now.sig (reverse c.loop-rest.earlier) c.pattern_of-pattern.result) (c.is_empty.ensures ∙ none_is rest) in
    let p = err_from_is_err_and c.from_residual.result c.from_residual.ensures.1 in
    rw (p.1, p.2) (chooses_stopped c.args.level.now.scope.now.sig (map formula_of c.args.level.now.scope.now.bodies) c.args.level.now.below c.args.table.now c.loop-rest.table c.args.env.now c.args.matched (cases_of_trees c.args.cases.now) c.loop-rest.made.items (reverse c.loop-rest.earlier) (with_case c.pattern_of-pattern.result (formula_of c.body_of-body.result.now) (cases_of_trees rest)) split c.compile_case.new.table _ (case_ends c.args.level.now.scope.now.sig (map formula_of c.args.level.now.scope.now.bodies) c.args.level.now.below c.args.env.now c.args.matched (reverse c.loop-rest.earlier) c.pattern_of-pattern.result (formula_of c.body_of-body.result.now) (cases_of_trees rest) (sym test_is ∙ c.in_default-tested.is) c.loop-rest.table c.compile_case.new.table _ (rw c.loop-rest.invariant.same at c.in_err-last.ensures.outcome)))

pub compile_cases-returns-in_err-last-clause-waits : goal.compile_cases-returns-in_err-last-clause-waits
compile_cases-returns-in_err-last-clause-waits t c =
    let rest = take (length c.loop-rest.rest.now - 1) (drop 1 c.loop-rest.rest.now) in
    let whole = cases_is c.loop-rest.rest.now rest c.case-item.result c.pattern_of-pattern.result (formula_of c.body_of-body.result.now) (rest-item c.loop-rest.rest.now c.case-item.result c.in-len1-up.len_at_least c.case-item.is) c.pattern_of-pattern.ensures.value c.body_of-body.ensures.value in
    let split = subst (λ (cs : Cases). Chooses c.args.level.now.scope.now.sig (map formula_of c.args.level.now.scope.now.bodies) c.args.level.now.below c.args.table.now c.loop-rest.table c.args.env.now c.args.matched (cases_of_trees c.args.cases.now) c.loop-rest.made.items (reverse c.loop-rest.earlier) cs) whole c.loop-rest.invariant.done in
    let test_is : c.tested.result ≡ tested_by c.args.level.now.scope.now.sig (reverse c.loop-rest.earlier) c.pattern_of-pattern.result (are_none (cases_of_trees rest)) = c.tested.ensures.value ∙ ap (tested_by c.args.level.now.scope.now.sig (reverse c.loop-rest.earlier) c.pattern_of-pattern.result) (c.is_empty.ensures ∙ none_is rest) in
    let p = err_from_is_err_and c.from_residual.result c.from_residual.ensures.1 in
    rw (p.1, p.2) (chooses_waits c.args.level.now.scope.now.sig (map formula_of c.args.level.now.scope.now.bodies) c.args.level.now.below c.args.table.now c.loop-rest.table c.args.env.now c.args.matched (cases_of_trees c.args.cases.now) c.loop-rest.made.items (reverse c.loop-rest.earlier) (with_case c.pattern_of-pattern.result (formula_of c.body_of-body.result.now) (cases_of_trees rest)) split (worked_in c.args.level.now.definitions.now) c.compile_case.new.table _ (ends_waits c.args.level.now.scope.now.sig (map formula_of c.args.level.now.scope.now.bodies) c.args.level.now.below c.args.env.now c.args.matched (reverse c.loop-rest.earlier) c.pattern_of-pattern.result (formula_of c.body_of-body.result.now) (cases_of_trees rest) (worked_in c.args.level.now.definitions.now) (sym test_is ∙ c.in_default-tested.is) c.loop-rest.table c.compile_case.new.table _ (rw c.loop-rest.invariant.same at c.in_err-last.ensures.waits)))

pub compile_cases-returns-in_err-last-clause-state : goal.compile_cases-returns-in_err-last-clause-state
compile_cases-returns-in_err-last-clause-state t c =
    let p = err_from_is_err_and c.from_residual.result c.from_residual.ensures.1 in
    rw (p.1, p.2) (goes_on_by TermId TermId c.in_err-last.field-0.0 (IsState c.args.level.now.scope.now.sig (map formula_of c.args.level.now.scope.now.bodies) c.args.level.now.below (worked_in c.args.level.now.definitions.now) c.compile_case.new.table c.compile_case.new.known) (IsState c.args.level.now.scope.now.sig (map formula_of c.args.level.now.scope.now.bodies) c.args.level.now.below (worked_in c.args.level.now.definitions.now) c.compile_case.new.table c.compile_case.new.known) (λ x. x) c.in_err-last.ensures.state)

pub compile_cases-returns-in_err-last-clause-unknown : goal.compile_cases-returns-in_err-last-clause-unknown
compile_cases-returns-in_err-last-clause-unknown t c =
    let p = err_from_is_err_and c.from_residual.result c.from_residual.ensures.1 in
    rw (p.1, p.2) (too_deep_by TermId TermId _ (λ call. IsUnknown c.compile_case.new.known call) (λ call. IsUnknown c.compile_case.new.known call) (λ call h. h) c.in_err-last.ensures.unknown)

pub compile_cases-choices-requires-clause-kept : goal.compile_cases-choices-requires-clause-kept
compile_cases-choices-requires-clause-kept t c =
    let rest = take (length c.loop-rest.rest.now - 1) (drop 1 c.loop-rest.rest.now) in
    let whole = cases_is c.loop-rest.rest.now rest c.case-item.result c.pattern_of-pattern.result (formula_of c.body_of-body.result.now) (rest-item c.loop-rest.rest.now c.case-item.result c.in-len1-up.len_at_least c.case-item.is) c.pattern_of-pattern.ensures.value c.body_of-body.ensures.value in
    let split = subst (λ (cs : Cases). Chooses c.args.level.now.scope.now.sig (map formula_of c.args.level.now.scope.now.bodies) c.args.level.now.below c.args.table.now c.loop-rest.table c.args.env.now c.args.matched (cases_of_trees c.args.cases.now) c.loop-rest.made.items (reverse c.loop-rest.earlier) cs) whole c.loop-rest.invariant.done in
    let test_is : c.tested.result ≡ tested_by c.args.level.now.scope.now.sig (reverse c.loop-rest.earlier) c.pattern_of-pattern.result (are_none (cases_of_trees rest)) = c.tested.ensures.value ∙ ap (tested_by c.args.level.now.scope.now.sig (reverse c.loop-rest.earlier) c.pattern_of-pattern.result) (c.is_empty.ensures ∙ none_is rest) in
    let one = case_ends c.args.level.now.scope.now.sig (map formula_of c.args.level.now.scope.now.bodies) c.args.level.now.below c.args.env.now c.args.matched (reverse c.loop-rest.earlier) c.pattern_of-pattern.result (formula_of c.body_of-body.result.now) (cases_of_trees rest) (sym test_is ∙ c.in_default-tested.is) c.loop-rest.table c.compile_case.new.table (Ok c.in_ok-last.last) (rw c.loop-rest.invariant.same at c.in_ok-last.ensures.outcome) in
    last_kept c.args.level.now.scope.now.sig (map formula_of c.args.level.now.scope.now.bodies) c.args.level.now.below c.args.table.now c.loop-rest.table c.args.env.now c.args.matched (cases_of_trees c.args.cases.now) c.loop-rest.made.items (reverse c.loop-rest.earlier) (with_case c.pattern_of-pattern.result (formula_of c.body_of-body.result.now) (cases_of_trees rest)) split c.compile_case.new.table c.in_ok-last.last one

pub compile_cases-choices-requires-clause-below : goal.compile_cases-choices-requires-clause-below
compile_cases-choices-requires-clause-below t c =
    let rest = take (length c.loop-rest.rest.now - 1) (drop 1 c.loop-rest.rest.now) in
    let whole = cases_is c.loop-rest.rest.now rest c.case-item.result c.pattern_of-pattern.result (formula_of c.body_of-body.result.now) (rest-item c.loop-rest.rest.now c.case-item.result c.in-len1-up.len_at_least c.case-item.is) c.pattern_of-pattern.ensures.value c.body_of-body.ensures.value in
    let split = subst (λ (cs : Cases). Chooses c.args.level.now.scope.now.sig (map formula_of c.args.level.now.scope.now.bodies) c.args.level.now.below c.args.table.now c.loop-rest.table c.args.env.now c.args.matched (cases_of_trees c.args.cases.now) c.loop-rest.made.items (reverse c.loop-rest.earlier) cs) whole c.loop-rest.invariant.done in
    let test_is : c.tested.result ≡ tested_by c.args.level.now.scope.now.sig (reverse c.loop-rest.earlier) c.pattern_of-pattern.result (are_none (cases_of_trees rest)) = c.tested.ensures.value ∙ ap (tested_by c.args.level.now.scope.now.sig (reverse c.loop-rest.earlier) c.pattern_of-pattern.result) (c.is_empty.ensures ∙ none_is rest) in
    let one = case_ends c.args.level.now.scope.now.sig (map formula_of c.args.level.now.scope.now.bodies) c.args.level.now.below c.args.env.now c.args.matched (reverse c.loop-rest.earlier) c.pattern_of-pattern.result (formula_of c.body_of-body.result.now) (cases_of_trees rest) (sym test_is ∙ c.in_default-tested.is) c.loop-rest.table c.compile_case.new.table (Ok c.in_ok-last.last) (rw c.loop-rest.invariant.same at c.in_ok-last.ensures.outcome) in
    subst (λ (gs : List Guarded). AllByRecursion (IsGuardedIn c.compile_case.new.table) gs) (sym c.as_slice.ensures.value) (last_below c.args.level.now.scope.now.sig (map formula_of c.args.level.now.scope.now.bodies) c.args.level.now.below c.args.table.now c.loop-rest.table c.args.env.now c.args.matched (cases_of_trees c.args.cases.now) c.loop-rest.made.items (reverse c.loop-rest.earlier) (with_case c.pattern_of-pattern.result (formula_of c.body_of-body.result.now) (cases_of_trees rest)) split c.compile_case.new.table c.in_ok-last.last one)

pub compile_cases-choices-requires-clause-inside : goal.compile_cases-choices-requires-clause-inside
compile_cases-choices-requires-clause-inside t c =
    let rest = take (length c.loop-rest.rest.now - 1) (drop 1 c.loop-rest.rest.now) in
    let whole = cases_is c.loop-rest.rest.now rest c.case-item.result c.pattern_of-pattern.result (formula_of c.body_of-body.result.now) (rest-item c.loop-rest.rest.now c.case-item.result c.in-len1-up.len_at_least c.case-item.is) c.pattern_of-pattern.ensures.value c.body_of-body.ensures.value in
    let split = subst (λ (cs : Cases). Chooses c.args.level.now.scope.now.sig (map formula_of c.args.level.now.scope.now.bodies) c.args.level.now.below c.args.table.now c.loop-rest.table c.args.env.now c.args.matched (cases_of_trees c.args.cases.now) c.loop-rest.made.items (reverse c.loop-rest.earlier) cs) whole c.loop-rest.invariant.done in
    let test_is : c.tested.result ≡ tested_by c.args.level.now.scope.now.sig (reverse c.loop-rest.earlier) c.pattern_of-pattern.result (are_none (cases_of_trees rest)) = c.tested.ensures.value ∙ ap (tested_by c.args.level.now.scope.now.sig (reverse c.loop-rest.earlier) c.pattern_of-pattern.result) (c.is_empty.ensures ∙ none_is rest) in
    let one = case_ends c.args.level.now.scope.now.sig (map formula_of c.args.level.now.scope.now.bodies) c.args.level.now.below c.args.env.now c.args.matched (reverse c.loop-rest.earlier) c.pattern_of-pattern.result (formula_of c.body_of-body.result.now) (cases_of_trees rest) (sym test_is ∙ c.in_default-tested.is) c.loop-rest.table c.compile_case.new.table (Ok c.in_ok-last.last) (rw c.loop-rest.invariant.same at c.in_ok-last.ensures.outcome) in
    last_inside c.args.level.now.scope.now.sig (map formula_of c.args.level.now.scope.now.bodies) c.args.level.now.below c.args.table.now c.loop-rest.table c.args.env.now c.args.matched (cases_of_trees c.args.cases.now) c.loop-rest.made.items (reverse c.loop-rest.earlier) (with_case c.pattern_of-pattern.result (formula_of c.body_of-body.result.now) (cases_of_trees rest)) split c.compile_case.new.table c.in_ok-last.last one

pub compile_cases-choices-requires-clause-sorted : goal.compile_cases-choices-requires-clause-sorted
compile_cases-choices-requires-clause-sorted t c =
    let rest = take (length c.loop-rest.rest.now - 1) (drop 1 c.loop-rest.rest.now) in
    let whole = cases_is c.loop-rest.rest.now rest c.case-item.result c.pattern_of-pattern.result (formula_of c.body_of-body.result.now) (rest-item c.loop-rest.rest.now c.case-item.result c.in-len1-up.len_at_least c.case-item.is) c.pattern_of-pattern.ensures.value c.body_of-body.ensures.value in
    let split = subst (λ (cs : Cases). Chooses c.args.level.now.scope.now.sig (map formula_of c.args.level.now.scope.now.bodies) c.args.level.now.below c.args.table.now c.loop-rest.table c.args.env.now c.args.matched (cases_of_trees c.args.cases.now) c.loop-rest.made.items (reverse c.loop-rest.earlier) cs) whole c.loop-rest.invariant.done in
    let test_is : c.tested.result ≡ tested_by c.args.level.now.scope.now.sig (reverse c.loop-rest.earlier) c.pattern_of-pattern.result (are_none (cases_of_trees rest)) = c.tested.ensures.value ∙ ap (tested_by c.args.level.now.scope.now.sig (reverse c.loop-rest.earlier) c.pattern_of-pattern.result) (c.is_empty.ensures ∙ none_is rest) in
    let one = case_ends c.args.level.now.scope.now.sig (map formula_of c.args.level.now.scope.now.bodies) c.args.level.now.below c.args.env.now c.args.matched (reverse c.loop-rest.earlier) c.pattern_of-pattern.result (formula_of c.body_of-body.result.now) (cases_of_trees rest) (sym test_is ∙ c.in_default-tested.is) c.loop-rest.table c.compile_case.new.table (Ok c.in_ok-last.last) (rw c.loop-rest.invariant.same at c.in_ok-last.ensures.outcome) in
    subst (λ (gs : List Guarded). (sort : SortId) × HasTreeSort c.args.level.now.scope.now.sig (chosen_from (term_at c.compile_case.new.table) gs (term_at c.compile_case.new.table c.in_ok-last.last)) sort) (sym c.as_slice.ensures.value) (last_sorted c.args.level.now.scope.now.sig (map formula_of c.args.level.now.scope.now.bodies) c.args.level.now.below c.args.table.now c.loop-rest.table c.args.env.now c.args.matched (cases_of_trees c.args.cases.now) c.loop-rest.made.items (reverse c.loop-rest.earlier) (with_case c.pattern_of-pattern.result (formula_of c.body_of-body.result.now) (cases_of_trees rest)) split c.compile_case.new.table c.in_ok-last.last one)

pub compile_cases-returns-in_default-tested-clause-outcome : goal.compile_cases-returns-in_default-tested-clause-outcome
compile_cases-returns-in_default-tested-clause-outcome t c =
    let rest = take (length c.loop-rest.rest.now - 1) (drop 1 c.loop-rest.rest.now) in
    let whole = cases_is c.loop-rest.rest.now rest c.case-item.result c.pattern_of-pattern.result (formula_of c.body_of-body.result.now) (rest-item c.loop-rest.rest.now c.case-item.result c.in-len1-up.len_at_least c.case-item.is) c.pattern_of-pattern.ensures.value c.body_of-body.ensures.value in
    let split = subst (λ (cs : Cases). Chooses c.args.level.now.scope.now.sig (map formula_of c.args.level.now.scope.now.bodies) c.args.level.now.below c.args.table.now c.loop-rest.table c.args.env.now c.args.matched (cases_of_trees c.args.cases.now) c.loop-rest.made.items (reverse c.loop-rest.earlier) cs) whole c.loop-rest.invariant.done in
    let test_is : c.tested.result ≡ tested_by c.args.level.now.scope.now.sig (reverse c.loop-rest.earlier) c.pattern_of-pattern.result (are_none (cases_of_trees rest)) = c.tested.ensures.value ∙ ap (tested_by c.args.level.now.scope.now.sig (reverse c.loop-rest.earlier) c.pattern_of-pattern.result) (c.is_empty.ensures ∙ none_is rest) in
    let one = case_ends c.args.level.now.scope.now.sig (map formula_of c.args.level.now.scope.now.bodies) c.args.level.now.below c.args.env.now c.args.matched (reverse c.loop-rest.earlier) c.pattern_of-pattern.result (formula_of c.body_of-body.result.now) (cases_of_trees rest) (sym test_is ∙ c.in_default-tested.is) c.loop-rest.table c.compile_case.new.table (Ok c.in_ok-last.last) (rw c.loop-rest.invariant.same at c.in_ok-last.ensures.outcome) in
    chooses_end c.args.level.now.scope.now.sig (map formula_of c.args.level.now.scope.now.bodies) c.args.level.now.below c.args.table.now c.loop-rest.table c.args.env.now c.args.matched (cases_of_trees c.args.cases.now) c.loop-rest.made.items (reverse c.loop-rest.earlier) (with_case c.pattern_of-pattern.result (formula_of c.body_of-body.result.now) (cases_of_trees rest)) split c.compile_case.new.table c.in_ok-last.last one c.choices.new.table (Ok c.in_ok-choices.field-0) (subst (λ (gs : List Guarded). IfOk {E = TermError} (Ok c.in_ok-choices.field-0) (λ x. Stands c.choices.new.table x (chosen_from (term_at c.compile_case.new.table) gs (term_at c.compile_case.new.table c.in_ok-last.last)))) c.as_slice.ensures.value c.in_ok-choices.ensures.core) (subst (λ (gs : List Guarded). (allowed : List CoreTree) → Within allowed (chosen_from (term_at c.compile_case.new.table) gs (term_at c.compile_case.new.table c.in_ok-last.last)) → Effect c.args.level.now.scope.now.sig allowed c.compile_case.new.table c.choices.new.table (IsErrOf (Ok c.in_ok-choices.field-0) Full)) c.as_slice.ensures.value c.in_ok-choices.ensures.effect)

pub compile_cases-returns-in_err-choices-clause-outcome : goal.compile_cases-returns-in_err-choices-clause-outcome
compile_cases-returns-in_err-choices-clause-outcome t c =
    let rest = take (length c.loop-rest.rest.now - 1) (drop 1 c.loop-rest.rest.now) in
    let whole = cases_is c.loop-rest.rest.now rest c.case-item.result c.pattern_of-pattern.result (formula_of c.body_of-body.result.now) (rest-item c.loop-rest.rest.now c.case-item.result c.in-len1-up.len_at_least c.case-item.is) c.pattern_of-pattern.ensures.value c.body_of-body.ensures.value in
    let split = subst (λ (cs : Cases). Chooses c.args.level.now.scope.now.sig (map formula_of c.args.level.now.scope.now.bodies) c.args.level.now.below c.args.table.now c.loop-rest.table c.args.env.now c.args.matched (cases_of_trees c.args.cases.now) c.loop-rest.made.items (reverse c.loop-rest.earlier) cs) whole c.loop-rest.invariant.done in
    let test_is : c.tested.result ≡ tested_by c.args.level.now.scope.now.sig (reverse c.loop-rest.earlier) c.pattern_of-pattern.result (are_none (cases_of_trees rest)) = c.tested.ensures.value ∙ ap (tested_by c.args.level.now.scope.now.sig (reverse c.loop-rest.earlier) c.pattern_of-pattern.result) (c.is_empty.ensures ∙ none_is rest) in
    let one = case_ends c.args.level.now.scope.now.sig (map formula_of c.args.level.now.scope.now.bodies) c.args.level.now.below c.args.env.now c.args.matched (reverse c.loop-rest.earlier) c.pattern_of-pattern.result (formula_of c.body_of-body.result.now) (cases_of_trees rest) (sym test_is ∙ c.in_default-tested.is) c.loop-rest.table c.compile_case.new.table (Ok c.in_ok-last.last) (rw c.loop-rest.invariant.same at c.in_ok-last.ensures.outcome) in
    let p = err_from_is_err_and c.from_residual-in_err-choices.result c.from_residual-in_err-choices.ensures.1 in
    rw (p.1, p.2) (chooses_end c.args.level.now.scope.now.sig (map formula_of c.args.level.now.scope.now.bodies) c.args.level.now.below c.args.table.now c.loop-rest.table c.args.env.now c.args.matched (cases_of_trees c.args.cases.now) c.loop-rest.made.items (reverse c.loop-rest.earlier) (with_case c.pattern_of-pattern.result (formula_of c.body_of-body.result.now) (cases_of_trees rest)) split c.compile_case.new.table c.in_ok-last.last one c.choices.new.table (Err c.in_err-choices.field-0.0) (subst (λ (gs : List Guarded). IfOk (Err c.in_err-choices.field-0.0) (λ x. Stands c.choices.new.table x (chosen_from (term_at c.compile_case.new.table) gs (term_at c.compile_case.new.table c.in_ok-last.last)))) c.as_slice.ensures.value c.in_err-choices.ensures.core) (subst (λ (gs : List Guarded). (allowed : List CoreTree) → Within allowed (chosen_from (term_at c.compile_case.new.table) gs (term_at c.compile_case.new.table c.in_ok-last.last)) → Effect c.args.level.now.scope.now.sig allowed c.compile_case.new.table c.choices.new.table (IsErrOf {T = TermId} (Err c.in_err-choices.field-0.0) Full)) c.as_slice.ensures.value c.in_err-choices.ensures.effect))

pub compile_cases-returns-in_default-tested-clause-state : goal.compile_cases-returns-in_default-tested-clause-state
compile_cases-returns-in_default-tested-clause-state t c =
    state_within c.args.level.now.scope.now.sig (map formula_of c.args.level.now.scope.now.bodies) (worked_in c.args.level.now.definitions.now) c.args.level.now.below c.compile_case.new.table c.choices.new.table c.compile_case.new.known _ _ c.choices.ensures.effect c.in_ok-last.ensures.state

pub compile_cases-make_test-requires-clause-kept : goal.compile_cases-make_test-requires-clause-kept
compile_cases-make_test-requires-clause-kept t c =
    let rest = take (length c.loop-rest.rest.now - 1) (drop 1 c.loop-rest.rest.now) in
    let whole = cases_is c.loop-rest.rest.now rest c.case-item.result c.pattern_of-pattern.result (formula_of c.body_of-body.result.now) (rest-item c.loop-rest.rest.now c.case-item.result c.in-len1-up.len_at_least c.case-item.is) c.pattern_of-pattern.ensures.value c.body_of-body.ensures.value in
    let split = subst (λ (cs : Cases). Chooses c.args.level.now.scope.now.sig (map formula_of c.args.level.now.scope.now.bodies) c.args.level.now.below c.args.table.now c.loop-rest.table c.args.env.now c.args.matched (cases_of_trees c.args.cases.now) c.loop-rest.made.items (reverse c.loop-rest.earlier) cs) whole c.loop-rest.invariant.done in
    let may = chooses_may c.args.level.now.scope.now.sig (map formula_of c.args.level.now.scope.now.bodies) c.args.level.now.below c.args.table.now c.loop-rest.table c.args.env.now c.args.matched (cases_of_trees c.args.cases.now) c.loop-rest.made.items (reverse c.loop-rest.earlier) (with_case c.pattern_of-pattern.result (formula_of c.body_of-body.result.now) (cases_of_trees rest)) split in
    let test_is : c.tested.result ≡ tested_by c.args.level.now.scope.now.sig (reverse c.loop-rest.earlier) c.pattern_of-pattern.result (are_none (cases_of_trees rest)) = c.tested.ensures.value ∙ ap (tested_by c.args.level.now.scope.now.sig (reverse c.loop-rest.earlier) c.pattern_of-pattern.result) (c.is_empty.ensures ∙ none_is rest) in
    test_kept c.args.level.now.scope.now.sig (map formula_of c.args.level.now.scope.now.bodies) c.args.level.now.below c.args.env.now c.args.matched (reverse c.loop-rest.earlier) c.pattern_of-pattern.result (formula_of c.body_of-body.result.now) (cases_of_trees rest) c.in-Some.c (sym test_is ∙ c.in-Some.is) c.loop-rest.table may

pub compile_cases-make_test-requires-clause-there : goal.compile_cases-make_test-requires-clause-there
compile_cases-make_test-requires-clause-there t c =
    let rest = take (length c.loop-rest.rest.now - 1) (drop 1 c.loop-rest.rest.now) in
    let whole = cases_is c.loop-rest.rest.now rest c.case-item.result c.pattern_of-pattern.result (formula_of c.body_of-body.result.now) (rest-item c.loop-rest.rest.now c.case-item.result c.in-len1-up.len_at_least c.case-item.is) c.pattern_of-pattern.ensures.value c.body_of-body.ensures.value in
    let split = subst (λ (cs : Cases). Chooses c.args.level.now.scope.now.sig (map formula_of c.args.level.now.scope.now.bodies) c.args.level.now.below c.args.table.now c.loop-rest.table c.args.env.now c.args.matched (cases_of_trees c.args.cases.now) c.loop-rest.made.items (reverse c.loop-rest.earlier) cs) whole c.loop-rest.invariant.done in
    let may = chooses_may c.args.level.now.scope.now.sig (map formula_of c.args.level.now.scope.now.bodies) c.args.level.now.below c.args.table.now c.loop-rest.table c.args.env.now c.args.matched (cases_of_trees c.args.cases.now) c.loop-rest.made.items (reverse c.loop-rest.earlier) (with_case c.pattern_of-pattern.result (formula_of c.body_of-body.result.now) (cases_of_trees rest)) split in
    let test_is : c.tested.result ≡ tested_by c.args.level.now.scope.now.sig (reverse c.loop-rest.earlier) c.pattern_of-pattern.result (are_none (cases_of_trees rest)) = c.tested.ensures.value ∙ ap (tested_by c.args.level.now.scope.now.sig (reverse c.loop-rest.earlier) c.pattern_of-pattern.result) (c.is_empty.ensures ∙ none_is rest) in
    test_there c.args.level.now.scope.now.sig (map formula_of c.args.level.now.scope.now.bodies) c.args.level.now.below c.args.env.now c.args.matched (reverse c.loop-rest.earlier) c.pattern_of-pattern.result (formula_of c.body_of-body.result.now) (cases_of_trees rest) c.in-Some.c (sym test_is ∙ c.in-Some.is) c.loop-rest.table may

pub compile_cases-make_test-requires-clause-bound : goal.compile_cases-make_test-requires-clause-bound
compile_cases-make_test-requires-clause-bound t c =
    let rest = take (length c.loop-rest.rest.now - 1) (drop 1 c.loop-rest.rest.now) in
    let whole = cases_is c.loop-rest.rest.now rest c.case-item.result c.pattern_of-pattern.result (formula_of c.body_of-body.result.now) (rest-item c.loop-rest.rest.now c.case-item.result c.in-len1-up.len_at_least c.case-item.is) c.pattern_of-pattern.ensures.value c.body_of-body.ensures.value in
    let split = subst (λ (cs : Cases). Chooses c.args.level.now.scope.now.sig (map formula_of c.args.level.now.scope.now.bodies) c.args.level.now.below c.args.table.now c.loop-rest.table c.args.env.now c.args.matched (cases_of_trees c.args.cases.now) c.loop-rest.made.items (reverse c.loop-rest.earlier) cs) whole c.loop-rest.invariant.done in
    let may = chooses_may c.args.level.now.scope.now.sig (map formula_of c.args.level.now.scope.now.bodies) c.args.level.now.below c.args.table.now c.loop-rest.table c.args.env.now c.args.matched (cases_of_trees c.args.cases.now) c.loop-rest.made.items (reverse c.loop-rest.earlier) (with_case c.pattern_of-pattern.result (formula_of c.body_of-body.result.now) (cases_of_trees rest)) split in
    let test_is : c.tested.result ≡ tested_by c.args.level.now.scope.now.sig (reverse c.loop-rest.earlier) c.pattern_of-pattern.result (are_none (cases_of_trees rest)) = c.tested.ensures.value ∙ ap (tested_by c.args.level.now.scope.now.sig (reverse c.loop-rest.earlier) c.pattern_of-pattern.result) (c.is_empty.ensures ∙ none_is rest) in
    test_bound c.args.level.now.scope.now.sig (map formula_of c.args.level.now.scope.now.bodies) c.args.level.now.below c.args.env.now c.args.matched (reverse c.loop-rest.earlier) c.pattern_of-pattern.result (formula_of c.body_of-body.result.now) (cases_of_trees rest) c.in-Some.c (sym test_is ∙ c.in-Some.is) c.loop-rest.table may

pub compile_cases-returns-in_err-condition-clause-outcome : goal.compile_cases-returns-in_err-condition-clause-outcome
compile_cases-returns-in_err-condition-clause-outcome t c =
    let rest = take (length c.loop-rest.rest.now - 1) (drop 1 c.loop-rest.rest.now) in
    let whole = cases_is c.loop-rest.rest.now rest c.case-item.result c.pattern_of-pattern.result (formula_of c.body_of-body.result.now) (rest-item c.loop-rest.rest.now c.case-item.result c.in-len1-up.len_at_least c.case-item.is) c.pattern_of-pattern.ensures.value c.body_of-body.ensures.value in
    let split = subst (λ (cs : Cases). Chooses c.args.level.now.scope.now.sig (map formula_of c.args.level.now.scope.now.bodies) c.args.level.now.below c.args.table.now c.loop-rest.table c.args.env.now c.args.matched (cases_of_trees c.args.cases.now) c.loop-rest.made.items (reverse c.loop-rest.earlier) cs) whole c.loop-rest.invariant.done in
    let test_is : c.tested.result ≡ tested_by c.args.level.now.scope.now.sig (reverse c.loop-rest.earlier) c.pattern_of-pattern.result (are_none (cases_of_trees rest)) = c.tested.ensures.value ∙ ap (tested_by c.args.level.now.scope.now.sig (reverse c.loop-rest.earlier) c.pattern_of-pattern.result) (c.is_empty.ensures ∙ none_is rest) in
    let p = err_from_is_err_and c.from_residual-in_err-condition.result c.from_residual-in_err-condition.ensures.1 in
    rw (p.1, p.2) (chooses_failed c.args.level.now.scope.now.sig (map formula_of c.args.level.now.scope.now.bodies) c.args.level.now.below c.args.table.now c.loop-rest.table c.args.env.now c.args.matched (cases_of_trees c.args.cases.now) c.loop-rest.made.items (reverse c.loop-rest.earlier) (with_case c.pattern_of-pattern.result (formula_of c.body_of-body.result.now) (cases_of_trees rest)) split c.make_test.new.table c.in_err-condition.field-0.0 (test_failed c.args.level.now.scope.now.sig (map formula_of c.args.level.now.scope.now.bodies) c.args.level.now.below c.args.env.now c.args.matched (reverse c.loop-rest.earlier) c.pattern_of-pattern.result (formula_of c.body_of-body.result.now) (cases_of_trees rest) c.in-Some.c (sym test_is ∙ c.in-Some.is) c.loop-rest.table c.make_test.new.table _ c.in_err-condition.ensures.effect c.in_err-condition.field-0.0 (λ x. x)))

pub compile_cases-compile_case-requires-in-len1-up : goal.compile_cases-compile_case-requires-in-len1-up
compile_cases-compile_case-requires-in-len1-up t c =
    let rest = take (length c.loop-rest.rest.now - 1) (drop 1 c.loop-rest.rest.now) in
    let whole = cases_is c.loop-rest.rest.now rest c.case-item.result c.pattern_of-pattern.result (formula_of c.body_of-body.result.now) (rest-item c.loop-rest.rest.now c.case-item.result c.in-len1-up.len_at_least c.case-item.is) c.pattern_of-pattern.ensures.value c.body_of-body.ensures.value in
    let split = subst (λ (cs : Cases). Chooses c.args.level.now.scope.now.sig (map formula_of c.args.level.now.scope.now.bodies) c.args.level.now.below c.args.table.now c.loop-rest.table c.args.env.now c.args.matched (cases_of_trees c.args.cases.now) c.loop-rest.made.items (reverse c.loop-rest.earlier) cs) whole c.loop-rest.invariant.done in
    let may = chooses_may c.args.level.now.scope.now.sig (map formula_of c.args.level.now.scope.now.bodies) c.args.level.now.below c.args.table.now c.loop-rest.table c.args.env.now c.args.matched (cases_of_trees c.args.cases.now) c.loop-rest.made.items (reverse c.loop-rest.earlier) (with_case c.pattern_of-pattern.result (formula_of c.body_of-body.result.now) (cases_of_trees rest)) split in
    let test_is : c.tested.result ≡ tested_by c.args.level.now.scope.now.sig (reverse c.loop-rest.earlier) c.pattern_of-pattern.result (are_none (cases_of_trees rest)) = c.tested.ensures.value ∙ ap (tested_by c.args.level.now.scope.now.sig (reverse c.loop-rest.earlier) c.pattern_of-pattern.result) (c.is_empty.ensures ∙ none_is rest) in
    let lighter = chooses_lighter c.args.level.now.scope.now.sig (map formula_of c.args.level.now.scope.now.bodies) c.args.level.now.below c.args.table.now c.loop-rest.table c.args.env.now c.args.matched (cases_of_trees c.args.cases.now) c.loop-rest.made.items (reverse c.loop-rest.earlier) c.pattern_of-pattern.result (formula_of c.body_of-body.result.now) (cases_of_trees rest) split in
    let noted = subst (λ (cs : Cases). CasesNoted c.args.level.now.scope.now.sig (worked_in c.args.level.now.definitions.now) (uses_below c.args.level.now.scope.now.sig (map formula_of c.args.level.now.scope.now.bodies) c.args.level.now.below) (reverse c.loop-rest.earlier) cs c.loop-rest.left.now) whole c.loop-rest.invariant.noted in
    let grown = test_grown c.args.level.now.scope.now.sig (map formula_of c.args.level.now.scope.now.bodies) c.args.level.now.below c.args.env.now c.args.matched (reverse c.loop-rest.earlier) c.pattern_of-pattern.result (formula_of c.body_of-body.result.now) (cases_of_trees rest) c.in-Some.c (sym test_is ∙ c.in-Some.is) c.loop-rest.table c.make_test.new.table _ c.in_ok-condition.ensures.effect may in
    (omega (arith, lighter, c.decreases), (state_stays c.args.level.now.scope.now.sig (map formula_of c.args.level.now.scope.now.bodies) (worked_in c.args.level.now.definitions.now) c.args.level.now.below c.loop-rest.table c.make_test.new.table c.loop-rest.known grown.0 grown.1 c.loop-rest.invariant.state, (case_declared c.args.level.now.scope.now.sig (map formula_of c.args.level.now.scope.now.bodies) c.args.level.now.below c.args.env.now c.args.matched (reverse c.loop-rest.earlier) c.pattern_of-pattern.result (formula_of c.body_of-body.result.now) (cases_of_trees rest) c.loop-rest.table may, (rw c.loop-rest.invariant.same (first_may c.args.level.now.scope.now.sig (map formula_of c.args.level.now.scope.now.bodies) c.args.level.now.below c.args.env.now c.args.matched (reverse c.loop-rest.earlier) c.pattern_of-pattern.result (formula_of c.body_of-body.result.now) (cases_of_trees rest) c.in-Some.c (sym test_is ∙ c.in-Some.is) c.loop-rest.table c.make_test.new.table _ c.in_ok-condition.ensures.effect may), (c.requires.noted.0, case_notes c.args.level.now.scope.now.sig (worked_in c.args.level.now.definitions.now) (uses_below c.args.level.now.scope.now.sig (map formula_of c.args.level.now.scope.now.bodies) c.args.level.now.below) (reverse c.loop-rest.earlier) c.pattern_of-pattern.result (formula_of c.body_of-body.result.now) (cases_of_trees rest) c.loop-rest.left.now noted)))))

pub compile_cases-returns-in_err-term-clause-outcome : goal.compile_cases-returns-in_err-term-clause-outcome
compile_cases-returns-in_err-term-clause-outcome t c =
    let rest = take (length c.loop-rest.rest.now - 1) (drop 1 c.loop-rest.rest.now) in
    let whole = cases_is c.loop-rest.rest.now rest c.case-item.result c.pattern_of-pattern.result (formula_of c.body_of-body.result.now) (rest-item c.loop-rest.rest.now c.case-item.result c.in-len1-up.len_at_least c.case-item.is) c.pattern_of-pattern.ensures.value c.body_of-body.ensures.value in
    let split = subst (λ (cs : Cases). Chooses c.args.level.now.scope.now.sig (map formula_of c.args.level.now.scope.now.bodies) c.args.level.now.below c.args.table.now c.loop-rest.table c.args.env.now c.args.matched (cases_of_trees c.args.cases.now) c.loop-rest.made.items (reverse c.loop-rest.earlier) cs) whole c.loop-rest.invariant.done in
    let test_is : c.tested.result ≡ tested_by c.args.level.now.scope.now.sig (reverse c.loop-rest.earlier) c.pattern_of-pattern.result (are_none (cases_of_trees rest)) = c.tested.ensures.value ∙ ap (tested_by c.args.level.now.scope.now.sig (reverse c.loop-rest.earlier) c.pattern_of-pattern.result) (c.is_empty.ensures ∙ none_is rest) in
    let p = err_from_is_err_and c.from_residual-in_err-term.result c.from_residual-in_err-term.ensures.1 in
    rw (p.1, p.2) (chooses_stopped c.args.level.now.scope.now.sig (map formula_of c.args.level.now.scope.now.bodies) c.args.level.now.below c.args.table.now c.loop-rest.table c.args.env.now c.args.matched (cases_of_trees c.args.cases.now) c.loop-rest.made.items (reverse c.loop-rest.earlier) (with_case c.pattern_of-pattern.result (formula_of c.body_of-body.result.now) (cases_of_trees rest)) split c.compile_case-in-len1-up.new.table _ (first_stopped c.args.level.now.scope.now.sig (map formula_of c.args.level.now.scope.now.bodies) c.args.level.now.below c.args.env.now c.args.matched (reverse c.loop-rest.earlier) c.pattern_of-pattern.result (formula_of c.body_of-body.result.now) (cases_of_trees rest) c.in-Some.c (sym test_is ∙ c.in-Some.is) c.loop-rest.table c.make_test.new.table _ c.in_ok-condition.ensures.effect c.compile_case-in-len1-up.new.table _ (rw c.loop-rest.invariant.same at c.in_err-term.ensures.outcome)))

pub compile_cases-returns-in_err-term-clause-waits : goal.compile_cases-returns-in_err-term-clause-waits
compile_cases-returns-in_err-term-clause-waits t c =
    let rest = take (length c.loop-rest.rest.now - 1) (drop 1 c.loop-rest.rest.now) in
    let whole = cases_is c.loop-rest.rest.now rest c.case-item.result c.pattern_of-pattern.result (formula_of c.body_of-body.result.now) (rest-item c.loop-rest.rest.now c.case-item.result c.in-len1-up.len_at_least c.case-item.is) c.pattern_of-pattern.ensures.value c.body_of-body.ensures.value in
    let split = subst (λ (cs : Cases). Chooses c.args.level.now.scope.now.sig (map formula_of c.args.level.now.scope.now.bodies) c.args.level.now.below c.args.table.now c.loop-rest.table c.args.env.now c.args.matched (cases_of_trees c.args.cases.now) c.loop-rest.made.items (reverse c.loop-rest.earlier) cs) whole c.loop-rest.invariant.done in
    let test_is : c.tested.result ≡ tested_by c.args.level.now.scope.now.sig (reverse c.loop-rest.earlier) c.pattern_of-pattern.result (are_none (cases_of_trees rest)) = c.tested.ensures.value ∙ ap (tested_by c.args.level.now.scope.now.sig (reverse c.loop-rest.earlier) c.pattern_of-pattern.result) (c.is_empty.ensures ∙ none_is rest) in
    let p = err_from_is_err_and c.from_residual-in_err-term.result c.from_residual-in_err-term.ensures.1 in
    rw (p.1, p.2) (chooses_waits c.args.level.now.scope.now.sig (map formula_of c.args.level.now.scope.now.bodies) c.args.level.now.below c.args.table.now c.loop-rest.table c.args.env.now c.args.matched (cases_of_trees c.args.cases.now) c.loop-rest.made.items (reverse c.loop-rest.earlier) (with_case c.pattern_of-pattern.result (formula_of c.body_of-body.result.now) (cases_of_trees rest)) split (worked_in c.args.level.now.definitions.now) c.compile_case-in-len1-up.new.table _ (first_waits c.args.level.now.scope.now.sig (map formula_of c.args.level.now.scope.now.bodies) c.args.level.now.below c.args.env.now c.args.matched (reverse c.loop-rest.earlier) c.pattern_of-pattern.result (formula_of c.body_of-body.result.now) (cases_of_trees rest) c.in-Some.c (sym test_is ∙ c.in-Some.is) c.loop-rest.table c.make_test.new.table _ c.in_ok-condition.ensures.effect (worked_in c.args.level.now.definitions.now) c.in_ok-condition.condition c.in_ok-condition.ensures.core c.compile_case-in-len1-up.new.table _ (rw c.loop-rest.invariant.same at c.in_err-term.ensures.waits)))

pub compile_cases-returns-in_err-term-clause-state : goal.compile_cases-returns-in_err-term-clause-state
compile_cases-returns-in_err-term-clause-state t c =
    let p = err_from_is_err_and c.from_residual-in_err-term.result c.from_residual-in_err-term.ensures.1 in
    rw (p.1, p.2) (goes_on_by TermId TermId c.in_err-term.field-0.0 (IsState c.args.level.now.scope.now.sig (map formula_of c.args.level.now.scope.now.bodies) c.args.level.now.below (worked_in c.args.level.now.definitions.now) c.compile_case-in-len1-up.new.table c.compile_case-in-len1-up.new.known) (IsState c.args.level.now.scope.now.sig (map formula_of c.args.level.now.scope.now.bodies) c.args.level.now.below (worked_in c.args.level.now.definitions.now) c.compile_case-in-len1-up.new.table c.compile_case-in-len1-up.new.known) (λ x. x) c.in_err-term.ensures.state)

pub compile_cases-returns-in_err-term-clause-unknown : goal.compile_cases-returns-in_err-term-clause-unknown
compile_cases-returns-in_err-term-clause-unknown t c =
    let p = err_from_is_err_and c.from_residual-in_err-term.result c.from_residual-in_err-term.ensures.1 in
    rw (p.1, p.2) (too_deep_by TermId TermId _ (λ call. IsUnknown c.compile_case-in-len1-up.new.known call) (λ call. IsUnknown c.compile_case-in-len1-up.new.known call) (λ call h. h) c.in_err-term.ensures.unknown)

pub compile_cases-returns-in_err-push-clause-outcome : goal.compile_cases-returns-in_err-push-clause-outcome
compile_cases-returns-in_err-push-clause-outcome t c =
    let rest = take (length c.loop-rest.rest.now - 1) (drop 1 c.loop-rest.rest.now) in
    let whole = cases_is c.loop-rest.rest.now rest c.case-item.result c.pattern_of-pattern.result (formula_of c.body_of-body.result.now) (rest-item c.loop-rest.rest.now c.case-item.result c.in-len1-up.len_at_least c.case-item.is) c.pattern_of-pattern.ensures.value c.body_of-body.ensures.value in
    let split = subst (λ (cs : Cases). Chooses c.args.level.now.scope.now.sig (map formula_of c.args.level.now.scope.now.bodies) c.args.level.now.below c.args.table.now c.loop-rest.table c.args.env.now c.args.matched (cases_of_trees c.args.cases.now) c.loop-rest.made.items (reverse c.loop-rest.earlier) cs) whole c.loop-rest.invariant.done in
    let test_is : c.tested.result ≡ tested_by c.args.level.now.scope.now.sig (reverse c.loop-rest.earlier) c.pattern_of-pattern.result (are_none (cases_of_trees rest)) = c.tested.ensures.value ∙ ap (tested_by c.args.level.now.scope.now.sig (reverse c.loop-rest.earlier) c.pattern_of-pattern.result) (c.is_empty.ensures ∙ none_is rest) in
    let p = err_from_is_err_and c.from_residual-in_err-push.result c.from_residual-in_err-push.ensures.1 in
    rw (p.1, p.2) (chooses_failed c.args.level.now.scope.now.sig (map formula_of c.args.level.now.scope.now.bodies) c.args.level.now.below c.args.table.now c.loop-rest.table c.args.env.now c.args.matched (cases_of_trees c.args.cases.now) c.loop-rest.made.items (reverse c.loop-rest.earlier) (with_case c.pattern_of-pattern.result (formula_of c.body_of-body.result.now) (cases_of_trees rest)) split c.compile_case-in-len1-up.new.table NoMemory (first_failed c.args.level.now.scope.now.sig (map formula_of c.args.level.now.scope.now.bodies) c.args.level.now.below c.args.env.now c.args.matched (reverse c.loop-rest.earlier) c.pattern_of-pattern.result (formula_of c.body_of-body.result.now) (cases_of_trees rest) c.in-Some.c (sym test_is ∙ c.in-Some.is) c.loop-rest.table c.make_test.new.table _ c.in_ok-condition.ensures.effect c.compile_case-in-len1-up.new.table (Ok c.in_ok-term.term) (rw c.loop-rest.invariant.same at c.in_ok-term.ensures.outcome) NoMemory (λ x. absurd (not_full NoMemory refl x))))

pub compile_cases-returns-in_err-push-2-clause-outcome : goal.compile_cases-returns-in_err-push-2-clause-outcome
compile_cases-returns-in_err-push-2-clause-outcome t c =
    let rest = take (length c.loop-rest.rest.now - 1) (drop 1 c.loop-rest.rest.now) in
    let whole = cases_is c.loop-rest.rest.now rest c.case-item.result c.pattern_of-pattern.result (formula_of c.body_of-body.result.now) (rest-item c.loop-rest.rest.now c.case-item.result c.in-len1-up.len_at_least c.case-item.is) c.pattern_of-pattern.ensures.value c.body_of-body.ensures.value in
    let split = subst (λ (cs : Cases). Chooses c.args.level.now.scope.now.sig (map formula_of c.args.level.now.scope.now.bodies) c.args.level.now.below c.args.table.now c.loop-rest.table c.args.env.now c.args.matched (cases_of_trees c.args.cases.now) c.loop-rest.made.items (reverse c.loop-rest.earlier) cs) whole c.loop-rest.invariant.done in
    let test_is : c.tested.result ≡ tested_by c.args.level.now.scope.now.sig (reverse c.loop-rest.earlier) c.pattern_of-pattern.result (are_none (cases_of_trees rest)) = c.tested.ensures.value ∙ ap (tested_by c.args.level.now.scope.now.sig (reverse c.loop-rest.earlier) c.pattern_of-pattern.result) (c.is_empty.ensures ∙ none_is rest) in
    let p = err_from_is_err_and c.from_residual-in_err-push-2.result c.from_residual-in_err-push-2.ensures.1 in
    rw (p.1, p.2) (chooses_failed c.args.level.now.scope.now.sig (map formula_of c.args.level.now.scope.now.bodies) c.args.level.now.below c.args.table.now c.loop-rest.table c.args.env.now c.args.matched (cases_of_trees c.args.cases.now) c.loop-rest.made.items (reverse c.loop-rest.earlier) (with_case c.pattern_of-pattern.result (formula_of c.body_of-body.result.now) (cases_of_trees rest)) split c.compile_case-in-len1-up.new.table NoMemory (first_failed c.args.level.now.scope.now.sig (map formula_of c.args.level.now.scope.now.bodies) c.args.level.now.below c.args.env.now c.args.matched (reverse c.loop-rest.earlier) c.pattern_of-pattern.result (formula_of c.body_of-body.result.now) (cases_of_trees rest) c.in-Some.c (sym test_is ∙ c.in-Some.is) c.loop-rest.table c.make_test.new.table _ c.in_ok-condition.ensures.effect c.compile_case-in-len1-up.new.table (Ok c.in_ok-term.term) (rw c.loop-rest.invariant.same at c.in_ok-term.ensures.outcome) NoMemory (λ x. absurd (not_full NoMemory refl x))))

pub compile_cases-loop-rest-preserved : goal.compile_cases-loop-rest-preserved
compile_cases-loop-rest-preserved t c =
    let rest = take (length c.loop-rest.rest.now - 1) (drop 1 c.loop-rest.rest.now) in
    let whole = cases_is c.loop-rest.rest.now rest c.case-item.result c.pattern_of-pattern.result (formula_of c.body_of-body.result.now) (rest-item c.loop-rest.rest.now c.case-item.result c.in-len1-up.len_at_least c.case-item.is) c.pattern_of-pattern.ensures.value c.body_of-body.ensures.value in
    let split = subst (λ (cs : Cases). Chooses c.args.level.now.scope.now.sig (map formula_of c.args.level.now.scope.now.bodies) c.args.level.now.below c.args.table.now c.loop-rest.table c.args.env.now c.args.matched (cases_of_trees c.args.cases.now) c.loop-rest.made.items (reverse c.loop-rest.earlier) cs) whole c.loop-rest.invariant.done in
    let test_is : c.tested.result ≡ tested_by c.args.level.now.scope.now.sig (reverse c.loop-rest.earlier) c.pattern_of-pattern.result (are_none (cases_of_trees rest)) = c.tested.ensures.value ∙ ap (tested_by c.args.level.now.scope.now.sig (reverse c.loop-rest.earlier) c.pattern_of-pattern.result) (c.is_empty.ensures ∙ none_is rest) in
    let noted = subst (λ (cs : Cases). CasesNoted c.args.level.now.scope.now.sig (worked_in c.args.level.now.definitions.now) (uses_below c.args.level.now.scope.now.sig (map formula_of c.args.level.now.scope.now.bodies) c.args.level.now.below) (reverse c.loop-rest.earlier) cs c.loop-rest.left.now) whole c.loop-rest.invariant.noted in
    let longer : (reverse c.push-in-len1-up.new.self) ≡ c.in-Some.c ∷ (reverse c.loop-rest.earlier) = ap (λ (xs : List CtorId). reverse xs) c.in_ok-push-2.ensures.pushed ∙ reverse-append c.loop-rest.earlier (c.in-Some.c ∷ []) in
    let next = chooses_more c.args.level.now.scope.now.sig (map formula_of c.args.level.now.scope.now.bodies) c.args.level.now.below c.args.table.now c.loop-rest.table c.args.env.now c.args.matched (cases_of_trees c.args.cases.now) c.loop-rest.made.items (reverse c.loop-rest.earlier) c.pattern_of-pattern.result (formula_of c.body_of-body.result.now) (cases_of_trees rest) split c.compile_case-in-len1-up.new.table c.in-Some.c (record { condition = c.in_ok-condition.condition; body = c.in_ok-term.term }) (case_chosen c.args.level.now.scope.now.sig (map formula_of c.args.level.now.scope.now.bodies) c.args.level.now.below c.args.env.now c.args.matched (reverse c.loop-rest.earlier) c.pattern_of-pattern.result (formula_of c.body_of-body.result.now) (cases_of_trees rest) c.in-Some.c (sym test_is ∙ c.in-Some.is) c.loop-rest.table c.make_test.new.table _ c.in_ok-condition.ensures.effect c.compile_case-in-len1-up.new.table (Ok c.in_ok-term.term) (rw c.loop-rest.invariant.same at c.in_ok-term.ensures.outcome) c.in_ok-condition.condition c.in_ok-term.term c.in_ok-condition.ensures.core refl) in
    record { done = subst (λ (gs : List Guarded). Chooses c.args.level.now.scope.now.sig (map formula_of c.args.level.now.scope.now.bodies) c.args.level.now.below c.args.table.now c.compile_case-in-len1-up.new.table c.args.env.now c.args.matched (cases_of_trees c.args.cases.now) gs (reverse c.push-in-len1-up.new.self) (cases_of_trees rest)) (sym c.in_ok-push.ensures.items) (subst (λ (e : List CtorId). Chooses c.args.level.now.scope.now.sig (map formula_of c.args.level.now.scope.now.bodies) c.args.level.now.below c.args.table.now c.compile_case-in-len1-up.new.table c.args.env.now c.args.matched (cases_of_trees c.args.cases.now) (c.loop-rest.made.items ++ (record { condition = c.in_ok-condition.condition; body = c.in_ok-term.term }) ∷ []) e (cases_of_trees rest)) (sym longer) next); state = c.in_ok-term.ensures.state; noted = subst (λ (e : List CtorId). CasesNoted c.args.level.now.scope.now.sig (worked_in c.args.level.now.definitions.now) (uses_below c.args.level.now.scope.now.sig (map formula_of c.args.level.now.scope.now.bodies) c.args.level.now.below) e (cases_of_trees rest) c.later_notes-left.result.now) (sym longer) (subst (CasesNoted c.args.level.now.scope.now.sig (worked_in c.args.level.now.definitions.now) (uses_below c.args.level.now.scope.now.sig (map formula_of c.args.level.now.scope.now.bodies) c.args.level.now.below) (c.in-Some.c ∷ (reverse c.loop-rest.earlier)) (cases_of_trees rest)) (sym c.later_notes-left.ensures.value) (later_cases c.args.level.now.scope.now.sig (worked_in c.args.level.now.definitions.now) (uses_below c.args.level.now.scope.now.sig (map formula_of c.args.level.now.scope.now.bodies) c.args.level.now.below) (reverse c.loop-rest.earlier) c.pattern_of-pattern.result c.in-Some.c (formula_of c.body_of-body.result.now) (cases_of_trees rest) c.loop-rest.left.now (sym test_is ∙ c.in-Some.is) noted)); same = c.in_ok-term.ensures.back ∙ c.loop-rest.invariant.same }

pub compile_cases-unreachable-requires : goal.compile_cases-unreachable-requires
compile_cases-unreachable-requires t c =
    chooses_none c.args.level.now.scope.now.sig (map formula_of c.args.level.now.scope.now.bodies) c.args.level.now.below c.args.table.now c.loop-rest.table c.args.env.now c.args.matched (cases_of_trees c.args.cases.now) c.loop-rest.made.items (reverse c.loop-rest.earlier) (subst (λ (cs : List Case). Chooses c.args.level.now.scope.now.sig (map formula_of c.args.level.now.scope.now.bodies) c.args.level.now.below c.args.table.now c.loop-rest.table c.args.env.now c.args.matched (cases_of_trees c.args.cases.now) c.loop-rest.made.items (reverse c.loop-rest.earlier) (cases_of_trees cs)) (nothing_left c.loop-rest.rest.now (omega (arith, c.in_default.len_below))) c.loop-rest.invariant.done)

pub compile_case-returns-in_err-bounds-clause-outcome : goal.compile_case-returns-in_err-bounds-clause-outcome
compile_case-returns-in_err-bounds-clause-outcome t c =
    let p = err_from_is_err_and c.from_residual.result c.from_residual.ensures.1 in
    rw (p.1, p.2) (compiles_nothing c.args.level.now.scope.now.sig (map formula_of c.args.level.now.scope.now.bodies) c.args.level.now.below c.args.table.now (bind (bound_by c.args.level.now.scope.now.sig c.args.pattern c.args.matched) c.args.env.now) (formula_of c.args.body.now) NoMemory refl)

pub compile_case-returns-in_err-bind-clause-outcome : goal.compile_case-returns-in_err-bind-clause-outcome
compile_case-returns-in_err-bind-clause-outcome t c =
    let p = err_from_is_err_and c.from_residual-in_err-bind.result c.from_residual-in_err-bind.ensures.1 in
    rw (p.1, p.2) (compiles_nothing c.args.level.now.scope.now.sig (map formula_of c.args.level.now.scope.now.bodies) c.args.level.now.below c.args.table.now (bind (bound_by c.args.level.now.scope.now.sig c.args.pattern c.args.matched) c.args.env.now) (formula_of c.args.body.now) NoMemory refl)

pub compile_case-compile_tree-result-requires : goal.compile_case-compile_tree-result-requires
compile_case-compile_tree-result-requires t c =
    let inner_is : c.bind.new.self ≡ bind (bound_by c.args.level.now.scope.now.sig c.args.pattern c.args.matched) c.args.env.now = c.in_ok-bind.ensures.bound ∙ ap (λ (xs : List Bound). bind xs c.args.env.now) (c.as_slice-bounds.ensures.value ∙ c.in_ok-bounds.ensures.bounds) in
    (omega (arith, c.decreases), (c.requires.state, (subst (λ (xs : List Bound). MayCompile c.args.level.now.scope.now.sig (map formula_of c.args.level.now.scope.now.bodies) c.args.table.now c.args.level.now.below xs (formula_of c.args.body.now)) (sym inner_is) c.requires.ready, c.requires.noted)))

pub compile_case-returns-clause-outcome : goal.compile_case-returns-clause-outcome
compile_case-returns-clause-outcome t c =
    let inner_is : c.bind.new.self ≡ bind (bound_by c.args.level.now.scope.now.sig c.args.pattern c.args.matched) c.args.env.now = c.in_ok-bind.ensures.bound ∙ ap (λ (xs : List Bound). bind xs c.args.env.now) (c.as_slice-bounds.ensures.value ∙ c.in_ok-bounds.ensures.bounds) in
    subst (λ (xs : List Bound). Compiles c.args.level.now.scope.now.sig (map formula_of c.args.level.now.scope.now.bodies) c.args.level.now.below c.args.table.now c.compile_tree-result.new.table xs (formula_of c.args.body.now) (ended c.compile_tree-result.result)) inner_is c.compile_tree-result.ensures.outcome

pub compile_case-returns-clause-waits : goal.compile_case-returns-clause-waits
compile_case-returns-clause-waits t c =
    let inner_is : c.bind.new.self ≡ bind (bound_by c.args.level.now.scope.now.sig c.args.pattern c.args.matched) c.args.env.now = c.in_ok-bind.ensures.bound ∙ ap (λ (xs : List Bound). bind xs c.args.env.now) (c.as_slice-bounds.ensures.value ∙ c.in_ok-bounds.ensures.bounds) in
    subst (λ (xs : List Bound). Defers c.args.level.now.scope.now.sig (map formula_of c.args.level.now.scope.now.bodies) (worked_in c.args.level.now.definitions.now) c.args.level.now.below c.args.table.now c.compile_tree-result.new.table xs (formula_of c.args.body.now) c.compile_tree-result.result) inner_is c.compile_tree-result.ensures.waits

pub compile_case-returns-clause-back : goal.compile_case-returns-clause-back
compile_case-returns-clause-back t c =
    let inner_is : c.bind.new.self ≡ bind (bound_by c.args.level.now.scope.now.sig c.args.pattern c.args.matched) c.args.env.now = c.in_ok-bind.ensures.bound ∙ ap (λ (xs : List Bound). bind xs c.args.env.now) (c.as_slice-bounds.ensures.value ∙ c.in_ok-bounds.ensures.bounds) in
    let long : length c.as_slice-bounds.result.now ≡ length (bound_by c.args.level.now.scope.now.sig c.args.pattern c.args.matched) = ap (λ (xs : List Bound). length xs) (c.as_slice-bounds.ensures.value ∙ c.in_ok-bounds.ensures.bounds) in
    c.unbind.ensures.rest ∙ ap (drop (length c.as_slice-bounds.result.now)) (c.compile_tree-result.ensures.back ∙ inner_is) ∙ ap (λ (k : ℕ). drop k (bind (bound_by c.args.level.now.scope.now.sig c.args.pattern c.args.matched) c.args.env.now)) long ∙ bind_left (bound_by c.args.level.now.scope.now.sig c.args.pattern c.args.matched) c.args.env.now

pub compile_plain-first_note-note-requires : goal.compile_plain-first_note-note-requires
compile_plain-first_note-note-requires t c = record { some = first_inside (IsNoted c.args.level.now.scope.now.sig (worked_in c.args.level.now.definitions.now) (uses_below c.args.level.now.scope.now.sig (map formula_of c.args.level.now.scope.now.bodies) c.args.level.now.below) (formula_of c.args.tree.now)) c.args.notes.now c.requires.noted.1 }

pub compile_choice-first_note-note-requires : goal.compile_choice-first_note-note-requires
compile_choice-first_note-note-requires t c = record { some = first_inside (IsNoted c.args.level.now.scope.now.sig (worked_in c.args.level.now.definitions.now) (uses_below c.args.level.now.scope.now.sig (map formula_of c.args.level.now.scope.now.bodies) c.args.level.now.below) (Ite (formula_of c.args.condition.now) (formula_of c.args.first.now) (formula_of c.args.second.now))) c.args.notes.now c.requires.noted.1 }

pub compile_let-first_note-note-requires : goal.compile_let-first_note-note-requires
compile_let-first_note-note-requires t c = record { some = first_inside (IsNoted c.args.level.now.scope.now.sig (worked_in c.args.level.now.definitions.now) (uses_below c.args.level.now.scope.now.sig (map formula_of c.args.level.now.scope.now.bodies) c.args.level.now.below) (Let (formulas_of_trees c.args.trees.now) (formula_of c.args.body.now))) c.args.notes.now c.requires.noted.1 }

pub compile_call-first_note-note-requires : goal.compile_call-first_note-note-requires
compile_call-first_note-note-requires t c = record { some = first_inside (IsNoted c.args.level.now.scope.now.sig (worked_in c.args.level.now.definitions.now) (uses_below c.args.level.now.scope.now.sig (map formula_of c.args.level.now.scope.now.bodies) c.args.level.now.below) (Def c.args.k (formulas_of_trees c.args.trees.now))) c.args.notes.now c.requires.noted.1 }

pub compile_match-first_note-note-requires : goal.compile_match-first_note-note-requires
compile_match-first_note-note-requires t c = record { some = first_inside (IsNoted c.args.level.now.scope.now.sig (worked_in c.args.level.now.definitions.now) (uses_below c.args.level.now.scope.now.sig (map formula_of c.args.level.now.scope.now.bodies) c.args.level.now.below) (Match (formula_of c.args.tree.now) (cases_of_trees c.args.cases.now))) c.args.notes.now c.requires.noted.1 }

pub compile_match-first_flag-occurs-requires : goal.compile_match-first_flag-occurs-requires
compile_match-first_flag-occurs-requires t c = record { some = match_inside c.args.level.now.scope.now.sig (worked_in c.args.level.now.definitions.now) (uses_below c.args.level.now.scope.now.sig (map formula_of c.args.level.now.scope.now.bodies) c.args.level.now.below) c.args.notes.now c.first_note-note.result.now c.first_note-note.ensures.value (formula_of c.args.tree.now) (cases_of_trees c.args.cases.now) c.bound.result.now c.bound.ensures.value c.requires.noted.1 }

pub compile_call-notes_at-body_notes-requires : goal.compile_call-notes_at-body_notes-requires
compile_call-notes_at-body_notes-requires t c = record { known = call_known c.args.level.now.scope.now.sig (worked_in c.args.level.now.definitions.now) (uses_below c.args.level.now.scope.now.sig (map formula_of c.args.level.now.scope.now.bodies) c.args.level.now.below) c.args.k (formulas_of_trees c.args.trees.now) c.args.notes.now c.requires.noted.1 }

pub compile_call-row_at-row-requires : goal.compile_call-row_at-row-requires
compile_call-row_at-row-requires t c = record { known = call_known c.args.level.now.scope.now.sig (worked_in c.args.level.now.definitions.now) (uses_below c.args.level.now.scope.now.sig (map formula_of c.args.level.now.scope.now.bodies) c.args.level.now.below) c.args.k (formulas_of_trees c.args.trees.now) c.args.notes.now c.requires.noted.1 }

-- ---- quantifiers

pub compile_quantified-compile_over-requires : goal.compile_quantified-compile_over-requires
compile_quantified-compile_over-requires t c =
    (omega (arith, c.decreases), (c.in-Some.ensures.counts, (c.requires.state, (c.requires.ready, c.requires.noted))))

pub compile_quantified-returns-in_err-finite-clause-outcome : goal.compile_quantified-returns-in_err-finite-clause-outcome
compile_quantified-returns-in_err-finite-clause-outcome t c =
    let p = err_from_is_err_and c.from_residual.result c.from_residual.ensures.1 in
    rw (p.1, p.2) (compiles_nothing c.args.level.now.scope.now.sig (map formula_of c.args.level.now.scope.now.bodies) c.args.level.now.below c.args.table.now c.args.env.now (Quantified c.args.quantifier c.args.sorts.now (formula_of c.args.body.now)) NoMemory refl)

pub compile_quantified-compile_over-requires-2 : goal.compile_quantified-compile_over-requires-2
compile_quantified-compile_over-requires-2 t c =
    let counts = subst (λ (known : List (List ℕ)). AllByRecursion (λ finite. AreCounts c.args.level.now.scope.now.sig finite) known) (sym c.one_finite-listed.ensures.value) (c.in_ok-finite.ensures.counts, tt) in
    (omega (arith, c.decreases), (c.in_ok-finite.ensures.counts, (c.requires.state, (c.requires.ready, ((c.requires.noted.0.0, counts), c.requires.noted.1)))))

pub compile_over-first_note-note-requires : goal.compile_over-first_note-note-requires
compile_over-first_note-note-requires t c =
    record { some = first_inside (IsNoted c.args.level.now.scope.now.sig (worked_in c.args.level.now.definitions.now) (uses_below c.args.level.now.scope.now.sig (map formula_of c.args.level.now.scope.now.bodies) c.args.level.now.below) (Quantified c.args.quantifier c.args.sorts.now (formula_of c.args.body.now))) c.args.notes.now c.requires.noted.1 }

pub compile_over-compile_choices-requires : goal.compile_over-compile_choices-requires
compile_over-compile_choices-requires t c =
    let all = over_children c.args.level.now.scope.now.sig (map formula_of c.args.level.now.scope.now.bodies) c.args.level.now.below c.args.table.now c.args.env.now (Quantified c.args.quantifier c.args.sorts.now (formula_of c.args.body.now)) (all_chosen c.args.level.now.scope.now.sig c.args.sorts.now (formula_of c.args.body.now)) c.operator_of-operator.result (subst (λ (o : Operator). IsOver c.args.level.now.scope.now.sig (map formula_of c.args.level.now.scope.now.bodies) c.args.level.now.below c.args.table.now c.args.env.now (Quantified c.args.quantifier c.args.sorts.now (formula_of c.args.body.now)) (all_chosen c.args.level.now.scope.now.sig c.args.sorts.now (formula_of c.args.body.now)) o) (sym c.operator_of-operator.ensures.value) (quantified_over c.args.level.now.scope.now.sig (map formula_of c.args.level.now.scope.now.bodies) c.args.level.now.below c.args.table.now c.args.env.now c.args.quantifier c.args.sorts.now (formula_of c.args.body.now))) c.requires.ready in
    let inner = quantified_inner c.args.level.now.scope.now.sig (worked_in c.args.level.now.definitions.now) (uses_below c.args.level.now.scope.now.sig (map formula_of c.args.level.now.scope.now.bodies) c.args.level.now.below) c.args.notes.now c.first_note-note.result.now c.first_note-note.ensures.value c.args.quantifier c.args.sorts.now (formula_of c.args.body.now) c.inner.result.now c.inner.ensures.value c.requires.noted.1 in (
      omega (arith, c.decreases),
      (
        c.operator_of-operator.ensures.value,
        (
          record {
            counts = c.requires.counts;
            sorts = c.requires.ready.3.sorted.0;
            flags = quantified_flags c.args.level.now.scope.now.sig (worked_in c.args.level.now.definitions.now) (uses_below c.args.level.now.scope.now.sig (map formula_of c.args.level.now.scope.now.bodies) c.args.level.now.below) c.args.notes.now c.first_note-note.result.now c.first_note-note.ensures.value c.args.quantifier c.args.sorts.now (formula_of c.args.body.now) c.bound.result.now c.bound.ensures.value c.requires.noted.1;
          },
          (c.requires.state, (c.requires.ready, (all, (c.requires.noted.0, inner)))),
        ),
      ),
    )

pub compile_over-returns-in_err-args-clause-outcome : goal.compile_over-returns-in_err-args-clause-outcome
compile_over-returns-in_err-args-clause-outcome t c =
    let p = err_from_is_err_and c.from_residual.result c.from_residual.ensures.1 in
    rw (p.1, p.2) (ended_by _ (λ (r : Result (List TermId) TermError). CompilesAll c.args.level.now.scope.now.sig (map formula_of c.args.level.now.scope.now.bodies) c.args.level.now.below c.args.table.now c.compile_choices.new.table c.args.env.now c.operator_of-operator.result (all_chosen c.args.level.now.scope.now.sig c.args.sorts.now (formula_of c.args.body.now)) r) (λ (r : Result TermId TermError). Compiles c.args.level.now.scope.now.sig (map formula_of c.args.level.now.scope.now.bodies) c.args.level.now.below c.args.table.now c.compile_choices.new.table c.args.env.now (Quantified c.args.quantifier c.args.sorts.now (formula_of c.args.body.now)) r) (λ e k. over_failed c.args.level.now.scope.now.sig (map formula_of c.args.level.now.scope.now.bodies) c.args.level.now.below c.args.table.now c.args.env.now (Quantified c.args.quantifier c.args.sorts.now (formula_of c.args.body.now)) (all_chosen c.args.level.now.scope.now.sig c.args.sorts.now (formula_of c.args.body.now)) c.operator_of-operator.result (subst (λ (o : Operator). IsOver c.args.level.now.scope.now.sig (map formula_of c.args.level.now.scope.now.bodies) c.args.level.now.below c.args.table.now c.args.env.now (Quantified c.args.quantifier c.args.sorts.now (formula_of c.args.body.now)) (all_chosen c.args.level.now.scope.now.sig c.args.sorts.now (formula_of c.args.body.now)) o) (sym c.operator_of-operator.ensures.value) (quantified_over c.args.level.now.scope.now.sig (map formula_of c.args.level.now.scope.now.bodies) c.args.level.now.below c.args.table.now c.args.env.now c.args.quantifier c.args.sorts.now (formula_of c.args.body.now))) c.compile_choices.new.table e k) c.in_err-args.ensures.outcome)

pub compile_over-returns-in_err-args-clause-waits : goal.compile_over-returns-in_err-args-clause-waits
compile_over-returns-in_err-args-clause-waits t c =
    let p = err_from_is_err_and c.from_residual.result c.from_residual.ensures.1 in
    rw (p.1, p.2) (too_deep_by (List TermId) TermId _ (λ call. ArePutOff c.args.level.now.scope.now.sig (map formula_of c.args.level.now.scope.now.bodies) (worked_in c.args.level.now.definitions.now) c.args.level.now.below c.args.table.now c.compile_choices.new.table c.args.env.now c.operator_of-operator.result (all_chosen c.args.level.now.scope.now.sig c.args.sorts.now (formula_of c.args.body.now)) call) (λ call. IsPutOff c.args.level.now.scope.now.sig (map formula_of c.args.level.now.scope.now.bodies) (worked_in c.args.level.now.definitions.now) c.args.level.now.below c.args.table.now c.compile_choices.new.table c.args.env.now (Quantified c.args.quantifier c.args.sorts.now (formula_of c.args.body.now)) call) (λ call k. over_waits c.args.level.now.scope.now.sig (map formula_of c.args.level.now.scope.now.bodies) c.args.level.now.below c.args.table.now c.args.env.now (Quantified c.args.quantifier c.args.sorts.now (formula_of c.args.body.now)) (all_chosen c.args.level.now.scope.now.sig c.args.sorts.now (formula_of c.args.body.now)) c.operator_of-operator.result (subst (λ (o : Operator). IsOver c.args.level.now.scope.now.sig (map formula_of c.args.level.now.scope.now.bodies) c.args.level.now.below c.args.table.now c.args.env.now (Quantified c.args.quantifier c.args.sorts.now (formula_of c.args.body.now)) (all_chosen c.args.level.now.scope.now.sig c.args.sorts.now (formula_of c.args.body.now)) o) (sym c.operator_of-operator.ensures.value) (quantified_over c.args.level.now.scope.now.sig (map formula_of c.args.level.now.scope.now.bodies) c.args.level.now.below c.args.table.now c.args.env.now c.args.quantifier c.args.sorts.now (formula_of c.args.body.now))) (worked_in c.args.level.now.definitions.now) c.compile_choices.new.table call k) c.in_err-args.ensures.waits)

pub compile_over-returns-in_err-args-clause-state : goal.compile_over-returns-in_err-args-clause-state
compile_over-returns-in_err-args-clause-state t c =
    let p = err_from_is_err_and c.from_residual.result c.from_residual.ensures.1 in
    rw (p.1, p.2) (goes_on_by (List TermId) TermId _ (IsState c.args.level.now.scope.now.sig (map formula_of c.args.level.now.scope.now.bodies) c.args.level.now.below (worked_in c.args.level.now.definitions.now) c.compile_choices.new.table c.compile_choices.new.known) (IsState c.args.level.now.scope.now.sig (map formula_of c.args.level.now.scope.now.bodies) c.args.level.now.below (worked_in c.args.level.now.definitions.now) c.compile_choices.new.table c.compile_choices.new.known) (λ k. k) c.in_err-args.ensures.state)

pub compile_over-returns-in_err-args-clause-unknown : goal.compile_over-returns-in_err-args-clause-unknown
compile_over-returns-in_err-args-clause-unknown t c =
    let p = err_from_is_err_and c.from_residual.result c.from_residual.ensures.1 in
    rw (p.1, p.2) (too_deep_by (List TermId) TermId _ (λ call. IsUnknown c.compile_choices.new.known call) (λ call. IsUnknown c.compile_choices.new.known call) (λ call h. h) c.in_err-args.ensures.unknown)

pub compile_over-combine-requires-clause-kept : goal.compile_over-combine-requires-clause-kept
compile_over-combine-requires-clause-kept t c =
    over_kept c.args.level.now.scope.now.sig (map formula_of c.args.level.now.scope.now.bodies) c.args.level.now.below c.args.table.now c.args.env.now (Quantified c.args.quantifier c.args.sorts.now (formula_of c.args.body.now)) (all_chosen c.args.level.now.scope.now.sig c.args.sorts.now (formula_of c.args.body.now)) c.operator_of-operator.result (subst (λ (o : Operator). IsOver c.args.level.now.scope.now.sig (map formula_of c.args.level.now.scope.now.bodies) c.args.level.now.below c.args.table.now c.args.env.now (Quantified c.args.quantifier c.args.sorts.now (formula_of c.args.body.now)) (all_chosen c.args.level.now.scope.now.sig c.args.sorts.now (formula_of c.args.body.now)) o) (sym c.operator_of-operator.ensures.value) (quantified_over c.args.level.now.scope.now.sig (map formula_of c.args.level.now.scope.now.bodies) c.args.level.now.below c.args.table.now c.args.env.now c.args.quantifier c.args.sorts.now (formula_of c.args.body.now))) c.compile_choices.new.table c.in_ok-args.args c.in_ok-args.ensures.outcome c.requires.ready

pub compile_over-combine-requires-clause-below : goal.compile_over-combine-requires-clause-below
compile_over-combine-requires-clause-below t c =
    over_below c.args.level.now.scope.now.sig (map formula_of c.args.level.now.scope.now.bodies) c.args.level.now.below c.args.table.now c.args.env.now (Quantified c.args.quantifier c.args.sorts.now (formula_of c.args.body.now)) (all_chosen c.args.level.now.scope.now.sig c.args.sorts.now (formula_of c.args.body.now)) c.operator_of-operator.result (subst (λ (o : Operator). IsOver c.args.level.now.scope.now.sig (map formula_of c.args.level.now.scope.now.bodies) c.args.level.now.below c.args.table.now c.args.env.now (Quantified c.args.quantifier c.args.sorts.now (formula_of c.args.body.now)) (all_chosen c.args.level.now.scope.now.sig c.args.sorts.now (formula_of c.args.body.now)) o) (sym c.operator_of-operator.ensures.value) (quantified_over c.args.level.now.scope.now.sig (map formula_of c.args.level.now.scope.now.bodies) c.args.level.now.below c.args.table.now c.args.env.now c.args.quantifier c.args.sorts.now (formula_of c.args.body.now))) c.compile_choices.new.table c.in_ok-args.args c.in_ok-args.ensures.outcome c.requires.ready

pub compile_over-combine-requires-clause-operands : goal.compile_over-combine-requires-clause-operands
compile_over-combine-requires-clause-operands t c =
    over_operands c.args.level.now.scope.now.sig (map formula_of c.args.level.now.scope.now.bodies) c.args.level.now.below c.args.table.now c.args.env.now (Quantified c.args.quantifier c.args.sorts.now (formula_of c.args.body.now)) (all_chosen c.args.level.now.scope.now.sig c.args.sorts.now (formula_of c.args.body.now)) c.operator_of-operator.result (subst (λ (o : Operator). IsOver c.args.level.now.scope.now.sig (map formula_of c.args.level.now.scope.now.bodies) c.args.level.now.below c.args.table.now c.args.env.now (Quantified c.args.quantifier c.args.sorts.now (formula_of c.args.body.now)) (all_chosen c.args.level.now.scope.now.sig c.args.sorts.now (formula_of c.args.body.now)) o) (sym c.operator_of-operator.ensures.value) (quantified_over c.args.level.now.scope.now.sig (map formula_of c.args.level.now.scope.now.bodies) c.args.level.now.below c.args.table.now c.args.env.now c.args.quantifier c.args.sorts.now (formula_of c.args.body.now))) c.compile_choices.new.table c.in_ok-args.args c.in_ok-args.ensures.outcome c.requires.ready

pub compile_over-returns-in_err-combine-clause-outcome : goal.compile_over-returns-in_err-combine-clause-outcome
compile_over-returns-in_err-combine-clause-outcome t c =
    let p = err_from_is_err_and c.from_residual-in_err-combine.result c.from_residual-in_err-combine.ensures.1 in
    rw (p.1, p.2) (over_made c.args.level.now.scope.now.sig (map formula_of c.args.level.now.scope.now.bodies) c.args.level.now.below c.args.table.now c.args.env.now (Quantified c.args.quantifier c.args.sorts.now (formula_of c.args.body.now)) (all_chosen c.args.level.now.scope.now.sig c.args.sorts.now (formula_of c.args.body.now)) c.operator_of-operator.result (subst (λ (o : Operator). IsOver c.args.level.now.scope.now.sig (map formula_of c.args.level.now.scope.now.bodies) c.args.level.now.below c.args.table.now c.args.env.now (Quantified c.args.quantifier c.args.sorts.now (formula_of c.args.body.now)) (all_chosen c.args.level.now.scope.now.sig c.args.sorts.now (formula_of c.args.body.now)) o) (sym c.operator_of-operator.ensures.value) (quantified_over c.args.level.now.scope.now.sig (map formula_of c.args.level.now.scope.now.bodies) c.args.level.now.below c.args.table.now c.args.env.now c.args.quantifier c.args.sorts.now (formula_of c.args.body.now))) c.compile_choices.new.table c.in_ok-args.args c.in_ok-args.ensures.outcome c.combine.new.table _ c.in_err-combine.ensures.core c.in_err-combine.ensures.effect c.in_err-combine.ensures.order)

pub compile_over-returns-clause-outcome : goal.compile_over-returns-clause-outcome
compile_over-returns-clause-outcome t c =
    over_made c.args.level.now.scope.now.sig (map formula_of c.args.level.now.scope.now.bodies) c.args.level.now.below c.args.table.now c.args.env.now (Quantified c.args.quantifier c.args.sorts.now (formula_of c.args.body.now)) (all_chosen c.args.level.now.scope.now.sig c.args.sorts.now (formula_of c.args.body.now)) c.operator_of-operator.result (subst (λ (o : Operator). IsOver c.args.level.now.scope.now.sig (map formula_of c.args.level.now.scope.now.bodies) c.args.level.now.below c.args.table.now c.args.env.now (Quantified c.args.quantifier c.args.sorts.now (formula_of c.args.body.now)) (all_chosen c.args.level.now.scope.now.sig c.args.sorts.now (formula_of c.args.body.now)) o) (sym c.operator_of-operator.ensures.value) (quantified_over c.args.level.now.scope.now.sig (map formula_of c.args.level.now.scope.now.bodies) c.args.level.now.below c.args.table.now c.args.env.now c.args.quantifier c.args.sorts.now (formula_of c.args.body.now))) c.compile_choices.new.table c.in_ok-args.args c.in_ok-args.ensures.outcome c.combine.new.table _ c.in_ok-combine.ensures.core c.in_ok-combine.ensures.effect c.in_ok-combine.ensures.order

pub compile_over-returns-clause-state : goal.compile_over-returns-clause-state
compile_over-returns-clause-state t c =
    state_within c.args.level.now.scope.now.sig (map formula_of c.args.level.now.scope.now.bodies) (worked_in c.args.level.now.definitions.now) c.args.level.now.below c.compile_choices.new.table c.combine.new.table c.compile_choices.new.known _ (combined c.args.level.now.scope.now.sig c.operator_of-operator.result (map (term_at c.compile_choices.new.table) c.in_ok-args.args)) c.in_ok-combine.ensures.effect c.in_ok-args.ensures.state

pub compile_choices-loop-k-init : goal.compile_choices-loop-k-init
compile_choices-loop-k-init t c =
    record {
      done = subst (λ (args : List TermId). Collects c.args.level.now.scope.now.sig (map formula_of c.args.level.now.scope.now.bodies) c.args.level.now.below c.args.table.now c.args.table.now c.args.env.now c.args.operator (all_chosen c.args.level.now.scope.now.sig c.args.over.now.sorts.now (formula_of c.args.over.now.body.now)) args None (all_chosen c.args.level.now.scope.now.sig c.args.over.now.sorts.now (formula_of c.args.over.now.body.now))) (sym c.new-args.ensures.empty) (collects_start c.args.level.now.scope.now.sig (map formula_of c.args.level.now.scope.now.bodies) c.args.level.now.below c.args.table.now c.args.env.now c.args.operator (all_chosen c.args.level.now.scope.now.sig c.args.over.now.sorts.now (formula_of c.args.over.now.body.now)) c.requires.all);
      chosen = subst (λ (args : List TermId). AreChosen c.args.level.now.scope.now.sig (map formula_of c.args.level.now.scope.now.bodies) c.args.table.now c.args.level.now.below c.args.env.now c.args.over.now.quantifier c.args.over.now.sorts.now (formula_of c.args.over.now.body.now) 0 args) (sym c.new-args.ensures.empty) (chosen_none c.args.level.now.scope.now.sig (map formula_of c.args.level.now.scope.now.bodies) c.args.table.now c.args.level.now.below c.args.env.now c.args.over.now.quantifier c.args.over.now.sorts.now (formula_of c.args.over.now.body.now) c.requires.ready);
      values = c.no_value_terms-values.ensures.right c.args.level.now.scope.now.sig c.args.table.now;
      state = c.requires.state;
      same = refl;
    }

pub compile_choices-compile_choice_of-requires : goal.compile_choices-compile_choice_of-requires
compile_choices-compile_choice_of-requires t c =
    let loop = c.loop-k in
    let within : loop.k < length (choices_of c.args.level.now.scope.now.sig c.args.over.now.sorts.now) = omega (arith, c.loop-k-test.true, c.choices_over-count.ensures.count) in
    let vs = slice_get-there (choices_of c.args.level.now.scope.now.sig c.args.over.now.sorts.now) loop.k within in
    let more = left_from (formula_of c.args.over.now.body.now) (choices_of c.args.level.now.scope.now.sig c.args.over.now.sorts.now) (loop.k + 1) in
    let split = subst (λ (fs : Formulas). Collects c.args.level.now.scope.now.sig (map formula_of c.args.level.now.scope.now.bodies) c.args.level.now.below c.args.table.now loop.table c.args.env.now c.args.operator (all_chosen c.args.level.now.scope.now.sig c.args.over.now.sorts.now (formula_of c.args.over.now.body.now)) loop.args loop.lead fs) (left_next (formula_of c.args.over.now.body.now) (choices_of c.args.level.now.scope.now.sig c.args.over.now.sorts.now) loop.k vs.0 vs.1) loop.invariant.done in
    let h = loop.invariant.chosen in
    let before = subst (λ (xs : List TermId). AreChosen c.args.level.now.scope.now.sig (map formula_of c.args.level.now.scope.now.bodies) loop.table c.args.level.now.below c.args.env.now c.args.over.now.quantifier c.args.over.now.sorts.now (formula_of c.args.over.now.body.now) loop.k xs) (sym c.as_slice-before.ensures.value) h in
    (omega (arith, c.decreases), (c.requires.over, (loop.invariant.values, (loop.invariant.state, (within, (rw loop.invariant.same (h.0, h.1, h.2, h.3), (rw loop.invariant.same before, c.requires.noted)))))))

pub compile_choices-returns-in_err-term-clause-outcome : goal.compile_choices-returns-in_err-term-clause-outcome
compile_choices-returns-in_err-term-clause-outcome t c =
    let loop = c.loop-k in
    let within : loop.k < length (choices_of c.args.level.now.scope.now.sig c.args.over.now.sorts.now) = omega (arith, c.loop-k-test.true, c.choices_over-count.ensures.count) in
    let vs = slice_get-there (choices_of c.args.level.now.scope.now.sig c.args.over.now.sorts.now) loop.k within in
    let more = left_from (formula_of c.args.over.now.body.now) (choices_of c.args.level.now.scope.now.sig c.args.over.now.sorts.now) (loop.k + 1) in
    let split = subst (λ (fs : Formulas). Collects c.args.level.now.scope.now.sig (map formula_of c.args.level.now.scope.now.bodies) c.args.level.now.below c.args.table.now loop.table c.args.env.now c.args.operator (all_chosen c.args.level.now.scope.now.sig c.args.over.now.sorts.now (formula_of c.args.over.now.body.now)) loop.args loop.lead fs) (left_next (formula_of c.args.over.now.body.now) (choices_of c.args.level.now.scope.now.sig c.args.over.now.sorts.now) loop.k vs.0 vs.1) loop.invariant.done in
    let p = err_from_is_err_and c.from_residual.result c.from_residual.ensures.1 in
    rw (p.1, p.2) (ended_by _ (λ (r : Result TermId TermError). Compiles c.args.level.now.scope.now.sig (map formula_of c.args.level.now.scope.now.bodies) c.args.level.now.below loop.table c.compile_choice_of.new.table c.args.env.now (chosen (formula_of c.args.over.now.body.now) vs.0) r) (λ (r : Result (List TermId) TermError). CompilesAll c.args.level.now.scope.now.sig (map formula_of c.args.level.now.scope.now.bodies) c.args.level.now.below c.args.table.now c.compile_choice_of.new.table c.args.env.now c.args.operator (all_chosen c.args.level.now.scope.now.sig c.args.over.now.sorts.now (formula_of c.args.over.now.body.now)) r) (λ e k. collects_failed c.args.level.now.scope.now.sig (map formula_of c.args.level.now.scope.now.bodies) c.args.level.now.below c.args.table.now loop.table c.args.env.now c.args.operator (all_chosen c.args.level.now.scope.now.sig c.args.over.now.sorts.now (formula_of c.args.over.now.body.now)) loop.args loop.lead (chosen (formula_of c.args.over.now.body.now) vs.0) more split c.compile_choice_of.new.table e k) (rw loop.invariant.same at (c.in_err-term.ensures.outcome vs.0 vs.1)))

pub compile_choices-returns-in_err-term-clause-waits : goal.compile_choices-returns-in_err-term-clause-waits
compile_choices-returns-in_err-term-clause-waits t c =
    let loop = c.loop-k in
    let within : loop.k < length (choices_of c.args.level.now.scope.now.sig c.args.over.now.sorts.now) = omega (arith, c.loop-k-test.true, c.choices_over-count.ensures.count) in
    let vs = slice_get-there (choices_of c.args.level.now.scope.now.sig c.args.over.now.sorts.now) loop.k within in
    let more = left_from (formula_of c.args.over.now.body.now) (choices_of c.args.level.now.scope.now.sig c.args.over.now.sorts.now) (loop.k + 1) in
    let split = subst (λ (fs : Formulas). Collects c.args.level.now.scope.now.sig (map formula_of c.args.level.now.scope.now.bodies) c.args.level.now.below c.args.table.now loop.table c.args.env.now c.args.operator (all_chosen c.args.level.now.scope.now.sig c.args.over.now.sorts.now (formula_of c.args.over.now.body.now)) loop.args loop.lead fs) (left_next (formula_of c.args.over.now.body.now) (choices_of c.args.level.now.scope.now.sig c.args.over.now.sorts.now) loop.k vs.0 vs.1) loop.invariant.done in
    let p = err_from_is_err_and c.from_residual.result c.from_residual.ensures.1 in
    rw (p.1, p.2) (too_deep_by TermId (List TermId) _ (λ call. IsPutOff c.args.level.now.scope.now.sig (map formula_of c.args.level.now.scope.now.bodies) (worked_in c.args.level.now.definitions.now) c.args.level.now.below loop.table c.compile_choice_of.new.table c.args.env.now (chosen (formula_of c.args.over.now.body.now) vs.0) call) (λ call. ArePutOff c.args.level.now.scope.now.sig (map formula_of c.args.level.now.scope.now.bodies) (worked_in c.args.level.now.definitions.now) c.args.level.now.below c.args.table.now c.compile_choice_of.new.table c.args.env.now c.args.operator (all_chosen c.args.level.now.scope.now.sig c.args.over.now.sorts.now (formula_of c.args.over.now.body.now)) call) (λ call k. collects_waits c.args.level.now.scope.now.sig (map formula_of c.args.level.now.scope.now.bodies) c.args.level.now.below c.args.table.now loop.table c.args.env.now c.args.operator (all_chosen c.args.level.now.scope.now.sig c.args.over.now.sorts.now (formula_of c.args.over.now.body.now)) loop.args loop.lead (chosen (formula_of c.args.over.now.body.now) vs.0) more split (worked_in c.args.level.now.definitions.now) c.compile_choice_of.new.table call k) (rw loop.invariant.same at (c.in_err-term.ensures.waits vs.0 vs.1)))

pub compile_choices-returns-in_err-term-clause-state : goal.compile_choices-returns-in_err-term-clause-state
compile_choices-returns-in_err-term-clause-state t c =
    let p = err_from_is_err_and c.from_residual.result c.from_residual.ensures.1 in
    rw (p.1, p.2) (goes_on_by TermId (List TermId) _ (IsState c.args.level.now.scope.now.sig (map formula_of c.args.level.now.scope.now.bodies) c.args.level.now.below (worked_in c.args.level.now.definitions.now) c.compile_choice_of.new.table c.compile_choice_of.new.known) (IsState c.args.level.now.scope.now.sig (map formula_of c.args.level.now.scope.now.bodies) c.args.level.now.below (worked_in c.args.level.now.definitions.now) c.compile_choice_of.new.table c.compile_choice_of.new.known) (λ k. k) c.in_err-term.ensures.state)

pub compile_choices-returns-in_err-term-clause-unknown : goal.compile_choices-returns-in_err-term-clause-unknown
compile_choices-returns-in_err-term-clause-unknown t c =
    let p = err_from_is_err_and c.from_residual.result c.from_residual.ensures.1 in
    rw (p.1, p.2) (too_deep_by TermId (List TermId) _ (λ call. IsUnknown c.compile_choice_of.new.known call) (λ call. IsUnknown c.compile_choice_of.new.known call) (λ call h. h) c.in_err-term.ensures.unknown)

pub compile_choices-follow-requires : goal.compile_choices-follow-requires
compile_choices-follow-requires t c =
    let loop = c.loop-k in
    let within : loop.k < length (choices_of c.args.level.now.scope.now.sig c.args.over.now.sorts.now) = omega (arith, c.loop-k-test.true, c.choices_over-count.ensures.count) in
    let vs = slice_get-there (choices_of c.args.level.now.scope.now.sig c.args.over.now.sorts.now) loop.k within in
    let more = left_from (formula_of c.args.over.now.body.now) (choices_of c.args.level.now.scope.now.sig c.args.over.now.sorts.now) (loop.k + 1) in
    let split = subst (λ (fs : Formulas). Collects c.args.level.now.scope.now.sig (map formula_of c.args.level.now.scope.now.bodies) c.args.level.now.below c.args.table.now loop.table c.args.env.now c.args.operator (all_chosen c.args.level.now.scope.now.sig c.args.over.now.sorts.now (formula_of c.args.over.now.body.now)) loop.args loop.lead fs) (left_next (formula_of c.args.over.now.body.now) (choices_of c.args.level.now.scope.now.sig c.args.over.now.sorts.now) loop.k vs.0 vs.1) loop.invariant.done in
    record { ready = collects_follows c.args.level.now.scope.now.sig (map formula_of c.args.level.now.scope.now.bodies) c.args.level.now.below c.args.table.now loop.table c.args.env.now c.args.operator (all_chosen c.args.level.now.scope.now.sig c.args.over.now.sorts.now (formula_of c.args.over.now.body.now)) loop.args loop.lead (chosen (formula_of c.args.over.now.body.now) vs.0) more split c.compile_choice_of.new.table c.in_ok-term.term (rw loop.invariant.same at (c.in_ok-term.ensures.outcome vs.0 vs.1)) }

pub compile_choices-returns-in_err-next-clause-outcome : goal.compile_choices-returns-in_err-next-clause-outcome
compile_choices-returns-in_err-next-clause-outcome t c =
    let loop = c.loop-k in
    let within : loop.k < length (choices_of c.args.level.now.scope.now.sig c.args.over.now.sorts.now) = omega (arith, c.loop-k-test.true, c.choices_over-count.ensures.count) in
    let vs = slice_get-there (choices_of c.args.level.now.scope.now.sig c.args.over.now.sorts.now) loop.k within in
    let more = left_from (formula_of c.args.over.now.body.now) (choices_of c.args.level.now.scope.now.sig c.args.over.now.sorts.now) (loop.k + 1) in
    let split = subst (λ (fs : Formulas). Collects c.args.level.now.scope.now.sig (map formula_of c.args.level.now.scope.now.bodies) c.args.level.now.below c.args.table.now loop.table c.args.env.now c.args.operator (all_chosen c.args.level.now.scope.now.sig c.args.over.now.sorts.now (formula_of c.args.over.now.body.now)) loop.args loop.lead fs) (left_next (formula_of c.args.over.now.body.now) (choices_of c.args.level.now.scope.now.sig c.args.over.now.sorts.now) loop.k vs.0 vs.1) loop.invariant.done in
    let test = last_test (formula_of c.args.over.now.body.now) (choices_of c.args.level.now.scope.now.sig c.args.over.now.sorts.now) loop.k c.choices_over-count.result (loop.k + 1 == c.choices_over-count.result) c.choices_over-count.ensures.count within refl in
    let p = err_from_is_err_and c.from_residual-in_err-next.result c.from_residual-in_err-next.ensures.1 in
    rw (p.1, p.2) (collects_broken c.args.level.now.scope.now.sig (map formula_of c.args.level.now.scope.now.bodies) c.args.level.now.below c.args.table.now loop.table c.args.env.now c.args.operator (all_chosen c.args.level.now.scope.now.sig c.args.over.now.sorts.now (formula_of c.args.over.now.body.now)) loop.args loop.lead (chosen (formula_of c.args.over.now.body.now) vs.0) more split c.compile_choice_of.new.table c.in_ok-term.term (rw loop.invariant.same at (c.in_ok-term.ensures.outcome vs.0 vs.1)) (loop.k + 1 == c.choices_over-count.result) test.0 test.1 c.follow.new.table _ c.in_err-next.ensures.outcome _ refl)

pub compile_choices-returns-in_err-push-clause-outcome : goal.compile_choices-returns-in_err-push-clause-outcome
compile_choices-returns-in_err-push-clause-outcome t c =
    let loop = c.loop-k in
    let within : loop.k < length (choices_of c.args.level.now.scope.now.sig c.args.over.now.sorts.now) = omega (arith, c.loop-k-test.true, c.choices_over-count.ensures.count) in
    let vs = slice_get-there (choices_of c.args.level.now.scope.now.sig c.args.over.now.sorts.now) loop.k within in
    let more = left_from (formula_of c.args.over.now.body.now) (choices_of c.args.level.now.scope.now.sig c.args.over.now.sorts.now) (loop.k + 1) in
    let split = subst (λ (fs : Formulas). Collects c.args.level.now.scope.now.sig (map formula_of c.args.level.now.scope.now.bodies) c.args.level.now.below c.args.table.now loop.table c.args.env.now c.args.operator (all_chosen c.args.level.now.scope.now.sig c.args.over.now.sorts.now (formula_of c.args.over.now.body.now)) loop.args loop.lead fs) (left_next (formula_of c.args.over.now.body.now) (choices_of c.args.level.now.scope.now.sig c.args.over.now.sorts.now) loop.k vs.0 vs.1) loop.invariant.done in
    let test = last_test (formula_of c.args.over.now.body.now) (choices_of c.args.level.now.scope.now.sig c.args.over.now.sorts.now) loop.k c.choices_over-count.result (loop.k + 1 == c.choices_over-count.result) c.choices_over-count.ensures.count within refl in
    let p = err_from_is_err_and c.from_residual-in_err-push.result c.from_residual-in_err-push.ensures.1 in
    let next = collects_more c.args.level.now.scope.now.sig (map formula_of c.args.level.now.scope.now.bodies) c.args.level.now.below c.args.table.now loop.table c.args.env.now c.args.operator (all_chosen c.args.level.now.scope.now.sig c.args.over.now.sorts.now (formula_of c.args.over.now.body.now)) loop.args loop.lead (chosen (formula_of c.args.over.now.body.now) vs.0) more split c.compile_choice_of.new.table c.in_ok-term.term (rw loop.invariant.same at (c.in_ok-term.ensures.outcome vs.0 vs.1)) (loop.k + 1 == c.choices_over-count.result) test.0 test.1 c.follow.new.table _ c.in_ok-next.ensures.outcome c.in_ok-next.next refl in
    rw (p.1, p.2) (collects_out c.args.level.now.scope.now.sig (map formula_of c.args.level.now.scope.now.bodies) c.args.level.now.below c.args.table.now c.follow.new.table c.args.env.now c.args.operator (all_chosen c.args.level.now.scope.now.sig c.args.over.now.sorts.now (formula_of c.args.over.now.body.now)) _ _ more next NoMemory refl)

pub compile_choices-loop-k-preserved : goal.compile_choices-loop-k-preserved
compile_choices-loop-k-preserved t c =
    let loop = c.loop-k in
    let within : loop.k < length (choices_of c.args.level.now.scope.now.sig c.args.over.now.sorts.now) = omega (arith, c.loop-k-test.true, c.choices_over-count.ensures.count) in
    let vs = slice_get-there (choices_of c.args.level.now.scope.now.sig c.args.over.now.sorts.now) loop.k within in
    let more = left_from (formula_of c.args.over.now.body.now) (choices_of c.args.level.now.scope.now.sig c.args.over.now.sorts.now) (loop.k + 1) in
    let split = subst (λ (fs : Formulas). Collects c.args.level.now.scope.now.sig (map formula_of c.args.level.now.scope.now.bodies) c.args.level.now.below c.args.table.now loop.table c.args.env.now c.args.operator (all_chosen c.args.level.now.scope.now.sig c.args.over.now.sorts.now (formula_of c.args.over.now.body.now)) loop.args loop.lead fs) (left_next (formula_of c.args.over.now.body.now) (choices_of c.args.level.now.scope.now.sig c.args.over.now.sorts.now) loop.k vs.0 vs.1) loop.invariant.done in
    let test = last_test (formula_of c.args.over.now.body.now) (choices_of c.args.level.now.scope.now.sig c.args.over.now.sorts.now) loop.k c.choices_over-count.result (loop.k + 1 == c.choices_over-count.result) c.choices_over-count.ensures.count within refl in
    let next = collects_more c.args.level.now.scope.now.sig (map formula_of c.args.level.now.scope.now.bodies) c.args.level.now.below c.args.table.now loop.table c.args.env.now c.args.operator (all_chosen c.args.level.now.scope.now.sig c.args.over.now.sorts.now (formula_of c.args.over.now.body.now)) loop.args loop.lead (chosen (formula_of c.args.over.now.body.now) vs.0) more split c.compile_choice_of.new.table c.in_ok-term.term (rw loop.invariant.same at (c.in_ok-term.ensures.outcome vs.0 vs.1)) (loop.k + 1 == c.choices_over-count.result) test.0 test.1 c.follow.new.table _ c.in_ok-next.ensures.outcome c.in_ok-next.next refl in
    let g = collects_grown c.args.level.now.scope.now.sig (map formula_of c.args.level.now.scope.now.bodies) c.args.level.now.below c.args.table.now loop.table c.args.env.now c.args.operator (all_chosen c.args.level.now.scope.now.sig c.args.over.now.sorts.now (formula_of c.args.over.now.body.now)) loop.args loop.lead (chosen (formula_of c.args.over.now.body.now) vs.0) more split c.compile_choice_of.new.table c.in_ok-term.term (rw loop.invariant.same at (c.in_ok-term.ensures.outcome vs.0 vs.1)) (loop.k + 1 == c.choices_over-count.result) test.0 test.1 c.follow.new.table _ c.in_ok-next.ensures.outcome in
    let made = chosen_more c.args.level.now.scope.now.sig (map formula_of c.args.level.now.scope.now.bodies) loop.table c.args.level.now.below c.args.env.now c.args.over.now.quantifier c.args.over.now.sorts.now (formula_of c.args.over.now.body.now) loop.k loop.args loop.invariant.chosen c.compile_choice_of.new.table vs.0 c.in_ok-term.term vs.1 (rw loop.invariant.same at (c.in_ok-term.ensures.outcome vs.0 vs.1)) in
    let kept = chosen_stay c.args.level.now.scope.now.sig (map formula_of c.args.level.now.scope.now.bodies) c.compile_choice_of.new.table c.args.level.now.below c.args.env.now c.args.over.now.quantifier c.args.over.now.sorts.now (formula_of c.args.over.now.body.now) (loop.k + 1) (loop.args ++ c.in_ok-term.term ∷ []) made c.follow.new.table g.0 g.1 in
    record {
      done = subst (λ (args : List TermId). Collects c.args.level.now.scope.now.sig (map formula_of c.args.level.now.scope.now.bodies) c.args.level.now.below c.args.table.now c.follow.new.table c.args.env.now c.args.operator (all_chosen c.args.level.now.scope.now.sig c.args.over.now.sorts.now (formula_of c.args.over.now.body.now)) args (Some c.in_ok-next.next) more) (sym c.in_ok-push.ensures.ok) next;
      chosen = subst (λ (args : List TermId). AreChosen c.args.level.now.scope.now.sig (map formula_of c.args.level.now.scope.now.bodies) c.follow.new.table c.args.level.now.below c.args.env.now c.args.over.now.quantifier c.args.over.now.sorts.now (formula_of c.args.over.now.body.now) (loop.k + 1) args) (sym c.in_ok-push.ensures.ok) kept;
      values = values_stay c.args.level.now.scope.now.sig c.compile_choice_of.new.table c.follow.new.table c.compile_choice_of.new.values g.0 g.1 c.in_ok-term.ensures.values;
      state = state_stays c.args.level.now.scope.now.sig (map formula_of c.args.level.now.scope.now.bodies) (worked_in c.args.level.now.definitions.now) c.args.level.now.below c.compile_choice_of.new.table c.follow.new.table c.compile_choice_of.new.known g.0 g.1 c.in_ok-term.ensures.state;
      same = c.in_ok-term.ensures.back ∙ loop.invariant.same;
    }

pub compile_choices-returns-clause-outcome : goal.compile_choices-returns-clause-outcome
compile_choices-returns-clause-outcome t c =
    let loop = c.loop-k in
    let all : length (choices_of c.args.level.now.scope.now.sig c.args.over.now.sorts.now) ≡ loop.k = omega (arith, c.loop-k-test.false, c.choices_over-count.ensures.count) in
    let h = subst (λ (fs : Formulas). Collects c.args.level.now.scope.now.sig (map formula_of c.args.level.now.scope.now.bodies) c.args.level.now.below c.args.table.now loop.table c.args.env.now c.args.operator (all_chosen c.args.level.now.scope.now.sig c.args.over.now.sorts.now (formula_of c.args.over.now.body.now)) loop.args loop.lead fs) (left_end (formula_of c.args.over.now.body.now) (choices_of c.args.level.now.scope.now.sig c.args.over.now.sorts.now) loop.k all) loop.invariant.done in
    collects_end c.args.level.now.scope.now.sig (map formula_of c.args.level.now.scope.now.bodies) c.args.level.now.below c.args.table.now loop.table c.args.env.now c.args.operator (all_chosen c.args.level.now.scope.now.sig c.args.over.now.sorts.now (formula_of c.args.over.now.body.now)) loop.args loop.lead h

pub compile_choice_of-first_like-first-requires : goal.compile_choice_of-first_like-first-requires
compile_choice_of-first_like-first-requires t c =
    let may : IsChoice c.args.level.now.scope.now.sig c.args.over.now.finite.now c.args.over.now.sorts.now c.args.k = record { counts_are = c.requires.over.counts; listable = c.requires.over.sorts.listable; few = c.requires.over.sorts.few; there = c.requires.there } in
    record { may = (c.args.level.now.scope.now.sig, may); long = ap length c.requires.over.flags ∙ listed_length (occurs c.args.level.now.scope.now.sig (uses_below c.args.level.now.scope.now.sig (map formula_of c.args.level.now.scope.now.bodies) c.args.level.now.below) (formula_of c.args.over.now.body.now)) (length c.args.over.now.sorts.now) }

pub compile_choice_of-earlier_term-requires : goal.compile_choice_of-earlier_term-requires
compile_choice_of-earlier_term-requires t c =
    let long = chosen_long c.args.level.now.scope.now.sig (map formula_of c.args.level.now.scope.now.bodies) c.args.table.now c.args.level.now.below c.args.env.now c.args.over.now.quantifier c.args.over.now.sorts.now (formula_of c.args.over.now.body.now) c.args.k c.args.before.now c.requires.before c.requires.there in
    record { inside = omega (arith, long, c.if-first-k.true) }

pub compile_choice_of-returns-then-first-k-clause-outcome : goal.compile_choice_of-returns-then-first-k-clause-outcome
compile_choice_of-returns-then-first-k-clause-outcome t c =
    let may : IsChoice c.args.level.now.scope.now.sig c.args.over.now.finite.now c.args.over.now.sorts.now c.args.k = record { counts_are = c.requires.over.counts; listable = c.requires.over.sorts.listable; few = c.requires.over.sorts.few; there = c.requires.there } in
    λ vs at.
    let like = c.first_like-first.ensures.like c.args.level.now.scope.now.sig vs may at in
    choice_again c.args.level.now.scope.now.sig (map formula_of c.args.level.now.scope.now.bodies) c.args.table.now c.args.level.now.below c.args.env.now c.args.over.now.quantifier c.args.over.now.sorts.now (formula_of c.args.over.now.body.now) c.args.k c.args.before.now c.requires.before c.first_like-first.result like.0 vs _ (omega (arith, c.if-first-k.true)) c.earlier_term.ensures.value like.1 at (subst (λ (bs : List Bool). AreLike bs like.0 vs) c.requires.over.flags like.2)

pub compile_choice_of-compile_choice_anew-requires : goal.compile_choice_of-compile_choice_anew-requires
compile_choice_of-compile_choice_anew-requires t c =
    let h = c.requires.before in
    (omega (arith, c.decreases), (c.requires.over, (c.requires.values, (c.requires.state, (c.requires.there, ((λ vs at. may_choose c.args.level.now.scope.now.sig (map formula_of c.args.level.now.scope.now.bodies) c.args.table.now c.args.level.now.below c.args.env.now c.args.over.now.quantifier c.args.over.now.sorts.now (formula_of c.args.over.now.body.now) c.requires.ready vs (Contains-from_slice_get (choices_of c.args.level.now.scope.now.sig c.args.over.now.sorts.now) c.args.k vs at)), c.requires.noted))))))

pub compile_choice_anew-chosen_bounds-requires-clause-kept : goal.compile_choice_anew-chosen_bounds-requires-clause-kept
compile_choice_anew-chosen_bounds-requires-clause-kept t c =
    let vs = slice_get-there (choices_of c.args.level.now.scope.now.sig c.args.over.now.sorts.now) c.args.k c.requires.there in
    (c.requires.ready vs.0 vs.1).3.setting.kept

pub compile_choice_anew-returns-in_err-bounds-clause-outcome : goal.compile_choice_anew-returns-in_err-bounds-clause-outcome
compile_choice_anew-returns-in_err-bounds-clause-outcome t c =
    let view = λ (vs : List ClosedValue) (at : slice_get (choices_of c.args.level.now.scope.now.sig c.args.over.now.sorts.now) c.args.k ≡ Some vs). let_view c.args.level.now.scope.now.sig (map formula_of c.args.level.now.scope.now.bodies) c.args.level.now.below c.args.table.now c.args.env.now c.args.over.now.flags.now (formulas_of_values vs) (formula_of c.args.over.now.body.now) (c.requires.over.flags ∙ ap (flags_below (occurs c.args.level.now.scope.now.sig (uses_below c.args.level.now.scope.now.sig (map formula_of c.args.level.now.scope.now.bodies) c.args.level.now.below) (formula_of c.args.over.now.body.now))) (sym (count_values vs ∙ choice_length c.args.level.now.scope.now.sig c.args.over.now.sorts.now vs (Contains-from_slice_get (choices_of c.args.level.now.scope.now.sig c.args.over.now.sorts.now) c.args.k vs at)))) in
    let p = err_from_is_err_and c.from_residual.result c.from_residual.ensures.1 in
    rw (p.1, p.2) (λ vs at. under_failed c.args.level.now.scope.now.sig (map formula_of c.args.level.now.scope.now.bodies) c.args.level.now.below c.args.level.now.below c.args.table.now c.args.env.now c.args.env.now c.args.over.now.flags.now (chosen (formula_of c.args.over.now.body.now) vs) (formulas_of_values vs) (formula_of c.args.over.now.body.now) (view vs at) c.chosen_bounds.new.table _ (binds_values c.args.level.now.scope.now.sig (map formula_of c.args.level.now.scope.now.bodies) c.args.level.now.below c.args.table.now c.chosen_bounds.new.table c.args.env.now c.args.over.now.flags.now vs _ (c.in_err-bounds.ensures.outcome vs at)))

pub compile_choice_anew-returns-in_err-bind-clause-outcome : goal.compile_choice_anew-returns-in_err-bind-clause-outcome
compile_choice_anew-returns-in_err-bind-clause-outcome t c =
    let view = λ (vs : List ClosedValue) (at : slice_get (choices_of c.args.level.now.scope.now.sig c.args.over.now.sorts.now) c.args.k ≡ Some vs). let_view c.args.level.now.scope.now.sig (map formula_of c.args.level.now.scope.now.bodies) c.args.level.now.below c.args.table.now c.args.env.now c.args.over.now.flags.now (formulas_of_values vs) (formula_of c.args.over.now.body.now) (c.requires.over.flags ∙ ap (flags_below (occurs c.args.level.now.scope.now.sig (uses_below c.args.level.now.scope.now.sig (map formula_of c.args.level.now.scope.now.bodies) c.args.level.now.below) (formula_of c.args.over.now.body.now))) (sym (count_values vs ∙ choice_length c.args.level.now.scope.now.sig c.args.over.now.sorts.now vs (Contains-from_slice_get (choices_of c.args.level.now.scope.now.sig c.args.over.now.sorts.now) c.args.k vs at)))) in
    let p = err_from_is_err_and c.from_residual-in_err-bind.result c.from_residual-in_err-bind.ensures.1 in
    rw (p.1, p.2) (λ vs at. under_out c.args.level.now.scope.now.sig (map formula_of c.args.level.now.scope.now.bodies) c.args.level.now.below c.args.level.now.below c.args.table.now c.args.env.now c.args.env.now c.args.over.now.flags.now (chosen (formula_of c.args.over.now.body.now) vs) (formulas_of_values vs) (formula_of c.args.over.now.body.now) (view vs at) c.chosen_bounds.new.table c.in_ok-bounds.bounds (binds_values c.args.level.now.scope.now.sig (map formula_of c.args.level.now.scope.now.bodies) c.args.level.now.below c.args.table.now c.chosen_bounds.new.table c.args.env.now c.args.over.now.flags.now vs _ (c.in_ok-bounds.ensures.outcome vs at)) NoMemory refl)

pub compile_choice_anew-compile_tree-result-requires : goal.compile_choice_anew-compile_tree-result-requires
compile_choice_anew-compile_tree-result-requires t c =
    let view = λ (vs : List ClosedValue) (at : slice_get (choices_of c.args.level.now.scope.now.sig c.args.over.now.sorts.now) c.args.k ≡ Some vs). let_view c.args.level.now.scope.now.sig (map formula_of c.args.level.now.scope.now.bodies) c.args.level.now.below c.args.table.now c.args.env.now c.args.over.now.flags.now (formulas_of_values vs) (formula_of c.args.over.now.body.now) (c.requires.over.flags ∙ ap (flags_below (occurs c.args.level.now.scope.now.sig (uses_below c.args.level.now.scope.now.sig (map formula_of c.args.level.now.scope.now.bodies) c.args.level.now.below) (formula_of c.args.over.now.body.now))) (sym (count_values vs ∙ choice_length c.args.level.now.scope.now.sig c.args.over.now.sorts.now vs (Contains-from_slice_get (choices_of c.args.level.now.scope.now.sig c.args.over.now.sorts.now) c.args.k vs at)))) in
    let inner_is : c.bind.new.self ≡ bind c.in_ok-bounds.bounds c.args.env.now = c.in_ok-bind.ensures.bound ∙ ap (λ (xs : List Bound). bind xs c.args.env.now) c.as_slice-bounds.ensures.value in
    let found = slice_get-there (choices_of c.args.level.now.scope.now.sig c.args.over.now.sorts.now) c.args.k c.requires.there in
    let vs = found.0 in
    let at = found.1 in
    let all = (binds_values c.args.level.now.scope.now.sig (map formula_of c.args.level.now.scope.now.bodies) c.args.level.now.below c.args.table.now c.chosen_bounds.new.table c.args.env.now c.args.over.now.flags.now vs _ (c.in_ok-bounds.ensures.outcome vs at)) in
    let g = (c.in_ok-bounds.ensures.outcome vs at).grown in
    (omega (arith, c.decreases), (state_stays c.args.level.now.scope.now.sig (map formula_of c.args.level.now.scope.now.bodies) (worked_in c.args.level.now.definitions.now) c.args.level.now.below c.args.table.now c.chosen_bounds.new.table c.args.known.now g.0 g.1 c.requires.state, (subst (λ (xs : List Bound). MayCompile c.args.level.now.scope.now.sig (map formula_of c.args.level.now.scope.now.bodies) c.chosen_bounds.new.table c.args.level.now.below xs (formula_of c.args.over.now.body.now)) (sym inner_is) (under_body c.args.level.now.scope.now.sig (map formula_of c.args.level.now.scope.now.bodies) c.args.level.now.below c.args.level.now.below c.args.table.now c.args.env.now c.args.env.now c.args.over.now.flags.now (chosen (formula_of c.args.over.now.body.now) vs) (formulas_of_values vs) (formula_of c.args.over.now.body.now) (view vs at) c.chosen_bounds.new.table c.in_ok-bounds.bounds all (c.requires.ready vs at)), c.requires.noted)))

pub compile_choice_anew-returns-clause-outcome : goal.compile_choice_anew-returns-clause-outcome
compile_choice_anew-returns-clause-outcome t c =
    let view = λ (vs : List ClosedValue) (at : slice_get (choices_of c.args.level.now.scope.now.sig c.args.over.now.sorts.now) c.args.k ≡ Some vs). let_view c.args.level.now.scope.now.sig (map formula_of c.args.level.now.scope.now.bodies) c.args.level.now.below c.args.table.now c.args.env.now c.args.over.now.flags.now (formulas_of_values vs) (formula_of c.args.over.now.body.now) (c.requires.over.flags ∙ ap (flags_below (occurs c.args.level.now.scope.now.sig (uses_below c.args.level.now.scope.now.sig (map formula_of c.args.level.now.scope.now.bodies) c.args.level.now.below) (formula_of c.args.over.now.body.now))) (sym (count_values vs ∙ choice_length c.args.level.now.scope.now.sig c.args.over.now.sorts.now vs (Contains-from_slice_get (choices_of c.args.level.now.scope.now.sig c.args.over.now.sorts.now) c.args.k vs at)))) in
    let inner_is : c.bind.new.self ≡ bind c.in_ok-bounds.bounds c.args.env.now = c.in_ok-bind.ensures.bound ∙ ap (λ (xs : List Bound). bind xs c.args.env.now) c.as_slice-bounds.ensures.value in
    λ vs at.
    under_made c.args.level.now.scope.now.sig (map formula_of c.args.level.now.scope.now.bodies) c.args.level.now.below c.args.level.now.below c.args.table.now c.args.env.now c.args.env.now c.args.over.now.flags.now (chosen (formula_of c.args.over.now.body.now) vs) (formulas_of_values vs) (formula_of c.args.over.now.body.now) (view vs at) c.chosen_bounds.new.table c.in_ok-bounds.bounds (binds_values c.args.level.now.scope.now.sig (map formula_of c.args.level.now.scope.now.bodies) c.args.level.now.below c.args.table.now c.chosen_bounds.new.table c.args.env.now c.args.over.now.flags.now vs _ (c.in_ok-bounds.ensures.outcome vs at)) c.compile_tree-result.new.table (ended c.compile_tree-result.result) (subst (λ (xs : List Bound). Compiles c.args.level.now.scope.now.sig (map formula_of c.args.level.now.scope.now.bodies) c.args.level.now.below c.chosen_bounds.new.table c.compile_tree-result.new.table xs (formula_of c.args.over.now.body.now) (ended c.compile_tree-result.result)) inner_is c.compile_tree-result.ensures.outcome)

pub compile_choice_anew-returns-clause-waits : goal.compile_choice_anew-returns-clause-waits
compile_choice_anew-returns-clause-waits t c =
    let view = λ (vs : List ClosedValue) (at : slice_get (choices_of c.args.level.now.scope.now.sig c.args.over.now.sorts.now) c.args.k ≡ Some vs). let_view c.args.level.now.scope.now.sig (map formula_of c.args.level.now.scope.now.bodies) c.args.level.now.below c.args.table.now c.args.env.now c.args.over.now.flags.now (formulas_of_values vs) (formula_of c.args.over.now.body.now) (c.requires.over.flags ∙ ap (flags_below (occurs c.args.level.now.scope.now.sig (uses_below c.args.level.now.scope.now.sig (map formula_of c.args.level.now.scope.now.bodies) c.args.level.now.below) (formula_of c.args.over.now.body.now))) (sym (count_values vs ∙ choice_length c.args.level.now.scope.now.sig c.args.over.now.sorts.now vs (Contains-from_slice_get (choices_of c.args.level.now.scope.now.sig c.args.over.now.sorts.now) c.args.k vs at)))) in
    let inner_is : c.bind.new.self ≡ bind c.in_ok-bounds.bounds c.args.env.now = c.in_ok-bind.ensures.bound ∙ ap (λ (xs : List Bound). bind xs c.args.env.now) c.as_slice-bounds.ensures.value in
    λ vs at.
    under_later c.args.level.now.scope.now.sig (map formula_of c.args.level.now.scope.now.bodies) c.args.level.now.below c.args.level.now.below c.args.table.now c.args.env.now c.args.env.now c.args.over.now.flags.now (chosen (formula_of c.args.over.now.body.now) vs) (formulas_of_values vs) (formula_of c.args.over.now.body.now) (view vs at) c.chosen_bounds.new.table c.in_ok-bounds.bounds (binds_values c.args.level.now.scope.now.sig (map formula_of c.args.level.now.scope.now.bodies) c.args.level.now.below c.args.table.now c.chosen_bounds.new.table c.args.env.now c.args.over.now.flags.now vs _ (c.in_ok-bounds.ensures.outcome vs at)) (worked_in c.args.level.now.definitions.now) (omega arith) c.compile_tree-result.new.table c.compile_tree-result.result (subst (λ (xs : List Bound). Defers c.args.level.now.scope.now.sig (map formula_of c.args.level.now.scope.now.bodies) (worked_in c.args.level.now.definitions.now) c.args.level.now.below c.chosen_bounds.new.table c.compile_tree-result.new.table xs (formula_of c.args.over.now.body.now) c.compile_tree-result.result) inner_is c.compile_tree-result.ensures.waits)

pub compile_choice_anew-returns-clause-values : goal.compile_choice_anew-returns-clause-values
compile_choice_anew-returns-clause-values t c =
    let view = λ (vs : List ClosedValue) (at : slice_get (choices_of c.args.level.now.scope.now.sig c.args.over.now.sorts.now) c.args.k ≡ Some vs). let_view c.args.level.now.scope.now.sig (map formula_of c.args.level.now.scope.now.bodies) c.args.level.now.below c.args.table.now c.args.env.now c.args.over.now.flags.now (formulas_of_values vs) (formula_of c.args.over.now.body.now) (c.requires.over.flags ∙ ap (flags_below (occurs c.args.level.now.scope.now.sig (uses_below c.args.level.now.scope.now.sig (map formula_of c.args.level.now.scope.now.bodies) c.args.level.now.below) (formula_of c.args.over.now.body.now))) (sym (count_values vs ∙ choice_length c.args.level.now.scope.now.sig c.args.over.now.sorts.now vs (Contains-from_slice_get (choices_of c.args.level.now.scope.now.sig c.args.over.now.sorts.now) c.args.k vs at)))) in
    let inner_is : c.bind.new.self ≡ bind c.in_ok-bounds.bounds c.args.env.now = c.in_ok-bind.ensures.bound ∙ ap (λ (xs : List Bound). bind xs c.args.env.now) c.as_slice-bounds.ensures.value in
    let found = slice_get-there (choices_of c.args.level.now.scope.now.sig c.args.over.now.sorts.now) c.args.k c.requires.there in
    let vs = found.0 in
    let at = found.1 in
    let all = (binds_values c.args.level.now.scope.now.sig (map formula_of c.args.level.now.scope.now.bodies) c.args.level.now.below c.args.table.now c.chosen_bounds.new.table c.args.env.now c.args.over.now.flags.now vs _ (c.in_ok-bounds.ensures.outcome vs at)) in
    let may = subst (λ (xs : List Bound). MayCompile c.args.level.now.scope.now.sig (map formula_of c.args.level.now.scope.now.bodies) c.chosen_bounds.new.table c.args.level.now.below xs (formula_of c.args.over.now.body.now)) (sym inner_is) (under_body c.args.level.now.scope.now.sig (map formula_of c.args.level.now.scope.now.bodies) c.args.level.now.below c.args.level.now.below c.args.table.now c.args.env.now c.args.env.now c.args.over.now.flags.now (chosen (formula_of c.args.over.now.body.now) vs) (formulas_of_values vs) (formula_of c.args.over.now.body.now) (view vs at) c.chosen_bounds.new.table c.in_ok-bounds.bounds all (c.requires.ready vs at)) in
    let g = compiles_grown c.args.level.now.scope.now.sig (map formula_of c.args.level.now.scope.now.bodies) c.args.level.now.below c.chosen_bounds.new.table c.compile_tree-result.new.table c.bind.new.self (formula_of c.args.over.now.body.now) (ended c.compile_tree-result.result) may c.compile_tree-result.ensures.outcome in
    where_ok c.compile_tree-result.result (AreValueTerms c.args.level.now.scope.now.sig c.compile_tree-result.new.table c.chosen_bounds.new.terms) (values_stay c.args.level.now.scope.now.sig c.chosen_bounds.new.table c.compile_tree-result.new.table c.chosen_bounds.new.terms g.0 g.1 c.in_ok-bounds.ensures.right)

pub compile_choice_anew-returns-clause-back : goal.compile_choice_anew-returns-clause-back
compile_choice_anew-returns-clause-back t c =
    let inner_is : c.bind.new.self ≡ bind c.in_ok-bounds.bounds c.args.env.now = c.in_ok-bind.ensures.bound ∙ ap (λ (xs : List Bound). bind xs c.args.env.now) c.as_slice-bounds.ensures.value in
    let long : length c.as_slice-bounds.result.now ≡ length c.in_ok-bounds.bounds = ap (λ (xs : List Bound). length xs) c.as_slice-bounds.ensures.value in
    c.unbind.ensures.rest ∙ ap (drop (length c.as_slice-bounds.result.now)) (c.compile_tree-result.ensures.back ∙ inner_is) ∙ ap (λ (k : ℕ). drop k (bind c.in_ok-bounds.bounds c.args.env.now)) long ∙ bind_left c.in_ok-bounds.bounds c.args.env.now
