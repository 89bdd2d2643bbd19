use Rattle.std.proofs.Common.{◌≡◌, ℕ, refl, sym, inl}
use Rattle.ct_sexpr.specs.View.{expression_of}
use Rattle.std.proofs.lemmas.Bool.{true≢false}
use Rattle.ct_sorts.specs.Marks.{CanCut}
use Rattle.ct_sorts.specs.Declarations.{Declarations, Function, with_function}
use Rattle.ct_sorts.specs.Refusals.{symbol_taken}
use Rattle.ct_command.specs.Seen.{all_seen}
use Rattle.ct_stack.specs.Elaborations.{declared_function}
use Rattle.ct_stack.specs.Refusal.{IsFunctionRefusal}
use Rattle.ct_stack.proofs.BackLemmas.{in_any_error, back_accepted, back_refused, back_given, back_unchanged}
use Rattle.ct_stack.proofs.CauseLemmas.{at_code}
use Rattle.ct_stack.proofs.function.declare_function.Goals as goal

pub returns-then-is_unavailable-clause-refused : goal.returns-then-is_unavailable-clause-refused
returns-then-is_unavailable-clause-refused c =
    at_code (IsFunctionRefusal c.args.scope.now.sig c.args.name.now (all_seen c.args.args.now) (expression_of c.args.sort.now)) symbol_taken
    (inl (refl, c.if-is_unavailable.ensures.unavailable.0 refl))

pub declare_available-declared-requires : goal.declare_available-declared-requires
declare_available-declared-requires c = record { available = λ h. true≢false (sym (c.if-is_unavailable.ensures.unavailable.1 h)) }

pub or_back-requires : goal.or_back-requires
or_back-requires c =
    let mid = c.declare_available-declared.new.scope.sig in
    record { can_cut = in_any_error c.declare_available-declared.result (CanCut mid c.mark-before.result) (c.mark-before.ensures.lasting mid c.declare_available-declared.ensures.grown) }

pub returns-clause-ok : goal.returns-clause-ok
returns-clause-ok c =
    back_given c.or_back.result c.declare_available-declared.result c.or_back.ensures.same (λ d. declared_function d c.args.name.now (all_seen c.args.args.now) (expression_of c.args.sort.now)) c.args.scope.now.sig c.or_back.new.sig c.declare_available-declared.new.scope.sig (λ new later f. new ≡ with_function later f) c.declare_available-declared.ensures.ok c.or_back.ensures.ok

pub returns-clause-accepted : goal.returns-clause-accepted
returns-clause-accepted c = back_accepted c.or_back.result c.declare_available-declared.result c.or_back.ensures.same ((n : ℕ) → IsFunctionRefusal c.args.scope.now.sig c.args.name.now (all_seen c.args.args.now) (expression_of c.args.sort.now) n → ⊥) c.declare_available-declared.ensures.accepted

pub returns-clause-refused : goal.returns-clause-refused
returns-clause-refused c = back_refused c.or_back.result c.declare_available-declared.result c.or_back.ensures.same (IsFunctionRefusal c.args.scope.now.sig c.args.name.now (all_seen c.args.args.now) (expression_of c.args.sort.now)) c.declare_available-declared.ensures.refused

pub returns-clause-unchanged : goal.returns-clause-unchanged
returns-clause-unchanged c = back_unchanged c.or_back.result c.declare_available-declared.result c.or_back.ensures.same c.stack_theorems.ensures.hold c.or_back.new.sig c.declare_available-declared.new.scope.sig c.args.scope.now.sig c.mark-before.result c.mark-before.ensures.lengths c.declare_available-declared.ensures.grown c.or_back.ensures.back
