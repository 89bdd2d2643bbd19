use Rattle.std.proofs.Common.{◌≡◌, ℕ, map, Result, Ok, Err, OnErr, refl, sym, inl}
use Rattle.ct_sexpr.specs.View.{expression_of}
use Rattle.std.proofs.lemmas.Bool.{true≢false}
use Rattle.ct_sorts.specs.Marks.{CanCut}
use Rattle.ct_sorts.specs.Declarations.{Declarations}
use Rattle.ct_formulas.specs.TreeFormula.{formula_of}
use Rattle.ct_stack.specs.Held.{IsDefined}
use Rattle.ct_sorts.specs.Refusals.{symbol_taken}
use Rattle.ct_command.specs.Seen.{named_seen}
use Rattle.ct_stack.specs.Elaborations.{defined_function}
use Rattle.ct_stack.specs.Refusal.{IsDefinitionRefusal}
use Rattle.ct_stack.proofs.BackLemmas.{in_any_error, back_accepted, back_refused, back_given, back_unchanged, back_error}
use Rattle.ct_stack.proofs.CauseLemmas.{at_code}
use Rattle.ct_stack.proofs.define.define_function.Goals as goal

pub returns-then-is_unavailable-clause-refused : goal.returns-then-is_unavailable-clause-refused
returns-then-is_unavailable-clause-refused c =
    at_code (IsDefinitionRefusal c.args.scope.now.sig c.args.name.now (map named_seen c.args.params.now) (expression_of c.args.sort.now) (expression_of c.args.term.now)) symbol_taken
    (inl (refl, c.if-is_unavailable.ensures.unavailable.0 refl))

pub define_available-defined-requires : goal.define_available-defined-requires
define_available-defined-requires c = record { available = λ h. true≢false (sym (c.if-is_unavailable.ensures.unavailable.1 h)) }

pub or_back-requires : goal.or_back-requires
or_back-requires c =
    let mid = c.define_available-defined.new.scope.sig in
    record { can_cut = in_any_error c.define_available-defined.result (CanCut mid c.mark-before.result) (c.mark-before.ensures.lasting mid c.define_available-defined.ensures.grown) }

pub returns-clause-ok : goal.returns-clause-ok
returns-clause-ok c =
    back_given c.or_back.result c.define_available-defined.result c.or_back.ensures.same (λ d. defined_function d c.args.name.now (map named_seen c.args.params.now) (expression_of c.args.sort.now) (expression_of c.args.term.now)) c.args.scope.now.sig c.or_back.new.sig c.define_available-defined.new.scope.sig (λ new later f. IsDefined later new (map formula_of c.args.scope.now.bodies) (map formula_of c.define_available-defined.new.scope.bodies) f) c.define_available-defined.ensures.ok c.or_back.ensures.ok

pub returns-clause-accepted : goal.returns-clause-accepted
returns-clause-accepted c = back_accepted c.or_back.result c.define_available-defined.result c.or_back.ensures.same ((n : ℕ) → IsDefinitionRefusal c.args.scope.now.sig c.args.name.now (map named_seen c.args.params.now) (expression_of c.args.sort.now) (expression_of c.args.term.now) n → ⊥) c.define_available-defined.ensures.accepted

pub returns-clause-refused : goal.returns-clause-refused
returns-clause-refused c = back_refused c.or_back.result c.define_available-defined.result c.or_back.ensures.same (IsDefinitionRefusal c.args.scope.now.sig c.args.name.now (map named_seen c.args.params.now) (expression_of c.args.sort.now) (expression_of c.args.term.now)) c.define_available-defined.ensures.refused

both : {T E : Type 0} (r : Result T E) (P Q : Type 0) → OnErr r P → OnErr r Q → OnErr r (P × Q)
both (Ok x) P Q p q = tt
both (Err e) P Q p q = (p, q)

pub returns-clause-unchanged : goal.returns-clause-unchanged
returns-clause-unchanged c =
    let old = c.args.scope.now in
    let mid = c.define_available-defined.new.scope in
    let q = c.or_back.result in
    let r = c.define_available-defined.result in
    both q (c.or_back.new.sig ≡ old.sig) (mid.bodies ≡ old.bodies)
    (back_unchanged q r c.or_back.ensures.same c.stack_theorems.ensures.hold c.or_back.new.sig mid.sig old.sig c.mark-before.result c.mark-before.ensures.lengths c.define_available-defined.ensures.grown c.or_back.ensures.back)
    (back_error q r c.or_back.ensures.same (mid.bodies ≡ old.bodies) c.define_available-defined.ensures.bodies)
