use Rattle.std.proofs.Common.{◌≡◌, ◌<◌, length, subst, arith}
use Rattle.std.proofs.lemmas.Grind.{common_steps}
use Rattle.std.proofs.lemmas.Option.{slice_get_within}
use Rattle.ct_sorts.specs.Declarations.{Declarations}
use Rattle.ct_sorts.specs.Consistent.{IsConsistent}
use Rattle.ct_eval.specs.Truth.{Holds, IsFirstUntrue}
use Rattle.ct_stack.specs.Stack.{in_force}
use Rattle.ct_step.specs.State.{context_of}
use Rattle.ct_model_audit.proofs.TruthLemmas.{satisfied, first_untrue}
use Rattle.ct_model_audit.proofs.audit.judge_assertions.Goals as goal

pub number_of-requires : goal.number_of-requires
number_of-requires c =
    let first = rw c.in-Some.is at c.in_ok-untrue.ensures.position in
    let within : c.in-Some.place < length c.core_terms.result.1.now = slice_get_within c.core_terms.result.1.now c.in-Some.place first.assert first.stands in
    record { inside = first_of (omega (arith, within), grind (arith, common_steps, within)) }

pub returns-in-None : goal.returns-in-None
returns-in-None c =
    let state = c.args.session.now.state in
    let same : c.declared-sig.result.now ≡ (context_of state).declarations = c.declared-sig.ensures.value in
    let table = c.core_terms.result.0.now in
    let numbers = c.core_terms.result.1.now in
    let consistent = subst IsConsistent same c.sorts.ensures.consistent in
    let all = rw c.in-None.is at c.in_ok-untrue.ensures.position in
    record {
      judged = satisfied c.meanings.ensures.assertions (context_of state) (in_force state.stack) table numbers c.args.interp.now consistent c.core_terms.ensures.held c.requires.proper
          (subst (λ (d : Declarations). Holds d c.args.interp.now table numbers) same all);
    }

pub returns-in-Some : goal.returns-in-Some
returns-in-Some c =
    let state = c.args.session.now.state in
    let same : c.declared-sig.result.now ≡ (context_of state).declarations = c.declared-sig.ensures.value in
    let table = c.core_terms.result.0.now in
    let numbers = c.core_terms.result.1.now in
    let consistent = subst IsConsistent same c.sorts.ensures.consistent in
    let first = rw c.in-Some.is at c.in_ok-untrue.ensures.position in
    record {
      judged = (
        c.in-Some.place,
        c.number_of.ensures.number,
        first_untrue c.meanings.ensures.assertions (context_of state) (in_force state.stack) table numbers c.args.interp.now consistent c.core_terms.ensures.held c.requires.proper c.in-Some.place
            (subst (λ (d : Declarations). IsFirstUntrue d c.args.interp.now table numbers c.in-Some.place) same first),
      );
    }
