use Rattle.std.proofs.Common.{◌≡◌, ℕ, List, [], map, not, option_to_list, refl, sym, ap, subst, ◌∙◌}
use Rattle.std.specs.List.{AllByRecursion}
use Rattle.std.proofs.lemmas.Result.{err_from_is_err_and}
use Rattle.ct_terms.specs.declared.error.TermError.TheVariants.{NoMemory}
use Rattle.ct_formulas.specs.TreeFormula.{formula_of}
use Rattle.ct_finite.specs.Counts.{AreCounts}
use Rattle.ct_occurrence.specs.Marks.{worked_in}
use Rattle.ct_compile.proofs.AttemptLemmas.{emptied, way_ready, way_out, way_failed, way_next, way_fewer, way_more, way_end}
use Rattle.ct_compile.proofs.deferring.compile_deferring.Goals.{in-Ok+else-is_none, in-Err-TooDeep+in_ok-push-in-Err-TooDeep}
use Rattle.ct_compile.proofs.deferring.compile_deferring.Goals as goal

pub attempt-requires-clause-ready : goal.attempt-requires-clause-ready
attempt-requires-clause-ready c =
    let d = c.args.scope.now.sig in
    let bodies = map formula_of c.args.scope.now.bodies in
    let rows = worked_in c.args.definitions.now in
    let n = c.args.below in
    let t = formula_of c.args.tree.now in
    let start = c.args.table.now in
    let may = c.requires.ready in
    let loop = c.loop in
    way_ready d bodies rows n t start may loop.table loop.known loop.calls.items loop.invariant

pub returns-then-is_none : goal.returns-then-is_none
returns-then-is_none c =
    let d = c.args.scope.now.sig in
    let bodies = map formula_of c.args.scope.now.bodies in
    let rows = worked_in c.args.definitions.now in
    let n = c.args.below in
    let t = formula_of c.args.tree.now in
    let start = c.args.table.now in
    let may = c.requires.ready in
    let loop = c.loop in
    let empty : c.as_slice.result.now ≡ [] = emptied c.as_slice.result.now _ c.pop.result (c.is_none.ensures ∙ ap not c.if-is_none.true) c.as_slice.ensures.len c.pop.ensures.variant.1 in
    let next = way_next d bodies rows n t start may loop.table loop.known loop.calls.items loop.invariant c.attempt.new.table c.attempt.new.known _ c.in-Ok.ensures.effect c.in-Ok.ensures.makes c.in-Ok.ensures.state in
    record { outcome = way_end d bodies rows n t start may c.attempt.new.table c.attempt.new.known loop.calls.items next c.in-Ok.term (c.in-Ok.ensures.all empty) }

pub returns-in-Err-Failed : goal.returns-in-Err-Failed
returns-in-Err-Failed c =
    let d = c.args.scope.now.sig in
    let bodies = map formula_of c.args.scope.now.bodies in
    let rows = worked_in c.args.definitions.now in
    let n = c.args.below in
    let t = formula_of c.args.tree.now in
    let start = c.args.table.now in
    let may = c.requires.ready in
    let loop = c.loop in
    record { outcome = way_failed d bodies rows n t start may loop.table loop.known loop.calls.items loop.invariant c.attempt.new.table c.in-Err-Failed.error (rw c.in-Err-Failed.field-0-is at c.in-Err-Failed.ensures.effect) }

pub returns-in_err-push-in-Err-TooDeep : goal.returns-in_err-push-in-Err-TooDeep
returns-in_err-push-in-Err-TooDeep c =
    let d = c.args.scope.now.sig in
    let bodies = map formula_of c.args.scope.now.bodies in
    let rows = worked_in c.args.definitions.now in
    let n = c.args.below in
    let t = formula_of c.args.tree.now in
    let start = c.args.table.now in
    let may = c.requires.ready in
    let loop = c.loop in
    let next = way_next d bodies rows n t start may loop.table loop.known loop.calls.items loop.invariant c.attempt.new.table c.attempt.new.known _ (rw c.in-Err-TooDeep.field-0-is at c.in-Err-TooDeep.ensures.effect) (rw c.in-Err-TooDeep.field-0-is at c.in-Err-TooDeep.ensures.makes) (rw c.in-Err-TooDeep.field-0-is at c.in-Err-TooDeep.ensures.state) in
    let p = err_from_is_err_and c.from_residual.result c.from_residual.ensures.1 in
    record { outcome = rw p.1 (way_out d bodies rows n t start may c.attempt.new.table c.attempt.new.known loop.calls.items next p.0 p.2) }

pub loop-preserved : goal.loop-preserved
loop-preserved c =
    let d = c.args.scope.now.sig in
    let bodies = map formula_of c.args.scope.now.bodies in
    let rows = worked_in c.args.definitions.now in
    let n = c.args.below in
    let t = formula_of c.args.tree.now in
    let start = c.args.table.now in
    let may = c.requires.ready in
    let loop = c.loop in
    elim c.match-attempt.branch [
      | in-Ok+else-is_none w ↦
          let next = way_next d bodies rows n t start may loop.table loop.known loop.calls.items loop.invariant c.attempt.new.table c.attempt.new.known _ w.in-Ok.ensures.effect w.in-Ok.ensures.makes w.in-Ok.ensures.state in
          rw w.calls-is (way_fewer d bodies rows n t start may c.attempt.new.table c.attempt.new.known loop.calls.items next w.pop.new.self.items (option_to_list w.pop.result) w.pop.ensures.items)
      | in-Err-TooDeep+in_ok-push-in-Err-TooDeep w ↦
          let next = way_next d bodies rows n t start may loop.table loop.known loop.calls.items loop.invariant c.attempt.new.table c.attempt.new.known _ (rw w.in-Err-TooDeep.field-0-is at w.in-Err-TooDeep.ensures.effect) (rw w.in-Err-TooDeep.field-0-is at w.in-Err-TooDeep.ensures.makes) (rw w.in-Err-TooDeep.field-0-is at w.in-Err-TooDeep.ensures.state) in
          rw (w.calls-is, w.in_ok-push-in-Err-TooDeep.ensures.items) (way_more d bodies rows n t start may c.attempt.new.table c.attempt.new.known loop.calls.items next w.in-Err-TooDeep.call (rw w.in-Err-TooDeep.field-0-is at w.in-Err-TooDeep.ensures.waits))
    ]

pub returns : goal.returns
returns c =
    let d = c.args.scope.now.sig in
    let bodies = map formula_of c.args.scope.now.bodies in
    let rows = worked_in c.args.definitions.now in
    let n = c.args.below in
    let t = formula_of c.args.tree.now in
    let start = c.args.table.now in
    let may = c.requires.ready in
    let loop = c.loop in
    record { outcome = way_out d bodies rows n t start may loop.table loop.known loop.calls.items loop.invariant NoMemory refl }

pub attempt-requires-clause-noted : goal.attempt-requires-clause-noted
attempt-requires-clause-noted c =
    let none = subst (λ (known : List (List ℕ)). AllByRecursion (λ finite. AreCounts c.args.scope.now.sig finite) known) (sym c.no_finite.ensures.value) tt in
    ((c.requires.noted.0, none), c.requires.noted.1)
