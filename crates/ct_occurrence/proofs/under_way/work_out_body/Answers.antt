use Rattle.std.proofs.Common.{map, refl, arith}
use Rattle.ct_formulas.specs.TreeFormula.{formula_of}
use Rattle.ct_formulas.specs.Occurrence.{uses_below}
use Rattle.ct_occurrence.specs.Marks.{worked_in}
use Rattle.ct_occurrence.proofs.WorkingLemmas.{all_below, work_may, put_right}
use Rattle.ct_occurrence.proofs.under_way.work_out_body.Goals as goal

pub def_args-count-requires : goal.def_args-count-requires
def_args-count-requires c =
    let long = all_below c.args.bodies.now _ refl in
    record { inside = omega (arith, c.requires.inside, long, c.requires.sound.one_each) }

pub occurring-requires : goal.occurring-requires
occurring-requires c =
    let d = c.args.sig.now in
    let bodies = map formula_of c.args.bodies.now in
    let k = c.args.k in
    let body = formula_of c.body_at-body.result.now in
    record { may = (uses_below d bodies k.0, k.0, work_may d bodies k body c.body_at-body.ensures.value c.requires.sound c.def_args-count.result.now c.def_args-count.ensures.value (worked_in c.args.definitions.now) c.requires.right (c.requires.named body c.body_at-body.ensures.value)) }

pub returns-clause-right : goal.returns-clause-right
returns-clause-right c =
    let d = c.args.sig.now in
    let bodies = map formula_of c.args.bodies.now in
    let k = c.args.k in
    let body = formula_of c.body_at-body.result.now in
    let may = work_may d bodies k body c.body_at-body.ensures.value c.requires.sound c.def_args-count.result.now c.def_args-count.ensures.value (worked_in c.args.definitions.now) c.requires.right (c.requires.named body c.body_at-body.ensures.value) in
    put_right d bodies k body c.body_at-body.ensures.value c.requires.sound c.def_args-count.result.now c.def_args-count.ensures.value (worked_in c.args.definitions.now) (worked_in c.put.new.definitions) c.in_ok-worked.worked c.in_ok-put.ensures.only c.requires.right
    (c.in_ok-worked.ensures.flags (uses_below d bodies k.0) k.0 may)
    (c.in_ok-worked.ensures.noted (uses_below d bodies k.0) k.0 may)

pub returns-clause-only : goal.returns-clause-only
returns-clause-only c = (c.in_ok-worked.worked, c.in_ok-put.ensures.only)
