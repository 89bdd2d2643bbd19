use Rattle.std.proofs.Common.{◌++◌, [], ◌∷◌, Option, map, refl, sym, subst, arith}
use Rattle.ct_sorts.specs.declared.ids.DefId.{DefId}
use Rattle.ct_formulas.specs.TreeFormula.{formula_of}
use Rattle.ct_occurrence.specs.Marks.{worked_in}
use Rattle.ct_occurrence.specs.UnderWay.{AreLeftOut, IsWorkStep}
use Rattle.ct_occurrence.proofs.WorkingLemmas.{all_below}
use Rattle.ct_occurrence.proofs.UnderWayLemmas.{next_inside, last_inside, waits_for, is_worked_out, all_worked_out}
use Rattle.ct_occurrence.proofs.under_way.go_on.Goals as goal

pub wait_for-requires-clause-inside : goal.wait_for-requires-clause-inside
wait_for-requires-clause-inside c =
    let found = subst (λ (o : Option DefId). AreLeftOut (worked_in c.args.definitions.now) c.args.frame.left.items c.next_unknown.new.left.items o) c.in-Some.is c.in_ok-found.ensures.left in
    let inside = next_inside c.args.sig.now (map formula_of c.args.bodies.now) (worked_in c.args.definitions.now) c.args.stack.now.items c.args.frame c.next_unknown.new.left.items c.in-Some.name c.requires.under_way found in
    let long = all_below c.args.bodies.now _ refl in
    omega (arith, inside, long)

pub work_out_body-requires-clause-inside : goal.work_out_body-requires-clause-inside
work_out_body-requires-clause-inside c =
    let inside = last_inside c.args.sig.now (map formula_of c.args.bodies.now) (worked_in c.args.definitions.now) c.args.stack.now.items c.args.frame c.requires.under_way in
    let long = all_below c.args.bodies.now _ refl in
    omega (arith, inside, long)

pub work_out_body-requires-clause-named : goal.work_out_body-requires-clause-named
work_out_body-requires-clause-named c =
    let found = subst (λ (o : Option DefId). AreLeftOut (worked_in c.args.definitions.now) c.args.frame.left.items c.next_unknown.new.left.items o) c.in_default.is c.in_ok-found.ensures.left in
    all_worked_out c.args.sig.now (map formula_of c.args.bodies.now) (worked_in c.args.definitions.now) c.args.stack.now.items c.args.frame c.next_unknown.new.left.items c.requires.under_way found

pub returns-in-Some : goal.returns-in-Some
returns-in-Some c =
    let pushed = c.in_ok-wait_for.ensures.pushed in
    let d = c.args.sig.now in
    let bodies = map formula_of c.args.bodies.now in
    let rows = worked_in c.args.definitions.now in
    let before = c.args.stack.now.items in
    let found = subst (λ (o : Option DefId). AreLeftOut rows c.args.frame.left.items c.next_unknown.new.left.items o) c.in-Some.is c.in_ok-found.ensures.left in
    record { step = subst (IsWorkStep d bodies rows rows (before ++ c.args.frame ∷ [])) (sym pushed.1) (waits_for d bodies rows before c.args.frame _ pushed.0 refl c.requires.under_way c.in-Some.name found pushed.2) }

pub returns : goal.returns
returns c =
    let only = c.in_ok-work_out_body.ensures.only in
    record { step = is_worked_out c.args.sig.now (map formula_of c.args.bodies.now) (worked_in c.args.definitions.now) (worked_in c.work_out_body.new.definitions) c.args.stack.now.items c.args.frame c.requires.under_way only.0 only.1 c.in_ok-work_out_body.ensures.right }
