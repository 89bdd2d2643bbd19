use Rattle.std.proofs.Common.{◌-◌, length, map, take, drop, get_or, subst, arith}
use Rattle.ct_lemmas.proofs.Prefixes.{nothing_left, rest-step}
use Rattle.ct_sorts.specs.declared.ids.DefId.{DefId}
use Rattle.ct_formulas.specs.TreeFormula.{formula_of}
use Rattle.ct_occurrence.specs.Marks.{worked_in}
use Rattle.ct_occurrence.proofs.WorkingLemmas.{WorksOut, works_start, works_below, works_next, works_end}
use Rattle.ct_occurrence.proofs.needed.work_out_all.Goals as goal

abbrev no_definition : DefId
no_definition = record { 0 = 0 }

pub loop-rest-init : goal.loop-rest-init
loop-rest-init c = works_start c.args.sig.now (map formula_of c.args.bodies.now) c.args.below (worked_in c.args.definitions.now) c.args.names.now c.requires.right c.requires.below

pub work_out-requires-clause-inside : goal.work_out-requires-clause-inside
work_out-requires-clause-inside c =
    let loop = c.loop-rest in
    let others = take (length loop.rest.now - 1) (drop 1 loop.rest.now) in
    let split = subst (WorksOut c.args.sig.now (map formula_of c.args.bodies.now) c.args.below (worked_in c.args.definitions.now) (worked_in loop.definitions) c.args.names.now) (rest-step loop.rest.now no_definition c.in-len1-up.len_at_least) loop.invariant in
    let less = works_below c.args.sig.now (map formula_of c.args.bodies.now) c.args.below (worked_in c.args.definitions.now) (worked_in loop.definitions) c.args.names.now (get_or loop.rest.now 0 no_definition) others split in
    omega (arith, less, c.requires.within)

pub work_out-requires-clause-right : goal.work_out-requires-clause-right
work_out-requires-clause-right c =
    let loop = c.loop-rest in
    let split = subst (WorksOut c.args.sig.now (map formula_of c.args.bodies.now) c.args.below (worked_in c.args.definitions.now) (worked_in loop.definitions) c.args.names.now) (rest-step loop.rest.now no_definition c.in-len1-up.len_at_least) loop.invariant in
    split.right

pub loop-rest-preserved : goal.loop-rest-preserved
loop-rest-preserved c =
    let loop = c.loop-rest in
    let others = take (length loop.rest.now - 1) (drop 1 loop.rest.now) in
    let split = subst (WorksOut c.args.sig.now (map formula_of c.args.bodies.now) c.args.below (worked_in c.args.definitions.now) (worked_in loop.definitions) c.args.names.now) (rest-step loop.rest.now no_definition c.in-len1-up.len_at_least) loop.invariant in
    works_next c.args.sig.now (map formula_of c.args.bodies.now) c.args.below (worked_in c.args.definitions.now) (worked_in loop.definitions) c.args.names.now (get_or loop.rest.now 0 no_definition) others split (worked_in c.work_out.new.definitions) c.in_ok-work_out.ensures.right c.in_ok-work_out.ensures.stay c.in_ok-work_out.ensures.known

pub returns-clause-known : goal.returns-clause-known
returns-clause-known c =
    let loop = c.loop-rest in
    let none = nothing_left loop.rest.now (omega (arith, c.in_default.len_below)) in
    works_end c.args.sig.now (map formula_of c.args.bodies.now) c.args.below (worked_in c.args.definitions.now) (worked_in loop.definitions) c.args.names.now (subst (WorksOut c.args.sig.now (map formula_of c.args.bodies.now) c.args.below (worked_in c.args.definitions.now) (worked_in loop.definitions) c.args.names.now) none loop.invariant)
