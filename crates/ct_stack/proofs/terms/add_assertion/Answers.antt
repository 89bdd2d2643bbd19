use Rattle.std.proofs.Common.{List, [], ◌∷◌, ◌++◌, map, refl, sym, ap, ◌∙◌}
use Rattle.std.proofs.lemmas.List.{append-nil}
use Rattle.ct_sorts.specs.Declarations.{bool_sort}
use Rattle.ct_terms.specs.declared.ids.TermId.{TermId}
use Rattle.ct_formulas.specs.declared.tree.Tree.{Tree}
use Rattle.ct_formulas.specs.TreeFormula.{formula_of}
use Rattle.ct_stack.specs.Stack.{cores, core}
use Rattle.ct_stack.specs.Held.{context_in}
use Rattle.ct_stack.proofs.HeldLemmas.{held_asserted}
use Rattle.ct_stack.proofs.StackLemmas.{held_same, cut_back}
use Rattle.ct_stack.proofs.AssertLemmas.{held_put, one_longer, no_longer}
use Rattle.ct_stack.proofs.TableLemmas.{few_terms}
use Rattle.ct_stack.proofs.terms.add_assertion.Goals as goal

pub core_number-requires : goal.core_number-requires
core_number-requires c = record { sound = c.requires.held.sound.bodies; sorted = (bool_sort, c.requires.sorted); table = c.requires.held.in_table.exact.sorted }

pub returns-in_err-reserve-clause-held : goal.returns-in_err-reserve-clause-held
returns-in_err-reserve-clause-held c =
    held_same c.args.scope.now c.reserve.new.asserts.items c.args.asserts.now.items c.args.table.now c.args.table.now c.reserve.new.numbers.items c.args.numbers.now.items c.reserve.ensures.asserts refl c.reserve.ensures.numbers c.requires.held

pub returns-in-Ok-clause-held : goal.returns-in-Ok-clause-held
returns-in-Ok-clause-held c =
    let ctx = context_in c.args.scope.now in
    let formulas = map formula_of c.args.asserts.now.items in
    held_put c.args.scope.now c.put.new.asserts.items c.args.asserts.now.items c.args.tree c.core_number.new.table c.put.new.numbers.items c.args.numbers.now.items c.in-Ok.number
    (c.put.ensures.asserts ∙ ap (λ (ts : List Tree). ts ++ c.args.tree ∷ []) c.reserve.ensures.asserts)
    (c.put.ensures.numbers ∙ ap (λ (ns : List TermId). ns ++ c.in-Ok.number ∷ []) c.reserve.ensures.numbers)
    (held_asserted c.stack_theorems.ensures.hold ctx formulas (formula_of c.args.tree) c.args.table.now c.core_number.new.table c.args.numbers.now.items c.in-Ok.number c.sorts.ensures.consistent c.requires.held c.requires.sorted (c.in-Ok.ensures.made (cores ctx formulas) c.requires.held.in_table.exact) c.in-Ok.ensures.stands c.in-Ok.ensures.grown c.len.ensures.ordered)

pub returns-in-Ok-clause-ok : goal.returns-in-Ok-clause-ok
returns-in-Ok-clause-ok c = c.put.ensures.asserts ∙ ap (λ (ts : List Tree). ts ++ c.args.tree ∷ []) c.reserve.ensures.asserts

pub returns-in-Ok-clause-fits : goal.returns-in-Ok-clause-fits
returns-in-Ok-clause-fits c =
    let ctx = context_in c.args.scope.now in
    let formulas = map formula_of c.args.asserts.now.items in
    few_terms c.args.scope.now.sig (cores ctx formulas ++ core ctx (formula_of c.args.tree) ∷ []) c.core_number.new.table (c.in-Ok.ensures.made (cores ctx formulas) c.requires.held.in_table.exact) c.in-Ok.ensures.few

pub returns-in-Err-clause-held : goal.returns-in-Err-clause-held
returns-in-Err-clause-held c =
    held_same c.args.scope.now c.reserve.new.asserts.items c.args.asserts.now.items c.cut_to.new.self c.args.table.now c.reserve.new.numbers.items c.args.numbers.now.items c.reserve.ensures.asserts (c.cut_to.ensures.first ∙ cut_back c.args.table.now c.core_number.new.table c.len-before.result c.len-before.ensures.count c.in-Err.ensures.grown) c.reserve.ensures.numbers c.requires.held

pub returns-in-Err-clause-refused : goal.returns-in-Err-clause-refused
returns-in-Err-clause-refused c = λ n e.
    let ctx = context_in c.args.scope.now in
    let formulas = map formula_of c.args.asserts.now.items in
    let h = c.in-Err.ensures.refused n cc in
    (h.0, h.1 (cores ctx formulas) c.requires.held.in_table.exact)

pub returns-in_err-reserve-clause-grown : goal.returns-in_err-reserve-clause-grown
returns-in_err-reserve-clause-grown c = ([], sym (append-nil c.args.table.now))

pub returns-in_err-reserve-clause-longer : goal.returns-in_err-reserve-clause-longer
returns-in_err-reserve-clause-longer c = no_longer c.reserve.new.numbers.items c.args.numbers.now.items c.reserve.ensures.numbers

pub returns-in-Ok-clause-grown : goal.returns-in-Ok-clause-grown
returns-in-Ok-clause-grown c = c.in-Ok.ensures.grown

pub returns-in-Ok-clause-longer : goal.returns-in-Ok-clause-longer
returns-in-Ok-clause-longer c = one_longer c.put.new.numbers.items c.reserve.new.numbers.items c.args.numbers.now.items c.in-Ok.number c.put.ensures.numbers c.reserve.ensures.numbers

pub returns-in-Err-clause-grown : goal.returns-in-Err-clause-grown
returns-in-Err-clause-grown c = ([], c.cut_to.ensures.first ∙ cut_back c.args.table.now c.core_number.new.table c.len-before.result c.len-before.ensures.count c.in-Err.ensures.grown ∙ sym (append-nil c.args.table.now))

pub returns-in-Err-clause-longer : goal.returns-in-Err-clause-longer
returns-in-Err-clause-longer c = no_longer c.reserve.new.numbers.items c.args.numbers.now.items c.reserve.ensures.numbers

pub returns-in-Err-clause-table : goal.returns-in-Err-clause-table
returns-in-Err-clause-table c = c.cut_to.ensures.first ∙ cut_back c.args.table.now c.core_number.new.table c.len-before.result c.len-before.ensures.count c.in-Err.ensures.grown

pub returns-in-Err-clause-numbers : goal.returns-in-Err-clause-numbers
returns-in-Err-clause-numbers c = c.reserve.ensures.numbers
