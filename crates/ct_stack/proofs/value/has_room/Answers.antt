use Rattle.std.proofs.Common.{◌++◌, map, length, ap, arith}
use Rattle.std.proofs.lemmas.List.{length-append}
use Rattle.ct_terms.specs.Terms.{Terms}
use Rattle.ct_formulas.specs.TreeFormula.{formula_of}
use Rattle.ct_stack.specs.Stack.{cores}
use Rattle.ct_stack.specs.Held.{context_in}
use Rattle.ct_stack.proofs.TableLemmas.{few_terms}
use Rattle.ct_stack.proofs.GrowingLemmas.{two_at_least}
use Rattle.ct_stack.proofs.value.has_room.Goals as goal

pub cut_to-requires-clause-truths : goal.cut_to-requires-clause-truths
cut_to-requires-clause-truths c = omega (arith, two_at_least c.args.table.now c.len-before.ensures.begins, c.len-before.ensures.count)

pub cut_to-requires-clause-within : goal.cut_to-requires-clause-within
cut_to-requires-clause-within c =
    let grown = c.core_numbers-numbers.ensures.grown in
    omega (arith, c.len-before.ensures.count, ap (λ (ts : Terms). length ts) grown.1, length-append c.args.table.now grown.0)

pub returns-clause-accepted : goal.returns-clause-accepted
returns-clause-accepted c =
    λ roots of.
    few_terms c.args.scope.now.sig (roots ++ cores (context_in c.args.scope.now) (map formula_of c.args.trees.now)) c.core_numbers-numbers.new.table (c.in_ok-numbers.ensures.made roots of) c.in_ok-numbers.ensures.few
