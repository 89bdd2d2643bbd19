use Rattle.std.proofs.lemmas.Option.{IfSome_then}
use Rattle.ct_explain.proofs.ReasonLemmas.{IfNone-by, no_selection, no_testing, no_equation, no_negation}
use Rattle.ct_explain.proofs.premises.lone_premise.Goals as goal

pub returns-in-Inject-clause-enough : goal.returns-in-Inject-clause-enough
returns-in-Inject-clause-enough c = rw c.in-Inject.is (c.injection.ensures.enough c.args.table.now c.args.m.now.left c.args.m.now.right)

pub returns-in-Sel-clause-enough : goal.returns-in-Sel-clause-enough
returns-in-Sel-clause-enough c = rw c.in-Sel.is (IfSome_then c.selection.result c.selection.ensures.enough (λ p h. h c.args.m.now.left c.args.m.now.right))

pub returns-in-Test-clause-enough : goal.returns-in-Test-clause-enough
returns-in-Test-clause-enough c = rw c.in-Test.is (IfSome_then c.testing.result c.testing.ensures.enough (λ p h. h c.args.m.now.left c.args.m.now.right))

pub returns-in-Expand-clause-enough : goal.returns-in-Expand-clause-enough
returns-in-Expand-clause-enough c = rw c.in-Expand.is (c.expansion.ensures.enough c.args.table.now c.args.m.now.left c.args.m.now.right)

pub returns-in-Sel-clause-none : goal.returns-in-Sel-clause-none
returns-in-Sel-clause-none c = rw c.in-Sel.is (IfNone-by _ _ c.selection.result c.selection.ensures.none (no_selection c.args.table.now c.args.m.now.left c.args.m.now.right _ _))

pub returns-in-Test-clause-none : goal.returns-in-Test-clause-none
returns-in-Test-clause-none c = rw c.in-Test.is (IfNone-by _ _ c.testing.result c.testing.ensures.none (no_testing c.args.table.now c.args.m.now.left c.args.m.now.right _ _))

pub returns-in-EqualIn-clause-none : goal.returns-in-EqualIn-clause-none
returns-in-EqualIn-clause-none c = rw c.in-EqualIn.is (IfNone-by _ _ c.equation_in.result c.equation_in.ensures.none (no_equation c.args.table.now c.args.m.now.left c.args.m.now.right _))

pub returns-in-Neg-clause-none : goal.returns-in-Neg-clause-none
returns-in-Neg-clause-none c = rw c.in-Neg.is (IfNone-by _ _ c.negation.result c.negation.ensures.none (no_negation c.args.table.now c.args.m.now.left c.args.m.now.right _))

pub returns-in-Inject-clause-known : goal.returns-in-Inject-clause-known
returns-in-Inject-clause-known c = rw c.in-Inject.is (c.injection.ensures.known c.args.table.now c.args.m.now.left c.args.m.now.right)

pub returns-in-Expand-clause-known : goal.returns-in-Expand-clause-known
returns-in-Expand-clause-known c = rw c.in-Expand.is (c.expansion.ensures.known c.args.table.now c.args.m.now.left c.args.m.now.right)

pub returns-in-EqualOut-clause-known : goal.returns-in-EqualOut-clause-known
returns-in-EqualOut-clause-known c = rw c.in-EqualOut.is (c.equation_out.ensures.known c.args.table.now c.args.m.now.left c.args.m.now.right)

pub returns-in-Sel-clause-known : goal.returns-in-Sel-clause-known
returns-in-Sel-clause-known c = rw c.in-Sel.is (IfSome_then c.selection.result c.selection.ensures.known (λ p h. h c.args.m.now.left c.args.m.now.right))

pub returns-in-Test-clause-known : goal.returns-in-Test-clause-known
returns-in-Test-clause-known c = rw c.in-Test.is (IfSome_then c.testing.result c.testing.ensures.known (λ p h. h c.args.m.now.left c.args.m.now.right))

pub returns-in-EqualIn-clause-known : goal.returns-in-EqualIn-clause-known
returns-in-EqualIn-clause-known c = rw c.in-EqualIn.is (IfSome_then c.equation_in.result c.equation_in.ensures.known (λ p h. h c.args.m.now.left c.args.m.now.right))

pub returns-in-Neg-clause-known : goal.returns-in-Neg-clause-known
returns-in-Neg-clause-known c = rw c.in-Neg.is (IfSome_then c.negation.result c.negation.ensures.known (λ p h. h c.args.m.now.left))

pub returns-in-Inject-clause-sides : goal.returns-in-Inject-clause-sides
returns-in-Inject-clause-sides c = rw c.in-Inject.is (c.injection.ensures.sides c.args.table.now c.args.m.now.right)

pub returns-in-Expand-clause-sides : goal.returns-in-Expand-clause-sides
returns-in-Expand-clause-sides c = rw c.in-Expand.is (c.expansion.ensures.sides c.args.table.now c.args.m.now.right)

pub returns-in-EqualOut-clause-sides : goal.returns-in-EqualOut-clause-sides
returns-in-EqualOut-clause-sides c = rw c.in-EqualOut.is (c.equation_out.ensures.sides c.args.table.now c.args.m.now.right)

pub returns-in-Sel-clause-sides : goal.returns-in-Sel-clause-sides
returns-in-Sel-clause-sides c = rw c.in-Sel.is (IfSome_then c.selection.result c.selection.ensures.sides (λ p h. h c.args.m.now.right))

pub returns-in-Test-clause-sides : goal.returns-in-Test-clause-sides
returns-in-Test-clause-sides c = rw c.in-Test.is (IfSome_then c.testing.result c.testing.ensures.sides (λ p h. h c.args.m.now.right))

pub returns-in-EqualIn-clause-sides : goal.returns-in-EqualIn-clause-sides
returns-in-EqualIn-clause-sides c = rw c.in-EqualIn.is (IfSome_then c.equation_in.result c.equation_in.ensures.sides (λ p h. h c.args.m.now.right))

pub returns-in-Neg-clause-sides : goal.returns-in-Neg-clause-sides
returns-in-Neg-clause-sides c = rw c.in-Neg.is c.negation.ensures.sides
