use Rattle.std.proofs.Common.{◌≡◌, ◌⊎◌, false, All, subst}
use Rattle.std.proofs.lemmas.List.{take_all}
use Rattle.std.proofs.lemmas.List.Elements.{All-more}
use Rattle.ct_terms.specs.declared.ids.Lit.{Lit}
use Rattle.ct_terms.specs.Propagation.{IsFalseIn}
use Rattle.ct_sat.proofs.choose.replacement.Goals as goal

abbrev default : Lit
default = record { term = record { 0 = 0 }; positive = false }

pub loop-literal-preserved : goal.loop-literal-preserved
loop-literal-preserved c = All-more (λ k. (k ≡ c.args.except) ⊎ IsFalseIn c.args.trail.now.literals k) c.args.clause.now c.loop-literal.literal-index default c.loop-literal-test.true c.loop-literal.invariant c.if-is_replacement.ensures.value

pub returns : goal.returns
returns c = record { found = subst (All (λ k. (k ≡ c.args.except) ⊎ IsFalseIn c.args.trail.now.literals k)) (take_all c.loop-literal.literal-index c.args.clause.now c.loop-literal-test.false) c.loop-literal.invariant }
