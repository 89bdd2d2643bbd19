use Rattle.std.proofs.Common.{Contains, ap, subst, sym}
use Rattle.ct_terms.specs.CoreTree.{CoreTree, test}
use Rattle.ct_scope.specs.declared.bound.Bound.{Bound}
use Rattle.ct_scope.specs.declared.bound.Bound.TheVariants.{Term}
use Rattle.ct_scope.specs.Compilable.{IsBound}
use Rattle.ct_scope.proofs.matching.make_test.Goals as goal

pub returns-clause-effect : goal.returns-clause-effect
returns-clause-effect c = λ tree allowed bound inside.
    let k : IsBound c.args.table.now (Term c.in-Term.t) tree = subst (λ (b : Bound). IsBound c.args.table.now b tree) c.in-Term.is bound in
    c.make.ensures.effect allowed (subst (Contains allowed) (ap (λ (x : CoreTree). test c.args.c x) (sym k.1)) inside)
