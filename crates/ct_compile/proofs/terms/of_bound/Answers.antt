use Rattle.std.proofs.Common.{Contains, subst, sym}
use Rattle.ct_scope.specs.declared.bound.Bound.{Bound}
use Rattle.ct_scope.specs.declared.bound.Bound.TheVariants.{Field}
use Rattle.ct_scope.specs.Compilable.{IsBound}
use Rattle.ct_compile.proofs.terms.of_bound.Goals as goal

pub returns-in-Field-clause-effect : goal.returns-in-Field-clause-effect
returns-in-Field-clause-effect c = λ tree allowed bound inside.
    let k : IsBound c.args.table.now (Field c.in-Field.s c.in-Field.t) tree = subst (λ (b : Bound). IsBound c.args.table.now b tree) c.in-Field.is bound in
    c.make.ensures.effect allowed (subst (Contains allowed) (sym k.1) inside)
