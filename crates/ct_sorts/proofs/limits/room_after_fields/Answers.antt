use Rattle.std.proofs.Common.{length, ap, arith}
use Rattle.std.proofs.lemmas.List.Folds.{length-flat_map-take}
use Rattle.ct_generics.specs.declared.decl.CtorDecl.{CtorDecl}
use Rattle.ct_sorts.proofs.limits.room_after_fields.Goals as goal

pub returns-then-count-left : goal.returns-then-count-left
returns-then-count-left c =
    record { left = tt; none = omega (arith, length-flat_map-take (λ (t : CtorDecl). t.fields) c.args.ctors.now c.loop-ctor.ctor-index c.ctor-item.result c.loop-ctor-test.true, ap (λ (t : CtorDecl). length t.fields) c.ctor-item.is) }
