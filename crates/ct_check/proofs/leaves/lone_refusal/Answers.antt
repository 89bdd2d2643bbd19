use Rattle.std.proofs.Common.{Some, ap, subst}
use Rattle.ct_sorts.specs.Lookup.{IsSymbol}
use Rattle.ct_instances.proofs.OccurLemmas.{gen_determined_is}
use Rattle.ct_names.specs.Elaboration.{lone_generic}
use Rattle.ct_check.proofs.leaves.lone_refusal.Goals as goal

pub returns-then-not-gen_determined : goal.returns-then-not-gen_determined
returns-then-not-gen_determined c =
    let d = c.args.sig.now in
    record { value = rw c.in-GenCtor.is (ap (λ b. Some (lone_generic b)) (gen_determined_is d c.sorts.ensures.consistent c.in-GenCtor.g c.in-GenCtor.index (subst (IsSymbol d) c.in-GenCtor.is c.requires.inside) _ c.if-not-gen_determined.ensures.value)) }

pub returns-else-not-gen_determined : goal.returns-else-not-gen_determined
returns-else-not-gen_determined c =
    let d = c.args.sig.now in
    record { value = rw c.in-GenCtor.is (ap (λ b. Some (lone_generic b)) (gen_determined_is d c.sorts.ensures.consistent c.in-GenCtor.g c.in-GenCtor.index (subst (IsSymbol d) c.in-GenCtor.is c.requires.inside) _ c.if-not-gen_determined.ensures.value)) }
