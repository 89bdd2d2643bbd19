use Rattle.std.proofs.lemmas.Result.{err_from_is_err_and}
use Rattle.ct_generics.specs.Block.{head_in}
use Rattle.ct_generics.specs.Stored.{IsStored}
use Rattle.ct_generics.specs.declared.error.GenericError.TheVariants.{Refused}
use Rattle.ct_generics.proofs.OutcomeLemmas.{err_cast}
use Rattle.ct_generics.proofs.ResolveLemmas.{each-more, each-refused}
use Rattle.ct_generics.proofs.block.resolve_block.Goals as goal

pub returns-in_err-head-clause-refused : goal.returns-in_err-head-clause-refused
returns-in_err-head-clause-refused c =
    let p = err_from_is_err_and c.from_residual-in_err-head.result c.from_residual-in_err-head.ensures.1 in
    rw (p.1, p.2) (λ n d e is.
    let known = c.loop-decl.invariant d is in
    each-refused (head_in d c.args.kind) c.args.block.now c.loop-decl.decl-index c.decl-item.result n c.loop-decl-test.true c.decl-item.is known.0 known.1 (c.in_err-head.ensures.refused n d (err_cast _ (Refused n) e) is))

pub loop-decl-preserved : goal.loop-decl-preserved
loop-decl-preserved c d is =
    rw c.in_ok-push.ensures.items (each-more IsStored (head_in d c.args.kind) c.args.block.now c.loop-decl.decl-index c.decl-item.result c.loop-decl.own.items c.in_ok-head.head c.loop-decl-test.true c.decl-item.is (c.loop-decl.invariant d is) (c.in_ok-head.ensures.ok d is))
