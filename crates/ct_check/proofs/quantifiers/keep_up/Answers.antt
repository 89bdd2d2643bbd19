use Rattle.std.proofs.Common.{arith}
use Rattle.std.proofs.lemmas.Result.{err_from_is_err_and}
use Rattle.ct_check.proofs.KnownLemmas.{known_still}
use Rattle.ct_check.proofs.quantifiers.keep_up.Goals as goal

pub returns-then-sorts-before-clause-known : goal.returns-then-sorts-before-clause-known
returns-then-sorts-before-clause-known c =
    let k = c.requires.known in
    known_still c.args.sig.now k.0 c.args.known.now k.3 (omega (arith, k.4, c.if-sorts-before.true, c.sorts.ensures.count)) k.1

pub returns-in_err-known-clause-known : goal.returns-in_err-known-clause-known
returns-in_err-known-clause-known c =
    let p = err_from_is_err_and c.from_residual.result c.from_residual.ensures.1 in
    rw p.1 tt

pub returns-in_err-known-clause-err : goal.returns-in_err-known-clause-err
returns-in_err-known-clause-err c =
    let p = err_from_is_err_and c.from_residual.result c.from_residual.ensures.1 in
    rw (p.1, p.2) c.in_err-known.ensures.err

pub returns-clause-known : goal.returns-clause-known
returns-clause-known c = c.in_ok-known.ensures.known
