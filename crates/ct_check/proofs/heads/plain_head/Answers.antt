use Rattle.ct_check.proofs.HeadCases.{plain_later, not_both}
use Rattle.ct_check.proofs.heads.plain_head.Goals as goal

pub returns-clause-value : goal.returns-clause-value
returns-clause-value c = λ needs scope es n later grows.
    let wanted = c.argument_count-wanted.result in
    plain_later later c.args.sig.now grows c.sorts.ensures.consistent scope c.args.symbol es wanted c.args.args c.requires.inside c.argument_count-wanted.ensures.count (not_both wanted c.args.args c.else-wanted-eq0.either) c.if-wanted-args.false n
