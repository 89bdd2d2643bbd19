use Rattle.std.proofs.Common.{◌≡◌, ◌<◌, ◌≤◌, length, All, arith}
use Rattle.ct_formulas.specs.Choices.{choices_of}
use Rattle.ct_compile.proofs.quantification.choices_over.Goals as goal

pub choice_count-requires : goal.choice_count-requires
choice_count-requires c =
    let d = c.args.level.now.scope.now.sig in
    record { listable = (d, c.requires.over.counts, c.requires.over.sorts.listable) }

pub unreachable-requires : goal.unreachable-requires
unreachable-requires c =
    let many = c.in-None.ensures.exact c.args.level.now.scope.now.sig c.requires.over.counts c.requires.over.sorts.listable in
    omega (arith, many, c.requires.over.sorts.few)

pub returns : goal.returns
returns c = record { count = (c.in-Some.ensures.exact c.args.level.now.scope.now.sig c.requires.over.counts c.requires.over.sorts.listable).0 }
