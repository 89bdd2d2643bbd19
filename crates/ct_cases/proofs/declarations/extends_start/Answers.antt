use Rattle.ct_cases.proofs.declarations.extends_start.Goals as goal

pub returns : goal.returns
returns c = record { grown = c.growth.ensures.from_start c.args.sig.now c.sorts-sorts.ensures.consistent }
