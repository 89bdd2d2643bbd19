use Rattle.ct_build.proofs.facts.laws.Goals as goal

pub returns : goal.returns
returns c =
    let known = c.agreement.ensures in
    record {
      laws = record {
        start = known.start;
        step = known.step;
        equivalence = known.equivalence;
        itself = known.itself;
        turned = known.turned;
        chained = known.chained;
        always = known.always;
        every_depth = known.every_depth;
        grown = known.always_grown;
      };
    }
