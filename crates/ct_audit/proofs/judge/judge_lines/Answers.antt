use Rattle.std.proofs.Common.{map}
use Rattle.ct_formulas.specs.TreeFormula.{formula_of}
use Rattle.ct_stack.specs.Held.{context_in}
use Rattle.ct_audit.proofs.JudgeLemmas.{no_model}
use Rattle.ct_audit.proofs.judge.judge_lines.Goals as goal

pub returns-in-None : goal.returns-in-None
returns-in-None c =
    let passed = rw c.in-None.is at c.in_ok-wrong.ensures.checked in
    record {
      judged =
          record {
            passes = passed.0;
            no_model = no_model c.meanings.ensures.assertions (context_in c.args.scope.now) (map formula_of c.args.asserts.now) c.args.rec.now.terms c.args.numbers.now c.sorts.ensures.consistent c.requires.sound c.requires.asserted passed.1;
          };
    }
