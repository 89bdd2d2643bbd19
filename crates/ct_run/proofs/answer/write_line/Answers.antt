use Rattle.std.proofs.Common.{rules, arith, ◌≡◌, [], ◌∷◌, ◌++◌}
use Rattle.std.proofs.lemmas.Grind.{common_steps}
use Rattle.ct_run.proofs.FaultLemmas.{if_err}
use Rattle.ct_run.proofs.WritingLemmas.{line_left}
use Rattle.ct_run.proofs.answer.write_line.Goals as goal

pub returns-clause-broke : goal.returns-clause-broke
returns-clause-broke g c =
    let some : c.args.text.items ≡ [] → ⊥ = λ is. first_of (search rules, grind (arith, common_steps)) in
    let line : c.as_slice.result.now ≡ c.args.text.items ++ 10 ∷ [] = first_of (search rules, grind (arith, common_steps)) in
    if_err _ c.write_all.result c.write_all.ensures.refused (λ e part. line_left e c.args.text.items _ _ _ some line part)
