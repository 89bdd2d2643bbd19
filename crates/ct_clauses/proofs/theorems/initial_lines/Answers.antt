use Rattle.ct_clauses.proofs.ClauseLemmas.{initial_all}
use Rattle.ct_clauses.proofs.theorems.initial_lines.Goals as goal

pub returns : goal.returns
returns c = record {
  all = λ d terms asserts split lines single exact rising accepted steps. initial_all d terms asserts split lines single exact rising accepted steps;
}
