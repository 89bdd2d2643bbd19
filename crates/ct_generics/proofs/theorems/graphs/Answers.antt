use Rattle.ct_generics.proofs.GraphLemmas.{closed_graph, plain_ends, founded_tells, mixed_tells}
use Rattle.ct_generics.proofs.theorems.graphs.Goals as goal

pub returns : goal.returns
returns c =
    record {
      tells = λ heads nodes ids graph starts roots single unlike long whole.
          record {
            closed = closed_graph heads nodes ids graph starts roots single unlike whole long;
            ends = plain_ends heads nodes ids graph starts roots single unlike whole long;
            founded = founded_tells heads nodes ids graph starts roots single unlike whole long;
            mixed = mixed_tells heads nodes ids graph starts roots single unlike whole long;
          };
    }
