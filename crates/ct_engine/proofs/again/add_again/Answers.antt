use Rattle.ct_engine.proofs.TaskLemmas.{IsOfOneTask-itself, IsOfOneTask-then}
use Rattle.ct_engine.proofs.again.add_again.Goals as goal
