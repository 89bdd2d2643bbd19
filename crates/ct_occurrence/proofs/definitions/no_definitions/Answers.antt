use Rattle.ct_occurrence.proofs.WorkingLemmas.{right_start}
use Rattle.ct_occurrence.proofs.definitions.no_definitions.Goals as goal

pub returns : goal.returns
returns c = record { right = right_start c.new.result c.new.ensures.empty }
