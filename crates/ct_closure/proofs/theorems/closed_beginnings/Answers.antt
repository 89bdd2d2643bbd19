use Rattle.ct_closure.proofs.FurtherLemmas.{longer_begins, closed_begins, cut_is_closed}
use Rattle.ct_closure.proofs.theorems.closed_beginnings.Goals as goal

pub returns : goal.returns
returns c = record {
  begins = λ d e roots table new split consistent extends grown is. closed_begins d e roots table new split consistent extends grown is;
  longer = λ d e roots old new count split grown before. longer_begins d e roots old new count split grown before;
  cut = λ d e roots old new count split after before grown grown_split. cut_is_closed d e roots old new count split after before grown grown_split;
}
