use Rattle.std.proofs.Common.{◌≡◌, ◌+◌, length}
use Rattle.ct_sexpr.specs.View.{expressions_of}
use Rattle.ct_terms.specs.Terms.{AreSorted}
use Rattle.ct_log_text.specs.Reading.{ReadsTerms, ReadOutcome}
use Rattle.ct_log_text.proofs.read.add_terms.Given as goal

abbrev pub invariant-loop-rest : goal.invariant-loop-rest
invariant-loop-rest l = record {
  reads : (outcome : ReadOutcome) → ReadsTerms l.sig l.place l.table (expressions_of l.rest) outcome → ReadsTerms l.sig 3 l.fn.table (expressions_of l.items) outcome;
  sorted : AreSorted l.sig l.table;
  place : l.place + length l.rest ≡ 3 + length l.items;
}

abbrev pub decreases-loop-rest : goal.decreases-loop-rest
decreases-loop-rest l = length l.rest
