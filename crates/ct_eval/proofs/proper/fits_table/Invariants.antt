use Rattle.ct_eval.specs.Interpretation.{FitsRow}
use Rattle.ct_eval.proofs.ListLemmas.{EachBelow}
use Rattle.ct_eval.proofs.proper.fits_table.Given as goal

-- the rows so far fit
abbrev pub invariant-loop-r : goal.invariant-loop-r
invariant-loop-r l = EachBelow (λ k row. FitsRow l.sig l.graph l.args l.sort row) l.table.rows l.r
