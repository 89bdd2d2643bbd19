use Rattle.std.proofs.Common.{◌≡◌, List, [], map, sym, ◌∙◌, ap₂, subst}
use Rattle.ct_sorts.specs.Consistent.{IsConsistent}
use Rattle.ct_sorts.specs.Declarations.{start}
use Rattle.ct_sorts.specs.Stored.{function_of}
use Rattle.ct_sorts.specs.Tabled.{of_tables}
use Rattle.ct_sorts.proofs.StartLemmas.{IsConsistent-start}
use Rattle.ct_sorts.proofs.signature.Signature.new.Goals as goal

pub invariant_of-result : goal.invariant_of-result
invariant_of-result c =
    let is_start : of_tables c.in_ok-tables.tables (map function_of c.new.result) (map function_of c.new-2.result) ≡ start =
    ap₂ (λ fs ds. of_tables c.in_ok-tables.tables (map function_of fs) (map function_of ds)) c.new.ensures.empty c.new-2.ensures.empty ∙ c.in_ok-tables.ensures.start in
    record { consistent = subst IsConsistent (sym is_start) IsConsistent-start; tabled = c.in_ok-tables.ensures.tabled }

pub returns-clause-ok : goal.returns-clause-ok
returns-clause-ok c =
    ap₂ (λ fs ds. of_tables c.in_ok-tables.tables (map function_of fs) (map function_of ds)) c.new.ensures.empty c.new-2.ensures.empty ∙ c.in_ok-tables.ensures.start
