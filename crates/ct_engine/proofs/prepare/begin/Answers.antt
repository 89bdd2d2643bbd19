use Rattle.std.proofs.Common.{sym, ap, subst}
use Rattle.ct_terms.specs.Terms.{Terms}
use Rattle.ct_log.specs.Recorded.{Derived}
use Rattle.ct_clauses.specs.Initial.{AreSplitTerms}
use Rattle.ct_engine.proofs.prepare.begin.Goals as goal

pub clauses-requires-clause-split : goal.clauses-requires-clause-split
clauses-requires-clause-split c =
    subst (λ (ts : Terms). AreSplitTerms c.args.sig.now ts c.args.closure.now.split)
    (sym (ap (λ (x : Derived). x.rec.terms) c.new-derivation.ensures.begun)) c.requires.split
